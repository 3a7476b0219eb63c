-- What the symbol at a place is, by its kind byte.
use Prim.Native.Nat.{ℕ, ◌+◌, ◌-◌}
use mathlib.Core.Path.{◌≡◌, refl}
use mathlib.Core.List.{List}
use mathlib.Core.Bool.{Bool, true, false, cond}
use native.Mathlib.Omega.{arith}
use lib.Dec.{eqb}
use borrow.Author.Tests.{eq-eqb, ne_eqb, eqb-true, eqb-false}
use Rattle.meaning.specs.Grammar.{word, part}
use Rattle.meaning.specs.Table.{byte, number}
use Rattle.meaning.specs.Decode.{symbol_at}

module _ (t : List ℕ) (at : ℕ) where
  pub symbol-word : byte t at ≡ 0 → word (number t (at + 1)) ≡ symbol_at t at
  unfolding symbol_at
  symbol-word e = rw (eq-eqb (byte t at) 0 e)

  pub symbol-part : (byte t at ≡ 0 → ⊥) → part (byte t at - 1) (number t (at + 1) - 1) ≡ symbol_at t at
  unfolding symbol_at
  symbol-part e = rw (ne_eqb (byte t at) 0 e)

  -- and what its kind byte is, by the symbol
  pub word-of : {w : ℕ} → word w ≡ symbol_at t at → (byte t at ≡ 0) × (w ≡ number t (at + 1))
  unfolding symbol_at
  word-of {w} = go (eqb (byte t at) 0) refl
    where
      go : (b : Bool) → eqb (byte t at) 0 ≡ b → word w ≡ cond b (word (number t (at + 1))) (part (byte t at - 1) (number t (at + 1) - 1))
          → (byte t at ≡ 0) × (w ≡ number t (at + 1))
      go true e f = (eqb-true (byte t at) 0 e, cc)
      go false e f = let z : ◌≡◌ {A = ℕ} 0 1 = cc in absurd (omega arith)

  pub part-of : {k c : ℕ} → part k c ≡ symbol_at t at → (byte t at ≡ 0 → ⊥) × (k ≡ byte t at - 1) × (c ≡ number t (at + 1) - 1)
  unfolding symbol_at
  part-of {k} {c} = go (eqb (byte t at) 0) refl
    where
      go : (b : Bool) → eqb (byte t at) 0 ≡ b → part k c ≡ cond b (word (number t (at + 1))) (part (byte t at - 1) (number t (at + 1) - 1))
          → (byte t at ≡ 0 → ⊥) × (k ≡ byte t at - 1) × (c ≡ number t (at + 1) - 1)
      go true e f = let z : ◌≡◌ {A = ℕ} 0 1 = cc in absurd (omega arith)
      go false e f = (eqb-false (byte t at) 0 e, cc, cc)
