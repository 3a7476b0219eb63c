-- The entries of a lent chart, by their places.
use mathlib.Core.Path.{◌≡◌, ap, ◌∙◌}
use mathlib.Core.Option.{some}
use mathlib.Core.List.{List, Memᴰ as Mem}
use Prim.Native.Nat.{ℕ, zero, suc, ◌+◌, ◌<◌}
use native.Mathlib.Omega.{arith}
use lib.ListN.{length, get_elem?}
use Rattle.meaning.specs.Range.{Item}
use Rattle.meaning.specs.Grammar.{Grammar}
use Rattle.meaning.specs.Chart.{Entry}
use Rattle.meaning.specs.Decode.{several}
use Rattle.meaning.specs.TreeWriting.{entry_at, lent}
use Rattle.meaning.proofs.Decoded.{several-length, several-mem}
use Rattle.meaning.proofs.Passing.{past-suc}

several-there : {A : Type 0} (f : ℕ → A) (n at i : ℕ) → i < n → get_elem? (several n f suc at) i ≡ some (f (at + i))
unfolding several
several-there f zero at i h = absurd (omega arith)
several-there f (suc n) at zero h = let q : at ≡ at + 0 = omega arith in ap (λ (p : ℕ). some (f p)) q
several-there f (suc n) at (suc i) h = let q : suc at + i ≡ at + suc i = omega arith in several-there f n (suc at) i (omega arith) ∙ ap (λ (p : ℕ). some (f p)) q

module _ (G : Grammar) (c : List ℕ) (count : ℕ) where
  pub lent_length : length (lent G c count) ≡ count
  unfolding lent
  lent_length = several-length (entry_at G c) suc count 0

  pub entry-at : (p : ℕ) → p < count → get_elem? (lent G c count) p ≡ some (entry_at G c p)
  unfolding lent
  entry-at p h = several-there (entry_at G c) count 0 p h ∙ ap (λ (q : ℕ). some (entry_at G c q)) (omega arith)

  pub entry_of : {e : Entry Item} → Mem e (lent G c count) → (i : ℕ) × (i < count) × (e ≡ entry_at G c i)
  unfolding lent
  entry_of m = let (i, h, q) = several-mem (entry_at G c) suc count 0 m in (i, h, q ∙ ap (entry_at G c) (past-suc i 0 ∙ omega arith))
