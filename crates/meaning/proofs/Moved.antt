-- A rule's bytes say the same wherever they stand: where u has from q on the bytes that t has from p up to e, the category, daughters and rows
-- of a rule that ends before e are decoded from both alike (`body_same`).
use Prim.Native.Nat.{ℕ, zero, suc, ◌+◌, ◌*◌, ◌-◌, ◌≤◌, ◌<◌}
use mathlib.Core.Path.{◌≡◌, refl, ap₂}
use mathlib.Core.Bool.{cond}
use mathlib.Core.List.{List, ◌∷◌}
use native.Mathlib.Omega.{arith}
use lib.Dec.{eqb}
use Rattle.meaning.specs.Table.{byte, number, rank_of, category_of, dimension_of}
use Rattle.meaning.specs.Grammar.{word, part}
use Rattle.meaning.specs.Decode.{past, several, symbol_at, row_at, row_end, rows_of, rule_at, rule_end}
use Rattle.meaning.proofs.Places.{past-grows, row_is, rows_are, row-grows}

-- u has from q on what t has from p up to e
pub record Copied (t u : List ℕ) (p q e : ℕ) : Type 0 where
  pub bytes : (i : ℕ) → p + i < e → byte t (p + i) ≡ byte u (q + i)

-- the place at of t and the place at' of u correspond
pub record At (p q at at' : ℕ) : Type 0 where
  pub from : p ≤ at
  pub level : at + q ≡ at' + p

pub at_more : {p q at at' : ℕ} (k : ℕ) → At p q at at' → At p q (at + k) (at' + k)
at_more k a = record { from = omega arith; level = omega arith }

-- parts one after another, at two places, while I holds of how many are left and of both places
module _ {A : Type 0} (f g : ℕ → A) (next next' : ℕ → ℕ) (I : ℕ → ℕ → ℕ → Type 0) (one : (n a b : ℕ) → I (suc n) a b → (f a ≡ g b) × I n (next a) (next' b)) where
  pub several-same : (n a b : ℕ) → I n a b → several n f next a ≡ several n g next' b
  unfolding several
  several-same zero a b i = refl
  several-same (suc n) a b i = let (e, j) = one n a b i in ap₂ ◌∷◌ e (several-same n (next a) (next' b) j)

  past_same : (n a b : ℕ) → I n a b → I 0 (past n next a) (past n next' b)
  unfolding past
  past_same zero a b i = i
  past_same (suc n) a b i = past_same n (next a) (next' b) (one n a b i).1

module _ {t u : List ℕ} {p q e : ℕ} (w : Copied t u p q e) where
  pub byte-same : {at at' : ℕ} → At p q at at' → at < e → byte t at ≡ byte u at'
  byte-same {at} {at'} a h =
      let x : p + (at - p) ≡ at = omega arith in
      let y : q + (at - p) ≡ at' = omega arith in
      rw (x, y) at (w.bytes (at - p) (omega arith))

  pub number_same : {at at' : ℕ} → At p q at at' → at + 1 < e → number t at ≡ number u at'
  unfolding number
  number_same a h = ap₂ (λ x y. x + 256 * y) (byte-same a (omega arith)) (byte-same (at_more 1 a) h)

  symbol-same : {at at' : ℕ} → At p q at at' → at + 3 ≤ e → symbol_at t at ≡ symbol_at u at'
  unfolding symbol_at
  symbol-same {at} {at'} a h = ap₂ (λ k n. cond (eqb k 0) (word n) (part (k - 1) (n - 1))) (byte-same a (omega arith)) (number_same (at_more 1 a) (omega arith))

  row_same : {at at' : ℕ} → At p q at at' → row_end t at ≤ e → (row_at t at ≡ row_at u at') × At p q (row_end t at) (row_end u at')
  unfolding row_at
  row_same {at} {at'} a h =
      let n : byte t at ≡ byte u at' = byte-same a (omega (arith, row_is t at)) in (
        rw (← n) (several-same (symbol_at t) (symbol_at u) (λ x. x + 3) (λ x. x + 3) (λ n a b. At p q a b × (a + 3 * n ≤ e))
            (λ n x y (b, l). (symbol-same b (omega arith), (at_more 3 b, omega arith))) (byte t at) (at + 1) (at' + 1) (at_more 1 a, omega (arith, row_is t at))),
        record { from = omega (arith, row_is t at, a.from); level = omega (arith, row_is t at, row_is u at', a.level) },
      )

  abbrev RowsLeft : ℕ → ℕ → ℕ → Type 0
  RowsLeft n a b = At p q a b × (past n (row_end t) a ≤ e)

  rows_left : (n a b : ℕ) → RowsLeft (suc n) a b → (row_at t a ≡ row_at u b) × RowsLeft n (row_end t a) (row_end u b)
  unfolding past
  rows_left n a b (l, h) = let (x, y) = row_same l (omega (arith, past-grows n (row_end t) (row-grows t) (row_end t a))) in (x, (y, h))

  abbrev BytesLeft : ℕ → ℕ → ℕ → Type 0
  BytesLeft n a b = At p q a b × (a + n ≤ e)

  bytes_left : (n a b : ℕ) → BytesLeft (suc n) a b → (byte t a ≡ byte u b) × BytesLeft n (a + 1) (b + 1)
  bytes_left n a b (l, h) = (byte-same l (omega arith), (at_more 1 l, omega arith))

  -- what a rule says after its function number
  pub record Body (at at' : ℕ) : Type 0 where
    pub category : category_of t at ≡ category_of u at'
    pub rank : rank_of t at ≡ rank_of u at'
    pub daughters : (rule_at t at).daughters ≡ (rule_at u at').daughters
    pub rows : (rule_at t at).rows ≡ (rule_at u at').rows
    pub end : At p q (rule_end t at) (rule_end u at')

  pub body_same : {at at' : ℕ} → At p q (at + 2) (at' + 2) → (category_of t at ≡ category_of u at' → dimension_of t (category_of t at) ≡ dimension_of u (category_of u at')) → rule_end t at ≤ e → Body at at'
  unfolding rule_at rule_end
  body_same {at} {at'} a dims h =
      let m = past-grows (dimension_of t (category_of t at)) (row_end t) (row-grows t) (rows_of t at) in
      let a₃ : At p q (at + 3) (at' + 3) = record { from = omega (arith, a.from); level = omega (arith, a.level) } in
      let a₄ : At p q (at + 4) (at' + 4) = record { from = omega (arith, a.from); level = omega (arith, a.level) } in
      let d : BytesLeft (rank_of t at) (at + 4) (at' + 4) = (a₄, omega (arith, rows_are t at)) in
      let r : RowsLeft (dimension_of t (category_of t at)) (past (rank_of t at) (λ x. x + 1) (at + 4)) (past (rank_of t at) (λ x. x + 1) (at' + 4)) =
      ((past_same (byte t) (byte u) (λ x. x + 1) (λ x. x + 1) BytesLeft bytes_left (rank_of t at) (at + 4) (at' + 4) d).0, h) in
      let kinds : category_of t at ≡ category_of u at' = byte-same a (omega (arith, rows_are t at)) in
      let ranks : rank_of t at ≡ rank_of u at' = byte-same a₃ (omega (arith, rows_are t at)) in
      record {
        category = kinds;
        rank = ranks;
        daughters = rw (← ranks) (several-same (byte t) (byte u) (λ x. x + 1) (λ x. x + 1) BytesLeft bytes_left (rank_of t at) (at + 4) (at' + 4) d);
        rows = rw (← ranks, ← dims kinds) (several-same (row_at t) (row_at u) (row_end t) (row_end u) RowsLeft rows_left (dimension_of t (category_of t at)) _ _ r);
        end = rw (← ranks, ← dims kinds) (past_same (row_at t) (row_at u) (row_end t) (row_end u) RowsLeft rows_left (dimension_of t (category_of t at)) _ _ r).0;
      }
