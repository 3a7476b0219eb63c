-- No table that is not refused exceeds 39,497 bytes; and places never fall.
use Prim.Native.Nat.{ℕ, zero, suc, ◌+◌, ◌*◌, ◌-◌, ◌≤◌, ◌<◌}
use mathlib.Core.Path.{◌≡◌, ap, ◌∙◌, subst}
use mathlib.Core.List.{List}
use native.Mathlib.Omega.{arith}
use lib.ListN.{length}
use Rattle.meaning.specs.Table.{got, byte, number, rank_of, category_of, dimension_of, check_table}
use Rattle.meaning.specs.Decode.{past, row_end, rows_of, rule_end, first_rule}
use Rattle.meaning.specs.Accepted.{Dims, FineRow}
use Rattle.meaning.specs.Accepted.{FineRule, FineTable}
use Rattle.meaning.proofs.Ends.{fine-table}

-- where a part never ends before it starts, neither do several
pub past-grows : (n : ℕ) (next : ℕ → ℕ) → ((p : ℕ) → p ≤ next p) → (at : ℕ) → at ≤ past n next at
unfolding past
past-grows zero next one at = omega arith
past-grows (suc n) next one at = let h = past-grows n next one (next at) in omega (arith, one at)

-- n parts of at most k bytes, which number at most m, take at most m of them
past-most : (n m k : ℕ) (next : ℕ → ℕ) (at b : ℕ) → n ≤ m → ((i : ℕ) → i < n → next (past i next at) ≤ past i next at + k) → at + m * k ≤ b → past n next at ≤ b
unfolding past
past-most zero m k next at b h one l = omega arith
past-most (suc n) zero k next at b h one l = absurd (omega arith)
past-most (suc n) (suc m) k next at b h one l =
    past-most n m k next (next at) b (omega arith) (λ i j. one (suc i) (omega arith)) (let f = one 0 (omega arith) in omega arith)

-- the parts' sizes: a row is at most 49 bytes, a rule at most 154
row-most : (t : List ℕ) (rule at : ℕ) → FineRow t rule at → row_end t at ≤ at + 49
unfolding row_end
row-most t rule at f = past-most (byte t at) 16 3 (λ p. p + 3) (at + 1) (at + 49) f.short (λ i h. omega arith) (omega arith)

pub rule-most : (t : List ℕ) (at : ℕ) → dimension_of t (category_of t at) ≤ 3 → FineRule t at → rule_end t at ≤ at + 154
unfolding rule_end
rule-most t at d f =
    let p : rows_of t at ≤ at + 7 = past-most (rank_of t at) 3 1 (λ p. p + 1) (at + 4) (at + 7) f.rank (λ i h. omega arith) (omega arith) in
    past-most (dimension_of t (category_of t at)) 3 49 (row_end t) (rows_of t at) (at + 154) d
    (λ i h. row-most t at (past i (row_end t) (rows_of t at)) (f.rows i h)) (omega arith)

pub past_one : (n at : ℕ) → past n (λ p. p + 1) at ≡ at + n
unfolding past
past_one zero at = omega arith
past_one (suc n) at = past_one n (at + 1) ∙ omega arith

pub dim-most : (t : List ℕ) → FineTable t → Dims t
dim-most t v c low high =
    let h = (v.dims (c - 1) (omega arith)).1 in
    let e : past (c - 1) (λ p. p + 1) 9 ≡ 8 + c = past_one (c - 1) 9 ∙ omega arith in
    subst (λ (p : ℕ). byte t p ≤ 3) e h

pub table-most : (t : List ℕ) → check_table t ≡ got tt → length t ≤ 39497
table-most t e =
    let v = fine-table t e in
    let d = dim-most t v in
    let p : first_rule t ≤ 73 = past-most (byte t 5) 64 1 (λ p. p + 1) 9 73 v.categories.1 (λ i h. omega arith) (omega arith) in
    let m = past-most (number t 7) 256 154 (rule_end t) (first_rule t) 39497 v.count
    (λ i h. let f = v.rules i h in rule-most t (past i (rule_end t) (first_rule t)) (d (category_of t (past i (rule_end t) (first_rule t))) f.low f.high) f) (omega arith) in
    omega (arith, v.end)

-- For the loops that walk the table: a turn, and that the places on the way stay below the end.
pub past-turn : (n : ℕ) (next : ℕ → ℕ) (at : ℕ) → 0 < n → past n next at ≡ past (n - 1) next (next at)
unfolding past
past-turn n next at h = let e : n ≡ suc (n - 1) = omega arith in ap (λ (m : ℕ). past m next at) e

pub past-none : (n : ℕ) (next : ℕ → ℕ) (at : ℕ) → n ≡ 0 → past n next at ≡ at
unfolding past
past-none n next at e = rw e

pub past_next : (n : ℕ) (next : ℕ → ℕ) → ((p : ℕ) → p ≤ next p) → (at b : ℕ) → 0 < n → past n next at ≤ b → next at ≤ b
past_next n next one at b h l =
    let g = past-grows (n - 1) next one (next at) in
    let l' : past (n - 1) next (next at) ≤ b = rw (past-turn n next at h) at l in
    omega arith

pub past_three : (n at : ℕ) → past n (λ p. p + 3) at ≡ at + 3 * n
unfolding past
past_three zero at = omega arith
past_three (suc n) at = past_three n (at + 3) ∙ omega arith

pub row_is : (t : List ℕ) (at : ℕ) → row_end t at ≡ at + 1 + 3 * byte t at
unfolding row_end
row_is t at = past_three (byte t at) (at + 1)

pub rows_are : (t : List ℕ) (at : ℕ) → rows_of t at ≡ at + 4 + rank_of t at
rows_are t at = past_one (rank_of t at) (at + 4)

pub first-is : (t : List ℕ) → first_rule t ≡ 9 + byte t 5
first-is t = past_one (byte t 5) 9

pub row-grows : (t : List ℕ) (at : ℕ) → at ≤ row_end t at
row-grows t at = omega (arith, row_is t at)

pub rule-grows : (t : List ℕ) (at : ℕ) → at + 4 ≤ rule_end t at
unfolding rule_end
rule-grows t at =
    let g = past-grows (dimension_of t (category_of t at)) (row_end t) (row-grows t) (rows_of t at) in
    omega (arith, rows_are t at)

pub rule-grows' : (t : List ℕ) (at : ℕ) → at ≤ rule_end t at
rule-grows' t at = omega (arith, rule-grows t at)
