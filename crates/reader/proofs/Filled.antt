-- A slice filled with 0: where its numbers come to 0 each of them is 0, whether it was written whole or in a part.
use mathlib.Core.Path.{◌≡◌, refl, ap, ap₂, ◌∙◌}
use mathlib.Core.List.{List, [], ◌∷◌, ◌++◌}
use Prim.Native.Nat.{ℕ, zero, suc, ◌+◌, ◌-◌, ◌≤◌, min}
use native.Mathlib.Omega.{arith}
use lib.ListN.{length, take, drop, replicate, length-append, length-take, length-drop}
use Rattle.meaning.specs.Reading.{cleared}

-- what the numbers of a slice come to
pub total : List ℕ → ℕ
total [] = 0
total (x ∷ l) = x + total l

pub total-append : (a b : List ℕ) → total (a ++ b) ≡ total a + total b
unfolding total
total-append [] b = omega arith
total-append (x ∷ a) b = omega (arith, total-append a b)

-- none of them, from the start
pub total-take : (k : ℕ) (l : List ℕ) → k ≡ 0 → total (take k l) ≡ 0
unfolding total
total-take zero l e = refl
total-take (suc k) l e = absurd (omega arith)

-- none of them, past the end
pub total-drop : (k : ℕ) (l : List ℕ) → length l ≤ k → total (drop k l) ≡ 0
unfolding total
total-drop zero [] h = refl
total-drop zero (x ∷ l) h = absurd (omega arith)
total-drop (suc k) [] h = refl
total-drop (suc k) (x ∷ l) h = total-drop k l (omega arith)

zeros-total : (n : ℕ) → total (replicate n 0) ≡ 0
unfolding total
zeros-total zero = refl
zeros-total (suc n) = omega (arith, zeros-total n)

-- what was filled with 0
pub filled : {l : List ℕ} (n : ℕ) → l ≡ replicate n 0 → total l ≡ 0
filled n e = ap total e ∙ zeros-total n

all-zeros : (l : List ℕ) → total l ≡ 0 → l ≡ replicate (length l) 0
unfolding total
all-zeros [] h = refl
all-zeros (x ∷ l) h =
    let first : x ≡ 0 = omega arith in
    ap₂ (λ (n : ℕ) (r : List ℕ). n ∷ r) first (all-zeros l (omega arith))

pub all-zero : {l : List ℕ} (before : List ℕ) → length l ≡ length before → total l ≡ 0 → l ≡ cleared before
all-zero {l} before n h = all-zeros l h ∙ ap (λ (k : ℕ). replicate k 0) n

pub append-length : (a b : List ℕ) → length (a ++ b) ≡ length a + length b
append-length = length-append

pub take-length : (k : ℕ) (l : List ℕ) → length (take k l) ≡ min k (length l)
take-length = length-take

pub drop-length : (k : ℕ) (l : List ℕ) → length (drop k l) ≡ length l - k
drop-length = length-drop

-- how long a slice is of which a part was written, and what its numbers come to
pub ruleset parts = (append-length, take-length, drop-length, total-append, total-take, total-drop)
