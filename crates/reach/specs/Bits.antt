-- A number as a set of numbers: those at whose places its binary digits are 1.
use Rattle.std.specs.Prelude.{◌≡◌, ◌⊎◌, Bool, true, List, get_or, ℕ, zero, suc, ◌/◌, ◌%◌}

-- binary digit i of n, from the lowest, 0
unfoldable pub digit : ℕ → ℕ → ℕ
digit n zero = n % 2
digit n (suc i) = digit (n / 2) i

-- i is in the set n
pub record Bit (n i : ℕ) : Type 0 where
  pub set : digit n i ≡ 1

-- r is the set of just i
pub record Single (i r : ℕ) : Type 0 where
  pub it : Bit r i
  pub only : (j : ℕ) → Bit r j → j ≡ i

-- r is both sets
pub record Both (a b r : ℕ) : Type 0 where
  pub left : (i : ℕ) → Bit a i → Bit r i
  pub right : (i : ℕ) → Bit b i → Bit r i
  pub either : (i : ℕ) → Bit r i → Bit a i ⊎ Bit b i

-- r is what a has and b does not
pub record Minus (a b r : ℕ) : Type 0 where
  pub whole : (i : ℕ) → Bit a i → (Bit b i → ⊥) → Bit r i
  pub sound : (i : ℕ) → Bit r i → Bit a i × (Bit b i → ⊥)

-- r is what a and b share, a's numbers being one more
pub record Next (a b r : ℕ) : Type 0 where
  pub whole : (i : ℕ) → Bit a i → Bit b (suc i) → Bit r (suc i)
  pub sound : (j : ℕ) → Bit r j → (i : ℕ) × (j ≡ suc i) × Bit a i × Bit b j

-- r is number `at` of a list where asked, else the empty set
pub record Lent (l : List ℕ) (at : ℕ) (asked : Bool) (r : ℕ) : Type 0 where
  pub whole : (i : ℕ) → asked ≡ true → Bit (get_or l at 0) i → Bit r i
  pub sound : (i : ℕ) → Bit r i → (asked ≡ true) × Bit (get_or l at 0) i
