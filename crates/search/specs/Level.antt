-- One level of the search: keys that are set into a sorted list at one height, from what is tried.
use Rattle.std.specs.Prelude.{◌≡◌, ◌⊎◌, ℕ, ◌+◌, ◌≤◌, length, take, Option, Some as counted, None as too_many}
use mathlib.Core.List.{List, Memᴰ as Mem}
use Rattle.store.specs.Set.{Sorted, key_of, height_of, Held}

-- c is the code, at height h, of a key of S that is not in K
pub record New (K : List ℕ) (h : ℕ) (S : ℕ → Type 0) (c : ℕ) : Type 0 where
  pub of : S (key_of c)
  pub high : height_of c ≡ h
  pub unknown : Held (key_of c) K → ⊥

-- F' is F with the keys of S that are not in K
pub record Adds (K : List ℕ) (h : ℕ) (S : ℕ → Type 0) (F F' : List ℕ) : Type 0 where
  pub keeps : (c : ℕ) → Mem c F → Mem c F'
  pub origin : (c : ℕ) → Mem c F' → Mem c F ⊎ New K h S c
  pub has : (x : ℕ) → S x → Held x K ⊎ Held x F'

-- the first n of a are a sorted set
pub record Ready (a : List ℕ) (n : ℕ) : Type 0 where
  pub sorted : Sorted (take n a)
  pub count : n ≤ length a

-- the keys of S that are not in K have been added to the first n of a: now they are so many of b; or there are more than fit
pub data Filled (K : List ℕ) (h : ℕ) (S : ℕ → Type 0) (a : List ℕ) (n : ℕ) (b : List ℕ) : Option ℕ → Type 0 where
  kept : {r : ℕ} → r ≤ length a → Sorted (take r b) → Adds K h S (take n a) (take r b) → Filled K h S a n b (counted r)
  over : (E : List ℕ) → Sorted E → length E ≡ length a + 1 → ((c : ℕ) → Mem c E → Mem c (take n a) ⊎ New K h S c) → Filled K h S a n b too_many

-- one of a list does it
pub record Some (l : List ℕ) (P : ℕ → ℕ → Type 0) (x : ℕ) : Type 0 where
  pub which : ℕ
  pub among : Mem which l
  pub does : P which x
