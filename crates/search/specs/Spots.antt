-- Two parts of a sorted set, by their places.
use Rattle.std.specs.Prelude.{◌⊎◌, List, ℕ, ◌<◌, ◌≤◌, length, get_or}
use Rattle.store.specs.Set.{Within}
use Rattle.search.specs.declared.spots.Spots.{Spots}

-- the first part is before the second
pub record Ordered (r : Spots) : Type 0 where
  pub one : r.lo ≤ r.gap
  pub two : r.gap ≤ r.resume
  pub three : r.resume ≤ r.hi

-- p is a place of one of the two parts
abbrev pub Inside : Spots → ℕ → Type 0
Inside r p = ((r.lo ≤ p) × (p < r.gap)) ⊎ ((r.resume ≤ p) × (p < r.hi))

-- the parts have all codes of K within the two bounds
pub record Finds (K : List ℕ) (low high low2 high2 : ℕ) (r : Spots) : Type 0 where
  pub ordered : Ordered r
  pub end : r.hi ≤ length K
  pub has : (p : ℕ) → p < length K → Within low high (get_or K p 0) ⊎ Within low2 high2 (get_or K p 0) → Inside r p

-- from i up to j no place is walked
pub record Skips (r : Spots) (i j : ℕ) : Type 0 where
  pub on : i ≤ j
  pub none : (p : ℕ) → i ≤ p → p < j → Inside r p → ⊥
