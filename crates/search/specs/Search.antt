-- What the search finds: the keys that can be made, each at its least height. Mk says at how many levels a key is made, Gv what a function
-- number gives from keys.
use Rattle.std.specs.Prelude.{◌≡◌, ℕ, ◌+◌, ◌≤◌, length, take, Option, Some, None}
use mathlib.Core.List.{List, map, Memᴰ as Mem}
use Rattle.meaning.specs.Order.{Each}
use Rattle.meaning.specs.Chart.{Known, tallest, Least}
use Rattle.store.specs.Set.{Sorted, key_of, height_of, Held}

-- a code as a key with its height
abbrev pub keyed : ℕ → Known ℕ
keyed c = record { item = key_of c; height = height_of c }

module _ (Mk : ℕ → ℕ → Type 0) where
  -- K is what can be made at heights up to h, each at its least
  pub record Exact (K : List ℕ) (h : ℕ) : Type 0 where
    pub sorted : Sorted K
    pub right : (c : ℕ) → Mem c K → Least Mk (keyed c)
    pub low : (c : ℕ) → Mem c K → height_of c ≤ h
    pub whole : (x m : ℕ) → Mk x m → m ≤ h → Held x K

  -- C is all that can be made
  pub record All (C : List ℕ) : Type 0 where
    pub sorted : Sorted C
    pub right : (c : ℕ) → Mem c C → Least Mk (keyed c)
    pub whole : (x m : ℕ) → Mk x m → Held x C

  -- there are more than n keys
  pub record More (n : ℕ) : Type 0 where
    pub some : List ℕ
    pub sorted : Sorted some
    pub right : (c : ℕ) → Mem c some → Least Mk (keyed c)
    pub many : length some ≡ n + 1

  -- what a search answers: all, in so many of b from its start, or that there are more than there is room for
  pub data Found (room : ℕ) (b : List ℕ) : Option ℕ → Type 0 where
    all : {r : ℕ} → r ≤ room → All (take r b) → Found room b (Some r)
    full : More room → Found room b None

-- what is given from codes of K of which the tallest has height h
pub record Level (Gv : ℕ → List ℕ → ℕ → Type 0) (K : List ℕ) (h x : ℕ) : Type 0 where
  pub function : ℕ
  pub codes : List ℕ
  pub among : Each (λ c. Mem c K) codes
  pub gives : Gv function (map key_of codes) x
  pub high : tallest (map keyed codes) ≡ h

-- a search that has come to height h, with k keys found in b and room for more in f
pub record Begun (Mk : ℕ → ℕ → Type 0) (room h k : ℕ) (b f : List ℕ) : Type 0 where
  pub exact : Exact Mk (take k b) h
  pub small : room ≤ 2000
  pub count : k ≤ room
  pub fits : room ≤ length b
  pub fits_fresh : room ≤ length f
  pub levels : h ≤ k
