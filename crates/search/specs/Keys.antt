-- What keys of packed items can be made of, and what is given from them, in an accepted table and sentence.
use Rattle.std.specs.Prelude.{List, map, ℕ, ◌≤◌, length}
use Rattle.meaning.specs.Chart.{Made, GivenBy}
use Rattle.meaning.specs.Decode.{grammar_of}
use Rattle.store.specs.Code.{unpacked}
use Rattle.search.specs.Search.{Exact}

-- the item of key x is made by a tree of m levels
unfoldable pub KeyMade : List ℕ → List ℕ → ℕ → ℕ → Type 0
KeyMade t ws x m = Made (grammar_of t) ws (unpacked x) m

-- function f gives the item of key x from those of the keys ds
unfoldable pub KeyGiven : List ℕ → List ℕ → ℕ → List ℕ → ℕ → Type 0
KeyGiven t ws f ds x = GivenBy (grammar_of t) ws f (map unpacked ds) (unpacked x)

-- what a level asks, over an accepted table: a sentence of at most 64 words, and all keys up to height h
pub record Asked (t ws K : List ℕ) (h : ℕ) : Type 0 where
  pub short : length ws ≤ 64
  pub exact : Exact (KeyMade t ws) K h
  pub low : h ≤ 2000
  pub most : length K ≤ 2000
