-- Records in a chart slice: document 01, 'The chart'; and what of them is written while the reader writes.
use Rattle.std.specs.Prelude.{◌≡◌, List, [], ◌∷◌, ◌++◌, map, ℕ, ◌+◌, ◌*◌, ◌≤◌, length, get_or, take, drop}
use Rattle.meaning.specs.Order.{Each}
use Rattle.meaning.specs.Range.{Item}
use Rattle.meaning.specs.Table.{got, check_table, number}
use Rattle.meaning.specs.Decode.{grammar_of}
use Rattle.meaning.specs.Chart.{Entry, Chosen, GivenBy, knowns, shown, records}
use Rattle.rules.specs.Walk.{Ranked}
use Rattle.store.specs.Code.{known_of}
use Rattle.phrase.specs.declared.items.Item.{Item as CodedItem}
use Rattle.search.specs.Search.{All}
use Rattle.search.specs.Keys.{KeyMade}
use Rattle.chosen.specs.declared.Choice.{Choice}

-- 'twelve two-byte numbers: category, function, height, three ranges as start and end, three daughters' places'
abbrev pub record_of : CodedItem → Choice → List ℕ
record_of x c =
    x.category ∷ c.function ∷ x.height
    ∷ get_or x.ends 0 0 ∷ get_or x.ends 1 0 ∷ get_or x.ends 2 0 ∷ get_or x.ends 3 0 ∷ get_or x.ends 4 0 ∷ get_or x.ends 5 0
    ∷ c.one ∷ c.two ∷ c.three ∷ []

-- what the records are written from: K is all items that can be made, in an accepted table and a sentence of at most 64 words
pub record Whole (t ws K : List ℕ) : Type 0 where
  pub accepted : check_table t ≡ got tt
  pub short : length ws ≤ 64
  pub all : All (KeyMade t ws) K
  pub most : length K ≤ 2000

-- all rules by rising function number
pub record Ruled (t order : List ℕ) : Type 0 where
  pub ranked : Ranked t (length order) order
  pub rules : length order ≡ number t 7

-- after a call the first numbers of the slice are the records of some of the items K, each with its chosen function and daughters; the rest is
-- as it was before
pub record Written (t ws K codes before after : List ℕ) : Type 0 where
  pub entries : List (Entry Item)
  pub known : knowns entries ≡ map known_of codes
  pub chosen : Each (Chosen (GivenBy (grammar_of t) ws) (map known_of K)) entries
  pub there : after ≡ records entries ++ drop (12 * length entries) before

-- the record of one of the items K is the twelve numbers from a place on; the rest is as it was before
pub record Entered (t ws K : List ℕ) (code at : ℕ) (before after : List ℕ) : Type 0 where
  pub entry : Entry Item
  pub known : entry.known ≡ known_of code
  pub chosen : Chosen (GivenBy (grammar_of t) ws) (map known_of K) entry
  pub there : after ≡ take at before ++ shown entry ++ drop (at + 12) before
