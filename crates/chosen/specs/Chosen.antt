-- The chosen function and daughters of a known item: document 01, 'Phrases'.
use Rattle.std.specs.Prelude.{◌≡◌, ℕ, ◌≤◌, length, get_or}
use mathlib.Core.List.{List, map, Memᴰ as Mem}
use Rattle.meaning.specs.Table.{got, check_table, number}
use Rattle.meaning.specs.Decode.{grammar_of}
use Rattle.meaning.specs.Chart.{GivenBy, Chosen}
use Rattle.rules.specs.Walk.{Ranked}
use Rattle.store.specs.Code.{known_of}
use Rattle.search.specs.Search.{All}
use Rattle.search.specs.Keys.{KeyMade}
use Rattle.chosen.specs.declared.Choice.{Choice}

-- an accepted table with its rules in the order of function numbers, a sentence, all its items, and one of them
pub record Choosing (t ws order K : List ℕ) (code : ℕ) : Type 0 where
  pub accepted : check_table t ≡ got tt
  pub short : length ws ≤ 64
  pub all : All (KeyMade t ws) K
  pub most : length K ≤ 2000
  pub ranked : Ranked t (length order) order
  pub rules : length order ≡ number t 7
  pub there : Mem code K

-- the function's number and its daughters' places are the chosen ones; unused places are 0
pub record Chooses (t ws K : List ℕ) (code : ℕ) (r : Choice) : Type 0 where
  pub places : List ℕ
  pub chosen : Chosen (GivenBy (grammar_of t) ws) (map known_of K) (record { known = known_of code; function = r.function; places = places })
  pub one : r.one ≡ get_or places 0 0
  pub two : r.two ≡ get_or places 1 0
  pub three : r.three ≡ get_or places 2 0
