-- What a chart that passed has for the recursion from a record to its daughters, and what it is to have written a list from a place on.
-- Nothing here is a rule of its own.
use Rattle.std.specs.Prelude.{ℕ, ◌+◌, ◌*◌, ◌≤◌, ◌<◌, ◌≡◌, length, get_or, take, drop, Option, Some, None}
use mathlib.Core.List.{List, [], ◌++◌, foldr}
use Rattle.meaning.specs.Table.{got, check_table}
use Rattle.meaning.specs.Decode.{grammar_of}
use Rattle.meaning.specs.Range.{Item}
use Rattle.meaning.specs.Chart.{Entry}
use Rattle.meaning.specs.TreeWriting.{named, rank_of, told}

-- how many daughters the rule with a function number has; none where the table has no such rule
abbrev pub rank : List ℕ → ℕ → ℕ
rank t f = rank_of (named (grammar_of t).rules f)

-- of record i of a chart: its function, its height, and the place of daughter k, from 0
abbrev pub function_at : List ℕ → ℕ → ℕ
function_at c i = get_or c (12 * i + 1) 0

abbrev pub height_at : List ℕ → ℕ → ℕ
height_at c i = get_or c (12 * i + 2) 0

abbrev pub place_at : List ℕ → ℕ → ℕ → ℕ
place_at c i k = get_or c (12 * i + 9 + k) 0

-- the table is accepted, and each of the chart's first records has a height and at most three daughters, below the count and of lower heights
pub record Falling (t c : List ℕ) (count : ℕ) : Type 0 where
  pub accepted : check_table t ≡ got tt
  pub size : 12 * count ≤ length c
  pub high : (i : ℕ) → i < count → 1 ≤ height_at c i
  pub three : (i : ℕ) → i < count → rank t (function_at c i) ≤ 3
  pub below : (i k : ℕ) → i < count → k < rank t (function_at c i) → place_at c i k < count
  pub lower : (i k : ℕ) → i < count → k < rank t (function_at c i) → height_at c (place_at c i k) < height_at c i

-- the trees at these places, one after another, each down to n levels
abbrev pub trees : ℕ → List (Entry Item) → List ℕ → List ℕ
trees n C ps = foldr (λ q l. told n C q ++ l) [] ps

-- what a slice is, and what is answered, after the numbers ns were to be written from a place on: they are there, and the answer is the
-- place after them; or there was no room for them, and nothing is answered
pub data Wrote (ns before : List ℕ) (pos : ℕ) (after : List ℕ) (r : Option ℕ) : Type 0 where
  fitted : pos + length ns ≤ length before → r ≡ Some (pos + length ns) → after ≡ take pos before ++ ns ++ drop (pos + length ns) before
      → Wrote ns before pos after r
  over : length before < pos + length ns → r ≡ None → length after ≡ length before → Wrote ns before pos after r
