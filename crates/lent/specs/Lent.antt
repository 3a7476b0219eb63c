-- The check of a lent chart: what it answers, and what each part of it finds. Document 01, 'Tree and sentence', code 17.
use Rattle.std.specs.Prelude.{ℕ, suc, ◌+◌, ◌*◌, ◌-◌, ◌≤◌, ◌<◌, ◌≡◌, List, [], ◌∷◌, map, get_or, take, Result, Ok, Err}
use Rattle.meaning.specs.Range.{Item}
use Rattle.meaning.specs.Giving.{Gives}
use Rattle.meaning.specs.Chart.{Known, tallest, things, Before}
use Rattle.meaning.specs.Table.{rank_of}
use Rattle.meaning.specs.Decode.{several, rule_at, grammar_of}
use Rattle.meaning.specs.TreeWriting.{stated_at, TooMany, Passes, FirstBad}
use Rattle.phrase.specs.declared.items.Item.{Item as CodedItem}
use Rattle.phrase.specs.declared.items.Daughters.{Daughters}
use Rattle.phrase.specs.Phrase.{item_of}
use Rattle.lent.specs.declared.ChartFault.{ChartFault}
use Rattle.lent.specs.declared.ChartFault.TheVariants.{Many, Bad}

-- an item of the code, with its height
unfoldable pub known_of : CodedItem → Known Item
known_of x = record { item = item_of x; height = x.height }

-- the daughters that there are, with their heights: the first count of three
unfoldable pub knowns_of : Daughters → List (Known Item)
knowns_of d = take d.count (known_of d.one ∷ known_of d.two ∷ known_of d.three ∷ [])

-- number k of record i; 0 past the chart's end
abbrev pub number_at : List ℕ → ℕ → ℕ → ℕ
number_at c i k = get_or c (12 * i + k) 0

-- the n numbers of record i from number k on
abbrev pub numbers_at : List ℕ → ℕ → ℕ → ℕ → List ℕ
numbers_at c i n k = several n (number_at c i) suc k

-- what the records at the first rank of record i's 'three daughters' places' state
unfoldable pub daughters_at : List ℕ → ℕ → ℕ → List (Known Item)
daughters_at c i rank = map (stated_at c) (take rank (numbers_at c i 3 9))

-- a record 'is after its predecessor in chart order'; the first has none
unfoldable pub After : List ℕ → ℕ → Type 0
After c i = 0 < i → Before (stated_at c (i - 1)).item (stated_at c i).item

-- place k of record i, from 0: a daughter is 'below the count', an 'unused number' is 0
pub record Placed (c : List ℕ) (count i rank k : ℕ) : Type 0 where
  pub below : k < rank → number_at c i (9 + k) < count
  pub unused : rank ≤ k → number_at c i (9 + k) ≡ 0

-- Record i, whose function is that of the rule at a place of the table: its places are as they must be, it is 'one of the items that its
-- function and daughters can give in these words', and its height is 'one more than the greatest of its daughters' (1 without daughters)'
pub record WayAt (t ws c : List ℕ) (count rule i : ℕ) : Type 0 where
  pub placed : (k : ℕ) → k < 3 → Placed c count i (rank_of t rule) k
  pub given : Gives (grammar_of t) ws (rule_at t rule) (things (daughters_at c i (rank_of t rule))) (stated_at c i).item
  pub high : (stated_at c i).height ≡ suc (tallest (daughters_at c i (rank_of t rule)))

-- what the check answers: Ok passes, Many is '17 with place 0' for the count, Bad is 17 with the place of the first bad record
pub data Checked (t ws c : List ℕ) (count : ℕ) : Result (Unit {0}) ChartFault → Type 0 where
  good : Passes (grammar_of t) ws c count → Checked t ws c count (Ok tt)
  many : TooMany c count → Checked t ws c count (Err Many)
  bad : {i : ℕ} → FirstBad (grammar_of t) ws c count i → Checked t ws c count (Err (Bad i))
