-- What the structs and enums of the code mean, and what the functions over them promise.
use Rattle.std.specs.Prelude.{ℕ, ◌+◌, ◌≤◌, ◌<◌, ◌≡◌, Bool, true, false, cond, Option as CodedOption, Some, None, List, [], ◌∷◌, ltb, length, get_or, take}
use Rattle.std.proofs.Math.Option.{Option, none as apart, some as just}
use Rattle.meaning.specs.Range.{Range, Item, nothing}
use Rattle.meaning.specs.Grammar.{Symbol}
use Rattle.meaning.specs.Giving.{Run, Stands, held, Gives}
use Rattle.meaning.specs.Table.{dimension_of, category_of}
use Rattle.meaning.specs.Decode.{past, row_at, row_end, rows_of, rule_at, grammar_of}
use Rattle.rules.specs.Walk as walk
use Rattle.rules.specs.declared.rule.Row.{Row}
use Rattle.phrase.specs.Row.{Starts}
use Rattle.phrase.specs.declared.ranges.Range.{Range as Coded}
use Rattle.phrase.specs.declared.items.Item.{Item as CodedItem}
use Rattle.phrase.specs.declared.items.Daughters.{Daughters}
use Rattle.std.specs.declared.ops.Range.{Range as CodedStarts}

-- a range of the code
abbrev pub range_of : Coded → Range
range_of p = record { from = p.from; to = p.to }

-- what joining or a row answers: a range, or None where two stand apart or a row makes nothing
abbrev pub join_of : CodedOption Coded → Option Range
join_of (Some p) = just (range_of p)
join_of None = apart

-- where a row can start
abbrev pub starts_of : CodedStarts ℕ → Starts
starts_of s = record { first = s.start; end = s.end }

-- the range whose start is number i of a list, with its end next to it
abbrev pub ends : List ℕ → ℕ → Range
ends l i = record { from = get_or l i 0; to = get_or l (i + 1) 0 }

-- an item of the code, without its height: six numbers are its three ranges
unfoldable pub item_of : CodedItem → Item
item_of x = record { category = x.category; one = ends x.ends 0; two = ends x.ends 2; three = ends x.ends 4 }

-- the daughters that there are: the first count of three
unfoldable pub items_of : Daughters → List Item
items_of d = take d.count (item_of d.one ∷ item_of d.two ∷ item_of d.three ∷ [])

-- a daughter, if there is one
abbrev pub daughter_of : CodedOption CodedItem → Item
daughter_of (Some x) = item_of x
daughter_of None = nothing

-- constituent c of daughter k
abbrev pub held_of : Daughters → ℕ → ℕ → Range
held_of d = held (items_of d)

-- a row's symbols; None is a row with nothing in it
abbrev pub symbols_of : CodedOption Row → List Symbol
symbols_of (Some r) = row_at r.table.now r.at
symbols_of None = []

-- where a row's bytes stand, if there are any
abbrev pub row_place : CodedOption Row → Option ℕ
row_place (Some r) = just r.at
row_place None = apart

-- the row's bytes are within the table
abbrev pub EndsIn : CodedOption Row → Type 0
EndsIn (Some r) = row_end r.table.now r.at ≤ length r.table.now
EndsIn None = Unit {0}

-- a rule of a table that is not refused starts here
abbrev pub RuleOf : List ℕ → ℕ → Type 0
RuleOf = walk.RuleOf

-- the symbols of row i of the rule at a place, from 0
abbrev pub row_of : List ℕ → ℕ → ℕ → List Symbol
row_of t rule i = get_or (rule_at t rule).rows i []

-- where the bytes of that row stand; past the last row there are none
unfoldable pub row_there : List ℕ → ℕ → ℕ → Option ℕ
row_there t rule i = cond (ltb i (dimension_of t (category_of t rule))) (just (past i (row_end t) (rows_of t rule))) apart

-- r is row i of the rule at a place; the rest follows where the rule is one of an accepted table
pub record RowIs (t : List ℕ) (rule i : ℕ) (r : CodedOption Row) : Type 0 where
  pub there : row_place r ≡ row_there t rule i
  pub symbols : symbols_of r ≡ row_of t rule i
  pub ends : EndsIn r

-- a test's answer is whether P holds
pub data Decides (P : Type 0) : Bool → Type 0 where
  holds : P → Decides P true
  fails : (P → ⊥) → Decides P false

-- the range is one that the row can have with these daughters
abbrev pub Has : List ℕ → Daughters → List Symbol → Range → Type 0
Has ws d ss r = Run (Stands ws (held_of d)) ss r

-- x is one of the items that the rule at this place gives with these daughters
abbrev pub GivesAt : List ℕ → List ℕ → ℕ → Daughters → CodedItem → Type 0
GivesAt t ws rule d x = Gives (grammar_of t) ws (rule_at t rule) (items_of d) (item_of x)

-- the range that has P and starts exactly here, or that there is none
pub data StartsAt (P : Range → Type 0) (start : ℕ) : Option Range → Type 0 where
  stands : {r : Range} → P r → r.from ≡ start → StartsAt P start (just r)
  stands_not : ((q : Range) → P q → q.from ≡ start → ⊥) → StartsAt P start apart

-- the first of what has P, by a key, from a number on, or that there is none
pub data Next {A : Type 0} (key : A → ℕ) (P : A → Type 0) (from : ℕ) : Option A → Type 0 where
  found : {x : A} → P x → from ≤ key x → ((y : A) → P y → from ≤ key y → key x ≤ key y) → Next key P from (just x)
  over : ((y : A) → P y → key y < from) → Next key P from apart

-- a row's ranges go by their start
abbrev pub start_of : Range → ℕ
start_of r = r.from

-- the item of a category that three ranges make
abbrev pub item_from : ℕ → Range × (Range × Range) → Item
item_from A p = record { category = A; one = p.0; two = p.1.0; three = p.1.1 }
