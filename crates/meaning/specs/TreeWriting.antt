-- What the tree writer answers: document 01, 'Tree and sentence'. Anyone may have made the chart: its numbers may be anything.
use Rattle.std.specs.Prelude.{◌≡◌, ◌⊎◌, cond, ℕ, zero, suc, ◌+◌, ◌*◌, ◌-◌, ◌/◌, ◌≤◌, ◌<◌, min, eqb, length, get_or, take, drop}
use Rattle.std.proofs.Math.Option.{Option, none, some}
use mathlib.Core.List.{List, [], ◌∷◌, ◌++◌, foldr}
use Rattle.std.proofs.Math.Seq.{slice}
use Rattle.meaning.specs.declared.Refusal.{Refusal}
use Rattle.meaning.specs.Refusals.{code_of, place_of, code}
use Rattle.meaning.specs.Refusals as ending
use Rattle.meaning.specs.Table.{got, refused}
use Rattle.meaning.specs.Decode.{several, grammar_of, words_of, check_input}
use Rattle.meaning.specs.Range.{Item, nothing}
use Rattle.meaning.specs.Grammar.{Rule, Grammar}
use Rattle.meaning.specs.Chart.{Known, Entry, Way, knowns, Before, GivenBy, shown}

-- the rule with a function number, if the table has one
unfoldable pub named : List Rule → ℕ → Option Rule
named [] f = none
named (r ∷ rs) f = cond (eqb r.function f) (some r) (named rs f)

-- its number of daughters, 0 where there is no rule (Table's `rank_of` reads it from the bytes)
abbrev pub rank_of : Option Rule → ℕ
rank_of none = 0
rank_of (some r) = length r.daughters

-- record i of a lent chart: its twelve numbers
abbrev pub record_at : List ℕ → ℕ → List ℕ
record_at c i = slice (12 * i) (12 * i + 12) c

-- what they state: an item with its height, a function, and as many places as that function's rule has daughters
unfoldable pub stated_at : List ℕ → ℕ → Known Item
stated_at c i =
    let n : ℕ → ℕ = λ k. get_or c (12 * i + k) 0 in
    record {
      item = record { category = n 0; one = record { from = n 3; to = n 4 }; two = record { from = n 5; to = n 6 }; three = record { from = n 7; to = n 8 } };
      height = n 2;
    }

unfoldable pub entry_at : Grammar → List ℕ → ℕ → Entry Item
entry_at G c i = record {
  known = stated_at c i;
  function = get_or c (12 * i + 1) 0;
  places = take (rank_of (named G.rules (get_or c (12 * i + 1) 0))) (slice (12 * i + 9) (12 * i + 12) c);
}

-- the first n records of a lent chart
unfoldable pub lent : Grammar → List ℕ → ℕ → List (Entry Item)
lent G c n = several n (entry_at G c) suc 0

-- A record that is not bad. It is judged by the numbers of its daughters as they stand, so it may be sound although a daughter is bad.
-- `order`: it 'is after its predecessor in chart order'. `unused`: the places beyond its function's rank are 0. `way`: its function is known,
-- its daughters are below the count, it is 'one of the items that its function and daughters can give in these words' (a range beyond the
-- rule's rows is then 0, 0), and its height is 'one more than the greatest of its daughters' (1 without daughters)'.
pub record Sound (G : Grammar) (ws c : List ℕ) (count i : ℕ) : Type 0 where
  pub order : 0 < i → Before (stated_at c (i - 1)).item (stated_at c i).item
  pub unused : shown (entry_at G c i) ≡ record_at c i
  pub way : Way (GivenBy G ws) (knowns (lent G c count)) (stated_at c i) (entry_at G c i).function (entry_at G c i).places

-- '17 with place 0 if the count exceeds 2,000 or the whole records that the slice holds'
abbrev pub TooMany : List ℕ → ℕ → Type 0
TooMany c count = (2000 < count) ⊎ (length c / 12 < count)

pub record Passes (G : Grammar) (ws c : List ℕ) (count : ℕ) : Type 0 where
  pub few : TooMany c count → ⊥
  pub sound : (i : ℕ) → i < count → Sound G ws c count i

pub record FirstBad (G : Grammar) (ws c : List ℕ) (count i : ℕ) : Type 0 where
  pub few : TooMany c count → ⊥
  pub below : i < count
  pub sound : (j : ℕ) → j < i → Sound G ws c count j
  pub bad : Sound G ws c count i → ⊥

-- what is found past a chart's end
abbrev pub blank : Entry Item
blank = record { known = record { item = nothing; height = 0 }; function = 0; places = [] }

-- the function numbers of the tree at a place, 'each node before its daughters', down to n levels. The list may be far longer than any
-- room (daughters are shared: '20 rules can make a million nodes'); only whether it fits, and it where it does, is asked for.
unfoldable pub told : ℕ → List (Entry Item) → ℕ → List ℕ
told zero C p = []
told (suc n) C p = (get_or C p blank).function ∷ foldr (λ q l. told n C q ++ l) [] (get_or C p blank).places

-- the tree of the root's record has as many levels as its height says
unfoldable pub nodes : Grammar → List ℕ → ℕ → ℕ → List ℕ
nodes G c count root = told (stated_at c root).height (lent G c count) root

-- 'room is the smaller of the slice and 255'
abbrev pub tree_room : List ℕ → ℕ
tree_room before = min (length before) 255

-- The tree writer's code, place, count and the whole slice after the call, for every input.
-- '17 ..; then 18; then 19.' 'Numbers after them stay as lent.' 'Refusals by either write nothing.'
module _ (table words chart : List ℕ) (count root : ℕ) (before : List ℕ) where
  pub data TreeWritten : ℕ → ℕ → ℕ → List ℕ → Type 0 where
    bad_input : {r : Refusal} → check_input table words ≡ refused r → TreeWritten (code_of r) (place_of r) 0 before
    too_many : check_input table words ≡ got tt → TooMany chart count → TreeWritten (code ending.Chart) 0 0 before
    bad_record : {i : ℕ} → check_input table words ≡ got tt → FirstBad (grammar_of table) (words_of words) chart count i → TreeWritten (code ending.Chart) i 0 before
    no_place : check_input table words ≡ got tt → Passes (grammar_of table) (words_of words) chart count → count ≤ root → TreeWritten (code ending.Place) root 0 before
    no_room : check_input table words ≡ got tt → Passes (grammar_of table) (words_of words) chart count → root < count
        → tree_room before < length (nodes (grammar_of table) chart count root) → TreeWritten (code ending.TreeRoom) (tree_room before) 0 before
    wrote : {ns : List ℕ} → check_input table words ≡ got tt → Passes (grammar_of table) (words_of words) chart count → root < count
        → ns ≡ nodes (grammar_of table) chart count root → length ns ≤ tree_room before → TreeWritten (code ending.Done) 0 (length ns) (ns ++ drop (length ns) before)
