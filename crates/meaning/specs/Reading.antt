-- What the reader answers: document 01, 'The chart' and 'Numbers handed back'.
use Rattle.std.specs.Prelude.{◌≡◌, ℕ, zero, suc, ◌*◌, ◌-◌, ◌/◌, ◌≤◌, ◌<◌, min, length, replicate}
use Rattle.std.proofs.Math.Option.{some as just}
use mathlib.Core.List.{List, ◌++◌, Memᴰ as Mem}
use Rattle.std.proofs.Math.ListN.{get_elem?}
use Rattle.meaning.specs.declared.Refusal.{Refusal}
use Rattle.meaning.specs.Refusals.{code_of, place_of, code}
use Rattle.meaning.specs.Refusals as ending
use Rattle.meaning.specs.Table.{got, refused}
use Rattle.meaning.specs.Decode.{grammar_of, words_of, check_input}
use Rattle.meaning.specs.Order.{Each, Sorted}
use Rattle.meaning.specs.Range.{none, Item}
use Rattle.meaning.specs.Grammar.{Grammar}
use Rattle.meaning.specs.Giving.{True}
use Rattle.meaning.specs.Chart.{Known, Entry, Least, Made, ChartOf, items, records}

-- 'an allowance: 0 means 2,000'
abbrev pub default_allowance : ℕ
default_allowance = 2000

-- 'more than 2,000 is taken as 2,000'
unfoldable pub allowed : ℕ → ℕ
allowed zero = default_allowance
allowed (suc a) = min (suc a) 2000

-- 'Room is the smaller of this and the slice's length divided by 12, rounded down.'
unfoldable pub room : ℕ → List ℕ → ℕ
room allowance chart = min (allowed allowance) (length chart / 12)

-- 'The goal is the start category with (0, n).'
abbrev pub goal : Grammar → List ℕ → Item
goal G ws = record { category = G.start; one = record { from = 0; to = length ws }; two = none; three = none }

-- 'there are more true items than room': some of them, all different, are more
pub record Over (G : Grammar) (ws : List ℕ) (room : ℕ) : Type 0 where
  pub some : List Item
  pub apart : Sorted (λ x y. x ≡ y → ⊥) some
  pub true : Each (True G ws) some
  pub more : room < length some

-- 'a height passes 2,000'. This never comes where Full does not: crates/claims/proofs/Heights.antt: never-deep
pub record Deep (G : Grammar) (ws : List ℕ) : Type 0 where
  pub known : Known Item
  pub height : Least (Made G ws) known
  pub passes : 2000 < known.height

-- 'Code 0 (yes): the goal's place. Code 1 (no): place 0.'
pub data Verdict (G : Grammar) (ws : List ℕ) (C : List (Entry Item)) : ℕ → ℕ → Type 0 where
  yes_at : {p : ℕ} → get_elem? (items C) p ≡ just (goal G ws) → Verdict G ws C (code ending.Done) p
  no_goal : (Mem (goal G ws) (items C) → ⊥) → Verdict G ws C (code ending.No) 0

-- a slice of which every number is 0
abbrev pub cleared : List ℕ → List ℕ
cleared before = replicate (length before) 0

-- 'all true items stand once each in order, every number after them in the lent slice is 0'
abbrev pub laid : List (Entry Item) → List ℕ → List ℕ
laid C before = records C ++ replicate (length before - 12 * length C) 0

-- The reader's code, place, count and the whole chart slice after the call, for every table, words, allowance and slice.
-- 'words (13, 14, 15); 16; 22.' 'A refusal has count 0.' 'Refusals before 16 write nothing; 16 and 22 leave the whole chart slice 0.'
module _ (table words : List ℕ) (allowance : ℕ) (before : List ℕ) where
  pub data Read : ℕ → ℕ → ℕ → List ℕ → Type 0 where
    bad_input : {r : Refusal} → check_input table words ≡ refused r → Read (code_of r) (place_of r) 0 before
    full : check_input table words ≡ got tt → Over (grammar_of table) (words_of words) (room allowance before) → Read (code ending.Full) (room allowance before) 0 (cleared before)
    deep : check_input table words ≡ got tt → (Over (grammar_of table) (words_of words) (room allowance before) → ⊥)
        → Deep (grammar_of table) (words_of words) → Read (code ending.Deep) 0 0 (cleared before)
    read : {C : List (Entry Item)} {c p : ℕ} → check_input table words ≡ got tt → ChartOf (grammar_of table) (words_of words) C
        → length C ≤ room allowance before → Verdict (grammar_of table) (words_of words) C c p → Read c p (length C) (laid C before)
