-- The reader's answer as numbers: document 01, 'Numbers handed back'; and what the code finds over the words and the items.
use Rattle.std.specs.Prelude.{◌≡◌, List, ◌++◌, ℕ, ◌+◌, ◌*◌, ◌≤◌, ◌<◌, length, get_or, drop, Result, Ok, Err}
use Rattle.meaning.specs.Refusals as refusal
use Rattle.meaning.specs.Range.{Item}
use Rattle.meaning.specs.Table.{got, check_table}
use Rattle.meaning.specs.Decode.{grammar_of}
use Rattle.meaning.specs.Chart.{Entry, ChartOf, records}
use Rattle.meaning.specs.Reading.{Over, Verdict, cleared, laid}
use Rattle.store.specs.Set.{key_of, Held}
use Rattle.reader.specs.declared.answer.Reading.{Reading as Answer}
use Rattle.reader.specs.declared.answer.Reading.TheVariants.{Yes, No}
use Rattle.reader.specs.declared.answer.ReadRefusal.{ReadRefusal}
use Rattle.reader.specs.declared.answer.ReadRefusal.TheVariants.{Input, Full, Deep}

-- the column 'Code': 'Code 0 (yes)'; 'Code 1 (no)'; a refusal of table or words has its own; '16 Full'; '22 Deep'
abbrev pub code_of : Result Answer ReadRefusal → ℕ
code_of (Ok (Yes p n)) = 0
code_of (Ok (No n)) = 1
code_of (Err (Input r)) = refusal.code_of r
code_of (Err (Full room)) = 16
code_of (Err Deep) = 22

-- the column 'Place': 'the goal's place'; 'place 0'; 'the room'; '0'
abbrev pub place_of : Result Answer ReadRefusal → ℕ
place_of (Ok (Yes p n)) = p
place_of (Ok (No n)) = 0
place_of (Err (Input r)) = refusal.place_of r
place_of (Err (Full room)) = room
place_of (Err Deep) = 0

-- 'In both the count is that of the items. A refusal has count 0.'
abbrev pub count_of : Result Answer ReadRefusal → ℕ
count_of (Ok (Yes p n)) = n
count_of (Ok (No n)) = n
count_of (Err r) = 0

-- the key of a category with the range (0, n) alone
abbrev pub goal_key : ℕ → ℕ → ℕ
goal_key start n = (start * 16384 + n) * 268435456

-- 'Code 0 (yes): the goal's place. Code 1 (no): place 0.', over the codes K: one of them has the goal's key x, or none has
pub data Judged (x : ℕ) (K : List ℕ) : ℕ → ℕ → ℕ → Type 0 where
  stands : {p n : ℕ} → p < length K → key_of (get_or K p 0) ≡ x → n ≡ length K → Judged x K 0 p n
  stands_not : {n : ℕ} → (Held x K → ⊥) → n ≡ length K → Judged x K 1 0 n

-- as many records as there are items K are the chart of the sentence, and the answer is the goal's; the rest is as it was before
pub record Charted (t ws K before : List ℕ) (code place n : ℕ) (after : List ℕ) : Type 0 where
  pub entries : List (Entry Item)
  pub chart : ChartOf (grammar_of t) ws entries
  pub size : length entries ≡ length K
  pub verdict : Verdict (grammar_of t) ws entries code place
  pub count : n ≡ length K
  pub there : after ≡ records entries ++ drop (12 * length entries) before

-- an accepted table, a sentence of at most 64 words, and a room of which a chart slice holds the records
pub record Reading (t ws : List ℕ) (room : ℕ) (before : List ℕ) : Type 0 where
  pub accepted : check_table t ≡ got tt
  pub short : length ws ≤ 64
  pub small : room ≤ 2000
  pub fits : 12 * room ≤ length before

-- what `Read` says beyond the checks of table and words, with a room
pub data Answered (t ws : List ℕ) (room : ℕ) (before : List ℕ) : ℕ → ℕ → ℕ → List ℕ → Type 0 where
  too_many : {after : List ℕ} → Over (grammar_of t) ws room → after ≡ cleared before → Answered t ws room before 16 room 0 after
  charted : {C : List (Entry Item)} {code place count : ℕ} {after : List ℕ} → ChartOf (grammar_of t) ws C → length C ≤ room
      → Verdict (grammar_of t) ws C code place → count ≡ length C → after ≡ laid C before → Answered t ws room before code place count after
