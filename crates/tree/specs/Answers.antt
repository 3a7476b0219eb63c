-- The tree writer's answer as numbers: document 01, 'Numbers handed back'; and what the code finds once table and words are accepted.
use Rattle.std.specs.Prelude.{ℕ, ◌≤◌, ◌<◌, ◌≡◌, List, ◌++◌, length, drop, Result, Ok, Err}
use Rattle.meaning.specs.Refusals as refusal
use Rattle.meaning.specs.Decode.{grammar_of}
use Rattle.meaning.specs.TreeWriting.{TooMany, Passes, FirstBad, nodes, tree_room}
use Rattle.tree.specs.declared.answer.TreeRefusal.{TreeRefusal}
use Rattle.tree.specs.declared.answer.TreeRefusal.TheVariants.{Input, Chart, Place, TreeRoom}

-- the column 'Code': a refusal of the table or the words has its own; '17 Chart'; '18 Place'; '19 Tree room'; 'code 0'
abbrev pub code_of : Result ℕ TreeRefusal → ℕ
code_of (Ok n) = 0
code_of (Err (Input r)) = refusal.code_of r
code_of (Err (Chart i)) = 17
code_of (Err (Place root)) = 18
code_of (Err (TreeRoom room)) = 19

-- the column 'Place': 'first bad record, or 0'; 'the root'; 'the room'; 'place 0'
abbrev pub place_of : Result ℕ TreeRefusal → ℕ
place_of (Ok n) = 0
place_of (Err (Input r)) = refusal.place_of r
place_of (Err (Chart i)) = i
place_of (Err (Place root)) = root
place_of (Err (TreeRoom room)) = room

-- 'The tree writer answers likewise with its nodes.' 'A refusal has count 0.'
abbrev pub count_of : Result ℕ TreeRefusal → ℕ
count_of (Ok n) = n
count_of (Err r) = 0

-- the numbers are written, or there is no room for them
pub data Fitted (ns : List ℕ) (room : ℕ) (before : List ℕ) : ℕ → ℕ → ℕ → List ℕ → Type 0 where
  cramped : {r : ℕ} {after : List ℕ} → r ≡ room → room < length ns → after ≡ before → Fitted ns room before 19 r 0 after
  written : {n : ℕ} {after : List ℕ} → n ≡ length ns → n ≤ room → after ≡ ns ++ drop n before → Fitted ns room before 0 0 n after

-- the root's tree is written, or there is no room for it, or there is no root
pub data Rooted (t c : List ℕ) (count root : ℕ) (before : List ℕ) : ℕ → ℕ → ℕ → List ℕ → Type 0 where
  outside : {after : List ℕ} → count ≤ root → after ≡ before → Rooted t c count root before 18 root 0 after
  inside : {d p n : ℕ} {after : List ℕ} → root < count → Fitted (nodes (grammar_of t) c count root) (tree_room before) before d p n after
      → Rooted t c count root before d p n after

-- the chart is checked, and where it passes the root's tree is written
pub data Judged (t ws c : List ℕ) (count root : ℕ) (before : List ℕ) : ℕ → ℕ → ℕ → List ℕ → Type 0 where
  many : {after : List ℕ} → TooMany c count → after ≡ before → Judged t ws c count root before 17 0 0 after
  bad : {i : ℕ} {after : List ℕ} → FirstBad (grammar_of t) ws c count i → after ≡ before → Judged t ws c count root before 17 i 0 after
  passed : {d p n : ℕ} {after : List ℕ} → Passes (grammar_of t) ws c count → Rooted t c count root before d p n after
      → Judged t ws c count root before d p n after
