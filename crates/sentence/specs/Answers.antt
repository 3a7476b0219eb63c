-- The sentence writer's answer as numbers: document 01, 'Numbers handed back'; and what the code finds over noted nodes.
use Rattle.std.specs.Prelude.{ℕ, ◌≤◌, ◌<◌, ◌≡◌, List, ◌++◌, length, drop, Result, Ok, Err}
use Rattle.std.proofs.Math.Option.{none, some}
use Rattle.meaning.specs.Refusals as refusal
use Rattle.sentence.specs.declared.refusal.SentenceRefusal.{SentenceRefusal}
use Rattle.sentence.specs.declared.refusal.SentenceRefusal.TheVariants.{Table, TreeList, TextRoom}
use Rattle.sentence.specs.Nodes.{walked}
use Rattle.sentence.specs.Speech.{whole}

-- the column 'Code': a table's refusal has its own; '20 Tree list'; '21 Text room'; 'code 0'
abbrev pub code_of : Result ℕ SentenceRefusal → ℕ
code_of (Err (Table r)) = refusal.code_of r
code_of (Err (TreeList p)) = 20
code_of (Err (TextRoom n)) = 21
code_of (Ok n) = 0

-- the column 'Place': 'node index'; 'words needed'; 'place 0'
abbrev pub place_of : Result ℕ SentenceRefusal → ℕ
place_of (Err (Table r)) = refusal.place_of r
place_of (Err (TreeList p)) = p
place_of (Err (TextRoom n)) = n
place_of (Ok n) = 0

-- 'answers their number as count'; 'A refusal has count 0.'
abbrev pub count_of : Result ℕ SentenceRefusal → ℕ
count_of (Err (Table r)) = 0
count_of (Err (TreeList p)) = 0
count_of (Err (TextRoom n)) = 0
count_of (Ok n) = n

-- the words are written, or there is no room for them
pub data Finished (ws before : List ℕ) : ℕ → ℕ → ℕ → List ℕ → Type 0 where
  cramped : {n : ℕ} {after : List ℕ} → n ≡ length ws → length before < n → after ≡ before → Finished ws before 21 n 0 after
  written : {n : ℕ} {after : List ℕ} → n ≡ length ws → n ≤ length before → after ≡ ws ++ drop n before → Finished ws before 0 0 n after

-- the nodes are walked, and where nothing is wrong their words are written
pub data Judged (t ns before : List ℕ) : ℕ → ℕ → ℕ → List ℕ → Type 0 where
  astray : {i : ℕ} {after : List ℕ} → walked t ns ≡ some i → after ≡ before → Judged t ns before 20 i 0 after
  sound : {c p n : ℕ} {after : List ℕ} → walked t ns ≡ none → Finished (whole t ns) before c p n after → Judged t ns before c p n after
