-- What the theorems across calls say, besides the calls' own definitions: of a written tree, of heights, of a table's first bytes, and of
-- a text that is read as a sentence.
use Rattle.std.specs.Prelude.{◌≡◌, List, ℕ, ◌%◌, ◌≤◌, ◌<◌, length, take}
use Rattle.meaning.specs.Range.{Item}
use Rattle.meaning.specs.Grammar.{Grammar, Tree, levels, functions}
use Rattle.meaning.specs.Giving.{Makes}
use Rattle.meaning.specs.Chart.{Known}
use Rattle.meaning.specs.Decode.{words_of}
use Rattle.meaning.specs.SentenceWriting.{Reads, words}

-- a tree that makes a known item, of as many levels as its height says, and its list
pub record Grown (G : Grammar) (ws : List ℕ) (k : Known Item) (ns : List ℕ) : Type 0 where
  pub tree : Tree
  pub makes : Makes G ws tree k.item
  pub high : levels tree ≡ k.height
  pub list : functions tree ≡ ns

-- a tree that makes an item, with the fewest levels of all that do, and its list
pub record Fewest (G : Grammar) (ws : List ℕ) (x : Item) (ns : List ℕ) : Type 0 where
  pub tree : Tree
  pub makes : Makes G ws tree x
  pub list : functions tree ≡ ns
  pub fewest : (u : Tree) → Makes G ws u x → levels tree ≤ levels u

-- the list is that of a tree of the start category that says these words
pub record Spells (G : Grammar) (ws ns : List ℕ) : Type 0 where
  pub tree : Tree
  pub reads : Reads G ns tree
  pub says : words tree ≡ ws

-- 'All heights up to the greatest occur, so none passes the count': of n records, of which record i has the height `high i`
pub record Climbs (n : ℕ) (high : ℕ → ℕ) : Type 0 where
  pub occur : (i h : ℕ) → i < n → 1 ≤ h → h ≤ high i → (j : ℕ) × (j < n) × (high j ≡ h)
  pub count : (i : ℕ) → i < n → high i ≤ n

-- 'a program that reads the first 40,000 bytes'
abbrev pub enough : ℕ
enough = 40000

abbrev pub first_bytes : List ℕ → List ℕ
first_bytes t = take enough t

-- the first m numbers of a text, 'whose words number 64 or fewer', lent as the bytes w
pub record LentAs (text : List ℕ) (m : ℕ) (w : List ℕ) : Type 0 where
  pub few : m ≤ 64
  pub even : length w % 2 ≡ 0
  pub same : words_of w ≡ take m text
