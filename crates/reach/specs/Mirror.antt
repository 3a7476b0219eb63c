-- Packed items entered into sets of ends: by its category and its first range. For categories of one part that is all there is of an item.
use Rattle.std.specs.Prelude.{◌≡◌, ◌⊎◌, ℕ, suc, ◌+◌, ◌*◌, ◌-◌, ◌≤◌, ◌<◌, length, get_or}
use mathlib.Core.List.{List, Memᴰ as Mem}
use Rattle.meaning.specs.Range.{Range, IsRange, Item}
use Rattle.store.specs.Set.{key_of}
use Rattle.store.specs.Code.{unpacked}
use Rattle.reach.specs.Bits.{Bit}
use Rattle.reach.specs.declared.known.First.{First}

-- the item of a code
abbrev pub item_at : ℕ → Item
item_at c = unpacked (key_of c)

-- a code's category and first range
pub record IsFirst (c : ℕ) (r : First) : Type 0 where
  pub category : r.category ≡ (item_at c).category
  pub from : r.from ≡ (item_at c).one.from
  pub to : r.to ≡ (item_at c).one.to

-- the code has a category from 1 to 64, and its first range is empty or one of at most 64 words
pub record Enters (c : ℕ) : Type 0 where
  pub low : 1 ≤ (item_at c).category
  pub high : (item_at c).category ≤ 64
  pub from : (item_at c).one.from < 64
  pub to : (item_at c).one.to ≤ 64

-- the code is entered as bit i of number n: by its category, its start and its end; an empty one by its category, in number 0
pub data Marks (c n i : ℕ) : Type 0 where
  with_words : n ≡ (item_at c).category * 64 + (item_at c).one.from → (item_at c).one.to ≡ suc i → Marks c n i
  with_none : n ≡ 0 → i ≡ (item_at c).category - 1 → (item_at c).one.to ≡ 0 → Marks c n i

-- b is a with the codes that P allows
pub record Entered (P : ℕ → Type 0) (a b : List ℕ) : Type 0 where
  pub size : length b ≡ length a
  pub keeps : (n i : ℕ) → Bit (get_or a n 0) i → Bit (get_or b n 0) i
  pub whole : (c n i : ℕ) → P c → Marks c n i → Bit (get_or b n 0) i
  pub sound : (n i : ℕ) → Bit (get_or b n 0) i → Bit (get_or a n 0) i ⊎ ((c : ℕ) × P c × Marks c n i)

-- the codes of a list, all of which can be entered, and room for them
pub record Room (l a : List ℕ) : Type 0 where
  pub each : (c : ℕ) → Mem c l → Enters c
  pub room : 4160 ≤ length a

-- nothing is entered
pub record Blank (a : List ℕ) : Type 0 where
  pub zero : (n : ℕ) → get_or a n 0 ≡ 0

-- the codes of K are items of the sentence: categories from 1 to 64, and first ranges that are ranges of at most 64 words
pub record Sensible (ws K : List ℕ) : Type 0 where
  pub short : length ws ≤ 64
  pub low : (c : ℕ) → Mem c K → 1 ≤ (item_at c).category
  pub high : (c : ℕ) → Mem c K → (item_at c).category ≤ 64
  pub range : (c : ℕ) → Mem c K → IsRange ws (item_at c).one

-- a code of K has this category and this first range
pub record HasFirst (K : List ℕ) (A : ℕ) (p : Range) : Type 0 where
  pub code : ℕ
  pub there : Mem code K
  pub kind : (item_at code).category ≡ A
  pub first : (item_at code).one ≡ p
