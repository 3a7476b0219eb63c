-- Charts: document 01, 'Phrases' (height, chosen rule and daughters) and 'The chart'. First over any items A, an order of them (Ahead),
-- what is made in a number of levels (MadeIn), and what a function number gives from daughters (GivenAs); then for a sentence.
use Rattle.std.specs.Prelude.{◌≡◌, ℕ, suc, ◌≤◌, max, get_or}
use Rattle.std.proofs.Math.Option.{some as just}
use mathlib.Core.List.{List, [], ◌∷◌, ◌++◌, map, Memᴰ as Mem}
use Rattle.std.proofs.Math.ListN.{get_elem?}
use Rattle.meaning.specs.Order.{Each, Sorted, Lex}
use Rattle.meaning.specs.Range.{Item, numbers}
use Rattle.meaning.specs.Grammar.{Rule, Grammar, Tree, levels}
use Rattle.meaning.specs.Giving.{Makes, Gives}

-- an item with its height
pub record Known (A : Type 0) : Type 0 where
  pub item : A
  pub height : ℕ

-- with its chosen function and the places of its chosen daughters
pub record Entry (A : Type 0) : Type 0 where
  pub known : Known A
  pub function : ℕ
  pub places : List ℕ

abbrev pub item : {A : Type 0} → Known A → A
item d = d.item

abbrev pub things : {A : Type 0} → List (Known A) → List A
things ds = map item ds

abbrev pub entry_known : {A : Type 0} → Entry A → Known A
entry_known e = e.known

abbrev pub item_of : {A : Type 0} → Entry A → A
item_of e = e.known.item

abbrev pub knowns : {A : Type 0} → List (Entry A) → List (Known A)
knowns C = map entry_known C

abbrev pub items : {A : Type 0} → List (Entry A) → List A
items C = map item_of C

-- the daughters' greatest height; 0 without daughters
unfoldable pub tallest : {A : Type 0} → List (Known A) → ℕ
tallest [] = 0
tallest (d ∷ ds) = max d.height (tallest ds)

-- the function f, with the daughters at the places ps of L, gives 'exactly this item', and they 'have greatest height one less than its own'
pub record Way {A : Type 0} (GivenAs : ℕ → List A → A → Type 0) (L : List (Known A)) (e : Known A) (f : ℕ) (ps : List ℕ) : Type 0 where
  pub daughters : List (Known A)
  pub found : map (get_elem? L) ps ≡ map just daughters
  pub given : GivenAs f (things daughters) e.item
  pub high : e.height ≡ suc (tallest daughters)

-- 'An item's height is the fewest levels of any tree that makes it true'
pub record Least {A : Type 0} (MadeIn : A → ℕ → Type 0) (e : Known A) : Type 0 where
  pub made : MadeIn e.item e.height
  pub least : (m : ℕ) → MadeIn e.item m → e.height ≤ m

-- 'take the first function number, then the first sequence of daughters in chart order'; its rivals are the ways to exactly this height
pub record Chosen {A : Type 0} (GivenAs : ℕ → List A → A → Type 0) (L : List (Known A)) (e : Entry A) : Type 0 where
  pub way : Way GivenAs L e.known e.function e.places
  pub first : (f : ℕ) (ps : List ℕ) → Way GivenAs L e.known f ps → Lex (f ∷ ps) (e.function ∷ e.places) → ⊥

-- 'all true items stand once each in order'
pub record IsChart {A : Type 0} (Ahead : A → A → Type 0) (MadeIn : A → ℕ → Type 0) (GivenAs : ℕ → List A → A → Type 0) (C : List (Entry A)) : Type 0 where
  pub sorted : Sorted Ahead (items C)
  pub whole : (x : A) (m : ℕ) → MadeIn x m → Mem x (items C)
  pub heights : Each (λ e. Least MadeIn e.known) C
  pub choices : Each (Chosen GivenAs (knowns C)) C

-- 'Chart order'
unfoldable pub Before : Item → Item → Type 0
Before x y = Lex (numbers x) (numbers y)

-- a tree of m levels makes x true
unfoldable pub Made : Grammar → List ℕ → Item → ℕ → Type 0
Made G ws x m = (t : Tree) × Makes G ws t x × (levels t ≡ m)

unfoldable pub GivenBy : Grammar → List ℕ → ℕ → List Item → Item → Type 0
GivenBy G ws f ds x = (r : Rule) × (r.function ≡ f) × Gives G ws r ds x

abbrev pub ChartOf : Grammar → List ℕ → List (Entry Item) → Type 0
ChartOf G ws C = IsChart Before (Made G ws) (GivenBy G ws) C

-- 'Each record is twelve two-byte numbers: category, function, height, three ranges as start and end, three daughters' places (from 0).
-- Unused ranges and places are 0.'
unfoldable pub shown : Entry Item → List ℕ
shown e =
    let x : Item = e.known.item in
    x.category ∷ e.function ∷ e.known.height
    ∷ x.one.from ∷ x.one.to ∷ x.two.from ∷ x.two.to ∷ x.three.from ∷ x.three.to
    ∷ get_or e.places 0 0 ∷ get_or e.places 1 0 ∷ get_or e.places 2 0 ∷ []

unfoldable pub records : List (Entry Item) → List ℕ
records [] = []
records (e ∷ C) = shown e ++ records C
