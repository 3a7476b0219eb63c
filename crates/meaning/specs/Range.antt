-- Ranges of a sentence, how they join, and items: document 01, 'Phrases'.
use Rattle.std.specs.Prelude.{◌≡◌, ◌⊎◌, List, [], ◌∷◌, Bool, cond, ◌&&◌, ℕ, ◌≤◌, ◌<◌, eqb, length, get_or}
use Rattle.std.proofs.Math.Option.{Option, none as apart, some as just}
use Rattle.std.proofs.Math.Seq.{slice}

-- 'words s up to but not including e, from 0'
pub record Range : Type 0 where
  pub from : ℕ
  pub to : ℕ

-- 'The empty string has one range, written (0, 0), wherever it arises.' It stands too where a range is not used.
abbrev pub none : Range
none = record { from = 0; to = 0 }

-- 'Range (s, e) with s < e ≤ n', or the empty string's
abbrev pub IsRange : List ℕ → Range → Type 0
IsRange ws r = (r ≡ none) ⊎ ((r.from < r.to) × (r.to ≤ length ws))

-- c is exactly the words of the range r of the sentence
pub record Spans (ws : List ℕ) (r : Range) (c : List ℕ) : Type 0 where
  pub range : IsRange ws r
  pub words : slice r.from r.to ws ≡ c

abbrev pub is_none : Range → Bool
is_none p = eqb p.from 0 && eqb p.to 0

-- 'Joining: (0, 0) on either side gives the other range; (s, e) with (e, f) gives (s, f); other pairs don't join': they stay `apart`
unfoldable pub joined : Range → Range → Option Range
joined p q =
    cond (is_none p) (just q)
    (cond (is_none q) (just p)
    (cond (eqb p.to q.from) (just (record { from = p.from; to = q.to }))
    apart))

-- 'An item is a category and its one to three ranges, held together.'
pub record Item : Type 0 where
  pub category : ℕ
  pub one : Range
  pub two : Range
  pub three : Range

-- what is found where there is no item
abbrev pub nothing : Item
nothing = record { category = 0; one = none; two = none; three = none }

-- range i of an item, from 0; the empty one past the third (a variable `at` is always a place in a table)
abbrev pub at : Item → ℕ → Range
at x i = get_or (x.one ∷ x.two ∷ x.three ∷ []) i none

-- 'Chart order is by category, then the six range numbers as they stand.'
unfoldable pub numbers : Item → List ℕ
numbers x = x.category ∷ x.one.from ∷ x.one.to ∷ x.two.from ∷ x.two.to ∷ x.three.from ∷ x.three.to ∷ []

-- which items count as phrases: all of them ('Each constituent is judged by itself, so ranges of one item may share words.')
unfoldable pub Counts : Item → Type 0
Counts x = Unit {0}
