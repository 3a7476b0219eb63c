-- The walk over functions and daughter places: what leads to an item, where a daughter is looked for, and what has been passed.
use Rattle.std.specs.Prelude.{◌≡◌, cond, ℕ, ◌≤◌, ◌<◌, ◌^◌, ltb, length, get_or, Option, Some, None}
use mathlib.Core.List.{List, Memᴰ as Mem}
use Rattle.meaning.specs.Range.{Item}
use Rattle.meaning.specs.Chart.{Known}
use Rattle.meaning.specs.Table.{rank_of}
use Rattle.store.specs.Set.{Sorted}
use Rattle.store.specs.Code.{known_of}
use Rattle.phrase.specs.declared.items.Item.{Item as CodedItem}
use Rattle.phrase.specs.declared.items.Daughters.{Daughters}
use Rattle.phrase.specs.Phrase.{item_of, RuleOf}
use Rattle.hint.specs.Hint.{Open, Partial, Completes, Does, Meets}
use Rattle.search.specs.Spots.{Ordered, Inside}
use Rattle.search.specs.Tried.{coded, put, none_of}
use Rattle.chosen.specs.declared.looking.Look.{Look}
use Rattle.chosen.specs.declared.walk.Way.{Way}

-- over how many places daughter k is walked: the known items, or place 0 alone where the rule has no such daughter
abbrev pub seats : Daughters → ℕ → List ℕ → ℕ
seats d k K = cond (ltb k d.count) (length K) 1

-- the daughters with a known item as daughter k, where the rule has such a daughter
abbrev pub taken : Daughters → ℕ → ℕ → Daughters
taken d k c = cond (ltb k d.count) (put d k (coded c)) d

-- the rule gives the goal, with the right heights, from the daughters that are chosen and some others
pub record Leads (t ws : List ℕ) (rule : ℕ) (goal : CodedItem) (d : Daughters) : Type 0 where
  pub full : List (Known Item)
  pub completes : Completes d full
  pub does : Does t ws rule goal full (item_of goal)

-- the first k daughters of the rule are chosen, and no other
pub record Seated (t : List ℕ) (rule : ℕ) (d : Daughters) (k : ℕ) : Type 0 where
  pub partial : Partial d
  pub count : d.count ≡ rank_of t rule
  pub chosen : (j : ℕ) → j < k → j < d.count → Open d j → ⊥
  pub free : (j : ℕ) → k ≤ j → j < 3 → Open d j

-- daughter k is looked for: no place that leads to the goal is left out, and each that does is as asked
pub record Seeks (t ws : List ℕ) (rule : ℕ) (goal : CodedItem) (d : Daughters) (k : ℕ) (K : List ℕ) (l : Look) : Type 0 where
  pub chosen : l.chosen ≡ d
  pub turn : l.turn ≡ k
  pub seated : Seated t rule d k
  pub ordered : Ordered l.spots
  pub end : l.spots.hi ≤ length K
  pub within : l.spots.hi ≤ seats d k K
  pub has : (p : ℕ) → p < seats d k K → Leads t ws rule goal (taken d k (get_or K p 0)) → Inside l.spots p
  pub asks : (p : ℕ) → p < seats d k K → Leads t ws rule goal (taken d k (get_or K p 0)) → Meets l.wants (known_of (get_or K p 0))

-- the first n places are walked, with nothing asked
pub record Only (d : Daughters) (k n : ℕ) (l : Look) : Type 0 where
  pub chosen : l.chosen ≡ d
  pub turn : l.turn ≡ k
  pub spots : l.spots ≡ record { lo = 0; gap = n; resume = n; hi = n }
  pub any : (c : ℕ) → Meets l.wants (known_of c)

-- what is known while daughters of a goal are looked for
pub record Looking (K : List ℕ) (goal : CodedItem) : Type 0 where
  pub sorted : Sorted K
  pub some : 0 < length K
  pub most : length K ≤ 2000
  pub codes : (c : ℕ) → Mem c K → (1 ≤ (known_of c).item.category) × (c < 2 ^ 60)
  pub high : 1 ≤ goal.height
  pub named : goal.category ≡ 0 → ⊥

-- a place is taken of those where a daughter is looked for
pub record Onward (t ws : List ℕ) (rule : ℕ) (goal : CodedItem) (K : List ℕ) (l : Look) (place : ℕ) : Type 0 where
  pub seeks : Seeks t ws rule goal l.chosen l.turn K l
  pub below : place < l.spots.hi

module _ (t ws order K : List ℕ) (goal : CodedItem) where
  abbrev pub rule_of : ℕ → ℕ
  rule_of f = get_or order f 0

  -- the daughters of function f before any, and after one, two and three are chosen
  abbrev pub zeroth : ℕ → Daughters
  zeroth f = none_of (rank_of t (rule_of f))

  abbrev pub first : ℕ → ℕ → Daughters
  first f a = taken (zeroth f) 0 (get_or K a 0)

  abbrev pub second : ℕ → ℕ → ℕ → Daughters
  second f a b = taken (first f a) 1 (get_or K b 0)

  abbrev pub third : ℕ → ℕ → ℕ → ℕ → Daughters
  third f a b c = taken (second f a b) 2 (get_or K c 0)

  -- 'functions with daughters that are true items, give exactly this item, and have greatest height one less than its own'
  pub record Works (f a b c : ℕ) : Type 0 where
    pub one : a < seats (zeroth f) 0 K
    pub two : b < seats (first f a) 1 K
    pub three : c < seats (second f a b) 2 K
    pub leads : Leads t ws (rule_of f) goal (third f a b c)

  -- some daughters work, where the first are chosen
  abbrev pub Works₂ : ℕ → ℕ → ℕ → Type 0
  Works₂ f a b = (c : ℕ) × Works f a b c

  abbrev pub Works₁ : ℕ → ℕ → Type 0
  Works₁ f a = (b : ℕ) × Works₂ f a b

  abbrev pub Works₀ : ℕ → Type 0
  Works₀ f = (a : ℕ) × Works₁ f a

  -- nothing before f a b c works
  pub record Passed (f a b c : ℕ) : Type 0 where
    pub functions : (g : ℕ) → g < f → Works₀ g → ⊥
    pub ones : (p : ℕ) → p < a → Works₁ f p → ⊥
    pub twos : (p : ℕ) → p < b → Works₂ f a p → ⊥
    pub threes : (p : ℕ) → p < c → Works f a b p → ⊥

  -- 'take the first function number, then the first sequence of daughters in chart order'
  pub data Finds : Option Way → Type 0 where
    found : {w : Way} → w.function < length order → Works w.function w.one w.two w.three → Passed w.function w.one w.two w.three → Finds (Some w)
    nowhere : ((f : ℕ) → f < length order → Works₀ f → ⊥) → Finds None

-- what is known when a goal's daughters are walked for
pub record Walking (t ws order K : List ℕ) (goal : CodedItem) : Type 0 where
  pub looking : Looking K goal
  pub few : length order ≤ 256
  pub rules : (f : ℕ) → f < length order → RuleOf t (get_or order f 0)
