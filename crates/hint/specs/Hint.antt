-- What the daughters that are chosen, and the item that is wanted, ask of a daughter that is not chosen yet: whoever is left out gives nothing.
use Rattle.std.specs.Prelude.{ℕ, zero, suc, ◌≤◌, ◌<◌, ◌≡◌, ◌⊎◌, List, length, get_or, Option, Some, None}
use Rattle.meaning.specs.Range.{Range, none, Item, nothing}
use Rattle.meaning.specs.Giving.{Gives}
use Rattle.meaning.specs.Chart.{Known, things, tallest}
use Rattle.meaning.specs.Decode.{grammar_of, rule_at}
use Rattle.store.specs.Set.{Within}
use Rattle.store.specs.Code.{known_of}
use Rattle.phrase.specs.declared.items.Item.{Item as CodedItem}
use Rattle.phrase.specs.declared.items.Daughters.{Daughters}
use Rattle.phrase.specs.Phrase.{item_of}
use Rattle.hint.specs.declared.Place.{Place}
use Rattle.hint.specs.declared.Place.TheVariants.{Any, At, Nowhere}
use Rattle.hint.specs.declared.Want.{Want}
use Rattle.hint.specs.declared.Wants.{Wants}
use Rattle.hint.specs.declared.Reach.{Reach}

-- daughter k as it stands; one that is not chosen yet has category 0
abbrev pub seat : Daughters → ℕ → CodedItem
seat d zero = d.one
seat d (suc zero) = d.two
seat d (suc (suc k)) = d.three

abbrev pub Open : Daughters → ℕ → Type 0
Open d k = (seat d k).category ≡ 0

-- an item of the code with its height
abbrev pub held_as : CodedItem → Known Item
held_as x = record { item = item_of x; height = x.height }

abbrev pub unknown : Known Item
unknown = record { item = nothing; height = 0 }

-- daughters of which some are not chosen: what is not chosen, or past the count, is blank
pub record Partial (d : Daughters) : Type 0 where
  pub few : d.count ≤ 3
  pub past : (k : ℕ) → d.count ≤ k → k < 3 → Open d k
  pub blank : (k : ℕ) → k < 3 → Open d k → (seat d k).height ≡ 0

-- full has the daughters that are chosen, and one for each that is not
pub record Completes (d : Daughters) (full : List (Known Item)) : Type 0 where
  pub size : length full ≡ d.count
  pub keeps : (k : ℕ) → k < d.count → (Open d k → ⊥) → get_or full k unknown ≡ held_as (seat d k)

-- the rule gives x from the daughters full, at the goal's height; where the goal's category is not 0, x is the goal
pub record Does (t ws : List ℕ) (rule : ℕ) (goal : CodedItem) (full : List (Known Item)) (x : Item) : Type 0 where
  pub gives : Gives (grammar_of t) ws (rule_at t rule) (things full) x
  pub high : goal.height ≡ suc (tallest full)
  pub same : (goal.category ≡ 0 → ⊥) → x ≡ item_of goal

-- a number is as asked
abbrev pub As : Place → ℕ → Type 0
As Any n = Unit {0}
As (At e) n = n ≡ e
As Nowhere n = ⊥

-- a part is empty, or starts and ends as asked
abbrev pub PartMeets : Want → Range → Type 0
PartMeets w r = (r ≡ none) ⊎ (As w.from r.from × As w.to r.to)

-- a daughter is as asked
pub record Meets (w : Wants) (k : Known Item) : Type 0 where
  pub low : w.low ≤ k.height
  pub high : k.height ≤ w.high
  pub one : PartMeets w.one k.item.one
  pub two : PartMeets w.two k.item.two
  pub three : PartMeets w.three k.item.three

-- what is asked of daughter k leaves out only what gives nothing
abbrev pub Asks : List ℕ → List ℕ → ℕ → Daughters → CodedItem → ℕ → Wants → Type 0
Asks t ws rule d goal k w = (full : List (Known Item)) (x : Item) → Completes d full → Does t ws rule goal full x → Meets w (get_or full k unknown)

-- the daughter that is chosen next, or that all are chosen
pub data Turns (d : Daughters) : Option ℕ → Type 0 where
  next_is : {k : ℕ} → k < d.count → Open d k → Turns d (Some k)
  all_chosen : ((k : ℕ) → k < d.count → Open d k → ⊥) → Turns d None

-- the codes of a category that are as asked stand within two parts, the first before the second
pub record Reaches (A : ℕ) (w : Wants) (r : Reach) : Type 0 where
  pub order : (r.low ≤ r.high) × (r.high ≤ r.low2) × (r.low2 ≤ r.high2)
  pub inside : (c : ℕ) → (known_of c).item.category ≡ A → Meets w (known_of c) → Within r.low r.high c ⊎ Within r.low2 r.high2 c
