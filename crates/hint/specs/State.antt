-- What is known of a place between two symbols of a row, as the code walks the row from its left side, or back from its right side: how it
-- moves over a symbol, and what may be asked of a part there. That this leaves out only what gives nothing is proved in proofs/.
use Rattle.std.specs.Prelude.{ℕ, ◌-◌, ◌<◌, ◌≤◌, ◌≡◌, ◌⊎◌, List, Option, Some as just, None as nobody}
use Rattle.meaning.specs.Range.{Range, none, at}
use Rattle.meaning.specs.Grammar.{Symbol, part}
use Rattle.meaning.specs.Giving.{Run, Stands}
use Rattle.phrase.specs.declared.items.Item.{Item as CodedItem}
use Rattle.phrase.specs.declared.items.Daughters.{Daughters}
use Rattle.phrase.specs.Phrase.{item_of, held_of}
use Rattle.hint.specs.declared.Want.{Want}
use Rattle.hint.specs.declared.Wants.{Wants}
use Rattle.hint.specs.declared.Place.{Place}
use Rattle.hint.specs.declared.Place.TheVariants.{At}
use Rattle.hint.specs.declared.steps.Side.{Side}
use Rattle.hint.specs.declared.steps.Side.TheVariants.{Left, Right}
use Rattle.hint.specs.Hint.{seat, Open, As, PartMeets}

-- the place n is as what is known of it says
abbrev pub Agrees : Place → ℕ → Type 0
Agrees = As

-- the range has words in it
abbrev pub Some : Range → Type 0
Some r = r.from < r.to

-- the end of a range that a walk from this side comes to first, and the one that it comes to last
abbrev pub near : Side → Range → ℕ
near Left r = r.from
near Right r = r.to

abbrev pub far : Side → Range → ℕ
far Left r = r.to
far Right r = r.from

-- the number, from the left, of the symbol that the walk comes to after i others of n
abbrev pub index : Side → ℕ → ℕ → ℕ
index Left i n = i
index Right i n = n - 1 - i

-- a range that is not empty starts, or ends, as is known
abbrev pub SideAs : Side → Place → Range → Type 0
SideAs side s r = Some r → Agrees s (near side r)

-- over the range p what is known moves from s to s': an empty one leaves it; over another it comes from the near end to the far one
pub record Moves (p : Range) (near far : ℕ) (s s' : Place) : Type 0 where
  pub empty : p ≡ none → (n : ℕ) → Agrees s n → Agrees s' n
  pub full : Some p → Agrees s near → Agrees s' far

-- the constituents e are those of the daughters, where these are chosen
abbrev pub Knows : Daughters → (ℕ → ℕ → Range) → Type 0
Knows d e = (k c : ℕ) → (Open d k → ⊥) → e k c ≡ held_of d k c

-- what is known moves over a symbol, wherever this can stand, on the way from a side
abbrev pub MovesOver : Side → List ℕ → Daughters → Symbol → Place → Place → Type 0
MovesOver side ws d x s s' = (e : ℕ → ℕ → Range) (p : Range) → Knows d e → Stands ws e x p → Moves p (near side p) (far side p) s s'

-- a daughter's parts are as asked
pub record PartsMeet (w : Wants) (f : ℕ → Range) : Type 0 where
  pub one : PartMeets w.one (f 0)
  pub two : PartMeets w.two (f 1)
  pub three : PartMeets w.three (f 2)

-- the first part is asked for at a start, and not at 0, where what is empty counts as starting
pub record StartAsked (w : Wants) (from : ℕ) : Type 0 where
  pub is : w.one.from ≡ At from
  pub low : 1 ≤ from
  pub high : from < 128

-- w' asks more than w, but of parts f that have P nothing that they do not meet
pub record Sharper (P : (ℕ → Range) → Type 0) (w w' : Wants) : Type 0 where
  pub low : w'.low ≡ w.low
  pub high : w'.high ≡ w.high
  pub parts : (f : ℕ → Range) → P f → PartsMeet w f → PartsMeet w' f

-- v wants more than w of a part, but nothing that is not met by one that is empty or starts, or ends, at a place
abbrev pub Sharpens : Side → Place → Want → Want → Type 0
Sharpens side place w v = (r : Range) → (r ≡ none) ⊎ As place (near side r) → PartMeets w r → PartMeets v r

-- the symbol, if it is one of the parts f of daughter k and is not empty, starts, or ends, as asked
abbrev pub PartAs : Side → ℕ → Symbol → Place → (ℕ → Range) → Type 0
PartAs side k x place f = (c : ℕ) → x ≡ part k c → (f c ≡ none) ⊎ As place (near side (f c))

-- f are the parts of daughter k in a way to run a row, whose range has P
pub record Ways (ws : List ℕ) (d : Daughters) (k : ℕ) (ss : List Symbol) (P : Range → Type 0) (f : ℕ → Range) : Type 0 where
  pub parts : ℕ → ℕ → Range
  pub knows : Knows d parts
  pub these : parts k ≡ f
  pub range : Range
  pub run : Run (Stands ws parts) ss range
  pub fits : P range

-- the range is one that row i of the wanted item may have: any, where the item's category is 0
abbrev pub Wanted : CodedItem → ℕ → Range → Type 0
Wanted goal i r = (goal.category ≡ 0 → ⊥) → r ≡ at (item_of goal) i

-- daughter j, if it is another than k and there, is chosen and lower than the greatest height
abbrev pub Low : Daughters → ℕ → ℕ → ℕ → Type 0
Low d k high j = j < d.count → (j ≡ k → ⊥) → (Open d j → ⊥) × ((seat d j).height < high)

-- the least height that is asked: none, or the greatest, where no other daughter has it
abbrev pub LeastAsked : Daughters → ℕ → ℕ → ℕ → Type 0
LeastAsked d k high low = (low ≡ 0) ⊎ ((low ≡ high) × ((j : ℕ) → Low d k high j))

-- the daughter, if one is named, is there and not chosen
abbrev pub Named : Daughters → Option ℕ → Type 0
Named d (just k) = (k < d.count) × Open d k
Named d nobody = Unit {0}
