-- A rule some of whose daughters are chosen, the others being of one part: what it gives from the chosen ones and some known ones.
use Rattle.std.specs.Prelude.{◌≡◌, ℕ, ◌<◌, length, get_or}
use mathlib.Core.List.{List, Memᴰ as Mem}
use Rattle.meaning.specs.Range.{Range, none, Item, nothing}
use Rattle.meaning.specs.Grammar.{Rule, Grammar, dimension}
use Rattle.meaning.specs.Giving.{Gives}
use Rattle.meaning.specs.Order.{Each}

-- a phrase of one part
abbrev pub single : ℕ → Range → Item
single A p = record { category = A; one = p; two = none; three = none }

-- what the rule asks: chosen daughters are of its categories, and what is not chosen is of a category of one part
pub record Partly (G : Grammar) (r : Rule) (free : ℕ → ℕ) (ds : List Item) : Type 0 where
  pub known : Mem r G.rules
  pub size : length ds ≡ length r.daughters
  pub chosen : (k : ℕ) → free k ≡ 0 → (get_or ds k nothing).category ≡ get_or r.daughters k 0
  pub unchosen : (k : ℕ) → (free k ≡ 0 → ⊥) → (k < length ds) × (free k ≡ get_or r.daughters k 0) × (dimension G (free k) ≡ 1)

-- full is ds, with a known phrase for each daughter that is not chosen
pub record Fills (K : ℕ → Range → Type 0) (free : ℕ → ℕ) (ds full : List Item) : Type 0 where
  pub size : length full ≡ length ds
  pub keeps : (k : ℕ) → free k ≡ 0 → get_or full k nothing ≡ get_or ds k nothing
  pub fills : (k : ℕ) → (free k ≡ 0 → ⊥) → (p : Range) × K (free k) p × (get_or full k nothing ≡ single (free k) p)

-- the rule gives x from the chosen daughters and some known ones
pub record GivesSome (G : Grammar) (ws : List ℕ) (r : Rule) (K : ℕ → Range → Type 0) (free : ℕ → ℕ) (ds : List Item) (x : Item) : Type 0 where
  pub full : List Item
  pub fills : Fills K free ds full
  pub gives : Gives G ws r full x

-- the rule gives x from known items, the chosen ones being as they are in ds
pub record GivesFrom (G : Grammar) (ws : List ℕ) (r : Rule) (In : Item → Type 0) (free : ℕ → ℕ) (ds : List Item) (x : Item) : Type 0 where
  pub full : List Item
  pub size : length full ≡ length ds
  pub among : Each In full
  pub keeps : (k : ℕ) → free k ≡ 0 → get_or full k nothing ≡ get_or ds k nothing
  pub gives : Gives G ws r full x
