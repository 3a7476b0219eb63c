-- What a rule gives with daughters of which some are chosen, and the others are from the set K.
use Rattle.std.specs.Prelude.{◌≡◌, cond, ◌&&◌, ℕ, zero, suc, ◌+◌, ◌-◌, ◌*◌, ◌/◌, ◌%◌, ◌≤◌, ◌<◌, ltb, eqb, length, get_or}
use mathlib.Core.List.{List, [], ◌∷◌, Memᴰ as Mem}
use Rattle.meaning.specs.Order.{Each}
use Rattle.meaning.specs.Range.{Range, Item}
use Rattle.meaning.specs.Grammar.{Symbol}
use Rattle.meaning.specs.Table.{rank_of, category_of}
use Rattle.meaning.specs.Chart.{Known}
use Rattle.store.specs.Code.{unpacked, known_of}
use Rattle.phrase.specs.declared.items.Item.{Item as CodedItem}
use Rattle.phrase.specs.declared.items.Daughters.{Daughters}
use Rattle.phrase.specs.Phrase.{Has, row_of}
use Rattle.meaning.specs.Decode.{past, rule_at, rule_end, first_rule}
use Rattle.hint.specs.declared.Wants.{Wants}
use Rattle.hint.specs.Hint.{seat, Open, held_as, Partial, Completes, Does, Meets, Asks}
use Rattle.search.specs.declared.spots.Spots.{Spots}
use Rattle.search.specs.Spots.{Ordered, Inside}

-- the item of the code that a packed item is
abbrev pub coded : ℕ → CodedItem
coded c =
    let k5 : ℕ = c / 2048 in
    let k4 : ℕ = k5 / 128 in
    let k3 : ℕ = k4 / 128 in
    let k2 : ℕ = k3 / 128 in
    let k1 : ℕ = k2 / 128 in
    let k0 : ℕ = k1 / 128 in
    record { category = k0 / 128; height = c % 2048; ends = k0 % 128 ∷ k1 % 128 ∷ k2 % 128 ∷ k3 % 128 ∷ k4 % 128 ∷ k5 % 128 ∷ [] }

-- the daughters with x as daughter k
abbrev pub put : Daughters → ℕ → CodedItem → Daughters
put d zero x = record { count = d.count; one = x; two = d.two; three = d.three }
put d (suc zero) x = record { count = d.count; one = d.one; two = x; three = d.three }
put d (suc (suc k)) x = record { count = d.count; one = d.one; two = d.two; three = x }

-- an item with its height has its code in K
pub record In (k : Known Item) (K : List ℕ) : Type 0 where
  pub code : ℕ
  pub there : Mem code K
  pub is : known_of code ≡ k

-- the rule gives the item of key x, as the goal wants it, from the chosen daughters and others of K
pub record Tried (t ws : List ℕ) (rule : ℕ) (goal : CodedItem) (d : Daughters) (K : List ℕ) (x : ℕ) : Type 0 where
  pub full : List (Known Item)
  pub completes : Completes d full
  pub among : Each (λ k. In k K) full
  pub does : Does t ws rule goal full (unpacked x)

-- how many daughters are not chosen
abbrev pub open_at : Daughters → ℕ → ℕ
open_at d k = cond (ltb k d.count && eqb (seat d k).category 0) 1 0

abbrev pub opens : Daughters → ℕ
opens d = open_at d 0 + open_at d 1 + open_at d 2

-- how the daughters of a rule stand while it is tried: those that are chosen are of the set K, and left of them are not chosen
pub record Trying (t : List ℕ) (rule : ℕ) (d : Daughters) (K : List ℕ) (left : ℕ) : Type 0 where
  pub partial : Partial d
  pub count : d.count ≡ rank_of t rule
  pub drawn : (k : ℕ) → k < d.count → (Open d k → ⊥) → In (held_as (seat d k)) K
  pub fewer : left ≡ opens d

-- one of the ranges that a row can have does it
pub record Ranged (ws : List ℕ) (d : Daughters) (ss : List Symbol) (P : Range → ℕ → Type 0) (x : ℕ) : Type 0 where
  pub range : Range
  pub has : Has ws d ss range
  pub does : P range x

-- a key whose item has three ranges that the rule's rows can have
abbrev pub Offered : List ℕ → List ℕ → ℕ → Daughters → ℕ → Type 0
Offered t ws rule d =
    Ranged ws d (row_of t rule 0) (λ p. Ranged ws d (row_of t rule 1) (λ q. Ranged ws d (row_of t rule 2) (λ r x.
    unpacked x ≡ record { category = category_of t rule; one = p; two = q; three = r })))

-- a key's digits with those of a range after them
abbrev pub then_range : ℕ → Range → ℕ
then_range key r = (key * 128 + r.from) * 128 + r.to

-- a key that begins with these digits and goes on with a range of each of the rule's last rows, so many of three
abbrev pub Ranges : List ℕ → List ℕ → ℕ → Daughters → ℕ → ℕ → ℕ → Type 0
Ranges t ws rule d zero key x = x ≡ key
Ranges t ws rule d (suc rows) key x = Ranged ws d (row_of t rule (2 - rows)) (λ r. Ranges t ws rule d rows (then_range key r)) x

-- a range within a sentence of at most 64 words
pub record Short (r : Range) : Type 0 where
  pub from : r.from ≤ 64
  pub to : r.to ≤ 64

-- the spots have all known items that can be daughter k, as it is asked
pub record SpotsFor (t : List ℕ) (rule k : ℕ) (w : Wants) (K : List ℕ) (s : Spots) : Type 0 where
  pub ordered : Ordered s
  pub end : s.hi ≤ length K
  pub has : (p : ℕ) → p < length K → (known_of (get_or K p 0)).item.category ≡ get_or (rule_at t rule).daughters k 0 → Meets w (known_of (get_or K p 0)) → Inside s p

-- every daughter is chosen
abbrev pub AllChosen : Daughters → Type 0
AllChosen d = (k : ℕ) → k < d.count → Open d k → ⊥

-- the code c of the set is tried as daughter k, of which w is asked; left daughters more are not chosen
pub record Trial (t ws : List ℕ) (rule : ℕ) (goal : CodedItem) (d : Daughters) (K : List ℕ) (k left : ℕ) (w : Wants) (c : ℕ) : Type 0 where
  pub trying : Trying t rule d K (left + 1)
  pub below : k < d.count
  pub chooses : Open d k
  pub asks : Asks t ws rule d goal k w
  pub there : Mem c K

-- no item, at a height; and no daughters of so many
abbrev pub blank_item : ℕ → CodedItem
blank_item h = record { category = 0; height = h; ends = 0 ∷ 0 ∷ 0 ∷ 0 ∷ 0 ∷ 0 ∷ [] }

abbrev pub none_of : ℕ → Daughters
none_of n = record { count = n; one = blank_item 0; two = blank_item 0; three = blank_item 0 }

-- one of the first n rules gives the item of key x from known items, of which the tallest has height h
pub record ByRules (t ws K : List ℕ) (h n x : ℕ) : Type 0 where
  pub index : ℕ
  pub below : index < n
  pub tried : Tried t ws (past index (rule_end t) (first_rule t)) (blank_item (h + 1)) (none_of (rank_of t (past index (rule_end t) (first_rule t)))) K x
