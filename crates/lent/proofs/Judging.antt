-- What the tests of a record decide: its daughters' places, the item that is given, the height.
use Prim.Native.Nat.{ℕ, ◌+◌, ◌≤◌, ◌<◌}
use lib.Dec.{eqb, ltb}
use borrow.Author.Tests.{lt-ltb, eq-eqb}
use Rattle.std.proofs.lemmas.Bool.{eqb-true, ltb-true}
use Rattle.phrase.proofs.Fit.{decided}
use mathlib.Core.Path.{◌≡◌, sym, ap, ◌∙◌}
use mathlib.Core.List.{List}
use native.Mathlib.Omega.{arith}
use Rattle.meaning.specs.Range.{Item}
use Rattle.meaning.specs.Giving.{Gives}
use Rattle.meaning.specs.Chart.{Known, tallest, things}
use Rattle.meaning.specs.Table.{rank_of}
use Rattle.meaning.specs.Decode.{rule_at, grammar_of}
use Rattle.meaning.specs.TreeWriting.{stated_at}
use Rattle.phrase.specs.declared.items.Item.{Item as CodedItem}
use Rattle.phrase.specs.declared.items.Daughters.{Daughters}
use Rattle.phrase.specs.Phrase.{item_of, items_of, Decides, GivesAt}
use Rattle.lent.specs.Lent.{known_of, knowns_of, number_at, daughters_at, Placed, WayAt}
use Rattle.lent.proofs.Statings.{items-are}

-- a place, by the number that the record has for it
module _ {c : List ℕ} {count i rank k n : ℕ} where
  pub placed_used : k < rank → n ≡ number_at c i (9 + k) → Decides (Placed c count i rank k) (ltb n count)
  placed_used h e = decided _ (λ p. let b = p.below h in lt-ltb n count (omega arith)) (λ f. let b = ltb-true n count f in record { below = λ l. omega arith; unused = λ l. absurd (omega arith) })

  pub placed_unused : rank ≤ k → n ≡ number_at c i (9 + k) → Decides (Placed c count i rank k) (eqb n 0)
  placed_unused h e = decided _ (λ p. eq-eqb n 0 (e ∙ p.unused h)) (λ f. let z = eqb-true n 0 f in record { below = λ l. absurd (omega arith); unused = λ l. omega arith })

module _ (t ws c : List ℕ) (count rule i rank : ℕ) (r : rank ≡ rank_of t rule) where
  -- the places
  pub placed_of : WayAt t ws c count rule i → (k : ℕ) → k < 3 → Placed c count i rank k
  placed_of w = rw r w.placed

  -- the item, with the daughters as the code has them
  module _ (x : CodedItem) (d : Daughters) (e : known_of x ≡ stated_at c i) (f : knowns_of d ≡ daughters_at c i rank) where
    daughters-stated : knowns_of d ≡ daughters_at c i (rank_of t rule)
    daughters-stated = f ∙ ap (daughters_at c i) r

    items-stated : items_of d ≡ things (daughters_at c i (rank_of t rule))
    items-stated = sym (items-are d) ∙ ap things daughters-stated

    item-stated : item_of x ≡ (stated_at c i).item
    unfolding known_of
    item-stated = ap (λ (k : Known Item). k.item) e

    height-stated : x.height ≡ (stated_at c i).height
    unfolding known_of
    height-stated = ap (λ (k : Known Item). k.height) e

    pub given-of : WayAt t ws c count rule i → GivesAt t ws rule d x
    given-of w = rw (items-stated, item-stated) w.given

    given_to : GivesAt t ws rule d x → Gives (grammar_of t) ws (rule_at t rule) (things (daughters_at c i (rank_of t rule))) (stated_at c i).item
    given_to g = rw (← items-stated, ← item-stated) g

    -- the height
    module _ (h most : ℕ) (a : h ≡ x.height) (m : most ≡ tallest (knowns_of d)) where
      most-stated : most ≡ tallest (daughters_at c i (rank_of t rule))
      most-stated = m ∙ ap tallest daughters-stated

      pub height-of : WayAt t ws c count rule i → h ≡ 1 + most
      height-of w = let q = a ∙ height-stated ∙ w.high in omega (arith, most-stated)

      pub way_at : ((k : ℕ) → k < 3 → Placed c count i rank k) → GivesAt t ws rule d x → h ≡ 1 + most → WayAt t ws c count rule i
      way_at p g q = record { placed = rw (← r) p; given = given_to g; high = sym height-stated ∙ sym a ∙ omega (arith, most-stated) }
