-- Where the walk stands: what a call has told of the function and the daughters at hand.
use mathlib.Core.Path.{◌≡◌, sym, subst}
use mathlib.Core.List.{List}
use Prim.Native.Nat.{ℕ, ◌+◌, ◌<◌, ◌≤◌}
use native.Mathlib.Omega.{arith}
use lib.ListN.{length, get_or}
use Rattle.meaning.specs.Table.{rank_of}
use Rattle.phrase.specs.declared.items.Item.{Item as CodedItem}
use Rattle.phrase.specs.declared.items.Daughters.{Daughters}
use Rattle.search.specs.Tried.{none_of}
use Rattle.chosen.specs.declared.looking.Look.{Look}
use Rattle.chosen.specs.declared.walk.Way.{Way}
use Rattle.std.specs.Prelude.{Option, None}
use Rattle.chosen.specs.Walk.{taken, Leads, Seeks, Walking, Passed, Finds, nowhere, rule_of, third}
use Rattle.chosen.proofs.Steps.{One, Two, Three}

-- the next look as the walk has it
module _ {t ws K : List ℕ} {goal : CodedItem} {r rule : ℕ} {d : Daughters} {k : ℕ} {l : Look} (e : rule ≡ r) (S : Seeks t ws r goal d k K l) where
  moved : (place : ℕ) {m : Look} → Seeks t ws rule goal (taken l.chosen l.turn (get_or K place 0)) (l.turn + 1) K m
      → Seeks t ws r goal (taken d k (get_or K place 0)) (k + 1) K m
  moved place N = rw (← e, ← S.chosen, ← S.turn) N

  leads : (c : ℕ) → Leads t ws rule goal (taken l.chosen l.turn c) ≡ Leads t ws r goal (taken d k c)
  leads c = rw (e, S.chosen, S.turn)

module _ {t ws order K : List ℕ} {goal : CodedItem} {f rule : ℕ} {la : Look} where
  -- the function at place f is begun
  pub begun : {i : ℕ} → Walking t ws order K goal → f < length order → rule ≡ get_or order i 0 → i ≡ f
      → Seeks t ws rule goal (none_of (rank_of t rule)) 0 K la → One t ws order K goal f rule la
  begun W below e g S =
      let rule_is : rule ≡ get_or order f 0 = subst (λ (k : ℕ). rule ≡ get_or order k 0) g e in
      record {
        walking = W;
        below = below;
        rule_is = rule_is;
        seeks = subst (λ (r : ℕ). Seeks t ws r goal (none_of (rank_of t r)) 0 K la) rule_is S;
      }

  -- the first daughter is taken
  pub taken-one : One t ws order K goal f rule la → (a : ℕ) → a < la.spots.hi → {lb : Look}
      → Seeks t ws rule goal (taken la.chosen la.turn (get_or K a 0)) (la.turn + 1) K lb → Two t ws order K goal f rule la a lb
  taken-one o a h S = record { one = o; within = h; seeks = moved o.rule_is o.seeks a S }

  module _ {a : ℕ} {lb : Look} (u : Two t ws order K goal f rule la a lb) where
    -- the second daughter is taken
    pub taken-two : (b : ℕ) → b < lb.spots.hi → {lc : Look}
        → Seeks t ws rule goal (taken lb.chosen lb.turn (get_or K b 0)) (lb.turn + 1) K lc → Three t ws order K goal f rule la a lb b lc
    taken-two b h S = record { two = u; within = h; seeks = moved u.one.rule_is u.seeks b S }

  module _ {a : ℕ} {lb : Look} {b : ℕ} {lc : Look} (v : Three t ws order K goal f rule la a lb b lc) where
    -- what is asked with the last daughter is what works on the walk
    pub last : (c : ℕ) → Leads t ws rule goal (taken lc.chosen lc.turn (get_or K c 0)) ≡ Leads t ws (rule_of t ws order K goal f) goal (third t ws order K goal f a b c)
    last c = leads v.two.one.rule_is v.seeks (get_or K c 0)

pub found_nowhere : {t ws order K : List ℕ} {goal : CodedItem} {f : ℕ} {r : Option Way}
    → r ≡ None → length order ≤ f → Passed t ws order K goal f 0 0 0 → Finds t ws order K goal r
found_nowhere {t} {ws} {order} {K} {goal} e l p = subst (Finds t ws order K goal) (sym e) (nowhere (λ g m. p.functions g (omega arith)))
