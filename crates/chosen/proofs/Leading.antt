-- Laws of the daughters that are chosen one by one: who is seated, and what leads to the goal.
use mathlib.Core.Path.{◌≡◌, refl, ap, sym, subst, ◌∙◌}
use mathlib.Core.List.{List}
use Prim.Native.Nat.{ℕ, ◌+◌, ◌<◌, ◌≤◌}
use native.Mathlib.Omega.{arith}
use native.Mathlib.Decide.{ℕ_discrete, dec_lt}
use borrow.Author.Tests.{lt-ltb, le-ltb}
use Rattle.meaning.specs.Range.{Item}
use Rattle.meaning.specs.Chart.{Known}
use Rattle.meaning.specs.Table.{rank_of}
use Rattle.store.specs.Code.{known_of}
use Rattle.phrase.specs.declared.items.Item.{Item as CodedItem}
use Rattle.phrase.specs.declared.items.Daughters.{Daughters}
use Rattle.phrase.specs.Phrase.{item_of, RuleOf, GivesAt}
use Rattle.rules.proofs.RuleThere.{fine}
use Rattle.hint.specs.Hint.{seat, Open, Completes, Does}
use Rattle.search.specs.Tried.{coded, put, none_of}
use Rattle.search.proofs.Choosing.{coded-full, put_same, put_other, put_count, fewer}
use Rattle.search.proofs.Offers.{picked, top_of, things-picked, tallest-picked, completes-picked, is-picked}
use Rattle.search.proofs.Ruling.{open_none, blank_none}
use Rattle.chosen.specs.Walk.{taken, Leads, Seated}

pub taken_in : (d : Daughters) (k c : ℕ) → k < d.count → taken d k c ≡ put d k (coded c)
taken_in d k c l = rw (lt-ltb k d.count l)

pub taken_out : (d : Daughters) (k c : ℕ) → d.count ≤ k → taken d k c ≡ d
taken_out d k c l = rw (le-ltb k d.count l)

pub taken-count : (d : Daughters) (k c : ℕ) → (taken d k c).count ≡ d.count
taken-count d k c = go (dec_lt k d.count)
  where
    go : Dec (k < d.count) → (taken d k c).count ≡ d.count
    go (yes l) = ap (λ (e : Daughters). e.count) (taken_in d k c l) ∙ put_count d k (coded c)
    go (no l) = ap (λ (e : Daughters). e.count) (taken_out d k c (omega arith))

-- the other seats stay as they are
pub taken-other : (d : Daughters) (k j c : ℕ) → k < 3 → j < 3 → (j ≡ k → ⊥) → seat (taken d k c) j ≡ seat d j
taken-other d k j c a b n = go (dec_lt k d.count)
  where
    go : Dec (k < d.count) → seat (taken d k c) j ≡ seat d j
    go (yes l) = ap (λ (e : Daughters). seat e j) (taken_in d k c l) ∙ put_other d k j (coded c) a b n
    go (no l) = ap (λ (e : Daughters). seat e j) (taken_out d k c (omega arith))

pub taken-same : (d : Daughters) (k c : ℕ) → k < d.count → seat (taken d k c) k ≡ coded c
taken-same d k c l = ap (λ (e : Daughters). seat e k) (taken_in d k c l) ∙ put_same d k (coded c)

pub open-later : (d : Daughters) (k j c : ℕ) → k < 3 → j < 3 → (j ≡ k → ⊥) → Open d j → Open (taken d k c) j
open-later d k j c a b n o = ap (λ (x : CodedItem). x.category) (taken-other d k j c a b n) ∙ o

-- what leads with one daughter more leads without it
pub back : {t ws : List ℕ} {rule : ℕ} {goal : CodedItem} (d : Daughters) (k c : ℕ) → d.count ≤ 3 → Open d k → Leads t ws rule goal (taken d k c) → Leads t ws rule goal d
back {t} {ws} {rule} {goal} d k c few o l = go (dec_lt k d.count)
  where
    go : Dec (k < d.count) → Leads t ws rule goal d
    go (yes h) = record { full = l.full; completes = fewer d few k h o (coded c) (subst (λ (e : Daughters). Completes e l.full) (taken_in d k c h) l.completes); does = l.does }
    go (no h) = subst (λ (e : Daughters). Leads t ws rule goal e) (taken_out d k c (omega arith)) l

-- who is seated
pub seated-none : (t : List ℕ) (rule : ℕ) → RuleOf t rule → Seated t rule (none_of (rank_of t rule)) 0
seated-none t rule r = record {
  partial = record { few = (fine t rule r).rank; past = λ j a b. open_none (rank_of t rule) j; blank = λ j a b. blank_none (rank_of t rule) j };
  count = refl;
  chosen = λ j l. absurd (omega arith);
  free = λ j a b. open_none (rank_of t rule) j;
}

pub seated-more : (t : List ℕ) (rule : ℕ) (d : Daughters) (k c n : ℕ) → n ≡ k + 1 → k < 3 → 1 ≤ (known_of c).item.category → Seated t rule d k → Seated t rule (taken d k c) n
seated-more t rule d k c n e a kind S = record {
  partial = record { few = rw (taken-count d k c) S.partial.few; past = past; blank = blank };
  count = taken-count d k c ∙ S.count;
  chosen = chosen;
  free = λ j g h. open-later d k j c a h (λ q. omega arith) (S.free j (omega arith) h);
}
  where
    kept : (j : ℕ) → j < 3 → (j ≡ k → ⊥) → Open (taken d k c) j → Open d j
    kept j h q o = ap (λ (x : CodedItem). x.category) (sym (taken-other d k j c a h q)) ∙ o

    full : k < d.count → Open (taken d k c) k → ⊥
    full l o = coded-full c kind (ap (λ (x : CodedItem). x.category) (sym (taken-same d k c l)) ∙ o)

    past : (j : ℕ) → (taken d k c).count ≤ j → j < 3 → Open (taken d k c) j
    past j g h = go (ℕ_discrete j k)
      where
        m : d.count ≤ j
        m = rw (taken-count d k c) at g

        go : Dec (j ≡ k) → Open (taken d k c) j
        go (yes q) = ap (λ (x : Daughters). (seat x j).category) (taken_out d k c (omega (arith, m))) ∙ S.partial.past j m h
        go (no q) = open-later d k j c a h q (S.partial.past j m h)

    blank : (j : ℕ) → j < 3 → Open (taken d k c) j → (seat (taken d k c) j).height ≡ 0
    blank j h o = go (ℕ_discrete j k) (dec_lt k d.count)
      where
        go : Dec (j ≡ k) → Dec (k < d.count) → (seat (taken d k c) j).height ≡ 0
        go (yes q) (yes l) = absurd (full l (subst (λ (i : ℕ). Open (taken d k c) i) q o))
        go (yes q) (no l) =
            let u = taken_out d k c (omega arith) in
            ap (λ (x : Daughters). (seat x j).height) u ∙ S.partial.blank j h (ap (λ (x : Daughters). (seat x j).category) (sym u) ∙ o)
        go (no q) l = ap (λ (x : CodedItem). x.height) (taken-other d k j c a h q) ∙ S.partial.blank j h (kept j h q o)

    chosen : (j : ℕ) → j < n → j < (taken d k c).count → Open (taken d k c) j → ⊥
    chosen j g h o = go (ℕ_discrete j k)
      where
        m : j < d.count
        m = rw (taken-count d k c) at h

        go : Dec (j ≡ k) → ⊥
        go (yes q) = full (omega (arith, m)) (subst (λ (i : ℕ). Open (taken d k c) i) q o)
        go (no q) = S.chosen j (omega arith) m (kept j (omega (arith, S.partial.few)) q o)

-- where all are chosen, what leads to the goal is what the rule gives at the right height
module _ {t : List ℕ} {rule : ℕ} {d : Daughters} (S : Seated t rule d 3) where
  all : (k : ℕ) → k < d.count → Open d k → ⊥
  all k l = S.chosen k (omega (arith, S.partial.few)) l

module _ {t ws : List ℕ} {rule : ℕ} {goal : CodedItem} {d : Daughters} (S : Seated t rule d 3) where
  pub leads-does : Leads t ws rule goal d → Does t ws rule goal (picked d) (item_of goal)
  leads-does w = subst (λ (l : List (Known Item)). Does t ws rule goal l (item_of goal)) (is-picked d S.partial.few (all S) w.completes) w.does

  pub leads-high : Leads t ws rule goal d → goal.height ≡ top_of d + 1
  leads-high w = omega (arith, (leads-does w).high, tallest-picked d S.partial)

  pub leads-gives : Leads t ws rule goal d → GivesAt t ws rule d goal
  leads-gives w = rw (things-picked d) at (leads-does w).gives

  pub gives-leads : goal.height ≡ top_of d + 1 → GivesAt t ws rule d goal → Leads t ws rule goal d
  gives-leads h g = record {
    full = picked d;
    completes = completes-picked d S.partial.few;
    does = record { gives = rw (things-picked d) g; high = omega (arith, h, tallest-picked d S.partial); same = λ n. refl };
  }
