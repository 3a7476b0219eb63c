-- Laws of trying a rule: a daughter that is not chosen is one of the set, and where all are chosen the rows say what is given.
use mathlib.Core.Path.{◌≡◌, refl, ap, sym, subst, ◌∙◌}
use mathlib.Core.Logic.{⊎_elim}
use mathlib.Core.List.{List, Memᴰ as Mem}
use Prim.Native.Nat.{ℕ, zero, suc, ◌+◌, ◌<◌, ◌≤◌, ◌^◌}
use native.Mathlib.Omega.{arith}
use native.Mathlib.Decide.{ℕ_discrete, dec_lt}
use lib.ListN.{length, get_or, take, get_or-map}
use borrow.Author.Tests.{lt-ltb, le-ltb, eq-eqb, ne_eqb}
use Rattle.meaning.specs.Range.{Item, nothing}
use Rattle.meaning.specs.Chart.{Known, things}
use Rattle.meaning.proofs.Order.{each_at}
use Rattle.meaning.proofs.Passing.{get_or-mem}
use Rattle.store.specs.Code.{unpacked, known_of}
use Rattle.phrase.specs.declared.items.Item.{Item as CodedItem}
use Rattle.phrase.specs.declared.items.Daughters.{Daughters}
use Rattle.phrase.specs.Phrase.{item_of, RuleOf}
use Rattle.rules.proofs.RuleThere.{fine, wanted-there}
use Rattle.meaning.specs.Table.{byte, rank_of, category_of}
use Rattle.meaning.proofs.Ends.{fine-table}
use Rattle.meaning.proofs.Places.{past_one}
use Rattle.hint.specs.declared.Reach.{Reach}
use Rattle.search.specs.declared.spots.Spots.{Spots}
use Rattle.search.specs.Spots.{Inside, Finds, Skips}
use Rattle.meaning.specs.Decode.{rule_at}
use Rattle.hint.specs.declared.Wants.{Wants}
use Rattle.hint.specs.Hint.{seat, Open, Partial, held_as, unknown, Completes, Does, Meets, Asks, Reaches, Turns, next_is, all_chosen}
use Rattle.std.specs.Prelude.{Option, Some as counted, None as too_many}
use Rattle.search.specs.Level.{Ready, Filled, Some}
use Rattle.store.proofs.Laws.{mem-at}
use Rattle.search.proofs.Filling.{same, jump, loop-begins, loop-ends, loop-turns, loop-stops}
use Rattle.search.specs.declared.task.Task.{Task}
use Rattle.search.specs.Tried.{coded, put, In, Tried, open_at, opens, Trying, SpotsFor, AllChosen, Trial}

-- the code's item is the item of the code
pub coded-known : (c : ℕ) → held_as (coded c) ≡ known_of c
unfolding item_of unpacked
coded-known c = refl

pub coded-full : (c : ℕ) → 1 ≤ (known_of c).item.category → (coded c).category ≡ 0 → ⊥
unfolding item_of
coded-full c a z = let q = ap (λ (x : Known Item). x.item.category) (coded-known c) in omega arith

-- daughters by their seats
pub put_same : (d : Daughters) (k : ℕ) (x : CodedItem) → seat (put d k x) k ≡ x
put_same d zero x = refl
put_same d (suc zero) x = refl
put_same d (suc (suc k)) x = refl

pub put_other : (d : Daughters) (k j : ℕ) (x : CodedItem) → k < 3 → j < 3 → (j ≡ k → ⊥) → seat (put d k x) j ≡ seat d j
put_other d zero zero x a b n = absurd (n refl)
put_other d zero (suc zero) x a b n = refl
put_other d zero (suc (suc j)) x a b n = refl
put_other d (suc zero) zero x a b n = refl
put_other d (suc zero) (suc zero) x a b n = absurd (n refl)
put_other d (suc zero) (suc (suc j)) x a b n = refl
put_other d (suc (suc k)) zero x a b n = refl
put_other d (suc (suc k)) (suc zero) x a b n = refl
put_other d (suc (suc k)) (suc (suc j)) x a b n = absurd (n (omega arith))

pub put_count : (d : Daughters) (k : ℕ) (x : CodedItem) → (put d k x).count ≡ d.count
put_count d zero x = refl
put_count d (suc zero) x = refl
put_count d (suc (suc k)) x = refl

module _ (d : Daughters) (few : d.count ≤ 3) (k : ℕ) (below : k < d.count) (o : Open d k) (y : CodedItem) where
  -- what completes with one daughter more completes without it
  pub fewer : {full : List (Known Item)} → Completes (put d k y) full → Completes d full
  fewer {full} C = record { size = C.size ∙ put_count d k y; keeps = keeps }
    where
      keeps : (j : ℕ) → j < d.count → (Open d j → ⊥) → get_or full j unknown ≡ held_as (seat d j)
      keeps j l n =
          let u = put_other d k j y (omega arith) (omega arith) (λ e. n (subst (λ (i : ℕ). Open d i) (sym e) o)) in
          C.keeps j (rw (put_count d k y) l) (λ z. n (rw u at z)) ∙ ap held_as u

  -- and what completes without it completes with it, where it is the one
  pub further : {full : List (Known Item)} → get_or full k unknown ≡ held_as y → Completes d full → Completes (put d k y) full
  further {full} e C = record { size = C.size ∙ sym (put_count d k y); keeps = keeps }
    where
      keeps : (j : ℕ) → j < (put d k y).count → (Open (put d k y) j → ⊥) → get_or full j unknown ≡ held_as (seat (put d k y) j)
      keeps j l n = go (ℕ_discrete j k)
        where
          m : j < d.count
          m = rw (put_count d k y) at l

          go : Dec (j ≡ k) → get_or full j unknown ≡ held_as (seat (put d k y) j)
          go (yes q) = ap (λ (i : ℕ). get_or full i unknown) q ∙ e ∙ ap held_as (sym (put_same d k y)) ∙ ap (λ (i : ℕ). held_as (seat (put d k y) i)) (sym q)
          go (no q) =
              let u = put_other d k j y (omega arith) (omega (arith, m)) q in
              C.keeps j m (λ z. n (rw u z)) ∙ ap held_as (sym u)

module _ {t ws : List ℕ} {rule : ℕ} {goal : CodedItem} {d : Daughters} {K : List ℕ} where
  -- a daughter that is not chosen is one of the set
  pub chosen-one : (few : d.count ≤ 3) (k : ℕ) → k < d.count → Open d k → (x : ℕ) → Tried t ws rule goal d K x → Some K (λ c. Tried t ws rule goal (put d k (coded c)) K) x
  chosen-one few k below o x T =
      let i = each_at T.among (get_or-mem unknown T.full k (omega (arith, T.completes.size))) in
      record {
        which = i.code;
        among = i.there;
        does = record {
          full = T.full;
          completes = further d few k below o (coded i.code) (sym i.is ∙ sym (coded-known i.code)) T.completes;
          among = T.among;
          does = T.does;
        };
      }

  pub one-chosen : (few : d.count ≤ 3) (k : ℕ) → k < d.count → Open d k → (y : CodedItem) (x : ℕ) → Tried t ws rule goal (put d k y) K x → Tried t ws rule goal d K x
  one-chosen few k below o y x T = record { full = T.full; completes = fewer d few k below o y T.completes; among = T.among; does = T.does }

-- how many are not chosen
module _ (d : Daughters) (k : ℕ) where
  open-one : k < d.count → Open d k → open_at d k ≡ 1
  open-one l o = rw (lt-ltb k d.count l, eq-eqb (seat d k).category 0 o)

  open_none : (k < d.count → Open d k → ⊥) → open_at d k ≡ 0
  open_none n = go (dec_lt k d.count)
    where
      go : Dec (k < d.count) → open_at d k ≡ 0
      go (yes l) = rw (lt-ltb k d.count l, ne_eqb (seat d k).category 0 (n l))
      go (no l) = rw (le-ltb k d.count (omega arith))

pub some-open : (d : Daughters) (k : ℕ) → d.count ≤ 3 → k < d.count → Open d k → 1 ≤ opens d
some-open d zero few l o = omega (arith, open-one d 0 l o)
some-open d (suc zero) few l o = omega (arith, open-one d 1 l o)
some-open d (suc (suc zero)) few l o = omega (arith, open-one d 2 l o)
some-open d (suc (suc (suc k))) few l o = absurd (omega arith)

pub one_less : (d : Daughters) (k : ℕ) (y : CodedItem) → d.count ≤ 3 → k < d.count → Open d k → (y.category ≡ 0 → ⊥) → opens (put d k y) + 1 ≡ opens d
one_less d zero y few l o n = omega (arith, open-one d 0 l o, open_none (put d 0 y) 0 (λ _. n))
one_less d (suc zero) y few l o n = omega (arith, open-one d 1 l o, open_none (put d 1 y) 1 (λ _. n))
one_less d (suc (suc zero)) y few l o n = omega (arith, open-one d 2 l o, open_none (put d 2 y) 2 (λ _. n))
one_less d (suc (suc (suc k))) y few l o n = absurd (omega arith)

-- all that is known while a rule is tried: of the task, and of the daughters
pub record Tries (t ws : List ℕ) (rule : ℕ) (goal : CodedItem) (d : Daughters) (K : List ℕ) (left : ℕ) : Type 0 where
  pub there : RuleOf t rule
  pub short : length ws ≤ 64
  pub most : length K ≤ 2000
  pub any : goal.category ≡ 0
  pub low : 1 ≤ goal.height
  pub high : goal.height ≤ 2001
  pub codes : (c : ℕ) → Mem c K → (1 ≤ (known_of c).item.category) × (c < 2 ^ 60)
  pub partial : Partial d
  pub count : d.count ≡ rank_of t rule
  pub drawn : (k : ℕ) → k < d.count → (Open d k → ⊥) → In (held_as (seat d k)) K
  pub fewer : left ≡ opens d

pub tries : (task : Task) {d : Daughters} {left : ℕ} → Trying task.rule.table.now task.rule.at d task.known.now left
    → Tries task.rule.table.now task.words.now task.rule.at task.goal d task.known.now left
tries task T = record {
  there = task.rule.of_table;
  short = task.short;
  most = task.most;
  any = task.any;
  low = task.low;
  high = task.high;
  codes = task.codes;
  partial = T.partial;
  count = T.count;
  drawn = T.drawn;
  fewer = T.fewer;
}

pub trying : {t ws : List ℕ} {rule : ℕ} {goal : CodedItem} {d : Daughters} {K : List ℕ} {left : ℕ} → Tries t ws rule goal d K left → Trying t rule d K left
trying T = record { partial = T.partial; count = T.count; drawn = T.drawn; fewer = T.fewer }

-- what stays as it is while one more is chosen
pub trying-on : {t ws : List ℕ} {rule : ℕ} {goal : CodedItem} {d : Daughters} {K : List ℕ} {left : ℕ} (k c next : ℕ) → Tries t ws rule goal d K left
    → k < d.count → Open d k → Mem c K → next + 1 ≡ left → Tries t ws rule goal (put d k (coded c)) K next
trying-on {d = d} {K = K} k c next T l o m e = record {
  there = T.there;
  short = T.short;
  most = T.most;
  any = T.any;
  low = T.low;
  high = T.high;
  partial = record { few = rw n T.partial.few; past = past; blank = blank };
  count = n ∙ T.count;
  codes = T.codes;
  drawn = drawn;
  fewer = omega (arith, one_less d k (coded c) T.partial.few l o full, T.fewer);
}
  where
    n : (put d k (coded c)).count ≡ d.count
    n = put_count d k (coded c)

    h : d.count ≤ 3
    h = T.partial.few

    full : (coded c).category ≡ 0 → ⊥
    full z = coded-full c (T.codes c m).0 z

    stays : (j : ℕ) → j < 3 → Open (put d k (coded c)) j → Open d j × (seat (put d k (coded c)) j ≡ seat d j)
    stays j a z = go (ℕ_discrete j k)
      where
        go : Dec (j ≡ k) → Open d j × (seat (put d k (coded c)) j ≡ seat d j)
        go (yes q) = absurd (full (rw (ap (seat (put d k (coded c))) q ∙ put_same d k (coded c)) at z))
        go (no q) = let u = put_other d k j (coded c) (omega arith) a q in (rw u at z, u)

    past : (j : ℕ) → (put d k (coded c)).count ≤ j → j < 3 → Open (put d k (coded c)) j
    past j a b = let g : d.count ≤ j = rw n at a in rw (put_other d k j (coded c) (omega arith) b (λ q. omega arith)) (T.partial.past j g b)

    blank : (j : ℕ) → j < 3 → Open (put d k (coded c)) j → (seat (put d k (coded c)) j).height ≡ 0
    blank j a z = let (u, v) = stays j a z in rw v (T.partial.blank j a u)

    drawn : (j : ℕ) → j < (put d k (coded c)).count → (Open (put d k (coded c)) j → ⊥) → In (held_as (seat (put d k (coded c)) j)) K
    drawn j a z = go (ℕ_discrete j k)
      where
        b : j < d.count
        b = rw n at a

        go : Dec (j ≡ k) → In (held_as (seat (put d k (coded c)) j)) K
        go (yes q) = record { code = c; there = m; is = sym (coded-known c) ∙ ap held_as (sym (put_same d k (coded c)) ∙ ap (seat (put d k (coded c))) (sym q)) }
        go (no q) = let u = put_other d k j (coded c) (omega arith) (omega (arith, b)) q in rw u (T.drawn j b (λ y. z (rw u y)))

-- whoever is daughter k where something is done is of the wanted category, and as asked
module _ {t ws : List ℕ} {rule : ℕ} {goal : CodedItem} (d : Daughters) (few : d.count ≤ 3) (k : ℕ) (below : k < d.count) (o : Open d k) (c : ℕ) (kind : 1 ≤ (known_of c).item.category) {full : List (Known Item)} {x : Item}
    (C : Completes (put d k (coded c)) full) (D : Does t ws rule goal full x) where
  at-seat : get_or full k unknown ≡ known_of c
  at-seat = C.keeps k (rw (put_count d k (coded c)) below) (λ z. coded-full c kind (rw (put_same d k (coded c)) at z)) ∙ ap held_as (put_same d k (coded c)) ∙ coded-known c

  pub seat-meets : (v : Wants) → Asks t ws rule d goal k v → Meets v (known_of c)
  seat-meets v f = rw at-seat at (f full x (fewer d few k below o (coded c) C) D)

  pub seat-category : (known_of c).item.category ≡ get_or (rule_at t rule).daughters k 0
  seat-category =
      ap (λ (x : Known Item). x.item.category) (sym at-seat)
      ∙ sym (get_or-map (λ (x : Item). x.category) (things full) k nothing ∙ ap (λ (x : Item). x.category) (get_or-map (λ (x : Known Item). x.item) full k unknown))
      ∙ ap (λ (l : List ℕ). get_or l k 0) D.gives.kinds

-- where the known items stand that can be daughter k
module _ (t : List ℕ) (rule : ℕ) (r : RuleOf t rule) (k : ℕ) (below : k < rank_of t rule) where
  pub kind-small : get_or (rule_at t rule).daughters k 0 < 128
  kind-small =
      let f = (fine t rule r).daughters k below in
      let v = fine-table t r.accepted in
      let e = past_one k (rule + 4) in
      let g : byte t (rule + 4 + k) ≤ byte t 5 = rw e at f.1 in
      omega (arith, v.categories.1, wanted-there t rule r k below)

  pub spots-are : (A : ℕ) → A ≡ get_or (rule_at t rule).daughters k 0 → {w : Wants} {a : Reach} → Reaches A w a
      → {K : List ℕ} {s : Spots} → Finds K a.low a.high a.low2 a.high2 s → SpotsFor t rule k w K s
  spots-are A e R {K} F = record {
    ordered = F.ordered;
    end = F.end;
    has = λ p h q m. F.has p h (R.inside (get_or K p 0) (q ∙ sym e) m);
  }

pub rule-kind : (t : List ℕ) (rule : ℕ) → RuleOf t rule → (1 ≤ category_of t rule) × (category_of t rule ≤ 64)
rule-kind t rule r = let f = fine t rule r in let v = fine-table t r.accepted in (f.low, omega (arith, f.high, v.categories.1))

-- a trial: with the code chosen, and where it is not as asked
module _ (task : Task) {d : Daughters} {k left : ℕ} {w : Wants} {c : ℕ} (T : Trial task.rule.table.now task.words.now task.rule.at task.goal d task.known.now k left w c) where
  pub trial_on : Trying task.rule.table.now task.rule.at (put d k (coded c)) task.known.now left
  trial_on = trying (trying-on k c left (tries task T.trying) T.below T.chooses T.there refl)

  pub trial-last : left ≡ 0 → Trying task.rule.table.now task.rule.at (put d k (coded c)) task.known.now 0
  trial-last e = subst (λ (l : ℕ). Trying task.rule.table.now task.rule.at (put d k (coded c)) task.known.now l) e trial_on

  pub trial-off : (Meets w (known_of c) → ⊥) → (x : ℕ) → Tried task.rule.table.now task.words.now task.rule.at task.goal (put d k (coded c)) task.known.now x → ⊥
  trial-off n x v = n (seat-meets d T.trying.partial.few k T.below T.chooses c (task.codes c T.there).0 v.completes v.does w T.asks)

-- the walk over the spots for daughter k
module _ {t ws : List ℕ} {rule : ℕ} {goal : CodedItem} {d : Daughters} {K : List ℕ} {left : ℕ} (T : Tries t ws rule goal d K left) (k : ℕ)
    (below : k < d.count) (o : Open d k) (w : Wants) (A : Asks t ws rule d goal k w) (s : Spots) (S : SpotsFor t rule k w K s) where
  pub trial : (i rest : ℕ) → i < s.hi → rest + 1 ≡ left → Trial t ws rule goal d K k rest w (get_or K i 0)
  trial i rest h e = record {
    trying = trying (subst (λ (l : ℕ). Tries t ws rule goal d K l) (sym e) T);
    below = below;
    chooses = o;
    asks = A;
    there = mem-at K i (omega (arith, S.end));
  }

  outside : (p : ℕ) → p < length K → (Inside s p → ⊥) → (x : ℕ) → Tried t ws rule goal (put d k (coded (get_or K p 0))) K x → ⊥
  outside p h n x v =
      let kind = (T.codes (get_or K p 0) (mem-at K p h)).0 in
      n (S.has p h (seat-category d T.partial.few k below o (get_or K p 0) kind v.completes v.does) (seat-meets d T.partial.few k below o (get_or K p 0) kind v.completes v.does w A))

  module _ {h : ℕ} {a : List ℕ} {n : ℕ} where
    pub walk_begins : (i : ℕ) → Skips s 0 i → Ready a n → Filled K h (Some (take i K) (λ c. Tried t ws rule goal (put d k (coded c)) K)) a n a (counted n)
    walk_begins i z y = jump K 0 i z.on (λ p u v l x q. outside p l (z.none p u v) x q) (loop-begins K y)

    module _ {b : List ℕ} {m : ℕ} (i : ℕ) (f : Filled K h (Some (take i K) (λ c. Tried t ws rule goal (put d k (coded c)) K)) a n b (counted m)) where
      pub walk_ends : s.hi ≤ i → Filled K h (Tried t ws rule goal d K) a n b (counted m)
      walk_ends z =
          let end = Prim.Native.Nat.max i (length K) in
          let past : (p : ℕ) → i ≤ p → Inside s p → ⊥ = λ p u. ⊎_elim (λ e. omega (arith, e.1, S.ordered.two, S.ordered.three)) (λ e. omega (arith, e.1)) in
          same (loop-ends K end (omega arith) (jump K i end (omega arith) (λ p u v l x q. outside p l (past p u) x q) f))
          (λ x q. one-chosen T.partial.few k below o (coded q.which) x q.does) (chosen-one T.partial.few k below o)

      module _ (z : i < s.hi) (len : length b ≡ length a) {c : List ℕ} where
        pub walk-turns : {r : ℕ} → Filled K h (Tried t ws rule goal (put d k (coded (get_or K i 0))) K) b m c (counted r) → (j : ℕ) → Skips s (i + 1) j
            → Filled K h (Some (take j K) (λ c. Tried t ws rule goal (put d k (coded c)) K)) a n c (counted r)
        walk-turns v j y = jump K (i + 1) j y.on (λ p u w l x q. outside p l (y.none p u w) x q) (loop-turns K i (omega (arith, S.end)) f len v)

        pub walk-stops : Filled K h (Tried t ws rule goal (put d k (coded (get_or K i 0))) K) b m c too_many → Filled K h (Tried t ws rule goal d K) a n c too_many
        walk-stops v = same (loop-stops K i (omega (arith, S.end)) f len v)
            (λ x q. one-chosen T.partial.few k below o (coded q.which) x q.does) (chosen-one T.partial.few k below o)

-- where none is left all are chosen
pub all-chosen-at : {t : List ℕ} {rule : ℕ} {d : Daughters} {K : List ℕ} → Trying t rule d K 0 → AllChosen d
all-chosen-at {d = d} T k l o = omega (arith, some-open d k T.partial.few l o, T.fewer)

-- where all are chosen none is left
pub none_left : {t : List ℕ} {rule : ℕ} {d : Daughters} {K : List ℕ} {left : ℕ} → Trying t rule d K left → ((k : ℕ) → k < d.count → Open d k → ⊥) → Trying t rule d K 0
none_left {t} {rule} {d} {K} T all = subst (λ (l : ℕ). Trying t rule d K l) (omega (arith, T.fewer, open_none d 0 (all 0), open_none d 1 (all 1), open_none d 2 (all 2))) T

pub turn-next : {d : Daughters} {t : Option ℕ} {k : ℕ} → Turns d t → t ≡ counted k → (k < d.count) × Open d k
turn-next {d} (next_is l o) e = let q = same_turn e in (subst (λ (i : ℕ). i < d.count) q l, subst (λ (i : ℕ). Open d i) q o)
  where
    same_turn : {j k : ℕ} → counted j ≡ counted k → j ≡ k
    same_turn f = cc
turn-next (all_chosen n) e = absurd (cc)
