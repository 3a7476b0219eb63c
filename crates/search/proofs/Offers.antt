-- A rule whose daughters are all chosen: the ranges of its rows, one after another, are the keys that it gives.
use mathlib.Core.Path.{◌≡◌, refl, ap, sym, subst, ◌∙◌}
use mathlib.Core.Logic.{◌⊎◌, inl, inr, ⊎_elim}
use mathlib.Core.Option.{none as apart, some as just}
use mathlib.Core.List.{List, [], ◌∷◌, map}
use Prim.Native.Nat.{ℕ, zero, suc, ◌+◌, ◌-◌, ◌*◌, ◌^◌, ◌<◌, ◌≤◌, max}
use native.Mathlib.Omega.{arith}
use lib.ListN.{length, get_or, take, length-take}
use lib.Seq.{ext_get_or, get_or-take}
use Rattle.meaning.specs.Order.{Each, each_none, each_more}
use Rattle.meaning.specs.Range.{Range, Item}
use Rattle.meaning.specs.Grammar.{Symbol}
use Rattle.meaning.specs.Giving.{Gives, categories}
use Rattle.meaning.specs.Chart.{Known, things, tallest}
use Rattle.meaning.specs.Table.{category_of}
use Rattle.meaning.specs.Decode.{rule_at, grammar_of}
use Rattle.store.proofs.Laws.{lt-or-ge}
use Rattle.store.specs.Code.{unpacked, packed, Small}
use Rattle.store.proofs.Packing.{unpack-pack, same_key}
use Rattle.phrase.specs.declared.items.Item.{Item as CodedItem}
use Rattle.phrase.specs.declared.items.Daughters.{Daughters}
use Rattle.rules.specs.declared.rule.Row.{Row}
use Rattle.phrase.specs.declared.ranges.Range.{Range as CodedRange}
use Rattle.phrase.specs.Phrase.{range_of, join_of, symbols_of, items_of, held_of, RuleOf, row_of, RowIs, Has, Next, found, over, start_of}
use Rattle.phrase.proofs.Fit.{has_in}
use Rattle.phrase.proofs.Runs.{run-once}
use Rattle.phrase.proofs.RuleThere.{give-item}
use Rattle.hint.specs.Hint.{seat, Open, held_as, unknown, Partial, Completes, Does}
use Rattle.std.specs.Prelude.{Option, Some, None}
use Rattle.search.specs.Level.{Ready, Filled}
use Rattle.search.specs.Tried.{Tried, Ranged, Ranges, then_range, Offered, Short}
use Rattle.search.proofs.Choosing.{Tries, rule-kind}
use Rattle.search.proofs.Filling.{then, stop, same, nothing_yet}

-- a row's ranges, one after another by their starts
module _ (ws : List ℕ) (d : Daughters) (ss : List Symbol) (P : Range → ℕ → Type 0) where
  abbrev pub Passed : ℕ → ℕ → Type 0
  Passed from = Ranged ws d ss (λ r x. (r.from < from) × P r x)

  forget : {from : ℕ} (x : ℕ) → Passed from x → Ranged ws d ss P x
  forget x s = record { range = s.range; has = s.has; does = s.does.1 }

  past : {from : ℕ} → Next start_of (Has ws d ss) from apart → (r : Range) → Has ws d ss r → r.from < from
  past (over f) r h = f r h

  first : {from : ℕ} {p : Range} → Next start_of (Has ws d ss) from (just p) → Has ws d ss p × (from ≤ p.from) × ((y : Range) → Has ws d ss y → from ≤ y.from → p.from ≤ y.from)
  first (found h l f) = (h, l, f)

  module _ {K : List ℕ} {h : ℕ} {a : List ℕ} {n : ℕ} where
    pub row-begins : Ready a n → Filled K h (Passed 0) a n a (Some n)
    row-begins y = nothing_yet y (λ x w. omega (arith, w.does.0))

    module _ {b : List ℕ} {m : ℕ} (from : ℕ) (w : Filled K h (Passed from) a n b (Some m)) where
      pub row_ends : Next start_of (Has ws d ss) from apart → Filled K h (Ranged ws d ss P) a n b (Some m)
      row_ends q = same w forget (λ x s. record { range = s.range; has = s.has; does = (past q s.range s.has, s.does) })

      module _ (len : length b ≡ length a) (p : Range) (q : Next start_of (Has ws d ss) from (just p)) {c : List ℕ} where
        pub row-turns : {r : ℕ} → Filled K h (P p) b m c (Some r) → Filled K h (Passed (p.from + 1)) a n c (Some r)
        row-turns v = then w len v
            (λ x s. record { range = s.range; has = s.has; does = (omega (arith, s.does.0, (first q).1), s.does.1) })
            (λ x z. record { range = p; has = (first q).0; does = (omega arith, z) })
            cases
          where
            cases : (x : ℕ) → Passed (p.from + 1) x → Passed from x ⊎ P p x
            cases x s = ⊎_elim
                (λ l. inl (record { range = s.range; has = s.has; does = (l, s.does.1) }))
                (λ g. let e : s.range ≡ p = run-once ws (held_of d) s.has (first q).0 (omega (arith, s.does.0, (first q).2 s.range s.has g)) in inr (subst (λ (r : Range). P r x) e s.does.1))
                (lt-or-ge s.range.from from)

        pub row-stops : Filled K h (P p) b m c None → Filled K h (Ranged ws d ss P) a n c None
        row-stops v = stop w len v forget (λ x z. record { range = p; has = (first q).0; does = z })

in-short : (ws : List ℕ) (d : Daughters) {ss : List Symbol} {r : Range} → length ws ≤ 64 → Has ws d ss r → Short r
in-short ws d short h = record { from = omega (arith, has_in ws d h); to = omega (arith, has_in ws d h) }

-- what the code's search for a row's next range answered
module _ (ws : List ℕ) (d : Daughters) {t : List ℕ} {rule i : ℕ} {row : Option Row} (R : RowIs t rule i row) {from : ℕ} where
  there : (o : Option CodedRange) → Next start_of (Has ws d (symbols_of row)) from (join_of o) → Next start_of (Has ws d (row_of t rule i)) from (join_of o)
  there o n = subst (λ (l : List Symbol). Next start_of (Has ws d l) from (join_of o)) R.symbols n

  module _ {o : Option CodedRange} (n : Next start_of (Has ws d (symbols_of row)) from (join_of o)) where
    pub next-none : o ≡ None → Next start_of (Has ws d (row_of t rule i)) from apart
    next-none f = subst (λ (a : Option CodedRange). Next start_of (Has ws d (row_of t rule i)) from (join_of a)) f (there o n)

    module _ {p : CodedRange} (f : o ≡ Some p) where
      pub next-some : Next start_of (Has ws d (row_of t rule i)) from (just (range_of p))
      next-some = subst (λ (a : Option CodedRange). Next start_of (Has ws d (row_of t rule i)) from (join_of a)) f (there o n)

      pub next-has : length ws ≤ 64 → (from ≤ p.from) × Short (range_of p)
      next-has short = go next-some
        where
          go : {q : Range} → Next start_of (Has ws d (row_of t rule i)) from (just q) → (from ≤ q.from) × Short q
          go (found h l g) = (l, in-short ws d short h)

pub key-small : (A : ℕ) (p q r : Range) → A ≤ 64 → Short p → Short q → Short r → Small (record { category = A; one = p; two = q; three = r })
key-small A p q r a b c d = record { category = omega arith; from₁ = omega (arith, b.from); to₁ = omega (arith, b.to); from₂ = omega (arith, c.from); to₂ = omega (arith, c.to); from₃ = omega (arith, d.from); to₃ = omega (arith, d.to) }

-- a key that begins with some digits goes on with one range more, while there is room for it and the others
pub ranges-on : (t ws : List ℕ) (rule : ℕ) (d : Daughters) (i key : ℕ) → i < 3
    → Ranges t ws rule d (3 - i) key ≡ Ranged ws d (row_of t rule i) (λ r. Ranges t ws rule d (3 - (i + 1)) (then_range key r))
ranges-on t ws rule d zero key h = refl
ranges-on t ws rule d (suc zero) key h = refl
ranges-on t ws rule d (suc (suc zero)) key h = refl
ranges-on t ws rule d (suc (suc (suc i))) key h = absurd (omega arith)

pub ranges-all : (t ws : List ℕ) (rule : ℕ) (d : Daughters) (i key : ℕ) → i ≡ 3 → (λ x. x ≡ key) ≡ Ranges t ws rule d (3 - i) key
ranges-all t ws rule d i key e = rw e

pub room-on : (i key : ℕ) (r : Range) → i < 3 → (key + 1) * 16384 ^ (3 - i) ≤ 2 ^ 49 → Short r → (then_range key r + 1) * 16384 ^ (3 - (i + 1)) ≤ 2 ^ 49
room-on zero key r h b s = omega (arith, s.from, s.to)
room-on (suc zero) key r h b s = omega (arith, s.from, s.to)
room-on (suc (suc zero)) key r h b s = omega (arith, s.from, s.to)
room-on (suc (suc (suc i))) key r h b s = absurd (omega arith)

pub room-now : (i key : ℕ) → i < 3 → (key + 1) * 16384 ^ (3 - i) ≤ 2 ^ 49 → key < 2 ^ 35
room-now zero key h b = omega arith
room-now (suc zero) key h b = omega arith
room-now (suc (suc zero)) key h b = omega arith
room-now (suc (suc (suc i))) key h b = absurd (omega arith)

small-item : (t ws : List ℕ) (rule : ℕ) (d : Daughters) → RuleOf t rule → length ws ≤ 64 → {p q r : Range} {ps qs rs : List Symbol} → Has ws d ps p → Has ws d qs q → Has ws d rs r
    → Small (record { category = category_of t rule; one = p; two = q; three = r })
small-item t ws rule d o short a b c = key-small _ _ _ _ (rule-kind t rule o).1 (in-short ws d short a) (in-short ws d short b) (in-short ws d short c)

-- all three ranges after the category: the keys of the items that the rows can have
module _ {t ws : List ℕ} {rule : ℕ} {d : Daughters} (o : RuleOf t rule) (short : length ws ≤ 64) where
  module _ (x : ℕ) where
    pub ranges-offered : Ranges t ws rule d 3 (category_of t rule) x → Offered t ws rule d x
    unfolding packed
    ranges-offered w = record {
      range = w.range;
      has = w.has;
      does = record {
        range = w.does.range;
        has = w.does.has;
        does = record {
          range = w.does.does.range;
          has = w.does.does.has;
          does = let y : Item = record { category = category_of t rule; one = w.range; two = w.does.range; three = w.does.does.range } in
              ap unpacked w.does.does.does ∙ unpack-pack y (small-item t ws rule d o short w.has w.does.has w.does.does.has);
        };
      };
    }

    pub offered-ranges : Offered t ws rule d x → Ranges t ws rule d 3 (category_of t rule) x
    unfolding packed
    offered-ranges w = record {
      range = w.range;
      has = w.has;
      does = record {
        range = w.does.range;
        has = w.does.has;
        does = record {
          range = w.does.does.range;
          has = w.does.does.has;
          does = let y : Item = record { category = category_of t rule; one = w.range; two = w.does.range; three = w.does.does.range } in
              same_key (w.does.does.does ∙ sym (unpack-pack y (small-item t ws rule d o short w.has w.does.has w.does.does.has)));
        };
      };
    }

-- the daughters, where all are chosen
abbrev pub picked : Daughters → List (Known Item)
picked d = take d.count (held_as d.one ∷ held_as d.two ∷ held_as d.three ∷ [])

map-take : {A B : Type 0} (f : A → B) (n : ℕ) (l : List A) → map f (take n l) ≡ take n (map f l)
map-take f zero l = refl
map-take f (suc n) [] = refl
map-take f (suc n) (a ∷ l) = ap (λ m. f a ∷ m) (map-take f n l)

pub things-picked : (d : Daughters) → things (picked d) ≡ items_of d
unfolding items_of
things-picked d = map-take (λ (k : Known Item). k.item) d.count _

abbrev pub top_of : Daughters → ℕ
top_of d = max d.one.height (max d.two.height d.three.height)

pub tallest-picked : (d : Daughters) → Partial d → tallest (picked d) ≡ top_of d
unfolding tallest
tallest-picked d P = go d.count refl
  where
    zero-at : (k : ℕ) → d.count ≤ k → k < 3 → (seat d k).height ≡ 0
    zero-at k h l = P.blank k l (P.past k h l)

    go : (n : ℕ) → d.count ≡ n → tallest (take n (held_as d.one ∷ held_as d.two ∷ held_as d.three ∷ [])) ≡ top_of d
    go zero e = omega (arith, zero-at 0 (omega arith) (omega arith), zero-at 1 (omega arith) (omega arith), zero-at 2 (omega arith) (omega arith))
    go (suc zero) e = omega (arith, zero-at 1 (omega arith) (omega arith), zero-at 2 (omega arith) (omega arith))
    go (suc (suc zero)) e = omega (arith, zero-at 2 (omega arith) (omega arith))
    go (suc (suc (suc zero))) e = omega arith
    go (suc (suc (suc (suc n)))) e = absurd (omega (arith, P.few))

each-places : {P : Known Item → Type 0} (l : List (Known Item)) → ((i : ℕ) → i < length l → P (get_or l i unknown)) → Each P l
each-places [] f = each_none
each-places (k ∷ l) f = each_more (f 0 (omega arith)) (each-places l (λ i h. f (suc i) (omega arith)))

module _ (d : Daughters) (few : d.count ≤ 3) where
  size-picked : length (picked d) ≡ d.count
  size-picked = length-take d.count (held_as d.one ∷ held_as d.two ∷ held_as d.three ∷ []) ∙ omega arith

  picked-at : (k : ℕ) → k < d.count → get_or (picked d) k unknown ≡ held_as (seat d k)
  picked-at k h = get_or-take d.count (held_as d.one ∷ held_as d.two ∷ held_as d.three ∷ []) k unknown h ∙ seats k (omega arith)
    where
      seats : (k : ℕ) → k < 3 → get_or (held_as d.one ∷ held_as d.two ∷ held_as d.three ∷ []) k unknown ≡ held_as (seat d k)
      seats zero l = refl
      seats (suc zero) l = refl
      seats (suc (suc zero)) l = refl
      seats (suc (suc (suc k))) l = absurd (omega arith)

  pub completes-picked : Completes d (picked d)
  completes-picked = record { size = size-picked; keeps = λ k h n. picked-at k h }

  pub is-picked : {full : List (Known Item)} → ((k : ℕ) → k < d.count → Open d k → ⊥) → Completes d full → full ≡ picked d
  is-picked {full} all C = ext_get_or unknown full (picked d) (C.size ∙ sym size-picked) (λ k l. let h : k < d.count = omega (arith, C.size) in C.keeps k h (all k h) ∙ sym (picked-at k h))

module _ {t ws : List ℕ} {rule : ℕ} {goal : CodedItem} {d : Daughters} {K : List ℕ} {left : ℕ} (T : Tries t ws rule goal d K left) (all : (k : ℕ) → k < d.count → Open d k → ⊥) where
  few : d.count ≤ 3
  few = T.partial.few

  -- what is tried has the right height and kinds, and its ranges are the rows'
  does-picked : (x : ℕ) → Tried t ws rule goal d K x → Does t ws rule goal (picked d) (unpacked x)
  does-picked x w = subst (λ (l : List (Known Item)). Does t ws rule goal l (unpacked x)) (is-picked d few all w.completes) w.does

  pub tried-high : (x : ℕ) → Tried t ws rule goal d K x → goal.height ≡ top_of d + 1
  tried-high x w = omega (arith, (does-picked x w).high, tallest-picked d T.partial)

  gives-picked : (x : ℕ) → Tried t ws rule goal d K x → Gives (grammar_of t) ws (rule_at t rule) (items_of d) (unpacked x)
  gives-picked x w = rw (things-picked d) at (does-picked x w).gives

  pub tried-kinds : (x : ℕ) → Tried t ws rule goal d K x → categories (items_of d) ≡ (rule_at t rule).daughters
  tried-kinds x w = (gives-picked x w).kinds

  pub tried-offered : (x : ℕ) → Tried t ws rule goal d K x → Offered t ws rule d x
  unfolding rule_at
  tried-offered x w =
      let g = gives-picked x w in
      record {
        range = (unpacked x).one;
        has = g.rows 0;
        does = record {
          range = (unpacked x).two;
          has = g.rows 1;
          does = record {
            range = (unpacked x).three;
            has = g.rows 2;
            does = λ i. record { category = g.kind i; one = (unpacked x).one; two = (unpacked x).two; three = (unpacked x).three };
          };
        };
      }

  pub offered-tried : goal.height ≡ top_of d + 1 → categories (items_of d) ≡ (rule_at t rule).daughters → (x : ℕ) → Offered t ws rule d x → Tried t ws rule goal d K x
  unfolding rule_at
  offered-tried h k x w = record {
    full = picked d;
    completes = completes-picked d few;
    among = each-places (picked d) (λ i l. let m : i < d.count = omega (arith, size-picked d few) in rw (picked-at d few i m) (T.drawn i m (all i m)));
    does = record { gives = rw (things-picked d) given; high = omega (arith, tallest-picked d T.partial); same = λ n. absurd (n T.any) };
  }
    where
      p : Range
      p = w.range

      q : Range
      q = w.does.range

      r : Range
      r = w.does.does.range

      y : Item
      y = record { category = category_of t rule; one = p; two = q; three = r }

      given : Gives (grammar_of t) ws (rule_at t rule) (items_of d) (unpacked x)
      given = rw w.does.does.does (give-item t rule T.there d ws y refl k w.has w.does.has w.does.does.has)
