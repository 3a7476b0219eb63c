-- A sentence has one chart, and a saturated list is it: the theory of charts at a grammar's laws.
-- Assumes nothing.
use mathlib.Core.Path.{◌≡◌, refl, sym, ap, ◌∙◌}
use mathlib.Core.List.{List, [], ◌∷◌}
use Prim.Native.Nat.{ℕ, suc, ◌<◌}
use native.Mathlib.Omega.{arith}
use lib.ListN.{length, get_or, length-map}
use lib.Seq.{take-length}
use Rattle.meaning.specs.Order.{Each, each_none, each_more, Sorted, sorted_none, sorted_more}
use Rattle.meaning.specs.Range.{Item, numbers}
use Rattle.meaning.specs.Grammar.{Grammar, Tree, node, Trees, bare, and, levels, most, spell}
use Rattle.meaning.specs.Giving.{Makes, True, MakeAll, make_none, make_more}
use Rattle.meaning.specs.Valid.{Valid}
use Rattle.meaning.specs.Chart.{Known, Entry, tallest, Before, Made, GivenBy, ChartOf, things, item_of, items}
use Rattle.meaning.specs.Reading.{Over, goal}
use Rattle.meaning.proofs.Order.{lex-irr, lex-trans, each_at, each_of, each_map, pigeonhole}
use Rattle.meaning.proofs.Laws.{step, inverse}
use Rattle.meaning.proofs.Theory.{Deduction, Saturated, is-chart, one-chart, map-mem}

pub before-irr : (x : Item) → Before x x → ⊥
unfolding Before
before-irr x = lex-irr (numbers x)

pub before-trans : (x y z : Item) → Before x y → Before y z → Before x z
unfolding Before
before-trans x y z = lex-trans (numbers x) (numbers y) (numbers z)

module _ (G : Grammar) (ws : List ℕ) where
  grow : {ds : List (Known Item)} → Each (λ d. Made G ws d.item d.height) ds
      → (ts : Trees) × MakeAll G ws ts (things ds) × (most ts ≡ tallest ds)
  unfolding Made tallest levels
  grow each_none = (bare, make_none, refl)
  grow (each_more (t, m, h) es) = let (ts, ms, hs) = grow es in (and t ts, make_more m ms, cc)

  ungrow : {ts : Trees} {ds : List Item} → MakeAll G ws ts ds
      → (ks : List (Known Item)) × Each (λ d. Made G ws d.item d.height) ks × (things ks ≡ ds) × (tallest ks ≡ most ts)
  unfolding Made tallest levels
  ungrow make_none = ([], each_none, refl, refl)
  ungrow (make_more {t = t} {x = x} m ms) =
      let (ks, es, is, hs) = ungrow ms in
      (record { item = x; height = levels t } ∷ ks, each_more (t, m, refl) es, cc, cc)

  module _ (v : Valid G) where
    pub deduction : Deduction (Made G ws) (GivenBy G ws)
    unfolding Made GivenBy levels
    deduction = record {
      up = λ f ds x g es. let (ts, ms, h) = grow es in (node g.0 ts, step g.2 ms, ap suc h);
      down = down;
    }
      where
        down : (x : Item) (m : ℕ) → Made G ws x m
            → (f : ℕ) × (ds : List (Known Item)) × Each (λ d. Made G ws d.item d.height) ds × GivenBy G ws f (things ds) x × (m ≡ suc (tallest ds))
        down x m (node r ts, mk, h) =
            let (ds, ms, g) = inverse v mk in
            let (ks, es, is, hs) = ungrow ms in
            (r.function, ks, es, (r, refl, rw is g), cc)

    pub chart-of : {C : List (Entry Item)} → Saturated Before (GivenBy G ws) C → ChartOf G ws C
    chart-of S = is-chart Before before-irr deduction S

  pub one-chart-of : {B C : List (Entry Item)} → ChartOf G ws B → ChartOf G ws C → B ≡ C
  one-chart-of b c = one-chart Before before-irr before-trans b c

-- what a tree of the goal spells is the sentence
pub spells-sentence : {G : Grammar} {ws : List ℕ} {t : Tree} → Makes G ws t (goal G ws) → get_or (spell t) 0 [] ≡ ws
spells-sentence {ws = ws} m = sym (m.spans 0).words ∙ take-length ws

module _ {G : Grammar} {ws : List ℕ} {C : List (Entry Item)} (c : ChartOf G ws C) where
  -- the chart's length is the number of true items
  pub over : {n : ℕ} → n < length C → Over G ws n
  unfolding Made True
  over h = record {
    some = items C;
    apart = apart c.sorted;
    true = each_of (items C) (λ x m. let (e, i, q) = map-mem item_of C m in let (t, k, l) = (each_at c.heights i).made in rw q (t, k));
    more = omega (arith, length-map C item_of);
  }
    where
      apart : {l : List Item} → Sorted Before l → Sorted (λ x y. x ≡ y → ⊥) l
      apart sorted_none = sorted_none
      apart (sorted_more {a = x} p s) = sorted_more (each_map (λ y b (e : x ≡ y). before-irr y (rw e at b)) p) (apart s)

  pub not-over : {n : ℕ} → Over G ws n → n < length C
  unfolding Made True
  not-over o = omega (
    arith,
    o.more,
    length-map C item_of,
    pigeonhole (items C) o.apart (λ x m.
        let (t, k) = each_at o.true m in c.whole x (levels t) (t, k, refl)),
  )
