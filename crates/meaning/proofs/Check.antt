-- A test of charts that computes: what passes is the chart of the sentence.
-- Assumes nothing.
use mathlib.Core.Path.{◌≡◌, ap}
use mathlib.Core.Bool.{Bool, true, false, ◌&&◌, not}
use mathlib.Core.Option.{Option, none, some}
use mathlib.Core.List.{List, [], ◌∷◌, map, Memᴰ as Mem}
use Prim.Native.Nat.{ℕ, zero, suc, ◌≤◌}
use native.Mathlib.Omega.{arith}
use lib.Dec.{T, leb, eqb, leb→le, eqb→eq, eqb_refl, T_not}
use lib.ListN.{get_elem?}
use Rattle.meaning.specs.Order.{Each, Sorted, sorted_none, sorted_more, Lex}
use Rattle.meaning.specs.Range.{Item, numbers}
use Rattle.meaning.specs.Grammar.{Rule, Grammar}
use Rattle.meaning.specs.Giving.{Gives, categories}
use Rattle.meaning.specs.Valid.{Valid}
use Rattle.meaning.specs.Chart.{Known, Entry, tallest, Way, Before, GivenBy, ChartOf, things, knowns, items}
use Rattle.meaning.specs.Reading.{goal, Verdict, yes_at, no_goal}
use Rattle.meaning.proofs.Order.{each_at, each_map}
use Rattle.meaning.proofs.Charts.{chart-of}
use Rattle.meaning.proofs.Tests.{both, implies, modus, all, all-each, any, any_some, eqs, eqs→eq, eqs-refl, lexb, lexb→lex, lex→lexb}
use Rattle.meaning.proofs.Search.{outcomes, mem-outcomes, outcomes-mem, tuples, mem-tuples, tuples-mem}

numbers-inj : {x y : Item} → numbers x ≡ numbers y → x ≡ y
unfolding numbers
numbers-inj {x} {y} e =
    let c : x.category ≡ y.category = cc in
    let a : x.one.from ≡ y.one.from = cc in
    let b : x.one.to ≡ y.one.to = cc in
    let d : x.two.from ≡ y.two.from = cc in
    let f : x.two.to ≡ y.two.to = cc in
    let g : x.three.from ≡ y.three.from = cc in
    let h : x.three.to ≡ y.three.to = cc in
    λ t. record { category = c t; one = record { from = a t; to = b t }; two = record { from = d t; to = f t }; three = record { from = g t; to = h t } }

abbrev same : Item → Item → Bool
same x y = eqs (numbers x) (numbers y)

same→ : (x y : Item) → T (same x y) → x ≡ y
same→ x y t = numbers-inj (eqs→eq (numbers x) (numbers y) t)

abbrev sortedb : List Item → Bool
sortedb [] = true
sortedb (x ∷ l) = all (λ y. lexb (numbers x) (numbers y)) l && sortedb l

sorted : (l : List Item) → T (sortedb l) → Sorted Before l
unfolding Before
sorted [] t = sorted_none
sorted (x ∷ l) t =
    let (u, v) = both (all (λ y. lexb (numbers x) (numbers y)) l) (sortedb l) t in
    sorted_more (each_map (λ y. lexb→lex (numbers x) (numbers y)) (all-each _ l u)) (sorted l v)

module _ (G : Grammar) (ws : List ℕ) (C : List (Entry Item)) where
  abbrev L : List (Known Item)
  L = knowns C

  -- the rule r and the daughters t give the entry e at its height
  abbrev wayb : Entry Item → Rule → List ℕ × List (Known Item) → Bool
  wayb e r t = eqs t.0 e.places && (eqb e.known.height (suc (tallest t.1)) && any (same e.known.item) (outcomes ws r (things t.1)))

  -- the entry e is x, as low as the rule r and the daughters t would have it, and chosen no later
  abbrev hasb : Rule → List ℕ × List (Known Item) → Item → Entry Item → Bool
  hasb r t x e = same e.known.item x && (leb e.known.height (suc (tallest t.1))
      && implies (eqb e.known.height (suc (tallest t.1))) (not (lexb (r.function ∷ t.0) (e.function ∷ e.places))))

  abbrev waysb : Bool
  waysb = all (λ e. any (λ r. eqb r.function e.function && any (wayb e r) (tuples L r.daughters)) G.rules) C

  abbrev closedb : Bool
  closedb = all (λ r. all (λ t. all (λ x. any (hasb r t x) C) (outcomes ws r (things t.1))) (tuples L r.daughters)) G.rules

  abbrev pub check : Bool
  check = sortedb (items C) && (waysb && closedb)

  module _ (v : Valid G) where
    made : {r : Rule} (ds : List (Known Item)) {x : Item} → Mem r G.rules → categories (things ds) ≡ r.daughters
        → (y : Item) × Mem y (outcomes ws r (things ds)) × T (same x y) → Gives G ws r (things ds) x
    made {r} ds {x} m q (y, i, t) = rw (same→ x y t) (outcomes-mem (things ds) m (omega (arith, (v.linear m).dim, v.small r.category)) q i)

    way : {e : Entry Item} {r : Rule} {t : List ℕ × List (Known Item)} → Mem r G.rules → T (eqb r.function e.function) → Mem t (tuples L r.daughters)
        → T (wayb e r t) → Way (GivenBy G ws) L e.known e.function e.places
    unfolding GivenBy
    way {e} {r} {t} m f n b =
        let (p, c) = both (eqs t.0 e.places) _ b in
        let (h, o) = both (eqb e.known.height (suc (tallest t.1))) (any (same e.known.item) (outcomes ws r (things t.1))) c in
        record {
          daughters = t.1;
          found = rw (← eqs→eq t.0 e.places p) (tuples-mem L r.daughters n).0;
          given = (r, eqb→eq r.function e.function f, made t.1 m (tuples-mem L r.daughters n).1 (any_some (same e.known.item) (outcomes ws r (things t.1)) o));
          high = eqb→eq e.known.height (suc (tallest t.1)) h;
        }

    ways : T waysb → Each (λ e. Way (GivenBy G ws) L e.known e.function e.places) C
    ways t = each_map (λ e u. go₁ e (any_some _ G.rules u)) (all-each _ C t)
      where
        go₂ : (e : Entry Item) (r : Rule) → Mem r G.rules → T (eqb r.function e.function) × T (any (wayb e r) (tuples L r.daughters))
            → Way (GivenBy G ws) L e.known e.function e.places
        go₂ e r m (f, a) = let (s, n, b) = any_some (wayb e r) (tuples L r.daughters) a in way {e = e} {r = r} {t = s} m f n b

        go₁ : (e : Entry Item) → (r : Rule) × Mem r G.rules × T (eqb r.function e.function && any (wayb e r) (tuples L r.daughters))
            → Way (GivenBy G ws) L e.known e.function e.places
        go₁ e (r, m, q) = go₂ e r m (both (eqb r.function e.function) _ q)

  has : (r : Rule) {f : ℕ} → r.function ≡ f → (ps : List ℕ) (ds : List (Known Item)) (x : Item) (e : Entry Item) → T (hasb r (ps, ds) x e)
      → (e.known.item ≡ x) × (e.known.height ≤ suc (tallest ds)) × (e.known.height ≡ suc (tallest ds) → Lex (f ∷ ps) (e.function ∷ e.places) → ⊥)
  has r k ps ds x e t =
      let (a, z) = both (same e.known.item x) _ t in
      let (b, c) = both (leb e.known.height (suc (tallest ds))) _ z in (
        same→ e.known.item x a,
        leb→le _ _ b,
        λ h l. T_not (lexb (r.function ∷ ps) (e.function ∷ e.places)) (modus (eqb e.known.height (suc (tallest ds))) _ c (rw h (eqb_refl (suc (tallest ds)))))
            (lex→lexb (r.function ∷ ps) (e.function ∷ e.places) (rw k l)),
      )

  closed : T closedb → (f : ℕ) (ps : List ℕ) (ds : List (Known Item)) (x : Item) → map (get_elem? L) ps ≡ map some ds → GivenBy G ws f (things ds) x
      → (e : Entry Item) × Mem e C × (e.known.item ≡ x) × (e.known.height ≤ suc (tallest ds))
      × (e.known.height ≡ suc (tallest ds) → Lex (f ∷ ps) (e.function ∷ e.places) → ⊥)
  unfolding GivenBy
  closed t f ps ds x q (r, k, g) =
      let m : Mem (ps, ds) (tuples L r.daughters) = rw g.kinds at (mem-tuples L ps ds q) in
      let (e, n, z) = any_some (hasb r (ps, ds) x) C (each_at (all-each _ _ (each_at (all-each _ _ (each_at (all-each _ G.rules t) g.known)) m)) (mem-outcomes g)) in
      let (a, b, c) = has r k ps ds x e z in
      (e, n, a, b, c)

  pub checked : Valid G → T check → ChartOf G ws C
  checked v t =
      let (s, t₂) = both (sortedb (items C)) _ t in
      let (w, c) = both waysb closedb t₂ in
      chart-of G ws v (record { sorted = sorted _ s; ways = ways v w; closed = closed c })

  -- the verdict
  abbrev held_by : Option Item → Bool
  held_by none = false
  held_by (some x) = same x (goal G ws)

  held-by→ : (o : Option Item) → T (held_by o) → o ≡ some (goal G ws)
  held-by→ none t = absurd t
  held-by→ (some x) t = ap some (same→ x (goal G ws) t)

  abbrev pub verdictb : ℕ → ℕ → Bool
  verdictb zero p = held_by (get_elem? (items C) p)
  verdictb (suc c) p = (eqb c 0 && eqb p 0) && all (λ x. not (same x (goal G ws))) (items C)

  pub verdict : (c p : ℕ) → T (verdictb c p) → Verdict G ws C c p
  verdict zero p t = yes_at (held-by→ (get_elem? (items C) p) t)
  verdict (suc c) p t =
      let (a, b) = both (eqb c 0 && eqb p 0) _ t in
      let (u, v) = both (eqb c 0) (eqb p 0) a in
      rw (eqb→eq c 0 u, eqb→eq p 0 v) (no_goal (λ m. T_not (same (goal G ws) (goal G ws)) (each_at (all-each _ (items C) b) m) (eqs-refl (numbers (goal G ws)))))
