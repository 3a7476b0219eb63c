-- Rows are independent: where all daughters of several parts are chosen, a rule gives an item from them and some known daughters of one
-- part exactly where each row, by itself, can have the item's range (`together`, `alone`).
use mathlib.Core.Path.{◌≡◌, refl, sym, ap, ◌∙◌, subst}
use mathlib.Core.List.{List, [], ◌∷◌}
use Prim.Native.Nat.{ℕ, zero, suc, ◌≤◌, ◌<◌}
use native.Mathlib.Decide.{dec_lt}
use native.Mathlib.Omega.{arith}
use lib.ListN.{length, get_or, length-map, get_or-map, get_or-eq_default}
use lib.Seq.{ext_get_or}
use Rattle.meaning.specs.Range.{Range, none, IsRange, Item, nothing, at}
use Rattle.meaning.specs.Grammar.{Symbol, word, part, Rule, Grammar, dimension}
use Rattle.meaning.specs.Giving.{Run, done, more, Stands, held, categories}
use Rattle.meaning.specs.Valid.{symbol, Linear, Valid}
use Rattle.meaning.proofs.Laws.{counts_all}
use Rattle.reach.specs.Reach.{Placed, any, chosen, May, Reach}
use Rattle.reach.specs.Apart.{single, Partly, GivesSome}

-- where the symbol j stands in a run
module _ {P : Symbol → Range → Type 0} where
  stand : {ss : List Symbol} {r : Range} → Run P ss r → ℕ → Range
  stand (done e) j = none
  stand (more {p = p} h d l) zero = p
  stand (more h d l) (suc j) = stand d j

  stands : {ss : List Symbol} {r : Range} (d : Run P ss r) (j : ℕ) {k c : ℕ} → get_or ss j (word 0) ≡ part k c → P (part k c) (stand d j)
  unfolding stand
  stands (done _) j e = let z : ◌≡◌ {A = ℕ} 0 1 = cc in absurd (omega arith)
  stands (more {p = p} h d l) zero e = subst (λ (s : Symbol). P s p) e h
  stands (more h d l) (suc j) e = stands d j e

  run-map : {Q : Symbol → Range → Type 0} {ss : List Symbol} {r : Range} (d : Run P ss r)
      → ((j : ℕ) → P (get_or ss j (word 0)) (stand d j) → Q (get_or ss j (word 0)) (stand d j)) → Run Q ss r
  unfolding stand
  run-map (done e) f = done e
  run-map (more h d l) f = more (f zero h) (run-map d (λ j. f (suc j))) l

-- the daughter that is chosen, or a phrase of category A
pick : ℕ → Item → Range → Item
pick zero d p = d
pick (suc A) d p = single (suc A) p

fill : (ℕ → ℕ) → (ℕ → Range) → List Item → List Item
fill free f [] = []
fill free f (d ∷ ds) = pick (free 0) d (f 0) ∷ fill (λ k. free (suc k)) (λ k. f (suc k)) ds

fill-length : (free : ℕ → ℕ) (f : ℕ → Range) (ds : List Item) → length (fill free f ds) ≡ length ds
unfolding fill
fill-length free f [] = refl
fill-length free f (d ∷ ds) = ap suc (fill-length (λ k. free (suc k)) (λ k. f (suc k)) ds)

fill-at : (free : ℕ → ℕ) (f : ℕ → Range) (ds : List Item) (k : ℕ) → k < length ds → get_or (fill free f ds) k nothing ≡ pick (free k) (get_or ds k nothing) (f k)
unfolding fill
fill-at free f [] k h = absurd (omega arith)
fill-at free f (d ∷ ds) zero h = refl
fill-at free f (d ∷ ds) (suc k) h = fill-at (λ k. free (suc k)) (λ k. f (suc k)) ds k (omega arith)

pick-none : (A : ℕ) (d : Item) (p : Range) → A ≡ 0 → pick A d p ≡ d
unfolding pick
pick-none zero d p e = refl
pick-none (suc A) d p e = absurd (omega arith)

pick_some : (A : ℕ) (d : Item) (p : Range) → (A ≡ 0 → ⊥) → pick A d p ≡ single A p
unfolding pick
pick_some zero d p n = absurd (n refl)
pick_some (suc A) d p n = refl

suc-not : {n A : ℕ} → n ≡ suc A → n ≡ 0 → ⊥
suc-not e z = omega arith

module _ {G : Grammar} (v : Valid G) (ws : List ℕ) {r : Rule} (K : ℕ → Range → Type 0) {free : ℕ → ℕ} {ds : List Item} (o : Partly G r free ds) where
  linear : Linear G r
  linear = v.linear o.known

  abbrev dim_of : ℕ → ℕ
  dim_of k = dimension G (get_or r.daughters k 0)

  -- a daughter that is not chosen has one part
  one-part : (k : ℕ) → (free k ≡ 0 → ⊥) → dim_of k ≡ 1
  one-part k n = let (l, e, d) = o.unchosen k n in ap (dimension G) (sym e) ∙ d

  first_part : (i j k c : ℕ) → (free k ≡ 0 → ⊥) → symbol r i j ≡ part k c → c ≡ 0
  first_part i j k c n e = omega (arith, linear.inside i j e, one-part k n)

  -- what the rule gives has in each row a range that the row can have
  module _ {x : Item} (g : GivesSome G ws r K free ds x) where
    stood : (i j : ℕ) (s : Symbol) (p : Range) → symbol r i j ≡ s → Stands ws (held g.full) s p → May ws K free (held ds) s p
    unfolding Stands May
    stood i j (word w) p e h = h
    stood i j (part k c) p e (q, h) = by (free k) refl
      where
        by : (A : ℕ) → free k ≡ A → Placed ws K (free k) (held ds k c) p
        by zero z = chosen z (q ∙ ap (λ (y : Item). at y c) (g.fills.keeps k z)) h
        by (suc A) z =
            let n : free k ≡ 0 → ⊥ = suc-not z in
            let (u, m, f) = g.fills.fills k n in
            let w : p ≡ u = q ∙ ap (λ (y : Item). at y c) f ∙ ap (λ (y : ℕ). at (single (free k) u) y) (first_part i j k c n e) in
            any (omega arith) (subst (K (free k)) (sym w) m) h

    pub together : (x.category ≡ r.category) × ((i : ℕ) → Reach ws K free (held ds) (get_or r.rows i []) (at x i))
    together = (g.gives.kind, λ i. run-map (g.gives.rows i) (λ j. stood i j (symbol r i j) _ refl))

  -- what each row can have by itself the rule gives
  module _ (x : Item) (kind : x.category ≡ r.category) (runs : (i : ℕ) → Reach ws K free (held ds) (get_or r.rows i []) (at x i)) where
    used : (k : ℕ) → (free k ≡ 0 → ⊥) → (i : ℕ) × (j : ℕ) × (symbol r i j ≡ part k 0)
    used k n = linear.used k 0 (omega (arith, one-part k n))

    -- the part of a daughter that is not chosen: where it stands in the rule
    place : (k A : ℕ) → free k ≡ A → Range
    place k zero z = none
    place k (suc A) z = let (i, j, e) = used k (suc-not z) in stand (runs i) j

    place-known : (k A : ℕ) (z : free k ≡ A) → (free k ≡ 0 → ⊥) → K (free k) (place k A z)
    unfolding place May
    place-known k zero z n = absurd (n z)
    place-known k (suc A) z n = let (i, j, e) = used k (suc-not z) in known (stands (runs i) j e)
      where
        known : {p q : Range} → Placed ws K (free k) q p → K (free k) p
        known (any l m h) = m
        known (chosen l m h) = absurd (n l)

    place-stand : (i j k c A : ℕ) (z : free k ≡ A) → (free k ≡ 0 → ⊥) → symbol r i j ≡ part k c → stand (runs i) j ≡ place k A z
    unfolding place
    place-stand i j k c zero z n e = absurd (n z)
    place-stand i j k c (suc A) z n e =
        let (i', j', e') = used k (suc-not z) in
        let (p, q) = linear.once i j i' j' (e ∙ ap (part k) (first_part i j k c n e)) e' in
        λ t. stand (runs (p t)) (q t)

    found : ℕ → Range
    found k = place k (free k) refl

    full : List Item
    full = fill free found ds

    past : (k : ℕ) → length ds ≤ k → (free k ≡ 0 → ⊥) → ⊥
    past k h n = omega (arith, (o.unchosen k n).0)

    full-keeps : (k : ℕ) → free k ≡ 0 → get_or full k nothing ≡ get_or ds k nothing
    unfolding full
    full-keeps k z = by (dec_lt k (length ds))
      where
        by : Dec (k < length ds) → get_or full k nothing ≡ get_or ds k nothing
        by (yes h) = fill-at free found ds k h ∙ pick-none (free k) (get_or ds k nothing) (found k) z
        by (no h) =
            get_or-eq_default full nothing {n = k} (omega (arith, fill-length free found ds))
            ∙ sym (get_or-eq_default ds nothing {n = k} (omega arith))

    full-fills : (k : ℕ) → (free k ≡ 0 → ⊥) → get_or full k nothing ≡ single (free k) (found k)
    unfolding full
    full-fills k n = fill-at free found ds k (o.unchosen k n).0 ∙ pick_some (free k) (get_or ds k nothing) (found k) n

    full-kinds : categories full ≡ r.daughters
    unfolding full
    full-kinds = ext_get_or 0 (categories full) r.daughters (length-map full _ ∙ fill-length free found ds ∙ o.size)
        (λ k h. get_or-map (λ (d : Item). d.category) full k nothing ∙ by k (free k) refl)
      where
        by : (k A : ℕ) → free k ≡ A → (get_or full k nothing).category ≡ get_or r.daughters k 0
        by k zero z = ap (λ (d : Item). d.category) (full-keeps k z) ∙ o.chosen k z
        by k (suc A) z = let n : free k ≡ 0 → ⊥ = suc-not z in ap (λ (d : Item). d.category) (full-fills k n) ∙ (o.unchosen k n).1

    runs-full : (i j : ℕ) (s : Symbol) → symbol r i j ≡ s → May ws K free (held ds) s (stand (runs i) j) → Stands ws (held full) s (stand (runs i) j)
    unfolding Stands May found
    runs-full i j (word w) e h = h
    runs-full i j (part k c) e h = by h
      where
        here : (free k ≡ 0 → ⊥) → stand (runs i) j ≡ held full k c
        here n =
            place-stand i j k c (free k) refl n e
            ∙ ap (λ (y : ℕ). at (single (free k) (found k)) y) (sym (first_part i j k c n e))
            ∙ ap (λ (d : Item). at d c) (sym (full-fills k n))

        by : Placed ws K (free k) (held ds k c) (stand (runs i) j) → (stand (runs i) j ≡ held full k c) × IsRange ws (stand (runs i) j)
        by (any l m q) = (here (λ z. omega arith), q)
        by (chosen l m q) = (m ∙ ap (λ (d : Item). at d c) (sym (full-keeps k l)), q)

    pub alone : GivesSome G ws r K free ds x
    unfolding full found
    alone = record {
      full = full;
      fills = record { size = fill-length free found ds; keeps = full-keeps; fills = λ k n. (found k, place-known k (free k) refl n, full-fills k n) };
      gives = record { known = o.known; kind = kind; kinds = full-kinds; rows = λ i. run-map (runs i) (λ j. runs-full i j (symbol r i j) refl); counts = counts_all x };
    }
