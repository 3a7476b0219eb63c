-- The two laws that join the meaning of a grammar to its charts: a rule gives only what a tree makes, and what a tree makes its root's rule gives.
-- Assumes nothing.
use mathlib.Core.Path.{◌≡◌, refl, sym, ap, ◌∙◌, subst}
use mathlib.Core.List.{List, [], ◌∷◌, Memᴰ as Mem}
use Prim.Native.Nat.{ℕ, zero, suc, ◌≤◌, ◌<◌}
use native.Mathlib.Decide.{dec_lt}
use native.Mathlib.Omega.{arith}
use lib.ListN.{length, get_or, length-map, get_or-map, get_or-eq_default}
use Rattle.meaning.specs.Range.{Range, none, Spans, Item, nothing, at, Counts}
use Rattle.meaning.specs.Grammar.{Symbol, word, part, Rule, Grammar, Tree, node, Trees, Of, of, OfAll, of_none, of_more, said, row, spell, spells, dimension}
use Rattle.meaning.specs.Giving.{Makes, MakeAll, make_none, make_more, Run, done, more, Stands, held, Gives, categories}
use Rattle.meaning.specs.Valid.{symbol, Linear, Valid}
use Rattle.meaning.proofs.Joining.{join→joined, joined→join}
use Rattle.meaning.proofs.Spans.{spans-none, spans-nil, join, split}

-- every item counts
pub counts_all : (x : Item) → Counts x
unfolding Counts
counts_all x = tt

-- a row spans what it says exactly where its symbols do, side by side
abbrev Spanned : List ℕ → List (List (List ℕ)) → Symbol → Range → Type 0
Spanned ws ps s p = Spans ws p (said ps s)

run-spans : (ws : List ℕ) (ps : List (List (List ℕ))) {ss : List Symbol} {r : Range} → Run (Spanned ws ps) ss r → Spans ws r (row ps ss)
unfolding row
run-spans ws ps (done e) = rw e spans-none
run-spans ws ps (more h d j) = join h (run-spans ws ps d) (joined→join j)

spans-run : (ws : List ℕ) (ps : List (List (List ℕ))) (ss : List Symbol) {r : Range} → Spans ws r (row ps ss) → Run (Spanned ws ps) ss r
unfolding row
spans-run ws ps [] h = done (spans-nil h)
spans-run ws ps (s ∷ ss) h = let (p, q, f, g, j) = split (said ps s) (row ps ss) h in more f (spans-run ws ps ss g) (join→joined j)

-- where the symbol j stands in a run
module _ {P : Symbol → Range → Type 0} where
  stand : {ss : List Symbol} {r : Range} → Run P ss r → ℕ → Range
  stand (done e) j = none
  stand (more {p = p} h d l) zero = p
  stand (more h d l) (suc j) = stand d j

  stands : {ss : List Symbol} {r : Range} (d : Run P ss r) (j : ℕ) {k c : ℕ} → get_or ss j (word 0) ≡ part k c → P (part k c) (stand d j)
  unfolding stand
  stands (done _) j e = let z : ◌≡◌ {A = ℕ} 0 1 = cc in absurd (omega arith)
  stands (more {p = p} h d l) zero e = subst (λ (s : Symbol). P s p) e h
  stands (more h d l) (suc j) e = stands d j e

  run-map : {Q : Symbol → Range → Type 0} {ss : List Symbol} {r : Range} (d : Run P ss r)
      → ((j : ℕ) → P (get_or ss j (word 0)) (stand d j) → Q (get_or ss j (word 0)) (stand d j)) → Run Q ss r
  unfolding stand
  run-map (done e) f = done e
  run-map (more h d l) f = more (f zero h) (run-map d (λ j. f (suc j))) l

-- the daughters' ranges span the daughters' constituents
at-nothing : (c : ℕ) → at nothing c ≡ none
at-nothing zero = refl
at-nothing (suc zero) = refl
at-nothing (suc (suc zero)) = refl
at-nothing (suc (suc (suc c))) = refl

module _ {G : Grammar} {ws : List ℕ} where
  held-spans : {ts : Trees} {ds : List Item} → MakeAll G ws ts ds → (k c : ℕ) → Spans ws (held ds k c) (get_or (get_or (spells ts) k []) c [])
  unfolding spells
  held-spans make_none k c = rw at-nothing spans-none
  held-spans (make_more m ms) zero c = m.spans c
  held-spans (make_more m ms) (suc k) c = held-spans ms k c

  all_of : {ts : Trees} {ds : List Item} → MakeAll G ws ts ds → OfAll G ts (categories ds)
  all_of make_none = of_none
  all_of (make_more m ms) = of_more m.kind (all_of ms)

  pub step : {r : Rule} {ts : Trees} {ds : List Item} {x : Item} → Gives G ws r ds x → MakeAll G ws ts ds → Makes G ws (node r ts) x
  unfolding spell row Stands said
  step {r} {ts} {ds} {x} g m = record {
    kind = of g.known g.kind (rw g.kinds at (all_of m));
    spans = λ i. rw (get_or-map (row (spells ts)) r.rows i []) (run-spans ws (spells ts) (run-map (g.rows i) (λ j. spanned (symbol r i j))));
    counts = g.counts;
  }
    where
      spanned : (s : Symbol) {p : Range} → Stands ws (held ds) s p → Spans ws p (said (spells ts) s)
      spanned (word w) h = h
      spanned (part k c) (e, h) = rw e (held-spans m k c)

of_parts : {G : Grammar} {r : Rule} {ts : Trees} {A : ℕ} → Of G (node r ts) A → Mem r G.rules × (A ≡ r.category) × OfAll G ts r.daughters
of_parts (of m e o) = (m, e, o)

-- items of the categories As at the ranges e
items : List ℕ → (ℕ → ℕ → Range) → List Item
items [] e = []
items (A ∷ As) e = record { category = A; one = e 0 0; two = e 0 1; three = e 0 2 } ∷ items As (λ k. e (suc k))

kinds-items : (As : List ℕ) (e : ℕ → ℕ → Range) → categories (items As e) ≡ As
unfolding items
kinds-items [] e = refl
kinds-items (A ∷ As) e = ap (λ (l : List ℕ). A ∷ l) (kinds-items As (λ k. e (suc k)))

module _ {G : Grammar} (v : Valid G) where
  held_items : (As : List ℕ) (e : ℕ → ℕ → Range) → ((k c : ℕ) → dimension G (get_or As k 0) ≤ c → none ≡ e k c) → (k c : ℕ) → held (items As e) k c ≡ e k c
  unfolding items
  held_items [] e h k c = at-nothing c ∙ h k c (omega arith)
  held_items (A ∷ As) e h (suc k) c = held_items As (λ k. e (suc k)) (λ k. h (suc k)) k c
  held_items (A ∷ As) e h zero zero = refl
  held_items (A ∷ As) e h zero (suc zero) = refl
  held_items (A ∷ As) e h zero (suc (suc zero)) = refl
  held_items (A ∷ As) e h zero (suc (suc (suc c))) = h zero (suc (suc (suc c))) (omega (arith, v.small A))

  pub spell-dimension : {t : Tree} {A : ℕ} → Of G t A → length (spell t) ≡ dimension G A
  unfolding spell
  spell-dimension (of {r = r} m e o) = length-map r.rows _ ∙ (v.linear m).dim ∙ ap (dimension G) (sym e)

  spells-dimension : {ts : Trees} {As : List ℕ} → OfAll G ts As → (k : ℕ) → length (get_or (spells ts) k []) ≡ dimension G (get_or As k 0)
  unfolding spells
  spells-dimension of_none k = refl
  spells-dimension (of_more o os) zero = spell-dimension o
  spells-dimension (of_more o os) (suc k) = spells-dimension os k

  make-items : {ws : List ℕ} {ts : Trees} {As : List ℕ} (e : ℕ → ℕ → Range) → OfAll G ts As
      → ((k c : ℕ) → dimension G (get_or As k 0) ≤ c → none ≡ e k c)
      → ((k c : ℕ) → Spans ws (e k c) (get_or (get_or (spells ts) k []) c [])) → MakeAll G ws ts (items As e)
  unfolding items spells
  make-items e of_none n h = make_none
  make-items {As = As} e (of_more o os) n h = make_more
      (record { kind = o; spans = λ c. rw (← held_items As e n zero c) at (h zero c); counts = counts_all _ })
      (make-items (λ k. e (suc k)) os (λ k. n (suc k)) (λ k. h (suc k)))

  module _ {ws : List ℕ} {r : Rule} {ts : Trees} {x : Item} (m : Makes G ws (node r ts) x) where
    parts : Mem r G.rules × (x.category ≡ r.category) × OfAll G ts r.daughters
    parts = of_parts m.kind

    linear : Linear G r
    linear = v.linear parts.0

    runs : (i : ℕ) → Run (Spanned ws (spells ts)) (get_or r.rows i []) (at x i)
    unfolding spell row
    runs i = spans-run ws (spells ts) (get_or r.rows i []) (rw (get_or-map (row (spells ts)) r.rows i []) at (m.spans i))

    -- each constituent's range: where it stands in the rule
    place : (k c : ℕ) → Dec (c < dimension G (get_or r.daughters k 0)) → Range
    place k c (yes l) = let (i, j, e) = linear.used k c l in stand (runs i) j
    place k c (no l) = none

    place_none : (k c : ℕ) (q : Dec (c < dimension G (get_or r.daughters k 0))) → dimension G (get_or r.daughters k 0) ≤ c → none ≡ place k c q
    unfolding place
    place_none k c (yes l) h = absurd (omega arith)
    place_none k c (no l) h = refl

    place-spans : (k c : ℕ) (q : Dec (c < dimension G (get_or r.daughters k 0))) → Spans ws (place k c q) (get_or (get_or (spells ts) k []) c [])
    unfolding place said
    place-spans k c (yes l) = let (i, j, e) = linear.used k c l in stands (runs i) j e
    place-spans k c (no l) = rw (get_or-eq_default (get_or (spells ts) k []) [] {n = c} (omega (arith, spells-dimension parts.2 k))) spans-none

    place-stand : (i j k c : ℕ) (q : Dec (c < dimension G (get_or r.daughters k 0))) → symbol r i j ≡ part k c → stand (runs i) j ≡ place k c q
    unfolding place
    place-stand i j k c (yes l) e =
        let (i', j', e') = linear.used k c l in
        let (p, q) = linear.once i j i' j' e e' in
        λ t. stand (runs (p t)) (q t)
    place-stand i j k c (no l) e = absurd (l (linear.inside i j e))

    found : ℕ → ℕ → Range
    found k c = place k c (dec_lt c (dimension G (get_or r.daughters k 0)))

    pub inverse : (ds : List Item) × MakeAll G ws ts ds × Gives G ws r ds x
    unfolding Stands said found
    inverse = (
      items r.daughters found,
      make-items found parts.2 none_found (λ k c. place-spans k c _),
      record {
        known = parts.0;
        kind = parts.1;
        kinds = kinds-items r.daughters found;
        rows = λ i. run-map (runs i) (λ j. stood i j (symbol r i j) refl);
        counts = m.counts;
      },
    )
      where
        none_found : (k c : ℕ) → dimension G (get_or r.daughters k 0) ≤ c → none ≡ found k c
        none_found k c = place_none k c _

        stood : (i j : ℕ) (s : Symbol) → symbol r i j ≡ s → Spanned ws (spells ts) s (stand (runs i) j) → Stands ws (held (items r.daughters found)) s (stand (runs i) j)
        stood i j (word w) e h = h
        stood i j (part k c) e h = (place-stand i j k c _ e ∙ sym (held_items r.daughters found none_found k c), h.range)
