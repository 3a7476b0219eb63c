-- All that a rule gives, as lists that compute.
-- Assumes nothing.
use mathlib.Core.Path.{◌≡◌, refl, sym, ap}
use mathlib.Core.Logic.{◌⊎◌, inl, inr}
use mathlib.Core.Bool.{Bool, ◌&&◌, ◌||◌}
use mathlib.Core.Option.{Option, none as none?, some, none-ne-some}
use mathlib.Core.List.Memᴰ.{head as here}
use mathlib.Core.List.Memᴰ.{tail as there}
use mathlib.Core.List.{List, [], ◌∷◌, map, Memᴰ as Mem}
use mathlib.Core.List.Memᴰ.{eq_of_singleton as mem-one}
use mathlib.Core.List.Memᴰ.{not-nil as not-mem-nil}
use mathlib.Core.List.{nil≢cons, cons≢nil}
use Prim.Native.Nat.{ℕ, zero, suc, ◌≤◌}
use native.Mathlib.Omega.{arith}
use lib.Dec.{T, eqb, leb, ltb, eqb→eq, eqb_refl, ltb→lt, lt→ltb, leb→le, le→leb}
use lib.ListN.{length, get_or, get_elem?, get_or-eq_default}
use Rattle.meaning.specs.Range.{Range, none, IsRange, Spans, Item, is_none, joined}
use Rattle.meaning.specs.Grammar.{Symbol, word, part, Rule, Grammar}
use Rattle.meaning.specs.Giving.{Run, done, more, Stands, held, Gives, categories}
use Rattle.meaning.specs.Chart.{Known, things}
use Rattle.meaning.proofs.Joining.{range-path, is_none→, →is_none}
use Rattle.meaning.proofs.Spans.{one_word, word_at}
use Rattle.meaning.proofs.Laws.{counts_all}
use Rattle.meaning.proofs.Theory.{mem-map, map-mem}
use Rattle.meaning.proofs.Tests.{both, two, either, left_or, right_or, keep, keep-mem, mem-keep, bind, bind-mem, mem-bind, upto, upto-mem, mem-upto}

-- ranges
abbrev pub is_range : List ℕ → Range → Bool
is_range ws p = is_none p || (ltb p.from p.to && leb p.to (length ws))

pub is_range→ : (ws : List ℕ) (p : Range) → T (is_range ws p) → IsRange ws p
is_range→ ws p t = go (either (is_none p) (ltb p.from p.to && leb p.to (length ws)) t)
  where
    go : T (is_none p) ⊎ T (ltb p.from p.to && leb p.to (length ws)) → IsRange ws p
    go (inl u) = inl (is_none→ u)
    go (inr u) = let (a, b) = both (ltb p.from p.to) (leb p.to (length ws)) u in inr (ltb→lt _ _ a, leb→le _ _ b)

pub →is_range : (ws : List ℕ) {p : Range} → IsRange ws p → T (is_range ws p)
→is_range ws {p} (inl e) = left_or (is_none p) _ (→is_none e)
→is_range ws {p} (inr (l, k)) = right_or (is_none p) _ (two (ltb p.from p.to) (leb p.to (length ws)) (lt→ltb _ _ l) (le→leb _ _ k))

abbrev kept : Option Range → List Range
kept none? = []
kept (some r) = r ∷ []

mem-kept : (o : Option Range) {r : Range} → o ≡ some r → Mem r (kept o)
mem-kept none? {r} e = absurd (none-ne-some r e)
mem-kept (some q) e = here {x = q} (cc)

kept-mem : (o : Option Range) {r : Range} → Mem r (kept o) → o ≡ some r
kept-mem none? m = absurd (not-mem-nil m)
kept-mem (some q) m = ap some (sym (mem-one m))

-- where a word stands
abbrev spots : List ℕ → ℕ → List Range
spots ws w = bind (upto (length ws)) (λ i. keep (eqb (get_or ws i 0) w) (record { from = i; to = suc i }))

mem-spots : (ws : List ℕ) (w : ℕ) {p : Range} → Spans ws p (w ∷ []) → Mem p (spots ws w)
mem-spots ws w {p} h =
    let (l, t, e) = word_at h in
    mem-bind _ (mem-upto (length ws) l) (mem-keep (eqb (get_or ws p.from 0) w) (rw e (eqb_refl w)) (range-path refl t))

spots-mem : (ws : List ℕ) (w : ℕ) {p : Range} → Mem p (spots ws w) → Spans ws p (w ∷ [])
spots-mem ws w m =
    let (i, n, k) = bind-mem (upto (length ws)) _ m in
    let (t, e) = keep-mem (eqb (get_or ws i 0) w) k in
    rw e (one_word (upto-mem (length ws) n) (eqb→eq (get_or ws i 0) w t))

-- where a row stands
abbrev sites : List ℕ → (ℕ → ℕ → Range) → Symbol → List Range
sites ws e (word w) = spots ws w
sites ws e (part k c) = keep (is_range ws (e k c)) (e k c)

module _ (ws : List ℕ) (e : ℕ → ℕ → Range) where
  mem-sites : (s : Symbol) {p : Range} → Stands ws e s p → Mem p (sites ws e s)
  unfolding Stands
  mem-sites (word w) h = mem-spots ws w h
  mem-sites (part k c) (h, i) = mem-keep (is_range ws (e k c)) (→is_range ws (rw h at i)) h

  sites-mem : (s : Symbol) {p : Range} → Mem p (sites ws e s) → Stands ws e s p
  unfolding Stands
  sites-mem (word w) m = spots-mem ws w m
  sites-mem (part k c) m = let (t, h) = keep-mem (is_range ws (e k c)) m in (h, rw h (is_range→ ws (e k c) t))

  abbrev runs : List Symbol → List Range
  runs [] = none ∷ []
  runs (s ∷ ss) = bind (runs ss) (λ q. bind (sites ws e s) (λ p. kept (joined p q)))

  mem-runs : {ss : List Symbol} {r : Range} → Run (Stands ws e) ss r → Mem r (runs ss)
  mem-runs (done h) = here h
  mem-runs (more {s = s} {p = p} {q = q} h d j) = mem-bind _ (mem-runs d) (mem-bind (λ p. kept (joined p q)) (mem-sites s h) (mem-kept _ j))

  runs-mem : (ss : List Symbol) {r : Range} → Mem r (runs ss) → Run (Stands ws e) ss r
  runs-mem [] m = done (mem-one m)
  runs-mem (s ∷ ss) m =
      let (q, i, n) = bind-mem (runs ss) _ m in
      let (p, j, k) = bind-mem (sites ws e s) (λ p. kept (joined p q)) n in
      more (sites-mem s j) (runs-mem ss i) (kept-mem _ k)

-- the items that a rule gives
abbrev pub outcomes : List ℕ → Rule → List Item → List Item
outcomes ws r ds =
    bind (runs ws (held ds) (get_or r.rows 0 [])) (λ a.
    bind (runs ws (held ds) (get_or r.rows 1 [])) (λ b.
    bind (runs ws (held ds) (get_or r.rows 2 [])) (λ c.
    record { category = r.category; one = a; two = b; three = c } ∷ [])))

pub mem-outcomes : {G : Grammar} {ws : List ℕ} {r : Rule} {ds : List Item} {x : Item} → Gives G ws r ds x → Mem x (outcomes ws r ds)
mem-outcomes {G} {ws} {r} {ds} {x} g =
    mem-bind _ (mem-runs ws (held ds) (g.rows 0)) (mem-bind _ (mem-runs ws (held ds) (g.rows 1)) (mem-bind _ (mem-runs ws (held ds) (g.rows 2))
    (here (λ t. record { category = g.kind t; one = x.one; two = x.two; three = x.three }))))

pub outcomes-mem : {G : Grammar} {ws : List ℕ} {r : Rule} (ds : List Item) {x : Item} → Mem r G.rules → length r.rows ≤ 3
    → categories ds ≡ r.daughters → Mem x (outcomes ws r ds) → Gives G ws r ds x
outcomes-mem {G} {ws} {r} ds {x} known small kinds m =
    let (a, i, m₁) = bind-mem (runs ws (held ds) (get_or r.rows 0 [])) _ m in
    let (b, j, m₂) = bind-mem (runs ws (held ds) (get_or r.rows 1 [])) _ m₁ in
    let (c, k, m₃) = bind-mem (runs ws (held ds) (get_or r.rows 2 [])) _ m₂ in
    rw (mem-one m₃) (record { known = known; kind = refl; kinds = kinds; rows = rows i j k; counts = counts_all _ })
  where
    rows : {a b c : Range} → Mem a (runs ws (held ds) (get_or r.rows 0 [])) → Mem b (runs ws (held ds) (get_or r.rows 1 [])) → Mem c (runs ws (held ds) (get_or r.rows 2 []))
        → (i : ℕ) → Run (Stands ws (held ds)) (get_or r.rows i []) (get_or (a ∷ b ∷ c ∷ []) i none)
    rows i j k zero = runs-mem ws (held ds) _ i
    rows i j k (suc zero) = runs-mem ws (held ds) _ j
    rows i j k (suc (suc zero)) = runs-mem ws (held ds) _ k
    rows i j k (suc (suc (suc n))) = rw (get_or-eq_default r.rows [] {n = suc (suc (suc n))} (omega arith)) (done refl)

-- the daughters to try, each with its place
abbrev pub seats : {A : Type 0} → List A → List (ℕ × A)
seats [] = []
seats {A} (a ∷ l) = (0, a) ∷ map (λ (s : ℕ × A). (suc s.0, s.1)) (seats l)

mem-seats : {A : Type 0} (l : List A) (p : ℕ) {a : A} → get_elem? l p ≡ some a → Mem (p, a) (seats l)
mem-seats [] p e = let z : ◌≡◌ {A = ℕ} 0 1 = cc in absurd (omega arith)
mem-seats (b ∷ l) zero {a} e = here {x = (0, b)} (cc)
mem-seats {A} (b ∷ l) (suc p) e = there (mem-map (λ (s : ℕ × A). (suc s.0, s.1)) (mem-seats l p e))

seats-mem : {A : Type 0} (l : List A) {s : ℕ × A} → Mem s (seats l) → get_elem? l s.0 ≡ some s.1
seats-mem [] m = absurd (not-mem-nil m)
seats-mem (b ∷ l) (here e) = rw e refl
seats-mem {A} (b ∷ l) (there m) = let (s, n, e) = map-mem (λ (s : ℕ × A). (suc s.0, s.1)) (seats l) m in rw e (seats-mem l n)

module _ (L : List (Known Item)) where
  abbrev pub tuples : List ℕ → List (List ℕ × List (Known Item))
  tuples [] = ([], []) ∷ []
  tuples (A ∷ As) = bind (tuples As) (λ t. bind (seats L) (λ s. keep (eqb s.1.item.category A) (s.0 ∷ t.0, s.1 ∷ t.1)))

  pub mem-tuples : (ps : List ℕ) (ds : List (Known Item)) → map (get_elem? L) ps ≡ map some ds → Mem (ps, ds) (tuples (categories (things ds)))
  mem-tuples [] [] e = here refl
  mem-tuples [] (d ∷ ds) e = absurd (nil≢cons e)
  mem-tuples (p ∷ ps) [] e = absurd (cons≢nil e)
  mem-tuples (p ∷ ps) (d ∷ ds) e =
      mem-bind _ (mem-tuples ps ds (cc)) (mem-bind _ (mem-seats L p {a = d} (cc)) (mem-keep (eqb d.item.category d.item.category) (eqb_refl d.item.category) refl))

  pub tuples-mem : (As : List ℕ) {t : List ℕ × List (Known Item)} → Mem t (tuples As)
      → (map (get_elem? L) t.0 ≡ map some t.1) × (categories (things t.1) ≡ As)
  tuples-mem [] m = rw (mem-one m) (refl, refl)
  tuples-mem (A ∷ As) m =
      let (t, i, n) = bind-mem (tuples As) _ m in
      let (s, j, k) = bind-mem (seats L) _ n in
      let (b, e) = keep-mem (eqb s.1.item.category A) k in
      let (f, g) = tuples-mem As i in
      let h = seats-mem L j in
      let c = eqb→eq s.1.item.category A b in
      rw e (cc, cc)
