-- From exact sets one level makes exactly the next, and where nothing is new all is there. Over any rules of deduction on keys.
use mathlib.Core.Path.{◌≡◌, refl, ap, ◌∙◌}
use mathlib.Core.Logic.{◌⊎◌, inl, inr, ⊎_elim}
use mathlib.Core.List.Memᴰ.{head as here}
use mathlib.Core.List.Memᴰ.{not-nil as not-mem-nil}
use mathlib.Core.List.Memᴰ.{tail as there}
use mathlib.Core.List.{List, [], ◌∷◌, map, Memᴰ as Mem}
use Prim.Native.Nat.{ℕ, zero, suc, ◌+◌, ◌<◌, ◌≤◌}
use native.Mathlib.Omega.{arith}
use lib.ListN.{length}
use Rattle.meaning.specs.Order.{Each, each_none, each_more, sorted_none, sorted_more}
use Rattle.meaning.specs.Chart.{Known, things, tallest, Least}
use Rattle.meaning.proofs.Order.{each_at, each_of}
use Rattle.meaning.proofs.Theory.{Deduction, bounded}
use Rattle.store.specs.Set.{Sorted, key_of, height_of, Held, Merged, place, gather}
use Rattle.store.proofs.Laws.{lt-or-ge, place-from, gather-sorted, gather-from}
use Rattle.store.proofs.Sets.{longer}
use Rattle.search.specs.Level.{New, Adds}
use Rattle.search.proofs.Filling.{held_in}
use Rattle.search.specs.Search.{keyed, Exact, All, More, Level}

things-keyed : (cs : List ℕ) → things (map keyed cs) ≡ map key_of cs
things-keyed [] = refl
things-keyed (c ∷ cs) = ap (λ (l : List ℕ). key_of c ∷ l) (things-keyed cs)

over-mem : {a b : ℕ} {E : List ℕ} → Each (λ b. a < b) E → Mem b E → a < b
over-mem o m = each_at o m

gather-length : (K E : List ℕ) → Sorted E → ((c : ℕ) → Mem c E → Mem c K → ⊥) → length (gather K E) ≡ length K + length E
gather-length K [] s d = omega arith
gather-length K (e ∷ E) (sorted_more o s) d =
    let r = gather-length (place e K) E s (λ c i j. ⊎_elim (λ q. omega (arith, over-mem o i)) (λ k. d c (there i) k) (place-from e K j)) in
    omega (arith, longer e K (d e (here refl)))

module _ {Mk : ℕ → ℕ → Type 0} {Gv : ℕ → List ℕ → ℕ → Type 0} (D : Deduction Mk Gv) where
  pub exact_none : Exact Mk [] 0
  exact_none = record {
    sorted = sorted_none;
    right = λ c m. absurd (not-mem-nil m);
    low = λ c m. absurd (not-mem-nil m);
    whole = λ x m y l. let (f, ds, ms, g, e) = D.down x m y in absurd (omega arith);
  }

  module _ {K : List ℕ} {h : ℕ} (X : Exact Mk K h) where
    made_of : (cs : List ℕ) {f x : ℕ} → Each (λ c. Mem c K) cs → Gv f (map key_of cs) x → Mk x (suc (tallest (map keyed cs)))
    made_of cs {f} {x} ms g = D.up f (map keyed cs) x (rw (things-keyed cs) g) (go cs ms)
      where
        go : (cs : List ℕ) → Each (λ c. Mem c K) cs → Each (λ d. Mk d.item d.height) (map keyed cs)
        go [] ms = each_none
        go (c ∷ cs) (each_more m ms) = each_more (X.right c m).made (go cs ms)

    low-all : (cs : List ℕ) → Each (λ c. Mem c K) cs → tallest (map keyed cs) ≤ h
    unfolding tallest
    low-all [] ms = omega arith
    low-all (c ∷ cs) (each_more m ms) = let r = low-all cs ms in omega (arith, X.low c m)

    -- what is given from K and is not in K is one level higher
    new-least : {x : ℕ} → Level Gv K h x → (Held x K → ⊥) → Mk x (suc h) × ((m : ℕ) → Mk x m → suc h ≤ m)
    new-least {x} w lacks = (rw w.high at (made_of w.codes w.among w.gives), least)
      where
        least : (m : ℕ) → Mk x m → suc h ≤ m
        least m y = ⊎_elim (λ l. absurd (lacks (X.whole x m y (omega arith)))) (λ g. g) (lt-or-ge m (suc h))

    pub fresh-least : {n : ℕ} → n ≡ h + 1 → (c : ℕ) → New K n (Level Gv K h) c → Least Mk (keyed c)
    fresh-least e c w =
        let (y, l) = new-least w.of w.unknown in
        let q : suc h ≡ height_of c = omega (arith, w.high) in
        record { made = rw q at y; least = λ m z. omega (arith, l m z, w.high) }

    -- codes of daughters that are held
    codes : {ds : List (Known ℕ)} → Each (λ d. Held d.item K) ds → (cs : List ℕ) × Each (λ c. Mem c K) cs × (map key_of cs ≡ things ds)
    codes each_none = ([], each_none, refl)
    codes (each_more w ws) = let (cs, ms, e) = codes ws in (w.code ∷ cs, each_more w.there ms, cc)

    module _ {F : List ℕ} (has : (x : ℕ) → Level Gv K h x → Held x K ⊎ Held x F) where
      -- what daughters in K give is in K or new
      got : (f x : ℕ) (ds : List (Known ℕ)) → Each (λ d. Held d.item K) ds → Gv f (things ds) x → Held x K ⊎ Held x F
      got f x ds hs g =
          let (cs, ms, e) = codes hs in
          let g' : Gv f (map key_of cs) x = rw e g in
          ⊎_elim
          (λ l. inl (X.whole x (suc (tallest (map keyed cs))) (made_of cs ms g') (omega arith)))
          (λ r. has x (record { function = f; codes = cs; among = ms; gives = g'; high = omega (arith, low-all cs ms) }))
          (lt-or-ge (tallest (map keyed cs)) h)

      upto : (x m : ℕ) → Mk x m → m ≤ suc h → Held x K ⊎ Held x F
      upto x m y l =
          let (f, ds, ms, g, e) = D.down x m y in
          got f x ds (each_of ds (λ d i. X.whole d.item d.height (each_at ms i) (omega (arith, each_at (bounded ds {n = h} (omega arith)) i)))) g

    pub next_level : {n : ℕ} {F M : List ℕ} → n ≡ h + 1 → Adds K n (Level Gv K h) [] F → Merged K F M → Exact Mk M n
    next_level {n} {F} {M} e A G = record {
      sorted = G.sorted;
      right = λ c m. ⊎_elim (λ i. X.right c i) (λ i. ⊎_elim (λ z. absurd (not-mem-nil z)) (λ w. fresh-least e c w) (A.origin c i)) (G.origin c m);
      low = λ c m. ⊎_elim (λ i. omega (arith, X.low c i)) (λ i. ⊎_elim (λ z. absurd (not-mem-nil z)) (λ w. omega (arith, w.high)) (A.origin c i)) (G.origin c m);
      whole = λ x m y l. ⊎_elim (λ w. held_in G.left w) (λ w. held_in G.right w) (upto A.has x m y (omega arith));
    }

    -- where nothing is new, all is there
    pub ended : {n : ℕ} → Adds K n (Level Gv K h) [] [] → All Mk K
    ended {n} A = record { sorted = X.sorted; right = X.right; whole = λ x m y. go m m x (omega arith) y }
      where
        old : {x : ℕ} → Held x K ⊎ Held x [] → Held x K
        old (inl w) = w
        old (inr w) = absurd (not-mem-nil w.there)

        go : (n m x : ℕ) → m ≤ n → Mk x m → Held x K
        go zero m x l y = let (f, ds, ms, g, e) = D.down x m y in absurd (omega arith)
        go (suc n) m x l y =
            let (f, ds, ms, g, e) = D.down x m y in
            old (got A.has f x ds (each_of ds (λ d i. go n d.height d.item (omega (arith, each_at (bounded ds {n = n} (omega arith)) i)) (each_at ms i))) g)

    -- new codes are not known
    pub apart : {n : ℕ} {E : List ℕ} → ((c : ℕ) → Mem c E → Mem c [] ⊎ New K n (Level Gv K h) c) → (c : ℕ) → Mem c E → Mem c K → ⊥
    apart o c i j = ⊎_elim (λ z. not-mem-nil z) (λ w. w.unknown (record { code = c; there = j; is = refl })) (o c i)

    pub too_many : {n : ℕ} {E : List ℕ} (room : ℕ) → n ≡ h + 1 → Sorted E → length K + length E ≡ room + 1
        → ((c : ℕ) → Mem c E → Mem c [] ⊎ New K n (Level Gv K h) c) → More Mk room
    too_many {n} {E} room q s len o = record {
      some = gather K E;
      sorted = gather-sorted E X.sorted;
      right = λ c m. ⊎_elim (λ i. X.right c i) (λ i. ⊎_elim (λ z. absurd (not-mem-nil z)) (λ w. fresh-least q c w) (o c i)) (gather-from K E m);
      many = gather-length K E s (apart o) ∙ len;
    }
