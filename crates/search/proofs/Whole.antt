-- What the search finds is the chart's items: all of them in chart order with their heights, or more than there is room for.
use mathlib.Core.Path.{◌≡◌, refl, ap, sym, subst, ◌∙◌}
use mathlib.Core.Logic.{⊎_elim}
use mathlib.Core.List.{List, [], ◌∷◌, map, Memᴰ as Mem}
use Prim.Native.Nat.{ℕ, ◌<◌, ◌≤◌}
use native.Mathlib.Omega.{arith}
use lib.ListN.{length, length-map}
use Rattle.meaning.specs.Order.{Each, each_none, each_more, Sorted, sorted_none, sorted_more}
use Rattle.meaning.specs.Range.{Item}
use Rattle.meaning.specs.Giving.{True}
use Rattle.meaning.specs.Chart.{Known, Entry, Least, Chosen, Before, Made, GivenBy, ChartOf, knowns, items, entry_known, item_of, item}
use Rattle.meaning.specs.Reading.{Over}
use Rattle.meaning.specs.Table.{got, check_table}
use Rattle.meaning.specs.Decode.{grammar_of}
use Rattle.meaning.proofs.Order.{each_of}
use Rattle.meaning.proofs.Theory.{mem-map, map-mem}
use Rattle.store.specs.Set.{key_of, height_of}
use Rattle.store.specs.Code.{unpacked, packed, known_of}
use Rattle.store.proofs.Laws.{lt-or-ge}
use Rattle.store.proofs.Packing.{unpack-pack, same_key, lt→before}
use Rattle.search.specs.Search.{keyed, All, More}
use Rattle.search.specs.Keys.{KeyMade}
use Rattle.search.proofs.Keys.{made-small}

-- a key has one code
one_code : {Mk : ℕ → ℕ → Type 0} {c d : ℕ} → Least Mk (keyed c) → Least Mk (keyed d) → key_of c ≡ key_of d → c ≡ d
one_code {Mk} {c} {d} p q e =
    let m : Mk (key_of c) (height_of d) = subst (λ (x : ℕ). Mk x (height_of d)) (sym e) q.made in
    let n : Mk (key_of d) (height_of c) = subst (λ (x : ℕ). Mk x (height_of c)) e p.made in
    omega (arith, p.least (height_of d) m, q.least (height_of c) n)

abbrev pub thing : ℕ → Item
thing c = unpacked (key_of c)

each-thing : (c : ℕ) {C : List ℕ} → Each (λ d. key_of c < key_of d) C → Each (Before (thing c)) (map thing C)
each-thing c each_none = each_none
each-thing c (each_more {a = d} l ls) = each_more {a = thing d} (lt→before (key_of c) (key_of d) l) (each-thing c ls)

distinct-thing : (c : ℕ) {C : List ℕ} → Each (λ d. key_of c < key_of d) C → Each (λ y. thing c ≡ y → ⊥) (map thing C)
distinct-thing c each_none = each_none
distinct-thing c (each_more {a = d} l ls) = each_more {a = thing d} (λ (e : thing c ≡ thing d). let q = same_key e in omega arith) (distinct-thing c ls)

module _ {Mk : ℕ → ℕ → Type 0} where
  keys-rise : {c : ℕ} {C : List ℕ} → Least Mk (keyed c) → Each (λ d. Least Mk (keyed d)) C → Each (λ d. c < d) C → Each (λ d. key_of c < key_of d) C
  keys-rise p each_none each_none = each_none
  keys-rise {c} p (each_more {a = d} q qs) (each_more l ls) = each_more (⊎_elim (λ h. h) (λ g. let e : key_of c ≡ key_of d = omega arith in let z = one_code p q e in absurd (omega arith)) (lt-or-ge (key_of c) (key_of d))) (keys-rise p qs ls)

  -- codes in order are items in chart order
  pub in_order : {C : List ℕ} → Each (λ d. Least Mk (keyed d)) C → Sorted (λ a b. a < b) C → Sorted Before (map thing C)
  in_order each_none sorted_none = sorted_none
  in_order (each_more {a = c} p ps) (sorted_more l s) = sorted_more {a = thing c} (each-thing c (keys-rise p ps l)) (in_order ps s)

  pub distinct : {C : List ℕ} → Each (λ d. Least Mk (keyed d)) C → Sorted (λ a b. a < b) C → Sorted (λ x y. x ≡ y → ⊥) (map thing C)
  distinct each_none sorted_none = sorted_none
  distinct (each_more {a = c} p ps) (sorted_more l s) = sorted_more {a = thing c} (distinct-thing c (keys-rise p ps l)) (distinct ps s)

-- more keys than room are more true items than room
pub more-over : (t ws : List ℕ) {room : ℕ} → More (KeyMade t ws) room → Over (grammar_of t) ws room
unfolding KeyMade Made True
more-over t ws {room} M = record {
  some = map thing M.some;
  apart = distinct (each_of M.some M.right) M.sorted;
  true = each_of (map thing M.some) (λ x m. let (c, i, q) = map-mem thing M.some m in let (u, k, l) = (M.right c i).made in rw q (u, k));
  more = omega (arith, M.many, length-map M.some thing);
}

-- entries of codes have the codes' items
pub same-items : (E : List (Entry Item)) (C : List ℕ) → knowns E ≡ map known_of C → items E ≡ map thing C
same-items E C q = both E ∙ ap (map item) q ∙ others C
  where
    both : (E : List (Entry Item)) → items E ≡ map item (knowns E)
    both [] = refl
    both (x ∷ E) = ap (λ (l : List Item). item_of x ∷ l) (both E)

    others : (C : List ℕ) → map item (map known_of C) ≡ map thing C
    others [] = refl
    others (c ∷ C) = ap (λ (l : List Item). thing c ∷ l) (others C)

-- with the chosen functions and daughters, all codes are the chart
pub all-chart : (t ws : List ℕ) → check_table t ≡ got tt → length ws ≤ 64 → {C : List ℕ} → All (KeyMade t ws) C → (E : List (Entry Item)) → knowns E ≡ map known_of C
    → Each (Chosen (GivenBy (grammar_of t) ws) (knowns E)) E → ChartOf (grammar_of t) ws E
unfolding KeyMade
all-chart t ws e short {C} A E q choices = record {
  sorted = rw same (in_order (each_of C A.right) A.sorted);
  whole = λ x m y.
      let u = unpack-pack x (made-small t ws e short x m y) in
      let h = A.whole (packed x) m (rw u y) in
      let i : thing h.code ≡ x = ap unpacked h.is ∙ u in
      rw (same, ← i) (mem-map thing h.there);
  heights = each_of E (λ x m. least x.known (mem-map entry_known m));
  choices = choices;
}
  where
    same : items E ≡ map thing C
    same = same-items E C q

    least : (k : Known Item) → Mem k (knowns E) → Least (Made (grammar_of t) ws) k
    least k m =
        let (c, i, p) = map-mem known_of C (rw q at m) in
        let r = A.right c i in
        rw p (record { made = r.made; least = r.least })
