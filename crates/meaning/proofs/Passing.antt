-- A list of entries and its records: what is shown is read back, and a list whose entries are ways, in order, passes the tree writer's check.
use mathlib.Core.Path.{◌≡◌, refl, sym, ap, ◌∙◌}
use mathlib.Core.Logic.{inl, inr}
use mathlib.Core.Option.{some}
use mathlib.Core.List.Memᴰ.{head as here}
use mathlib.Core.List.Memᴰ.{tail as there}
use mathlib.Core.List.{List, [], ◌∷◌, ◌++◌, map, Memᴰ as Mem}
use Prim.Native.Nat.{ℕ, zero, suc, ◌+◌, ◌*◌, ◌-◌, ◌≤◌, ◌<◌}
use native.Mathlib.Omega.{arith}
use lib.ListN.{length, get_or, get_elem?, take, length-take, length-append, length-map, get_or-append, get_or-map}
use lib.Seq.{slice, length-slice, get_or-take, get_or-drop, ext_get_or, get_or-append-add}
use Rattle.meaning.specs.Order.{Each, Sorted, sorted_none, sorted_more}
use Rattle.meaning.specs.Range.{Item}
use Rattle.meaning.specs.Grammar.{Rule, Grammar}
use Rattle.meaning.specs.Valid.{Valid}
use Rattle.meaning.specs.Giving.{categories}
use Rattle.meaning.specs.Chart.{Known, Entry, Way, knowns, items, things, item_of, Before, GivenBy, shown, records}
use Rattle.meaning.specs.Decode.{past, several}
use Rattle.meaning.specs.TreeWriting.{named, rank_of, record_at, stated_at, entry_at, lent, Sound, TooMany, Passes, blank}
use Rattle.meaning.proofs.Order.{each_at}
use Rattle.meaning.proofs.Decoded.{several-length, several-at}
use Rattle.meaning.proofs.Walk.{found}

-- lists
pub get_or-mem : {A : Type 0} (d : A) (l : List A) (k : ℕ) → k < length l → Mem (get_or l k d) l
get_or-mem d [] k h = absurd (omega arith)
get_or-mem d (a ∷ l) zero h = here refl
get_or-mem d (a ∷ l) (suc k) h = there (get_or-mem d l k (omega arith))

pub sorted-at : {A : Type 0} {R : A → A → Type 0} (d : A) {l : List A} → Sorted R l → (i k : ℕ) → i < k → k < length l → R (get_or l i d) (get_or l k d)
sorted-at d sorted_none i k h n = absurd (omega arith)
sorted-at d (sorted_more p s) i zero h n = absurd (omega arith)
sorted-at d (sorted_more {l = l} p s) zero (suc k) h n = each_at p (get_or-mem d l k (omega arith))
sorted-at d (sorted_more p s) (suc i) (suc k) h n = sorted-at d s i k (omega arith) (omega arith)

pub past-suc : (i at : ℕ) → past i suc at ≡ at + i
unfolding past
past-suc zero at = omega arith
past-suc (suc i) at = past-suc i (suc at) ∙ omega arith

-- what is said of each place, one after another
pub several-is : {A : Type 0} (f : ℕ → A) (d : A) (C : List A) → ((i : ℕ) → i < length C → f i ≡ get_or C i d) → several (length C) f suc 0 ≡ C
several-is f d C h = ext_get_or d _ C (several-length f suc (length C) 0) (λ i l.
    let k : i < length C = omega (arith, several-length f suc (length C) 0) in
    several-at f suc (length C) 0 i d k ∙ ap f (past-suc i 0 ∙ omega arith) ∙ h i k)

-- the twelve numbers at record i are those of e
pub record Shows (c : List ℕ) (i : ℕ) (e : Entry Item) : Type 0 where
  pub there : 12 * i + 12 ≤ length c
  pub numbers : (k : ℕ) → k < 12 → get_or c (12 * i + k) 0 ≡ get_or (shown e) k 0

length-shown : (e : Entry Item) → length (shown e) ≡ 12
unfolding shown
length-shown e = refl

pub length-records : (C : List (Entry Item)) → length (records C) ≡ 12 * length C
unfolding records
length-records [] = refl
length-records (e ∷ C) = length-append (shown e) (records C) ∙ omega (arith, length-shown e, length-records C)

pub shows : (C : List (Entry Item)) (rest : List ℕ) (i : ℕ) → i < length C → Shows (records C ++ rest) i (get_or C i blank)
unfolding records
shows [] rest i h = absurd (omega arith)
shows (e ∷ C) rest zero h = record {
  there = omega (arith, length-append (shown e ++ records C) rest, length-append (shown e) (records C), length-shown e);
  numbers = λ k l.
      let a : k < length (shown e) = omega (arith, length-shown e) in
      let b : k < length (shown e ++ records C) = omega (arith, length-append (shown e) (records C)) in
      let q : 12 * 0 + k ≡ k = omega arith in
      rw q (get_or-append (shown e ++ records C) rest 0 k b ∙ get_or-append (shown e) (records C) 0 k a);
}
shows (e ∷ C) rest (suc i) h =
    let s = shows C rest i (omega arith) in
    let q : (shown e ++ records C) ++ rest ≡ shown e ++ (records C ++ rest) = simp mathlib.Core.List.append_assoc in
    rw q (record {
      there = omega (arith, length-append (shown e) (records C ++ rest), length-shown e, s.there);
      numbers = λ k l.
          let p : 12 * suc i + k ≡ length (shown e) + (12 * i + k) = omega (arith, length-shown e) in
          rw p (get_or-append-add (shown e) (records C ++ rest) (12 * i + k) 0 ∙ s.numbers k l);
    })

-- what a record shows is read back
pub slice_at : (a b : ℕ) (c : List ℕ) (k : ℕ) → a + k < b → get_or (slice a b c) k 0 ≡ get_or c (a + k) 0
slice_at a b c k h = get_or-drop a (take b c) k 0 ∙ get_or-take b c (a + k) 0 h

module _ {c : List ℕ} {i : ℕ} {e : Entry Item} (s : Shows c i e) where
  pub record_is : record_at c i ≡ shown e
  record_is = ext_get_or 0 _ _ (l ∙ sym (length-shown e)) (λ k h.
      let m : k < 12 = omega (arith, l) in
      slice_at (12 * i) (12 * i + 12) c k (omega arith) ∙ s.numbers k m)
    where
      l : length (record_at c i) ≡ 12
      l = length-slice (12 * i) (12 * i + 12) c s.there ∙ omega arith

  pub known_is : stated_at c i ≡ e.known
  unfolding stated_at shown
  known_is = λ t. record {
    item = record {
      category = s.numbers 0 (omega arith) t;
      one = record { from = s.numbers 3 (omega arith) t; to = s.numbers 4 (omega arith) t };
      two = record { from = s.numbers 5 (omega arith) t; to = s.numbers 6 (omega arith) t };
      three = record { from = s.numbers 7 (omega arith) t; to = s.numbers 8 (omega arith) t };
    };
    height = s.numbers 2 (omega arith) t;
  }

  function-is : get_or c (12 * i + 1) 0 ≡ e.function
  unfolding shown
  function-is = s.numbers 1 (omega arith)

  place_is : (k : ℕ) → k < 3 → get_or c (12 * i + 9 + k) 0 ≡ get_or e.places k 0
  unfolding shown
  place_is zero h = ap (λ (p : ℕ). get_or c p 0) (omega arith) ∙ s.numbers 9 (omega arith)
  place_is (suc zero) h = ap (λ (p : ℕ). get_or c p 0) (omega arith) ∙ s.numbers 10 (omega arith)
  place_is (suc (suc zero)) h = ap (λ (p : ℕ). get_or c p 0) (omega arith) ∙ s.numbers 11 (omega arith)
  place_is (suc (suc (suc k))) h = absurd (omega arith)

  places-are : (n : ℕ) → n ≤ 3 → length e.places ≡ n → take n (slice (12 * i + 9) (12 * i + 12) c) ≡ e.places
  places-are n h q = ext_get_or 0 _ _ (l ∙ sym q) (λ k m.
      let b : k < n = omega (arith, l) in
      get_or-take n (slice (12 * i + 9) (12 * i + 12) c) k 0 b ∙ slice_at (12 * i + 9) (12 * i + 12) c k (omega arith) ∙ place_is k (omega arith))
    where
      l : length (take n (slice (12 * i + 9) (12 * i + 12) c)) ≡ n
      l = length-take n (slice (12 * i + 9) (12 * i + 12) c) ∙ omega (arith, length-slice (12 * i + 9) (12 * i + 12) c s.there)

  pub entry-is : (G : Grammar) {r : Rule} → named G.rules e.function ≡ some r → length r.daughters ≤ 3 → length e.places ≡ length r.daughters → entry_at G c i ≡ e
  unfolding entry_at
  entry-is G {r} n h q = λ t. record { known = known_is t; function = function-is t; places = p t }
    where
      p : take (rank_of (named G.rules (get_or c (12 * i + 1) 0))) (slice (12 * i + 9) (12 * i + 12) c) ≡ e.places
      p = rw (function-is, n) (places-are (length r.daughters) h q)

-- a way has as many places as its rule has daughters
places-many : {A : Type 0} (L : List A) (ps : List ℕ) (ds : List A) → map (get_elem? L) ps ≡ map some ds → length ps ≡ length ds
places-many L ps ds q = sym (length-map ps (get_elem? L)) ∙ ap length q ∙ length-map ds some

module _ {G : Grammar} (ws : List ℕ) (v : Valid G) where
  way-entry : {c : List ℕ} {i : ℕ} {e : Entry Item} {L : List (Known Item)} → Shows c i e → Way (GivenBy G ws) L e.known e.function e.places → entry_at G c i ≡ e
  unfolding GivenBy
  way-entry {e = e} {L = L} s w =
      let (r, f, g) = w.given in
      let n : named G.rules e.function ≡ some r = rw (← f) (found v r g.known) in
      let m : length (categories (things w.daughters)) ≡ length w.daughters = length-map (things w.daughters) _ ∙ length-map w.daughters _ in
      let q : length e.places ≡ length r.daughters = places-many L e.places w.daughters w.found ∙ sym m ∙ ap length g.kinds in
      entry-is s G n (v.ranks g.known) q

  abbrev Ways : List (Entry Item) → Type 0
  Ways C = Each (λ e. Way (GivenBy G ws) (knowns C) e.known e.function e.places) C

  module _ (C : List (Entry Item)) (ways : Ways C) (rest : List ℕ) where
    way_at : (i : ℕ) → i < length C → Way (GivenBy G ws) (knowns C) (get_or C i blank).known (get_or C i blank).function (get_or C i blank).places
    way_at i h = each_at ways (get_or-mem blank C i h)

    entries : (i : ℕ) → i < length C → entry_at G (records C ++ rest) i ≡ get_or C i blank
    entries i h = way-entry (shows C rest i h) (way_at i h)

    -- the entries are read back
    pub lent_is : lent G (records C ++ rest) (length C) ≡ C
    unfolding lent
    lent_is = several-is (entry_at G (records C ++ rest)) blank C entries

    item-at : (i : ℕ) → i < length C → (stated_at (records C ++ rest) i).item ≡ get_or (items C) i (item_of blank)
    item-at i h = ap (λ (k : Known Item). k.item) (known_is (shows C rest i h)) ∙ sym (get_or-map item_of C i blank)

    pub passes : Sorted Before (items C) → length C ≤ 2000 → Passes G ws (records C ++ rest) (length C)
    passes sorted few = record { few = not-many; sound = sound }
      where
        not-many : TooMany (records C ++ rest) (length C) → ⊥
        not-many (inl h) = omega arith
        not-many (inr h) = omega (arith, length-append (records C) rest, length-records C)

        sound : (i : ℕ) → i < length C → Sound G ws (records C ++ rest) (length C) i
        sound i h = record {
          order = λ p. rw (item-at (i - 1) (omega arith), item-at i h) (sorted-at (item_of blank) sorted (i - 1) i (omega arith) (omega (arith, length-map C item_of)));
          unused = ap shown (entries i h) ∙ sym (record_is (shows C rest i h));
          way = rw (lent_is, known_is (shows C rest i h), entries i h) (way_at i h);
        }
