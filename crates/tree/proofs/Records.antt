-- The records of a chart that passes: what they are as entries, and that they have what the recursion needs (`falling`).
use mathlib.Core.Path.{◌≡◌, refl, sym, ap, ◌∙◌}
use mathlib.Core.Logic.{inr}
use mathlib.Core.Option.{some}
use mathlib.Core.List.Memᴰ.{head as here}
use mathlib.Core.List.Memᴰ.{tail as there}
use mathlib.Core.List.{List, [], ◌∷◌, map, cons≢nil, Memᴰ as Mem}
use Prim.Native.Nat.{ℕ, zero, suc, min, ◌+◌, ◌-◌, ◌*◌, ◌/◌, ◌≤◌, ◌<◌}
use native.Mathlib.Omega.{arith}
use lib.ListN.{length, get_or, get_elem?, take, drop, length-take, length-drop}
use Rattle.std.proofs.lemmas.List.{get_or-drop}
use lib.Seq.{slice, length-slice, get_or-take}
use Rattle.meaning.specs.Table.{got, check_table}
use Rattle.meaning.specs.Decode.{grammar_of}
use Rattle.meaning.specs.Range.{Item}
use Rattle.meaning.specs.Grammar.{Grammar}
use Rattle.meaning.specs.Chart.{Known, tallest, GivenBy, knowns, entry_known}
use Rattle.meaning.specs.TreeWriting.{named, rank_of, stated_at, entry_at, lent, Passes, blank}
use Rattle.meaning.proofs.Order.{each_at}
use Rattle.meaning.proofs.Theory.{bounded}
use Rattle.meaning.proofs.Decoded.{valid-grammar}
use Rattle.meaning.proofs.Lending.{lent_length, entry-at}
use Rattle.meaning.proofs.Writer.{get_d_at}
use Rattle.meaning.proofs.Passing.{slice_at}
use Rattle.meaning.proofs.Walk.{found}
use Rattle.tree.specs.Writing.{rank, function_at, height_at, place_at, Falling}

-- lists: what stands at a place
at_map : {A B : Type 0} (f : A → B) (l : List A) (p : ℕ) (d : A) {b : B} → get_elem? (map f l) p ≡ some b → (p < length l) × (f (get_or l p d) ≡ b)
at_map f [] p d q = let z : ◌≡◌ {A = ℕ} 0 1 = cc in absurd (omega arith)
at_map f (a ∷ l) zero d q = (omega arith, cc)
at_map f (a ∷ l) (suc p) d q = let (h, e) = at_map f l p d q in (omega arith, e)

at_places : {A : Type 0} (l : List A) (ps : List ℕ) (ds : List A) → map (get_elem? l) ps ≡ map some ds → (k : ℕ) → k < length ps
    → (d : A) × Mem d ds × (get_elem? l (get_or ps k 0) ≡ some d)
at_places l [] ds q k h = absurd (omega arith)
at_places l (p ∷ ps) [] q k h = absurd (cons≢nil q)
at_places l (p ∷ ps) (d ∷ ds) q zero h = (d, here refl, cc)
at_places l (p ∷ ps) (d ∷ ds) q (suc k) h = let (e, m, r) = at_places l ps ds (cc) k (omega arith) in (e, there m, r)

-- the entries of a lent chart
module _ (G : Grammar) (c : List ℕ) (count : ℕ) where
  pub lent_at : (i : ℕ) → i < count → get_or (lent G c count) i blank ≡ entry_at G c i
  lent_at i h = get_d_at (lent G c count) i blank (entry-at G c count i h)

pub stated-height : (c : List ℕ) (i : ℕ) → (stated_at c i).height ≡ height_at c i
unfolding stated_at
stated-height c i = refl

module _ (G : Grammar) (c : List ℕ) (i : ℕ) where
  abbrev many : ℕ
  many = rank_of (named G.rules (function_at c i))

  pub entry-function : (entry_at G c i).function ≡ function_at c i
  unfolding entry_at
  entry-function = refl

  known-entry : (entry_at G c i).known ≡ stated_at c i
  unfolding entry_at
  known-entry = refl

  module _ (there : 12 * i + 12 ≤ length c) (three : many ≤ 3) where
    pub places-many : length (entry_at G c i).places ≡ many
    unfolding entry_at
    places-many = length-take many (slice (12 * i + 9) (12 * i + 12) c) ∙ omega (arith, length-slice (12 * i + 9) (12 * i + 12) c there)

    pub place_is : (k : ℕ) → k < many → get_or (entry_at G c i).places k 0 ≡ place_at c i k
    unfolding entry_at
    place_is k h = get_or-take many (slice (12 * i + 9) (12 * i + 12) c) k 0 h ∙ slice_at (12 * i + 9) (12 * i + 12) c k (omega arith)

-- what the recursion needs holds of every chart that passes
module _ (t ws c : List ℕ) (count : ℕ) (accepted : check_table t ≡ got tt) (passes : Passes (grammar_of t) ws c count) where
  abbrev G : Grammar
  G = grammar_of t

  size : 12 * count ≤ length c
  size = let few : length c / 12 < count → ⊥ = (λ h. passes.few (inr h)) in omega arith

  three : (i : ℕ) → i < count → rank t (function_at c i) ≤ 3
  unfolding GivenBy
  three i h =
      let (r, q, g) = (passes.sound i h).way.given in
      let n : named G.rules (function_at c i) ≡ some r = rw (← entry-function G c i, ← q) (found (valid-grammar t accepted) r g.known) in
      rw n ((valid-grammar t accepted).ranks g.known)

  daughter : (i k : ℕ) → i < count → k < rank t (function_at c i) → (place_at c i k < count) × (height_at c (place_at c i k) < height_at c i)
  daughter i k h l =
      let w = (passes.sound i h).way in
      let room : 12 * i + 12 ≤ length c = omega (arith, size) in
      let m = places-many G c i room (three i h) in
      let (d, i', q) = at_places (knowns (lent G c count)) (entry_at G c i).places w.daughters w.found k (omega arith) in
      let (b, e) = at_map entry_known (lent G c count) (get_or (entry_at G c i).places k 0) blank q in
      let p = place_is G c i room (three i h) k l in
      let below : place_at c i k < count = omega (arith, lent_length G c count) in
      let s : (get_or (lent G c count) (place_at c i k) blank).known ≡ d = rw (← p) e in
      let s' : stated_at c (place_at c i k) ≡ d = sym (ap entry_known (lent_at G c count (place_at c i k) below) ∙ known-entry G c (place_at c i k)) ∙ s in
      let f : height_at c (place_at c i k) ≡ d.height = sym (stated-height c (place_at c i k)) ∙ ap (λ (x : Known Item). x.height) s' in
      (below, omega (arith, each_at (bounded w.daughters {n = tallest w.daughters} (omega arith)) i', w.high, stated-height c i))

  pub falling : Falling t c count
  falling = record {
    accepted = accepted;
    size = size;
    high = λ i h. omega (arith, (passes.sound i h).way.high, stated-height c i);
    three = three;
    below = λ i k h l. (daughter i k h l).0;
    lower = λ i k h l. (daughter i k h l).1;
  }

-- the daughters' places of a record, as a part of the slice
module _ (t c : List ℕ) (i n : ℕ) (ranked : n ≡ rank t (function_at c i)) where
  abbrev pub places : List ℕ
  places = take (12 * i + 9 + n - (12 * i + 9)) (drop (12 * i + 9) c)

  places-size : length places ≡ min n (length c - (12 * i + 9))
  places-size = simp (length-take, length-drop) (omega arith)

  -- place k of them is that of daughter k
  pub daughter-there : {k x : ℕ} → k < length places → x ≡ get_or places k 0 → (k < rank t (function_at c i)) × (x ≡ place_at c i k)
  daughter-there {k} h e =
      let l : k < n = omega (arith, places-size) in
      (rw (← ranked) l, e ∙ get_or-take (12 * i + 9 + n - (12 * i + 9)) (drop (12 * i + 9) c) k 0 (omega arith) ∙ get_or-drop (12 * i + 9) c k 0)

  -- past the last place there is no daughter
  pub daughters-end : {k count : ℕ} → length places ≤ k → i < count → 12 * count ≤ length c → n ≤ 3 → rank t (function_at c i) ≤ k
  daughters-end {k} h l s m = let z : n ≤ k = omega (arith, places-size) in rw (← ranked) z

-- a place that is that of a lower record
pub lower-there : (c : List ℕ) (i j k : ℕ) {t : ℕ} → j ≡ k → height_at c k < height_at c i → height_at c i ≡ t → height_at c j < t
lower-there c i j k e h d = rw (e, ← d) h
