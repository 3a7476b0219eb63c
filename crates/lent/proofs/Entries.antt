-- The entries of a lent chart: what stands at a place, and a record's daughters and unused numbers.
use Prim.Native.Nat.{ℕ, zero, suc, ◌+◌, ◌*◌, ◌-◌, ◌≤◌, ◌<◌}
use mathlib.Core.Path.{◌≡◌, refl, sym, ap, ◌∙◌, subst}
use mathlib.Core.Option.{some}
use mathlib.Core.List.{List, [], ◌∷◌, map, nil≢cons, cons≢nil}
use native.Mathlib.Omega.{arith}
use native.Mathlib.Decide.{dec_lt}
use lib.ListN.{length, get_or, get_elem?, take, length-take, length-map, get_or-eq_default}
use lib.Seq.{slice, length-slice, get_or-take, ext_get_or}
use Rattle.meaning.specs.Order.{Each, each_none, each_more}
use Rattle.meaning.specs.Range.{Item}
use Rattle.meaning.specs.Grammar.{Grammar}
use Rattle.meaning.specs.Chart.{Known, Entry, knowns, shown}
use Rattle.meaning.specs.Decode.{several}
use Rattle.meaning.specs.TreeWriting.{record_at, stated_at, entry_at, lent}
use Rattle.meaning.proofs.Order.{each_at}
use Rattle.meaning.proofs.Decoded.{several-length}
use Rattle.meaning.proofs.Lending.{lent_length, entry-at}
use Rattle.meaning.proofs.Passing.{get_or-mem, slice_at, record_is}
use Rattle.lent.specs.Lent.{number_at, numbers_at, Placed}

-- what stands at a place is what its record states
inside : {A : Type 0} (l : List A) (p : ℕ) {a : A} → get_elem? l p ≡ some a → p < length l
inside [] p e = absurd cc
inside (b ∷ l) zero e = omega arith
inside (b ∷ l) (suc p) e = let h = inside l p e in omega arith

at-image : {A B : Type 0} (f : A → B) (l : List A) (p : ℕ) {a : A} → get_elem? l p ≡ some a → get_elem? (map f l) p ≡ some (f a)
at-image f [] p e = absurd cc
at-image f (b ∷ l) zero e = cc
at-image f (b ∷ l) (suc p) e = at-image f l p e

module _ (G : Grammar) (c : List ℕ) (count : ℕ) where
  known_at : (p : ℕ) → p < count → get_elem? (knowns (lent G c count)) p ≡ some (stated_at c p)
  unfolding entry_at
  known_at p h = at-image (λ (e : Entry Item). e.known) (lent G c count) p (entry-at G c count p h)

  below-count : (p : ℕ) {d : Known Item} → get_elem? (knowns (lent G c count)) p ≡ some d → p < count
  unfolding lent
  below-count p e = omega (arith, inside (knowns (lent G c count)) p e, length-map (lent G c count) (λ (x : Entry Item). x.known), lent_length G c count)

  pub found_all : {ps : List ℕ} → Each (λ p. p < count) ps → map (get_elem? (knowns (lent G c count))) ps ≡ map some (map (stated_at c) ps)
  found_all each_none = refl
  found_all (each_more {a = p} h hs) = let e = known_at p h in let f = found_all hs in cc

  pub found_below : (ps : List ℕ) (ds : List (Known Item)) → map (get_elem? (knowns (lent G c count))) ps ≡ map some ds
      → Each (λ p. p < count) ps × (ds ≡ map (stated_at c) ps)
  found_below [] [] e = (each_none, refl)
  found_below [] (d ∷ ds) e = absurd (nil≢cons e)
  found_below (p ∷ ps) [] e = absurd (cons≢nil e)
  found_below (p ∷ ps) (d ∷ ds) e =
      let h : get_elem? (knowns (lent G c count)) p ≡ some d = cc in
      let b = below-count p h in
      let k = known_at p b in
      let q : d ≡ stated_at c p = cc in
      let (hs, qs) = found_below ps ds (cc) in
      (each_more b hs, cc)

-- a record's three places
module _ (c : List ℕ) (i : ℕ) where
  abbrev pub places : List ℕ
  places = numbers_at c i 3 9

  place_at : (k : ℕ) → k < 3 → get_or places k 0 ≡ number_at c i (9 + k)
  unfolding several
  place_at zero h = refl
  place_at (suc zero) h = refl
  place_at (suc (suc zero)) h = refl
  place_at (suc (suc (suc k))) h = absurd (omega arith)

  three-places : length places ≡ 3
  three-places = several-length (number_at c i) suc 3 9

  pub slice_places : 12 * i + 12 ≤ length c → slice (12 * i + 9) (12 * i + 12) c ≡ places
  slice_places h = ext_get_or 0 _ _ (l ∙ sym three-places) (λ k m.
      let b : k < 3 = omega (arith, l) in
      let e : 12 * i + 9 + k ≡ 12 * i + (9 + k) = omega arith in
      slice_at (12 * i + 9) (12 * i + 12) c k (omega arith) ∙ ap (λ (p : ℕ). get_or c p 0) e ∙ sym (place_at k b))
    where
      l : length (slice (12 * i + 9) (12 * i + 12) c) ≡ 3
      l = length-slice (12 * i + 9) (12 * i + 12) c h ∙ omega arith

  -- the first n of them are daughters
  module _ (n : ℕ) where
    used-at : (k : ℕ) → k < 3 → k < n → get_or (take n places) k 0 ≡ number_at c i (9 + k)
    used-at k h l = get_or-take n places k 0 l ∙ place_at k h

    unused-at : (k : ℕ) → n ≤ k → get_or (take n places) k 0 ≡ 0
    unused-at k h = get_or-eq_default (take n places) 0 {n = k} (omega (arith, length-take n places))

    module _ (count : ℕ) where
      pub each_below : n ≤ 3 → ((k : ℕ) → k < 3 → Placed c count i n k) → Each (λ p. p < count) (take n places)
      unfolding several
      each_below h f = go n h refl
        where
          go : (m : ℕ) → m ≤ 3 → m ≡ n → Each (λ p. p < count) (take m places)
          go zero l e = each_none
          go (suc zero) l e = each_more ((f 0 (omega arith)).below (omega arith)) each_none
          go (suc (suc zero)) l e = each_more ((f 0 (omega arith)).below (omega arith)) (each_more ((f 1 (omega arith)).below (omega arith)) each_none)
          go (suc (suc (suc zero))) l e =
              each_more ((f 0 (omega arith)).below (omega arith))
              (each_more ((f 1 (omega arith)).below (omega arith)) (each_more ((f 2 (omega arith)).below (omega arith)) each_none))
          go (suc (suc (suc (suc m)))) l e = absurd (omega arith)

      -- a place is as it must be where the daughters are below the count and the places that are shown are the record's
      pub placed_by : Each (λ p. p < count) (take n places) → ((k : ℕ) → k < 3 → get_or (take n places) k 0 ≡ number_at c i (9 + k)) → (k : ℕ) → k < 3 → Placed c count i n k
      placed_by b s k h = record {
        below = λ l. subst (λ (p : ℕ). p < count) (s k h) (each_at b (get_or-mem 0 (take n places) k (omega (arith, length-take n places, three-places))));
        unused = λ l. sym (s k h) ∙ unused-at k l;
      }

      pub shown_by : ((k : ℕ) → k < 3 → Placed c count i n k) → (k : ℕ) → k < 3 → get_or (take n places) k 0 ≡ number_at c i (9 + k)
      shown_by f k h = go (dec_lt k n)
        where
          go : Dec (k < n) → get_or (take n places) k 0 ≡ number_at c i (9 + k)
          go (yes l) = used-at k h l
          go (no l) = unused-at k (omega arith) ∙ sym ((f k h).unused (omega arith))

-- the record that an entry shows
module _ (G : Grammar) (c : List ℕ) (i : ℕ) (h : 12 * i + 12 ≤ length c) where
  place-shown : (k : ℕ) → k < 3 → get_or (shown (entry_at G c i)) (9 + k) 0 ≡ get_or (entry_at G c i).places k 0
  unfolding shown
  place-shown zero l = refl
  place-shown (suc zero) l = refl
  place-shown (suc (suc zero)) l = refl
  place-shown (suc (suc (suc k))) l = absurd (omega arith)

  stated-shown : (k : ℕ) → k < 9 → number_at c i k ≡ get_or (shown (entry_at G c i)) k 0
  unfolding shown entry_at stated_at
  stated-shown zero l = refl
  stated-shown (suc zero) l = refl
  stated-shown (suc (suc zero)) l = refl
  stated-shown (suc (suc (suc zero))) l = refl
  stated-shown (suc (suc (suc (suc zero)))) l = refl
  stated-shown (suc (suc (suc (suc (suc zero))))) l = refl
  stated-shown (suc (suc (suc (suc (suc (suc zero)))))) l = refl
  stated-shown (suc (suc (suc (suc (suc (suc (suc zero))))))) l = refl
  stated-shown (suc (suc (suc (suc (suc (suc (suc (suc zero)))))))) l = refl
  stated-shown (suc (suc (suc (suc (suc (suc (suc (suc (suc k))))))))) l = absurd (omega arith)

  pub record-shown : ((k : ℕ) → k < 3 → get_or (entry_at G c i).places k 0 ≡ number_at c i (9 + k)) → shown (entry_at G c i) ≡ record_at c i
  record-shown s = sym (record_is (record { there = h; numbers = each }))
    where
      each : (k : ℕ) → k < 12 → get_or c (12 * i + k) 0 ≡ get_or (shown (entry_at G c i)) k 0
      each k l = go (dec_lt k 9)
        where
          go : Dec (k < 9) → get_or c (12 * i + k) 0 ≡ get_or (shown (entry_at G c i)) k 0
          go (yes m) = stated-shown k m
          go (no m) =
              let e : k ≡ 9 + (k - 9) = omega arith in
              let shows = λ (j : ℕ). number_at c i j ≡ get_or (shown (entry_at G c i)) j 0 in
              subst shows (sym e) (sym (place-shown (k - 9) (omega arith) ∙ s (k - 9) (omega arith)))

  pub shown-record : shown (entry_at G c i) ≡ record_at c i → (k : ℕ) → k < 3 → get_or (entry_at G c i).places k 0 ≡ number_at c i (9 + k)
  shown-record e k l = sym (place-shown k l) ∙ ap (λ (r : List ℕ). get_or r (9 + k) 0) e ∙ slice_at (12 * i) (12 * i + 12) c (9 + k) (omega arith)
