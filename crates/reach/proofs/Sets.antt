-- The loops over sets: what is lent at a place, the places of a word, and the union of the ends from each place.
use mathlib.Core.Path.{◌≡◌, refl, sym, ap, ◌∙◌, subst}
use mathlib.Core.Logic.{◌⊎◌, inl, inr}
use mathlib.Core.Bool.{Bool, true, false}
use mathlib.Core.List.{List}
use Prim.Native.Nat.{ℕ, zero, suc, ◌+◌, ◌/◌, ◌%◌, ◌≤◌, ◌<◌}
use native.Mathlib.Omega.{arith}
use lib.Dec.{eqb, ltb}
use lib.ListN.{length, get_or}
use borrow.Author.Tests.{eqb-true, eq-eqb, ltb-true, ltb-false}
use Rattle.reach.specs.Bits.{Bit, Single, Both, Lent}
use Rattle.reach.specs.Reach.{Occurs, Here, From, Union}
use Rattle.reach.proofs.Digits.{no-bit, half, twice, odd, is_odd}

pub true-not : {A : Type 0} (b : Bool) → b ≡ true → b ≡ false → A
true-not b t f = let z : ◌≡◌ {A = ℕ} 0 1 = cc in absurd (omega arith)

-- what is lent
module _ (l : List ℕ) (at : ℕ) (b : Bool) where
  pub lent-not : b ≡ false → Lent l at b 0
  lent-not e = record { whole = λ i t c. true-not b t e; sound = λ i c. absurd (no-bit i c) }

-- the places of a word
module _ (ws : List ℕ) (w : ℕ) where
  here-not : (i : ℕ) → (get_or ws i 0 ≡ w → ⊥) → Here ws w i 0
  here-not i n = record { sound = λ j b. absurd (no-bit j b); whole = λ e. absurd (n e) }

  pub record Seen (i m : ℕ) : Type 0 where
    pub within : i ≤ length ws
    pub sound : (j : ℕ) → Bit m j → (j < i) × (get_or ws j 0 ≡ w)
    pub whole : (j : ℕ) → j < i → get_or ws j 0 ≡ w → Bit m j

  pub seen_none : Seen 0 0
  seen_none = record { within = omega arith; sound = λ j b. absurd (no-bit j b); whole = λ j h e. absurd (omega arith) }

  seen-on : {i m h r : ℕ} → i < length ws → Seen i m → Here ws w i h → Both m h r → Seen (i + 1) r
  seen-on {i} {m} {h} {r} l s n b = record {
    within = omega arith;
    sound = λ j c. was j (b.either j c);
    whole = λ j k e. set j k e;
  }
    where
      was : (j : ℕ) → Bit m j ⊎ Bit h j → (j < i + 1) × (get_or ws j 0 ≡ w)
      was j (inl c) = let (k, e) = s.sound j c in (omega arith, e)
      was j (inr c) = let (k, e) = n.sound j c in (omega arith, ap (λ (x : ℕ). get_or ws x 0) k ∙ e)

      last : (j : ℕ) → j ≡ i → get_or ws j 0 ≡ w → Bit r j
      last j q e = subst (Bit r) (sym q) (b.right i (n.whole (ap (λ (x : ℕ). get_or ws x 0) (sym q) ∙ e)))

      split : (j : ℕ) (t : Bool) → ltb j i ≡ t → j < i + 1 → get_or ws j 0 ≡ w → Bit r j
      split j true q k e = b.left j (s.whole j (ltb-true j i q) e)
      split j false q k e = let g = ltb-false j i q in last j (omega arith) e

      set : (j : ℕ) → j < i + 1 → get_or ws j 0 ≡ w → Bit r j
      set j k e = split j (ltb j i) refl k e

  -- the sentence has the word at the next place, or it does not
  pub seen-word : {i m o r : ℕ} → i < length ws → Seen i m → get_or ws i 0 ≡ w → Single i o → Both m o r → Seen (i + 1) r
  seen-word l s e o b = seen-on l s (record { sound = λ j c. (o.only j c, e); whole = λ f. o.it }) b

  pub seen-other : {i m : ℕ} → i < length ws → Seen i m → (get_or ws i 0 ≡ w → ⊥) → Seen (i + 1) m
  seen-other {i} {m} l s n = seen-on l s (here-not i n) (record { left = λ j c. c; right = λ j c. absurd (no-bit j c); either = λ j c. inl c })

  pub seen_all : {i m : ℕ} → length ws ≤ i → Seen i m → Occurs ws w m
  seen_all {i} {m} h s = record { sound = λ j b. was j (s.sound j b); whole = λ j k e. s.whole j (omega arith) e }
    where
      was : (j : ℕ) → (j < i) × (get_or ws j 0 ≡ w) → (j < length ws) × (get_or ws j 0 ≡ w)
      was j (k, e) = (omega (arith, s.within), e)

-- the union of the ends from each place
module _ (ends : List ℕ) (base from : ℕ) where
  pub record Gone (set rest p : ℕ) : Type 0 where
    pub sound : (j : ℕ) → Bit set j ⊎ From ends base rest p j → From ends base from 1 j
    pub whole : (j : ℕ) → From ends base from 1 j → Bit set j ⊎ From ends base rest p j

  pub gone-none : Gone 0 from 1
  gone-none = record { sound = λ j d. right-one j d; whole = λ j f. inr f }
    where
      right-one : (j : ℕ) → Bit 0 j ⊎ From ends base from 1 j → From ends base from 1 j
      right-one j (inl b) = absurd (no-bit j b)
      right-one j (inr f) = f

  module _ {set rest p : ℕ} (g : Gone set rest p) where
    pub gone-zero : rest ≡ 0 → Union ends base from set
    gone-zero e = record { sound = λ j b. g.sound j (inl b); whole = λ j f. left_one j (g.whole j f) }
      where
        left_one : (j : ℕ) → Bit set j ⊎ From ends base rest p j → Bit set j
        left_one j (inl b) = b
        left_one j (inr f) = absurd (no-bit f.place (subst (λ (n : ℕ). Bit n f.place) e f.there))

    pub gone-end : 64 ≤ p → Union ends base from set
    gone-end e = record { sound = λ j b. g.sound j (inl b); whole = λ j f. left_one j (g.whole j f) }
      where
        left_one : (j : ℕ) → Bit set j ⊎ From ends base rest p j → Bit set j
        left_one j (inl b) = b
        left_one j (inr f) = absurd (omega (arith, f.within))

    abbrev ends_from : ℕ → ℕ → Type 0
    ends_from j n = Bit (get_or ends n 0) j

    pub gone-on : {h r : ℕ} → p < 64 → Lent ends (base + p) (eqb (rest % 2) 1) h → Both set h r → Gone r (rest / 2) (p + 1)
    gone-on {h} {r} l n b = record { sound = λ j d. sound j d; whole = λ j f. whole j (g.whole j f) }
      where
        first : (j : ℕ) → (eqb (rest % 2) 1 ≡ true) × Bit (get_or ends (base + p) 0) j → From ends base rest p j
        first j (o, c) = record {
          place = 0;
          within = omega arith;
          there = odd (eqb-true (rest % 2) 1 o);
          ends_at = let e : base + p ≡ base + (p + 0) = omega arith in subst (ends_from j) e c;
        }

        later : (j : ℕ) → From ends base (rest / 2) (p + 1) j → From ends base rest p j
        later j f = record {
          place = suc f.place;
          within = omega (arith, f.within);
          there = twice f.there;
          ends_at = let e : base + ((p + 1) + f.place) ≡ base + (p + suc f.place) = omega arith in subst (ends_from j) e f.ends_at;
        }

        one : (j : ℕ) → Bit set j ⊎ Bit h j → From ends base from 1 j
        one j (inl c) = g.sound j (inl c)
        one j (inr c) = g.sound j (inr (first j (n.sound j c)))

        sound : (j : ℕ) → Bit r j ⊎ From ends base (rest / 2) (p + 1) j → From ends base from 1 j
        sound j (inl c) = one j (b.either j c)
        sound j (inr f) = g.sound j (inr (later j f))

        by_place : (j i : ℕ) → p + i < 64 → Bit rest i → Bit (get_or ends (base + (p + i)) 0) j → Bit r j ⊎ From ends base (rest / 2) (p + 1) j
        by_place j zero k t c =
            let e : base + (p + 0) ≡ base + p = omega arith in
            inl (b.right j (n.whole j (eq-eqb (rest % 2) 1 (is_odd t)) (subst (ends_from j) e c)))
        by_place j (suc i) k t c = inr (record {
          place = i;
          within = omega arith;
          there = half t;
          ends_at = let e : base + (p + suc i) ≡ base + ((p + 1) + i) = omega arith in subst (ends_from j) e c;
        })

        whole : (j : ℕ) → Bit set j ⊎ From ends base rest p j → Bit r j ⊎ From ends base (rest / 2) (p + 1) j
        whole j (inl c) = inl (b.left j c)
        whole j (inr f) = by_place j f.place f.within f.there f.ends_at
