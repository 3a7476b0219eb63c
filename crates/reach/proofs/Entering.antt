-- Codes entered into sets of ends: one code, then a list of them.
use mathlib.Core.Path.{◌≡◌, refl, sym, ap, ◌∙◌, subst}
use mathlib.Core.Logic.{◌⊎◌, inl, inr}
use mathlib.Core.Bool.{Bool, true, false}
use mathlib.Core.List.Memᴰ.{append_cases as append-mem}
use mathlib.Core.List.Memᴰ.{not-nil as not-mem-nil}
use mathlib.Core.List.{List, [], ◌∷◌, Memᴰ as Mem}
use mathlib.Core.List.Memᴰ.{append_left as mem-left}
use mathlib.Core.List.Memᴰ.{append_right as mem-right}
use mathlib.Core.List.Memᴰ.{eq_of_singleton as mem-one}
use mathlib.Core.List.Memᴰ.{head as here}
use Rattle.store.proofs.Sets.{next, take_all}
use Prim.Native.Nat.{ℕ, ◌+◌, ◌≤◌, ◌<◌}
use native.Mathlib.Omega.{arith}
use lib.Dec.{eqb}
use lib.ListN.{length, get_or, set, length-set, take}
use lib.Seq.{get_or-set_same, get_or-set_other}
use borrow.Author.Tests.{eqb-true, eqb-false}
use Rattle.reach.specs.Bits.{Bit, Single, Both}
use Rattle.reach.specs.Mirror.{Marks, with_words, with_none, Entered}

abbrev One : ℕ → ℕ → Type 0
One c d = d ≡ c

-- a code is entered at one bit
one-mark : {c n i m j : ℕ} → Marks c n i → Marks c m j → (n ≡ m) × (i ≡ j)
one-mark (with_words p e) (with_words q f) = (p ∙ sym q, omega arith)
one-mark (with_words p e) (with_none q k f) = absurd (omega arith)
one-mark (with_none p k e) (with_words q f) = absurd (omega arith)
one-mark (with_none p k e) (with_none q l f) = (p ∙ sym q, k ∙ sym l)

module _ (a : List ℕ) {c at bit one v : ℕ} (m : Marks c at bit) (inside : at < length a) (s : Single bit one) (b : Both (get_or a at 0) one v) where
  now-at : get_or (set a at v) at 0 ≡ v
  now-at = get_or-set_same a at v 0 inside

  keeps : (n i : ℕ) (t : Bool) → eqb n at ≡ t → Bit (get_or a n 0) i → Bit (get_or (set a at v) n 0) i
  keeps n i true q h =
      let e = eqb-true n at q in
      subst (λ (y : ℕ). Bit (get_or (set a at v) y 0) i) (sym e) (subst (λ (y : ℕ). Bit y i) (sym now-at) (b.left i (subst (λ (y : ℕ). Bit (get_or a y 0) i) e h)))
  keeps n i false q h = subst (λ (y : ℕ). Bit y i) (sym (get_or-set_other a at n v 0 (eqb-false n at q))) h

  whole : (d n i : ℕ) → d ≡ c → Marks d n i → Bit (get_or (set a at v) n 0) i
  whole d n i e k =
      let (p, q) = one-mark (subst (λ (y : ℕ). Marks y n i) e k) m in
      subst (λ (y : ℕ). Bit (get_or (set a at v) y 0) i) (sym p) (subst (λ (y : ℕ). Bit y i) (sym now-at) (b.right i (subst (Bit one) (sym q) s.it)))

  sound : (n i : ℕ) (t : Bool) → eqb n at ≡ t → Bit (get_or (set a at v) n 0) i → Bit (get_or a n 0) i ⊎ ((d : ℕ) × One c d × Marks d n i)
  sound n i true q h = by (b.either i (subst (λ (y : ℕ). Bit y i) (ap (λ (y : ℕ). get_or (set a at v) y 0) e ∙ now-at) h))
    where
      e : n ≡ at
      e = eqb-true n at q

      by : Bit (get_or a at 0) i ⊎ Bit one i → Bit (get_or a n 0) i ⊎ ((d : ℕ) × One c d × Marks d n i)
      by (inl k) = inl (subst (λ (y : ℕ). Bit (get_or a y 0) i) (sym e) k)
      by (inr k) = inr (c, refl, subst (λ (y : ℕ). Marks c y i) (sym e) (subst (Marks c at) (sym (s.only i k)) m))
  sound n i false q h = inl (subst (λ (y : ℕ). Bit y i) (get_or-set_other a at n v 0 (eqb-false n at q)) h)

  -- one code
  pub marked : Entered (One c) a (set a at v)
  marked = record {
    size = length-set a at v;
    keeps = λ n i h. keeps n i (eqb n at) refl h;
    whole = whole;
    sound = λ n i h. sound n i (eqb n at) refl h;
  }

-- nothing entered
pub entered-none : {P : ℕ → Type 0} (a : List ℕ) → ((c : ℕ) → P c → ⊥) → Entered P a a
entered-none a n = record { size = refl; keeps = λ n i h. h; whole = λ c m i p k. absurd (n c p); sound = λ m i h. inl h }

-- one entry after another
pub entered-then : {P Q R : ℕ → Type 0} {a b d : List ℕ} → Entered P a b → Entered Q b d
    → ((c : ℕ) → P c → R c) → ((c : ℕ) → Q c → R c) → ((c : ℕ) → R c → P c ⊎ Q c) → Entered R a d
entered-then {P} {Q} {R} {a} {b} {d} x y p q o = record {
  size = y.size ∙ x.size;
  keeps = λ n i k. y.keeps n i (x.keeps n i k);
  whole = λ c n i k m. whole c n i (o c k) m;
  sound = λ n i k. sound n i (y.sound n i k);
}
  where
    whole : (c n i : ℕ) → P c ⊎ Q c → Marks c n i → Bit (get_or d n 0) i
    whole c n i (inl k) m = y.keeps n i (x.whole c n i k m)
    whole c n i (inr k) m = y.whole c n i k m

    first : (n i : ℕ) → Bit (get_or a n 0) i ⊎ ((c : ℕ) × P c × Marks c n i) → Bit (get_or a n 0) i ⊎ ((c : ℕ) × R c × Marks c n i)
    first n i (inl k) = inl k
    first n i (inr (c, k, m)) = inr (c, p c k, m)

    sound : (n i : ℕ) → Bit (get_or b n 0) i ⊎ ((c : ℕ) × Q c × Marks c n i) → Bit (get_or a n 0) i ⊎ ((c : ℕ) × R c × Marks c n i)
    sound n i (inl k) = first n i (x.sound n i k)
    sound n i (inr (c, k, m)) = inr (c, q c k, m)

-- the codes of a list, one after another
module _ (l : List ℕ) where
  abbrev pub Among : ℕ → ℕ → Type 0
  Among i c = Mem c (take i l)

  pub none-among : (c : ℕ) → Among 0 c → ⊥
  none-among c m = not-mem-nil m

  pub one_more : {i : ℕ} {a b d : List ℕ} → i < length l → Entered (Among i) a b → Entered (One (get_or l i 0)) b d → Entered (Among (i + 1)) a d
  one_more {i} k x y =
      entered-then x y (λ c m. rw (next l i k) (mem-left _ m)) (λ c m. rw (next l i k) (mem-right (take i l) (here m)))
      (λ c m. by c (append-mem (take i l) (rw (next l i k) at m)))
    where
      by : (c : ℕ) → Mem c (take i l) ⊎ Mem c (get_or l i 0 ∷ []) → Mem c (take i l) ⊎ One (get_or l i 0) c
      by c (inl m) = inl m
      by c (inr m) = inr (mem-one m)

  pub all_among : {i : ℕ} {a b : List ℕ} → length l ≤ i → Entered (Among i) a b → Entered (λ c. Mem c l) a b
  all_among {i} {a} {b} k x = subst (λ (s : List ℕ). Entered (λ c. Mem c s) a b) (take_all i l k) x
