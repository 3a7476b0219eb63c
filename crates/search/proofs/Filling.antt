-- Laws of adding to a level.
use mathlib.Core.Path.{◌≡◌, refl, sym, subst, ◌∙◌}
use mathlib.Core.Logic.{◌⊎◌, inl, inr, ⊎_elim}
use mathlib.Core.List.Memᴰ.{append_cases as append-mem}
use mathlib.Core.List.Memᴰ.{append_left as mem-left}
use mathlib.Core.List.Memᴰ.{append_right as mem-right}
use mathlib.Core.List.Memᴰ.{eq_of_singleton as mem-one}
use mathlib.Core.List.Memᴰ.{not-nil as not-mem-nil}
use mathlib.Core.List.{List, [], ◌∷◌, Memᴰ as Mem}
use mathlib.Core.List.Memᴰ.{head as here}
use mathlib.Core.List.Memᴰ.{tail as there}
use Prim.Native.Nat.{ℕ, zero, suc, ◌+◌, ◌*◌, ◌/◌, ◌<◌, ◌≤◌}
use native.Mathlib.Omega.{arith}
use lib.ListN.{length, get_or, take, length-take}
use Rattle.store.specs.Set.{place, Held, Put, placed, no_room}
use lib.Seq.{get_or-take}
use Rattle.store.proofs.Laws.{place-sorted, place-from, place-keeps, place-has, mem-at, at_mem, lt-or-ge}
use Rattle.store.proofs.Sets.{next, take-mem, take_all, longer}
use Rattle.std.specs.Prelude.{Option, Some as counted, None as too_many}
use Rattle.search.specs.Level.{New, Ready, Filled, kept, over, Some}

new-as : {K : List ℕ} {h : ℕ} {S T : ℕ → Type 0} {c : ℕ} → ((x : ℕ) → S x → T x) → New K h S c → New K h T c
new-as f w = record { of = f _ w.of; high = w.high; unknown = w.unknown }

pub held_in : {x : ℕ} {C D : List ℕ} → ((c : ℕ) → Mem c C → Mem c D) → Held x C → Held x D
held_in f w = record { code = w.code; there = f _ w.there; is = w.is }

-- what is counted fits
pub fits : {K : List ℕ} {h : ℕ} {S : ℕ → Type 0} {a : List ℕ} {n : ℕ} {b : List ℕ} {r : ℕ} → Filled K h S a n b (counted r) → r ≤ length a
fits (kept l s p) = l

-- where it fits, it is sorted, and goes on
pub goes_on : {K : List ℕ} {h : ℕ} {S : ℕ → Type 0} {a : List ℕ} {n : ℕ} {b : List ℕ} {r : ℕ} → Ready a n → Filled K h S a n b (counted r) → length b ≡ length a → Ready b r
goes_on y (kept l s p) len = record { sorted = s; count = omega arith }

module _ {K : List ℕ} {h : ℕ} {S S' T : ℕ → Type 0} {a : List ℕ} {n : ℕ} {b : List ℕ} {m : ℕ} {c : List ℕ} where
  -- adding S and then S' adds T, if that is both
  pub then : {r : ℕ} → Filled K h S a n b (counted m) → length b ≡ length a → Filled K h S' b m c (counted r)
      → ((x : ℕ) → S x → T x) → ((x : ℕ) → S' x → T x) → ((x : ℕ) → T x → S x ⊎ S' x) → Filled K h T a n c (counted r)
  then (kept l s p) len (kept l' s' p') f g u = kept (omega arith) s' (record {
    keeps = λ d i. p'.keeps d (p.keeps d i);
    origin = λ d i. ⊎_elim (λ j. ⊎_elim (λ t. inl t) (λ w. inr (new-as f w)) (p.origin d j)) (λ w. inr (new-as g w)) (p'.origin d i);
    has = λ x t. ⊎_elim (λ v. ⊎_elim (λ k. inl k) (λ w. inr (held_in p'.keeps w)) (p.has x v)) (λ v. p'.has x v) (u x t);
  })

  -- and where S' does not fit, no more does anything that has both
  pub stop : Filled K h S a n b (counted m) → length b ≡ length a → Filled K h S' b m c too_many → ((x : ℕ) → S x → T x) → ((x : ℕ) → S' x → T x) → Filled K h T a n c too_many
  stop (kept l s p) len (over E t e o) f g = over E t (omega arith) (λ d i. ⊎_elim (λ j. ⊎_elim (λ z. inl z) (λ w. inr (new-as f w)) (p.origin d j)) (λ w. inr (new-as g w)) (o d i))

-- the same set in other words
pub same : {K : List ℕ} {h : ℕ} {S T : ℕ → Type 0} {a : List ℕ} {n : ℕ} {b : List ℕ} {r : Option ℕ} → Filled K h S a n b r → ((x : ℕ) → S x → T x) → ((x : ℕ) → T x → S x) → Filled K h T a n b r
same (kept l s p) f g = kept l s (record { keeps = p.keeps; origin = λ d i. ⊎_elim (λ z. inl z) (λ w. inr (new-as f w)) (p.origin d i); has = λ x t. p.has x (g x t) })
same (over E s e o) f g = over E s e (λ d i. ⊎_elim (λ z. inl z) (λ w. inr (new-as f w)) (o d i))

pub is_all : {K : List ℕ} {h : ℕ} {S T : ℕ → Type 0} {a : List ℕ} {n : ℕ} {b : List ℕ} {r : Option ℕ} → S ≡ T → Filled K h S a n b r → Filled K h T a n b r
is_all {K} {h} {S} {T} {a} {n} {b} {r} e w = subst (λ (U : ℕ → Type 0). Filled K h U a n b r) e w

-- nothing added
pub nothing_yet : {K : List ℕ} {h : ℕ} {S : ℕ → Type 0} {a : List ℕ} {n : ℕ} → Ready a n → ((x : ℕ) → S x → ⊥) → Filled K h S a n a (counted n)
nothing_yet y f = kept y.count y.sorted (record { keeps = λ d i. i; origin = λ d i. inl i; has = λ x s. absurd (f x s) })

-- one of the first i of a list
module _ (l : List ℕ) {P : ℕ → ℕ → Type 0} where
  some-none : (x : ℕ) → Some (take 0 l) P x → ⊥
  some-none x w = not-mem-nil w.among

  module _ (i : ℕ) (lt : i < length l) where
    some-old : (x : ℕ) → Some (take i l) P x → Some (take (i + 1) l) P x
    some-old x w = record { which = w.which; among = rw (next l i lt) (mem-left _ w.among); does = w.does }

    some-new : (x : ℕ) → P (get_or l i 0) x → Some (take (i + 1) l) P x
    some-new x p = record { which = get_or l i 0; among = rw (next l i lt) (mem-right (take i l) (here refl)); does = p }

    some-cases : (x : ℕ) → Some (take (i + 1) l) P x → Some (take i l) P x ⊎ P (get_or l i 0) x
    some-cases x w = ⊎_elim (λ m. inl (record { which = w.which; among = m; does = w.does })) (λ m. inr (subst (λ (d : ℕ). P d x) (mem-one m) w.does)) (append-mem (take i l) (rw (next l i lt) at w.among))

-- a loop over a list that adds what each of it does
module _ {K : List ℕ} {h : ℕ} (l : List ℕ) {P : ℕ → ℕ → Type 0} {a : List ℕ} {n : ℕ} where
  pub loop-begins : Ready a n → Filled K h (Some (take 0 l) P) a n a (counted n)
  loop-begins y = nothing_yet y (some-none l)

  pub loop-ends : {b : List ℕ} {r : Option ℕ} (i : ℕ) → length l ≤ i → Filled K h (Some (take i l) P) a n b r → Filled K h (Some l P) a n b r
  loop-ends i g w = rw (take_all i l g) at w

  module _ {b : List ℕ} {m : ℕ} (i : ℕ) (lt : i < length l) (w : Filled K h (Some (take i l) P) a n b (counted m)) (len : length b ≡ length a) {c : List ℕ} where
    pub loop-turns : {r : ℕ} → Filled K h (P (get_or l i 0)) b m c (counted r) → Filled K h (Some (take (i + 1) l) P) a n c (counted r)
    loop-turns v = then w len v (some-old l i lt) (some-new l i lt) (some-cases l i lt)

    pub loop-stops : Filled K h (P (get_or l i 0)) b m c too_many → Filled K h (Some l P) a n c too_many
    loop-stops v = stop w len v (λ x s. record { which = s.which; among = take-mem i l s.among; does = s.does }) (λ x p. record { which = get_or l i 0; among = mem-at l i lt; does = p })

module _ {K : List ℕ} {h : ℕ} {a : List ℕ} {n : ℕ} (x : ℕ) (low : h < 2048) (y : Ready a n) where
  pub entered-known : Held x K → Filled K h (λ z. z ≡ x) a n a (counted n)
  entered-known w = kept y.count y.sorted (record { keeps = λ d i. i; origin = λ d i. inl i; has = λ z e. inl (record { code = w.code; there = w.there; is = w.is ∙ sym e }) })

  module _ (lacks : Held x K → ⊥) where
    fresh : (d : ℕ) → d ≡ x * 2048 + h → New K h (λ z. z ≡ x) d
    fresh d e =
        let i : d / 2048 ≡ x = omega (arith, low) in
        record { of = i; high = omega (arith, low); unknown = λ w. lacks (record { code = w.code; there = w.there; is = w.is ∙ i }) }

    pub entered-put : {b : List ℕ} {r : Option ℕ} → Put a n (x * 2048 + h) b r → Filled K h (λ z. z ≡ x) a n b r
    entered-put (placed l e) = kept l (rw e (place-sorted (x * 2048 + h) y.sorted)) (record {
      keeps = λ d i. rw e (place-keeps (x * 2048 + h) i);
      origin = λ d i. ⊎_elim (λ q. inr (fresh d q)) (λ j. inl j) (place-from (x * 2048 + h) (take n a) (rw e at i));
      has = λ z q. inr (record { code = x * 2048 + h; there = rw e (place-has (x * 2048 + h) (take n a)); is = omega (arith, low) });
    })
    entered-put (no_room e m) = over (place (x * 2048 + h) (take n a)) (place-sorted (x * 2048 + h) y.sorted) (longer (x * 2048 + h) (take n a) m ∙ simp length-take (omega arith))
        (λ d i. ⊎_elim (λ q. inr (fresh d q)) (λ j. inl j) (place-from (x * 2048 + h) (take n a) i))

-- places that do nothing are passed over
take_in : {c : ℕ} (l : List ℕ) (i j : ℕ) → i ≤ j → Mem c (take i l) → Mem c (take j l)
take_in l zero j h m = absurd (not-mem-nil m)
take_in [] (suc i) (suc j) h m = absurd (not-mem-nil m)
take_in (d ∷ l) (suc i) (suc j) h (here e) = here e
take_in (d ∷ l) (suc i) (suc j) h (there m) = there (take_in l i j (omega arith) m)
take_in l (suc i) zero h m = absurd (omega arith)

pub jump : {K : List ℕ} {h : ℕ} (l : List ℕ) {P : ℕ → ℕ → Type 0} {a : List ℕ} {n : ℕ} {b : List ℕ} {m : Option ℕ} (i j : ℕ) → i ≤ j
    → ((p : ℕ) → i ≤ p → p < j → p < length l → (x : ℕ) → P (get_or l p 0) x → ⊥) → Filled K h (Some (take i l) P) a n b m → Filled K h (Some (take j l) P) a n b m
jump l {P} i j h none w = same w (λ x s. record { which = s.which; among = take_in l i j h s.among; does = s.does }) back
  where
    back : (x : ℕ) → Some (take j l) P x → Some (take i l) P x
    back x s = go (at_mem s.among).0 (at_mem s.among).1 (at_mem s.among).2
      where
        go : (p : ℕ) → p < length (take j l) → get_or (take j l) p 0 ≡ s.which → Some (take i l) P x
        go p u e =
            let v : (p < j) × (p < length l) = omega (arith, length-take j l) in
            let f : get_or l p 0 ≡ s.which = sym (get_or-take j l p 0 v.0) ∙ e in
            ⊎_elim
            (λ q. record { which = s.which; among = subst (λ (c : ℕ). Mem c (take i l)) (get_or-take i l p 0 q ∙ f) (mem-at (take i l) p (omega (arith, length-take i l))); does = s.does })
            (λ q. absurd (none p q v.0 v.1 x (subst (λ (c : ℕ). P c x) (sym f) s.does)))
            (lt-or-ge p i)
