-- Sets as numbers: what the operations on numbers do to the sets that they are.
use mathlib.Core.Path.{◌≡◌, refl, sym, ap, ◌∙◌}
use mathlib.Core.Logic.{◌⊎◌, inl, inr}
use Prim.Native.Nat.{ℕ, zero, suc, ◌+◌, ◌*◌, ◌/◌, ◌%◌, ◌^◌, ◌<◌, min, max}
use native.Mathlib.Omega.{arith}
use native.Mathlib.Nat.{pow-suc}
use native.Mathlib.Numerals.{add-one}
use lib.Pow.{shr-shr, field, mod-mod-pow, shl_exact}
use lib.Bits.{bit_and, bit_or, bit_xor, differ, and_step, or_step, xor_step}
use Rattle.reach.specs.Bits.{digit, Bit, Single, Both, Minus, Next}

-- a number of two digits: its last, and the rest
last-digit : (a r : ℕ) → r < 2 → (a * 2 + r) % 2 ≡ r
last-digit a r h = omega arith

rest-digit : (a r : ℕ) → r < 2 → (a * 2 + r) / 2 ≡ a
rest-digit a r h = omega arith

module _ (f : ℕ → ℕ → ℕ) (op : ℕ → ℕ → ℕ) (step : (a b : ℕ) → op a b ≡ op (a / 2) (b / 2) * 2 + f (a % 2) (b % 2)) (small : (a b : ℕ) → f (a % 2) (b % 2) < 2) where
  digit-op : (a b i : ℕ) → digit (op a b) i ≡ f (digit a i) (digit b i)
  unfolding digit
  digit-op a b zero = ap (λ (n : ℕ). n % 2) (step a b) ∙ last-digit _ _ (small a b)
  digit-op a b (suc i) = ap (λ (n : ℕ). digit (n / 2) i) (step a b) ∙ ap (λ (n : ℕ). digit n i) (rest-digit _ _ (small a b)) ∙ digit-op (a / 2) (b / 2) i

pub digit_and : (a b i : ℕ) → digit (bit_and a b) i ≡ min (digit a i) (digit b i)
digit_and = digit-op min bit_and and_step (λ a b. omega arith)

pub digit_or : (a b i : ℕ) → digit (bit_or a b) i ≡ max (digit a i) (digit b i)
digit_or = digit-op max bit_or or_step (λ a b. omega arith)

differ-small : (x y : ℕ) → x < 2 → y < 2 → differ x y < 2
differ-small zero y h k = k
differ-small (suc zero) zero h k = omega arith
differ-small (suc zero) (suc zero) h k = omega arith
differ-small (suc zero) (suc (suc y)) h k = absurd (omega arith)
differ-small (suc (suc x)) y h k = absurd (omega arith)

digit-xor : (a b i : ℕ) → digit (bit_xor a b) i ≡ differ (digit a i) (digit b i)
digit-xor = digit-op differ bit_xor xor_step (λ a b. differ-small (a % 2) (b % 2) (omega arith) (omega arith))

pub digit-small : (n i : ℕ) → digit n i < 2
unfolding digit
digit-small n zero = omega arith
digit-small n (suc i) = digit-small (n / 2) i

pub digit-zero : (i : ℕ) → digit 0 i ≡ 0
unfolding digit
digit-zero zero = refl
digit-zero (suc i) = digit-zero i

pub no-bit : (i : ℕ) → Bit 0 i → ⊥
no-bit i b = omega (arith, b.set, digit-zero i)

pub digit-pow : (i : ℕ) → digit (2 ^ i) i ≡ 1
unfolding digit
digit-pow zero = refl
digit-pow (suc i) = let h : 2 ^ suc i / 2 ≡ 2 ^ i = omega (arith, pow-suc 2 i) in ap (λ (n : ℕ). digit n i) h ∙ digit-pow i

pub pow-digit : (i j : ℕ) → digit (2 ^ i) j ≡ 1 → j ≡ i
unfolding digit
pow-digit zero zero h = refl
pow-digit zero (suc j) h = absurd (omega (arith, digit-zero j, h))
pow-digit (suc i) zero h = absurd (omega (arith, pow-suc 2 i, h))
pow-digit (suc i) (suc j) h = let e : 2 ^ suc i / 2 ≡ 2 ^ i = omega (arith, pow-suc 2 i) in ap suc (pow-digit i j (ap (λ (n : ℕ). digit n j) (sym e) ∙ h))

pub digit-shr : (n i : ℕ) → n / 2 ^ i % 2 ≡ digit n i
unfolding digit
digit-shr n zero = omega arith
digit-shr n (suc i) = ap (λ (m : ℕ). n / 2 ^ m % 2) (one_more i) ∙ ap (λ (m : ℕ). m % 2) (sym (shr-shr n 1 i)) ∙ digit-shr (n / 2) i
  where
    one_more : (i : ℕ) → suc i ≡ 1 + i
    one_more i = omega arith

-- the lowest k digits are those of the rest by 2 ^ k
pub digit-mod : (k n i : ℕ) → i < k → digit (n % 2 ^ k) i ≡ digit n i
unfolding digit
digit-mod zero n i h = absurd (omega arith)
digit-mod (suc k) n zero h = ap (λ (m : ℕ). n % 2 ^ m % 2) (sym (add-one k)) ∙ mod-mod-pow n k 1
digit-mod (suc k) n (suc i) h = ap (λ (m : ℕ). digit (n % 2 ^ m / 2) i) (sym (add-one k)) ∙ ap (λ (m : ℕ). digit m i) (field n k 1) ∙ digit-mod k (n / 2) i (omega arith)

-- the operations of the code
pub is-both : (a b : ℕ) → Both a b (bit_or a b)
is-both a b = record {
  left = λ i x. record { set = omega (arith, digit_or a b i, digit-small b i, x.set) };
  right = λ i x. record { set = omega (arith, digit_or a b i, digit-small a i, x.set) };
  either = λ i x. one_of (digit a i) (digit b i) (digit-small a i) (digit-small b i) (sym (digit_or a b i) ∙ x.set) (λ h. record { set = h }) (λ h. record { set = h });
}
  where
    one_of : {A B : Type 0} (x y : ℕ) → x < 2 → y < 2 → max x y ≡ 1 → (x ≡ 1 → A) → (y ≡ 1 → B) → A ⊎ B
    one_of zero y h k e f g = inr (g (omega arith))
    one_of (suc x) y h k e f g = inl (f (omega arith))

pub is-minus : (a b : ℕ) → Minus a b (bit_xor a (bit_and a b))
is-minus a b = record {
  whole = λ i x n. record { set = which i ∙ only-left (digit a i) (digit b i) (digit-small b i) x.set (λ e. n (record { set = e })) };
  sound = λ i x. by i (left-only (digit a i) (digit b i) (digit-small a i) (digit-small b i) (sym (which i) ∙ x.set));
}
  where
    which : (i : ℕ) → digit (bit_xor a (bit_and a b)) i ≡ differ (digit a i) (min (digit a i) (digit b i))
    which i = digit-xor a (bit_and a b) i ∙ ap (differ (digit a i)) (digit_and a b i)

    only-left : (x y : ℕ) → y < 2 → x ≡ 1 → (y ≡ 1 → ⊥) → differ x (min x y) ≡ 1
    only-left x zero k e n = rw e
    only-left x (suc zero) k e n = absurd (n refl)
    only-left x (suc (suc y)) k e n = absurd (omega arith)

    left-only : (x y : ℕ) → x < 2 → y < 2 → differ x (min x y) ≡ 1 → (x ≡ 1) × (y ≡ 0)
    left-only zero zero h k e = absurd (omega arith)
    left-only zero (suc y) h k e = absurd (omega arith)
    left-only (suc zero) zero h k e = (refl, refl)
    left-only (suc zero) (suc zero) h k e = absurd (omega arith)
    left-only (suc zero) (suc (suc y)) h k e = absurd (omega arith)
    left-only (suc (suc x)) y h k e = absurd (omega arith)

    by : (i : ℕ) → (digit a i ≡ 1) × (digit b i ≡ 0) → Bit a i × (Bit b i → ⊥)
    by i (e, f) = (record { set = e }, λ c. omega (arith, c.set))

pub is-single : (i : ℕ) → i < 64 → Single i (1 * 2 ^ i % 2 ^ 64)
is-single i h = rw (shl_exact {a = 1} 1 i 64 (omega arith) (omega arith)) (rw (mul-one' i) (record { it = record { set = digit-pow i }; only = λ j b. pow-digit i j b.set }))
  where
    mul-one' : (i : ℕ) → 1 * 2 ^ i ≡ 2 ^ i
    mul-one' i = omega arith

low : (k n i : ℕ) → n < 2 ^ k → digit n i ≡ 1 → i < k
unfolding digit
low zero n i h e = let z : n ≡ 0 = omega arith in absurd (omega (arith, digit-zero i, ap (λ (m : ℕ). digit m i) z, e))
low (suc k) n zero h e = omega arith
low (suc k) n (suc i) h e = let g = low k (n / 2) i (omega (arith, pow-suc 2 k)) e in omega arith

pub bit-low : {n i : ℕ} → n < 2 ^ 64 → Bit n i → i < 64
bit-low {n} {i} h b = low 64 n i h b.set

pub is-next : (a b : ℕ) → b < 2 ^ 64 → Next a b (bit_and (a * 2 ^ 1 % 2 ^ 64) b)
unfolding digit
is-next a b h = record {
  whole = λ i x y. record { set = digit_and (a * 2 ^ 1 % 2 ^ 64) b (suc i) ∙ least (up i (low 64 b (suc i) h y.set) ∙ x.set) y.set };
  sound = λ j x. take j (both_one _ _ (digit-small (a * 2 ^ 1 % 2 ^ 64) j) (digit-small b j) (sym (digit_and (a * 2 ^ 1 % 2 ^ 64) b j) ∙ x.set));
}
  where
    least : {x y : ℕ} → x ≡ 1 → y ≡ 1 → min x y ≡ 1
    least e f = rw (e, f)

    up : (i : ℕ) → suc i < 64 → digit (a * 2 ^ 1 % 2 ^ 64) (suc i) ≡ digit a i
    up i l = let z : a * 2 / 2 ≡ a = omega arith in digit-mod 64 (a * 2) (suc i) l ∙ ap (λ (m : ℕ). digit m i) z

    both_one : (x y : ℕ) → x < 2 → y < 2 → min x y ≡ 1 → (x ≡ 1) × (y ≡ 1)
    both_one x y h k e = (omega arith, omega arith)

    take : (j : ℕ) → (digit (a * 2 ^ 1 % 2 ^ 64) j ≡ 1) × (digit b j ≡ 1) → (i : ℕ) × (j ≡ suc i) × Bit a i × Bit b j
    take zero (e, f) = absurd (omega (arith, digit-mod 64 (a * 2) 0 (omega arith)))
    take (suc i) (e, f) = (i, refl, record { set = sym (up i (low 64 b (suc i) h f)) ∙ e }, record { set = f })

pub half : {n i : ℕ} → Bit n (suc i) → Bit (n / 2) i
unfolding digit
half b = record { set = b.set }

pub twice : {n i : ℕ} → Bit (n / 2) i → Bit n (suc i)
unfolding digit
twice b = record { set = b.set }

pub odd : {n : ℕ} → n % 2 ≡ 1 → Bit n 0
unfolding digit
odd h = record { set = h }

pub is_odd : {n : ℕ} → Bit n 0 → n % 2 ≡ 1
unfolding digit
is_odd b = b.set
