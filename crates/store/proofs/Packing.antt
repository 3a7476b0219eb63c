-- Packing loses nothing, and the order of keys is chart order.
use mathlib.Core.Path.{◌≡◌, refl, ap, sym, ◌∙◌}
use mathlib.Core.Logic.{inl, inr, ⊎_elim}
use mathlib.Core.List.{List, [], ◌∷◌, ◌++◌}
use Prim.Native.Nat.{ℕ, zero, suc, ◌+◌, ◌*◌, ◌/◌, ◌%◌, ◌<◌, ◌^◌}
use native.Mathlib.Omega.{arith}
use lib.ListN.{length}
use Rattle.meaning.specs.Order.{Lex}
use Rattle.meaning.specs.Range.{Item, numbers}
use Rattle.meaning.specs.Chart.{Known, Before}
use Rattle.meaning.proofs.Order.{lex-irr, lex-trans}
use Rattle.store.specs.Set.{key_of, height_of}
use Rattle.store.specs.Code.{unpacked, packed, Small, known_of, code_of}
use Rattle.store.proofs.Laws.{lt-or-ge}

-- a number's last digit, and what is before it
step : (k a d : ℕ) → k ≡ a * 128 + d → d < 128 → (k / 128 ≡ a) × (k % 128 ≡ d)
step k a d e h = (omega arith, omega arith)

pub unpack-pack : (y : Item) → Small y → unpacked (packed y) ≡ y
unfolding unpacked packed
unpack-pack y s =
    let x : ℕ = packed y in
    let s5 = step x _ y.three.to refl s.to₃ in
    let s4 = step (x / 128) _ y.three.from s5.0 s.from₃ in
    let s3 = step (x / 128 / 128) _ y.two.to s4.0 s.to₂ in
    let s2 = step (x / 128 / 128 / 128) _ y.two.from s3.0 s.from₂ in
    let s1 = step (x / 128 / 128 / 128 / 128) _ y.one.to s2.0 s.to₁ in
    let s0 = step (x / 128 / 128 / 128 / 128 / 128) _ y.one.from s1.0 s.from₁ in
    λ i. record {
      category = s0.0 i;
      one = record { from = s0.1 i; to = s1.1 i };
      two = record { from = s2.1 i; to = s3.1 i };
      three = record { from = s4.1 i; to = s5.1 i };
    }

pub pack-unpack : (x : ℕ) → packed (unpacked x) ≡ x
unfolding unpacked packed
pack-unpack x = omega arith

pub same_key : {x y : ℕ} → unpacked x ≡ unpacked y → x ≡ y
same_key {x} {y} e = sym (pack-unpack x) ∙ ap packed e ∙ pack-unpack y

pub key-small : (y : Item) → Small y → packed y < 2 ^ 49
unfolding packed
key-small y s = omega (arith, s.category, s.from₁, s.to₁, s.from₂, s.to₂, s.from₃, s.to₃)

pub small-item : (x : ℕ) → x < 2 ^ 49 → Small (unpacked x)
unfolding unpacked
small-item x h = record { category = omega arith; from₁ = omega arith; to₁ = omega arith; from₂ = omega arith; to₂ = omega arith; from₃ = omega arith; to₃ = omega arith }

-- a code is its key and its height
pub code-key : (x h : ℕ) → h < 2048 → key_of (x * 2048 + h) ≡ x
code-key x h l = omega arith

pub code-height : (x h : ℕ) → h < 2048 → height_of (x * 2048 + h) ≡ h
code-height x h l = omega arith

pub known-code : (k : Known Item) → Small k.item → k.height < 2048 → known_of (code_of k) ≡ k
known-code k s h =
    let i : unpacked (key_of (code_of k)) ≡ k.item = ap unpacked (code-key (packed k.item) k.height h) ∙ unpack-pack k.item s in
    let j : height_of (code_of k) ≡ k.height = code-height (packed k.item) k.height h in
    λ t. record { item = i t; height = j t }

pub code-known : (c : ℕ) → code_of (known_of c) ≡ c
code-known c = rw pack-unpack (omega arith)

-- the digits of a number, n after the first
digits : ℕ → ℕ → List ℕ
digits zero x = x ∷ []
digits (suc n) x = digits n (x / 128) ++ (x % 128 ∷ [])

lex-front : (a b u v : List ℕ) → length a ≡ length b → Lex a b → Lex (a ++ u) (b ++ v)
unfolding Lex
lex-front [] [] u v e l = absurd l
lex-front [] (y ∷ b) u v e l = absurd (omega arith)
lex-front (x ∷ a) [] u v e l = absurd l
lex-front (x ∷ a) (y ∷ b) u v e (inl h) = inl h
lex-front (x ∷ a) (y ∷ b) u v e (inr h) = inr (h.0, lex-front a b u v (omega arith) h.1)

lex-back : (a u v : List ℕ) → Lex u v → Lex (a ++ u) (a ++ v)
unfolding Lex
lex-back [] u v l = l
lex-back (x ∷ a) u v l = inr (refl, lex-back a u v l)

length_digits : (n x y : ℕ) → length (digits n x) ≡ length (digits n y)
unfolding digits
length_digits zero x y = refl
length_digits (suc n) x y = lib.ListN.length-append (digits n (x / 128)) (x % 128 ∷ []) ∙ omega (arith, length_digits n (x / 128) (y / 128)) ∙ sym (lib.ListN.length-append (digits n (y / 128)) (y % 128 ∷ []))

lt-digits : (n x y : ℕ) → x < y → Lex (digits n x) (digits n y)
unfolding digits Lex
lt-digits zero x y h = inl h
lt-digits (suc n) x y h = ⊎_elim
    (λ l. lex-front (digits n (x / 128)) (digits n (y / 128)) (x % 128 ∷ []) (y % 128 ∷ []) (length_digits n (x / 128) (y / 128)) (lt-digits n (x / 128) (y / 128) l))
    (λ g. let e : x / 128 ≡ y / 128 = omega arith in rw e (lex-back (digits n (y / 128)) (x % 128 ∷ []) (y % 128 ∷ []) (inl (omega arith))))
    (lt-or-ge (x / 128) (y / 128))

pub lt→before : (x y : ℕ) → x < y → Before (unpacked x) (unpacked y)
unfolding Before unpacked numbers digits
lt→before x y h = lt-digits 6 x y h

pub before→lt : (x y : ℕ) → Before (unpacked x) (unpacked y) → x < y
unfolding Before
before→lt x y b = ⊎_elim (λ h. h) (λ g. absurd (⊎_elim
    (λ h. lex-irr (numbers (unpacked x)) (lex-trans (numbers (unpacked x)) (numbers (unpacked y)) (numbers (unpacked x)) b (lt→before y x h)))
    (λ k. let e : y ≡ x = omega arith in lex-irr (numbers (unpacked x)) (rw e at b))
    (lt-or-ge y x))) (lt-or-ge x y)
