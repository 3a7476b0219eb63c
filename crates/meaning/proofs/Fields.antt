-- What follows from a part of the table that was read without a refusal.
use Prim.Native.Nat.{ℕ, zero, suc, ◌+◌, ◌-◌, ◌≤◌, ◌<◌}
use mathlib.Core.Path.{◌≡◌, refl, sym, ap, ◌∙◌, subst}
use mathlib.Core.Bool.{Bool, true, false, not, ◌||◌}
use mathlib.Core.List.{List}
use native.Mathlib.Omega.{arith}
use lib.ListN.{length}
use lib.Dec.{ltb, eqb}
use borrow.Author.Tests.{ltb-false}
use Rattle.meaning.specs.declared.Refusal.{Refusal}
use Rattle.meaning.specs.declared.Refusal.TheVariants.{Range}
use Rattle.meaning.specs.Table.{Got, got, refused, ◌>>=◌, ◌>>◌, refuse_if, times, member, outside, byte, number, byte_field, number_field, symbol_field}
use Rattle.meaning.specs.Table.{limited, dimension, category, rule_head, limits, header}
use Rattle.meaning.specs.Accepted.{Dims, Headed}

-- a test that was passed failed, and the rest was read
pub after : {A : Type 0} (b : Bool) (r : Refusal) (k : Got A) (x : A) → refuse_if b r >> k ≡ got x → (b ≡ false) × (k ≡ got x)
after true r k x e = let z : ◌≡◌ {A = ℕ} 0 1 = cc in absurd (omega arith)
after false r k x e = (refl, e)

-- of two parts that were read, both were
pub both : {A B : Type 0} (x : Got A) (k : A → Got B) (b : B) → x >>= k ≡ got b → (a : A) × (x ≡ got a) × (k a ≡ got b)
both (got a) k b e = (a, refl, e)
both (refused r) k b e = let z : ◌≡◌ {A = ℕ} 0 1 = cc in absurd (omega arith)

pub same : {A : Type 0} {a b : A} → got a ≡ got b → a ≡ b
same e = cc

pub symbol-there : (t : List ℕ) (at : ℕ) (x : ℕ × ℕ × ℕ) → symbol_field t at ≡ got x → at + 3 ≤ length t
unfolding symbol_field
symbol-there t at x e = ltb-false (length t) (at + 3) (after (ltb (length t) (at + 3)) _ _ x e).0

pub byte-there : (t : List ℕ) (at : ℕ) (x : ℕ × ℕ) → byte_field t at ≡ got x → (byte t at ≡ x.0) × (at + 1 ≡ x.1) × (at + 1 ≤ length t)
unfolding byte_field
byte-there t at x e =
    let a = after (ltb (length t) (at + 1)) _ _ x e in
    let h = same a.1 in
    (ap (λ (p : ℕ × ℕ). p.0) h, ap (λ (p : ℕ × ℕ). p.1) h, ltb-false (length t) (at + 1) a.0)

pub number-there : (t : List ℕ) (at : ℕ) (x : ℕ × ℕ) → number_field t at ≡ got x → (at + 2 ≤ length t) × (at + 2 ≡ x.1)
unfolding number_field
number-there t at x e =
    let h = after (ltb (length t) (at + 2)) _ _ x e in
    (ltb-false (length t) (at + 2) h.0, ap (λ (p : ℕ × ℕ). p.1) (same h.1))

neither : (a b : Bool) → (a || b) ≡ false → (a ≡ false) × (b ≡ false)
neither true b e = let z : ◌≡◌ {A = ℕ} 0 1 = cc in absurd (omega arith)
neither false b e = (refl, e)

pub inside : (low high x : ℕ) → outside low high x ≡ false → (low ≤ x) × (x ≤ high)
unfolding outside
inside low high x e =
    let h = neither (ltb x low) (ltb high x) e in
    (ltb-false x low h.0, ltb-false high x h.1)

-- a byte within limits
pub limited-there :
    (t : List ℕ) (low high : ℕ) (r : Refusal) (at next : ℕ) → limited t low high r at ≡ got next
    → (next ≡ at + 1) × ((low ≤ byte t at) × (byte t at ≤ high) × (at + 1 ≤ length t))
unfolding limited
limited-there t low high r at next e =
    let f = both (byte_field t at) _ next e in
    let b = byte-there t at f.0 f.1 in
    let h = after (outside low high f.0.0) r (got f.0.1) next f.2 in
    let i = inside low high f.0.0 h.0 in
    (sym (b.1 ∙ same h.1), (omega (arith, b.0), omega (arith, b.0), b.2))

-- one byte after another, each within its limits
here : (P : ℕ → Type 0) (at n a i : ℕ) → a ≡ at + 1 → P at → ((j : ℕ) → j < n → P (a + j)) → i < suc n → P (at + i)
here P at n a zero e p rest h = let q : at ≡ at + 0 = omega arith in subst P q p
here P at n a (suc i) e p rest h =
    let q : a + i ≡ at + suc i = omega arith in
    subst P q (rest i (omega arith))

pub times-there :
    (P : ℕ → Type 0) (f : ℕ → Got ℕ) → ((at next : ℕ) → f at ≡ got next → (next ≡ at + 1) × P at)
    → (n at next : ℕ) → times n f at ≡ got next → (i : ℕ) → i < n → P (at + i)
unfolding times
times-there P f one zero at next e i h = absurd (omega arith)
times-there P f one (suc n) at next e i h =
    let b = both (f at) (times n f) next e in
    let o = one at b.0 b.1 in
    here P at n b.0 i o.0 o.1 (times-there P f one n b.0 next b.2) h

-- what the readers' requires ask
pub headed : (t earlier : List ℕ) (at next : ℕ) → rule_head t earlier at ≡ got next → Headed t at next
unfolding rule_head
headed t earlier at next e =
    let f = both (number_field t at) _ next e in
    let n = number-there t at f.0 f.1 in
    let h = after (eqb f.0.0 0) _ _ next f.2 in
    let h' = after (member f.0.0 earlier) _ _ next h.1 in
    let g = both (category t f.0.1) _ next h'.1 in
    let c = limited-there t 1 (byte t 5) _ f.0.1 g.0 g.1 in
    let r = limited-there t 0 3 _ g.0 next g.2 in
    let p : g.0 ≡ at + 3 = omega (arith, n.1, c.0) in
    record { within = omega (arith, n.0); next = omega (arith, r.0); rank = subst (λ (q : ℕ). byte t q ≤ 3) p r.1.1 }

-- the dimensions that were read
pub dims-there : (t : List ℕ) (at next : ℕ) → at ≡ 9 → times (byte t 5) (dimension t) at ≡ got next → Dims t
dims-there t at next nine e c low high =
    let r = times-there (λ at. (1 ≤ byte t at) × (byte t at ≤ 3) × (at + 1 ≤ length t)) (dimension t) (λ at q. limited-there t 1 3 (Range at) at q) (byte t 5) at next e (c - 1) (omega arith) in
    let p : at + (c - 1) ≡ 8 + c = omega arith in
    subst (λ (q : ℕ). byte t q ≤ 3) p r.1

pub header-there : (t : List ℕ) (next : ℕ) → header t ≡ got next → (next ≡ 9) × (number t 7 ≤ 256) × (9 ≤ length t) × ((1 ≤ byte t 5) × (byte t 5 ≤ 64)) × ((1 ≤ byte t 6) × (byte t 6 ≤ byte t 5))
unfolding header limits
header-there t next e =
    let a = after (ltb (length t) 9) _ _ next e in
    let b = after (not (eqb (byte t 0) 77)) _ _ next a.1 in
    let c = after (not (eqb (byte t 1) 67)) _ _ next b.1 in
    let d = after (not (eqb (byte t 2) 71)) _ _ next c.1 in
    let f = after (not (eqb (number t 3) 1)) _ _ next d.1 in
    let g = after (outside 1 64 (byte t 5)) _ _ next f.1 in
    let h = after (outside 1 (byte t 5) (byte t 6)) _ _ next g.1 in
    let i = after (ltb 256 (number t 7)) _ _ next h.1 in
    (sym (same i.1), ltb-false 256 (number t 7) i.0, ltb-false (length t) 9 a.0, inside 1 64 (byte t 5) g.0, inside 1 (byte t 5) (byte t 6) h.0)
