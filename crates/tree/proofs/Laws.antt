-- Laws of writing one list after another into a slice.
use mathlib.Core.Path.{◌≡◌, refl, ap, sym, ◌∙◌}
use mathlib.Core.List.{List, [], ◌∷◌, ◌++◌, append_assoc, append-nil}
use Prim.Native.Nat.{ℕ, suc, ◌+◌, ◌<◌, ◌≤◌}
use native.Mathlib.Nat.{add-zero}
use native.Mathlib.Numerals.{add-one}
use native.Mathlib.Omega.{arith}
use lib.ListN.{length, take, drop, set, length-append, length-take, length-drop, length-set, take-append-drop}
use lib.Seq.{take_at, drop_at, drop-drop, take-suc-set, drop-set-lt, append_snoc}
use Rattle.std.specs.Prelude.{Option, Some, None}
use Rattle.tree.specs.Writing.{Wrote, fitted, over}

pub kept : {ns s : List ℕ} {p : ℕ} {t : List ℕ} {r : Option ℕ} → Wrote ns s p t r → length t ≡ length s
kept (fitted h q e) = ap length e ∙ simp (length-append, length-take, length-drop) (omega arith)
kept (over h q e) = e

-- nothing is written
pub none_yet : (s : List ℕ) (p : ℕ) → p ≤ length s → Wrote [] s p s (Some p)
none_yet s p h = fitted (simp add-zero h) (simp add-zero) (simp (add-zero, append-nil) (sym (take-append-drop p s)))

-- one list, and then another from where it ended
pub then : {ns s : List ℕ} {p : ℕ} {t : List ℕ} {q : ℕ} {ms u : List ℕ} {r : Option ℕ} → Wrote ns s p t (Some q) → Wrote ms t q u r → Wrote (ns ++ ms) s p u r
then {ns} {s} {p} {t} {q} {ms} (fitted h o w) (fitted h' e' w') =
    let e : q ≡ p + length ns = cc in
    let k : length t ≡ length s = (let x : Wrote ns s p t (Some q) = fitted h o w in kept x) in
    let a : length (take p s ++ ns) ≡ q = simp (length-append, length-take) (omega arith) in
    let b : take q t ≡ take p s ++ ns = rw w (take_at (take p s ++ ns) _ q a) in
    let m : p + length ns + length ms ≡ p + (length ns + length ms) = omega arith in
    let d : drop (q + length ms) t ≡ drop (p + (length ns + length ms)) s =
    sym (drop-drop (length ms) q t) ∙ ap (λ (l : List ℕ). drop (length ms) l) (rw w (drop_at (take p s ++ ns) _ q a))
    ∙ drop-drop (length ms) (p + length ns) s ∙ ap (λ (n : ℕ). drop n s) m in
    let z : q + length ms ≡ p + length (ns ++ ms) = simp length-append (omega arith) in
    fitted (simp length-append (omega arith)) (e' ∙ ap Some z) (w' ∙ simp (b, d, append_assoc, length-append))
then {ns} {s} {p} {t} {q} (fitted h o w) (over h' e' w') =
    let e : q ≡ p + length ns = cc in
    let k : length t ≡ length s = (let x : Wrote ns s p t (Some q) = fitted h o w in kept x) in
    over (simp length-append (omega arith)) e' (w' ∙ k)
then (over h e w) x = absurd (cc)

-- one list had no room, so a longer one has none
pub cut_off : {ns s : List ℕ} {p : ℕ} {t : List ℕ} (ms : List ℕ) → Wrote ns s p t None → Wrote (ns ++ ms) s p t None
cut_off ms (fitted h e w) = absurd (cc)
cut_off ms (over h e w) = over (simp length-append (omega arith)) refl w

-- a number is stored, and then the others are written
pub stored : (s : List ℕ) (p x : ℕ) {ms t : List ℕ} {r : Option ℕ} → p < length s → Wrote ms (set s p x) (p + 1) t r → Wrote (x ∷ ms) s p t r
stored s p x {ms} l (fitted h e w) =
    let a : take (p + 1) (set s p x) ≡ take p s ++ (x ∷ []) = rw (add-one, take-suc-set s p x l) in
    let n : p + 1 + length ms ≡ p + suc (length ms) = omega arith in
    let b : drop (p + 1 + length ms) (set s p x) ≡ drop (p + suc (length ms)) s = drop-set-lt (p + 1 + length ms) s p x (omega arith) ∙ ap (λ (m : ℕ). drop m s) n in
    fitted (omega (arith, length-set s p x)) (e ∙ ap Some n) (w ∙ rw (a, b, append_snoc))
stored s p x l (over h e w) = over (omega (arith, length-set s p x)) e (w ∙ length-set s p x)

-- where there is no room for the first number there is none
pub no-room-for : (s : List ℕ) (p x : ℕ) (ns : List ℕ) → length s ≤ p → Wrote (x ∷ ns) s p s None
no-room-for s p x ns h = over (omega arith) refl refl

-- what was written from the start of a slice that holds it
pub record Fits (ns s t : List ℕ) (n : ℕ) : Type 0 where
  pub size : n ≡ length ns
  pub within : n ≤ length s
  pub there : take n t ≡ ns

pub fit : {ns s t : List ℕ} {n : ℕ} → Wrote ns s 0 t (Some n) → Fits ns s t n
fit {ns} {s} {t} {n} (fitted h o e) =
    let q : n ≡ length ns = (let z : n ≡ 0 + length ns = cc in omega arith) in
    record { size = q; within = omega arith; there = ap (take n) e ∙ take_at ns (drop (0 + length ns) s) n (sym q) }
fit (over h o e) = absurd (cc)

pub too_long : {ns s t : List ℕ} → Wrote ns s 0 t None → length s < length ns
too_long (fitted h o e) = absurd (cc)
too_long (over h o e) = omega arith
