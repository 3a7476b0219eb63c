-- The rules of a table that is not refused have different function numbers.
use Prim.Native.Nat.{ℕ, zero, suc, ◌+◌, ◌<◌}
use mathlib.Core.Path.{◌≡◌, refl, sym, ap, ◌∙◌, subst}
use mathlib.Core.Bool.{Bool, true, false, not, or-true}
use mathlib.Core.List.{List, [], ◌∷◌}
use native.Mathlib.Omega.{arith}
use lib.ListN.{length}
use lib.Dec.{ltb, eqb}
use borrow.Author.Tests.{eq-eqb}
use Rattle.meaning.specs.Table.{got, times, member, byte, number, number_field, dimension, dimension_of, header, rule_head, rule_body, rule, rules, check_table}
use Rattle.meaning.specs.Decode.{past, rule_end, first_rule}
use Rattle.meaning.proofs.Fields.{after, both, same}
use Rattle.meaning.proofs.Ends.{rule_end_lem, first-there}

-- a rule's number is none of those before it, and joins them
new : (t earlier : List ℕ) (at next : ℕ) → rule_head t earlier at ≡ got next → member (number t at) earlier ≡ false
unfolding rule_head number_field
new t earlier at next e =
    let f = both (number_field t at) _ next e in
    let n = same (after (ltb (length t) (at + 2)) _ _ f.0 f.1).1 in
    let h = after (eqb f.0.0 0) _ _ next f.2 in
    let h' = after (member f.0.0 earlier) _ _ next h.1 in
    subst (λ (p : ℕ × ℕ). member p.0 earlier ≡ false) (sym n) h'.0

pub joins : (t : List ℕ) (s s' : ℕ × List ℕ) → rule t s ≡ got s' → (member (number t s.0) s.1 ≡ false) × (s' ≡ (rule_end t s.0, number t s.0 ∷ s.1))
unfolding rule
joins t s s' e =
    let h = both (rule_head t s.1 s.0) _ s' e in
    let b = both (rule_body t s.0 h.0) _ s' h.2 in
    let r = (rule_end_lem t s s' e).0 in
    let x = same b.2 in
    (new t s.1 s.0 h.0 h.1, sym x ∙ ap (λ (p : ℕ). (p, number t s.0 ∷ s.1)) (ap (λ (p : ℕ × List ℕ). p.0) x ∙ r))

no : (b : Bool) → b ≡ false → b ≡ true → ⊥
no b e f = let z : ◌≡◌ {A = ℕ} 0 1 = cc in omega arith

more : (x y : ℕ) (l : List ℕ) → member x l ≡ true → member x (y ∷ l) ≡ true
unfolding member
more x y l e = rw e (or-true (eqb y x))

itself : (x : ℕ) (l : List ℕ) → member x (x ∷ l) ≡ true
unfolding member
itself x l = rw (eq-eqb x x refl)

module _ (t : List ℕ) where
  -- the j-th of the rules from a place
  abbrev nth : ℕ → ℕ → ℕ
  nth at j = number t (past j (rule_end t) at)

  apart_from : (n at : ℕ) (e : List ℕ) (s' : ℕ × List ℕ) → times n (rule t) (at, e) ≡ got s' → (x : ℕ) → member x e ≡ true → (j : ℕ) → j < n → nth at j ≡ x → ⊥
  unfolding times past
  apart_from zero at e s' r x m j h q = absurd (omega arith)
  apart_from (suc n) at e s' r x m zero h q =
      let b = both (rule t (at, e)) (times n (rule t)) s' r in
      let o = joins t (at, e) b.0 b.1 in
      no (member x e) (subst (λ (y : ℕ). member y e ≡ false) q o.0) m
  apart_from (suc n) at e s' r x m (suc j) h q =
      let b = both (rule t (at, e)) (times n (rule t)) s' r in
      let o = joins t (at, e) b.0 b.1 in
      apart_from n (rule_end t at) (number t at ∷ e) s' (ap (times n (rule t)) (sym o.1) ∙ b.2) x (more x (number t at) e m) j (omega arith) q

  apart : (n at : ℕ) (e : List ℕ) (s' : ℕ × List ℕ) → times n (rule t) (at, e) ≡ got s' → (i j : ℕ) → i < j → j < n → nth at i ≡ nth at j → ⊥
  unfolding times past
  apart zero at e s' r i j k h q = absurd (omega arith)
  apart (suc n) at e s' r i zero k h q = absurd (omega arith)
  apart (suc n) at e s' r zero (suc j) k h q =
      let b = both (rule t (at, e)) (times n (rule t)) s' r in
      let o = joins t (at, e) b.0 b.1 in
      apart_from n (rule_end t at) (number t at ∷ e) s' (ap (times n (rule t)) (sym o.1) ∙ b.2) (number t at) (itself (number t at) e) j (omega arith) (sym q)
  apart (suc n) at e s' r (suc i) (suc j) k h q =
      let b = both (rule t (at, e)) (times n (rule t)) s' r in
      let o = joins t (at, e) b.0 b.1 in
      apart n (rule_end t at) (number t at ∷ e) s' (ap (times n (rule t)) (sym o.1) ∙ b.2) i j (omega arith) (omega arith) q

  pub functions-differ : check_table t ≡ got tt → (i j : ℕ) → i < j → j < number t 7 → nth (first_rule t) i ≡ nth (first_rule t) j → ⊥
  unfolding check_table rules
  functions-differ e i j k h q =
      let g = both (header t) _ tt e in
      let d = both (times (byte t 5) (dimension t) g.0) _ tt g.2 in
      let s = after (not (eqb (dimension_of t (byte t 6)) 1)) _ _ tt d.2 in
      let r = both (rules t (number t 7) d.0) _ tt s.1 in
      let u = both (times (number t 7) (rule t) (d.0, [])) _ r.0 r.1 in
      apart (number t 7) (first_rule t) [] u.0 (ap (λ (p : ℕ). times (number t 7) (rule t) (p, [])) (sym (first-there t g.0 d.0 g.1 d.1)) ∙ u.1) i j k h q
