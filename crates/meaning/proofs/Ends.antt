-- A table that is not refused is the grammar that it says: each part ends where the next one is read, and the last at the table's end.
use Prim.Native.Nat.{ℕ, zero, suc, ◌+◌, ◌≤◌, ◌<◌}
use mathlib.Core.Path.{◌≡◌, refl, sym, ap, ◌∙◌, subst}
use mathlib.Core.Bool.{Bool, true, false, not, cond}
use mathlib.Core.List.{List, []}
use native.Mathlib.Omega.{arith}
use lib.ListN.{length}
use lib.Dec.{ltb, eqb}
use borrow.Author.Tests.{ltb-false, eqb-true, eqb-false, not-false}
use Rattle.meaning.specs.declared.Refusal.{Refusal}
use Rattle.meaning.specs.declared.Refusal.TheVariants.{Range, Category}
use Rattle.meaning.specs.Table.{Got, got, refused, ◌>>◌, refuse_if, times, member, byte, number, byte_field, number_field, symbol_field, dimension, category}
use Rattle.meaning.specs.Table.{Used, unused, word, part, symbol, row, missing, rank_of, category_of, daughter_of, dimension_of, outside, rule_head, rule_body, rule, rules, header, check_table}
use Rattle.meaning.specs.Decode.{past, row_end, rows_of, rule_end, first_rule}
use Rattle.meaning.specs.Accepted.{FineRow, FineSymbol, Means}
use Rattle.meaning.specs.Accepted.{FineRule, FineTable}
use Rattle.meaning.proofs.Fields.{after, both, same, byte-there, limited-there, header-there, headed, inside}

-- parts one after another: the last ends after all, and each has what one has
module _ {S : Type 0} (place : S → ℕ) (next : ℕ → ℕ) (P : ℕ → Type 0) (f : S → Got S)
    (one : (s s' : S) → f s ≡ got s' → (place s' ≡ next (place s)) × P (place s)) where
  step : (at : ℕ) → P at → (n i : ℕ) → ((j : ℕ) → j < n → P (past j next (next at))) → i < suc n → P (past i next at)
  unfolding past
  step at p n zero rest h = p
  step at p n (suc i) rest h = rest i (omega arith)

  pub times-past : (n : ℕ) (s s' : S) → times n f s ≡ got s'
      → (place s' ≡ past n next (place s)) × ((i : ℕ) → i < n → P (past i next (place s)))
  unfolding times past
  times-past zero s s' e = (ap place (sym (same e)), λ i h. absurd (omega arith))
  times-past (suc n) s s' e =
      let b = both (f s) (times n f) s' e in
      let o = one s b.0 b.1 in
      let r : (place s' ≡ past n next (next (place s))) × ((i : ℕ) → i < n → P (past i next (next (place s)))) = rw o.0 at (times-past n b.0 s' b.2) in
      (r.0, λ i h. step (place s) o.1 n i r.1 h)

pub past-suc : (n : ℕ) (next : ℕ → ℕ) (at : ℕ) → past (suc n) next at ≡ next (past n next at)
unfolding past
past-suc zero next at = refl
past-suc (suc n) next at = past-suc n next (next at)

-- where each part ends within a bound, all do
last : (b n : ℕ) (next : ℕ → ℕ) (at : ℕ) → at ≤ b → ((i : ℕ) → i < n → next (past i next at) ≤ b) → past n next at ≤ b
unfolding past
last b zero next at h each = h
last b (suc n) next at h each = rw (past-suc n next at) (each n (omega arith))

pub unrefused : (b : Bool) (r : Refusal) → refuse_if b r ≡ got tt → b ≡ false
unrefused true r e = let z : ◌≡◌ {A = ℕ} 0 1 = cc in absurd (omega arith)
unrefused false r e = refl

then : {B : Type 0} (x : Got (Unit {0})) (k : Got B) (b : B) → x >> k ≡ got b → x ≡ got tt
then (got tt) k b e = refl
then (refused r) k b e = let z : ◌≡◌ {A = ℕ} 0 1 = cc in absurd (omega arith)

-- a symbol is three bytes
word-fine : (at n : ℕ) → word at n ≡ got tt → 1 ≤ n
unfolding word
word-fine at n e = let z : n ≡ 0 → ⊥ = eqb-false n 0 (unrefused (eqb n 0) _ e) in omega arith

part-fine : (t : List ℕ) (rule at kind n : ℕ) (used used' : Used) → part t rule at kind n used ≡ got used' → (kind ≤ rank_of t rule) × (1 ≤ n) × (n ≤ dimension_of t (daughter_of t rule kind))
unfolding part
part-fine t rule at kind n used used' e =
    let a = after (ltb (rank_of t rule) kind) _ _ used' e in
    let b = after (outside 1 (dimension_of t (daughter_of t rule kind)) n) _ _ used' a.1 in
    let i = inside 1 (dimension_of t (daughter_of t rule kind)) n b.0 in
    (ltb-false (rank_of t rule) kind a.0, i.0, i.1)

meant :
    (t : List ℕ) (rule at kind n : ℕ) (used used' : Used) → cond (eqb kind 0) (word at n >> got used) (part t rule at kind n used) ≡ got used'
    → Means t rule kind n
meant t rule at kind n used used' e = go (eqb kind 0) refl e
  where
    go : (b : Bool) → eqb kind 0 ≡ b → cond b (word at n >> got used) (part t rule at kind n used) ≡ got used'
        → Means t rule kind n
    go true k e = let z : kind ≡ 0 = eqb-true kind 0 k in (λ _. word-fine at n (then (word at n) (got used) used' e), λ h. absurd (omega arith))
    go false k e = let z : kind ≡ 0 → ⊥ = eqb-false kind 0 k in (λ h. absurd (z h), λ _. part-fine t rule at kind n used used' e)

pub symbol_end : (t : List ℕ) (rule : ℕ) (s s' : ℕ × Used) → symbol t rule s ≡ got s' → (s'.0 ≡ s.0 + 3) × ((s.0 + 3 ≤ length t) × FineSymbol t rule s.0)
unfolding symbol symbol_field
symbol_end t rule s s' e =
    let f = both (symbol_field t s.0) _ s' e in
    let a = after (ltb (length t) (s.0 + 3)) _ _ f.0 f.1 in
    let x = same a.1 in
    let g = both (cond (eqb f.0.0 0) (word s.0 f.0.1 >> got s.1) (part t rule s.0 f.0.0 f.0.1 s.1)) _ s' f.2 in
    let m = meant t rule s.0 f.0.0 f.0.1 s.1 g.0 g.1 in (
      ap (λ (p : ℕ × Used). p.0) (sym (same g.2)) ∙ ap (λ (p : ℕ × ℕ × ℕ). p.2) (sym x),
      (ltb-false (length t) (s.0 + 3) a.0, subst (λ (p : ℕ × ℕ × ℕ). Means t rule p.0 p.1) (sym x) m),
    )

pub row-end : (t : List ℕ) (rule : ℕ) (s s' : ℕ × Used) → row t rule s ≡ got s' → (s'.0 ≡ row_end t s.0) × FineRow t rule s.0
unfolding row row_end
row-end t rule s s' e =
    let f = both (byte_field t s.0) _ s' e in
    let b = byte-there t s.0 f.0 f.1 in
    let h = after (ltb 16 f.0.0) (Range s.0) _ s' f.2 in
    let r = times-past (λ p. p.0) (λ p. p + 3) (λ p. (p + 3 ≤ length t) × FineSymbol t rule p) (symbol t rule) (symbol_end t rule) f.0.0 (f.0.1, s.1) s' h.1 in
    let l = last (length t) f.0.0 (λ p. p + 3) f.0.1 (rw b.1 at b.2) (λ i k. (r.1 i k).0) in
    let y : (i : ℕ) → i < byte t s.0 → FineSymbol t rule (past i (λ p. p + 3) (s.0 + 1)) = rw (b.0, b.1) (λ i k. (r.1 i k).1) in
    (rw (b.0, b.1) r.0, record { short = rw b.0 (ltb-false 16 f.0.0 h.0); end = rw (b.0, b.1) l; symbols = y })

-- the parts of a rule
abbrev pub In : List ℕ → ℕ → ℕ → Type 0
In t high p = (1 ≤ byte t p) × (byte t p ≤ high) × (p + 1 ≤ length t)

pub category-end : (t : List ℕ) (at next : ℕ) → category t at ≡ got next → (next ≡ at + 1) × In t (byte t 5) at
category-end t at next e = limited-there t 1 (byte t 5) (Category at) at next e

body_end :
    (t : List ℕ) (at next : ℕ) → at + 4 ≤ length t → rule_body t at (at + 4) ≡ got next
    → (next ≡ rule_end t at) × (rule_end t at ≤ length t)
    × ((i : ℕ) → i < rank_of t at → In t (byte t 5) (past i (λ p. p + 1) (at + 4)))
    × ((i : ℕ) → i < dimension_of t (category_of t at) → FineRow t at (past i (row_end t) (rows_of t at)))
unfolding rule_body rule_end
body_end t at next w e =
    let c = both (times (rank_of t at) (category t) (at + 4)) _ next e in
    let d = times-past (λ p. p) (λ p. p + 1) (In t (byte t 5)) (category t) (category-end t) (rank_of t at) (at + 4) c.0 c.1 in
    let f = both (times (dimension_of t (category_of t at)) (row t at) (c.0, unused)) _ next c.2 in
    let r = times-past (λ p. p.0) (row_end t) (FineRow t at) (row t at) (row-end t at) (dimension_of t (category_of t at)) (c.0, unused) f.0 f.1 in
    let m = after (missing t at f.0.1) _ (got f.0.0) next f.2 in
    let r' : (i : ℕ) → i < dimension_of t (category_of t at) → FineRow t at (past i (row_end t) (rows_of t at)) =
    λ i h. subst (λ (p : ℕ). FineRow t at (past i (row_end t) p)) d.0 (r.1 i h) in
    let l = last (length t) (rank_of t at) (λ p. p + 1) (at + 4) w (λ i h. (d.1 i h).2) in (
      sym (same m.1) ∙ r.0 ∙ ap (λ (p : ℕ). past (dimension_of t (category_of t at)) (row_end t) p) d.0,
      last (length t) (dimension_of t (category_of t at)) (row_end t) (rows_of t at) l (λ i h. (r' i h).end),
      d.1,
      r',
    )

pub head_more : (t earlier : List ℕ) (at next : ℕ) → rule_head t earlier at ≡ got next → (1 ≤ number t at) × (1 ≤ category_of t at) × (category_of t at ≤ byte t 5) × (at + 4 ≤ length t)
unfolding rule_head number_field
head_more t earlier at next e =
    let f = both (number_field t at) _ next e in
    let n = same (after (ltb (length t) (at + 2)) _ _ f.0 f.1).1 in
    let h = after (eqb f.0.0 0) _ _ next f.2 in
    let h' = after (member f.0.0 earlier) _ _ next h.1 in
    let g = both (category t f.0.1) _ next h'.1 in
    let c = category-end t f.0.1 g.0 g.1 in
    let r = limited-there t 0 3 _ g.0 next g.2 in
    let z : f.0.0 ≡ 0 → ⊥ = eqb-false f.0.0 0 h.0 in
    let p : at + 2 ≡ f.0.1 = ap (λ (p : ℕ × ℕ). p.1) n in
    let c' : (1 ≤ category_of t at) × (category_of t at ≤ byte t 5) = rw p (c.1.0, c.1.1) in
    (rw (ap (λ (p : ℕ × ℕ). p.0) n) (omega arith), c'.0, c'.1, omega (arith, r.1.2, c.0))

pub rule_end_lem : (t : List ℕ) (s s' : ℕ × List ℕ) → rule t s ≡ got s' → (s'.0 ≡ rule_end t s.0) × FineRule t s.0
unfolding rule
rule_end_lem t s s' e =
    let h = both (rule_head t s.1 s.0) _ s' e in
    let k = headed t s.1 s.0 h.0 h.1 in
    let m = head_more t s.1 s.0 h.0 h.1 in
    let b = both (rule_body t s.0 h.0) _ s' h.2 in
    let r = body_end t s.0 b.0 m.3 (ap (rule_body t s.0) (sym k.next) ∙ b.1) in (
      ap (λ (p : ℕ × List ℕ). p.0) (sym (same b.2)) ∙ r.0,
      record { within = k.within; end = r.1; function = m.0; low = m.1; high = m.2; rank = k.rank; daughters = λ i h. ((r.2 i h).0, (r.2 i h).1); rows = r.3 },
    )

pub first-there : (t : List ℕ) (at next : ℕ) → header t ≡ got at → times (byte t 5) (dimension t) at ≡ got next → next ≡ first_rule t
first-there t at next e d =
    let q = times-past (λ p. p) (λ p. p + 1) (In t 3) (dimension t) (λ at next. limited-there t 1 3 (Range at) at next) (byte t 5) at next d in
    q.0 ∙ ap (λ (p : ℕ). past (byte t 5) (λ p. p + 1) p) (header-there t at e).0

-- a table that is not refused: its rules are fine, and end at its end
pub fine-table : (t : List ℕ) → check_table t ≡ got tt → FineTable t
unfolding check_table rules
fine-table t e =
    let h = both (header t) _ tt e in
    let n = header-there t h.0 h.1 in
    let d = both (times (byte t 5) (dimension t) h.0) _ tt h.2 in
    let q = times-past (λ p. p) (λ p. p + 1) (In t 3) (dimension t) (λ at next. limited-there t 1 3 (Range at) at next) (byte t 5) h.0 d.0 d.1 in
    let q' : (i : ℕ) → i < byte t 5 → In t 3 (past i (λ p. p + 1) 9) = λ i k. subst (λ (p : ℕ). In t 3 (past i (λ p. p + 1) p)) n.0 (q.1 i k) in
    let s = after (not (eqb (dimension_of t (byte t 6)) 1)) _ _ tt d.2 in
    let r = both (rules t (number t 7) d.0) _ tt s.1 in
    let u = both (times (number t 7) (rule t) (d.0, [])) _ r.0 r.1 in
    let v = times-past (λ p. p.0) (rule_end t) (FineRule t) (rule t) (rule_end_lem t) (number t 7) (d.0, []) u.0 u.1 in
    let first : d.0 ≡ first_rule t = q.0 ∙ ap (λ (p : ℕ). past (byte t 5) (λ p. p + 1) p) n.0 in
    let fine : (i : ℕ) → i < number t 7 → FineRule t (past i (rule_end t) (first_rule t)) = λ i k. subst (λ (p : ℕ). FineRule t (past i (rule_end t) p)) first (v.1 i k) in
    let w = ltb-false r.0 (length t) (unrefused (ltb r.0 (length t)) _ r.2) in
    let z : r.0 ≡ past (number t 7) (rule_end t) (first_rule t) = sym (same u.2) ∙ v.0 ∙ ap (λ (p : ℕ). past (number t 7) (rule_end t) p) first in
    let l = last (length t) (byte t 5) (λ p. p + 1) 9 n.2 (λ i k. (q' i k).2) in
    let m = last (length t) (number t 7) (rule_end t) (first_rule t) l (λ i k. (fine i k).end) in
    record {
      categories = n.3;
      start = n.4;
      count = n.1;
      dims = λ i k. ((q' i k).0, (q' i k).1);
      one = eqb-true (dimension_of t (byte t 6)) 1 (not-false (eqb (dimension_of t (byte t 6)) 1) s.0);
      rules = fine;
      end = omega (arith, w, z, m);
    }
