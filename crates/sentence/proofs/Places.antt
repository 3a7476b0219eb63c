-- Rules by their places: the search for a function number, the nodes noted, and where a node's daughters stand.
use mathlib.Core.Path.{◌≡◌, refl, sym, ◌∙◌, subst}
use mathlib.Core.List.{List, [], ◌∷◌, map}
use mathlib.Core.Option.{Option, none, some}
use mathlib.Core.Bool.{Bool, true, false, cond}
use Prim.Native.Nat.{ℕ, zero, suc, ◌+◌, ◌-◌, ◌≤◌, ◌<◌}
use native.Mathlib.Omega.{arith}
use native.Mathlib.Decide.{dec_lt}
use native.Mathlib.Numerals.{add-one}
use lib.Dec.{eqb}
use lib.ListN.{length, get_or, drop, length-map, drop_of_length-le, get_or-eq_default}
use lib.Seq.{drop-cons}
use Rattle.meaning.specs.Grammar.{Rule}
use Rattle.meaning.specs.Table.{got, number, rank_of, check_table}
use Rattle.meaning.specs.Decode.{past, several, rule_at, rule_end, first_rule, grammar_of}
use Rattle.meaning.specs.Accepted.{FineRule, FineTable}
use Rattle.meaning.specs.TreeWriting.{named}
use Rattle.meaning.proofs.Places.{rule-grows', first-is}
use Rattle.std.specs.Prelude.{Option as Result_of, Some, None, MatchOption}
use Rattle.rules.specs.declared.rule.Rule.{Rule as Found}
use Rattle.rules.specs.Found.{found_at as place_in}
use Rattle.rules.specs.Walk.{Finds, known, unknown}
use Rattle.rules.proofs.Once.{finds-once}
use Rattle.sentence.specs.Nodes.{seek, place_for, rule_of, Within, taken}

pub rule-of : (t : List ℕ) (p : ℕ) → 1 ≤ p → rule_of t p ≡ some (rule_at t p)
unfolding rule_of
rule-of t zero h = absurd (omega arith)
rule-of t (suc p) h = refl

pub of-rule : (t : List ℕ) (p : ℕ) {r : Rule} → rule_of t p ≡ some r → (1 ≤ p) × (r ≡ rule_at t p)
unfolding rule_of
of-rule t zero e = let z : ◌≡◌ {A = ℕ} 0 1 = cc in absurd (omega arith)
of-rule t (suc p) e = (omega arith, cc)

no-rule : (t : List ℕ) (p : ℕ) → p ≡ 0 → rule_of t p ≡ none
unfolding rule_of
no-rule t zero e = refl
no-rule t (suc p) e = absurd (omega arith)

-- the search over places is the search over rules
pick : (b : Bool) (t : List ℕ) (at s : ℕ) {o : Option Rule} → 1 ≤ at → o ≡ rule_of t s → cond b (some (rule_at t at)) o ≡ rule_of t (cond b at s)
pick true t at s h e = sym (rule-of t at h)
pick false t at s h e = e

seek-named : (n : ℕ) (t : List ℕ) (f at : ℕ) → 1 ≤ at → named (several n (rule_at t) (rule_end t) at) f ≡ rule_of t (seek n t f at)
unfolding named seek several rule_of rule_at
seek-named zero t f at h = refl
seek-named (suc n) t f at h =
    let g = rule-grows' t at in
    pick (eqb (number t at) f) t at (seek n t f (rule_end t at)) h (seek-named n t f (rule_end t at) (omega arith))

-- the rule of a function number stands at its place
pub place-named : (t : List ℕ) (f : ℕ) → named (grammar_of t).rules f ≡ rule_of t (place_for t f)
unfolding grammar_of
place-named t f = seek-named (number t 7) t f (first_rule t) (omega (arith, first-is t))

-- a place that is found is that of a rule
found_at :
    (b : Bool) (n : ℕ) (t : List ℕ) (at s : ℕ) → (1 ≤ s → (i : ℕ) × (i < n) × (s ≡ past i (rule_end t) (rule_end t at))) → 1 ≤ cond b at s
    → (i : ℕ) × (i < suc n) × (cond b at s ≡ past i (rule_end t) at)
unfolding past
found_at true n t at s rec h = (0, omega arith, refl)
found_at false n t at s rec h = let (i, l, e) = rec h in (suc i, omega arith, e)

seek_found : (n : ℕ) (t : List ℕ) (f at : ℕ) → 1 ≤ seek n t f at → (i : ℕ) × (i < n) × (seek n t f at ≡ past i (rule_end t) at)
unfolding seek
seek_found zero t f at h = absurd (omega arith)
seek_found (suc n) t f at h = found_at (eqb (number t at) f) n t at (seek n t f (rule_end t at)) (seek_found n t f (rule_end t at)) h

module _ (t : List ℕ) (v : FineTable t) where
  fine-place : (f : ℕ) → 1 ≤ place_for t f → FineRule t (place_for t f)
  fine-place f h = let (i, l, e) = seek_found (number t 7) t f (first_rule t) h in subst (FineRule t) (sym e) (v.rules i l)

  pub fine-node : (fs : List ℕ) (i : ℕ) → 1 ≤ get_or (map (place_for t) fs) i 0 → FineRule t (get_or (map (place_for t) fs) i 0)
  fine-node [] i h = absurd (omega (arith, get_or-eq_default {A = ℕ} [] 0 {n = i} (omega arith)))
  fine-node (f ∷ fs) zero h = fine-place f h
  fine-node (f ∷ fs) (suc i) h = fine-node fs i h

  -- what is known of the nodes that are noted of a list
  pub within_of : (fs : List ℕ) → length fs ≤ 255 → Within t (map (place_for t) fs)
  within_of fs h = record {
    within = λ i. go i (dec_lt 0 (get_or (map (place_for t) fs) i 0));
    fine = fine-node fs;
    few = rw (length-map fs (place_for t)) h;
  }
    where
      go : (i : ℕ) → Dec (0 < get_or (map (place_for t) fs) i 0) → get_or (map (place_for t) fs) i 0 ≤ length t
      go i (yes l) = let f = fine-node fs i (omega arith) in omega (arith, f.within)
      go i (no l) = omega arith

-- what the table's own search finds is this place, or there is none
found-there : (t : List ℕ) (f : ℕ) → check_table t ≡ got tt → 0 < place_for t f → Finds t f (Some (place_for t f))
found-there t f ok h =
    let (i, l, e) = seek_found (number t 7) t f (first_rule t) h in
    known (record { accepted = ok; index = i; below = l; there = e }) (place-named t f ∙ rule-of t (place_for t f) h)

found-none : (t : List ℕ) (f : ℕ) → place_for t f ≡ 0 → Finds t f None
found-none t f z = unknown (place-named t f ∙ no-rule t (place_for t f) z)

known-place : (t : List ℕ) (f : ℕ) → check_table t ≡ got tt → {p : ℕ} → Finds t f (Some p) → p ≡ place_for t f
known-place t f ok {p} F = go (dec_lt 0 (place_for t f))
  where
    go : Dec (0 < place_for t f) → p ≡ place_for t f
    go (yes h) = let q = finds-once t f F (found-there t f ok h) in cc
    go (no h) = let q = finds-once t f F (found-none t f (omega arith)) in let z : ◌≡◌ {A = ℕ} 0 1 = cc in absurd (omega arith)

unknown-place : (t : List ℕ) (f : ℕ) → check_table t ≡ got tt → Finds t f None → 0 ≡ place_for t f
unknown-place t f ok F = go (dec_lt 0 (place_for t f))
  where
    go : Dec (0 < place_for t f) → 0 ≡ place_for t f
    go (yes h) = let q = finds-once t f F (found-there t f ok h) in let z : ◌≡◌ {A = ℕ} 0 1 = cc in absurd (omega arith)
    go (no h) = omega arith

-- the place of the rule that is found, or 0 where there is none
pub place-found : (t : List ℕ) (f : ℕ) → check_table t ≡ got tt → (r : Result_of Found) {n : ℕ} {P : Found → Type 0} → Finds t f (place_in r)
    → ((x : Found) → P x → n ≡ x.at) → MatchOption r (n ≡ 0) P → n ≡ place_for t f
place-found t f ok (Some x) F is m = is x m ∙ known-place t f ok F
place-found t f ok None F is m = m ∙ unknown-place t f ok F

-- one node more is taken for the daughters before one
module _ (t : List ℕ) where
  pub taken-most : (l : List ℕ) (n : ℕ) → taken t l n ≤ length l
  unfolding taken
  taken-most [] n = omega arith
  taken-most (p ∷ l) zero = omega arith
  taken-most (p ∷ l) (suc n) = let h = taken-most l (rank_of t p + n) in omega arith

  pub taken-no : (l : List ℕ) (n : ℕ) → n ≡ 0 → taken t l n ≡ 0
  unfolding taken
  taken-no [] n e = refl
  taken-no (p ∷ l) n e = rw e

  pub taken-end : (ns : List ℕ) (at n : ℕ) → length ns ≤ at → taken t (drop at ns) n ≡ 0
  unfolding taken
  taken-end ns at n h = rw (drop_of_length-le ns {i = at} h)

  pub taken-turn :
      (ns : List ℕ) (at n : ℕ) → at < length ns → 0 < n
      → taken t (drop at ns) n ≡ 1 + taken t (drop (at + 1) ns) (n - 1 + rank_of t (get_or ns at 0))
  unfolding taken
  taken-turn ns at zero h l = absurd (omega arith)
  taken-turn ns at (suc n) h l =
      let e : rank_of t (get_or ns at 0) + n ≡ suc n - 1 + rank_of t (get_or ns at 0) = omega arith in
      rw (drop-cons ns at 0 h, e, add-one) (omega arith)
