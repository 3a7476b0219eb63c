-- A place is that of at most one rule of a table, so `RuleOf` has at most one proof. It stands in specs, since the type `Rule` cites it at its ghost field.
use Prim.Native.Nat.{ℕ, zero, suc, ◌+◌, ◌-◌, ◌≤◌, ◌<◌}
use mathlib.Core.Path.{◌≡◌, sym, ap, ◌∙◌}
use mathlib.Core.List.{List}
use mathlib.Core.HLevel.{Σ_prop_path}
use mathlib.Core.Sum.{⊎_set}
use native.Mathlib.Omega.{arith}
use native.Mathlib.Decide.{dec_lt}
use Rattle.meaning.specs.Table.{Got, got, number, check_table}
use Rattle.meaning.specs.Decode.{rule_end, first_rule}
use Rattle.meaning.proofs.Places.{rule-grows}
use Rattle.meaning.proofs.Ends.{past-suc}
use Rattle.std.proofs.Props.{props}
use Rattle.rules.specs.Walk.{place_of, RuleOf}

pub Got_set : IsSet (Got (Unit {0}))
Got_set = hlevel (props, ⊎_set)

module _ (t : List ℕ) where
  -- a later rule starts later
  rises : (i n : ℕ) → place_of t i + n ≤ place_of t (i + n)
  rises i zero = let e : i + 0 ≡ i = omega arith in rw e (omega arith)
  rises i (suc n) =
      let e : i + suc n ≡ suc (i + n) = omega arith in
      let s : place_of t (suc (i + n)) ≡ rule_end t (place_of t (i + n)) = past-suc (i + n) (rule_end t) (first_rule t) in
      rw (e, s) (omega (arith, rises i n, rule-grows t (place_of t (i + n))))

  later : (i j : ℕ) → i < j → place_of t i < place_of t j
  later i j h =
      let n = j - i in
      let e : i + n ≡ j = omega arith in
      let r : place_of t i + n ≤ place_of t j = rw e at (rises i n) in
      omega arith

  pub one_index : (i j : ℕ) → place_of t i ≡ place_of t j → i ≡ j
  one_index i j e = go (dec_lt i j) (dec_lt j i)
    where
      go : Dec (i < j) → Dec (j < i) → i ≡ j
      go (yes h) d = absurd (omega (arith, later i j h, e))
      go (no h) (yes d) = absurd (omega (arith, later j i d, e))
      go (no h) (no d) = omega arith

  abbrev Rest : ℕ → ℕ → Type 0
  Rest p i = (check_table t ≡ got tt) × (i < number t 7) × (p ≡ place_of t i)

  Rest_prop : (p i : ℕ) → IsProp (Rest p i)
  Rest_prop p i = hlevel (props, Got_set)

  pub RuleOf_prop : (p : ℕ) → IsProp (RuleOf t p)
  RuleOf_prop p a b =
      let e : (a.index, (a.accepted, a.below, a.there)) ≡ (b.index, (b.accepted, b.below, b.there)) =
      Σ_prop_path {B = Rest p} (Rest_prop p) {u = (a.index, (a.accepted, a.below, a.there))} {v = (b.index, (b.accepted, b.below, b.there))} (one_index a.index b.index (sym a.there ∙ b.there)) in
      ap (λ (u : (i : ℕ) × Rest p i). record { accepted = u.1.0; index = u.0; below = u.1.1; there = u.1.2 }) e
