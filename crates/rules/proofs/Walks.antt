-- The places of an accepted table's rules, and the search for a rule by its function number.
use Prim.Native.Nat.{ℕ, suc, ◌+◌, ◌-◌, ◌≤◌, ◌<◌}
use mathlib.Core.Path.{◌≡◌, refl, sym, ap, ◌∙◌}
use mathlib.Core.List.{List}
use mathlib.Core.Option.{none, some}
use native.Mathlib.Omega.{arith}
use native.Mathlib.Numerals.{add-one}
use lib.ListN.{length}
use borrow.Author.Tests.{eq-eqb, ne_eqb}
use Rattle.meaning.specs.Table.{got, number, dimension_of, category_of, rank_of, check_table}
use Rattle.meaning.specs.Decode.{past, several, row_end, rule_at, rule_end, first_rule, grammar_of}
use Rattle.meaning.specs.TreeWriting.{named}
use Rattle.meaning.proofs.Ends.{fine-table, past-suc}
use Rattle.meaning.proofs.Places.{past-none, table-most, rows_are, row_is, rule-grows, first-is}
use Rattle.rules.specs.Walk.{place_of}

module _ (t : List ℕ) where
  pub place-first : first_rule t ≡ place_of t 0
  place-first = sym (past-none 0 (rule_end t) (first_rule t) refl)

  pub place-next : (i : ℕ) → rule_end t (place_of t i) ≡ place_of t (i + 1)
  place-next i = sym (ap (place_of t) (add-one i) ∙ past-suc i (rule_end t) (first_rule t))

  -- a rule's end, by its rows
  pub rule-from : (rule n at : ℕ) → n ≡ dimension_of t (category_of t rule) → at ≡ rule + 4 + rank_of t rule → rule_end t rule ≡ past n (row_end t) at
  unfolding rule_end
  rule-from rule n at e f = rw (e, f, rows_are t rule)

  -- a rule of an accepted table ends within it, and its place is a two-byte number
  module _ (e : check_table t ≡ got tt) (at i : ℕ) (p : at ≡ place_of t i) (h : i < number t 7) where
    pub end-within : rule_end t at ≤ length t
    end-within = rw p ((fine-table t e).rules i h).end

    pub place-small : at < 65536
    place-small = rw p (omega (arith, ((fine-table t e).rules i h).within, table-most t e))

  -- the search: what `named` says of all rules, it says of the n from a place on
  module _ (f n at : ℕ) where
    pub named_start : n ≡ number t 7 → at ≡ first_rule t → named (grammar_of t).rules f ≡ named (several n (rule_at t) (rule_end t) at) f
    unfolding grammar_of
    named_start e p = rw (e, p)

    pub named_none : n ≡ 0 → named (several n (rule_at t) (rule_end t) at) f ≡ none
    unfolding named several
    named_none e = rw e

    turn : 0 < n → named (several n (rule_at t) (rule_end t) at) f ≡ named (several (suc (n - 1)) (rule_at t) (rule_end t) at) f
    turn h = let e : n ≡ suc (n - 1) = omega arith in ap (λ (m : ℕ). named (several m (rule_at t) (rule_end t) at) f) e

    pub named_here : 0 < n → number t at ≡ f → named (several n (rule_at t) (rule_end t) at) f ≡ some (rule_at t at)
    unfolding named several rule_at
    named_here h e = turn h ∙ rw (eq-eqb (number t at) f e)

    pub named-on : 0 < n → (number t at ≡ f → ⊥) → named (several n (rule_at t) (rule_end t) at) f ≡ named (several (n - 1) (rule_at t) (rule_end t) (rule_end t at)) f
    unfolding named several rule_at
    named-on h e = turn h ∙ rw (ne_eqb (number t at) f e)

-- where a table's parts start and end, for `search`
pub ruleset places = (rule-grows, row_is, first-is)
