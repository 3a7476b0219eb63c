-- The rule at a place of an accepted table: what the table has for it, that its head is there, and its daughters' categories.
use Prim.Native.Nat.{ℕ, ◌+◌, ◌≤◌, ◌<◌}
use mathlib.Core.Path.{◌≡◌, sym, ap, ◌∙◌, subst}
use mathlib.Core.List.{List}
use native.Mathlib.Omega.{arith}
use lib.ListN.{length, get_or}
use Rattle.meaning.specs.Table.{byte, dimension_of, category_of, rank_of}
use Rattle.meaning.specs.Decode.{past, row_end, rows_of, rule_at, rule_end}
use Rattle.meaning.specs.Accepted.{FineRule}
use Rattle.meaning.proofs.Ends.{fine-table}
use Rattle.meaning.proofs.Places.{past_one, past-grows, row-grows, rows_are}
use Rattle.meaning.proofs.Decoded.{several-at, several-past}
use Rattle.rules.specs.Walk.{RuleOf}

module _ (t : List ℕ) (rule : ℕ) (o : RuleOf t rule) where
  pub fine : FineRule t rule
  fine = subst (FineRule t) (sym o.there) ((fine-table t o.accepted).rules o.index o.below)

  -- the bytes of a rule's head are there
  pub head_in : rule + 4 + rank_of t rule ≤ length t
  unfolding rule_end
  head_in =
      let g = past-grows (dimension_of t (category_of t rule)) (row_end t) (row-grows t) (rows_of t rule) in
      let e : past (dimension_of t (category_of t rule)) (row_end t) (rows_of t rule) ≤ length t = fine.end in
      omega (arith, rows_are t rule)

  -- the daughters' categories
  pub wanted-past : (k : ℕ) → rank_of t rule ≤ k → 0 ≡ get_or (rule_at t rule).daughters k 0
  unfolding rule_at
  wanted-past k h = sym (several-past (byte t) (λ p. p + 1) (rank_of t rule) (rule + 4) k 0 h)

  pub wanted-there : (k : ℕ) → k < rank_of t rule → byte t (rule + 4 + k) ≡ get_or (rule_at t rule).daughters k 0
  unfolding rule_at
  wanted-there k h = sym (several-at (byte t) (λ p. p + 1) (rank_of t rule) (rule + 4) k 0 h ∙ ap (byte t) (past_one k (rule + 4)))
