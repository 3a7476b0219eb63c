-- The rank of the rule with a function number, as the table's bytes say it.
use mathlib.Core.Path.{◌≡◌, sym, ap, ◌∙◌}
use mathlib.Core.List.{List}
use Prim.Native.Nat.{ℕ, ◌+◌, ◌<◌}
use lib.ListN.{length}
use Rattle.meaning.specs.Table.{byte}
use Rattle.meaning.specs.Table as bytes
use Rattle.meaning.specs.Decode.{rule_at}
use Rattle.meaning.specs.TreeWriting.{rank_of}
use Rattle.meaning.proofs.Decoded.{several-length}
use Rattle.std.specs.Prelude.{Option, Some, None, IfSome, MatchOption}
use Rattle.rules.specs.declared.rule.Rule.{Rule as Found}
use Rattle.rules.specs.Found.{found_at}
use Rattle.rules.specs.Walk.{Finds, known, unknown}
use Rattle.tree.specs.Writing.{rank}

daughters-many : (t : List ℕ) (p : ℕ) → length (rule_at t p).daughters ≡ byte t (p + 3)
unfolding rule_at
daughters-many t p = several-length (byte t) (λ q. q + 1) (bytes.rank_of t p) (p + 4)

module _ {t : List ℕ} {f : ℕ} where
  rank-there : {p : ℕ} → Finds t f (Some p) → bytes.rank_of t p ≡ rank t f
  rank-there {p} (known o e) = sym (ap rank_of e ∙ daughters-many t p)

  rank-none : Finds t f None → 0 ≡ rank t f
  rank-none (unknown e) = sym (ap rank_of e)

  -- the rank that the rule's bytes have, or 0 where there is none
  pub rank-found : (r : Option Found) {n : ℕ} → Finds t f (found_at r) → IfSome r (λ x. x.table.now ≡ t)
      → MatchOption r (n ≡ 0) (λ x. (n ≡ bytes.rank_of x.table.now x.at) × (n < 256)) → n ≡ rank t f
  rank-found (Some x) h e (m, _) = m ∙ ap (λ (l : List ℕ). bytes.rank_of l x.at) e ∙ rank-there h
  rank-found None h e m = m ∙ rank-none h
