use native.Mathlib.Omega.{arith}
use mathlib.Core.Path.{◌∙◌}
use Rattle.rules.proofs.RuleThere.{wanted-past, wanted-there}
use Rattle.rules.proofs.rule.Rule.wanted.Goals as goal

pub returns-then-k-rank : goal.returns-then-k-rank
returns-then-k-rank c = let a = c.args.self in
    c.byte_at.ensures.0 ∙ wanted-there a.table.now a.at a.of_table _ (omega (arith, c.rank.ensures.0))

pub returns-else-k-rank : goal.returns-else-k-rank
returns-else-k-rank c = let a = c.args.self in
    wanted-past a.table.now a.at a.of_table _ (omega (arith, c.rank.ensures.0))
