use native.Mathlib.Omega.{arith}
use Rattle.rules.proofs.RuleThere.{head_in}
use Rattle.rules.proofs.rule.Rule.rank.Goals as goal

pub overflow_add-self : goal.overflow_add-self
overflow_add-self c = let a = c.args.self in omega (arith, head_in a.table.now a.at a.of_table)
