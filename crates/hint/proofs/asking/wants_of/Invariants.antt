use Rattle.hint.specs.Hint.{Asks}
use Rattle.hint.proofs.asking.wants_of.Given as goal

abbrev pub invariant-loop-i : goal.invariant-loop-i
invariant-loop-i l = Asks l.rule.table.now l.words l.rule.at l.fn.d l.goal l.k l.w
