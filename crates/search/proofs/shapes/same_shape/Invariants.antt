use Rattle.search.proofs.Likeness.{SameTo}
use Rattle.search.proofs.shapes.same_shape.Given as goal

abbrev pub invariant-loop-k : goal.invariant-loop-k
invariant-loop-k l = SameTo l.a.table.now l.a.at l.b.at l.k
