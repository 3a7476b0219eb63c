use Rattle.reach.proofs.Next.{Gone}
use Rattle.reach.proofs.ranges.words_next.Given as goal

abbrev pub invariant-loop-s : goal.invariant-loop-s
invariant-loop-s l = Gone l.n l.sets l.start l.end l.s l.from
