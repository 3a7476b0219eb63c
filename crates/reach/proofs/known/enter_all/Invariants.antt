use Rattle.reach.specs.Mirror.{Entered}
use Rattle.reach.proofs.Entering.{Among}
use Rattle.reach.proofs.known.enter_all.Given as goal

abbrev pub invariant-loop-c : goal.invariant-loop-c
invariant-loop-c l = Entered (Among l.codes l.c-index) l.initial.ends l.ends
