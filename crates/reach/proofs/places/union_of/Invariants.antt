use Rattle.reach.proofs.Sets.{Gone}
use Rattle.reach.proofs.places.union_of.Given as goal

abbrev pub invariant-loop-p : goal.invariant-loop-p
invariant-loop-p l = Gone l.ends l.base l.from l.set l.rest l.p
