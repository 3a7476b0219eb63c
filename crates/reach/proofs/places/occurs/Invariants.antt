use Rattle.reach.proofs.Sets.{Seen}
use Rattle.reach.proofs.places.occurs.Given as goal

abbrev pub invariant-loop-i : goal.invariant-loop-i
invariant-loop-i l = Seen l.words l.w l.i l.set
