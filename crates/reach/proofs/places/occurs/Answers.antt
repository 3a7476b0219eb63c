-- `reach::places::occurs` meets its contract. The invariant: the set has the places that are seen.
use native.Mathlib.Omega.{arith}
use Rattle.reach.proofs.Sets.{seen_none, seen-word, seen-other, seen_all}
use Rattle.reach.proofs.places.occurs.Goals.{then-word-w, else-word-w}
use Rattle.reach.proofs.places.occurs.Goals as goal

pub loop-i-init : goal.loop-i-init
loop-i-init c = seen_none _ _

pub loop-i-preserved : goal.loop-i-preserved
loop-i-preserved c = elim c.if-word-w.branch [
  | then-word-w b ↦ rw b.set-is (seen-word _ _ c.loop-i-test.true c.loop-i.invariant b.if-word-w.true b.only.ensures b.both-set.ensures)
  | else-word-w b ↦ rw b.set-is (seen-other _ _ c.loop-i-test.true c.loop-i.invariant b.if-word-w.false)
]

pub returns : goal.returns
returns c = seen_all _ _ (omega arith) c.loop-i.invariant
