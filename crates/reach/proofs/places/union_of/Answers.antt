-- `reach::places::union_of` meets its contract. The invariant: the set and what is left are the union.
use native.Mathlib.Omega.{arith}
use Rattle.reach.proofs.Sets.{gone-none, gone-zero, gone-end, gone-on}
use Rattle.reach.proofs.places.union_of.Goals as goal

pub loop-p-init : goal.loop-p-init
loop-p-init c = gone-none _ _ _

pub returns-then-rest-eq0 : goal.returns-then-rest-eq0
returns-then-rest-eq0 c = gone-zero _ _ _ c.loop-p.invariant c.if-rest-eq0.true

pub loop-p-preserved : goal.loop-p-preserved
loop-p-preserved c = gone-on _ _ _ c.loop-p.invariant (omega arith) c.lent.ensures c.both-set.ensures

pub returns : goal.returns
returns c = gone-end _ _ _ c.loop-p.invariant (omega arith)
