-- `chosen::walk::walk` meets its contract: nothing that was passed gives the item.
use native.Mathlib.Omega.{arith}
use Rattle.phrase.proofs.Fit.{said-yes, said-no}
use Rattle.chosen.specs.Walk as spec
use Rattle.chosen.proofs.Steps.{a_first, b-first, c-first, c-next, b-next, a-next, f-next, works}
use Rattle.chosen.proofs.Standing.{begun, taken-one, taken-two, last, found_nowhere}
use Rattle.chosen.proofs.walk.walk.Goals as goal

pub loop-a-init : goal.loop-a-init
loop-a-init c = let inv = c.walk.invariant in
    let one = begun inv.0 c.walk-test.true c.from.ensures (omega arith) c.begin-la.ensures in
    (one, inv.1, a_first one inv.2 c.first-a.ensures)

pub loop-b-init : goal.loop-b-init
loop-b-init c = let inv = c.loop-a.invariant in
    let two = taken-one inv.0 _ c.loop-a-test.true c.onward-lb.ensures in
    (two, inv.1, b-first two inv.2 c.first-b.ensures)

pub loop-c-init : goal.loop-c-init
loop-c-init c = let inv = c.loop-b.invariant in
    let three = taken-two inv.0 _ c.loop-b-test.true c.onward-lc.ensures in
    (three, inv.1, c-first three inv.2 c.first-c.ensures)

pub loop-c-preserved : goal.loop-c-preserved
loop-c-preserved c = let inv = c.loop-c.invariant in
    let no = said-no c.gives.ensures c.if-gives.false in
    (inv.0, inv.1, c-next inv.0 inv.2 (λ w. no (rw (last inv.0 _) w)) c.next-c.ensures)

pub loop-b-preserved : goal.loop-b-preserved
loop-b-preserved c = let inv = c.loop-c.invariant in
    (inv.0.two, inv.1, b-next inv.0 inv.2 c.loop-c-test.false c.next-b.ensures)

pub loop-a-preserved : goal.loop-a-preserved
loop-a-preserved c = let inv = c.loop-b.invariant in
    (inv.0.one, inv.1, a-next inv.0 inv.2 c.loop-b-test.false c.next-a.ensures)

pub walk-preserved : goal.walk-preserved
walk-preserved c = let inv = c.loop-a.invariant in
    (inv.0.walking, inv.1, f-next inv.0 inv.2 c.loop-a-test.false)

pub returns-after-walk : goal.returns-after-walk
returns-after-walk c = found_nowhere c.walk.invariant.1 c.walk-test.false c.walk.invariant.2

pub returns-then-gives : goal.returns-then-gives
returns-then-gives c = let inv = c.loop-c.invariant in
    let yes = said-yes c.gives.ensures c.if-gives.true in
    spec.found inv.0.two.one.below (works inv.0 c.loop-c-test.true (rw (last inv.0 _) at yes)) inv.2
