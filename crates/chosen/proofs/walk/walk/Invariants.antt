use mathlib.Core.Path.{◌≡◌}
use Prim.Native.Nat.{◌-◌}
use Rattle.std.specs.Prelude.{None}
use Rattle.chosen.specs.Walk.{Passed, Walking}
use Rattle.chosen.proofs.Steps.{One, Two, Three}
use Rattle.chosen.proofs.walk.walk.Given as goal

abbrev pub invariant-loop-c : goal.invariant-loop-c
invariant-loop-c l =
    Three l.table.bytes.now l.words l.order l.known l.goal l.f l.quest.rule.at l.la l.a l.lb l.b l.lc
    × (l.found ≡ None) × Passed l.table.bytes.now l.words l.order l.known l.goal l.f l.a l.b l.c

abbrev pub decreases-loop-c : goal.decreases-loop-c
decreases-loop-c l = l.lc.spots.hi - l.c

abbrev pub invariant-loop-b : goal.invariant-loop-b
invariant-loop-b l = Two l.table.bytes.now l.words l.order l.known l.goal l.f l.quest.rule.at l.la l.a l.lb × (l.found ≡ None) × Passed l.table.bytes.now l.words l.order l.known l.goal l.f l.a l.b 0

abbrev pub decreases-loop-b : goal.decreases-loop-b
decreases-loop-b l = l.lb.spots.hi - l.b

abbrev pub invariant-loop-a : goal.invariant-loop-a
invariant-loop-a l = One l.table.bytes.now l.words l.order l.known l.goal l.f l.quest.rule.at l.la × (l.found ≡ None) × Passed l.table.bytes.now l.words l.order l.known l.goal l.f l.a 0 0

abbrev pub decreases-loop-a : goal.decreases-loop-a
decreases-loop-a l = l.la.spots.hi - l.a

abbrev pub invariant-walk : goal.invariant-walk
invariant-walk l = Walking l.table.bytes.now l.words l.order l.known l.goal × (l.found ≡ None) × Passed l.table.bytes.now l.words l.order l.known l.goal l.f 0 0 0
