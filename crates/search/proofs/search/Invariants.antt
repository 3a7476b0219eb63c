use Prim.Native.Nat.{◌-◌}
use Rattle.search.specs.Search.{Begun}
use Rattle.search.specs.Keys.{KeyMade}
use Rattle.search.proofs.search.Given as goal

abbrev pub invariant-loop-m : goal.invariant-loop-m
invariant-loop-m l = Begun (KeyMade l.table.bytes.now l.words) l.room l.h l.k l.known l.fresh

abbrev pub decreases-loop-m : goal.decreases-loop-m
decreases-loop-m l = l.room - l.k
