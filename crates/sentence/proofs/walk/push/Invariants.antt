use mathlib.Core.Path.{◌≡◌}
use Prim.Native.Nat.{◌+◌, ◌-◌}
use lib.ListN.{length}
use Rattle.meaning.specs.Table.{rank_of}
use Rattle.sentence.proofs.Walks.{Stack}
use Rattle.sentence.proofs.walk.push.Given as goal

abbrev pub invariant-loop-k : goal.invariant-loop-k
invariant-loop-k l = (Stack l.table l.rule (rank_of l.table l.rule) l.wanted l.initial.stack ≡ Stack l.table l.rule (l.rank - l.k) (l.wanted + l.k) l.stack)
    × (l.rank ≡ rank_of l.table l.rule)
    × (length l.stack ≡ length l.initial.stack)
