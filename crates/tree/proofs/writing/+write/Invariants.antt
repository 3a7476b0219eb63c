-- The height falls from a record to its daughters; before daughter k the trees of the daughters before it are written after the node.
use Prim.Native.Nat.{◌+◌}
use Rattle.std.specs.Prelude.{Some}
use Rattle.tree.specs.Writing.{height_at, Wrote}
use Rattle.tree.proofs.Trees.{first_trees}
use Rattle.tree.proofs.writing.+write.Given as goal

abbrev pub decreases-write : goal.decreases-write
decreases-write l = height_at l.chart.now.numbers.now l.at

abbrev pub invariant-loop-daughter : goal.invariant-loop-daughter
invariant-loop-daughter l =
    Wrote (first_trees l.chart.table.bytes.now l.chart.numbers.now l.chart.count l.at l.daughter-index) l.initial.out (l.pos + 1) l.out (Some l.next)
