use mathlib.Core.Path.{◌≡◌}
use Prim.Native.Nat.{◌+◌, ◌*◌, ◌≤◌}
use lib.ListN.{length}
use Rattle.sentence.specs.Nodes.{walked}
use Rattle.sentence.proofs.Walks.{Here}
use Rattle.sentence.proofs.walk.first_wrong.Given as goal

abbrev pub invariant-loop-i : goal.invariant-loop-i
invariant-loop-i l =
    let t = l.nodes.table.now in
    let ns = l.nodes.places.now in
    (walked t ns ≡ Here t ns l.i l.wanted l.stack) × (l.wanted ≤ 1 + 2 * l.i) × (length l.stack ≡ 512)
