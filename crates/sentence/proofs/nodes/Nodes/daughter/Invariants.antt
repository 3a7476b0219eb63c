use mathlib.Core.Path.{◌≡◌}
use Prim.Native.Nat.{◌+◌, ◌*◌, ◌≤◌, max}
use lib.ListN.{length, drop}
use Rattle.sentence.specs.Nodes as spec
use Rattle.sentence.specs.Nodes.{taken}
use Rattle.sentence.proofs.nodes.Nodes.daughter.Given as goal

abbrev pub invariant-loop-place : goal.invariant-loop-place
invariant-loop-place l =
    let t = l.self.table.now in
    let ns = l.self.places.now in
    (spec.daughter t ns l.at l.k ≡ l.place + taken t (drop l.place ns) l.left) × (l.left ≤ l.k + 256 * l.place) × (l.place ≤ max (length ns) (l.at + 1)) × (l.at + 1 ≤ l.place)
