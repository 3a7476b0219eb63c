use mathlib.Core.Path.{◌≡◌}
use mathlib.Core.List.{map}
use lib.ListN.{length, take}
use Rattle.sentence.specs.Nodes.{place_for}
use Rattle.sentence.proofs.nodes.note.Given as goal

abbrev pub invariant-loop-i : goal.invariant-loop-i
invariant-loop-i l =
    (length l.places ≡ length l.list) × (take l.i l.places ≡ map (place_for l.table.bytes.now) (take l.i l.list))
