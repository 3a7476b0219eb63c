use mathlib.Core.Path.{◌≡◌}
use Prim.Native.Nat.{◌+◌, ◌-◌, ◌*◌}
use lib.ListN.{length}
use Rattle.sentence.specs.Speech.{run, spelled, below}
use Rattle.sentence.proofs.Turns.{Still}
use Rattle.sentence.proofs.speech.+say_symbol.Given as goal

-- what falls: twice the levels left, and one more for a symbol
abbrev pub decreases-say : goal.decreases-say
decreases-say l = 2 * l.left

abbrev pub decreases-symbol : goal.decreases-symbol
decreases-symbol l = 2 * l.fewer + 1

-- `say`: what is still to be written of the row from here on
abbrev pub invariant-say-loop-i : goal.invariant-say-loop-i
invariant-say-loop-i l =
    let t = l.nodes.table.now in
    let ns = l.nodes.places.now in
    Still (spelled t ns l.left l.at l.c) l.initial.text l.pos (run t (below t ns (l.left - 1) l.at) (l.i-end - l.i) (l.row + 1 + 3 * l.i)) l.text l.next
    × (length l.text ≡ length l.initial.text)
