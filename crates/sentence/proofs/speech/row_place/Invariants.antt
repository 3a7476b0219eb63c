use mathlib.Core.Path.{◌≡◌}
use Prim.Native.Nat.{◌+◌, ◌-◌, ◌≤◌}
use lib.ListN.{length}
use Rattle.meaning.specs.Decode.{past, row_end}
use Rattle.sentence.specs.Speech.{row_place}
use Rattle.sentence.proofs.speech.row_place.Given as goal

abbrev pub invariant-loop : goal.invariant-loop
invariant-loop l = (row_place l.table l.rule l.c ≡ past (l.c - l.counter) (row_end l.table) l.at) × (l.at + (l.c - l.counter) ≤ length l.table + 800 + l.c)
