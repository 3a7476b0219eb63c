use Prim.Native.Nat.{◌-◌}
use Rattle.meaning.specs.Table.{byte}
use Rattle.hint.proofs.Sharpening.{PassFrom}
use Rattle.hint.proofs.steps.Asking.walk.Given as goal

abbrev pub invariant-loop-i : goal.invariant-loop-i
invariant-loop-i l = PassFrom l.side l.row.table.now l.self.words.now l.row.at l.self.chosen l.self.turn l.initial.here l.initial.r (byte l.row.table.now l.row.at - l.i) l.here l.r
