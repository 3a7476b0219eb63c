use Prim.Native.Nat.{◌≤◌}
use Rattle.meaning.specs.Decode.{row_at}
use Rattle.phrase.specs.Phrase.{Has}
use Rattle.phrase.proofs.Fit.{NoneUpTo}
use Rattle.phrase.proofs.rows.Sources.place_next.Given as goal

abbrev pub invariant-loop-start : goal.invariant-loop-start
invariant-loop-start l = (l.from ≤ l.start) × NoneUpTo (Has l.self.words.now l.self.chosen (row_at l.row.table.now l.row.at)) l.from l.start
