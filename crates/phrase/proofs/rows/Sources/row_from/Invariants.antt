use Prim.Native.Nat.{◌+◌, ◌-◌, ◌*◌}
use mathlib.Core.Path.{◌≡◌}
use Rattle.meaning.specs.Range.{none}
use Rattle.meaning.specs.Table.{byte}
use Rattle.meaning.specs.Decode.{row_at}
use Rattle.phrase.specs.Row.{eval}
use Rattle.phrase.specs.Phrase.{range_of, held_of}
use Rattle.phrase.proofs.Turns.{left_of}
use Rattle.phrase.proofs.rows.Sources.row_from.Given as goal

abbrev pub invariant-loop-i : goal.invariant-loop-i
invariant-loop-i l = let t = l.row.table.now in
    eval l.self.words.now (held_of l.self.chosen) l.start (range_of l.a) (left_of t (byte t l.row.at - l.i) (l.row.at + 1 + 3 * l.i))
    ≡ eval l.self.words.now (held_of l.self.chosen) l.start none (row_at t l.row.at)
