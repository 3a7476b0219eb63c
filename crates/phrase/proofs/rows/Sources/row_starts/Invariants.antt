use Prim.Native.Nat.{◌+◌, ◌-◌, ◌*◌, ◌≤◌}
use mathlib.Core.Path.{◌≡◌}
use Rattle.meaning.specs.Table.{byte}
use Rattle.meaning.specs.Decode.{row_at}
use Rattle.phrase.specs.Row.{starts}
use Rattle.phrase.specs.Phrase.{held_of}
use Rattle.phrase.proofs.Turns.{left_of}
use Rattle.phrase.proofs.rows.Sources.row_starts.Given as goal

abbrev pub invariant-loop-i : goal.invariant-loop-i
invariant-loop-i l = let t = l.row.table.now in
    (l.count ≤ l.i)
    × (starts l.self.words.now (held_of l.self.chosen) l.count (left_of t (byte t l.row.at - l.i) (l.row.at + 1 + 3 * l.i)) ≡ starts l.self.words.now (held_of l.self.chosen) 0 (row_at t l.row.at))
