use Rattle.std.proofs.Common.{◌≡◌, ◌-◌, [], length}
use Rattle.meaning.specs.Table.{times, rule}
use Rattle.table.specs.Views.{firsts}
use Rattle.table.proofs.cursor.Cursor.rules.Given as goal

abbrev pub invariant-loop-n : goal.invariant-loop-n
invariant-loop-n l = record {
  left : times l.count (rule l.table.bytes.now) (l.fn.self.at, []) ≡ times (l.count - l.n) (rule l.table.bytes.now) (l.c.at, firsts l.n l.seen);
  room : length l.seen ≡ 256;
}
