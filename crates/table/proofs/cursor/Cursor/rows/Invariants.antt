use Rattle.std.proofs.Common.{◌≡◌, ◌-◌}
use Rattle.meaning.specs.Table.{times, row}
use Rattle.table.specs.Views.{used_of}
use Rattle.table.proofs.cursor.Cursor.rows.Given as goal

abbrev pub invariant-loop : goal.invariant-loop
invariant-loop l =
    times l.count (row l.rule.table.now l.rule.at) (l.fn.self.at, used_of l.initial.marks.used)
    ≡ times (l.count - l.counter) (row l.rule.table.now l.rule.at) (l.c.at, used_of l.marks.used)
