use Rattle.std.proofs.Common.{◌≡◌, ◌-◌}
use Rattle.meaning.specs.Table.{times, dimension}
use Rattle.table.proofs.cursor.Cursor.dimensions.Given as goal

abbrev pub invariant-loop : goal.invariant-loop
invariant-loop l = times l.count (dimension l.table) l.fn.self.at ≡ times (l.count - l.counter) (dimension l.table) l.c.at
