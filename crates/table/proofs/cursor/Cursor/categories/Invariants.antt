use Rattle.std.proofs.Common.{◌≡◌, ◌-◌}
use Rattle.meaning.specs.Table.{times, category}
use Rattle.table.proofs.cursor.Cursor.categories.Given as goal

abbrev pub invariant-loop : goal.invariant-loop
invariant-loop l = times l.count (category l.table) l.fn.self.at ≡ times (l.count - l.counter) (category l.table) l.c.at
