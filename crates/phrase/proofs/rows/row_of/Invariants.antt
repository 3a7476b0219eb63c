use mathlib.Core.Path.{◌≡◌}
use Rattle.meaning.specs.Decode.{past, row_end, rows_of}
use Rattle.phrase.proofs.rows.row_of.Given as goal

abbrev pub invariant-loop : goal.invariant-loop
invariant-loop l = l.at ≡ past l.counter (row_end l.rule.table.now) (rows_of l.rule.table.now l.rule.at)
