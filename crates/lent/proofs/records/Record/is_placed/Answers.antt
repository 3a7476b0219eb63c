-- `lent::records::Record::is_placed` meets its contract: a place that is used is tested by the count, another by 0.
use mathlib.Core.Path.{◌∙◌}
use Rattle.lent.proofs.Judging.{placed_used, placed_unused}
use Rattle.lent.proofs.records.Record.is_placed.Goals as goal

pub returns-then-k-rank : goal.returns-then-k-rank
returns-then-k-rank c = placed_used c.if-k-rank.true (c.from-place.ensures ∙ c.number.ensures)

pub returns-else-k-rank : goal.returns-else-k-rank
returns-else-k-rank c = placed_unused c.if-k-rank.false (c.from-place.ensures ∙ c.number.ensures)
