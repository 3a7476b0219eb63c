-- `sentence::sentence` meets its contract: the table's refusal, or what `spoken` answers. Assumes nothing.
use Rattle.sentence.proofs.Told.{table-refused}
use Rattle.sentence.proofs.sentence.Goals as goal

pub returns-in_err-check_table : goal.returns-in_err-check_table
returns-in_err-check_table c = let a = c.args in
    table-refused a.table.now a.list.now a.text.now c.from_residual.result c.from_residual.ensures.1 c.in_err-check_table.ensures
