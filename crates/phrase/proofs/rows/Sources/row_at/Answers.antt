-- `phrase::rows::Sources::row_at` meets its contract: a range of the row that starts here is what the row makes from here.
use Rattle.meaning.specs.Decode.{row_at}
use Rattle.phrase.proofs.Fit.{join-given, made-at}
use Rattle.phrase.proofs.rows.Sources.row_at.Goals as goal

pub returns-in_err-p : goal.returns-in_err-p
returns-in_err-p c = let a = c.args in let f = c.from_residual.ensures in
    rw f (made-at a.self.words.now a.self.chosen (row_at a.row.table.now a.row.at) a.start _ c.in_err-p.ensures)

pub returns : goal.returns
returns c = let a = c.args in
    rw (c.then_some.ensures, join-given) (made-at a.self.words.now a.self.chosen (row_at a.row.table.now a.row.at) a.start _ c.in_ok-p.ensures)
