-- `phrase::rows::row_next` meets its contract: a row with nothing in it has one range.
use Rattle.phrase.proofs.Fit.{join-given, empty-next}
use Rattle.phrase.proofs.rows.row_next.Goals as goal

pub returns-in-None : goal.returns-in-None
returns-in-None c = rw (c.in-None.is, c.then_some.ensures, join-given) (empty-next c.args.words.now c.args.d c.args.from)
