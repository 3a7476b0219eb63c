-- `phrase::giving::kind_fits` meets its contract: it compares the two numbers.
use Rattle.std.proofs.Common.{eq-eqb}
use Rattle.std.proofs.lemmas.Bool.{eqb-true}
use Rattle.phrase.proofs.Fit.{decided}
use Rattle.phrase.proofs.giving.kind_fits.Goals as goal

pub returns : goal.returns
returns c = rw (← c.kind_at.ensures, ← c.wanted.ensures) (decided _ (eq-eqb _ _) (eqb-true _ _))
