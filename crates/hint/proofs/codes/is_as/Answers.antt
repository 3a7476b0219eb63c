-- `hint::codes::is_as` meets its contract: one answer for each place.
use Rattle.std.proofs.Common.{eq-eqb}
use Rattle.std.proofs.lemmas.Bool.{eqb-true}
use Rattle.phrase.specs.Phrase.{holds, fails}
use Rattle.phrase.proofs.Fit.{decided}
use Rattle.hint.proofs.codes.is_as.Goals as goal

pub returns-in-Any : goal.returns-in-Any
returns-in-Any c = rw c.in-Any.is (holds tt)

pub returns-in-At : goal.returns-in-At
returns-in-At c = rw c.in-At.is (decided _ (eq-eqb _ _) (eqb-true _ _))

pub returns-in-Nowhere : goal.returns-in-Nowhere
returns-in-Nowhere c = rw c.in-Nowhere.is (fails (λ a. a))
