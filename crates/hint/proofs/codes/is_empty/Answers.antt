-- `hint::codes::is_empty` meets its contract: a range is the empty one by both its numbers.
use mathlib.Core.Path.{ap}
use Rattle.std.proofs.Common.{eq-eqb}
use Rattle.std.proofs.lemmas.Bool.{eqb-true}
use Rattle.meaning.specs.Range.{Range, none}
use Rattle.meaning.proofs.Joining.{range-path}
use Rattle.phrase.proofs.Fit.{decided}
use Rattle.hint.proofs.codes.is_empty.Goals as goal

pub returns-then-from-eq0 : goal.returns-then-from-eq0
returns-then-from-eq0 c = decided _ (λ e. eq-eqb _ _ (ap (λ (r : Range). r.to) e)) (λ e. range-path {q = none} c.if-from-eq0.true (eqb-true _ _ e))

pub returns-else-from-eq0 : goal.returns-else-from-eq0
returns-else-from-eq0 c = decided _ (λ e. absurd (c.if-from-eq0.false (ap (λ (r : Range). r.from) e))) (λ e. absurd (c.if-from-eq0.false (eqb-true _ _ e)))
