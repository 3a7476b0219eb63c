-- `hint::codes::part_meets` meets its contract: an empty part, or its start and then its end.
use mathlib.Core.Logic.{inl, inr}
use Rattle.phrase.specs.Phrase.{holds}
use Rattle.phrase.proofs.Fit.{said-yes, said-no, instead}
use Rattle.hint.proofs.Segments.{at_ends, no-is}
use Rattle.hint.proofs.codes.part_meets.Goals as goal

pub returns-then-is_empty : goal.returns-then-is_empty
returns-then-is_empty c = rw c.if-is_empty.true (holds (inl (said-yes c.is_empty.ensures c.if-is_empty.true)))

pub returns-then-is_as : goal.returns-then-is_as
returns-then-is_as c =
    instead
    (λ t. inr (said-yes c.is_as.ensures c.if-is_as.true, t))
    (λ m. (at_ends _ _ (said-no c.is_empty.ensures c.if-is_empty.false) m).1)
    c.is_as-then-is_as.ensures

pub returns-else-is_as : goal.returns-else-is_as
returns-else-is_as c =
    no-is c.if-is_as.false (λ m. said-no c.is_as.ensures c.if-is_as.false (at_ends _ _ (said-no c.is_empty.ensures c.if-is_empty.false) m).0)
