-- `reach::places::Places::may_be` meets its contract: it is at the start, or at one of the ends.
use mathlib.Core.Path.{ap, ◌∙◌}
use mathlib.Core.Bool.{not}
use Rattle.std.proofs.Common.{eq-eqb}
use Rattle.phrase.specs.Phrase.{holds, fails}
use Rattle.phrase.proofs.Fit.{instead}
use Rattle.reach.proofs.Sets.{true-not}
use Rattle.reach.proofs.ByKind.{may-start, may-pass, may-end, may-not-zero, not-started}
use Rattle.reach.proofs.places.Places.may_be.Goals as goal
use Rattle.reach.proofs.places.Places.may_be.Goals.{then-self, else-self}

pub returns-then-at-start : goal.returns-then-at-start
returns-then-at-start c =
    let a = c.args in
    elim c.if-self.branch [
      | then-self w ↦ rw (w.t-5-is ∙ eq-eqb _ _ c.if-at-start.true.1) (holds (may-start a.self a.start a.at c.if-at-start.true))
      | else-self w ↦ true-not _ c.if-at-start.true.0 w.if-self.false
    ]

pub returns-then-at-ne0 : goal.returns-then-at-ne0
returns-then-at-ne0 c =
    let a = c.args in
    instead (may-pass a.self a.start a.at c.if-at-ne0.true) (may-end a.self a.start a.at (not-started a.self a.start a.at c.if-at-start.either)) c.has.ensures

pub returns-else-at-ne0 : goal.returns-else-at-ne0
returns-else-at-ne0 c =
    let a = c.args in
    rw (ap not (eq-eqb _ _ c.if-at-ne0.false)) (fails (may-not-zero a.self a.start a.at (not-started a.self a.start a.at c.if-at-start.either) c.if-at-ne0.false))
