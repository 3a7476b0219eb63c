-- `tree::write_root` meets its contract: what was written from the start of the space is the list, or the space does not hold it.
use mathlib.Core.Path.{refl, ◌∙◌}
use native.Mathlib.Omega.{arith}
use lib.Seq.{length-take-le}
use Rattle.tree.specs.Answers.{outside, inside}
use Rattle.tree.proofs.Judging.{cramped-out, written-out}
use Rattle.tree.proofs.write_root.Goals as goal

pub returns-then-chart-root : goal.returns-then-chart-root
returns-then-chart-root c = outside (omega (arith, c.if-chart-root.true)) refl

pub returns-in_err-nodes : goal.returns-in_err-nodes
returns-in_err-nodes c =
    let size = c.write.auto.out ∙ length-take-le _ _ (omega arith) ∙ c.min.ensures in
    inside (omega (arith, c.if-chart-root.false))
    (cramped-out c.write.ensures size c.from_residual.result c.in_err-nodes.ensures.ok_part c.in_err-nodes.ensures.value c.from_residual.ensures.1)

pub returns : goal.returns
returns c =
    let size = c.write.auto.out ∙ length-take-le _ _ (omega arith) ∙ c.min.ensures in
    inside (omega (arith, c.if-chart-root.false)) (written-out c.write.ensures size c.in_ok-nodes.ensures.ok_part c.copy_from_slice.ensures.after)
