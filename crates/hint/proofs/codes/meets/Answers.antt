-- `hint::codes::meets` meets its contract: the height's two tests, then the parts'.
use mathlib.Core.Path.{◌∙◌}
use native.Mathlib.Omega.{arith}
use Rattle.std.proofs.lemmas.Bool.Decides.{nat_tests}
use Rattle.phrase.proofs.Fit.{instead}
use Rattle.hint.proofs.Segments.{no-is}
use Rattle.hint.proofs.codes.meets.Goals as goal
use Rattle.hint.proofs.codes.meets.Goals.{then-w-height, else-w-height}

pub returns-then-height-w : goal.returns-then-height-w
returns-then-height-w c =
    instead
    (λ p. record { low = omega (arith, c.if-height-w.true.0); high = omega (arith, c.if-height-w.true.1); one = p.one; two = p.two; three = p.three })
    (λ m. record { one = m.one; two = m.two; three = m.three })
    c.parts_meet.ensures

pub returns-else-height-w : goal.returns-else-height-w
returns-else-height-w c =
    elim c.if-w-height.branch [
      | then-w-height w ↦ no-is (w.t-5-is ∙ grind (arith, nat_tests)) (λ m. let l = m.high in omega arith)
      | else-w-height w ↦ no-is (w.t-5-is ∙ grind (arith, nat_tests)) (λ m. let l = m.low in omega arith)
    ]
