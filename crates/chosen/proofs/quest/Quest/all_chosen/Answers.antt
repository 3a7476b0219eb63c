use borrow.Author.Tests.{ne_eqb}
use Rattle.phrase.specs.Phrase.{fails}
use Rattle.phrase.proofs.Fit.{instead}
use Rattle.chosen.proofs.Leading.{leads-high, leads-gives, gives-leads}
use native.Mathlib.Omega.{arith}
use Rattle.chosen.proofs.quest.Quest.all_chosen.Goals as goal

pub returns-then-top-self : goal.returns-then-top-self
returns-then-top-self c =
    instead
    (gives-leads c.requires (omega (arith, c.args.self.now.high, c.top.ensures, c.if-top-self.true)))
    (leads-gives c.requires)
    c.fits.ensures

pub returns-else-top-self : goal.returns-else-top-self
returns-else-top-self c = rw (ne_eqb c.top.result _ c.if-top-self.false) (fails (λ w. c.if-top-self.false (omega (arith, leads-high c.requires w, c.top.ensures))))
