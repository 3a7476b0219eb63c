-- `reach::places::has` meets its contract: the digit is tested.
use mathlib.Core.Path.{sym, ◌∙◌}
use Rattle.std.proofs.Common.{eq-eqb}
use Rattle.std.proofs.lemmas.Bool.{eqb-true}
use Rattle.phrase.proofs.Fit.{decided}
use Rattle.reach.proofs.Digits.{digit-shr}
use Rattle.reach.proofs.places.has.Goals as goal

pub returns : goal.returns
returns c =
    let a = c.args in
    decided _ (λ b. eq-eqb _ _ (digit-shr a.set a.i ∙ b.set)) (λ e. record { set = sym (digit-shr a.set a.i) ∙ eqb-true _ _ e })
