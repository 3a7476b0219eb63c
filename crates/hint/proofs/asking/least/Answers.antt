-- `hint::asking::least` meets its contract: where no daughter stands against it, all three are low.
use mathlib.Core.Logic.{inr}
use mathlib.Core.Path.{refl}
use Rattle.std.proofs.Common.{rules}
use Rattle.std.proofs.lemmas.Bool.Decides.{when_true}
use Rattle.std.proofs.lemmas.Iterator.{cases_from_all, YieldsList-from_range}
use Rattle.hint.specs.State.{Low}
use Rattle.hint.proofs.Heights.{three-low}
use Rattle.hint.proofs.asking.least.Goals as goal

pub returns-then-all : goal.returns-then-all
returns-then-all c =
    let a = c.args in
    let lows = cases_from_all _ _ _ (Low a.d a.k a.high) (λ _. Unit {0}) c.all.ensures.ran (YieldsList-from_range 0 3 3 (cc) refl) (λ x q k. search rules) (λ x q k. tt) in
    inr (refl, three-low a.d a.k a.high c.requires (when_true _ _ c.if-all.true lows))
