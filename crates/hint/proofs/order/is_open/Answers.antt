-- `hint::order::is_open` meets its contract: it is there, and not chosen.
use mathlib.Core.Bool.{Bool, true, false, not}
use native.Mathlib.Omega.{arith}
use Rattle.std.specs.Bool.{MatchBool}
use Rattle.std.proofs.lemmas.Bool.Decides.{nat_tests}
use Rattle.phrase.specs.Phrase.{Decides, holds, fails}
use Rattle.hint.proofs.Segments.{no-is}
use Rattle.hint.proofs.order.is_open.Goals as goal

not-chosen : {P Q : Type 0} (b : Bool) → P → MatchBool b (Q → ⊥) Q → Decides (P × Q) (not b)
not-chosen true p n = fails (λ o. n o.1)
not-chosen false p q = holds (p, q)

pub returns-then-k-d : goal.returns-then-k-d
returns-then-k-d c = not-chosen _ c.if-k-d.true c.is_chosen.ensures

pub returns-else-k-d : goal.returns-else-k-d
returns-else-k-d c = no-is (grind (arith, nat_tests)) (λ o. let l = o.0 in omega arith)
