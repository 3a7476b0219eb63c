-- `reach::places::next` meets its contract.
use native.Mathlib.Omega.{arith}
use Rattle.reach.proofs.Digits.{is-next}
use Rattle.reach.proofs.places.next.Goals as goal

pub returns : goal.returns
returns c = is-next c.args.a c.args.b (omega arith)
