-- `reach::places::minus` meets its contract.
use Rattle.reach.proofs.Digits.{is-minus}
use Rattle.reach.proofs.places.minus.Goals as goal

pub returns : goal.returns
returns c = is-minus c.args.a c.args.b
