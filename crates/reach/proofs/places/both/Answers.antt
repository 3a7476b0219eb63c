-- `reach::places::both` meets its contract.
use Rattle.reach.proofs.Digits.{is-both}
use Rattle.reach.proofs.places.both.Goals as goal

pub returns : goal.returns
returns c = is-both c.args.a c.args.b
