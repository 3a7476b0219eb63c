-- `reach::places::only` meets its contract.
use Rattle.reach.proofs.Digits.{is-single}
use Rattle.reach.proofs.places.only.Goals as goal

pub returns : goal.returns
returns c = is-single c.args.i c.requires
