-- `reach::places::lent` meets its contract.
use Rattle.reach.proofs.Sets.{lent-not}
use Rattle.reach.proofs.places.lent.Goals as goal

pub returns-else-asked : goal.returns-else-asked
returns-else-asked c = lent-not c.args.sets.now c.args.at c.args.asked c.if-asked.false
