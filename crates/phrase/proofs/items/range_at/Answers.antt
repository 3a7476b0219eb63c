-- `phrase::items::range_at` meets its contract: the ends of range i stand from number 2 * i on.
use Rattle.phrase.proofs.Values.{range-there}
use Rattle.phrase.proofs.items.range_at.Goals as goal

pub returns-then-i-lt3 : goal.returns-then-i-lt3
returns-then-i-lt3 c = (range-there c.args.x c.args.i c.if-i-lt3.true c.ends_of.ensures.0 c.ends_of.ensures.1, c.ends_of.ensures.2)
