-- `reach::places::after` meets its contract.
use Rattle.reach.proofs.ByKind.{after_none}
use Rattle.reach.proofs.places.after.Goals as goal

pub returns-then-set-eq0 : goal.returns-then-set-eq0
returns-then-set-eq0 c = after_none _ _ c.if-set-eq0.true
