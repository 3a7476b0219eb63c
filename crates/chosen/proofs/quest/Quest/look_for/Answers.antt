-- `chosen::Quest::look_for` meets its contract: the spots are those of what is asked.
use mathlib.Core.Path.{refl}
use Rattle.chosen.proofs.Seeking.{looking, seek-there}
use native.Mathlib.Omega.{arith}
use Rattle.chosen.proofs.quest.Quest.look_for.Goals as goal

pub returns : goal.returns
returns c = seek-there c.requires.0 _ refl refl (looking c.args.self.now) (omega (arith, c.if-d-k.false)) c.wants_of-wants.ensures c.spots_for.ensures
