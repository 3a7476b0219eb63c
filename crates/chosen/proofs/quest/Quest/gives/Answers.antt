-- `chosen::Quest::gives` meets its contract: a place that is not as asked leads nowhere.
use Rattle.phrase.specs.Phrase.{fails}
use Rattle.phrase.proofs.Fit.{said-no}
use Rattle.chosen.proofs.Seeking.{looking, on-code, on-seated, on_none}
use native.Mathlib.Omega.{arith}
use Rattle.chosen.proofs.quest.Quest.gives.Goals as goal

pub taken-requires : goal.taken-requires
taken-requires c = (on-code (looking c.args.self.now) c.requires.0).1

pub all_chosen-requires : goal.all_chosen-requires
all_chosen-requires c = rw c.taken.ensures (on-seated (looking c.args.self.now) c.requires.0 3 (omega (arith, c.requires.1)) (omega (arith, c.requires.1)))

pub returns-else-meets : goal.returns-else-meets
returns-else-meets c = rw c.if-meets.false (fails (on_none c.requires.0 (said-no c.meets.ensures c.if-meets.false)))
