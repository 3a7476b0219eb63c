-- `chosen::Quest::onward` meets its contract: a place that is not as asked leads nowhere.
use mathlib.Core.Path.{refl}
use Rattle.phrase.proofs.Fit.{said-no}
use Rattle.chosen.proofs.Seeking.{looking, seek-none, on-code, on-seated, on_none}
use native.Mathlib.Omega.{arith}
use Rattle.chosen.proofs.quest.Quest.onward.Goals as goal

pub taken-d-requires : goal.taken-d-requires
taken-d-requires c = (on-code (looking c.args.self.now) c.requires.0).1

pub look_for-requires : goal.look_for-requires
look_for-requires c = (rw c.taken-d.ensures (on-seated (looking c.args.self.now) c.requires.0 _ refl (omega (arith, c.requires.1))), omega (arith, c.requires.1))

pub returns-else-meets : goal.returns-else-meets
returns-else-meets c =
    let only = rw c.taken-d.ensures at c.only.ensures in
    let none = on_none c.requires.0 (said-no c.meets.ensures c.if-meets.false) in
    seek-none (on-seated (looking c.args.self.now) c.requires.0 _ refl (omega (arith, c.requires.1))) _ (omega (arith, c.requires.1)) none only
