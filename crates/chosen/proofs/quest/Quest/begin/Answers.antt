-- `chosen::Quest::begin` meets its contract: a rule of another category leads nowhere.
use mathlib.Core.Path.{◌∙◌}
use Rattle.chosen.proofs.Leading.{seated-none}
use Rattle.chosen.proofs.Seeking.{seek-none, other-kind}
use native.Mathlib.Omega.{arith}
use Rattle.chosen.proofs.quest.Quest.begin.Goals as goal

pub look_for-requires : goal.look_for-requires
look_for-requires c = (rw (c.none_of-d.ensures, c.rank.ensures.0) (seated-none _ _ c.args.self.now.rule.of_table), omega arith)

pub returns-else-category-self : goal.returns-else-category-self
returns-else-category-self c =
    let only = rw (c.none_of-d.ensures, c.rank.ensures.0) at c.only.ensures in
    seek-none (seated-none _ _ c.args.self.now.rule.of_table) _ (omega arith) (other-kind (λ e. c.if-category-self.false (c.category.ensures.0 ∙ e))) only
