-- `reach::ranges::set_next` meets its contract: the empty range comes first.
use Rattle.reach.proofs.Next.{next-empty, next-words}
use Rattle.reach.proofs.ranges.set_next.Goals as goal
use Rattle.reach.proofs.ranges.set_next.Goals.{else-from-eq0-via-then-from-eq0+else-sets-n-eq1, else-from-eq0-via-else-from-eq0}

pub returns-then-sets-n-eq1 : goal.returns-then-sets-n-eq1
returns-then-sets-n-eq1 c = next-empty c.args.n c.args.sets.now c.args.from c.if-from-eq0.true c.if-sets-n-eq1.true

pub returns : goal.returns
returns c =
    next-words c.args.n c.args.sets.now c.args.from
    (elim c.else-from-eq0.branch [
      | else-from-eq0-via-then-from-eq0+else-sets-n-eq1 w ↦ (λ z e. w.if-sets-n-eq1.false e)
      | else-from-eq0-via-else-from-eq0 w ↦ (λ z e. w.if-from-eq0.false z)
    ])
    c.words_next.ensures
