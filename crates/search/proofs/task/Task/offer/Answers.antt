use Rattle.phrase.proofs.Fit.{said-yes, said-no}
use Rattle.search.proofs.Filling.{nothing_yet, same}
use Rattle.search.proofs.Choosing.{tries, all-chosen-at, rule-kind}
use Rattle.search.proofs.Offers.{tried-high, tried-kinds, tried-offered, offered-tried, ranges-offered, offered-ranges}
use native.Mathlib.Omega.{arith}
use Rattle.search.proofs.task.Task.offer.Goals as goal
use Rattle.search.proofs.task.Task.offer.Goals.{else-top-self-via-then-top-self+else-kinds, else-top-self-via-else-top-self}

pub offer_rows-requires-clause-begins : goal.offer_rows-requires-clause-begins
offer_rows-requires-clause-begins c = (omega arith, omega (arith, c.from.ensures, c.category.ensures, rule-kind _ _ c.args.self.now.rule.of_table))

pub returns-then-kinds : goal.returns-then-kinds
returns-then-kinds c =
    let task = c.args.self.now in
    let T = tries task c.requires.trying in
    let all = all-chosen-at c.requires.trying in
    same (rw (c.from.ensures, c.category.ensures.0) at c.offer_rows.ensures)
    (λ x w. offered-tried T all (omega (arith, task.low, c.top.ensures, c.if-top-self.true)) (said-yes c.kinds.ensures c.if-kinds.true) x (ranges-offered task.rule.of_table task.short x w))
    (λ x w. offered-ranges task.rule.of_table task.short x (tried-offered T all x w))

pub returns : goal.returns
returns c =
    let T = tries c.args.self.now c.requires.trying in
    let all = all-chosen-at c.requires.trying in
    elim c.else-top-self.branch [
      | else-top-self-via-then-top-self+else-kinds w ↦ nothing_yet c.requires.ready (λ x v. said-no w.kinds.ensures w.if-kinds.false (tried-kinds T all x v))
      | else-top-self-via-else-top-self w ↦ nothing_yet c.requires.ready (λ x v. absurd (w.if-top-self.false (omega (arith, tried-high T all x v, c.top.ensures))))
    ]
