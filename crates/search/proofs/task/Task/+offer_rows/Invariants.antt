-- `search::Task::offer_rows`: row by row, what the ranges so far give is entered.
use Prim.Native.Nat.{◌+◌, ◌-◌, ◌≤◌}
use Rattle.std.specs.Prelude.{Some}
use Rattle.phrase.specs.Phrase.{row_of}
use Rattle.search.specs.Level.{Filled}
use Rattle.search.specs.Tried.{Ranges, then_range}
use Rattle.search.proofs.Offers.{Passed}
use Rattle.search.proofs.task.Task.+offer_rows.Given as goal

abbrev pub decreases-offer_rows : goal.decreases-offer_rows
decreases-offer_rows l = 3 - l.i

abbrev pub invariant-loop-r : goal.invariant-loop-r
invariant-loop-r l =
    (l.from ≤ 65) × Filled l.self.known.now l.self.goal.height (Passed l.self.words.now l.d (row_of l.self.rule.table.now l.self.rule.at l.i)
    (λ r. Ranges l.self.rule.table.now l.self.words.now l.self.rule.at l.d (3 - (l.i + 1)) (then_range l.key r)) l.from) l.initial.fresh l.n l.fresh (Some l.m)

abbrev pub decreases-loop-r : goal.decreases-loop-r
decreases-loop-r l = 65 - l.from
