-- `search::Task::extend` and `try_code`: their measure, and the walk's invariant: what the items up to here give is entered.
use Prim.Native.Nat.{◌+◌, ◌*◌, ◌-◌}
use lib.ListN.{take}
use Rattle.std.specs.Prelude.{Some as counted}
use Rattle.search.specs.Level.{Filled, Some}
use Rattle.search.specs.Tried.{coded, put, Tried}
use Rattle.search.proofs.task.Task.+extend_try_code.Given as goal

-- how many daughters are not chosen yet: `try_code` has one more to look at than the `extend` that it calls
abbrev pub decreases-extend : goal.decreases-extend
decreases-extend l = 2 * l.left

abbrev pub decreases-try_code : goal.decreases-try_code
decreases-try_code l = 2 * l.left + 1

abbrev pub invariant-extend-loop-i : goal.invariant-extend-loop-i
invariant-extend-loop-i l =
    Filled l.self.known.now l.self.goal.height
    (Some (take l.i l.self.known.now) (λ c. Tried l.self.rule.table.now l.self.words.now l.self.rule.at l.self.goal (put l.d l.k (coded c)) l.self.known.now)) l.initial.fresh l.n l.fresh (counted l.m)

abbrev pub decreases-extend-loop-i : goal.decreases-extend-loop-i
decreases-extend-loop-i l = l.s.hi - l.i
