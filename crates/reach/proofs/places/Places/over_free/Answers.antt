-- `reach::places::Places::over_free` meets its contract: the ends that are lent from each place, and the place itself where the empty phrase is.
use mathlib.Core.Path.{ap}
use Prim.Native.Nat.{ℕ, ◌*◌, ◌-◌}
use Rattle.phrase.proofs.Fit.{said-yes, said-no}
use Rattle.reach.proofs.ByKind.{free_on, free-empty}
use Rattle.reach.proofs.places.Places.over_free.Goals as goal

pub returns-then-has : goal.returns-then-has
returns-then-has c =
    let a = c.args in
    free-empty a.on.ends.now a.category a.on.start a.self a.on.asked.fair.upward c.requires.0 a.on.early (ap (λ (n : ℕ). n * 64) c.from-c.ensures) (ap (λ (n : ℕ). n - 1) c.from-c.ensures)
    c.union_of.ensures c.lent.ensures c.both-set.ensures c.lent-2.ensures (said-yes c.has.ensures c.if-has.true) c.both.ensures

pub returns : goal.returns
returns c =
    let a = c.args in
    rw c.moved.ensures
    (free_on a.on.ends.now a.category a.on.start a.self a.on.asked.fair.upward c.requires.0 a.on.early (ap (λ (n : ℕ). n * 64) c.from-c.ensures) (ap (λ (n : ℕ). n - 1) c.from-c.ensures)
    c.union_of.ensures c.lent.ensures c.both-set.ensures c.lent-2.ensures (said-no c.has.ensures c.if-has.false))
