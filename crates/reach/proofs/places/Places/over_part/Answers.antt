-- `reach::places::Places::over_part` meets its contract: an empty range changes nothing, and another must start where the row may be.
use native.Mathlib.Omega.{arith}
use Rattle.phrase.specs.Phrase.{range_of}
use Rattle.phrase.proofs.Fit.{said-yes, said-no}
use Rattle.reach.proofs.ByKind.{range-is, range-not, small-from, small-to, last_of, part_no, part-empty, part-there, part-away, none_of}
use Rattle.reach.proofs.places.Places.over_part.Goals as goal

pub returns-then-not-is_range : goal.returns-then-not-is_range
returns-then-not-is_range c =
    let a = c.args in
    rw c.moved.ensures (part_no a.on.words.now (range_of a.q) a.on.start a.self (range-not a.on.words.now (range_of a.q) c.is_range.ensures c.if-not-is_range.true))

pub returns-then-q-eq0 : goal.returns-then-q-eq0
returns-then-q-eq0 c =
    let a = c.args in
    part-empty a.on.words.now (range_of a.q) a.on.start a.self
    (none_of a.on.words.now (range_of a.q) (range-is a.on.words.now (range_of a.q) c.is_range.ensures c.if-not-is_range.false) c.if-q-eq0.true)

pub may_be-requires : goal.may_be-requires
may_be-requires c =
    let a = c.args in
    small-from a.on.words.now (range_of a.q) (range-is a.on.words.now (range_of a.q) c.is_range.ensures c.if-not-is_range.false) a.on.asked.fair.short

pub only-requires : goal.only-requires
only-requires c =
    let a = c.args in
    let h = small-to a.on.words.now (range_of a.q) (range-is a.on.words.now (range_of a.q) c.is_range.ensures c.if-not-is_range.false) a.on.asked.fair.short in
    omega (arith, h, c.if-q-eq0.false)

pub returns-then-may_be : goal.returns-then-may_be
returns-then-may_be c =
    let a = c.args in
    rw c.moved-then-may_be.ensures
    (part-there a.on.words.now (range_of a.q) a.on.start a.self (range-is a.on.words.now (range_of a.q) c.is_range.ensures c.if-not-is_range.false) _
    (last_of _ c.if-q-eq0.false) (said-yes c.may_be.ensures c.if-may_be.true) c.only.ensures)

pub returns : goal.returns
returns c =
    let a = c.args in
    rw c.moved-2.ensures
    (part-away a.on.words.now (range_of a.q) a.on.start a.self (range-is a.on.words.now (range_of a.q) c.is_range.ensures c.if-not-is_range.false) _
    (last_of _ c.if-q-eq0.false) (said-no c.may_be.ensures c.if-may_be.false))
