-- `search::Task::extend` and `try_code` meet their contracts.
use Rattle.phrase.proofs.Fit.{said-no}
use Rattle.search.proofs.Filling.{goes_on, nothing_yet}
use Rattle.search.proofs.Choosing.{tries, some-open, trial, trial_on, trial-last, trial-off, walk_begins, walk_ends, walk-turns, walk-stops, turn-next}
use native.Mathlib.Omega.{arith}
use Rattle.search.proofs.task.Task.+extend_try_code.Goals as goal

pub extend-loop-i-init : goal.extend-loop-i-init
extend-loop-i-init t c =
    let T = turn-next c.turn_of.ensures c.in-Some.is in
    walk_begins (tries c.args.self.now c.requires.trying) _ T.0 T.1 _ c.wants_of-w.ensures _ c.spots_for-s.ensures _ c.first-i.ensures c.requires.ready

pub extend-overflow_sub-left : goal.extend-overflow_sub-left
extend-overflow_sub-left t c =
    let T = turn-next c.turn_of.ensures c.in-Some.is in
    omega (arith, some-open _ _ c.requires.trying.partial.few T.0 T.1, c.requires.trying.fewer)

pub extend-try_code-requires : goal.extend-try_code-requires
extend-try_code-requires t c =
    let T = turn-next c.turn_of.ensures c.in-Some.is in
    let few = some-open _ _ c.requires.trying.partial.few T.0 T.1 in (
      omega (arith, few, c.requires.trying.fewer),
      (
        goes_on c.requires.ready c.loop-i.invariant c.loop-i.auto.fresh,
        trial (tries c.args.self.now c.requires.trying) _ T.0 T.1 _ c.wants_of-w.ensures _ c.spots_for-s.ensures _ _ c.loop-i-test.true (omega (arith, few, c.requires.trying.fewer)),
      ),
    )

pub extend-returns-in_err-m : goal.extend-returns-in_err-m
extend-returns-in_err-m t c =
    let T = turn-next c.turn_of.ensures c.in-Some.is in
    let stops = rw c.in_err-m.was at c.try_code.ensures in
    rw c.from_residual.ensures
    (walk-stops (tries c.args.self.now c.requires.trying) _ T.0 T.1 _ c.wants_of-w.ensures _ c.spots_for-s.ensures _ c.loop-i.invariant c.loop-i-test.true c.loop-i.auto.fresh stops)

pub extend-loop-i-preserved : goal.extend-loop-i-preserved
extend-loop-i-preserved t c =
    let T = turn-next c.turn_of.ensures c.in-Some.is in
    let goes = rw c.in_ok-m.was at c.try_code.ensures in
    walk-turns (tries c.args.self.now c.requires.trying) _ T.0 T.1 _ c.wants_of-w.ensures _ c.spots_for-s.ensures _ c.loop-i.invariant c.loop-i-test.true c.loop-i.auto.fresh goes _ c.next-i.ensures

pub extend-returns : goal.extend-returns
extend-returns t c =
    let T = turn-next c.turn_of.ensures c.in-Some.is in
    walk_ends (tries c.args.self.now c.requires.trying) _ T.0 T.1 _ c.wants_of-w.ensures _ c.spots_for-s.ensures _ c.loop-i.invariant c.loop-i-test.false

pub try_code-returns-then-not-meets : goal.try_code-returns-then-not-meets
try_code-returns-then-not-meets t c = nothing_yet c.requires.ready (trial-off c.args.self.now c.requires.trial (said-no c.meets.ensures c.if-not-meets.true))

pub try_code-offer-requires-clause-trying : goal.try_code-offer-requires-clause-trying
try_code-offer-requires-clause-trying t c = rw (c.with-e.ensures, c.unpack.ensures) (trial-last c.args.self.now c.requires.trial c.if-left-eq0.true)

pub try_code-extend-requires : goal.try_code-extend-requires
try_code-extend-requires t c = (omega arith, (c.requires.ready, rw (c.with-e.ensures, c.unpack.ensures) (trial_on c.args.self.now c.requires.trial)))
