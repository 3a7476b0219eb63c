-- `search::Task::offer_rows` meets its contract: a key that has its three ranges is entered, and else each range of the next row goes on with it.
use mathlib.Core.Path.{sym}
use Rattle.search.proofs.Filling.{goes_on, is_all}
use Rattle.search.proofs.Offers.{row-begins, row_ends, row-turns, row-stops, next-none, next-some, next-has, ranges-on, ranges-all, room-on, room-now}
use native.Mathlib.Omega.{arith}
use Rattle.search.proofs.task.Task.+offer_rows.Goals as goal

pub returns-then-i-eq3 : goal.returns-then-i-eq3
returns-then-i-eq3 t c = is_all (ranges-all _ _ _ _ _ _ c.if-i-eq3.true) c.enter.ensures

pub loop-r-init : goal.loop-r-init
loop-r-init t c = (omega arith, row-begins _ _ _ _ c.requires.ready)

pub then_range-requires : goal.then_range-requires
then_range-requires t c =
    let h = next-has _ c.args.d c.row_of-row.ensures.row c.row_next.ensures c.in-Some.is c.args.self.now.short in
    (room-now c.args.i c.args.key (omega arith) c.requires.begins.1, h.1)

pub offer_rows-requires : goal.offer_rows-requires
offer_rows-requires t c =
    let h = next-has _ c.args.d c.row_of-row.ensures.row c.row_next.ensures c.in-Some.is c.args.self.now.short in
    let room = room-on c.args.i c.args.key _ (omega arith) c.requires.begins.1 h.1 in
    (omega arith, (goes_on c.requires.ready c.loop-r.invariant.1 c.loop-r.auto.fresh, (omega arith, rw c.then_range.ensures room)))

pub returns-in_err-m : goal.returns-in_err-m
returns-in_err-m t c =
    let next = next-some _ c.args.d c.row_of-row.ensures.row c.row_next.ensures c.in-Some.is in
    let stops = rw (c.in_err-m.was, c.then_range.ensures) at c.offer_rows.ensures in
    let on = sym (ranges-on _ _ _ _ c.args.i c.args.key (omega arith)) in
    rw c.from_residual.ensures (is_all on (row-stops _ _ _ _ _ c.loop-r.invariant.1 c.loop-r.auto.fresh _ next stops))

pub loop-r-smaller : goal.loop-r-smaller
loop-r-smaller t c =
    let h = next-has _ c.args.d c.row_of-row.ensures.row c.row_next.ensures c.in-Some.is c.args.self.now.short in
    omega (arith, h.0, h.1.from)

pub loop-r-preserved : goal.loop-r-preserved
loop-r-preserved t c =
    let h = next-has _ c.args.d c.row_of-row.ensures.row c.row_next.ensures c.in-Some.is c.args.self.now.short in
    let next = next-some _ c.args.d c.row_of-row.ensures.row c.row_next.ensures c.in-Some.is in
    let goes = rw (c.in_ok-m.was, c.then_range.ensures) at c.offer_rows.ensures in
    (omega (arith, h.1.from), row-turns _ _ _ _ _ c.loop-r.invariant.1 c.loop-r.auto.fresh _ next goes)

pub returns : goal.returns
returns t c =
    let none = next-none _ c.args.d c.row_of-row.ensures.row c.row_next.ensures c.in_default.is in
    is_all (sym (ranges-on _ _ _ _ c.args.i c.args.key (omega arith))) (row_ends _ _ _ _ _ c.loop-r.invariant.1 none)
