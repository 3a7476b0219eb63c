-- `search::search` meets its contract: level by level all is found, or there is no room for it.
use mathlib.Core.Path.{refl}
use native.Mathlib.Omega.{arith}
use Rattle.search.proofs.Keys.{key-deduction}
use Rattle.search.proofs.Steps.{search-begins, level-full, level-done, merge-ready, level-on}
use Rattle.search.proofs.search.Goals as goal

pub loop-m-init : goal.loop-m-init
loop-m-init c = search-begins (key-deduction _ _ c.args.table.accepted c.requires.0) c.requires.1 c.requires.2 refl

pub returns-in_err-m : goal.returns-in_err-m
returns-in_err-m c = rw c.from_residual.ensures (level-full (key-deduction _ _ c.args.table.accepted c.requires.0) c.loop-m.invariant (omega arith) (rw c.in_err-m.was at c.level.ensures))

pub returns-then-m-eq0 : goal.returns-then-m-eq0
returns-then-m-eq0 c = level-done (key-deduction _ _ c.args.table.accepted c.requires.0) c.loop-m.invariant (omega arith) (rw c.in_ok-m.was at c.level.ensures) c.if-m-eq0.true

pub merge-requires : goal.merge-requires
merge-requires c = merge-ready (key-deduction _ _ c.args.table.accepted c.requires.0) c.loop-m.invariant (omega arith) (rw c.in_ok-m.was at c.level.ensures) c.level.auto.fresh

pub loop-m-preserved : goal.loop-m-preserved
loop-m-preserved c =
    let fills = rw c.in_ok-m.was at c.level.ensures in
    level-on (key-deduction _ _ c.args.table.accepted c.requires.0) c.loop-m.invariant (omega arith) fills c.level.auto.fresh c.merge.new.set c.if-m-eq0.false c.merge.auto.set c.merge.ensures
