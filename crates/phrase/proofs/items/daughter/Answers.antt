-- `phrase::items::daughter` meets its contract: one law for each daughter, and two for those that are not there.
use native.Mathlib.Omega.{arith}
use Rattle.phrase.proofs.Values.{item-past, item-at, item-none}
use Rattle.phrase.proofs.items.daughter.Goals as goal

pub returns-then-d-k : goal.returns-then-d-k
returns-then-d-k c = item-past c.args.d _ c.if-d-k.true

pub returns-in-0 : goal.returns-in-0
returns-in-0 c = item-at c.args.d _ 0 c.if-d-k.false c.in-0.is

pub returns-in-1 : goal.returns-in-1
returns-in-1 c = item-at c.args.d _ 1 c.if-d-k.false c.in-1.is

pub returns-in-2 : goal.returns-in-2
returns-in-2 c = item-at c.args.d _ 2 c.if-d-k.false c.in-2.is

pub returns-in_default : goal.returns-in_default
returns-in_default c = item-none c.args.d _ c.if-d-k.false (omega arith)
