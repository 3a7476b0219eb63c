-- `lent::records::Record::comes_before` meets its contract: chart order is the order of the items' numbers.
use mathlib.Core.Path.{◌≡◌}
use lib.ListN.{length}
use native.Mathlib.Omega.{arith}
use borrow.Author.Rules.{rules}
use Rattle.lent.proofs.Ordering.{before-is, below-is}
use Rattle.lent.proofs.records.Record.comes_before.Goals as goal

pub returns : goal.returns
returns c = let a = c.stated-a in
    let b = c.stated-b in
    let h : length a.result.ends ≡ 6 = search rules in
    let k : length b.result.ends ≡ 6 = search rules in
    rw (c.lt.ensures, below-is) (before-is a.result b.result _ _ a.ensures b.ensures (omega (arith, h)) (omega (arith, k)))
