use mathlib.Core.Path.{refl, sym}
use native.Mathlib.Omega.{arith}
use lib.Seq.{length-take-le}
use Rattle.reader.proofs.Filled.{filled, all-zero, parts}
use Rattle.reader.proofs.Answering.{full-refused, found-whole, charted-all, answered-chart}
use Rattle.reader.proofs.Inputs.{rules-fit, ruled}
use Rattle.reader.proofs.sought.Goals as goal

pub returns-in_default : goal.returns-in_default
returns-in_default c =
    let zeros = filled _ (c.fill.ensures.after (λ y q. q)) in
    full-refused c.search-found.ensures c.in_default.is (omega arith) (omega arith)
    (all-zero c.args.chart.now (omega (arith, parts)) (omega (arith, parts)))

pub slice_bounds-known-end-2 : goal.slice_bounds-known-end-2
slice_bounds-known-end-2 c = sym (found-whole c.requires c.search-found.auto.known c.search-found.ensures c.in-Some.is (omega arith)).size

pub slice_bounds-order-end : goal.slice_bounds-order-end
slice_bounds-order-end c = rules-fit c.requires.accepted refl c.order_rules-rules.ensures

pub slice_bounds-write_chart-end : goal.slice_bounds-write_chart-end
slice_bounds-write_chart-end c = sym (length-take-le _ _ (rules-fit c.requires.accepted refl c.order_rules-rules.ensures))

pub write_chart-requires : goal.write_chart-requires
write_chart-requires c =
    let w = found-whole c.requires c.search-found.auto.known c.search-found.ensures c.in-Some.is (omega arith) in
    let o = c.order_rules-rules.ensures in
    (w.whole, ruled o (rules-fit c.requires.accepted refl o), omega (arith, w.fits, parts))

pub returns : goal.returns
returns c =
    let zeros = filled _ (c.fill.ensures.after (λ y q. q)) in
    let w = found-whole c.requires c.search-found.auto.known c.search-found.ensures c.in-Some.is (omega arith) in
    answered-chart c.args.table.bytes.now c.args.words.now w.few (all-zero c.args.chart.now (omega (arith, parts)) (omega (arith, parts)))
    (charted-all w.whole c.write_chart.ensures c.yes_or_no.ensures)
