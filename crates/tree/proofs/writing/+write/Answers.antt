-- `write` meets its contract: it calls itself for daughters, whose heights are lower.
use native.Mathlib.Omega.{arith}
use Prim.Native.Nat.{◌+◌, ◌≤◌, ◌<◌}
use Rattle.tree.specs.Writing.{rank, function_at, height_at}
use Rattle.tree.proofs.Records.{daughter-there, daughters-end, lower-there}
use Rattle.tree.proofs.Steps.{none-of-it, one-daughter, some-daughters, all-daughters}
use Rattle.tree.proofs.writing.+write.Goals as goal

pub returns-then-out-pos : goal.returns-then-out-pos
returns-then-out-pos t c =
    let a = c.args.chart.now in
    none-of-it a.table.bytes.now a.numbers.now a.count a.falling c.args.at c.requires _ _ (omega (arith, c.if-out-pos.true))

pub write-requires : goal.write-requires
write-requires t c =
    let a = c.args.chart.now in
    let (l, e) = daughter-there a.table.bytes.now a.numbers.now c.args.at c.rank_of.result c.rank_of.ensures c.loop-daughter-test.true c.from.ensures in
    let low : height_at a.numbers.now c.from.result < height_at a.numbers.now c.args.at = rw e (a.falling.lower c.args.at c.loop-daughter.daughter-index c.requires l) in
    let below : c.from.result < a.count = rw e (a.falling.below c.args.at c.loop-daughter.daughter-index c.requires l) in
    (lower-there a.numbers.now c.args.at _ c.from.result (omega arith) low c.decreases, omega (arith, below))

pub returns-in_err-next : goal.returns-in_err-next
returns-in_err-next t c =
    let a = c.args.chart.now in
    let k = c.loop-daughter.daughter-index in
    let (l, e) = daughter-there a.table.bytes.now a.numbers.now c.args.at c.rank_of.result c.rank_of.ensures c.loop-daughter-test.true c.from.ensures in
    let w = one-daughter a.table.bytes.now a.numbers.now a.count a.falling c.args.at c.requires k l c.loop-daughter.invariant (omega (arith, e)) c.in_err-next.ensures in
    rw c.from_residual.ensures
    (some-daughters a.table.bytes.now a.numbers.now a.count a.falling c.args.at c.requires (k + 1) c.args.out.now c.args.pos (omega arith) w)

pub loop-daughter-preserved : goal.loop-daughter-preserved
loop-daughter-preserved t c =
    let a = c.args.chart.now in
    let (l, e) = daughter-there a.table.bytes.now a.numbers.now c.args.at c.rank_of.result c.rank_of.ensures c.loop-daughter-test.true c.from.ensures in
    one-daughter a.table.bytes.now a.numbers.now a.count a.falling c.args.at c.requires c.loop-daughter.daughter-index l c.loop-daughter.invariant
    (omega (arith, e)) c.in_ok-next.ensures

pub returns : goal.returns
returns t c =
    let a = c.args.chart.now in
    let m : rank a.table.bytes.now (function_at a.numbers.now c.args.at) ≤ c.loop-daughter.daughter-index =
    daughters-end a.table.bytes.now a.numbers.now c.args.at c.rank_of.result c.rank_of.ensures (omega (arith, c.loop-daughter-test.false)) c.requires a.falling.size
    (omega (arith, c.rank_of.ensures, a.falling.three c.args.at c.requires)) in
    all-daughters a.table.bytes.now a.numbers.now a.count a.falling c.args.at c.requires c.loop-daughter.daughter-index c.args.out.now c.args.pos
    (omega arith) m c.loop-daughter.invariant
