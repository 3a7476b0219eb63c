-- The daughter stands where the trees that are still to be passed end.
use mathlib.Core.Path.{◌≡◌, ◌∙◌}
use native.Mathlib.Omega.{arith}
use lib.ListN.{drop, get_or}
use Rattle.meaning.specs.Table.{rank_of}
use Rattle.sentence.proofs.Places.{taken-no, taken-end, taken-turn}
use Rattle.sentence.proofs.nodes.Nodes.daughter.Goals as goal

pub returns-then-left-eq0 : goal.returns-then-left-eq0
returns-then-left-eq0 c =
    let a = c.args.self in
    let l = c.loop-place in
    omega (arith, taken-no a.table.now (drop l.place a.places.now) l.left c.if-left-eq0.true, l.invariant.0)

pub loop-place-preserved : goal.loop-place-preserved
loop-place-preserved c =
    let a = c.args.self in
    let l = c.loop-place in
    let u = taken-turn a.table.now a.places.now l.place l.left c.loop-place-test.true (omega (arith, c.if-left-eq0.false)) in
    let e : c.from.result ≡ rank_of a.table.now (get_or a.places.now l.place 0) = c.from.ensures ∙ c.byte_at.ensures.0 in
    (rw e (omega (arith, u, l.invariant.0)), omega (arith, a.within.few, c.byte_at.ensures, c.from.ensures, l.invariant.1), omega (arith, c.loop-place-test.true), omega (arith, l.invariant.3))

pub returns : goal.returns
returns c =
    let a = c.args.self in
    let l = c.loop-place in
    omega (arith, c.max.ensures, taken-end a.table.now a.places.now l.place l.left c.loop-place-test.false, l.invariant)
