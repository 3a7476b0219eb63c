-- `reach::rows::row_set` meets its contract. The invariant: the sets of the first starts are done.
use native.Mathlib.Omega.{arith}
use lib.ListN.{length, drop, length-append, length-drop, length-take}
use Rattle.meaning.specs.Decode.{row_at}
use Rattle.phrase.specs.Phrase.{held_of}
use Rattle.reach.specs.Reach.{Known, free_of}
use Rattle.reach.proofs.Whole.{firsts-none, firsts-on, firsts-with, firsts-all, is-digit}
use Rattle.reach.proofs.rows.row_set.Goals as goal

pub loop-start-init : goal.loop-start-init
loop-start-init c = let a = c.args in
    firsts-none a.words.now (Known a.ends.now) (free_of a.f) (held_of a.d) (row_at a.row.table.now a.row.at) _

pub loop-start-preserved : goal.loop-start-preserved
loop-start-preserved c = let a = c.args in
    let t = length-take (length a.words.now) a.sets.now in
    firsts-on a.words.now (Known a.ends.now) (free_of a.f) (held_of a.d) (row_at a.row.table.now a.row.at) _ _ _ (omega (arith, t, c.loop-start-test.true, c.requires.1))
    (omega (arith, c.loop-start.invariant.same, c.loop-start-test.true)) c.loop-start.invariant c.row_ends.ensures

pub returns : goal.returns
returns c = let a = c.args in
    let l = c.loop-start in
    let t = length-take (length a.words.now) a.sets.now in
    let d = length-drop (length a.words.now) a.sets.now in
    let f = firsts-with a.words.now (Known a.ends.now) (free_of a.f) (held_of a.d) (row_at a.row.table.now a.row.at) _ (omega (arith, t, l.invariant.same, c.requires.1)) l.invariant in
    firsts-all a.words.now (Known a.ends.now) (free_of a.f) (held_of a.d) (row_at a.row.table.now a.row.at) (omega (arith, t, c.loop-start-test.false, c.requires.1))
    (omega (arith, t, d, l.invariant.same, length-append l.set-items (drop (length a.words.now) a.sets.now), c.requires.1)) f c.row_ends-first.ensures (is-digit _ c.from.ensures)
