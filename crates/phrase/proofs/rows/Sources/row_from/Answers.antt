-- `phrase::rows::Sources::row_from` meets its contract. The loop's invariant: what the symbols that are left make next to a is what the row makes.
use mathlib.Core.Path.{ap, ◌∙◌}
use native.Mathlib.Omega.{arith}
use Rattle.meaning.specs.Range.{none}
use Rattle.phrase.specs.Row.{eval}
use Rattle.phrase.specs.Phrase.{range_of, held_of}
use Rattle.phrase.proofs.Turns.{left_all, left_on, eval-end, eval-off, eval-apart, eval-on}
use Rattle.phrase.proofs.rows.Sources.row_from.Goals as goal

pub loop-i-init : goal.loop-i-init
loop-i-init c = let a = c.args in ap (eval a.self.words.now (held_of a.self.chosen) a.start none) (left_all a.row.table.now a.row.at)

pub returns-in_err-p : goal.returns-in_err-p
returns-in_err-p c = let a = c.args in
    rw c.from_residual.ensures
    (eval-off a.row.table.now a.self.words.now (held_of a.self.chosen) _ _ a.start (range_of c.loop-i.a) (omega (arith, c.len-i-end.ensures.0)) c.symbol.ensures c.in_err-p.ensures ∙ c.loop-i.invariant)

pub returns-in_default : goal.returns-in_default
returns-in_default c = let a = c.args in
    eval-apart a.row.table.now a.self.words.now (held_of a.self.chosen) _ _ a.start (range_of c.loop-i.a) (omega (arith, c.len-i-end.ensures.0)) c.symbol.ensures _ c.in_ok-p.ensures c.in_default.ensures
    ∙ c.loop-i.invariant

pub loop-i-preserved : goal.loop-i-preserved
loop-i-preserved c = let a = c.args in
    ap (eval a.self.words.now (held_of a.self.chosen) a.start _) (left_on a.row.table.now _ c.loop-i.i a.row.at)
    ∙ eval-on a.row.table.now a.self.words.now (held_of a.self.chosen) _ _ a.start (range_of c.loop-i.a) (omega (arith, c.len-i-end.ensures.0)) c.symbol.ensures _ _ c.in_ok-p.ensures c.in-Some.ensures
    ∙ c.loop-i.invariant

pub returns : goal.returns
returns c = let a = c.args in
    eval-end a.row.table.now a.self.words.now (held_of a.self.chosen) _ _ a.start (range_of c.loop-i.a) (omega (arith, c.len-i-end.ensures.0)) ∙ c.loop-i.invariant
