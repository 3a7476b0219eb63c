-- `phrase::rows::Sources::place_next` meets its contract. The loop's invariant: no range of the row starts from `from` up to here.
use mathlib.Core.Path.{ap}
use native.Mathlib.Omega.{arith}
use Rattle.meaning.specs.Decode.{row_at}
use Rattle.phrase.specs.Row.{Starts}
use Rattle.phrase.proofs.Fit.{next-found, next-over, begins, ends_by}
use Rattle.phrase.proofs.rows.Sources.place_next.Goals as goal

pub loop-start-init : goal.loop-start-init
loop-start-init c = let a = c.args in
    rw c.max-start.ensures (omega arith, begins a.self.words.now a.self.chosen (row_at a.row.table.now a.row.at) a.from _ (ap (λ (s : Starts). s.first) c.row_starts-s.ensures))

pub returns-in-Some : goal.returns-in-Some
returns-in-Some c = next-found _ c.args.from c.loop-start.start c.loop-start.invariant.0 c.loop-start.invariant.1 c.in-Some.ensures

pub returns : goal.returns
returns c = let a = c.args in
    next-over _ a.from c.loop-start.start _ c.loop-start-test.false
    (ends_by a.self.words.now a.self.chosen (row_at a.row.table.now a.row.at) a.from _ (ap (λ (s : Starts). s.end) c.row_starts-s.ensures)) c.loop-start.invariant.1
