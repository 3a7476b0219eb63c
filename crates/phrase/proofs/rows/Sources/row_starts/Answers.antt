-- `phrase::rows::Sources::row_starts` meets its contract. The loop's invariant: where the symbols that are left can start, so many words on, is where the row can.
use mathlib.Core.Path.{ap, ◌∙◌}
use Prim.Native.Nat.{ℕ, ◌+◌, ◌-◌, ◌<◌}
use native.Mathlib.Omega.{arith}
use Rattle.meaning.specs.Table.{byte}
use Rattle.phrase.specs.Row.{starts}
use Rattle.phrase.specs.Phrase.{range_of, held_of}
use Rattle.phrase.proofs.Turns.{left_all, left_on, starts-end, starts-word, starts-on, starts-part}
use Rattle.phrase.proofs.rows.Sources.row_starts.Goals as goal
use Rattle.phrase.proofs.rows.Sources.row_starts.Goals.{in-Word, in-Part+else-p-ne0}

pub loop-i-init : goal.loop-i-init
loop-i-init c = let a = c.args in (omega arith, ap (starts a.self.words.now (held_of a.self.chosen) 0) (left_all a.row.table.now a.row.at))

pub returns-then-p-ne0 : goal.returns-then-p-ne0
returns-then-p-ne0 c = let a = c.args in
    c.ahead.ensures
    ∙ starts-part a.row.table.now a.self.words.now (held_of a.self.chosen) _ _ c.loop-i.count (omega (arith, c.len-i-end.ensures.0)) _ _ c.in-Part.ensures
    (range_of c.held-p.result) c.held-p.ensures.0 c.if-p-ne0.true
    ∙ c.loop-i.invariant.1

pub loop-i-preserved : goal.loop-i-preserved
loop-i-preserved c = let a = c.args in
    let t = a.row.table.now in
    let e = held_of a.self.chosen in
    let l = c.loop-i in
    let more : 0 < byte t a.row.at - l.i = omega (arith, c.len-i-end.ensures.0) in
    let turn = λ (n : ℕ). ap (starts a.self.words.now e n) (left_on t (byte t a.row.at) l.i a.row.at) in
    elim c.match-symbol.branch [
      | in-Word w ↦ (
        omega (arith, l.invariant.0),
        rw w.count-is (turn (l.count + 1) ∙ starts-word t a.self.words.now e _ _ l.count more _ w.in-Word.ensures ∙ l.invariant.1),
      )
      | in-Part+else-p-ne0 w ↦ (
        omega (arith, l.invariant.0),
        rw w.count-is
            (turn l.count
            ∙ starts-on t a.self.words.now e _ _ l.count more _ _ w.in-Part.ensures (range_of w.held-p.result) w.held-p.ensures.0 w.if-p-ne0.false
            ∙ l.invariant.1),
      )
    ]

pub returns : goal.returns
returns c = let a = c.args in
    c.alone.ensures ∙ starts-end a.row.table.now a.self.words.now (held_of a.self.chosen) _ _ c.loop-i.count (omega (arith, c.len-i-end.ensures.0)) ∙ c.loop-i.invariant.1
