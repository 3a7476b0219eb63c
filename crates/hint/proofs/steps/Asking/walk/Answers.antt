-- `hint::steps::Asking::walk` meets its contract. The loop's invariant: what is asked so far is met by every way to run the row, and each has a walk over the symbols that are left.
use mathlib.Core.Path.{ap, ◌∙◌}
use Prim.Native.Nat.{ℕ, ◌+◌, ◌*◌}
use native.Mathlib.Omega.{arith}
use Rattle.meaning.specs.Decode.{symbol_at}
use Rattle.hint.specs.State.{index}
use Rattle.hint.proofs.Sharpening.{pass-first, pass-on}
use Rattle.hint.proofs.steps.Asking.walk.Goals as goal

pub loop-i-init : goal.loop-i-init
loop-i-init c = let a = c.args in pass-first a.side a.row.table.now a.self.words.now a.row.at a.self.chosen a.self.turn a.s a.w (omega arith)

pub loop-i-preserved : goal.loop-i-preserved
loop-i-preserved c = let a = c.args in
    let t = a.row.table.now in
    let same = ap (λ (i : ℕ). symbol_at t (a.row.at + 1 + 3 * i)) (c.index.ensures ∙ ap (index a.side c.loop-i.i) c.len-n.ensures.0) in
    pass-on a.side t a.self.words.now a.row.at a.self.chosen a.self.turn a.s a.w c.loop-i.i (omega arith) (c.symbol-x.ensures ∙ same) c.over-here.ensures c.ask-r.ensures c.loop-i.invariant
