-- `hint::asking::wants_of` meets its contract. The loop's invariant: what is asked so far leaves out only what gives nothing.
use mathlib.Core.Path.{ap}
use Prim.Native.Nat.{◌-◌, ℕ}
use Rattle.hint.proofs.Heights.{asks-first, asks-more}
use Rattle.hint.proofs.asking.wants_of.Goals as goal

pub loop-i-init : goal.loop-i-init
loop-i-init c = let a = c.args in
    asks-first a.rule.table.now a.words.now a.rule.at a.d a.goal a.k c.requires.0 c.least.ensures (ap (λ (n : ℕ). n - 1) c.from-high.ensures)

pub loop-i-preserved : goal.loop-i-preserved
loop-i-preserved c = let a = c.args in
    asks-more a.rule.table.now a.words.now a.rule.at a.d a.goal a.k c.requires.0 c.loop-i.i c.ask_row-w.ensures c.loop-i.invariant
