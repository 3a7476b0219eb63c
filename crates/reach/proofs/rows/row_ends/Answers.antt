-- `reach::rows::row_ends` meets its contract. The invariant: what the symbols that are left make from what is held is what the row makes.
use native.Mathlib.Omega.{arith}
use Rattle.phrase.specs.Phrase.{held_of}
use Rattle.reach.specs.Reach.{Known, free_of}
use Rattle.reach.proofs.Rowing.{along-none, along-on, along-out, along-end}
use Rattle.reach.proofs.rows.row_ends.Goals as goal

pub loop-i-init : goal.loop-i-init
loop-i-init c = let a = c.args in
    along-none a.row.table.now a.on.words.now (Known a.on.ends.now) (free_of a.on.free) (held_of a.on.chosen) a.on.start a.row.at

pub returns-then-is_nowhere : goal.returns-then-is_nowhere
returns-then-is_nowhere c = let a = c.args in
    along-out a.row.table.now a.on.words.now (Known a.on.ends.now) (free_of a.on.free) (held_of a.on.chosen) a.on.start a.row.at c.loop-i.i
    (c.is_nowhere.ensures c.if-is_nowhere.true) c.loop-i.invariant

pub loop-i-preserved : goal.loop-i-preserved
loop-i-preserved c = let a = c.args in
    along-on a.row.table.now a.on.words.now (Known a.on.ends.now) (free_of a.on.free) (held_of a.on.chosen) a.on.start a.row.at c.loop-i.i
    (omega arith) c.symbol.ensures c.loop-i.invariant c.turn-p.ensures

pub returns : goal.returns
returns c = let a = c.args in
    along-end a.row.table.now a.on.words.now (Known a.on.ends.now) (free_of a.on.free) (held_of a.on.chosen) a.on.start a.row.at c.loop-i.i (omega arith) c.loop-i.invariant
