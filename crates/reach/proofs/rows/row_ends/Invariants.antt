use Rattle.phrase.specs.Phrase.{held_of}
use Rattle.reach.specs.Reach.{Known, free_of}
use Rattle.reach.proofs.Rowing.{Along}
use Rattle.reach.proofs.rows.row_ends.Given as goal

abbrev pub invariant-loop-i : goal.invariant-loop-i
invariant-loop-i l = Along l.row.table.now l.on.words.now (Known l.on.ends.now) (free_of l.on.free) (held_of l.on.chosen) l.on.start l.row.at l.i l.p
