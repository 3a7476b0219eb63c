use lib.ListN.{length}
use Rattle.meaning.specs.Decode.{row_at}
use Rattle.phrase.specs.Phrase.{held_of}
use Rattle.reach.specs.Reach.{Known, free_of}
use Rattle.reach.proofs.Whole.{Firsts}
use Rattle.reach.proofs.rows.row_set.Given as goal

abbrev pub invariant-loop-start : goal.invariant-loop-start
invariant-loop-start l =
    Firsts l.words (Known l.ends) (free_of l.fn.f) (held_of l.fn.d) (row_at l.row.table.now l.row.at) l.start (length l.initial.set-items) l.set-items
