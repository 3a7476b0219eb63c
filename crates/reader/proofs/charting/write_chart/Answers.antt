use Rattle.store.proofs.Laws.{mem-at}
use Rattle.reader.proofs.Entering.{choosing, code-small, entered}
use Rattle.reader.proofs.Writing.{write-none, write-next}
use Rattle.reader.proofs.charting.write_chart.Goals as goal

pub loop-i-init : goal.loop-i-init
loop-i-init c = write-none

pub choice_of-c-requires : goal.choice_of-c-requires
choice_of-c-requires c = choosing _ c.requires.0 c.requires.1 c.loop-i-test.true

pub unpack-requires : goal.unpack-requires
unpack-requires c = code-small c.requires.0 (mem-at _ _ c.loop-i-test.true)

pub loop-i-preserved : goal.loop-i-preserved
loop-i-preserved c =
    let l = c.loop-i in
    write-next l.i c.loop-i-test.true l.invariant (entered c.choice_of-c.ensures c.unpack.ensures c.write_record.ensures)
