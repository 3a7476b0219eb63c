use lib.ListN.{take}
use Rattle.reader.specs.Records.{Written}
use Rattle.reader.proofs.charting.write_chart.Given as goal

abbrev pub invariant-loop-i : goal.invariant-loop-i
invariant-loop-i l = Written l.table.bytes.now l.words l.known (take l.i l.known) l.initial.chart l.chart
