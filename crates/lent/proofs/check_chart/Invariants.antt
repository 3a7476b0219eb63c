-- all records before record i are sound
use Prim.Native.Nat.{ℕ, ◌<◌}
use Rattle.meaning.specs.Decode.{grammar_of}
use Rattle.meaning.specs.TreeWriting.{Sound}
use Rattle.lent.proofs.check_chart.Given as goal

abbrev pub invariant-loop-i : goal.invariant-loop-i
invariant-loop-i l = (j : ℕ) → j < l.i → Sound (grammar_of l.table.bytes.now) l.words l.chart l.count j
