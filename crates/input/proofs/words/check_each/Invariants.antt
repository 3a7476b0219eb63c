use Rattle.std.proofs.Common.{◌≡◌, ◌-◌}
use Rattle.meaning.specs.Table.{times}
use Rattle.meaning.specs.Decode.{word_there}
use Rattle.input.proofs.words.check_each.Given as goal

abbrev pub invariant-loop-i : goal.invariant-loop-i
invariant-loop-i l = times l.count (word_there l.words) 0 ≡ times (l.count - l.i) (word_there l.words) l.i
