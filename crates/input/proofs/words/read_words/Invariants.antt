use Rattle.std.proofs.Common.{◌≡◌, take}
use Rattle.input.proofs.Sentence.{written}
use Rattle.input.proofs.words.read_words.Given as goal

abbrev pub invariant-loop-i : goal.invariant-loop-i
invariant-loop-i l = l.word-items ≡ written l.bytes (take l.count l.fn.words) l.i
