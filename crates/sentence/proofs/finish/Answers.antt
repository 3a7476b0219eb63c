-- `sentence::finish` meets its contract: the words are counted, then written where there is room. Assumes nothing.
use mathlib.Core.Path.{refl}
use native.Mathlib.Omega.{arith}
use Rattle.sentence.specs.Speech.{whole}
use Rattle.sentence.specs.Answers.{cramped, written}
use Rattle.sentence.proofs.Told.{finish-text}
use Rattle.sentence.proofs.finish.Goals as goal

pub returns-then-text-words : goal.returns-then-text-words
returns-then-text-words c = cramped {n = c.say-words.result} (omega (arith, c.say-words.ensures.next)) c.if-text-words.true refl

pub returns : goal.returns
returns c =
    let n = c.args.nodes in
    let h = c.if-text-words.false in
    let w = finish-text (whole n.table.now n.places.now) c.args.text.now _ _ c.say-words.ensures.next h c.say.ensures.text in
    written {n = c.say-words.result} (omega (arith, c.say-words.ensures.next)) h w
