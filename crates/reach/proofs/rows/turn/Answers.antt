-- `reach::rows::turn` meets its contract: by the kind of the symbol.
use mathlib.Core.Path.{ap}
use native.Mathlib.Omega.{arith}
use Rattle.phrase.specs.Phrase.{held_of}
use Rattle.rules.specs.Symbols.{symbol_of}
use Rattle.reach.proofs.Rowing.{turn-word, turn-part, turn-free}
use Rattle.reach.proofs.rows.turn.Goals as goal

pub returns-in-Word : goal.returns-in-Word
returns-in-Word c =
    let a = c.args in
    turn-word a.on.words.now a.on.ends.now a.on.free (held_of a.on.chosen) a.on.start a.p _ (ap symbol_of c.in-Word.is) c.over_word.ensures

pub returns-in-None : goal.returns-in-None
returns-in-None c =
    let a = c.args in
    turn-part a.on.words.now a.on.ends.now a.on.free (held_of a.on.chosen) a.on.start a.p _ (ap symbol_of c.in-Part.is) c.in-None.ensures c.held.ensures.0 c.over_part.ensures

pub returns-in-Some : goal.returns-in-Some
returns-in-Some c =
    let a = c.args in
    turn-free a.on.words.now a.on.ends.now a.on.free (held_of a.on.chosen) a.on.start a.p _ (ap symbol_of c.in-Part.is)
    a.on.asked.fair c.in-Some.ensures.0 (λ e. absurd (omega (arith, c.in-Some.ensures.1))) c.over_free.ensures

pub over_free-requires : goal.over_free-requires
over_free-requires c = (c.in-Some.ensures.1, omega (arith, c.in-Some.ensures.0, c.args.on.asked.small c.in-Part.k))
