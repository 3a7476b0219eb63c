-- `sentence::judge` meets its contract: where the walk finds nothing wrong, the words are written. Assumes nothing.
use mathlib.Core.Path.{refl, sym}
use Rattle.sentence.specs.Answers.{astray, sound}
use Rattle.sentence.proofs.judge.Goals as goal

pub returns-in-Some : goal.returns-in-Some
returns-in-Some c = astray (sym c.in-Some.ensures) refl

pub returns-in-None : goal.returns-in-None
returns-in-None c = sound (sym c.in-None.ensures) c.finish.ensures
