-- `phrase::rows::Sources::site` meets its contract: a word, or the part that is held.
use mathlib.Core.Path.{ap, ◌∙◌}
use Rattle.phrase.specs.Row.{word_here, part_here, site}
use Rattle.phrase.proofs.rows.Sources.site.Goals as goal

pub returns-in-Word : goal.returns-in-Word
unfolding site
returns-in-Word c = rw c.in-Word.is (c.word.ensures ∙ ap (word_here c.args.self.words.now c.in-Word.w) c.after.ensures)

pub returns-in-Part : goal.returns-in-Part
unfolding site
returns-in-Part c = rw c.in-Part.is (c.part.ensures ∙ ap (part_here c.args.self.words.now) c.held.ensures.0)
