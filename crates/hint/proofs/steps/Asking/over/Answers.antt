-- `hint::steps::Asking::over` meets its contract: a word, or a part.
use mathlib.Core.Path.{ap, sym, subst}
use Rattle.meaning.specs.Range.{Range}
use Rattle.rules.specs.Symbols.{symbol_of}
use Rattle.hint.specs.State.{near, far, Moves}
use Rattle.hint.proofs.Moving.{stands_word, stands-part}
use Rattle.hint.proofs.steps.Asking.over.Goals as goal

pub returns-in-Word : goal.returns-in-Word
returns-in-Word c = λ e p kn st. c.over_word.ensures p (stands_word c.args.self.words.now e p (ap symbol_of c.in-Word.is) st)

pub returns-in-Part : goal.returns-in-Part
returns-in-Part c = λ e p kn st.
    let a = c.args in
    let same = stands-part a.self.words.now e p (ap symbol_of c.in-Part.is) st in
    subst (λ (p : Range). Moves p (near a.side p) (far a.side p) a.s c.over_part.result) (sym same) (c.over_part.ensures e kn)
