-- `hint::steps::Asking::ask_row` meets its contract: what both walks ask, one after the other.
use mathlib.Core.Path.{sym, ap, ◌∙◌}
use Rattle.phrase.specs.Phrase.{symbols_of}
use Rattle.hint.proofs.Sharpening.{sharper-none, sharper-then, ways-as}
use Rattle.hint.proofs.steps.Asking.ask_row.Goals as goal

pub returns-in_default : goal.returns-in_default
returns-in_default c = sharper-none

pub returns : goal.returns
returns c =
    let e = sym c.row_of.ensures.row.symbols ∙ ap symbols_of c.in-Some.is in
    let starts = sharper-then sharper-none (ways-as e c.goal_side.ensures) c.walk-from_left.ensures in
    sharper-then starts (ways-as e c.goal_side-2.ensures) c.walk.ensures
