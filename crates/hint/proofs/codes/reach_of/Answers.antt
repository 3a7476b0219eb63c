-- `hint::codes::reach_of` meets its contract: one law for each thing that can be asked of the first part's start.
use mathlib.Core.Path.{◌≡◌, sym, ap, ◌∙◌}
use native.Mathlib.Omega.{arith}
use Rattle.hint.specs.declared.Place.TheVariants.{At}
use Rattle.hint.proofs.Segments.{reach-all, reach-zero, reach-empty}
use Rattle.hint.proofs.codes.reach_of.Goals as goal
use Rattle.hint.proofs.codes.reach_of.Goals.{in_default-via-in-At+else-from-lt-DIGITS, in_default-via-in_default}

pub returns-in-Any : goal.returns-in-Any
returns-in-Any c = rw c.single.ensures (reach-all c.args.w c.from-first.ensures)

pub returns-in-At-eq0 : goal.returns-in-At-eq0
returns-in-At-eq0 c = rw c.single-in-At-eq0.ensures (reach-zero c.args.w c.from-first.ensures (c.in-At-eq0.is ∙ ap At (sym c.in-At-eq0.field-0-is ∙ c.in-At-eq0.field-0-test)))

pub returns-in_default : goal.returns-in_default
returns-in_default c =
    rw c.single-in_default.ensures
    (reach-empty c.args.w c.from-first.ensures (elim c.in_default.branch [
      | in_default-via-in-At+else-from-lt-DIGITS w ↦ (λ n l a. let e : n ≡ w.in-At.from = rw w.in-At.is at a in omega arith)
      | in_default-via-in_default w ↦ (λ n l a. rw w.in_default.is at a)
    ]))
