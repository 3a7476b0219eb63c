-- `hint::codes::reach_at` meets its contract: one law where the first part's end is asked for, and one where it is not.
use native.Mathlib.Omega.{arith}
use Rattle.hint.proofs.Segments.{reach-start, reach-end}
use Rattle.hint.proofs.codes.reach_at.Goals as goal

pub returns-in-At : goal.returns-in-At
returns-in-At c = rw c.double.ensures (reach-end c.args.w c.from-low.ensures c.requires.1 c.in-At.is)

pub returns-in_default : goal.returns-in_default
returns-in_default c =
    rw c.double-in_default.ensures (reach-start c.args.w c.from-low.ensures c.requires.1 (omega arith, omega arith, omega arith, omega arith))
