-- `phrase::ranges::joined` meets its contract: its three tests are the definition's, in its order.
use mathlib.Core.Path.{sym, ◌∙◌}
use native.Mathlib.Omega.{arith}
use borrow.Author.Tests.{ne_eqb}
use Rattle.meaning.specs.Range.{joined}
use Rattle.meaning.proofs.Joining.{next, range-path, join→joined}
use Rattle.phrase.proofs.ranges.joined.Goals as goal

pub returns-then-is_none : goal.returns-then-is_none
unfolding joined
returns-then-is_none c = simp (sym c.is_none.ensures ∙ c.if-is_none.true)

pub returns-then-is_none-2 : goal.returns-then-is_none-2
unfolding joined
returns-then-is_none-2 c = simp (sym c.is_none.ensures ∙ c.if-is_none.false, sym c.is_none-2.ensures ∙ c.if-is_none-2.true)

pub returns-then-p-q : goal.returns-then-p-q
returns-then-p-q c = sym (join→joined (next c.if-p-q.true (range-path (omega arith) (omega arith))))

pub returns : goal.returns
unfolding joined
returns c = simp (sym c.is_none.ensures ∙ c.if-is_none.false, sym c.is_none-2.ensures ∙ c.if-is_none-2.false, ne_eqb _ _ c.if-p-q.false)
