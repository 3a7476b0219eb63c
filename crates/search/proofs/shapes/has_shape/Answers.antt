-- `search::shapes::has_shape` meets its contract: none of the rules so far is like this one.
use mathlib.Core.Path.{refl}
use Rattle.phrase.specs.Phrase.{holds, fails}
use Rattle.phrase.proofs.Fit.{said-yes, said-no}
use Rattle.search.proofs.Ruling.{first-place, next_place}
use Rattle.search.proofs.Likeness.{rule-in, rule-here, like-begins, like-here, like-none, like-ends}
use native.Mathlib.Omega.{arith}
use Rattle.search.proofs.shapes.has_shape.Goals as goal

pub loop-init : goal.loop-init
loop-init c = (first-place _ _ c.first_rule-at.ensures, like-begins _ refl)

pub returns-then-same_shape : goal.returns-then-same_shape
returns-then-same_shape c = holds (like-here _ c.loop.invariant.0 _ (omega arith) (said-yes c.same_shape.ensures c.if-same_shape.true))

pub rule_end-at-requires : goal.rule_end-at-requires
rule_end-at-requires c = (rule-in (rule-here _ c.loop.invariant.0 c.args.rule.of_table.accepted (omega (arith, c.requires)))).1

pub loop-preserved : goal.loop-preserved
loop-preserved c = (next_place _ _ _ _ c.loop.invariant.0 c.rule_end-at.ensures, like-none _ c.loop.invariant.0 c.loop.invariant.1 (said-no c.same_shape.ensures c.if-same_shape.false))

pub returns : goal.returns
returns c = fails (like-ends c.loop.invariant.1 (omega arith))
