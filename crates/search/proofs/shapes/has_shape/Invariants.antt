use mathlib.Core.Path.{◌≡◌}
use Rattle.meaning.specs.Decode.{past, rule_end, first_rule}
use Rattle.search.specs.Likeness.{LikeBefore}
use Rattle.search.proofs.shapes.has_shape.Given as goal

abbrev pub invariant-loop : goal.invariant-loop
invariant-loop l = (l.at ≡ past l.counter (rule_end l.table) (first_rule l.table)) × (LikeBefore l.table l.rule.at l.counter → ⊥)
