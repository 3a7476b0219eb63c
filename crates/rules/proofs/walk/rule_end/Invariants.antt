use mathlib.Core.Path.{◌≡◌}
use Prim.Native.Nat.{◌-◌}
use Rattle.meaning.specs.Decode.{past, row_end, rule_end}
use Rattle.rules.proofs.walk.rule_end.Given as goal

abbrev pub invariant-loop : goal.invariant-loop
invariant-loop l = rule_end l.table l.rule ≡ past (l.rows - l.counter) (row_end l.table) l.at
