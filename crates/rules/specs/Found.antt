-- Where a rule stands that a search may have found.
use Rattle.std.specs.Prelude.{ℕ, Option, Some, None}
use Rattle.rules.specs.declared.rule.Rule.{Rule}

abbrev pub found_at : Option Rule → Option ℕ
found_at (Some r) = Some r.at
found_at None = None
