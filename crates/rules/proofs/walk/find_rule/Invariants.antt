use Prim.Native.Nat.{◌-◌}
use mathlib.Core.Path.{◌≡◌}
use Rattle.meaning.specs.Decode.{several, rule_at, rule_end, grammar_of}
use Rattle.meaning.specs.TreeWriting.{named}
use Rattle.rules.specs.Walk.{place_of}
use Rattle.rules.proofs.walk.find_rule.Given as goal

abbrev pub invariant-loop : goal.invariant-loop
invariant-loop l = let t = l.table.bytes.now in
    (l.at ≡ place_of t l.counter) × (named (grammar_of t).rules l.f ≡ named (several (l.end - l.counter) (rule_at t) (rule_end t) l.at) l.f)
