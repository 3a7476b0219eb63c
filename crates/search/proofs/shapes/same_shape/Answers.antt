-- `search::shapes::same_shape` meets its contract: byte by byte the rules are the same so far.
use mathlib.Core.Path.{sym, ◌∙◌}
use Rattle.phrase.specs.Phrase.{holds, fails}
use Rattle.search.proofs.Likeness.{same_ends, rule-in}
use native.Mathlib.Omega.{arith}
use Rattle.search.proofs.shapes.same_shape.Goals as goal

pub rule_end-requires : goal.rule_end-requires
rule_end-requires c = (rule-in c.args.a.of_table).1

pub overflow_sub-k-end : goal.overflow_sub-k-end
overflow_sub-k-end c = omega (arith, c.rule_end.ensures, (rule-in c.args.a.of_table).0)

pub overflow_add-b : goal.overflow_add-b
overflow_add-b c = omega (arith, c.rule_end.ensures, rule-in c.args.a.of_table, rule-in c.args.b.of_table)

pub returns-then-byte_at : goal.returns-then-byte_at
returns-then-byte_at c = fails (λ l. c.if-byte_at.true (c.byte_at.ensures.0 ∙ l.same _ (omega arith) (omega (arith, c.rule_end.ensures)) ∙ sym (rw c.requires at c.byte_at-in-loop-k.ensures.0)))

pub returns : goal.returns
returns c = holds (same_ends _ (omega (arith, c.rule_end.ensures)) c.loop-k.invariant)
