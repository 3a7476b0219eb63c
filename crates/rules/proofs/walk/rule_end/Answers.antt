use native.Mathlib.Omega.{arith}
use Prim.Native.Nat.{◌+◌, ◌-◌}
use mathlib.Core.Path.{◌≡◌, sym, ◌∙◌}
use Rattle.meaning.specs.Decode.{row_end}
use Rattle.meaning.proofs.Places.{past-turn, past-none, past_next, row-grows}
use Rattle.meaning.specs.Table.{dimension_of, category_of}
use Rattle.rules.proofs.Walks.{rule-from}
use Rattle.rules.proofs.walk.rule_end.Goals as goal

pub loop-init : goal.loop-init
loop-init c = let a = c.args in
    let t = a.table.now in
    let n : c.byte_at-rows.result ≡ dimension_of t (category_of t a.rule) = rw (c.from.ensures, c.byte_at.ensures.0) at c.byte_at-rows.ensures.0 in
    rule-from t a.rule _ _ (omega (arith, n)) (omega (arith, c.from-2.ensures, c.byte_at-2.ensures.0))

pub invariant_of-end : goal.invariant_of-end
invariant_of-end c = let t = c.args.table.now in
    record { inside = past_next _ (row_end t) (row-grows t) _ _ (omega (arith, c.loop-test.true)) (rw c.loop.invariant at c.requires) }

pub loop-preserved : goal.loop-preserved
loop-preserved c = let n = c.byte_at-rows.result in
    let e : n - c.loop.counter - 1 ≡ n - (c.loop.counter + 1) = omega arith in
    rw (c.end-at.ensures, ← e) (c.loop.invariant ∙ past-turn _ _ _ (omega (arith, c.loop-test.true)))

pub returns : goal.returns
returns c = sym (c.loop.invariant ∙ past-none _ _ _ (omega (arith, c.loop-test.false)))
