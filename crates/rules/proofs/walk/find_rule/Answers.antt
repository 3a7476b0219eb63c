-- `walk::find_rule` meets its contract: what `named` says of all rules, it says of those from a rule on. Assumes nothing.
use native.Mathlib.Omega.{arith}
use Prim.Native.Nat.{◌+◌, ◌-◌, ◌<◌}
use mathlib.Core.Path.{◌≡◌, sym, ap, ◌∙◌}
use Rattle.meaning.specs.Table.{number}
use Rattle.meaning.specs.Decode.{rule_end}
use Rattle.rules.specs.Walk.{known, unknown}
use Rattle.rules.proofs.Walks.{place-first, place-next, end-within, named_start, named_none, named_here, named-on}
use Rattle.rules.proofs.walk.find_rule.Goals as goal

pub loop-init : goal.loop-init
loop-init c = let t = c.args.table.bytes.now in
    (c.first_rule-at.ensures ∙ place-first t, named_start t _ _ _ (omega (arith, c.rule_count-end.ensures)) c.first_rule-at.ensures)

pub returns-then-function-f-clause-found : goal.returns-then-function-f-clause-found
returns-then-function-f-clause-found c = let l = c.loop in
    let t = c.args.table.bytes.now in
    let h : l.counter < number t 7 = omega (arith, c.loop-test.true, c.rule_count-end.ensures) in
    known (record { accepted = c.args.table.accepted; index = l.counter; below = h; there = l.invariant.0 })
    (l.invariant.1 ∙ named_here t _ _ _ (omega (arith, c.loop-test.true)) (sym c.function.ensures ∙ c.if-function-f.true))

pub rule_end-at-requires : goal.rule_end-at-requires
rule_end-at-requires c = let l = c.loop in
    end-within c.args.table.bytes.now c.args.table.accepted _ l.counter l.invariant.0 (omega (arith, c.loop-test.true, c.rule_count-end.ensures))

pub loop-preserved : goal.loop-preserved
loop-preserved c = let l = c.loop in
    let t = c.args.table.bytes.now in
    let n = c.rule_count-end.result in
    let e : n - (l.counter + 1) ≡ n - l.counter - 1 = omega arith in (
      c.rule_end-at.ensures ∙ ap (rule_end t) l.invariant.0 ∙ place-next t l.counter,
      rw (e, c.rule_end-at.ensures)
          (l.invariant.1 ∙ named-on t _ _ _ (omega (arith, c.loop-test.true)) (λ q. c.if-function-f.false (c.function.ensures ∙ q))),
    )

pub returns-clause-found : goal.returns-clause-found
returns-clause-found c = unknown (c.loop.invariant.1 ∙ named_none _ _ _ _ (omega (arith, c.loop-test.false)))
