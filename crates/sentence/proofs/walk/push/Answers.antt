-- The daughters that are left, over what is on the stack, are all the daughters over what was on it.
use mathlib.Core.Path.{◌≡◌, sym, ap, ◌∙◌}
use Prim.Native.Nat.{◌+◌, ◌-◌, ◌<◌}
use native.Mathlib.Omega.{arith}
use lib.ListN.{length, length-set}
use Rattle.sentence.proofs.Walks.{push-turn, push-end, push-all}
use Rattle.sentence.proofs.walk.push.Goals as goal

pub loop-k-preserved : goal.loop-k-preserved
loop-k-preserved c =
    let a = c.args in
    let l = c.loop-k in
    let n = c.from-rank.result in
    let h : a.wanted + l.k < length l.stack = omega (arith, c.requires, l.invariant.1, l.invariant.2, c.loop-k-test.true) in
    let e : n - l.k - 1 ≡ n - (l.k + 1) = omega arith in
    let f : a.wanted + l.k + 1 ≡ a.wanted + (l.k + 1) = omega arith in (
      l.invariant.0 ∙ rw (← e, ← f) (push-turn a.table.now a.rule (n - l.k) (a.wanted + l.k) _ l.stack (omega (arith, c.loop-k-test.true)) h c.byte_at-in-loop-k.ensures.0),
      l.invariant.1,
      simp length-set l.invariant.2,
    )

pub returns : goal.returns
returns c =
    let a = c.args in
    let l = c.loop-k in
    let n = c.from-rank.result in
    let e : l.k ≡ n = omega (arith, c.loop-k-test.false) in
    let all = push-all a.table.now a.rule a.wanted a.stack.now ∙ l.invariant.0 ∙ push-end a.table.now a.rule (n - l.k) (a.wanted + l.k) l.stack (omega arith) in
    record { count = ap (λ k. a.wanted + k) l.invariant.1; stack = sym (rw e at all) }
