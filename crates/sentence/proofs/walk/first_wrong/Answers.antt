-- The walk from the root is the walk from here on. A node takes one wanted category and puts at most three.
use mathlib.Core.Path.{refl, sym, ap, ◌∙◌}
use mathlib.Core.List.{List, ◌∷◌, []}
use Prim.Native.Nat.{ℕ, ◌+◌, ◌≤◌}
use native.Mathlib.Omega.{arith}
use lib.ListN.{get_or, drop}
use Rattle.meaning.specs.SentenceWriting.{walk}
use Rattle.table.specs.Views.{firsts}
use Rattle.sentence.specs.Nodes.{rule_of}
use Rattle.sentence.proofs.Walks.{walk-over, walk-end, walk-unknown, walk-other, walk-on}
use Rattle.sentence.proofs.walk.first_wrong.Goals as goal
use Rattle.sentence.proofs.walk.first_wrong.Goals.{then-wanted-eq0-via-then-wanted-eq0, then-wanted-eq0-via-else-wanted-eq0+then-rule-eq0}
use Rattle.sentence.proofs.walk.first_wrong.Goals.{then-wanted-eq0-via-else-wanted-eq0+else-rule-eq0+then-byte_at-stack}

pub loop-i-init : goal.loop-i-init
unfolding firsts
loop-i-init c =
    let a = c.args.nodes in
    (ap (λ (x : ℕ). walk (rule_of a.table.now) 0 (x ∷ []) a.places.now) (sym c.byte_at.ensures.0), omega arith, refl)

pub returns-then-wanted-eq0 : goal.returns-then-wanted-eq0
returns-then-wanted-eq0 c =
    let l = c.loop-i in
    let h = c.loop-i-test.true in
    sym (
    l.invariant.0
    ∙ elim c.then-wanted-eq0.branch [
      | then-wanted-eq0-via-then-wanted-eq0 w ↦ walk-over _ _ _ _ _ w.if-wanted-eq0.true h
      | then-wanted-eq0-via-else-wanted-eq0+then-rule-eq0 w ↦ walk-unknown _ _ _ _ _ (omega (arith, w.if-wanted-eq0.false)) h w.if-rule-eq0.true
      | then-wanted-eq0-via-else-wanted-eq0+else-rule-eq0+then-byte_at-stack w ↦
          walk-other _ _ _ _ _ (omega (arith, w.if-wanted-eq0.false)) h (omega (arith, w.if-rule-eq0.false))
          (λ e. w.if-byte_at-stack.true (w.byte_at-else-rule-eq0.ensures.0 ∙ e))
    ]
    )

pub loop-i-preserved : goal.loop-i-preserved
loop-i-preserved c =
    let t = c.args.nodes.table.now in
    let ns = c.args.nodes.places.now in
    let l = c.loop-i in
    let e = sym c.byte_at-else-rule-eq0.ensures.0 ∙ c.if-byte_at-stack.false in
    let h = c.loop-i-test.true in
    let p : 1 ≤ get_or ns l.i 0 = omega (arith, c.if-rule-eq0.false) in
    let on = walk-on t ns l.i l.wanted l.stack (omega (arith, c.if-wanted-eq0.false)) h p e in (
      l.invariant.0 ∙ on ∙ ap (λ (s : List ℕ). walk (rule_of t) (l.i + 1) s (drop (l.i + 1) ns)) (sym c.push-wanted.ensures.stack),
      omega (arith, c.push-wanted.ensures.count, (c.args.nodes.within.fine l.i p).rank, l.invariant.1, c.if-wanted-eq0.false),
      c.push-wanted.auto.stack ∙ l.invariant.2,
    )

pub returns : goal.returns
returns c =
    let l = c.loop-i in
    rw c.then_some.ensures (walk-end _ _ _ _ _ (omega (arith, l.auto.i-end, c.loop-i-test.false)) ∙ sym l.invariant.0)
