-- `search::level` meets its contract: rule by rule, where a rule that is like one before it is passed over.
use Rattle.phrase.proofs.Fit.{said-yes}
use Rattle.search.proofs.Filling.{goes_on}
use Rattle.search.proofs.Ruling.{ready-none, codes-fine, tried-at, rule-ends, next_place, first-place, rules-begin, rules-same, rules-end, rules-skip, rules-turn, rules-stop}
use Rattle.search.proofs.Likeness.{like-old}
use native.Mathlib.Omega.{arith}
use Rattle.search.proofs.level.Goals as goal
use Rattle.search.proofs.level.Goals.{then-not-has_shape+in_ok-m, else-not-has_shape}

pub loop-i-init : goal.loop-i-init
loop-i-init c = (first-place _ _ c.first_rule-at.ensures, rules-begin (ready-none _))

pub invariant_of-task-clause-codes : goal.invariant_of-task-clause-codes
invariant_of-task-clause-codes c = codes-fine c.requires c.args.table.accepted

pub combine-requires : goal.combine-requires
combine-requires c = record { ready = goes_on (ready-none _) c.loop-i.invariant.1.filled c.loop-i.invariant.1.long }

pub returns-in_err-m : goal.returns-in_err-m
returns-in_err-m c =
    let stops = rw (c.in_err-m.was, c.blank_item.ensures) at c.combine.ensures in
    rw c.from_residual.ensures (rules-stop _ c.loop-i.invariant.1 (tried-at _ _ _ _ _ _ c.loop-i.invariant.0 stops) c.args.table.accepted (omega (arith, c.rule_count-i-end.ensures)))

pub rule_end-at-requires : goal.rule_end-at-requires
rule_end-at-requires c = rule-ends c.requires c.args.table.accepted _ _ (omega (arith, c.rule_count-i-end.ensures)) c.loop-i.invariant.0

pub loop-i-preserved : goal.loop-i-preserved
loop-i-preserved c = (
  next_place _ _ _ _ c.loop-i.invariant.0 c.rule_end-at.ensures,
  elim c.if-not-has_shape.branch [
    | then-not-has_shape+in_ok-m w ↦
        let goes = rw (w.in_ok-m.was, w.blank_item.ensures) at w.combine.ensures in
        rules-same w.fresh-is w.m-is (rules-turn _ c.loop-i.invariant.1 (tried-at _ _ _ _ _ _ c.loop-i.invariant.0 goes) w.combine.auto.fresh)
    | else-not-has_shape w ↦
        let like = said-yes c.has_shape.ensures w.if-not-has_shape.false in
        let old = like-old _ _ _ _ _ c.args.table.accepted (omega (arith, c.rule_count-i-end.ensures)) c.loop-i.invariant.0 like in
        rules-same w.fresh-is w.m-is (rules-skip _ c.loop-i.invariant.1 old)
  ],
)

pub returns : goal.returns
returns c = rules-end _ c.loop-i.invariant.1 c.args.table.accepted (omega (arith, c.rule_count-i-end.ensures))
