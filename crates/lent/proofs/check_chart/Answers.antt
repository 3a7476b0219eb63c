-- `lent::check_chart` meets its contract: all records before record i are sound.
use native.Mathlib.Omega.{arith}
use mathlib.Core.Logic.{inl, inr}
use Rattle.phrase.proofs.Fit.{said-yes, said-no}
use Rattle.lent.specs.Lent.{good, many, bad}
use Rattle.lent.proofs.Sounding.{few-enough}
use Rattle.std.proofs.Common.{below_more}
use Rattle.lent.proofs.check_chart.Goals as goal
use Rattle.lent.proofs.check_chart.Goals.{then-count-gt-MOST-via-then-count-gt-MOST, then-count-gt-MOST-via-else-count-gt-MOST+then-chart-count}

pub returns-then-count-gt-MOST : goal.returns-then-count-gt-MOST
returns-then-count-gt-MOST c = elim c.then-count-gt-MOST.branch [
  | then-count-gt-MOST-via-then-count-gt-MOST w ↦ many (inl (omega arith))
  | then-count-gt-MOST-via-else-count-gt-MOST+then-chart-count w ↦ many (inr w.if-chart-count.true)
]

pub returns-then-not-is_sound : goal.returns-then-not-is_sound
returns-then-not-is_sound c = let few = few-enough c.args.chart.now _ c.if-count-gt-MOST.false c.if-chart-count.false in
    bad (record { few = few; below = c.loop-i-test.true; sound = c.loop-i.invariant; bad = said-no c.is_sound.ensures c.if-not-is_sound.true })

pub loop-i-preserved : goal.loop-i-preserved
loop-i-preserved c = below_more _ _ c.loop-i.invariant (said-yes c.is_sound.ensures c.if-not-is_sound.false)

pub returns : goal.returns
returns c = let few = few-enough c.args.chart.now _ c.if-count-gt-MOST.false c.if-chart-count.false in
    good (record { few = few; sound = λ i h. c.loop-i.invariant i (omega arith) })
