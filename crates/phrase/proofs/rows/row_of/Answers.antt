-- `phrase::rows::row_of` meets its contract. The loop's invariant: this is the place of the row with the count's number.
use Prim.Native.Nat.{ℕ}
use mathlib.Core.Path.{◌≡◌, refl, ap, sym, ◌∙◌}
use native.Mathlib.Omega.{arith}
use native.Mathlib.Numerals.{add-one}
use Rattle.meaning.specs.Decode.{past, row_end, rows_of}
use Rattle.meaning.proofs.Ends.{past-suc}
use Rattle.meaning.proofs.Places.{past-none, rows_are}
use Rattle.rules.proofs.RuleThere.{head_in}
use Rattle.phrase.proofs.RuleThere.{row-past, row_inside, row-at-place}
use Rattle.phrase.proofs.rows.row_of.Goals as goal

pub returns-then-dimension-i-clause-row : goal.returns-then-dimension-i-clause-row
returns-then-dimension-i-clause-row c = let a = c.args.rule in row-past a.table.now a.at a.of_table _ (omega (arith, c.dimension.ensures))

pub overflow_add-at : goal.overflow_add-at
overflow_add-at c = let a = c.args.rule in omega (arith, head_in a.table.now a.at a.of_table)

pub overflow_add-at-2 : goal.overflow_add-at-2
overflow_add-at-2 c = let a = c.args.rule in omega (arith, head_in a.table.now a.at a.of_table, c.rank.ensures.0)

pub loop-init : goal.loop-init
loop-init c = let a = c.args.rule in
    omega (arith, c.rank.ensures.0, rows_are a.table.now a.at, past-none 0 (row_end a.table.now) (rows_of a.table.now a.at) refl)

pub invariant_of-end : goal.invariant_of-end
invariant_of-end c = let a = c.args.rule in
    record { inside = row_inside a.table.now a.at a.of_table c.loop.counter c.loop.at (omega (arith, c.dimension.ensures, c.loop-test.true)) c.loop.invariant }

pub loop-preserved : goal.loop-preserved
loop-preserved c = let a = c.args.rule in
    c.end-at.ensures ∙ ap (row_end a.table.now) c.loop.invariant
    ∙ sym (ap (λ (n : ℕ). past n (row_end a.table.now) (rows_of a.table.now a.at)) (add-one c.loop.counter) ∙ past-suc c.loop.counter (row_end a.table.now) (rows_of a.table.now a.at))

pub invariant_of-result : goal.invariant_of-result
invariant_of-result c = let a = c.args.rule in
    record { inside = row_inside a.table.now a.at a.of_table c.loop.counter c.loop.at (omega (arith, c.dimension.ensures)) c.loop.invariant }

pub returns-clause-row : goal.returns-clause-row
returns-clause-row c = let a = c.args.rule in
    let e : c.loop.counter ≡ c.args.i = omega arith in
    row-at-place a.table.now a.at a.of_table c.args.i _ (omega (arith, c.dimension.ensures)) refl
    (c.loop.invariant ∙ ap (λ (n : ℕ). past n (row_end a.table.now) (rows_of a.table.now a.at)) e)
