use mathlib.Core.Path.{refl, ap, ◌∙◌}
use Rattle.meaning.specs.Table.{number}
use Rattle.chosen.proofs.Picking.{code-small, order-few, walking, somewhere, found_below, found_small, picked}
use native.Mathlib.Omega.{arith}
use Rattle.chosen.proofs.choice_of.Goals as goal

pub unpack-requires : goal.unpack-requires
unpack-requires c = code-small c.requires

pub walk-requires : goal.walk-requires
walk-requires c = walking c.requires _ c.unpack.ensures

pub unwrap-way-requires : goal.unwrap-way-requires
unwrap-way-requires c = somewhere c.requires c.unpack.ensures c.walk.ensures

pub offset_bounds-order-way : goal.offset_bounds-order-way
offset_bounds-order-way c = omega (arith, found_below c.requires c.unpack.ensures (rw c.unwrap-way.ensures at c.walk.ensures), order-few c.requires)

pub bounds-order-way : goal.bounds-order-way
bounds-order-way c = found_below c.requires c.unpack.ensures (rw c.unwrap-way.ensures at c.walk.ensures)

pub overflow_cast-result : goal.overflow_cast-result
overflow_cast-result c = omega (arith, (found_small c.requires c.unpack.ensures (rw c.unwrap-way.ensures at c.walk.ensures)).0)

pub overflow_cast-result-2 : goal.overflow_cast-result-2
overflow_cast-result-2 c = omega (arith, (found_small c.requires c.unpack.ensures (rw c.unwrap-way.ensures at c.walk.ensures)).1)

pub overflow_cast-result-3 : goal.overflow_cast-result-3
overflow_cast-result-3 c = omega (arith, (found_small c.requires c.unpack.ensures (rw c.unwrap-way.ensures at c.walk.ensures)).2)

pub returns : goal.returns
returns c = picked c.requires c.unpack.ensures (rw c.unwrap-way.ensures at c.walk.ensures) _ (c.number_at.ensures ∙ ap (number _) c.from.ensures) refl refl refl
