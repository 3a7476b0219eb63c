use Rattle.search.proofs.Choosing.{kind-small, spots-are}
use native.Mathlib.Omega.{arith}
use Rattle.search.proofs.trying.spots_for.Goals as goal

pub reach_of-requires : goal.reach_of-requires
reach_of-requires c = omega (arith, kind-small _ _ c.args.rule.of_table _ c.requires.0, c.wanted.ensures)

pub returns : goal.returns
returns c = spots-are _ _ c.args.rule.of_table _ c.requires.0 _ c.wanted.ensures c.reach_of.ensures c.spots_of.ensures
