-- `sentence::place_for` meets its contract: what the search found. Assumes nothing.
use Rattle.std.proofs.Common.{rules}
use Rattle.sentence.proofs.Places.{place-found}
use Rattle.sentence.proofs.nodes.place_for.Goals as goal

pub returns : goal.returns
returns c = place-found _ _ c.args.table.accepted c.find_rule.result c.find_rule.ensures.found (λ x e. search rules) c.map_or.ensures
