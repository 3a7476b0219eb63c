-- `tree::writing::rank_of` meets its contract: the rule's fourth byte is its rank, and where there is no rule it is 0.
use mathlib.Core.Path.{ap}
use Rattle.std.proofs.lemmas.Option.{IfSome_then}
use Rattle.tree.proofs.Ranks.{rank-found}
use Rattle.tree.proofs.writing.rank_of.Goals as goal

pub returns : goal.returns
returns c =
    rank-found c.find_rule.result c.find_rule.ensures.found (IfSome_then c.find_rule.result c.find_rule.ensures.of_table (λ x e. ap (λ b. b.now) e)) c.map_or.ensures
