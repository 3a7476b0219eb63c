use Rattle.search.proofs.Ruling.{trying-none}
use Rattle.search.proofs.task.Task.combine.Goals as goal

pub extend-requires-clause-trying : goal.extend-requires-clause-trying
extend-requires-clause-trying c = rw (c.none_of.ensures, c.rank-rank.ensures.0) (trying-none _ c.args.self.now.rule.of_table)
