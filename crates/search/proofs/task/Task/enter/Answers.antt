use Rattle.search.proofs.Filling.{entered-known, entered-put}
use Rattle.store.proofs.Sets.{held-yes, held-not}
use native.Mathlib.Omega.{arith}
use Rattle.search.proofs.task.Task.enter.Goals as goal

pub returns-then-has : goal.returns-then-has
returns-then-has c = entered-known c.args.key (omega (arith, c.args.self.now.high)) c.requires.ready (held-yes c.has.ensures c.if-has.true)

pub returns : goal.returns
returns c = entered-put c.args.key (omega (arith, c.args.self.now.high)) c.requires.ready (held-not c.has.ensures c.if-has.false) (rw c.from.ensures at c.put.ensures)
