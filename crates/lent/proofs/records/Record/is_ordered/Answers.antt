-- `lent::records::Record::is_ordered` meets its contract: the first record has no predecessor.
use borrow.Author.Tests.{eq-eqb}
use Rattle.phrase.specs.Phrase.{holds}
use Rattle.lent.proofs.Ordering.{after_first, after_last}
use Rattle.lent.proofs.records.Record.is_ordered.Goals as goal

pub returns-then-self-eq0 : goal.returns-then-self-eq0
returns-then-self-eq0 c = rw (eq-eqb c.args.self.at 0 c.if-self-eq0.true) (holds (after_first _ _ c.if-self-eq0.true))

pub returns-else-self-eq0 : goal.returns-else-self-eq0
returns-else-self-eq0 c = after_last _ _ c.if-self-eq0.false c.saturating_sub.ensures c.comes_before.ensures
