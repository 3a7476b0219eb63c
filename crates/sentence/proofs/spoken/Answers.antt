-- `sentence::spoken` meets its contract: too many nodes, or what `judge` answers of the list's nodes. Assumes nothing.
use Rattle.meaning.specs.SentenceWriting.{too_many}
use Rattle.sentence.proofs.Told.{judge-needs, answered-at}
use Rattle.sentence.proofs.spoken.Goals as goal

pub returns-then-list-gt255 : goal.returns-then-list-gt255
returns-then-list-gt255 c = too_many c.args.table.accepted c.if-list-gt255.true

pub invariant_of-nodes : goal.invariant_of-nodes
invariant_of-nodes c = let a = c.args in
    record { within = (judge-needs a.table.bytes.now a.table.accepted a.list.now c.if-list-gt255.false c.note.ensures).0 }

pub judge-requires : goal.judge-requires
judge-requires c = let a = c.args in (judge-needs a.table.bytes.now a.table.accepted a.list.now c.if-list-gt255.false c.note.ensures).1

pub returns : goal.returns
returns c = let a = c.args in
    answered-at a.table.bytes.now a.table.accepted a.list.now c.if-list-gt255.false a.text.now c.note.ensures c.judge.ensures
