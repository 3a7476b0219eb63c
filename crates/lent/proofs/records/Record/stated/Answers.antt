-- `lent::records::Record::stated` meets its contract: its eight numbers are those of the record.
use Prim.Native.Nat.{◌+◌}
use borrow.Author.Rules.{rules}
use Rattle.lent.specs.Lent.{number_at}
use Rattle.lent.proofs.Statings.{made-each, stated-is}
use Rattle.lent.proofs.records.Record.stated.Goals as goal

pub returns : goal.returns
returns c = let a = c.args.self in
    stated-is a.chart.now a.at c.from_fn.result c.number.ensures c.number-2.ensures
    (made-each _ (λ k. number_at a.chart.now a.at (3 + k)) _ (λ i y q m. search rules) c.from_fn.result 6 c.from_fn.ensures.items)
