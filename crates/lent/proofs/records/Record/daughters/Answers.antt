-- `lent::records::Record::daughters` meets its contract: its daughters are what is stated at the three places.
use Rattle.lent.proofs.Statings.{daughters-are}
use Rattle.lent.proofs.records.Record.daughters.Goals as goal

pub returns : goal.returns
returns c = let a = c.args.self in
    daughters-are a.chart.now a.at _ c.daughter.ensures c.daughter-2.ensures c.daughter-3.ensures
