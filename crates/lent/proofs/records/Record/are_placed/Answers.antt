-- `lent::records::Record::are_placed` meets its contract: three places are tested.
use mathlib.Core.Path.{refl}
use borrow.Author.Rules.{rules}
use Rattle.std.proofs.lemmas.Iterator.{cases_from_all, YieldsList-from_range}
use Rattle.phrase.proofs.Fit.{said-yes, said-no, decides_three}
use Rattle.lent.specs.Lent.{Placed}
use Rattle.lent.proofs.records.Record.are_placed.Goals as goal

pub returns : goal.returns
returns c = let P = Placed c.args.self.chart.now c.args.count c.args.self.at c.args.rank in
    let each = YieldsList-from_range 0 3 3 refl refl in
    decides_three P _ (cases_from_all _ _ _ P (λ k. P k → ⊥) c.all.ensures.ran each (λ x q k. search (rules, said-yes)) (λ x q k. search (rules, said-no)))
