-- `Head::missing` meets its contract: a search of the daughters for one that has a constituent left. Assumes nothing.
use Rattle.std.proofs.Common.{◌+◌, rules, refl, sym, ◌∙◌, arith}
use borrow.Author.Tests.{tests}
use mathlib.Core.Bool.{not}
use Rattle.std.proofs.lemmas.Iterator.{YieldsList-from_range}
use Rattle.std.proofs.lemmas.Iterator.Search.{any_from_yields_List}
use Rattle.meaning.specs.Table.{any, missing, dimension_of, daughter_of, rank_of}
use Rattle.table.specs.Views.{used_of}
use Rattle.table.proofs.Laws.{any_range}
use Rattle.table.proofs.head.Head.missing.Goals as goal

pub returns : goal.returns
unfolding missing
returns c =
    let a = c.args in
    any_from_yields_List (λ k. any (dimension_of a.self.table.now (daughter_of a.self.table.now a.self.at (k + 1))) (λ i. not (used_of a.marks.now.used k i)))
    _ _ c.any.result c.any.ensures.ran (YieldsList-from_range 0 c.rank.result _ refl (omega (arith, c.rank.ensures))) (λ x b q k. search (rules, tests))
    ∙ sym (any_range _ (rank_of a.self.table.now a.self.at))
