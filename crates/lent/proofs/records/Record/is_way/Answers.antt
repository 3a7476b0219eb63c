-- `lent::records::Record::is_way` meets its contract: each test decides one part of it.
use mathlib.Core.Path.{◌∙◌}
use borrow.Author.Tests.{eq-eqb}
use Rattle.std.proofs.lemmas.Bool.{eqb-true}
use Rattle.phrase.specs.Phrase.{fails}
use Rattle.phrase.proofs.Fit.{decided, said-yes, said-no}
use Rattle.lent.proofs.Judging.{placed_of, given-of, height-of, way_at}
use Rattle.lent.proofs.records.Record.is_way.Goals as goal

pub returns-then-not-are_placed : goal.returns-then-not-are_placed
returns-then-not-are_placed c = fails (λ w. said-no c.are_placed.ensures c.if-not-are_placed.true (placed_of _ _ _ _ _ _ _ c.rank-rank.ensures.0 w))

pub returns-then-fits : goal.returns-then-fits
returns-then-fits c = let rank = c.rank-rank.ensures.0 in
    let x = c.stated-item.ensures in
    let d = c.daughters-d.ensures in
    let most = c.from-then-fits.ensures ∙ c.tallest.ensures in
    let placed = said-yes c.are_placed.ensures c.if-not-are_placed.false in
    let given = said-yes c.fits.ensures c.if-fits.true in
    decided _
    (λ w. eq-eqb _ _ (height-of _ _ _ _ _ _ _ rank _ _ x d _ _ c.from.ensures most w))
    (λ e. way_at _ _ _ _ _ _ _ rank _ _ x d _ _ c.from.ensures most placed given (eqb-true _ _ e))

pub returns-else-fits : goal.returns-else-fits
returns-else-fits c =
    rw c.if-fits.false
    (fails (λ w. said-no c.fits.ensures c.if-fits.false (given-of _ _ _ _ _ _ _ c.rank-rank.ensures.0 _ _ c.stated-item.ensures c.daughters-d.ensures w)))
