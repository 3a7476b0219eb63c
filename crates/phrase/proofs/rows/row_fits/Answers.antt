-- `phrase::rows::row_fits` meets its contract: a range of the row is what the row makes from that range's own start.
use mathlib.Core.Path.{refl}
use Rattle.phrase.specs.Phrase.{range_of}
use Rattle.phrase.proofs.Fit.{empty-fits, same_range, same_join, made-fits}
use Rattle.phrase.proofs.rows.row_fits.Goals as goal

pub returns-in-None : goal.returns-in-None
returns-in-None c = let a = c.args in
    rw c.in-None.is (empty-fits a.words.now a.d (range_of a.r) (rw c.eq.ensures (same_range a.r _)))

pub returns-in-Some : goal.returns-in-Some
returns-in-Some c = let a = c.args in
    rw c.in-Some.is (made-fits a.words.now a.d _ _ (range_of a.r) c.row_from.ensures (rw c.eq-in-Some.ensures (same_join _ (λ p q. refl) c.row_from.result a.r)))
