-- `phrase::giving::fits` meets its contract: an item is given where its category, its daughters' kinds and its three ranges are.
use Prim.Native.Nat.{ℕ}
use mathlib.Core.Path.{refl, sym, ◌∙◌}
use borrow.Author.Rules.{rules}
use Rattle.std.proofs.lemmas.Iterator.{cases_from_all, YieldsList-from_range}
use Rattle.std.proofs.lemmas.Bool.{eqb-true}
use Rattle.meaning.specs.Range as range
use Rattle.phrase.specs.Phrase.{item_of, row_of, fails, Has}
use Rattle.phrase.proofs.Fit.{instead, said-yes, said-no, decides_three}
use Rattle.phrase.proofs.RuleThere.{give, gives-kind}
use Rattle.phrase.proofs.giving.fits.Goals as goal
use Rattle.phrase.proofs.giving.fits.Goals.{then-x-category, else-x-category}

pub returns-then-kinds : goal.returns-then-kinds
returns-then-kinds c = let a = c.args in
    let rule = a.rule in
    elim c.if-x-category.branch [
      | then-x-category w ↦
          let P = λ (i : ℕ). Has a.words.now a.d (row_of rule.table.now rule.at i) (range.at (item_of a.x) i) in
          let kind = w.if-x-category.true ∙ c.category.ensures.0 in
          let kinds = said-yes w.kinds.ensures (sym w.value-is ∙ c.if-kinds.true) in
          let each = YieldsList-from_range 0 3 3 refl refl in
          instead (give rule.table.now rule.at rule.of_table a.d a.words.now a.x kind kinds) (λ g i l. g.rows i)
          (decides_three P _ (cases_from_all _ _ _ P (λ i. P i → ⊥) c.all.ensures.ran each (λ x q k. search (rules, said-yes)) (λ x q k. search (rules, said-no))))
      | else-x-category w ↦ absurd (w.if-x-category.false (eqb-true _ _ (sym w.value-is ∙ c.if-kinds.true)))
    ]

pub returns-else-kinds : goal.returns-else-kinds
returns-else-kinds c = let a = c.args in
    let rule = a.rule in
    elim c.if-x-category.branch [
      | then-x-category w ↦ rw c.if-kinds.false (fails (λ g. said-no w.kinds.ensures (sym w.value-is ∙ c.if-kinds.false) g.kinds))
      | else-x-category w ↦ rw c.if-kinds.false (fails (λ g. w.if-x-category.false (gives-kind rule.table.now rule.at rule.of_table a.d a.words.now a.x g ∙ sym c.category.ensures.0)))
    ]
