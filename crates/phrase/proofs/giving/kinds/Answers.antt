-- `phrase::giving::kinds` meets its contract: two lists of categories are one where their lengths are, and their first three numbers.
use mathlib.Core.Path.{◌≡◌, refl}
use borrow.Author.Tests.{ne_eqb}
use Prim.Native.Nat.{ℕ}
use lib.ListN.{get_or}
use borrow.Author.Rules.{rules}
use Rattle.meaning.specs.Giving.{categories}
use Rattle.meaning.specs.Decode.{rule_at}
use Rattle.phrase.specs.Phrase.{items_of, fails}
use Rattle.phrase.proofs.Fit.{instead, said-yes, said-no, decides_three}
use Rattle.phrase.proofs.RuleThere.{kinds-no, kind-same, kinds-yes}
use Rattle.std.proofs.lemmas.Iterator.{cases_from_all, YieldsList-from_range}
use Rattle.phrase.proofs.giving.kinds.Goals as goal

pub returns-then-min-rank : goal.returns-then-min-rank
returns-then-min-rank c = instead
    (kinds-yes c.args.rule.table.now c.args.rule.at c.args.rule.of_table c.args.d _ _ c.min.ensures c.rank.ensures.0 c.if-min-rank.true)
    (λ e k l. kind-same k e)
    (let P = λ (k : ℕ). get_or (categories (items_of c.args.d)) k 0 ≡ get_or (rule_at c.args.rule.table.now c.args.rule.at).daughters k 0 in
    decides_three P _ (cases_from_all _ _ _ P (λ k. P k → ⊥) c.all.ensures.ran (YieldsList-from_range 0 3 3 refl refl) (λ x q k. search (rules, said-yes)) (λ x q k. search (rules, said-no))))

pub returns-else-min-rank : goal.returns-else-min-rank
returns-else-min-rank c = rw (ne_eqb c.min.result c.rank.result c.if-min-rank.false)
    (fails (kinds-no c.args.rule.table.now c.args.rule.at c.args.rule.of_table c.args.d _ _ c.min.ensures c.rank.ensures.0 c.if-min-rank.false))
