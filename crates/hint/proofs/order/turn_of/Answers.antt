-- `hint::order::turn_of` meets its contract: a daughter that a row names has its turn; else the first of three that is open, if one is.
use mathlib.Core.Bool.{true, false}
use mathlib.Core.Path.{refl, subst}
use Prim.Native.Nat.{ℕ, ◌<◌}
use Rattle.std.proofs.Common.{rules}
use Rattle.std.proofs.lemmas.Iterator.{first_from_Range}
use Rattle.phrase.specs.Phrase.{Decides}
use Rattle.phrase.proofs.Fit.{said-yes, said-no}
use Rattle.hint.specs.Hint.{Open, next_is}
use Rattle.hint.proofs.Moving.{first-turns}
use Rattle.hint.proofs.order.turn_of.Goals as goal

pub returns-in-Some : goal.returns-in-Some
returns-in-Some c = next_is c.in-Some.ensures.0 c.in-Some.ensures.1

pub returns : goal.returns
returns c =
    let d = c.args.d in
    let P : ℕ → Type 0 = λ k. (k < d.count) × Open d k in
    first-turns d _ c.requires
    (first_from_Range _ _ _ _ P (λ k. P k → ⊥) c.find.ensures.ran
    (λ x q k. let o : Decides (P k.shown.now) true = search rules in subst P k.shows (said-yes o refl))
    (λ x q k. let o : Decides (P k.shown.now) false = search rules in (search rules, subst (λ k. P k → ⊥) k.shows (said-no o refl))))
