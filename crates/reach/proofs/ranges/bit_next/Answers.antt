-- `reach::ranges::bit_next` meets its contract: the first number of those below 64 that is in the set.
use mathlib.Core.Bool.{true, false}
use mathlib.Core.Path.{refl, subst}
use Rattle.std.proofs.Common.{rules}
use Rattle.std.proofs.lemmas.Iterator.{first_from_Range}
use Rattle.phrase.specs.Phrase.{Decides}
use Rattle.phrase.proofs.Fit.{said-yes, said-no}
use Rattle.reach.specs.Bits.{Bit}
use Rattle.reach.proofs.Next.{bit-first, bit-zero}
use Rattle.reach.proofs.ranges.bit_next.Goals as goal

pub returns-then-set-eq0 : goal.returns-then-set-eq0
returns-then-set-eq0 c = bit-zero _ c.if-set-eq0.true

pub returns : goal.returns
returns c =
    let set = c.args.set in
    bit-first set c.args.from _
    (first_from_Range _ _ _ _ (Bit set) (λ k. Bit set k → ⊥) c.find.ensures.ran
    (λ x q k. let o : Decides (Bit set k.shown.now) true = search rules in subst (Bit set) k.shows (said-yes o refl))
    (λ x q k. let o : Decides (Bit set k.shown.now) false = search rules in (search rules, subst (λ k. Bit set k → ⊥) k.shows (said-no o refl))))
