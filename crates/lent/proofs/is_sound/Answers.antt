-- `lent::is_sound` meets its contract: the order, the function and the way are tested one after another.
use Prim.Native.Nat.{ℕ}
use mathlib.Core.Path.{subst}
use mathlib.Core.List.{List}
use denote.Ref.{Bor}
use Rattle.phrase.specs.Phrase.{Decides, fails}
use Rattle.phrase.proofs.Fit.{said-yes, said-no}
use Rattle.lent.specs.Lent.{WayAt}
use Rattle.lent.proofs.Sounding.{order-of, unknown-no, finds-rule, finds-named, finds-none, sound-by}
use Rattle.lent.proofs.is_sound.Goals as goal

pub returns-then-not-is_ordered : goal.returns-then-not-is_ordered
returns-then-not-is_ordered c = fails (λ s. said-no c.is_ordered.ensures c.if-not-is_ordered.true (order-of _ _ _ _ _ s))

pub returns-in_default : goal.returns-in_default
returns-in_default c = fails (unknown-no _ _ _ _ _ c.args.table.accepted (finds-none c.in_default.ensures.found c.number.ensures))

pub returns : goal.returns
returns c = let a = c.args in
    let rule = c.in-Some.rule in
    let found = c.in-Some.ensures.found in
    let after = said-yes c.is_ordered.ensures c.if-not-is_ordered.false in
    let way = subst (λ (b : Bor (List ℕ)). Decides (WayAt b.now a.words.now a.x.chart.now a.count rule.at a.x.at) c.is_way.result) c.in-Some.ensures.of_table c.is_way.ensures in
    sound-by _ _ _ _ _ _ (finds-rule found) (finds-named found c.number.ensures) c.requires after way
