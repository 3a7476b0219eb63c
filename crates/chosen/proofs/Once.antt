-- The choice is determined: any two that the contract of `choice_of` allows are equal.
use mathlib.Core.Path.{◌≡◌, ap, sym, ◌∙◌}
use mathlib.Core.List.{List, ◌∷◌}
use Prim.Native.Nat.{ℕ}
use lib.ListN.{get_or}
use Rattle.meaning.proofs.Order.{lex-total}
use Rattle.chosen.specs.declared.Choice.{Choice}
use Rattle.chosen.specs.Chosen.{Chooses}

pub chooses-once : {t ws K : List ℕ} {code : ℕ} {r s : Choice} → Chooses t ws K code r → Chooses t ws K code s → r ≡ s
chooses-once {r = r} {s = s} R S =
    let l : r.function ∷ R.places ≡ s.function ∷ S.places =
    lex-total _ _ (S.chosen.first r.function R.places R.chosen.way) (R.chosen.first s.function S.places S.chosen.way) in
    let f : r.function ≡ s.function = cc in
    let p : R.places ≡ S.places = cc in
    let one : r.one ≡ s.one = R.one ∙ ap (λ (l : List ℕ). get_or l 0 0) p ∙ sym S.one in
    let two : r.two ≡ s.two = R.two ∙ ap (λ (l : List ℕ). get_or l 1 0) p ∙ sym S.two in
    let three : r.three ≡ s.three = R.three ∙ ap (λ (l : List ℕ). get_or l 2 0) p ∙ sym S.three in
    λ i. record { function = f i; one = one i; two = two i; three = three i }
