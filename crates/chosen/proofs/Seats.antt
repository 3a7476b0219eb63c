-- The daughters of a function that are chosen at places: how many there are, which are still free, and that what leads with one more leads without it.
use mathlib.Core.Path.{◌≡◌, ◌∙◌}
use mathlib.Core.List.{List}
use Prim.Native.Nat.{ℕ, ◌<◌, ◌≤◌}
use native.Mathlib.Omega.{arith}
use lib.ListN.{get_or}
use Rattle.meaning.specs.Table.{rank_of}
use Rattle.phrase.specs.declared.items.Item.{Item as CodedItem}
use Rattle.hint.specs.Hint.{Open}
use Rattle.search.proofs.Ruling.{open_none}
use Rattle.chosen.specs.Walk.{Leads, Works, rule_of, zeroth, first, second, third}
use Rattle.chosen.proofs.Leading.{taken-count, open-later, back}

module _ (t ws order K : List ℕ) (goal : CodedItem) (f : ℕ) where
  abbrev pub rank : ℕ
  rank = rank_of t (rule_of t ws order K goal f)

  pub count₁ : (a : ℕ) → (first t ws order K goal f a).count ≡ rank
  count₁ a = taken-count (zeroth t ws order K goal f) 0 (get_or K a 0)

  pub count₂ : (a b : ℕ) → (second t ws order K goal f a b).count ≡ rank
  count₂ a b = taken-count (first t ws order K goal f a) 1 (get_or K b 0) ∙ count₁ a

  pub count₃ : (a b c : ℕ) → (third t ws order K goal f a b c).count ≡ rank
  count₃ a b c = taken-count (second t ws order K goal f a b) 2 (get_or K c 0) ∙ count₂ a b

  pub open₁ : (a j : ℕ) → j < 3 → (j ≡ 0 → ⊥) → Open (first t ws order K goal f a) j
  open₁ a j l n = open-later (zeroth t ws order K goal f) 0 j (get_or K a 0) (omega arith) l n (open_none rank j)

  pub open₂ : (a b : ℕ) → Open (second t ws order K goal f a b) 2
  open₂ a b =
      open-later (first t ws order K goal f a) 1 2 (get_or K b 0) (omega arith) (omega arith) (λ e. omega arith)
      (open₁ a 2 (omega arith) (λ e. omega arith))

  module _ (few : rank ≤ 3) {a b c : ℕ} (w : Works t ws order K goal f a b c) where
    pub lead₂ : Leads t ws (rule_of t ws order K goal f) goal (second t ws order K goal f a b)
    lead₂ = back (second t ws order K goal f a b) 2 (get_or K c 0) (omega (arith, few, count₂ a b)) (open₂ a b) w.leads

    pub lead₁ : Leads t ws (rule_of t ws order K goal f) goal (first t ws order K goal f a)
    lead₁ =
        back (first t ws order K goal f a) 1 (get_or K b 0) (omega (arith, few, count₁ a)) (open₁ a 1 (omega arith) (λ e. omega arith)) lead₂
