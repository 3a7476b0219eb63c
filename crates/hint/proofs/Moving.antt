-- The daughter whose turn it is, and where a symbol of a row stands.
use mathlib.Core.Path.{◌≡◌, subst}
use mathlib.Core.List.{List, [], ◌∷◌}
use Prim.Native.Nat.{ℕ, ◌≤◌, ◌<◌}
use native.Mathlib.Omega.{arith}
use Rattle.std.specs.Prelude.{Option, Some, None, MatchOption}
use Rattle.meaning.specs.Range.{Range, Spans}
use Rattle.meaning.specs.Grammar.{Symbol, word, part}
use Rattle.meaning.specs.Giving.{Stands}
use Rattle.phrase.specs.declared.items.Daughters.{Daughters}
use Rattle.hint.specs.Hint.{Open, Partial, Turns, next_is, all_chosen}

-- the first of three daughters that is open has its turn
pub first-turns : (d : Daughters) (r : Option ℕ) → Partial d
    → MatchOption r ((k : ℕ) → 0 ≤ k → k < 3 → (k < d.count) × Open d k → ⊥)
    (λ k. (0 ≤ k) × (k < 3) × ((k < d.count) × Open d k) × ((j : ℕ) → 0 ≤ j → j < k → (j < d.count) × Open d j → ⊥)) → Turns d r
first-turns d (Some k) p h = next_is h.2.0 h.2.1
first-turns d None p h = all_chosen (λ k l o. let b = p.few in h k (omega arith) (omega arith) (l, o))

-- where a symbol that is a word, or a part, stands
module _ (ws : List ℕ) (e : ℕ → ℕ → Range) (p : Range) {x : Symbol} where
  pub stands_word : {w : ℕ} → x ≡ word w → Stands ws e x p → Spans ws p (w ∷ [])
  unfolding Stands
  stands_word q h = subst (λ (x : Symbol). Stands ws e x p) q h

  pub stands-part : {k c : ℕ} → x ≡ part k c → Stands ws e x p → p ≡ e k c
  unfolding Stands
  stands-part {k} {c} q h = let h' : Stands ws e (part k c) p = subst (λ (x : Symbol). Stands ws e x p) q h in h'.0
