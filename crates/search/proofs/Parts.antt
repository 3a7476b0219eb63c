-- Laws of two parts of a sorted set: where they stand.
use mathlib.Core.Logic.{inl, inr, ⊎_elim}
use mathlib.Core.List.{List}
use Prim.Native.Nat.{ℕ, ◌<◌, ◌≤◌}
use native.Mathlib.Omega.{arith}
use lib.ListN.{length, get_or}
use Rattle.store.specs.Set.{Lower, Within}
use Rattle.store.proofs.Laws.{lt-or-ge}
use Rattle.search.specs.Spots.{Finds}

module _ {K : List ℕ} {low high lo hi : ℕ} (u : Lower K low lo) (v : Lower K high hi) where
  pub lower-rise : low ≤ high → lo ≤ hi
  lower-rise h = ⊎_elim (λ l. absurd (omega (arith, u.below hi l, v.above hi (omega arith) (omega (arith, u.within))))) (λ g. g) (lt-or-ge hi lo)

  pub lower-within : (p : ℕ) → p < length K → Within low high (get_or K p 0) → (lo ≤ p) × (p < hi)
  lower-within p l w = (
    ⊎_elim (λ z. absurd (omega (arith, u.below p z, w.above))) (λ z. z) (lt-or-ge p lo),
    ⊎_elim (λ z. z) (λ z. absurd (omega (arith, v.above p z l, w.below))) (lt-or-ge p hi),
  )

pub finds : {K : List ℕ} {low high low2 high2 : ℕ} (lo gap resume hi : ℕ) → Lower K low lo → Lower K high gap → Lower K low2 resume → Lower K high2 hi → low ≤ high → high ≤ low2 → low2 ≤ high2
    → Finds K low high low2 high2 (record { lo = lo; gap = gap; resume = resume; hi = hi })
finds lo gap resume hi a b c d h k l = record {
  ordered = record { one = lower-rise a b h; two = lower-rise b c k; three = lower-rise c d l };
  end = d.within;
  has = λ p n w. ⊎_elim (λ x. inl (lower-within a b p n x)) (λ x. inr (lower-within c d p n x)) w;
}
