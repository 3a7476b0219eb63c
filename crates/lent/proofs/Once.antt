-- The check has one answer for each input.
use Prim.Native.Nat.{ℕ, ◌<◌}
use mathlib.Core.Path.{◌≡◌, refl, ap}
use mathlib.Core.List.{List}
use native.Mathlib.Omega.{arith}
use native.Mathlib.Decide.{dec_lt}
use Rattle.meaning.specs.Decode.{grammar_of}
use Rattle.meaning.specs.TreeWriting.{FirstBad}
use Rattle.std.specs.Prelude.{Result, Err}
use Rattle.lent.specs.declared.ChartFault.{ChartFault}
use Rattle.lent.specs.declared.ChartFault.TheVariants.{Bad}
use Rattle.lent.specs.Lent.{Checked, good, many, bad}

module _ (t ws c : List ℕ) (count : ℕ) where
  -- the first bad record is one
  one-first : {i j : ℕ} → FirstBad (grammar_of t) ws c count i → FirstBad (grammar_of t) ws c count j → i ≡ j
  one-first {i} {j} a b = go (dec_lt i j) (dec_lt j i)
    where
      go : Dec (i < j) → Dec (j < i) → i ≡ j
      go (yes l) m = absurd (a.bad (b.sound i l))
      go (no l) (yes m) = absurd (b.bad (a.sound j m))
      go (no l) (no m) = omega arith

  pub one_answer : {r s : Result (Unit {0}) ChartFault} → Checked t ws c count r → Checked t ws c count s → r ≡ s
  one_answer (good p) (good q) = refl
  one_answer (good p) (many m) = absurd (p.few m)
  one_answer (good p) (bad {i = i} b) = absurd (b.bad (p.sound i b.below))
  one_answer (many m) (good q) = absurd (q.few m)
  one_answer (many m) (many n) = refl
  one_answer (many m) (bad b) = absurd (b.few m)
  one_answer (bad {i = i} b) (good q) = absurd (b.bad (q.sound i b.below))
  one_answer (bad b) (many m) = absurd (b.few m)
  one_answer (bad b) (bad d) = ap (λ (i : ℕ). Err (Bad i)) (one-first b d)
