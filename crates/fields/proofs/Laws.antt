-- What a callee answered, and a counted loop whose turns are steps of `times`.
use Prim.Native.Nat.{ℕ, suc, ◌+◌, ◌-◌, ◌≤◌, ◌<◌}
use mathlib.Core.Path.{◌≡◌, sym, ap, ◌∙◌}
use native.Mathlib.Omega.{arith}
use Rattle.meaning.specs.declared.Refusal.{Refusal}
use Rattle.meaning.specs.Table.{Got, got, refused, ◌>>=◌, times}

-- what a callee answered, where a match has shown it
pub knew : {A B : Type 0} (f : A → B) {r v : A} {x : B} → f r ≡ x → r ≡ v → x ≡ f v
knew f e g = sym e ∙ ap f g

-- what a callee's flag says, where a test has shown it
pub told : {A : Type 0} {r x b : A} → r ≡ x → r ≡ b → x ≡ b
told e g = sym e ∙ g

-- a loop that counts up to n, each turn a step of `times`: what is left of it after i turns
module _ {S : Type 0} (f : S → Got S) (n i : ℕ) (s : S) where
  turn : i < n → times (n - i) f s ≡ f s >>= times (n - (i + 1)) f
  unfolding times
  turn h = let e : n - i ≡ suc (n - (i + 1)) = omega arith in ap (λ (m : ℕ). times m f s) e

  pub turns_over : n ≤ i → times (n - i) f s ≡ got s
  unfolding times
  turns_over h = let e : n - i ≡ 0 = omega arith in rw e

  pub turn_passed : (s' : S) → i < n → got s' ≡ f s → times (n - i) f s ≡ times (n - (i + 1)) f s'
  turn_passed s' h e = turn h ∙ rw (← e)

  pub turn_refused : (r : Refusal) → i < n → refused r ≡ f s → times (n - i) f s ≡ refused r
  turn_refused r h e = turn h ∙ rw (← e)

pub ruleset turns = (turns_over, turn_passed, turn_refused)
