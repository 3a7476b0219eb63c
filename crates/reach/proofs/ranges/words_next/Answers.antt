-- `reach::ranges::words_next` meets its contract. The invariant: what is left to try is past what has been tried.
use Prim.Native.Nat.{ℕ}
use native.Mathlib.Omega.{arith}
use borrow.Author.Rules.{rules}
use Rattle.reach.proofs.Next.{low-all, gone-first, gone-found, gone-on, gone-all}
use Rattle.reach.proofs.ranges.words_next.Goals as goal

pub loop-s-init : goal.loop-s-init
loop-s-init c = gone-first _ _ _ _ (low-all c.args.sets.now (λ (s : ℕ). search rules)) c.requires.2 c.saturating_sub-from.ensures

pub returns-in-Some : goal.returns-in-Some
returns-in-Some c = gone-found _ _ _ _ (low-all c.args.sets.now (λ (s : ℕ). search rules)) c.loop-s-test.true c.loop-s.invariant c.in-Some.ensures

pub loop-s-preserved : goal.loop-s-preserved
loop-s-preserved c = gone-on _ _ _ _ (low-all c.args.sets.now (λ (s : ℕ). search rules)) c.loop-s.invariant c.in_default.ensures

pub returns : goal.returns
returns c = gone-all _ _ _ _ (omega arith) c.loop-s.invariant
