-- Rows: from what a row makes from a start to the ranges that it can have, and the search for the first of them.
use Prim.Native.Nat.{ℕ, ◌≤◌, ◌<◌}
use mathlib.Core.Path.{◌≡◌, refl, sym, ap, ◌∙◌, subst}
use mathlib.Core.Bool.{Bool, true, false, ◌&&◌}
use lib.Dec.{T, eqb, eqb→eq}
use Rattle.meaning.proofs.Tests.{both}
use Rattle.std.specs.Prelude.{Option as CodedOption, Some, None, ◌≢◌, ◌⊎◌, max}
use Rattle.std.specs.Option.{option_eq}
use Rattle.std.proofs.Common.{eq-eqb}
use Rattle.std.proofs.lemmas.Bool.Decides.{eqb_tells}
use Rattle.phrase.specs.declared.ranges.Range.{Range as Coded}
use mathlib.Core.Option.{Option, none as apart, some as just}
use mathlib.Core.List.{List, []}
use mathlib.Core.Logic.{inl, inr}
use native.Mathlib.Omega.{arith}
use native.Mathlib.Decide.{dec_lt}
use lib.ListN.{length}
use Rattle.std.specs.Bool.{MatchBool, then_some}
use Rattle.std.specs.List.{range_with_len, AllWithin, HoldsAt}
use Rattle.std.proofs.Common.{zero-add}
use Rattle.std.proofs.lemmas.List.FromFn.{get_or-range_with_len}
use Rattle.meaning.specs.Range.{Range, none}
use Rattle.meaning.specs.Grammar.{Symbol, word, part}
use Rattle.meaning.specs.Giving.{done, more, Stands}
use Rattle.meaning.proofs.Joining.{Join, left, right, next, range-path, joined→join}
use Rattle.meaning.proofs.Spans.{word_at}
use Rattle.phrase.specs.Row.{given, and_then, eval, starts}
use Rattle.phrase.specs.declared.items.Daughters.{Daughters}
use Rattle.phrase.specs.Phrase.{range_of, join_of, held_of, Decides, holds, fails, Has, StartsAt, stands, stands_not, start_of, Next, found, over}
use Rattle.phrase.proofs.Runs.{run→eval, eval→run, run-starts}

-- a test's answer where it is told, and for an equal statement
pub said-yes : {P : Type 0} {b : Bool} → Decides P b → b ≡ true → P
said-yes (holds p) e = p
said-yes (fails n) e = absurd cc

pub said-no : {P : Type 0} {b : Bool} → Decides P b → b ≡ false → P → ⊥
said-no (holds p) e = absurd cc
said-no (fails n) e = n

pub decided : {P : Type 0} (b : Bool) → (P → b ≡ true) → (b ≡ true → P) → Decides P b
decided true f g = holds (g refl)
decided false f g = fails (λ p. let e = f p in absurd cc)

pub instead : {P Q : Type 0} {b : Bool} → (P → Q) → (Q → P) → Decides P b → Decides Q b
instead f g (holds p) = holds (f p)
instead f g (fails n) = fails (λ q. n (g q))

-- two ranges are one where both their numbers are
pub same_range : (p q : Coded) → Decides (range_of p ≡ range_of q) (eqb p.from q.from && eqb p.to q.to)
same_range p q = decided _
    (λ e. let f = ap (λ (r : Range). r.from) e in let g = ap (λ (r : Range). r.to) e in simp (eq-eqb _ _ f, eq-eqb _ _ g))
    (λ e. let (l, r) = both (eqb p.from q.from) (eqb p.to q.to) (subst T (sym e) tt) in range-path (eqb→eq p.from q.from l) (eqb→eq p.to q.to r))

-- what joining or a row answers, by the comparison E of ranges
pub same_join : (E : Coded → Coded → Bool) → ((p q : Coded) → E p q ≡ (eqb p.from q.from && eqb p.to q.to)) → (o : CodedOption Coded) (r : Coded)
    → Decides (join_of o ≡ just (range_of r)) (option_eq E o (Some r))
same_join E f None r = fails (λ e. cc)
same_join E f (Some p) r = rw f (instead (ap just) (λ e. cc) (same_range p r))

-- a range that a test gives
pub join-given : (b : Bool) (p : Coded) → join_of (then_some b p) ≡ given b (range_of p)
join-given true p = refl
join-given false p = refl

-- three tests, one after another
pub decides_three : (P : ℕ → Type 0) (r : Bool)
    → MatchBool r (AllWithin P (range_with_len 0 3) 0 (length (range_with_len 0 3))) ((k : ℕ) × (k < length (range_with_len 0 3)) × HoldsAt (λ k. P k → ⊥) (range_with_len 0 3) k)
    → Decides ((k : ℕ) → k < 3 → P k) r
decides_three P true h = holds (λ k l. subst P (get_or-range_with_len 0 3 k 0 l ∙ zero-add k) (h k 0 (omega arith) l))
decides_three P false (k, l, n) = fails (λ f. n 0 (subst P (sym (get_or-range_with_len 0 3 k 0 l ∙ zero-add k)) (f k l)))

-- a row of nothing
module _ (ws : List ℕ) (d : Daughters) where
  empty-is : {r : Range} → Has ws d [] r → r ≡ none
  empty-is (done e) = e

  pub empty-fits : (r : Range) {b : Bool} → Decides (r ≡ none) b → Decides (Has ws d [] r) b
  empty-fits r = instead done empty-is

  empty-first : {from : ℕ} → from ≡ 0 → Next start_of (Has ws d []) from (just none)
  empty-first e = found (done refl) (omega arith) (λ q h k. omega arith)

  empty-over : {from : ℕ} → (from ≡ 0 → ⊥) → Next start_of (Has ws d []) from apart
  empty-over n = over (λ q h. omega (arith, ap (λ (r : Range). r.from) (empty-is h)))

  pub empty-next : (from : ℕ) → Next start_of (Has ws d []) from (given (eqb from 0) none)
  empty-next from = go (eqb_tells from 0)
    where
      go : ((eqb from 0 ≡ true) × (from ≡ 0)) ⊎ ((eqb from 0 ≡ false) × (from ≢ 0)) → Next start_of (Has ws d []) from (given (eqb from 0) none)
      go (inl (f, k)) = rw f (empty-first k)
      go (inr (f, k)) = rw f (empty-over k)

  -- what a row makes from a start
  module _ (ss : List Symbol) where
    pub made-fits : (o : Option Range) (r : Range) {b : Bool} → o ≡ eval ws (held_of d) r.from none ss → Decides (o ≡ just r) b → Decides (Has ws d ss r) b
    made-fits o r e = instead (λ q. eval→run ws (held_of d) r.from ss (sym e ∙ q)) (λ h. e ∙ run→eval ws (held_of d) h)

    module _ (start : ℕ) where
      made-not : eval ws (held_of d) start none ss ≡ apart → StartsAt (Has ws d ss) start apart
      made-not e = stands_not (λ q h k. let f = run→eval ws (held_of d) h in let g = ap (λ (n : ℕ). eval ws (held_of d) n none ss) k in absurd cc)

      made-here : (p : Range) → eval ws (held_of d) start none ss ≡ just p → p.from ≡ start → StartsAt (Has ws d ss) start (just p)
      made-here p e k = stands (eval→run ws (held_of d) start ss e) k

      made-there : (p : Range) → eval ws (held_of d) start none ss ≡ just p → (p.from ≡ start → ⊥) → StartsAt (Has ws d ss) start apart
      made-there p e k = stands_not (λ q h l.
          let f = run→eval ws (held_of d) h in
          let g = ap (λ (n : ℕ). eval ws (held_of d) n none ss) l in
          let z : p ≡ q = cc in
          k (ap (λ (r : Range). r.from) z ∙ l))

      pub made-at : (o : Option Range) → o ≡ eval ws (held_of d) start none ss → StartsAt (Has ws d ss) start (and_then o (λ p. given (eqb p.from start) p))
      made-at apart e = made-not (sym e)
      made-at (just p) e = go (eqb_tells p.from start)
        where
          go : ((eqb p.from start ≡ true) × (p.from ≡ start)) ⊎ ((eqb p.from start ≡ false) × (p.from ≢ start)) → StartsAt (Has ws d ss) start (given (eqb p.from start) p)
          go (inl (f, k)) = rw f (made-here p (sym e) k)
          go (inr (f, k)) = rw f (made-there p (sym e) k)

-- the search for the first range from a place on: none between `from` and `start`
abbrev pub NoneUpTo : (Range → Type 0) → ℕ → ℕ → Type 0
NoneUpTo P from start = (q : Range) → P q → from ≤ q.from → start ≤ q.from

starts-yes : {P : Range → Type 0} {start : ℕ} {r : Range} {o : Option Range} → StartsAt P start o → o ≡ just r → P r × (r.from ≡ start)
starts-yes {P} (stands {r = q} p e) h = let k = the_same h in (subst P k p, ap (λ (r : Range). r.from) (sym k) ∙ e)
  where
    the_same : {p q : Range} → just p ≡ just q → p ≡ q
    the_same e = cc
starts-yes (stands_not n) h = absurd cc

module _ (P : Range → Type 0) (from start : ℕ) where
  pub next-found : {r : Range} → from ≤ start → NoneUpTo P from start → StartsAt P start (just r) → Next start_of P from (just r)
  next-found l n s = let (p, k) = starts-yes s refl in found p (omega arith) (λ q h m. omega (arith, n q h m))

  pub next-over : (end : ℕ) → end ≤ start → ((q : Range) → P q → q.from < end) → NoneUpTo P from start → Next start_of P from apart
  next-over end l e n = over (λ q p. go q p (dec_lt q.from from))
    where
      go : (q : Range) → P q → Dec (q.from < from) → q.from < from
      go q p (yes h) = h
      go q p (no h) = absurd (omega (arith, e q p, n q p (omega arith)))

-- the search begins and ends where `starts` says
module _ (ws : List ℕ) (d : Daughters) (ss : List Symbol) (from : ℕ) where
  pub begins : (first : ℕ) → first ≡ (starts ws (held_of d) 0 ss).first → NoneUpTo (Has ws d ss) from (max from first)
  begins first e = λ q h l. omega (arith, run-starts ws (held_of d) h)

  pub ends_by : (end : ℕ) → end ≡ (starts ws (held_of d) 0 ss).end → (q : Range) → Has ws d ss q → q.from < end
  ends_by end e q h = omega (arith, run-starts ws (held_of d) h)

-- a range that a row can have is within the sentence
join-in : (n : ℕ) {p q r : Range} → (p.from ≤ p.to) × (p.to ≤ n) → (q.from ≤ q.to) × (q.to ≤ n) → Join p q r → (r.from ≤ r.to) × (r.to ≤ n)
join-in n a b (left e f) = rw f b
join-in n a b (right e f) = rw f a
join-in n a b (next e f) = rw f (omega arith)

module _ (ws : List ℕ) (d : Daughters) where
  stands-in : (s : Symbol) (p : Range) → Stands ws (held_of d) s p → (p.from ≤ p.to) × (p.to ≤ length ws)
  unfolding Stands
  stands-in (word w) p h = let (i, t, g) = word_at h in omega arith
  stands-in (part k c) p (e, inl i) = rw i (omega arith)
  stands-in (part k c) p (e, inr i) = omega arith

  pub has_in : {ss : List Symbol} {r : Range} → Has ws d ss r → (r.from ≤ r.to) × (r.to ≤ length ws)
  has_in (done e) = rw e (omega arith)
  has_in (more {s = s} {p = p} h k j) = join-in (length ws) (stands-in s p h) (has_in k) (joined→join j)
