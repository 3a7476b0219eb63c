-- Joining proper ranges is associative, and a row may be joined from its left end.
use mathlib.Core.Path.{◌≡◌, refl, sym, ap, ◌∙◌}
use mathlib.Core.Logic.{◌⊎◌, inl, inr}
use mathlib.Core.List.{List, [], ◌∷◌}
use Prim.Native.Nat.{◌<◌}
use native.Mathlib.Omega.{arith}
use Rattle.meaning.specs.Range.{Range, none}
use Rattle.meaning.specs.Grammar.{Symbol}
use Rattle.meaning.specs.Giving.{Run, done, more}
use Rattle.meaning.proofs.Joining.{Join, left, right, next, meet_left, meet_right, join-none, join→joined, joined→join}

-- the empty range, or one with words in it
abbrev pub Proper : Range → Type 0
Proper r = (r ≡ none) ⊎ (r.from < r.to)

-- a proper range that ends at 0 is empty
pub ends-none : {r : Range} → Proper r → r.to ≡ 0 → r ≡ none
ends-none (inl e) h = e
ends-none (inr l) h = absurd (omega arith)

pub join-proper : {p q r : Range} → Proper p → Proper q → Join p q r → Proper r
join-proper hp hq (left e f) = rw f hq
join-proper hp hq (right e f) = rw f hp
join-proper (inl e) hq (next g h) = rw (meet_left e g h) hq
join-proper (inr l) (inl e) (next g h) = rw (meet_right e g h) (inr l)
join-proper (inr l) (inr k) (next g h) = rw h (inr (omega arith))

module _ {a p q : Range} where
  assoc : {b r : Range} → Proper a → Proper p → Join a p b → Join b q r → (m : Range) × Join p q m × Join a m r
  assoc {r = r} ha hp (left e f) k = (r, rw f at k, left e refl)
  assoc ha hp (right e f) k = (q, left e refl, rw f at k)
  assoc ha hp (next e f) (left g h) =
      let n = ends-none hp (ap (λ (r : Range). r.to) (sym f ∙ g)) in
      (q, left n refl, left (ends-none ha (e ∙ ap (λ (r : Range). r.from) n)) h)
  assoc ha hp (next e f) (right g h) = (p, right g refl, next e (h ∙ f))
  assoc ha hp (next e f) (next g h) = (record { from = p.from; to = q.to }, next (cc) refl, next e (cc))

  unassoc : {m r : Range} → Proper p → Proper q → Join p q m → Join a m r → (b : Range) × Join a p b × Join b q r
  unassoc hp hq (left e f) k = (a, right e refl, rw f at k)
  unassoc {r = r} hp hq (right e f) k = (r, rw f at k, right e refl)
  unassoc hp hq (next e f) (left g h) = (p, left g refl, next e (h ∙ f))
  unassoc hp hq (next e f) (right g h) =
      let n = ends-none hq (ap (λ (r : Range). r.to) (sym f ∙ g)) in
      (a, right (ends-none hp (e ∙ ap (λ (r : Range). r.from) n)) refl, right n h)
  unassoc hp hq (next e f) (next g h) = (record { from = a.from; to = p.to }, next (cc) refl, next e (cc))

-- the symbols, joined one after the other to what stands before them
pub data Fold (P : Symbol → Range → Type 0) : Range → List Symbol → Range → Type 0 where
  stop : {a r : Range} → r ≡ a → Fold P a [] r
  onto : {s : Symbol} {ss : List Symbol} {a p b r : Range} → P s p → Join a p b → Fold P b ss r → Fold P a (s ∷ ss) r

module _ {P : Symbol → Range → Type 0} (proper : (s : Symbol) (p : Range) → P s p → Proper p) where
  pub run-proper : {ss : List Symbol} {r : Range} → Run P ss r → Proper r
  run-proper (done e) = inl e
  run-proper (more h d j) = join-proper (proper _ _ h) (run-proper d) (joined→join j)

  pub run→fold : {ss : List Symbol} {a q r : Range} → Proper a → Run P ss q → Join a q r → Fold P a ss r
  run→fold ha (done e) j = stop (join-none e j)
  run→fold ha (more h d k) j =
      let (b, m, n) = unassoc (proper _ _ h) (run-proper d) (joined→join k) j in
      onto h m (run→fold (join-proper ha (proper _ _ h) m) d n)

  pub fold→run : {ss : List Symbol} {a r : Range} → Proper a → Fold P a ss r → (q : Range) × Run P ss q × Join a q r
  fold→run ha (stop e) = (none, done refl, right refl e)
  fold→run ha (onto h j d) =
      let (q, k, l) = fold→run (join-proper ha (proper _ _ h) j) d in
      let (m, x, y) = assoc ha (proper _ _ h) j l in
      (m, more h k (join→joined x), y)
