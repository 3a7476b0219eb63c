-- What a row makes from a start are the ranges that document 01 gives it: a range of a row is what the row makes from that range's own
-- start (`run→eval`, `eval→run`), two that start alike are one (`run-once`), and each starts where `starts` says (`run-starts`).
use mathlib.Core.Path.{◌≡◌, refl, sym, ap, ◌∙◌, subst}
use mathlib.Core.Logic.{◌⊎◌, inl, inr}
use mathlib.Core.Bool.{Bool, true, false, ◌&&◌}
use mathlib.Core.Option.{Option, none as apart, some as just, none-ne-some}
use mathlib.Core.List.{List, [], ◌∷◌}
use Prim.Native.Nat.{ℕ, zero, suc, ◌+◌, ◌≤◌, ◌<◌}
use native.Mathlib.Omega.{arith}
use lib.Dec.{T, eqb, ltb, eqb→eq, eqb_refl, ltb→lt, lt→ltb}
use lib.ListN.{length, get_or}
use Rattle.meaning.specs.Range.{Range, none, joined}
use Rattle.meaning.specs.Grammar.{Symbol, word, part}
use Rattle.meaning.specs.Giving.{Run, done, more, Stands}
use Rattle.meaning.proofs.Tests.{both, two}
use Rattle.meaning.proofs.Joining.{Join, left, right, next, range-path, none-join, join→joined, joined→join}
use Rattle.meaning.proofs.Spans.{measure, one_word, word_at}
use Rattle.meaning.proofs.Search.{is_range→, →is_range}
use Rattle.phrase.specs.Row.{is_range, given, after, site, and_then, eval, Starts, alone, opens, starts}
use Rattle.phrase.proofs.Joins.{Proper, ends-none, join-proper, run-proper, Fold, stop, onto, run→fold, fold→run}

and-then : {A B : Type 0} (o : Option A) (f : A → Option B) {b : B} → and_then o f ≡ just b → (a : A) × (o ≡ just a) × (f a ≡ just b)
and-then apart f {b} e = absurd (none-ne-some b e)
and-then (just a) f e = (a, refl, e)

given-just : (b : Bool) {p q : Range} → given b p ≡ just q → T b × (q ≡ p)
given-just true e = (tt, cc)
given-just false {q = q} e = absurd (none-ne-some q e)

just-given : (b : Bool) (p : Range) → T b → given b p ≡ just p
just-given true p t = refl
just-given false p t = absurd t

after-end : (start n : ℕ) → 0 < n → after start n ≡ n
after-end start zero h = absurd (omega arith)
after-end start (suc n) h = refl

after_none : (start n : ℕ) → n ≡ 0 → after start n ≡ start
after_none start n h = rw h refl

-- what is joined to something ends past 0
module _ {a p b : Range} where
  ends-past : Proper p → Join a p b → 0 < a.to → 0 < b.to
  ends-past hp (left i f) h = absurd (omega (arith, ap (λ (r : Range). r.to) i))
  ends-past hp (right i f) h = rw f h
  ends-past (inl i) (next g f) h = absurd (omega (arith, ap (λ (r : Range). r.from) i))
  ends-past (inr i) (next g f) h = rw f (omega arith)

  -- of two that are not empty the second starts where the first ends
  meets : 0 < a.to → 0 < p.to → Join a p b → a.to ≡ p.from
  meets h k (left i f) = absurd (omega (arith, ap (λ (r : Range). r.to) i))
  meets h k (right i f) = absurd (omega (arith, ap (λ (r : Range). r.to) i))
  meets h k (next g f) = g

  past-ends : Join a p b → 0 < p.to → 0 < b.to
  past-ends (left i f) h = rw f h
  past-ends (right i f) h = absurd (omega (arith, ap (λ (r : Range). r.to) i))
  past-ends (next g f) h = rw f h

  -- a word goes where it is joined
  goes : (start : ℕ) → Proper a → 0 < p.to → Join a p b → (0 < a.to) ⊎ (start ≡ p.from) → after start a.to ≡ p.from
  goes start ha h (left i f) (inl k) = absurd (omega (arith, ap (λ (r : Range). r.to) i))
  goes start ha h (left i f) (inr k) = after_none start a.to (ap (λ (r : Range). r.to) i) ∙ k
  goes start ha h (right i f) k = absurd (omega (arith, ap (λ (r : Range). r.to) i))
  goes start ha h (next g f) (inl k) = after-end start a.to k ∙ g
  goes start (inl i) h (next g f) (inr k) = after_none start a.to (ap (λ (r : Range). r.to) i) ∙ k
  goes start (inr i) h (next g f) (inr k) = after-end start a.to (omega arith) ∙ g

-- a start is one of those that a row can have
abbrev pub Within : Starts → ℕ → Type 0
Within s x = (s.first ≤ x) × (x < s.end)

module _ (ws : List ℕ) (e : ℕ → ℕ → Range) where
  -- where a symbol stands is a range
  pub stands-proper : (s : Symbol) (p : Range) → Stands ws e s p → Proper p
  unfolding Stands
  stands-proper (word w) p h = inr (omega (arith, (measure h).1))
  stands-proper (part k c) p (h, inl i) = inl i
  stands-proper (part k c) p (h, inr i) = inr i.0

  site-stands : (start to : ℕ) (s : Symbol) {p : Range} → site ws e start to s ≡ just p → Stands ws e s p
  unfolding Stands site
  site-stands start to (word w) h =
      let n : ℕ = after start to in
      let (t, q) = given-just (ltb n (length ws) && eqb (get_or ws n 0) w) h in
      let (l, g) = both (ltb n (length ws)) (eqb (get_or ws n 0) w) t in
      rw q (one_word (ltb→lt n (length ws) l) (eqb→eq (get_or ws n 0) w g))
  site-stands start to (part k c) h = let (t, q) = given-just (is_range ws (e k c)) h in (q, rw q (is_range→ ws (e k c) t))

  eval→fold : (start : ℕ) (a : Range) (ss : List Symbol) {r : Range} → Proper a → eval ws e start a ss ≡ just r → Fold (Stands ws e) a ss r
  unfolding eval
  eval→fold start a [] {r} ha h = stop {a = a} {r = r} (cc)
  eval→fold start a (s ∷ ss) ha h =
      let (p, q, g) = and-then (site ws e start a.to s) _ h in
      let (b, j, k) = and-then (joined a p) _ g in
      let st = site-stands start a.to s q in
      let jn = joined→join j in
      onto st jn (eval→fold start b ss (join-proper ha (stands-proper s p st) jn) k)

  eval-step : (from : ℕ) (a : Range) {p b : Range} (s : Symbol) (ss : List Symbol) → site ws e from a.to s ≡ just p → joined a p ≡ just b → eval ws e from a (s ∷ ss) ≡ eval ws e from b ss
  unfolding eval
  eval-step from a s ss q j = ap (λ o. and_then o (λ p. and_then (joined a p) (λ b. eval ws e from b ss))) q ∙ ap (λ o. and_then o (λ b. eval ws e from b ss)) j

  -- what is joined to something keeps its left end
  join-from : {a p b : Range} → 0 < a.to → Join a p b → b.from ≡ a.from
  join-from h (left i f) = absurd (omega (arith, ap (λ (r : Range). r.to) i))
  join-from h (right i f) = ap (λ (r : Range). r.from) f
  join-from h (next g f) = ap (λ (r : Range). r.from) f

  fold-from : {a : Range} {ss : List Symbol} {r : Range} → 0 < a.to → Fold (Stands ws e) a ss r → r.from ≡ a.from
  fold-from h (stop q) = ap (λ (r : Range). r.from) q
  fold-from h (onto {s = s} {p = p} st j d) = fold-from (ends-past (stands-proper s p st) j h) d ∙ join-from h j

  -- the evaluation from the row's own left end goes as the join does; from any start, where something stands already
  abbrev Goes : Range → List Symbol → Range → Type 0
  Goes a ss r = (from : ℕ) → (0 < a.to) ⊎ (from ≡ r.from) → eval ws e from a ss ≡ just r

  prepend : (s : Symbol) (ss : List Symbol) {a p b r : Range} → Proper a → Stands ws e s p → Join a p b → Fold (Stands ws e) b ss r → Goes b ss r → Goes a (s ∷ ss) r
  unfolding Stands site
  prepend (word w) ss {a} {p} {b} {r} ha h j d f =
      let (i, t, g) = word_at h in
      let pos : 0 < p.to = omega arith in
      λ from k. eval-step from a (word w) ss (put from i (goes from ha pos j (whence ha pos k)) t g) (join→joined j) ∙ f from (inl (past-ends j pos))
    where
      put : (from : ℕ) → p.from < length ws → after from a.to ≡ p.from → p.to ≡ suc p.from → get_or ws p.from 0 ≡ w → site ws e from a.to (word w) ≡ just p
      put from i q t g =
          let there : T (ltb p.from (length ws) && eqb (get_or ws p.from 0) w) =
          two (ltb p.from (length ws)) (eqb (get_or ws p.from 0) w) (lt→ltb _ _ i) (rw g (eqb_refl w)) in
          rw q (just-given (ltb p.from (length ws) && eqb (get_or ws p.from 0) w) _ there ∙ ap just (range-path refl (sym t)))

      whence : {from : ℕ} → Proper a → 0 < p.to → (0 < a.to) ⊎ (from ≡ r.from) → (0 < a.to) ⊎ (from ≡ p.from)
      whence q pos (inl k) = inl k
      whence (inl i) pos (inr k) = inr (k ∙ fold-from (past-ends j pos) d ∙ ap (λ (r : Range). r.from) (none-join i j))
      whence (inr l) pos (inr k) = inl (omega arith)
  prepend (part k c) ss {a} {p} {b} {r} ha (q, i) j d f =
      λ from o. eval-step from a (part k c) ss (just-given (is_range ws (e k c)) (e k c) (→is_range ws (rw q at i)) ∙ ap just (sym q)) (join→joined j) ∙ f from (still o)
    where
      still : {from : ℕ} → (0 < a.to) ⊎ (from ≡ r.from) → (0 < b.to) ⊎ (from ≡ r.from)
      still (inl h) = inl (ends-past (stands-proper (part k c) p (q, i)) j h)
      still (inr h) = inr h

  fold→eval : {a : Range} {ss : List Symbol} {r : Range} → Proper a → Fold (Stands ws e) a ss r → Goes a ss r
  unfolding eval
  fold→eval ha (stop q) = λ from k. ap just (sym q)
  fold→eval ha (onto {s = s} {ss = ss} {p = p} h j d) = prepend s ss ha h j d (fold→eval (join-proper ha (stands-proper s p h) j) d)

  -- a range of the row is what the row makes from that range's start
  pub run→eval : {ss : List Symbol} {r : Range} → Run (Stands ws e) ss r → eval ws e r.from none ss ≡ just r
  run→eval {r = r} d = fold→eval (inl refl) (run→fold stands-proper (inl refl) d (left refl refl)) r.from (inr refl)

  pub eval→run : (start : ℕ) (ss : List Symbol) {r : Range} → eval ws e start none ss ≡ just r → Run (Stands ws e) ss r
  eval→run start ss h = let (q, d, j) = fold→run stands-proper (inl refl) (eval→fold start none ss (inl refl) h) in rw (none-join refl j) d

  -- a row starts where `starts` says: at x, n words ahead of what the rest of it makes; words alone anywhere, and nothing at 0
  abbrev Ahead : ℕ → ℕ → Range → Type 0
  Ahead n x r = (0 < r.to → x + n ≡ r.from) × (r.to ≡ 0 → Within (alone ws n) x)

  opens-start : (n from to : ℕ) (s : Starts) (x : ℕ) → (to ≡ 0 → Within s x) → (0 < to → x + n ≡ from) → Within (opens n from to s) x
  opens-start n from zero s x f g = f refl
  opens-start n from (suc to) s x f g = let h = g (omega arith) in (omega arith, omega arith)

  ahead-starts : (n x : ℕ) {ss : List Symbol} {r : Range} → Ahead n x r → Run (Stands ws e) ss r → Within (starts ws e n ss) x
  unfolding starts Stands
  ahead-starts n x f (done q) = f.1 (ap (λ (r : Range). r.to) q)
  ahead-starts n x f (more {s = word w} h d j) =
      let (i, t, g) = word_at h in
      let k = joined→join j in
      let at = f.0 (ends-past (run-proper stands-proper d) k (omega arith)) ∙ join-from (omega arith) k in
      ahead-starts (suc n) x (λ l. omega (arith, meets (omega arith) l k), λ z. (omega arith, omega arith)) d
  ahead-starts n x f (more {s = part k c} {ss = ss} {p = p} {r = r} (q, i) d j) =
      let m = joined→join j in
      let to = ap (λ (r : Range). r.to) q in
      opens-start n (e k c).from (e k c).to (starts ws e n ss) x
      (λ z. ahead-starts n x (subst (Ahead n x) (none-join (ends-none (stands-proper (part k c) p (q, i)) (to ∙ z)) m) f) d)
      (λ l. f.0 (ends-past (run-proper stands-proper d) m (omega arith)) ∙ join-from (omega arith) m ∙ ap (λ (r : Range). r.from) q)

  pub run-starts : {ss : List Symbol} {r : Range} → Run (Stands ws e) ss r → Within (starts ws e 0 ss) r.from
  run-starts {r = r} d =
      ahead-starts 0 r.from (λ l. omega arith, λ z. (omega arith, omega (arith, ap (λ (r : Range). r.from) (ends-none (run-proper stands-proper d) z)))) d

  -- two ranges of a row that start alike are one
  pub run-once : {ss : List Symbol} {p q : Range} → Run (Stands ws e) ss p → Run (Stands ws e) ss q → p.from ≡ q.from → p ≡ q
  run-once {ss} {p} {q} f g h = let a = run→eval f in let b = run→eval g in let c = ap (λ (n : ℕ). eval ws e n none ss) h in cc
