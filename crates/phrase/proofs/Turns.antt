-- A loop over a row's symbols: what the definition says from the start is what it says from here, each turn one law.
use Prim.Native.Nat.{ℕ, zero, suc, ◌+◌, ◌*◌, ◌-◌, ◌<◌}
use mathlib.Core.Path.{◌≡◌, refl, sym, ap, ◌∙◌}
use mathlib.Core.Option.{Option, none as apart, some as just}
use mathlib.Core.List.{List, [], ◌∷◌}
use native.Mathlib.Omega.{arith}
use native.Mathlib.Numerals.{add-one}
use Rattle.meaning.specs.Range.{Range, joined}
use Rattle.meaning.specs.Grammar.{Symbol, word, part}
use Rattle.meaning.specs.Table.{byte}
use Rattle.meaning.specs.Decode.{several, symbol_at, row_at}
use Rattle.phrase.specs.Row.{site, and_then, eval, Starts, alone, ahead, opens, starts}

-- the symbols that are left of a row
abbrev pub left_of : List ℕ → ℕ → ℕ → List Symbol
left_of t left place = several left (symbol_at t) (λ p. p + 3) place

pub whole_row : (t : List ℕ) (place left : ℕ) → left ≡ byte t place → left_of t left (place + 1) ≡ row_at t place
unfolding row_at
whole_row t place left e = rw e

pub left_all : (t : List ℕ) (at : ℕ) → left_of t (byte t at - 0) (at + 1 + 0) ≡ row_at t at
left_all t at =
    let e : byte t at - 0 ≡ byte t at = omega arith in
    let f : at + 1 + 0 ≡ at + 1 = omega arith in
    rw (e, f) (whole_row t at (byte t at) refl)

pub left_on : (t : List ℕ) (n i at : ℕ) → left_of t (n - (i + 1)) (at + 1 + 3 * (i + 1)) ≡ left_of t (n - i - 1) (at + 1 + 3 * i + 3)
left_on t n i at =
    let e : n - (i + 1) ≡ n - i - 1 = omega arith in
    let f : at + 1 + 3 * (i + 1) ≡ at + 1 + 3 * i + 3 = omega arith in
    rw (e, f)

opens-some : (n from to : ℕ) (s : Starts) → (to ≡ 0 → ⊥) → opens n from to s ≡ ahead from n
opens-some n from zero s h = absurd (h refl)
opens-some n from (suc to) s h = refl

module _ (t ws : List ℕ) (e : ℕ → ℕ → Range) (left place : ℕ) where
  symbols-on : 0 < left → left_of t left place ≡ symbol_at t place ∷ left_of t (left - 1) (place + 3)
  unfolding several
  symbols-on h = let q : left ≡ suc (left - 1) = omega arith in ap (λ (n : ℕ). left_of t n place) q

  symbols-end : left ≡ 0 → left_of t left place ≡ []
  unfolding several
  symbols-end h = rw h

  -- what they make next to a
  module _ (start : ℕ) (a : Range) where
    pub eval-end : left ≡ 0 → just a ≡ eval ws e start a (left_of t left place)
    unfolding eval
    eval-end h = rw (symbols-end h)

    module _ (h : 0 < left) {s : Symbol} (q : s ≡ symbol_at t place) where
      abbrev on : Range → Option Range
      on b = eval ws e start b (left_of t (left - 1) (place + 3))

      eval-turn : eval ws e start a (left_of t left place) ≡ and_then (site ws e start a.to s) (λ p. and_then (joined a p) on)
      unfolding eval
      eval-turn = rw (symbols-on h, ← q)

      pub eval-off : apart ≡ site ws e start a.to s → apart ≡ eval ws e start a (left_of t left place)
      eval-off p = sym (eval-turn ∙ rw (← p))

      eval-next : (p : Range) → just p ≡ site ws e start a.to s → eval ws e start a (left_of t left place) ≡ and_then (joined a p) on
      eval-next p f = eval-turn ∙ ap (λ o. and_then o (λ p. and_then (joined a p) on)) (sym f)

      pub eval-apart : (p : Range) → just p ≡ site ws e start a.to s → apart ≡ joined a p → apart ≡ eval ws e start a (left_of t left place)
      eval-apart p f g = sym (eval-next p f ∙ ap (λ o. and_then o on) (sym g))

      pub eval-on : (p b : Range) → just p ≡ site ws e start a.to s → just b ≡ joined a p → on b ≡ eval ws e start a (left_of t left place)
      eval-on p b f g = sym (eval-next p f ∙ ap (λ o. and_then o on) (sym g))

  -- where they can start, n words on
  module _ (n : ℕ) where
    pub starts-end : left ≡ 0 → alone ws n ≡ starts ws e n (left_of t left place)
    unfolding starts
    starts-end h = rw (symbols-end h)

    module _ (h : 0 < left) where
      pub starts-word : (w : ℕ) → word w ≡ symbol_at t place → starts ws e (n + 1) (left_of t (left - 1) (place + 3)) ≡ starts ws e n (left_of t left place)
      unfolding starts
      starts-word w k = rw (symbols-on h, ← k, add-one n)

      module _ (k c : ℕ) (q : part k c ≡ symbol_at t place) where
        starts-turn : starts ws e n (left_of t left place) ≡ opens n (e k c).from (e k c).to (starts ws e n (left_of t (left - 1) (place + 3)))
        unfolding starts
        starts-turn = rw (symbols-on h, ← q)

        module _ (p : Range) (f : p ≡ e k c) where
          pub starts-on : p.to ≡ 0 → starts ws e n (left_of t (left - 1) (place + 3)) ≡ starts ws e n (left_of t left place)
          starts-on z = sym (starts-turn ∙ rw (← f, z))

          pub starts-part : (p.to ≡ 0 → ⊥) → ahead p.from n ≡ starts ws e n (left_of t left place)
          starts-part z = sym (starts-turn ∙ rw (← f) (opens-some n p.from p.to _ z))
