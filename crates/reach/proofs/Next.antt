-- The ranges of a row's sets one after another, by their numbers; and that they are the ranges that the row can have.
use mathlib.Core.Path.{◌≡◌, refl, sym, ap, subst}
use mathlib.Core.Logic.{◌⊎◌, inl, inr, ⊎_elim}
use mathlib.Core.Option.{Option, none as apart, some as just}
use mathlib.Core.List.{List}
use Prim.Native.Nat.{ℕ, suc, ◌+◌, ◌*◌, ◌-◌, ◌/◌, ◌%◌, ◌^◌, ◌≤◌, ◌<◌}
use native.Mathlib.Omega.{arith}
use lib.ListN.{get_or}
use Rattle.std.specs.Prelude.{Option as CodedOption, Some, None, MatchOption}
use Rattle.meaning.specs.Range.{Range, none}
use Rattle.meaning.specs.Grammar.{Symbol}
use Rattle.meaning.specs.Giving.{Run}
use Rattle.meaning.proofs.Joining.{range-path}
use Rattle.store.proofs.Laws.{lt-or-ge}
use Rattle.phrase.specs.Phrase.{Next, found, over}
use Rattle.reach.specs.Bits.{Bit}
use Rattle.reach.specs.Reach.{RowSet, InWords, InSets, in_none, in_words, number_of, FirstBit, first_bit, no_more}
use Rattle.reach.proofs.Digits.{no-bit, bit-low}
use Rattle.reach.proofs.Turning.{span}

-- the first bit
pub bit-first : (set from : ℕ) (r : CodedOption ℕ)
    → MatchOption r ((k : ℕ) → from ≤ k → k < 64 → Bit set k → ⊥) (λ i. (from ≤ i) × (i < 64) × Bit set i × ((k : ℕ) → from ≤ k → k < i → Bit set k → ⊥)) → FirstBit set from r
bit-first set from (Some i) (l, h, b, f) = first_bit h b l f
bit-first set from None f = no_more f

pub bit-zero : {set : ℕ} (from : ℕ) → set ≡ 0 → FirstBit set from None
bit-zero {set} from z = no_more (λ i a b c. no-bit i (subst (λ (n : ℕ). Bit n i) z c))

-- ranges with words
-- each set is of numbers below 64
abbrev pub Low : List ℕ → Type 0
Low sets = (s i : ℕ) → Bit (get_or sets s 0) i → i < 64

pub low-all : (sets : List ℕ) → ((s : ℕ) → get_or sets s 0 < 2 ^ 64) → Low sets
low-all sets f s i b = bit-low (f s) b

module _ (n : ℕ) (sets : List ℕ) (start end : ℕ) where
  abbrev In : Range → Type 0
  In = InWords n sets

  abbrev key : ℕ
  key = start * 65 + end

  -- all before a start, and from it an end on, have been passed
  pub record Gone (s from : ℕ) : Type 0 where
    pub most : from ≤ 64
    pub passed : (r : Range) → In r → key ≤ number_of r → (s < r.from) ⊎ ((s ≡ r.from) × (from < r.to))
    pub holds : (i : ℕ) → from ≤ i → key ≤ s * 65 + suc i

  pub gone-first : {from : ℕ} → Low sets → end ≤ 64 → from ≡ end - 1 → Gone start from
  gone-first {from} low m e = record { most = omega arith; passed = by; holds = λ i h. omega arith }
    where
      by : (r : Range) → In r → key ≤ number_of r → (start < r.from) ⊎ ((start ≡ r.from) × (from < r.to))
      by r w h =
          let k = low r.from w.last w.bit in
          let l = w.end in
          ⊎_elim (λ q. inl q) (λ q. inr (omega arith, omega arith)) (lt-or-ge start r.from)

  pub gone-found : {s from i : ℕ} → Low sets → s < n → Gone s from → FirstBit (get_or sets s 0) from (Some i) → Next number_of In key (just (span s (i + 1)))
  gone-found {s} {from} {i} low l g (first_bit h b k f) =
      let w : In (span s (i + 1)) = record { low = l; last = i; end = omega arith; bit = b } in
      found {x = span s (i + 1)} w (omega (arith, g.holds i k)) (λ y x q. by y x (g.passed y x q))
    where
      by : (y : Range) → In y → (s < y.from) ⊎ ((s ≡ y.from) × (from < y.to)) → number_of (span s (i + 1)) ≤ number_of y
      by y w (inl k) = omega (arith, w.end)
      by y w (inr (e, k)) = ⊎_elim
          (λ u. absurd (f w.last (omega (arith, w.end)) u (subst (λ (v : ℕ). Bit (get_or sets v 0) w.last) (sym e) w.bit)))
          (λ u. omega (arith, w.end))
          (lt-or-ge w.last i)

  pub gone-on : {s from : ℕ} → Low sets → Gone s from → FirstBit (get_or sets s 0) from None → Gone (s + 1) 0
  gone-on {s} {from} low g (no_more f) = record { most = omega arith; passed = λ r x q. by r x (g.passed r x q); holds = λ j k. omega (arith, g.holds from (omega arith), g.most) }
    where
      by : (r : Range) → In r → (s < r.from) ⊎ ((s ≡ r.from) × (from < r.to)) → (s + 1 < r.from) ⊎ ((s + 1 ≡ r.from) × (0 < r.to))
      by r w (inl k) = ⊎_elim (λ u. inl u) (λ u. inr (omega arith, omega (arith, w.end))) (lt-or-ge (s + 1) r.from)
      by r w (inr (e, k)) =
          let u = low r.from w.last w.bit in
          absurd (f w.last (omega (arith, w.end)) (omega arith) (subst (λ (v : ℕ). Bit (get_or sets v 0) w.last) (sym e) w.bit))

  pub gone-all : {s from : ℕ} → n ≤ s → Gone s from → Next number_of In key apart
  gone-all {s} {from} h g = over (λ r x. ⊎_elim (λ k. k) (λ k. by r x (g.passed r x k)) (lt-or-ge (number_of r) key))
    where
      by : (r : Range) → In r → (s < r.from) ⊎ ((s ≡ r.from) × (from < r.to)) → number_of r < key
      by r w (inl k) = absurd (omega (arith, w.low))
      by r w (inr (e, k)) = absurd (omega (arith, w.low))

-- the same for what else is there before
pub next-as : {P Q : Range → Type 0} {from : ℕ} {o : Option Range} → ((r : Range) → P r → Q r) → ((r : Range) → Q r → from ≤ number_of r → P r)
    → Next number_of P from o → Next number_of Q from o
next-as {from = from} f g (found {x = x} h l m) = found {x = x} (f x h) l (λ y q k. m y (g y q k) k)
next-as {from = from} f g (over m) = over (λ y q. ⊎_elim (λ k. k) (λ k. m y (g y q k)) (lt-or-ge (number_of y) from))

module _ (n : ℕ) (sets : List ℕ) where
  pub next-words : (from : ℕ) {o : Option Range} → (from ≡ 0 → get_or sets n 0 ≡ 1 → ⊥) → Next number_of (InWords n sets) (from / 65 * 65 + from % 65) o
      → Next number_of (InSets n sets) from o
  next-words from {o} z w = next-as (λ r h. in_words h) back (subst (λ (k : ℕ). Next number_of (InWords n sets) k o) same w)
    where
      same : from / 65 * 65 + from % 65 ≡ from
      same = omega arith

      back : (r : Range) → InSets n sets r → from ≤ number_of r → InWords n sets r
      back r (in_none e t) k = absurd (z (omega (arith, ap (λ (q : Range). q.from) e, ap (λ (q : Range). q.to) e)) t)
      back r (in_words w) k = w

  pub next-empty : (from : ℕ) → from ≡ 0 → get_or sets n 0 ≡ 1 → Next number_of (InSets n sets) from (just none)
  next-empty from z t = found {x = none} (in_none refl t) (omega arith) (λ y q k. omega arith)

-- the ranges of a row's sets are those that the row can have
module _ {P : Symbol → Range → Type 0} {ss : List Symbol} {n : ℕ} {sets : List ℕ} (w : RowSet P ss n sets) where
  pub sets-run : (r : Range) → InSets n sets r → Run P ss r
  sets-run r (in_none e t) = subst (Run P ss) (sym e) (w.empty t)
  sets-run r (in_words h) =
      let e = range-path {q = span r.from (suc h.last)} refl h.end in
      subst (Run P ss) (sym e) ((w.all r.from h.low).sound h.last h.bit)

  pub run-sets : (r : Range) → Run P ss r → InSets n sets r
  run-sets r d = go (w.none_else r d)
    where
      go : (r ≡ none) ⊎ ((r.from < n) × (r.from < r.to) × (r.to ≤ n)) → InSets n sets r
      go (inl e) = in_none e (w.empty_whole (subst (Run P ss) e d))
      go (inr (l, k, m)) =
          let t : r.to ≡ suc (r.to - 1) = omega arith in
          let e = range-path {q = span r.from (suc (r.to - 1))} refl t in
          in_words (record { low = l; last = r.to - 1; end = t; bit = (w.all r.from l).whole (r.to - 1) (subst (Run P ss) e d) })
