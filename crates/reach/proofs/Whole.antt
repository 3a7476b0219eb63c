-- All ranges that a row can have: from each start its ends, and whether it can be empty.
use mathlib.Core.Path.{◌≡◌, refl, sym, ap, ◌∙◌, subst}
use mathlib.Core.Logic.{◌⊎◌, inl, inr}
use mathlib.Core.Bool.{Bool, true, false}
use mathlib.Core.List.{List, ◌++◌}
use Prim.Native.Nat.{ℕ, suc, ◌+◌, ◌≤◌, ◌<◌}
use native.Mathlib.Omega.{arith}
use lib.Dec.{ltb}
use mir.Val.{bool_byte}
use lib.ListN.{length, get_or, set, length-set, get_or-append}
use lib.Seq.{get_or-set_same, get_or-set_other}
use borrow.Author.Tests.{ltb-true, ltb-false}
use Rattle.meaning.specs.Range.{Range, none, IsRange}
use Rattle.meaning.specs.Grammar.{Symbol, word, part}
use Rattle.meaning.specs.Giving.{Run, done, more}
use Rattle.meaning.proofs.Joining.{Join, left, right, next, meet_left, meet_right, joined→join}
use Rattle.meaning.proofs.Spans.{measure}
use Rattle.reach.specs.Bits.{Bit}
use Rattle.reach.specs.declared.places.Places.{Places}
use Rattle.reach.specs.Reach.{any, chosen, May, Holds, unmoved, moved, Reaches, Digit, Ended, RowSet}
use Rattle.reach.proofs.Sets.{true-not}
use Rattle.reach.proofs.Turning.{span}

abbrev to_of : Range → ℕ
to_of r = r.to

-- a test as a number
pub is-digit : (b : Bool) {n : ℕ} → n ≡ bool_byte b → Digit b n
is-digit true e = record { one = λ _. e; back = λ _. refl }
is-digit false e = record { one = λ t. true-not false t refl; back = λ o. absurd (omega arith) }

-- what joins is a range of the sentence
join-range : (ws : List ℕ) {p q r : Range} → IsRange ws p → IsRange ws q → Join p q r → IsRange ws r
join-range ws hp hq (left e f) = rw f hq
join-range ws hp hq (right e f) = rw f hp
join-range ws (inl e) hq (next g h) = rw (meet_left e g h) hq
join-range ws (inr l) (inl e) (next g h) = rw (meet_right e g h) (inr l)
join-range ws (inr l) (inr k) (next g h) = rw h (inr (omega arith, omega arith))

module _ (ws : List ℕ) (K : ℕ → Range → Type 0) (free : ℕ → ℕ) (e : ℕ → ℕ → Range) where
  abbrev P : Symbol → Range → Type 0
  P = May ws K free e

  may-range : (s : Symbol) (p : Range) → P s p → IsRange ws p
  unfolding May
  may-range (word w) p h = inr (omega (arith, (measure h).1), (measure h).0)
  may-range (part k c) p (any l m i) = i
  may-range (part k c) p (chosen l m i) = i

  run-range : {ss : List Symbol} {r : Range} → Run P ss r → IsRange ws r
  run-range (done e) = inl e
  run-range (more {s = s} {p = p} h d j) = join-range ws (may-range s p h) (run-range d) (joined→join j)

  module _ (ss : List Symbol) where
    ended : {s : ℕ} {p : Places} → Reaches P ss s p → Ended P ss s p.ends
    ended {s} {p} h = record { sound = λ i b. (h.sound (span s (suc i)) (moved refl i refl b)).0; whole = λ i d. at i (h.whole (span s (suc i)) d (inr refl)) }
      where
        at : (i : ℕ) → Holds p s (span s (suc i)) → Bit p.ends i
        at i (unmoved e o) = absurd (omega (arith, ap to_of e))
        at i (moved f j t b) = let q : j ≡ i = omega arith in subst (Bit p.ends) q b

    -- the first n are done
    pub record Firsts (n size : ℕ) (sets : List ℕ) : Type 0 where
      pub same : length sets ≡ size
      pub most : n ≤ length ws
      pub each : (s : ℕ) → s < n → Ended P ss s (get_or sets s 0)

    pub firsts-none : (sets : List ℕ) → Firsts 0 (length sets) sets
    firsts-none sets = record { same = refl; most = omega arith; each = λ s h. absurd (omega arith) }

    pub firsts-on : (n size : ℕ) (sets : List ℕ) {p : Places} → n < length ws → n < length sets → Firsts n size sets → Reaches P ss n p → Firsts (n + 1) size (set sets n p.ends)
    firsts-on n size sets {p} l m f h = record { same = length-set sets n p.ends ∙ f.same; most = omega arith; each = λ s k. by s (ltb s n) refl k }
      where
        by : (s : ℕ) (b : Bool) → ltb s n ≡ b → s < n + 1 → Ended P ss s (get_or (set sets n p.ends) s 0)
        by s true q k =
            let g = ltb-true s n q in
            subst (Ended P ss s) (sym (get_or-set_other sets n s p.ends 0 (λ z. omega arith))) (f.each s g)
        by s false q k =
            let g = ltb-false s n q in
            let z : s ≡ n = omega arith in
            subst (λ (x : ℕ). Ended P ss x (get_or (set sets n p.ends) x 0)) (sym z) (subst (Ended P ss n) (sym (get_or-set_same sets n p.ends 0 m)) (ended h))

    -- the sets that stand behind do not matter
    pub firsts-with : {n size : ℕ} {sets : List ℕ} (others : List ℕ) → length ws ≤ length sets → Firsts n size sets → Firsts n (length (sets ++ others)) (sets ++ others)
    firsts-with {n} {size} {sets} others l f = record {
      same = refl;
      most = f.most;
      each = λ s h. subst (Ended P ss s) (sym (get_or-append sets others 0 s (omega (arith, f.most)))) (f.each s h);
    }

    pub firsts-all : {n size v : ℕ} {sets : List ℕ} {p : Places} → length ws ≤ n → length ws < length sets → Firsts n size sets → Reaches P ss 0 p → Digit p.still v
        → RowSet P ss (length ws) (set sets (length ws) v)
    firsts-all {n} {v = v} {sets = sets} {p = p} l m f h d = record {
      all = λ s k. subst (Ended P ss s) (sym (get_or-set_other sets (length ws) s v 0 (λ z. omega arith))) (f.each s (omega arith));
      none_else = λ r d. real r (run-range d);
      empty = λ o. (h.sound none (unmoved refl (d.back (sym last ∙ o)))).0;
      empty_whole = λ e. last ∙ d.one (at (h.whole none e (inl refl)));
    }
      where
        last : get_or (set sets (length ws) v) (length ws) 0 ≡ v
        last = get_or-set_same sets (length ws) v 0 m

        real : (r : Range) → IsRange ws r → (r ≡ none) ⊎ ((r.from < length ws) × (r.from < r.to) × (r.to ≤ length ws))
        real r (inl e) = inl e
        real r (inr (a, b)) = inr (omega arith, a, b)

        at : Holds p 0 none → p.still ≡ true
        at (unmoved e o) = o
        at (moved f i t b) = absurd (omega arith)
