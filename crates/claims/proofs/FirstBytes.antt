-- 'No valid table exceeds 39,497 bytes, so a program that reads the first 40,000 bytes gives the same answer as for the whole file.'
-- The main statements: `check-first`, that the two are checked alike, and `read_first`, `tree-first`, `sentence-first`, that the three
-- calls' definitions allow the same results for both.
use Prim.Native.Nat.{ℕ, suc, ◌+◌, ◌*◌, ◌≤◌}
use mathlib.Core.Path.{◌≡◌, refl, sym, ap, ◌∙◌, subst}
use mathlib.Core.Logic.{◌↔◌}
use mathlib.Core.Bool.{not}
use mathlib.Core.List.{List, []}
use native.Mathlib.Omega.{arith}
use native.Mathlib.Decide.{dec_le}
use lib.ListN.{length}
use lib.Seq.{take_all, length-take-le, get_or-take}
use lib.Dec.{ltb, eqb}
use borrow.Author.Tests.{lt-ltb}
use Rattle.meaning.specs.declared.Refusal.TheVariants.{Start, Trailing}
use Rattle.meaning.specs.Table.{got, ◌>>=◌, ◌>>◌, refuse_if, times, byte, number, header, dimension, dimension_of, category_of, rule, rules, check_table}
use Rattle.meaning.specs.Decode.{grammar_of}
use Rattle.meaning.specs.Accepted.{Dims}
use Rattle.meaning.specs.Reading.{Read}
use Rattle.meaning.specs.TreeWriting.{TreeWritten}
use Rattle.meaning.specs.SentenceWriting.{SentenceWritten}
use Rattle.meaning.proofs.Fields.{both, same, header-there, dims-there}
use Rattle.meaning.proofs.Ends.{rule_end_lem, first-there}
use Rattle.meaning.proofs.Places.{row_is, first-is, rows_are, rule-most, table-most}
use Rattle.claims.specs.Across.{enough, first_bytes}
use Rattle.claims.proofs.Alike.{Equal, alike_next, alike-test, alike-map, times-alike, times-keeps, alike_same, same_alike, Alike, both_refused}
use Rattle.claims.proofs.Windows.{Window, at-start, same_place, unmoved, byte-same, number_same, RowRoom, RuleRoom, rule-alike, header-same, same-top, dims-same}
use Rattle.claims.proofs.Carry.{SameRules, itself, turned, read-carried, tree-carried, sentence-carried}

-- two tables that both have the same first 40,000 bytes
module _ {t u : List ℕ} (w : Window t u 0 0 enough) where
  -- a rule takes at most 154 bytes, a row 49, and so there is room
  rows-room : RowRoom t enough (λ n at. at + n * 49 ≤ enough)
  rows-room = record {
    one = λ n at i. omega arith;
    end = λ n at i h. omega (arith, row_is t at);
    rest = λ n at i h. omega (arith, row_is t at);
  }

  module _ (few : byte t 5 ≤ 64) (dims : Dims t) where
    rule-room : (at : ℕ) → at + 154 ≤ enough → RuleRoom t enough (λ n at. at + n * 49 ≤ enough) at
    rule-room at h = record {
      head = omega arith;
      body = λ r low high. (omega (arith, rows_are t at), omega (arith, rows_are t at, dims (category_of t at) low high));
    }

    rule-next : (n : ℕ) (a a' : ℕ × List ℕ) → a.0 + suc n * 154 ≤ 39497 → rule t a ≡ got a' → a'.0 + n * 154 ≤ 39497
    rule-next n a a' i e =
        let (p, f) = rule_end_lem t a a' e in
        omega (arith, p, rule-most t a.0 (dims (category_of t a.0) f.low f.high) f)

    rule-same : (a b : ℕ × List ℕ) → a.0 + 154 ≤ enough → a ≡ b → Alike Equal Equal (rule t a) (rule u b)
    rule-same a b i e = subst (λ c. Alike Equal Equal (rule t a) (rule u c)) e
        (alike-map Equal (λ x y (p, q, r) i. (same_place p i, (q ∙ sym r) i))
        (rule-alike w Equal unmoved (same-top w (omega arith) (omega arith)) rows-room a a (at-start a.0) (rule-room a.0 i) refl))

    rules-same : (n at : ℕ) → n ≤ 256 → at ≤ 73 → rules t n at ≡ rules u n at
    unfolding rules
    rules-same n at h l = ap (λ x. x >>= (λ (s : ℕ × List ℕ). got s.0)) (alike_same
        (times-alike Equal (λ n a. a.0 + n * 154 ≤ 39497) Equal (rule t) (rule u) (λ n a b i. rule-same a b (omega arith)) rule-next n (at, []) (at, []) (omega arith) refl))

    rules-most : (n at next : ℕ) → n ≤ 256 → at ≤ 73 → rules t n at ≡ got next → next ≤ 39497
    unfolding rules
    rules-most n at next h l e =
        let b = both (times n (rule t) (at, [])) _ next e in
        omega (arith, same b.2, times-keeps (λ n a. a.0 + n * 154 ≤ 39497) (rule t) rule-next n (at, []) b.0 (omega arith) b.1)

    -- what comes after the dimensions
    rest-alike : 1 ≤ byte t 6 → byte t 6 ≤ byte t 5 → number t 7 ≤ 256 → (at at' : ℕ) → at ≤ 73 → at ≡ at'
        → Alike Equal Equal (refuse_if (not (eqb (dimension_of t (byte t 6)) 1)) (Start (8 + byte t 6)) >> (rules t (number t 7) at >>= (λ next. refuse_if (ltb next (length t)) (Trailing next))))
        (refuse_if (not (eqb (dimension_of u (byte u 6)) 1)) (Start (8 + byte u 6)) >> (rules u (number u 7) at' >>= (λ next. refuse_if (ltb next (length u)) (Trailing next))))
    rest-alike low high count at at' l e =
        let six : byte t 6 ≡ byte u 6 = byte-same w (at-start 6) (omega arith) in
        let one : dimension_of t (byte t 6) ≡ dimension_of u (byte t 6) = byte-same w (at-start (8 + byte t 6)) (omega arith) in
        let n : number t 7 ≡ number u 7 = number_same w (at-start 7) (omega arith) in
        rw (← six, ← one, ← n)
        (alike-test Equal (not (eqb (dimension_of t (byte t 6)) 1)) (not (eqb (dimension_of t (byte t 6)) 1)) refl refl (λ _.
        alike_next Equal _ _ (same_alike (rules t (number t 7) at) (rules-same (number t 7) at count l ∙ ap (rules u (number t 7)) e)) (λ next next' read q.
        let m = rules-most (number t 7) at next count l read in
        rw (lt-ltb next (length t) (omega (arith, w.fits)), lt-ltb next' (length u) (omega (arith, w.fits'))) (both_refused (ap Trailing q)))))

  check-same : check_table t ≡ check_table u
  unfolding check_table
  check-same = alike_same (alike_next Equal _ _ (same_alike (header t) (header-same w (omega arith))) (λ p p' read e.
      let (nine, count, long, cats, start) = header-there t p read in
      let d : times (byte t 5) (dimension t) p ≡ times (byte u 5) (dimension u) p' =
      ap (times (byte t 5) (dimension t)) nine ∙ dims-same w (omega arith) (omega arith) ∙ ap (times (byte u 5) (dimension u)) (sym nine ∙ e) in
      alike_next Equal _ _ (same_alike (times (byte t 5) (dimension t) p) d) (λ q q' read' e'.
      rest-alike cats.1 (dims-there t p q nine read') start.0 start.1 count q q' (omega (arith, first-there t p q read read', first-is t)) e')))

-- the check's answer for the first 40,000 bytes is that for the whole
pub check-first : (t : List ℕ) → check_table (first_bytes t) ≡ check_table t
check-first t = go (dec_le (length t) enough)
  where
    go : Dec (length t ≤ enough) → check_table (first_bytes t) ≡ check_table t
    go (yes h) = ap check_table (take_all enough t h)
    go (no h) = sym (check-same (record {
      fits = omega arith;
      fits' = omega (arith, length-take-le enough t (omega arith));
      copied = record { bytes = λ i l. sym (get_or-take enough t (0 + i) 0 l) };
    }))

-- an accepted table is whole in its first 40,000 bytes
same-rules : (t : List ℕ) → check_table t ≡ got tt → SameRules (grammar_of (first_bytes t)) (grammar_of t)
same-rules t e = rw (take_all enough t (omega (arith, table-most t e))) (itself (grammar_of t))

-- the same is allowed for the first 40,000 bytes and for the whole
module _ {t : List ℕ} {c p n : ℕ} {a : List ℕ} where
  pub read_first : {w : List ℕ} {allowance : ℕ} {b : List ℕ} → Read (first_bytes t) w allowance b c p n a ↔ Read t w allowance b c p n a
  read_first = (
    read-carried (first_bytes t) t (check-first t) (λ e. same-rules t (sym (check-first t) ∙ e)),
    read-carried t (first_bytes t) (sym (check-first t)) (λ e. turned (same-rules t e)),
  )

  pub tree-first : {w chart : List ℕ} {count root : ℕ} {b : List ℕ} → TreeWritten (first_bytes t) w chart count root b c p n a ↔ TreeWritten t w chart count root b c p n a
  tree-first = (
    tree-carried (first_bytes t) t (check-first t) (λ e. same-rules t (sym (check-first t) ∙ e)),
    tree-carried t (first_bytes t) (sym (check-first t)) (λ e. turned (same-rules t e)),
  )

  pub sentence-first : {l b : List ℕ} → SentenceWritten (first_bytes t) l b c p n a ↔ SentenceWritten t l b c p n a
  sentence-first = (
    sentence-carried (first_bytes t) t (check-first t) (λ e. same-rules t (sym (check-first t) ∙ e)),
    sentence-carried t (first_bytes t) (sym (check-first t)) (λ e. turned (same-rules t e)),
  )
