-- The words of a sentence, written into a slice from the left.
use Prim.Native.Nat.{ℕ, ◌+◌, ◌*◌, ◌/◌, ◌<◌, min}
use mathlib.Core.Path.{◌≡◌, ◌∙◌}
use mathlib.Core.List.{List, [], ◌++◌, append-nil}
use native.Mathlib.Omega.{arith}
use native.Mathlib.Numerals.{add-one}
use native.Mathlib.Nat.{zero-add}
use native.Mathlib.Decide.{dec_lt}
use lib.ListN.{length, set, take, drop, drop_of_length-le, length-take}
use lib.Seq.{paste-suc, take_all, length-take-le}
use Rattle.meaning.specs.Table.{got, number}
use Rattle.meaning.specs.Decode.{words_of, check_input}
use Rattle.meaning.proofs.Words.{words-length, word_at}
use Rattle.meaning.proofs.Determined.{words-few}
use Rattle.input.specs.Views.{filled}

module _ (b lent : List ℕ) where
  -- the slice after the first i words were written
  abbrev pub written : ℕ → List ℕ
  written i = take i (words_of b) ++ drop i lent

  pub write-next : (ws : List ℕ) (i v : ℕ) → i < length lent → i < length b / 2 → v ≡ number b (2 * i) → ws ≡ written i → set ws i v ≡ written (i + 1)
  write-next ws i v h k e f =
      let l : i < length (words_of b) = omega (arith, words-length b) in
      rw (f, e, ← word_at b i k, add-one) (simp zero-add at (paste-suc lent 0 (words_of b) i 0 (rw zero-add h) l))

  -- where as many were written as there are, or as fit
  pub all-written : (i : ℕ) → i ≡ min (length lent) (length b / 2) → written i ≡ filled (words_of b) lent
  unfolding filled
  all-written i e = go (dec_lt (length lent) (length b / 2))
    where
      go : Dec (length lent < length b / 2) → written i ≡ take (length lent) (words_of b) ++ drop (length (words_of b)) lent
      go (yes l) =
          let q : i ≡ length lent = omega arith in
          let d = drop_of_length-le lent {i = length lent} (omega arith) in
          let d' = drop_of_length-le lent {i = length (words_of b)} (omega (arith, words-length b)) in
          rw (q, d, d')
      go (no l) =
          let q : i ≡ length (words_of b) = omega (arith, words-length b) in
          rw (q, take_all (length (words_of b)) (words_of b) (omega arith), take_all (length lent) (words_of b) (omega (arith, words-length b)))

  -- where the words were written into the part of the slice that they fit
  pub part-written : (ws : List ℕ) (n i : ℕ) → n ≡ min (length lent) (length b / 2) → i ≡ n → ws ≡ take i (words_of b) ++ drop i (take n lent) → ws ++ drop n lent ≡ filled (words_of b) lent
  part-written ws n i e q f =
      let d : drop i (take n lent) ≡ [] = drop_of_length-le (take n lent) {i = i} (omega (arith, length-take n lent)) in
      rw (f, d, append-nil, q) (all-written n e)

  -- a slice of the words' number holds them exactly
  pub filled-exactly : length lent ≡ length b / 2 → filled (words_of b) lent ≡ words_of b
  unfolding filled
  filled-exactly e =
      rw (take_all (length lent) (words_of b) (omega (arith, words-length b)), drop_of_length-le lent {i = length (words_of b)} (omega (arith, words-length b)))
      (append-nil (words_of b))

pub ruleset writes = (write-next, part-written, length-take)

-- the words of an accepted sentence, read into the front of 64 numbers, just as many as there are
pub words-read : (t w lent : List ℕ) {out : List ℕ} → check_input t w ≡ got tt → length lent ≡ 64 → out ≡ filled (words_of w) (take (length w / 2) lent)
    → out ≡ words_of w
words-read t w lent e n q = q ∙ filled-exactly w (take (length w / 2) lent) (length-take-le (length w / 2) lent (rw n (words-few t w e)))
