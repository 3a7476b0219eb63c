-- A sentence's words, by their places: word i is the number at byte 2 i.
use mathlib.Core.Path.{◌≡◌, ap, ◌∙◌}
use mathlib.Core.List.{List}
use Prim.Native.Nat.{ℕ, zero, suc, ◌+◌, ◌*◌, ◌/◌, ◌<◌}
use native.Mathlib.Omega.{arith}
use lib.ListN.{length, get_or}
use Rattle.meaning.specs.Table.{number}
use Rattle.meaning.specs.Decode.{past, words_of}
use Rattle.meaning.proofs.Decoded.{several-length, several-at}

past_two : (n at : ℕ) → past n (λ p. p + 2) at ≡ at + 2 * n
unfolding past
past_two zero at = omega arith
past_two (suc n) at = past_two n (at + 2) ∙ omega arith

module _ (b : List ℕ) where
  pub words-length : length (words_of b) ≡ length b / 2
  unfolding words_of
  words-length = several-length (number b) (λ p. p + 2) (length b / 2) 0

  pub word_at : (i : ℕ) → i < length b / 2 → get_or (words_of b) i 0 ≡ number b (2 * i)
  unfolding words_of
  word_at i h = several-at (number b) (λ p. p + 2) (length b / 2) 0 i 0 h ∙ ap (number b) (past_two i 0 ∙ omega arith)
