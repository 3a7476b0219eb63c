-- What the contracts of the library's calls come to: any two results that they allow are equal, the lent array and the slice.
use mathlib.Core.Path.{◌≡◌, refl, sym, ◌∙◌}
use mathlib.Core.List.{List, [], ◌∷◌}
use Prim.Native.Nat.{ℕ}
use native.Mathlib.Omega.{arith}
use lib.ListN.{length, get_or}
use Rattle.meaning.specs.Reading.{Read}
use Rattle.meaning.specs.TreeWriting.{TreeWritten}
use Rattle.meaning.specs.SentenceWriting.{SentenceWritten}
use Rattle.meaning.proofs.Determined.{Same, same_read, same-tree, same-sentence}

three-numbers : (x : List ℕ) → length x ≡ 3 → get_or x 0 0 ∷ get_or x 1 0 ∷ get_or x 2 0 ∷ [] ≡ x
three-numbers [] h = absurd (omega arith)
three-numbers (c ∷ []) h = absurd (omega arith)
three-numbers (c ∷ p ∷ []) h = absurd (omega arith)
three-numbers (c ∷ p ∷ n ∷ []) h = refl
three-numbers (c ∷ p ∷ n ∷ m ∷ x) h = absurd (omega arith)

-- arrays of three numbers that have the same code, place and count
module _ {x x' : List ℕ} (h : length x ≡ 3) (h' : length x' ≡ 3) where
  same-array : {a a' : List ℕ} → Same (get_or x 0 0) (get_or x 1 0) (get_or x 2 0) a (get_or x' 0 0) (get_or x' 1 0) (get_or x' 2 0) a' → (x ≡ x') × (a ≡ a')
  same-array (c, p, n, e) = (sym (three-numbers x h) ∙ (λ i. c i ∷ p i ∷ n i ∷ []) ∙ three-numbers x' h', e)

  pub same-mcg-read : (t w : List ℕ) (allowance : ℕ) (b : List ℕ) {a a' : List ℕ}
      → Read t w allowance b (get_or x 0 0) (get_or x 1 0) (get_or x 2 0) a → Read t w allowance b (get_or x' 0 0) (get_or x' 1 0) (get_or x' 2 0) a'
      → (x ≡ x') × (a ≡ a')
  same-mcg-read t w allowance b r s = same-array (same_read t w allowance b r s)

  pub same-mcg-tree : (t w c : List ℕ) (count root : ℕ) (b : List ℕ) {a a' : List ℕ}
      → TreeWritten t w c count root b (get_or x 0 0) (get_or x 1 0) (get_or x 2 0) a
      → TreeWritten t w c count root b (get_or x' 0 0) (get_or x' 1 0) (get_or x' 2 0) a' → (x ≡ x') × (a ≡ a')
  same-mcg-tree t w c count root b r s = same-array (same-tree t w c count root b r s)

  pub same-mcg-sentence : (t l b : List ℕ) {a a' : List ℕ} → SentenceWritten t l b (get_or x 0 0) (get_or x 1 0) (get_or x 2 0) a
      → SentenceWritten t l b (get_or x' 0 0) (get_or x' 1 0) (get_or x' 2 0) a' → (x ≡ x') × (a ≡ a')
  same-mcg-sentence t l b r s = same-array (same-sentence t l b r s)
