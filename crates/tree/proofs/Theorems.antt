-- What the contract of `tree` comes to: the answer is determined, and a refusal writes nothing. That the nodes are those of a tree that makes
-- the root's item, and what holds of the reader's own charts, is in `claims`.
use mathlib.Core.Path.{◌≡◌, refl, sym, ap, ◌∙◌}
use mathlib.Core.List.{List}
use mathlib.Core.Bool.{cond}
use Prim.Native.Nat.{ℕ}
use native.Mathlib.Omega.{arith}
use borrow.Author.Tests.{ne_eqb}
use lib.Dec.{eqb}
use Rattle.std.specs.Prelude.{Result, Ok, Err}
use Rattle.meaning.specs.declared.Refusal.{Refusal}
use Rattle.meaning.specs.Refusals as refusal
use Rattle.meaning.specs.TreeWriting.{TreeWritten, bad_input, too_many, bad_record, no_place, no_room, wrote}
use Rattle.meaning.proofs.Codes.{refusal-code, refusal_of, refusal-told}
use Rattle.meaning.proofs.Determined.{same-tree}
use Rattle.tree.specs.declared.answer.TreeRefusal.{TreeRefusal}
use Rattle.tree.specs.declared.answer.TreeRefusal.TheVariants.{Input, Chart, Place, TreeRoom}
use Rattle.tree.specs.Answers.{code_of, place_of, count_of}

abbrev Answer : Type 0
Answer = Result ℕ TreeRefusal

-- the answer with a code, a place and a count
abbrev answer_of : ℕ → ℕ → ℕ → Answer
answer_of d p n =
    cond (eqb d (code_of (Ok n))) (Ok n)
    (cond (eqb d (code_of (Err (Chart p)))) (Err (Chart p))
    (cond (eqb d (code_of (Err (Place p)))) (Err (Place p))
    (cond (eqb d (code_of (Err (TreeRoom p)))) (Err (TreeRoom p)) (Err (Input (refusal_of d p))))))

answer-told : (r : Answer) → answer_of (code_of r) (place_of r) (count_of r) ≡ r
answer-told (Ok n) = refl
answer-told (Err (Input r)) =
    let k = refusal.code_of r in
    let (low, high) = refusal-code r in
    rw (ne_eqb k 0 (λ e. omega arith), ne_eqb k 17 (λ e. omega arith), ne_eqb k 18 (λ e. omega arith), ne_eqb k 19 (λ e. omega arith))
    (ap (λ (r : Refusal). Err (Input r)) (refusal-told r))
answer-told (Err (Chart i)) = refl
answer-told (Err (Place root)) = refl
answer-told (Err (TreeRoom room)) = refl

-- the three numbers tell the answer
same_numbers : (r r' : Answer) → code_of r ≡ code_of r' → place_of r ≡ place_of r' → count_of r ≡ count_of r' → r ≡ r'
same_numbers r r' d p n = sym (answer-told r) ∙ (λ i. answer_of (d i) (p i) (n i)) ∙ answer-told r'

module _ (t w c : List ℕ) (count root : ℕ) (b : List ℕ) where
  -- any two results that the contract of `tree` allows are equal
  pub same_answer : (r r' : Answer) {a a' : List ℕ} → TreeWritten t w c count root b (code_of r) (place_of r) (count_of r) a
      → TreeWritten t w c count root b (code_of r') (place_of r') (count_of r') a' → (r ≡ r') × (a ≡ a')
  same_answer r r' x y = let (d, p, n, e) = same-tree t w c count root b x y in (same_numbers r r' d p n, e)

  -- 'Refusals by either write nothing', and have count 0
  pub refused-unwritten : {d p n : ℕ} {a : List ℕ} → TreeWritten t w c count root b d p n a → (d ≡ 0 → ⊥) → (n ≡ 0) × (a ≡ b)
  refused-unwritten (bad_input e) z = (refl, refl)
  refused-unwritten (too_many e m) z = (refl, refl)
  refused-unwritten (bad_record e f) z = (refl, refl)
  refused-unwritten (no_place e s l) z = (refl, refl)
  refused-unwritten (no_room e s l r) z = (refl, refl)
  refused-unwritten (wrote e s l q r) z = absurd (z refl)
