-- What the contract of `read` comes to: yes exactly when some tree of the start category spells the whole sentence; and the answer is determined.
use mathlib.Core.Path.{◌≡◌, refl, sym, ap, ◌∙◌}
use mathlib.Core.Logic.{◌⊎◌, inl, inr, ⊎_elim}
use mathlib.Core.List.{List}
use mathlib.Core.Bool.{cond}
use Prim.Native.Nat.{ℕ, zero, suc, ◌≤◌}
use native.Mathlib.Omega.{arith}
use borrow.Author.Tests.{ne_eqb}
use lib.Dec.{eqb}
use Rattle.std.specs.Prelude.{Result, Ok, Err}
use Rattle.meaning.specs.declared.Refusal.{Refusal}
use Rattle.meaning.specs.Refusals as refusal
use Rattle.meaning.specs.Decode.{grammar_of, words_of}
use Rattle.meaning.specs.Reading.{Read}
use Rattle.meaning.proofs.Codes.{refusal-code, refusal_of, refusal-told}
use Rattle.meaning.proofs.Determined.{same_read}
use Rattle.meaning.proofs.Yes.{Spelt, yes-has-tree, no-has-none}
use Rattle.reader.specs.declared.answer.Reading.{Reading}
use Rattle.reader.specs.declared.answer.Reading.TheVariants.{Yes, No}
use Rattle.reader.specs.declared.answer.ReadRefusal.{ReadRefusal}
use Rattle.reader.specs.declared.answer.ReadRefusal.TheVariants.{Input, Full, Deep}
use Rattle.reader.specs.Answers.{code_of, place_of, count_of}

-- a yes has a tree that spells the sentence; and where there is one, what is answered yes or no is answered yes
pub record YesExactly (t w : List ℕ) (code : ℕ) : Type 0 where
  pub spelt : code ≡ 0 → Spelt (grammar_of t) (words_of w)
  pub yes : code ≤ 1 → Spelt (grammar_of t) (words_of w) → code ≡ 0

below_two : (n : ℕ) → n ≤ 1 → (n ≡ 0) ⊎ (n ≡ 1)
below_two zero h = inl refl
below_two (suc zero) h = inr refl
below_two (suc (suc n)) h = absurd (omega arith)

abbrev Answer : Type 0
Answer = Result Reading ReadRefusal

-- the answer with a code, a place and a count
abbrev answer_of : ℕ → ℕ → ℕ → Answer
answer_of c p n =
    cond (eqb c (code_of (Ok (Yes p n)))) (Ok (Yes p n))
    (cond (eqb c (code_of (Ok (No n)))) (Ok (No n))
    (cond (eqb c (code_of (Err (Full p)))) (Err (Full p)) (cond (eqb c (code_of (Err Deep))) (Err Deep) (Err (Input (refusal_of c p))))))

answer-told : (r : Answer) → answer_of (code_of r) (place_of r) (count_of r) ≡ r
answer-told (Ok (Yes p n)) = refl
answer-told (Ok (No n)) = refl
answer-told (Err (Input r)) =
    let k = refusal.code_of r in
    let (low, high) = refusal-code r in
    rw (ne_eqb k 0 (λ e. omega arith), ne_eqb k 1 (λ e. omega arith), ne_eqb k 16 (λ e. omega arith), ne_eqb k 22 (λ e. omega arith))
    (ap (λ (r : Refusal). Err (Input r)) (refusal-told r))
answer-told (Err (Full room)) = refl
answer-told (Err Deep) = refl

-- the three numbers tell the answer
same_numbers : (r r' : Answer) → code_of r ≡ code_of r' → place_of r ≡ place_of r' → count_of r ≡ count_of r' → r ≡ r'
same_numbers r r' c p n = sym (answer-told r) ∙ (λ i. answer_of (c i) (p i) (n i)) ∙ answer-told r'

module _ (t w : List ℕ) (allowance : ℕ) (b : List ℕ) where
  pub yes-exactly : (r : Answer) {a : List ℕ} → Read t w allowance b (code_of r) (place_of r) (count_of r) a → YesExactly t w (code_of r)
  yes-exactly r x = record { spelt = yes-has-tree x; yes = λ h s. ⊎_elim (λ e. e) (λ e. absurd (no-has-none x e s)) (below_two (code_of r) h) }

  -- any two results that the contract of `read` allows are equal
  pub same_answer : (r r' : Answer) {a a' : List ℕ} → Read t w allowance b (code_of r) (place_of r) (count_of r) a
      → Read t w allowance b (code_of r') (place_of r') (count_of r') a' → (r ≡ r') × (a ≡ a')
  same_answer r r' x y = let (c, p, n, e) = same_read t w allowance b x y in (same_numbers r r' c p n, e)
