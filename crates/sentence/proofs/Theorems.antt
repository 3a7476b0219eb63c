-- What the contract of `sentence` comes to: an answer 0 has written exactly the words of the one tree that the list is; every tree's list is
-- so answered where it may be; a refusal writes nothing; and the answer is determined.
use mathlib.Core.Path.{◌≡◌, refl, sym, ap, ◌∙◌}
use mathlib.Core.List.{List, ◌++◌}
use mathlib.Core.Bool.{cond}
use Prim.Native.Nat.{ℕ, ◌≤◌}
use native.Mathlib.Omega.{arith}
use borrow.Author.Tests.{ne_eqb}
use lib.Dec.{eqb}
use lib.ListN.{length, take, drop, length-append, length-drop}
use lib.Seq.{take_at, drop_at}
use Rattle.meaning.specs.Refusals as refusal
use Rattle.meaning.specs.Grammar.{Tree, Of, functions}
use Rattle.meaning.specs.Table.{got, check_table}
use Rattle.meaning.specs.Decode.{grammar_of}
use Rattle.meaning.specs.SentenceWriting.{Reads, words, SentenceWritten, bad_table, too_many, wrong, no_room, wrote}
use Rattle.meaning.proofs.Codes.{refusal-code, refusal_of, refusal-told}
use Rattle.meaning.proofs.Decoded.{valid-grammar}
use Rattle.meaning.proofs.Walk.{one-tree}
use Rattle.meaning.proofs.Determined.{Same, same-sentence}
use Rattle.std.specs.Prelude.{Result, Ok, Err}
use Rattle.sentence.specs.declared.refusal.SentenceRefusal.{SentenceRefusal}
use Rattle.sentence.specs.declared.refusal.SentenceRefusal.TheVariants.{Table, TreeList, TextRoom}
use Rattle.sentence.specs.Answers.{code_of, place_of, count_of}

-- n words stand at the front of the text after the call: those of the one tree that the list is; the rest is as lent
pub record Spelled (table list before : List ℕ) (n : ℕ) (after : List ℕ) : Type 0 where
  pub tree : Tree
  pub reads : Reads (grammar_of table) list tree
  pub only : (u : Tree) → Reads (grammar_of table) list u → u ≡ tree
  pub count : n ≡ length (words tree)
  pub front : take n after ≡ words tree
  pub rest : drop n after ≡ drop n before
  pub size : length after ≡ length before

module _ (t l b : List ℕ) where
  pub words-spelled : {c p n : ℕ} {a : List ℕ} → SentenceWritten t l b c p n a → c ≡ 0 → Spelled t l b n a
  words-spelled (bad_table {r} e) z = absurd (omega (arith, (refusal-code r).0))
  words-spelled (too_many e h) z = absurd (omega arith)
  words-spelled (wrong e h f) z = absurd (omega arith)
  words-spelled (no_room e h r m) z = absurd (omega arith)
  words-spelled (wrote {t = T} e h r m) z = record {
    tree = T;
    reads = r;
    only = λ u s. one-tree (grammar_of t) (valid-grammar t e) l u T s r;
    count = refl;
    front = take_at (words T) (drop (length (words T)) b) (length (words T)) refl;
    rest = drop_at (words T) (drop (length (words T)) b) (length (words T)) refl;
    size = length-append (words T) (drop (length (words T)) b) ∙ omega (arith, length-drop (length (words T)) b);
  }

  -- 'Refusals by either write nothing', and have count 0
  pub refused-unwritten : {c p n : ℕ} {a : List ℕ} → SentenceWritten t l b c p n a → (c ≡ 0 → ⊥) → (n ≡ 0) × (a ≡ b)
  refused-unwritten (bad_table e) z = (refl, refl)
  refused-unwritten (too_many e h) z = (refl, refl)
  refused-unwritten (wrong e h f) z = (refl, refl)
  refused-unwritten (no_room e h r m) z = (refl, refl)
  refused-unwritten (wrote e h r m) z = absurd (z refl)

-- the list of a tree of the start category is answered its words, where it has at most 255 nodes and the text has room
pub tree-spelled :
    {t b : List ℕ} {c p n : ℕ} {a : List ℕ} (T : Tree) → check_table t ≡ got tt → Of (grammar_of t) T (grammar_of t).start → length (functions T) ≤ 255
    → length (words T) ≤ length b → SentenceWritten t (functions T) b c p n a
    → Same c p n a 0 0 (length (words T)) (words T ++ drop (length (words T)) b)
tree-spelled {t} {b} T e o h m x = same-sentence t (functions T) b x (wrote {t = T} e h (record { kind = o; told = refl }) m)

-- the answer with a code, a place and a count
abbrev Answer : Type 0
Answer = Result ℕ SentenceRefusal

abbrev answer_of : ℕ → ℕ → ℕ → Answer
answer_of c p n =
    cond (eqb c (code_of (Ok n))) (Ok n)
    (cond (eqb c (code_of (Err (TreeList p)))) (Err (TreeList p)) (cond (eqb c (code_of (Err (TextRoom p)))) (Err (TextRoom p)) (Err (Table (refusal_of c p)))))

answer-told : (r : Answer) → answer_of (code_of r) (place_of r) (count_of r) ≡ r
answer-told (Err (Table r)) =
    let k = refusal.code_of r in
    let (low, high) = refusal-code r in
    rw (ne_eqb k 0 (λ e. omega arith), ne_eqb k 20 (λ e. omega arith), ne_eqb k 21 (λ e. omega arith)) (ap (λ q. Err (Table q)) (refusal-told r))
answer-told (Err (TreeList p)) = refl
answer-told (Err (TextRoom n)) = refl
answer-told (Ok n) = refl

-- the three numbers tell the answer
same_numbers : (r r' : Answer) → code_of r ≡ code_of r' → place_of r ≡ place_of r' → count_of r ≡ count_of r' → r ≡ r'
same_numbers r r' c p n = sym (answer-told r) ∙ (λ i. answer_of (c i) (p i) (n i)) ∙ answer-told r'

-- any two results that the contract of `sentence` allows are equal
pub same_answer :
    (t l b : List ℕ) (r r' : Answer) {a a' : List ℕ} → SentenceWritten t l b (code_of r) (place_of r) (count_of r) a
    → SentenceWritten t l b (code_of r') (place_of r') (count_of r') a' → (r ≡ r') × (a ≡ a')
same_answer t l b r r' x y = let (c, p, n, e) = same-sentence t l b x y in (same_numbers r r' c p n, e)
