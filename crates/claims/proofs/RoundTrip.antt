-- 'The reader's goal tree, if it fits, spells the sentence again. A list that the sentence writer accepts, whose words number 64 or fewer, is
-- answered 0 or 16 by the reader.'
-- The main statements: `goal-tree`, `goal-spelled`, `accepted-read`.
use mathlib.Core.Path.{◌≡◌, refl, sym, ap, ◌∙◌, subst}
use mathlib.Core.Logic.{◌⊎◌, inl, inr}
use mathlib.Core.Option.{some}
use mathlib.Core.List.{List, [], ◌∷◌, ◌++◌}
use Prim.Native.Nat.{ℕ, zero, suc, ◌+◌, ◌-◌, ◌*◌, ◌/◌, ◌≤◌, ◌<◌}
use native.Mathlib.Omega.{arith}
use lib.ListN.{length, get_or, get_elem?, take, drop, replicate, length-take}
use lib.Seq.{take_at}
use Rattle.meaning.specs.Table.{got, number, check_table}
use Rattle.meaning.specs.Decode.{grammar_of, words_of, check_input}
use Rattle.meaning.specs.Range.{Item}
use Rattle.meaning.specs.Giving.{Makes}
use Rattle.meaning.specs.Chart.{Entry, items}
use Rattle.meaning.specs.Reading.{goal, yes_at, no_goal, Read, bad_input, full, deep, read}
use Rattle.meaning.specs.TreeWriting.{stated_at, blank, TreeWritten, too_many, bad_record, no_place, no_room, wrote}
use Rattle.meaning.specs.TreeWriting as tree
use Rattle.meaning.specs.SentenceWriting.{words, SentenceWritten}
use Rattle.meaning.specs.SentenceWriting as sentence
use Rattle.meaning.proofs.Decoded.{several-length}
use Rattle.meaning.proofs.Passing.{known_is, shows}
use Rattle.meaning.proofs.Charts.{spells-sentence}
use Rattle.meaning.proofs.Determined.{Same, same-sentence, table-accepted, valid-input, never}
use Rattle.meaning.proofs.Yes.{Spelt, spelt-yes}
use Rattle.meaning.proofs.Codes.{refusal-code}
use Rattle.claims.specs.Across.{Spells, LentAs}
use Rattle.claims.proofs.Heights.{never-deep}
use Rattle.claims.proofs.Passed.{reader-passes, written-tree}
use Rattle.claims.proofs.Spoken.{spoken-words, words-accepted, input-accepted}

item-there : (C : List (Entry Item)) (p : ℕ) {x : Item} → get_elem? (items C) p ≡ some x → (p < length C) × ((get_or C p blank).known.item ≡ x)
item-there [] p q = let z : ◌≡◌ {A = ℕ} 0 1 = cc in absurd (omega arith)
item-there (e ∷ C) zero q = (omega arith, cc)
item-there (e ∷ C) (suc p) q = let (h, r) = item-there C p q in (omega arith, r)

module _ (t w : List ℕ) (allowance : ℕ) (b : List ℕ) where
  -- a yes has its input accepted, and the goal stands at its place
  goal-there : {c p n : ℕ} {a : List ℕ} → Read t w allowance b c p n a → c ≡ 0
      → (check_input t w ≡ got tt) × (p < n) × ((stated_at a p).item ≡ goal (grammar_of t) (words_of w))
  goal-there (bad_input {r = r} e) z = absurd (omega (arith, (refusal-code r).0))
  goal-there (full e o) z = absurd (omega arith)
  goal-there (deep e o d) z = absurd (omega arith)
  goal-there (read {C = C} e c l (yes_at {p = p} q)) z =
      let (h, r) = item-there C p q in
      (e, h, ap (λ k. k.item) (known_is (shows C (replicate (length b - 12 * length C) 0) p h)) ∙ r)
  goal-there (read e c l (no_goal n)) z = absurd (omega arith)

  -- the goal's tree is written, or does not fit
  pub goal-tree : {c p n : ℕ} {a before : List ℕ} {d q m : ℕ} {after : List ℕ} → Read t w allowance b c p n a → c ≡ 0 → TreeWritten t w a n p before d q m after
      → (d ≡ 19) ⊎ ((d ≡ 0) × (m ≤ 255) × Spells (grammar_of t) (words_of w) (take m after))
  goal-tree x z (tree.bad_input f) = let (e, h, q) = goal-there x z in never e f
  goal-tree x z (too_many f m) = absurd ((reader-passes t w allowance b x).few m)
  goal-tree x z (bad_record {i = i} f y) = absurd (y.bad ((reader-passes t w allowance b x).sound i y.below))
  goal-tree x z (no_place f y l) = let (e, h, q) = goal-there x z in absurd (omega arith)
  goal-tree x z (no_room f y l r) = inl refl
  goal-tree {p = p} {n = n} {a = a} {before = before} x z (wrote {ns = ns} f y l q r) =
      let (h, g) = written-tree t w a n p before (wrote {ns = ns} f y l q r) refl in
      let m : Makes (grammar_of t) (words_of w) g.tree (goal (grammar_of t) (words_of w)) = rw (goal-there x z).2 at g.makes in
      inr (refl, omega arith, record { tree = g.tree; reads = record { kind = m.kind; told = g.list }; says = spells-sentence m })

  -- what fits spells the sentence again
  pub goal-spelled : {c p n : ℕ} {a before : List ℕ} {d q m : ℕ} {after text : List ℕ} {d' q' m' : ℕ} {after' : List ℕ}
      → Read t w allowance b c p n a → c ≡ 0 → TreeWritten t w a n p before d q m after → d ≡ 0
      → length (words_of w) ≤ length text → SentenceWritten t (take m after) text d' q' m' after'
      → Same d' q' m' after' 0 0 (length (words_of w)) (words_of w ++ drop (length (words_of w)) text)
  goal-spelled {d = d} {m = m} {after = after} {text = text} {d' = d'} {q' = q'} {m' = m'} {after' = after'} x z y o h s = go (goal-tree x z y)
    where
      go : (d ≡ 19) ⊎ ((d ≡ 0) × (m ≤ 255) × Spells (grammar_of t) (words_of w) (take m after))
          → Same d' q' m' after' 0 0 (length (words_of w)) (words_of w ++ drop (length (words_of w)) text)
      go (inl e) = absurd (omega arith)
      go (inr (e, l, g)) =
          subst (λ (ws : List ℕ). Same d' q' m' after' 0 0 (length ws) (ws ++ drop (length ws) text)) g.says
          (same-sentence t (take m after) text s
          (sentence.wrote {t = g.tree} (table-accepted t w (goal-there x z).0) (omega (arith, length-take m after)) g.reads (rw g.says h)))

-- the words that the sentence writer wrote, read as a sentence
module _ (t l text : List ℕ) where
  accepted-tree : {d q m : ℕ} {after : List ℕ} → SentenceWritten t l text d q m after → d ≡ 0
      → (check_table t ≡ got tt) × Spells (grammar_of t) (take m after) l
  accepted-tree (sentence.bad_table {r = r} e) z = absurd (omega (arith, (refusal-code r).0))
  accepted-tree (sentence.too_many e h) z = absurd (omega arith)
  accepted-tree (sentence.wrong e h f) z = absurd (omega arith)
  accepted-tree (sentence.no_room e h r m) z = absurd (omega arith)
  accepted-tree (sentence.wrote {t = T} e h r m) z =
      (e, record { tree = T; reads = r; says = sym (take_at (words T) (drop (length (words T)) text) (length (words T)) refl) })

answered : {t w : List ℕ} {allowance : ℕ} {b : List ℕ} {c p n : ℕ} {a : List ℕ} → check_input t w ≡ got tt → Spelt (grammar_of t) (words_of w)
    → Read t w allowance b c p n a → (c ≡ 22 → ⊥) → (c ≡ 0) ⊎ (c ≡ 16)
answered e s (bad_input f) n = never e f
answered e s (full f o) n = inr refl
answered e s (deep f o d) n = absurd (n refl)
answered {t} {w} e s (read f c l v) n = inl (spelt-yes c (valid-input t w e) v s)

pub accepted-read : {t l text : List ℕ} {d q m : ℕ} {after w : List ℕ} {allowance : ℕ} {b : List ℕ} {c p n : ℕ} {a : List ℕ}
    → SentenceWritten t l text d q m after → d ≡ 0 → LentAs after m w → Read t w allowance b c p n a
    → (c ≡ 0) ⊎ (c ≡ 16)
unfolding words_of
accepted-read {t} {l} {text} {m = m} {after = after} {w = w} s z lent x =
    let (e, g) = accepted-tree t l text s z in
    let ws : words g.tree ≡ words_of w = g.says ∙ sym lent.same in
    let h : length w / 2 ≤ 64 = omega (arith, several-length (number w) (λ p. p + 2) (length w / 2) 0, ap length lent.same, length-take m after) in
    let f = input-accepted t w e (words-accepted w h lent.even (rw ws at (spoken-words t e g.tree g.reads.kind 0))) in
    answered f (record { tree = g.tree; kind = g.reads.kind; says = ws }) x (never-deep x)
