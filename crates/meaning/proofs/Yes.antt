-- Yes exactly when some tree of the start category spells the whole sentence.
use mathlib.Core.Path.{◌≡◌, refl, sym, ◌∙◌, subst}
use mathlib.Core.Logic.{inl, inr}
use mathlib.Core.List.{List, [], ◌∷◌, Memᴰ as Mem}
use Prim.Native.Nat.{ℕ, zero, suc, ◌≤◌}
use native.Mathlib.Omega.{arith}
use lib.ListN.{length, get_or, get_or-eq_default}
use lib.Seq.{take-length}
use Rattle.meaning.specs.Decode.{grammar_of, words_of}
use Rattle.meaning.specs.Range.{IsRange, Spans, Item, at}
use Rattle.meaning.specs.Grammar.{Grammar, Tree, Of, spell, levels}
use Rattle.meaning.specs.Giving.{Makes}
use Rattle.meaning.specs.Valid.{Valid}
use Rattle.meaning.specs.Chart.{Entry, ChartOf, Made, items, item_of}
use Rattle.meaning.specs.Reading.{goal, Verdict, yes_at, no_goal, Read, bad_input, full, deep, read}
use Rattle.meaning.specs.SentenceWriting.{words}
use Rattle.meaning.proofs.Order.{each_at}
use Rattle.meaning.proofs.Theory.{at_mem, map-mem}
use Rattle.meaning.proofs.Spans.{spans-none}
use Rattle.meaning.proofs.Laws.{spell-dimension, counts_all}
use Rattle.meaning.proofs.Charts.{spells-sentence}
use Rattle.meaning.proofs.Codes.{refusal-code}
use Rattle.meaning.proofs.Determined.{valid-input}

-- some tree of the start category spells the whole sentence
pub record Spelt (G : Grammar) (ws : List ℕ) : Type 0 where
  pub tree : Tree
  pub kind : Of G tree G.start
  pub says : words tree ≡ ws

whole-range : (ws : List ℕ) → IsRange ws (record { from = 0; to = length ws })
whole-range [] = inl refl
whole-range (w ∷ ws) = inr (omega arith, omega arith)

-- such a tree makes the goal
pub makes-goal : {G : Grammar} {ws : List ℕ} {t : Tree} → Valid G → Of G t G.start → words t ≡ ws → Makes G ws t (goal G ws)
makes-goal {G} {ws} {t} v o e = record { kind = o; spans = spans; counts = counts_all _ }
  where
    silent : (i : ℕ) → 1 ≤ i → get_or (spell t) i [] ≡ []
    silent i h = get_or-eq_default (spell t) [] {n = i} (omega (arith, spell-dimension v o, v.one))

    spans : (i : ℕ) → Spans ws (at (goal G ws) i) (get_or (spell t) i [])
    spans zero = record { range = whole-range ws; words = take-length ws ∙ sym e }
    spans (suc zero) = rw (silent 1 (omega arith)) spans-none
    spans (suc (suc zero)) = rw (silent 2 (omega arith)) spans-none
    spans (suc (suc (suc i))) = rw (silent (suc (suc (suc i))) (omega arith)) spans-none

module _ {G : Grammar} {ws : List ℕ} {C : List (Entry Item)} (c : ChartOf G ws C) where
  goal-spelt : Mem (goal G ws) (items C) → Spelt G ws
  unfolding Made
  goal-spelt m =
      let (e, i, q) = map-mem item_of C m in
      let (t, k, l) = subst (λ (x : Item). Made G ws x e.known.height) (sym q) (each_at c.heights i).made in
      record { tree = t; kind = k.kind; says = spells-sentence k }

  spelt-goal : Valid G → Spelt G ws → Mem (goal G ws) (items C)
  unfolding Made
  spelt-goal v s = c.whole (goal G ws) (levels s.tree) (s.tree, makes-goal v s.kind s.says, refl)

  pub yes-spelt : {a p : ℕ} → Verdict G ws C a p → a ≡ 0 → Spelt G ws
  yes-spelt (yes_at {p = p} e) h = goal-spelt (at_mem (items C) p e)
  yes-spelt (no_goal n) h = absurd (omega arith)

  pub spelt-yes : Valid G → {a p : ℕ} → Verdict G ws C a p → Spelt G ws → a ≡ 0
  spelt-yes v (yes_at e) s = refl
  spelt-yes v (no_goal n) s = absurd (n (spelt-goal v s))

-- over the reader's definition: a yes has its tree, and a no has none
module _ {t w : List ℕ} {allowance : ℕ} {b : List ℕ} where
  pub yes-has-tree : {c p n : ℕ} {a : List ℕ} → Read t w allowance b c p n a → c ≡ 0 → Spelt (grammar_of t) (words_of w)
  yes-has-tree (bad_input {r = r} e) h = absurd (omega (arith, (refusal-code r).0))
  yes-has-tree (full e o) h = absurd (omega arith)
  yes-has-tree (deep e o d) h = absurd (omega arith)
  yes-has-tree (read e c l v) h = yes-spelt c v h

  pub no-has-none : {c p n : ℕ} {a : List ℕ} → Read t w allowance b c p n a → c ≡ 1 → Spelt (grammar_of t) (words_of w) → ⊥
  no-has-none (bad_input {r = r} e) h s = omega (arith, (refusal-code r).0)
  no-has-none (full e o) h s = omega arith
  no-has-none (deep e o d) h s = omega arith
  no-has-none (read e c l v) h s = omega (arith, spelt-yes c (valid-input t w e) v s)
