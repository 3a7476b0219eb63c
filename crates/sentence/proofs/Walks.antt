-- The walk over noted nodes: it is meaning's walk over the list, and one turn of it with the wanted categories on a stack.
use mathlib.Core.Path.{◌≡◌, refl, sym, ap, ◌∙◌}
use mathlib.Core.Bool.{Bool, true, false}
use mathlib.Core.List.{List, [], ◌∷◌, ◌++◌, map, append_assoc}
use mathlib.Core.Option.{Option, none, some}
use Prim.Native.Nat.{ℕ, zero, suc, ◌+◌, ◌-◌, ◌≤◌, ◌<◌}
use native.Mathlib.Omega.{arith}
use native.Mathlib.Numerals.{add-one}
use borrow.Author.Tests.{eq-eqb, ne_eqb, ltb-true, ltb-false}
use lib.Dec.{ltb}
use Rattle.std.specs.Bool.{then_some}
use lib.ListN.{length, get_or, drop, set, drop_of_length-le}
use lib.Seq.{drop-cons}
use Rattle.meaning.specs.Grammar.{Rule}
use Rattle.meaning.specs.Table.{byte, rank_of, category_of}
use Rattle.meaning.specs.Decode.{several, rule_at, grammar_of}
use Rattle.meaning.specs.SentenceWriting.{fits, walk, fault}
use Rattle.table.specs.Views.{firsts}
use Rattle.table.proofs.Laws.{firsts-set}
use Rattle.sentence.specs.Nodes.{place_for, rule_of, walked, walked_of}
use Rattle.sentence.proofs.Places.{rule-of, place-named}

-- the walk over names that are looked up in two steps
walk-map : (look : ℕ → Option Rule) (g : ℕ → ℕ) (i : ℕ) (As fs : List ℕ) → walk (λ f. look (g f)) i As fs ≡ walk look i As (map g fs)
unfolding walk
walk-map look g i [] [] = refl
walk-map look g i [] (f ∷ fs) = refl
walk-map look g i (A ∷ As) [] = refl
walk-map look g i (A ∷ As) (f ∷ fs) = λ j. fits (look (g f)) A (some i) (λ r. walk-map look g (i + 1) (r.daughters ++ As) fs j)

pub fault-is : (t fs : List ℕ) → fault (grammar_of t) fs ≡ walked t (map (place_for t) fs)
unfolding grammar_of
fault-is t fs = (λ j. walk (λ f. place-named t f j) 0 (byte t 6 ∷ []) fs) ∙ walk-map (rule_of t) (place_for t) 0 (byte t 6 ∷ []) fs

several-snoc : (n : ℕ) (t : List ℕ) (at : ℕ) → several (suc n) (byte t) (λ p. p + 1) at ≡ several n (byte t) (λ p. p + 1) at ++ (byte t (at + n) ∷ [])
unfolding several
several-snoc zero t at = let e : at ≡ at + 0 = omega arith in ap (λ (a : ℕ). byte t a ∷ []) e
several-snoc (suc n) t at =
    let e : at + 1 + n ≡ at + suc n = omega arith in
    ap (λ (l : List ℕ). byte t at ∷ l) (several-snoc n t (at + 1) ∙ ap (λ (a : ℕ). several n (byte t) (λ p. p + 1) (at + 1) ++ (byte t a ∷ [])) e)

-- the first n daughters of the rule at a place, over the n categories on top of a stack
abbrev pub Stack : List ℕ → ℕ → ℕ → ℕ → List ℕ → List ℕ
Stack t rule left next s = several left (byte t) (λ p. p + 1) (rule + 4) ++ firsts next s

-- one daughter's category is put on the stack
pub push-turn : (t : List ℕ) (rule left next x : ℕ) (s : List ℕ) → 0 < left → next < length s → x ≡ byte t (rule + 3 + left)
    → Stack t rule left next s ≡ Stack t rule (left - 1) (next + 1) (set s next x)
push-turn t rule zero next x s h l q = absurd (omega arith)
push-turn t rule (suc n) next x s h l q =
    let e : rule + 4 + n ≡ rule + 3 + suc n = omega arith in
    let m : suc n - 1 ≡ n = omega arith in
    rw (firsts-set next x s l, several-snoc n t (rule + 4), m, e, q) (append_assoc (several n (byte t) (λ p. p + 1) (rule + 4)) _ _)

pub push-end : (t : List ℕ) (rule left next : ℕ) (s : List ℕ) → left ≡ 0 → Stack t rule left next s ≡ firsts next s
unfolding several
push-end t rule left next s e = rw e

pub push-all : (t : List ℕ) (rule next : ℕ) (s : List ℕ) → (rule_at t rule).daughters ++ firsts next s ≡ Stack t rule (rank_of t rule) next s
unfolding rule_at
push-all t rule next s = refl

module _ (t ns : List ℕ) (i w : ℕ) (s : List ℕ) where
  -- the walk from node i on, where w categories on the stack are wanted
  abbrev pub Here : Option ℕ
  Here = walk (rule_of t) i (firsts w s) (drop i ns)

  pub walk-over : w ≡ 0 → i < length ns → Here ≡ some i
  unfolding walk firsts
  walk-over e h = rw (e, drop-cons ns i 0 h)

  pub walk-whole : w ≡ 0 → length ns ≤ i → Here ≡ none
  unfolding walk firsts
  walk-whole e h = rw (e, drop_of_length-le ns {i = i} h)

  top : 0 < w → firsts w s ≡ get_or s (w - 1) 0 ∷ firsts (w - 1) s
  unfolding firsts
  top h = let e : w ≡ suc (w - 1) = omega arith in ap (λ (n : ℕ). firsts n s) e

  pub walk-short : 0 < w → i ≡ length ns → Here ≡ some (length ns)
  unfolding walk
  walk-short l h = let m : length ns ≤ i = omega arith in rw (top l, drop_of_length-le ns {i = i} m) (ap some h)

  -- the last node was walked over
  pub walk-end : i ≡ length ns → walked_of (then_some (ltb 0 w) (length ns)) ≡ Here
  walk-end e = go (ltb 0 w) refl
    where
      go : (b : Bool) → ltb 0 w ≡ b → walked_of (then_some b (length ns)) ≡ Here
      go true l = sym (walk-short (ltb-true 0 w l) e)
      go false l = sym (walk-whole (omega (arith, ltb-false 0 w l)) (omega arith))

  walk_step :
      0 < w → i < length ns
      → Here ≡ fits (rule_of t (get_or ns i 0)) (get_or s (w - 1) 0) (some i) (λ r. walk (rule_of t) (i + 1) (r.daughters ++ firsts (w - 1) s) (drop (i + 1) ns))
  unfolding walk
  walk_step l h = rw (top l, drop-cons ns i 0 h, add-one)

  pub walk-unknown : 0 < w → i < length ns → get_or ns i 0 ≡ 0 → Here ≡ some i
  unfolding rule_of
  walk-unknown l h e = walk_step l h ∙ rw e

  pub walk-other : 0 < w → i < length ns → 1 ≤ get_or ns i 0 → (category_of t (get_or ns i 0) ≡ get_or s (w - 1) 0 → ⊥) → Here ≡ some i
  unfolding rule_at
  walk-other l h p e = walk_step l h ∙ rw (rule-of t (get_or ns i 0) p, ne_eqb _ _ e)

  pub walk-on : 0 < w → i < length ns → 1 ≤ get_or ns i 0 → category_of t (get_or ns i 0) ≡ get_or s (w - 1) 0
      → Here ≡ walk (rule_of t) (i + 1) ((rule_at t (get_or ns i 0)).daughters ++ firsts (w - 1) s) (drop (i + 1) ns)
  unfolding rule_at
  walk-on l h p e = walk_step l h ∙ rw (rule-of t (get_or ns i 0) p, eq-eqb _ _ e)
