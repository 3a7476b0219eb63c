-- What the trees of an accepted table say has no word 0, so that as a sentence of 64 words or fewer it is not refused.
-- The main statements: `spoken-words`, `words-accepted`.
use mathlib.Core.Path.{◌≡◌, refl, sym, ap, ◌∙◌, subst}
use mathlib.Core.Bool.{Bool, true, false, cond}
use mathlib.Core.List.{List, [], ◌++◌, Memᴰ as Mem}
use Prim.Native.Nat.{ℕ, zero, suc, ◌+◌, ◌*◌, ◌/◌, ◌%◌, ◌≤◌, ◌<◌}
use native.Mathlib.Omega.{arith}
use native.Mathlib.Decide.{dec_lt}
use lib.Dec.{eqb}
use lib.ListN.{length, get_or, get_or-map}
use borrow.Author.Tests.{eqb-true, le-ltb, ne_eqb}
use Rattle.meaning.specs.Table.{got, times, byte, number, category_of, dimension_of, check_table}
use Rattle.meaning.specs.Decode.{past, several, symbol_at, row_at, row_end, rows_of, rule_at, rule_end, first_rule, grammar_of, words_of, word_there, check_words, check_input}
use Rattle.meaning.specs.Accepted.{FineRow, FineRule}
use Rattle.meaning.specs.Order.{Each, each_none, each_more}
use Rattle.meaning.specs.Grammar.{Symbol, word, part, Rule, Tree, node, Trees, bare, and, Of, of, OfAll, of_none, of_more, said, row, spell, spells}
use Rattle.meaning.proofs.Order.{each_of}
use Rattle.meaning.proofs.Ends.{fine-table}
use Rattle.meaning.proofs.Decoded.{several-at, several-past, several-mem}
use Rattle.meaning.proofs.Words.{words-length, word_at}

-- a symbol that is a word is not 0
abbrev Spoken : Symbol → Type 0
Spoken s = (w : ℕ) → s ≡ word w → 1 ≤ w

symbol-spoken : (kind n k c : ℕ) → (kind ≡ 0 → 1 ≤ n) → Spoken (cond (eqb kind 0) (word n) (part k c))
symbol-spoken kind n k c h = go (eqb kind 0) refl
  where
    go : (b : Bool) → eqb kind 0 ≡ b → Spoken (cond b (word n) (part k c))
    go true e w q = let r : n ≡ w = cc in omega (arith, h (eqb-true kind 0 e))
    go false e w q = let z : ◌≡◌ {A = ℕ} 0 1 = cc in absurd (omega arith)

module _ (t : List ℕ) where
  row-spoken : (rule at : ℕ) → FineRow t rule at → Each Spoken (row_at t at)
  unfolding row_at symbol_at
  row-spoken rule at f = each_of (row_at t at) (λ s m.
      let (i, h, q) = several-mem (symbol_at t) (λ p. p + 3) (byte t at) (at + 1) m in
      subst Spoken (sym q) (symbol-spoken _ _ _ _ (f.symbols i h).0))

  rule-spoken : (at : ℕ) → FineRule t at → (i : ℕ) → Each Spoken (get_or (rule_at t at).rows i [])
  unfolding rule_at
  rule-spoken at f i = go (dec_lt i (dimension_of t (category_of t at)))
    where
      go : Dec (i < dimension_of t (category_of t at)) → Each Spoken (get_or (several (dimension_of t (category_of t at)) (row_at t) (row_end t) (rows_of t at)) i [])
      go (yes l) = rw (several-at (row_at t) (row_end t) (dimension_of t (category_of t at)) (rows_of t at) i [] l) (row-spoken at _ (f.rows i l))
      go (no l) = rw (several-past (row_at t) (row_end t) (dimension_of t (category_of t at)) (rows_of t at) i [] (omega arith)) each_none

  rules-spoken : check_table t ≡ got tt → {r : Rule} → Mem r (grammar_of t).rules → (i : ℕ) → Each Spoken (get_or r.rows i [])
  unfolding grammar_of
  rules-spoken e {r} m i =
      let (k, h, q) = several-mem (rule_at t) (rule_end t) (number t 7) (first_rule t) m in
      rw q (rule-spoken (past k (rule_end t) (first_rule t)) ((fine-table t e).rules k h) i)

-- numbers none of which is 0
abbrev pub NonZero : List ℕ → Type 0
NonZero ws = Each (λ (w : ℕ). 1 ≤ w) ws

each_append : {A : Type 0} {P : A → Type 0} {xs ys : List A} → Each P xs → Each P ys → Each P (xs ++ ys)
each_append each_none qs = qs
each_append (each_more p ps) qs = each_more p (each_append ps qs)

said-spoken : (ps : List (List (List ℕ))) → ((k c : ℕ) → NonZero (get_or (get_or ps k []) c [])) → (s : Symbol) → Spoken s → NonZero (said ps s)
unfolding said
said-spoken ps h (word w) q = each_more (q w refl) each_none
said-spoken ps h (part k c) q = h k c

row-nonzero : (ps : List (List (List ℕ))) → ((k c : ℕ) → NonZero (get_or (get_or ps k []) c [])) → {ss : List Symbol} → Each Spoken ss → NonZero (row ps ss)
unfolding row
row-nonzero ps h each_none = each_none
row-nonzero ps h (each_more {a = s} q qs) = each_append (said-spoken ps h s q) (row-nonzero ps h qs)

module _ (t : List ℕ) (e : check_table t ≡ got tt) where
  mutual
    unfolding spell row

    pub spoken-words : (T : Tree) {A : ℕ} → Of (grammar_of t) T A → (i : ℕ) → NonZero (get_or (spell T) i [])
    spoken-words (node r ts) (of m q o) i = rw (get_or-map (row (spells ts)) r.rows i []) (row-nonzero (spells ts) (λ k c. spoken-all ts o k c) (rules-spoken t e m i))

    spoken-all : (ts : Trees) {As : List ℕ} → OfAll (grammar_of t) ts As → (k c : ℕ) → NonZero (get_or (get_or (spells ts) k []) c [])
    spoken-all bare of_none k c = each_none
    spoken-all (and T ts) (of_more o os) zero c = spoken-words T o c
    spoken-all (and T ts) (of_more o os) (suc k) c = spoken-all ts os k c

-- words of which none is 0, in at most 64 pairs of bytes, are accepted
at-nonzero : {ws : List ℕ} → NonZero ws → (i : ℕ) → i < length ws → 1 ≤ get_or ws i 0
at-nonzero each_none i h = absurd (omega arith)
at-nonzero (each_more p ps) zero h = p
at-nonzero (each_more p ps) (suc i) h = at-nonzero ps i (omega arith)

module _ (b : List ℕ) (few : length b / 2 ≤ 64) (even : length b % 2 ≡ 0) (fine : NonZero (words_of b)) where
  each-there : (i : ℕ) → i < length b / 2 → word_there b i ≡ got (i + 1)
  unfolding word_there words_of
  each-there i h =
      let n : number b (2 * i) ≡ 0 → ⊥ = (λ z. omega (arith, at-nonzero fine i (omega (arith, words-length b)), word_at b i h)) in
      rw (ne_eqb (number b (2 * i)) 0 n)

  all_there : (n i : ℕ) → i + n ≤ length b / 2 → times n (word_there b) i ≡ got (i + n)
  unfolding times
  all_there zero i h = ap got (omega arith)
  all_there (suc n) i h = rw (each-there i (omega arith)) (all_there n (i + 1) (omega arith) ∙ ap got (omega arith))

  pub words-accepted : check_words b ≡ got tt
  unfolding check_words
  words-accepted =
      let n : length b % 2 ≡ 1 → ⊥ = (λ z. omega arith) in
      rw (le-ltb 64 (length b / 2) few, ne_eqb (length b % 2) 1 n, all_there (length b / 2) 0 (omega arith))

pub input-accepted : (t b : List ℕ) → check_table t ≡ got tt → check_words b ≡ got tt → check_input t b ≡ got tt
unfolding check_input
input-accepted t b e f = rw (e, f)
