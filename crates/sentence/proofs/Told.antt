-- What the code finds over the nodes noted of a list is the sentence writer's answer: the words are those of the list's tree, at most 12,240.
use mathlib.Core.Path.{◌≡◌, refl, sym, ap, ◌∙◌, subst}
use mathlib.Core.List.{List, [], ◌∷◌, ◌++◌, map, append-nil, Memᴰ as Mem}
use mathlib.Core.Option.{none}
use Prim.Native.Nat.{ℕ, zero, suc, ◌+◌, ◌*◌, ◌≤◌, ◌<◌}
use native.Mathlib.Omega.{arith}
use lib.ListN.{length, drop}
use lib.Seq.{sets, sets-eq}
use Rattle.meaning.specs.Grammar.{Rule, Tree, node, Trees, bare, and, Of, OfAll, of_more, functions, preorder}
use Rattle.std.specs.Prelude.{Result, Ok, Err, IsErrAnd}
use Rattle.meaning.specs.declared.Refusal.{Refusal}
use Rattle.meaning.specs.Table.{got, refused, byte, number, category_of, dimension_of, check_table}
use Rattle.meaning.specs.Decode.{past, several, row_at, row_end, rows_of, rule_at, rule_end, first_rule, grammar_of}
use Rattle.meaning.specs.Accepted.{FineRule, FineTable}
use Rattle.meaning.specs.TreeWriting.{named}
use Rattle.meaning.specs.SentenceWriting.{Reads, words, SentenceWritten, bad_table, wrong, no_room, wrote}
use Rattle.meaning.proofs.Ends.{fine-table}
use Rattle.meaning.proofs.Places.{dim-most}
use Rattle.meaning.proofs.Decoded.{several-length, several-mem, valid-grammar}
use Rattle.meaning.proofs.Walk.{Grown, grown_none, grown_more, accepted, of-grown}
use Rattle.sentence.specs.Nodes.{place_for, rule_of, Within, walked}
use Rattle.sentence.specs.Speech.{whole}
use Rattle.sentence.specs.declared.refusal.SentenceRefusal.{SentenceRefusal}
use Rattle.sentence.specs.declared.refusal.SentenceRefusal.TheVariants.{Table}
use Rattle.sentence.specs.Answers.{code_of, place_of, count_of, Finished, cramped, written, Judged, astray, sound}
use Rattle.sentence.proofs.Places.{place-named, fine-node, within_of}
use Rattle.sentence.proofs.Walks.{fault-is}
use Rattle.sentence.proofs.Spelling.{Stands, good-spelling}
use Rattle.sentence.proofs.Bound.{sizes, words-most}

map-append : (g : ℕ → ℕ) (a b : List ℕ) → map g (a ++ b) ≡ map g a ++ map g b
map-append g [] b = refl
map-append g (x ∷ a) b = ap (λ (l : List ℕ). g x ∷ l) (map-append g a b)

module _ (t : List ℕ) where
  -- the same trees by function numbers and by places
  placed : {ts : Trees} {As fs : List ℕ} → Grown (named (grammar_of t).rules) ts As fs → Grown (rule_of t) ts As (map (place_for t) fs)
  placed grown_none = grown_none
  placed (grown_more {r} {ts} {us} {A} {f} {As} {fs} {gs} e c g h) =
      subst (λ (l : List ℕ). Grown (rule_of t) (and (node r ts) us) (A ∷ As) (place_for t f ∷ l)) (sym (map-append (place_for t) fs gs))
      (grown_more (sym (place-named t f) ∙ e) c (placed g) (placed h))

  -- rows of at most 16 symbols
  rows-size : (n at : ℕ) → ((i : ℕ) → i < n → byte t (past i (row_end t) at) ≤ 16) → sizes (several n (row_at t) (row_end t) at) ≤ 16 * n
  unfolding several past row_at
  rows-size zero at h = omega arith
  rows-size (suc n) at h =
      let a = h 0 (omega arith) in
      let b = rows-size n (row_end t at) (λ i l. h (suc i) (omega arith)) in
      let c : length (row_at t at) ≡ byte t at = several-length _ (λ p. p + 3) (byte t at) (at + 1) in
      omega arith

module _ (t : List ℕ) (v : FineTable t) where
  brief-at : (p : ℕ) → FineRule t p → sizes (rule_at t p).rows ≤ 48
  unfolding rule_at
  brief-at p f =
      let d = dim-most t v (category_of t p) f.low f.high in
      let s = rows-size t (dimension_of t (category_of t p)) (rows_of t p) (λ i h. (f.rows i h).short) in
      omega arith

  brief : (r : Rule) → Mem r (grammar_of t).rules → sizes r.rows ≤ 48
  unfolding grammar_of
  brief r m =
      let (i, l, e) = several-mem (rule_at t) (rule_end t) (number t 7) (first_rule t) m in
      subst (λ (r : Rule). sizes r.rows ≤ 48) (sym e) (brief-at (past i (rule_end t) (first_rule t)) (v.rules i l))

  -- one tree stands at the first node
  stands : {ts : Trees} {A : ℕ} {ps : List ℕ} → Grown (rule_of t) ts (A ∷ []) ps
      → (r : Rule) × (us : Trees) × (gs : List ℕ) × Stands t ps 0 A r us gs × (ts ≡ and (node r us) bare) × (length gs < length ps)
  stands (grown_more {r} {ts} {us} {A} {f} {As} {fs} {gs} e c g grown_none) =
      (r, ts, fs, record { place = f; rest = []; rule = e; kind = c; grown = g; lies = refl }, refl, omega (arith, ap length (append-nil fs)))

  only :
      {T : Tree} {A : ℕ} {fs : List ℕ} → OfAll (grammar_of t) (and T bare) (A ∷ []) → preorder (and T bare) ≡ fs
      → Of (grammar_of t) T A × (functions T ≡ fs)
  unfolding functions
  only {T} (of_more o os) p = (o, sym (append-nil (functions T)) ∙ p)

  -- the words of the nodes are those of the list's tree
  abbrev Tells : List ℕ → Type 0
  Tells fs = (T : Tree) × Reads (grammar_of t) fs T × (whole t (map (place_for t) fs) ≡ words T)

  pub tells : (fs : List ℕ) → walked t (map (place_for t) fs) ≡ none → Tells fs
  unfolding grammar_of
  tells fs q =
      let ns = map (place_for t) fs in
      let (ts, g) = accepted (named (grammar_of t).rules) 0 (byte t 6 ∷ []) fs (fault-is t fs ∙ q) in
      let (r, us, gs, s, e, l) = stands (placed t g) in
      let (o, p) = of-grown (grammar_of t) g in
      let (k, f) = only (subst (λ (u : Trees). OfAll (grammar_of t) u (byte t 6 ∷ [])) e o) (subst (λ (u : Trees). preorder u ≡ fs) e p) in
      let w = good-spelling t ns (λ i m h. fine-node t v fs i h) (length ns) 0 (byte t 6) 0 r us gs s l (omega (arith, v.one)) in
      (node r us, record { kind = k; told = f }, w)

module _ (t : List ℕ) (ok : check_table t ≡ got tt) (fs : List ℕ) (few : length fs ≤ 255) where
  -- a tree of at most 255 nodes has at most 12,240 words
  pub words-few : (T : Tree) → Reads (grammar_of t) fs T → length (words T) ≤ 12240
  words-few T r = words-most (grammar_of t) (valid-grammar t ok) (brief t (fine-table t ok)) T r.kind (rw r.told few)

  few_words : walked t (map (place_for t) fs) ≡ none → length (whole t (map (place_for t) fs)) ≤ 12240
  few_words q = let (T, r, w) = tells t (fine-table t ok) fs q in rw w (words-few T r)

  -- what `judge` asks of the nodes
  pub judge-needs : {ns : List ℕ} → ns ≡ map (place_for t) fs → Within t ns × (walked t ns ≡ none → length (whole t ns) ≤ 12240)
  judge-needs e =
      subst (λ (l : List ℕ). Within t l × (walked t l ≡ none → length (whole t l) ≤ 12240)) (sym e) (within_of t (fine-table t ok) fs few, few_words)

  module _ (before : List ℕ) where
    finished :
        {c p n : ℕ} {after : List ℕ} → Tells t (fine-table t ok) fs → Finished (whole t (map (place_for t) fs)) before c p n after
        → SentenceWritten t fs before c p n after
    finished (T, r, w) (cramped {n = n} e l a) =
        let q : length (words T) ≡ n = ap length (sym w) ∙ sym e in
        let k : length before < length (words T) = omega arith in
        rw (a, ← q) (no_room {t = T} ok few r k)
    finished (T, r, w) (written {n = n} e l a) =
        let q : length (words T) ≡ n = ap length (sym w) ∙ sym e in
        let k : length (words T) ≤ length before = omega arith in
        rw (a, w, ← q) (wrote {t = T} ok few r k)

    -- what is found over the nodes is the writer's answer
    answered : {c p n : ℕ} {after : List ℕ} → Judged t (map (place_for t) fs) before c p n after → SentenceWritten t fs before c p n after
    answered (astray {i = i} e a) = rw a (wrong ok few (fault-is t fs ∙ e))
    answered (sound e f) = finished (tells t (fine-table t ok) fs e) f

    pub answered-at :
        {ns : List ℕ} {c p n : ℕ} {after : List ℕ} → ns ≡ map (place_for t) fs → Judged t ns before c p n after
        → SentenceWritten t fs before c p n after
    answered-at {c = c} {p = p} {n = n} {after = after} e j = answered (subst (λ (l : List ℕ). Judged t l before c p n after) e j)

-- the text after the words that were written from its start on
pub finish-text : (ws before after : List ℕ) (n : ℕ) → n ≡ 0 + length ws → n ≤ length before → after ≡ sets before 0 ws → after ≡ ws ++ drop n before
finish-text ws before after n e l a = a ∙ sets-eq ws before 0 (omega arith) ∙ ap (λ (m : ℕ). ws ++ drop m before) (sym e)

-- where the table is refused, `?` answers that refusal
pub table-refused :
    (t fs before : List ℕ) {why : Refusal} (r : Result ℕ SentenceRefusal) → IsErrAnd r (λ e. e ≡ Table why) → refused why ≡ check_table t
    → SentenceWritten t fs before (code_of r) (place_of r) (count_of r) before
table-refused t fs before (Ok n) h e = absurd h
table-refused t fs before {why} (Err x) h e = rw h (bad_table (sym e))
