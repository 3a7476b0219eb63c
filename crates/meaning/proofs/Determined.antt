-- Any two results that the three calls' definitions allow are equal: code, place, count and the whole slice.
use mathlib.Core.Path.{◌≡◌, refl, sym, ap, ◌∙◌, subst}
use mathlib.Core.Option.{some}
use mathlib.Core.List.{List, ◌++◌}
use Prim.Native.Nat.{ℕ, zero, suc, ◌/◌, ◌≤◌, ◌<◌}
use native.Mathlib.Omega.{arith}
use native.Mathlib.Decide.{dec_lt}
use lib.Dec.{ltb}
use lib.ListN.{length, drop, get_elem?}
use borrow.Author.Tests.{ltb-false}
use Rattle.meaning.specs.declared.Refusal.{Refusal}
use Rattle.meaning.specs.Refusals.{code_of, place_of}
use Rattle.meaning.specs.Table.{Got, got, refused, ◌>>◌, check_table}
use Rattle.meaning.specs.Decode.{grammar_of, words_of, check_words, check_input}
use Rattle.meaning.specs.Order.{Sorted, sorted_none, sorted_more}
use Rattle.meaning.specs.Range.{Item}
use Rattle.meaning.specs.Grammar.{Grammar, Tree}
use Rattle.meaning.specs.Valid.{Valid}
use Rattle.meaning.specs.Chart.{Entry, ChartOf, Made, Before, items, item_of}
use Rattle.meaning.specs.Reading.{allowed, room, Over, Deep, Verdict, yes_at, no_goal, laid, Read, bad_input, full, deep, read}
use Rattle.meaning.specs.TreeWriting as tree
use Rattle.meaning.specs.SentenceWriting.{fault, Reads, words, SentenceWritten, bad_table, too_many, wrong, no_room, wrote}
use Rattle.meaning.proofs.Fields.{after}
use Rattle.meaning.proofs.Order.{each_at}
use Rattle.meaning.proofs.Theory.{at_mem, map-mem}
use Rattle.meaning.proofs.Growth.{chart-height}
use Rattle.meaning.proofs.Charts.{before-irr, deduction, one-chart-of, not-over}
use Rattle.meaning.proofs.Decoded.{valid-grammar}
use Rattle.meaning.proofs.Walk.{accepts, one-tree}

abbrev pub Same : ℕ → ℕ → ℕ → List ℕ → ℕ → ℕ → ℕ → List ℕ → Type 0
Same c p n a c' p' n' a' = (c ≡ c') × (p ≡ p') × (n ≡ n') × (a ≡ a')

-- what is accepted is not refused
pub never : {A : Type 0} {g : Got (Unit {0})} {r : Refusal} → g ≡ got tt → g ≡ refused r → A
never e f = let z : ◌≡◌ {A = ℕ} 0 1 = cc in absurd (omega arith)

same-refusal : {g : Got (Unit {0})} {r s : Refusal} → g ≡ refused r → g ≡ refused s → r ≡ s
same-refusal e f = cc

pub table-accepted : (t w : List ℕ) → check_input t w ≡ got tt → check_table t ≡ got tt
unfolding check_input
table-accepted t w e = go (check_table t) e
  where
    go : (g : Got (Unit {0})) → g >> check_words w ≡ got tt → g ≡ got tt
    go (got tt) e = refl
    go (refused r) e = let z : ◌≡◌ {A = ℕ} 0 1 = cc in absurd (omega arith)

-- accepted words are at most 64
pub words-few : (t w : List ℕ) → check_input t w ≡ got tt → length w / 2 ≤ 64
unfolding check_input check_words
words-few t w e = ltb-false 64 (length w / 2) (after (ltb 64 (length w / 2)) _ _ tt (go (check_table t) e)).0
  where
    go : (g : Got (Unit {0})) → g >> check_words w ≡ got tt → check_words w ≡ got tt
    go (got tt) e = e
    go (refused r) e = let z : ◌≡◌ {A = ℕ} 0 1 = cc in absurd (omega arith)

pub valid-input : (t w : List ℕ) → check_input t w ≡ got tt → Valid (grammar_of t)
valid-input t w e = valid-grammar t (table-accepted t w e)

pub room_most : (allowance : ℕ) (chart : List ℕ) → room allowance chart ≤ 2000
unfolding room allowed
room_most zero chart = omega arith
room_most (suc a) chart = omega arith

-- in a sorted list an item stands at one place
one_place : {l : List Item} {x : Item} → Sorted Before l → (p q : ℕ) → get_elem? l p ≡ some x → get_elem? l q ≡ some x → p ≡ q
one_place sorted_none p q e f = let z : ◌≡◌ {A = ℕ} 0 1 = cc in absurd (omega arith)
one_place (sorted_more h s) zero zero e f = refl
one_place {x = x} (sorted_more {a = a} {l = l} h s) zero (suc q) e f = let g : a ≡ x = cc in absurd (before-irr x (rw g at (each_at h (at_mem l q f))))
one_place {x = x} (sorted_more {a = a} {l = l} h s) (suc p) zero e f = let g : a ≡ x = cc in absurd (before-irr x (rw g at (each_at h (at_mem l p e))))
one_place (sorted_more h s) (suc p) (suc q) e f = ap suc (one_place s p q e f)

module _ {G : Grammar} {ws : List ℕ} {C : List (Entry Item)} (c : ChartOf G ws C) where
  pub same-verdict : {a p b q : ℕ} → Verdict G ws C a p → Verdict G ws C b q → (a ≡ b) × (p ≡ q)
  same-verdict (yes_at {p = p} e) (yes_at {p = q} f) = (refl, one_place c.sorted p q e f)
  same-verdict (yes_at {p = p} e) (no_goal n) = absurd (n (at_mem (items C) p e))
  same-verdict (no_goal n) (yes_at {p = p} e) = absurd (n (at_mem (items C) p e))
  same-verdict (no_goal n) (no_goal m) = (refl, refl)

  -- no height passes the number of items
  pub not-deep : Valid G → length C ≤ 2000 → Deep G ws → ⊥
  not-deep v h d =
      let (e, i, q) = map-mem item_of C (c.whole d.known.item d.known.height d.height.made) in
      let m : Made G ws d.known.item e.known.height = subst (λ (x : Item). Made G ws x e.known.height) (sym q) (each_at c.heights i).made in
      omega (arith, chart-height (deduction G ws v) c e i, d.height.least e.known.height m, d.passes)

-- the reader
module _ (t w : List ℕ) (allowance : ℕ) (b : List ℕ) where
  whole-not-full : {C : List (Entry Item)} {A : Type 0} → ChartOf (grammar_of t) (words_of w) C → length C ≤ room allowance b → Over (grammar_of t) (words_of w) (room allowance b) → A
  whole-not-full c h o = absurd (omega (arith, not-over c o))

  whole-not-deep : {C : List (Entry Item)} {A : Type 0} → check_input t w ≡ got tt → ChartOf (grammar_of t) (words_of w) C → length C ≤ room allowance b → Deep (grammar_of t) (words_of w) → A
  whole-not-deep e c h d = absurd (not-deep c (valid-input t w e) (omega (arith, room_most allowance b)) d)

  one-read : {B C : List (Entry Item)} {a p a' p' : ℕ} → B ≡ C → ChartOf (grammar_of t) (words_of w) C → Verdict (grammar_of t) (words_of w) B a p → Verdict (grammar_of t) (words_of w) C a' p'
      → Same a p (length B) (laid B b) a' p' (length C) (laid C b)
  one-read {a = a} {p = p} q c u v =
      let (x, y) = same-verdict c (subst (λ (D : List (Entry Item)). Verdict (grammar_of t) (words_of w) D a p) q u) v in
      (x, y, ap length q, ap (λ (D : List (Entry Item)). laid D b) q)

  pub same_read : {c p n : ℕ} {a : List ℕ} {c' p' n' : ℕ} {a' : List ℕ} → Read t w allowance b c p n a → Read t w allowance b c' p' n' a' → Same c p n a c' p' n' a'
  same_read (bad_input e) (bad_input f) = let h = same-refusal e f in (ap code_of h, ap place_of h, refl, refl)
  same_read (bad_input e) (full f o) = never f e
  same_read (bad_input e) (deep f o d) = never f e
  same_read (bad_input e) (read f c h v) = never f e
  same_read (full f o) (bad_input e) = never f e
  same_read (full e o) (full f o') = (refl, refl, refl, refl)
  same_read (full e o) (deep f n d) = absurd (n o)
  same_read (full e o) (read f c h v) = whole-not-full c h o
  same_read (deep f o d) (bad_input e) = never f e
  same_read (deep e n d) (full f o) = absurd (n o)
  same_read (deep e n d) (deep f m d') = (refl, refl, refl, refl)
  same_read (deep e n d) (read f c h v) = whole-not-deep e c h d
  same_read (read f c h v) (bad_input e) = never f e
  same_read (read f c h v) (full e o) = whole-not-full c h o
  same_read (read f c h v) (deep e n d) = whole-not-deep e c h d
  same_read (read e c h v) (read f c' h' v') = one-read (one-chart-of (grammar_of t) (words_of w) c c') c' v v'

-- the tree writer
module _ {G : Grammar} {ws c : List ℕ} {count : ℕ} where
  same-bad : {i j : ℕ} → tree.FirstBad G ws c count i → tree.FirstBad G ws c count j → i ≡ j
  same-bad {i} {j} f g = go (dec_lt i j) (dec_lt j i)
    where
      go : Dec (i < j) → Dec (j < i) → i ≡ j
      go (yes l) m = absurd (f.bad (g.sound i l))
      go (no l) (yes m) = absurd (g.bad (f.sound j m))
      go (no l) (no m) = omega arith

  sound-not-bad : {i : ℕ} {A : Type 0} → tree.Passes G ws c count → tree.FirstBad G ws c count i → A
  sound-not-bad {i} p f = absurd (f.bad (p.sound i f.below))

module _ (t w c : List ℕ) (count root : ℕ) (b : List ℕ) where
  abbrev ns : List ℕ
  ns = tree.nodes (grammar_of t) c count root

  pub same-tree : {d p n : ℕ} {a : List ℕ} {d' p' n' : ℕ} {a' : List ℕ} → tree.TreeWritten t w c count root b d p n a → tree.TreeWritten t w c count root b d' p' n' a' → Same d p n a d' p' n' a'
  same-tree (tree.bad_input e) (tree.bad_input f) = let h = same-refusal e f in (ap code_of h, ap place_of h, refl, refl)
  same-tree (tree.bad_input e) (tree.too_many f m) = never f e
  same-tree (tree.bad_input e) (tree.bad_record f x) = never f e
  same-tree (tree.bad_input e) (tree.no_place f x l) = never f e
  same-tree (tree.bad_input e) (tree.no_room f x l r) = never f e
  same-tree (tree.bad_input e) (tree.wrote f x l q r) = never f e
  same-tree (tree.too_many f m) (tree.bad_input e) = never f e
  same-tree (tree.too_many e m) (tree.too_many f m') = (refl, refl, refl, refl)
  same-tree (tree.too_many e m) (tree.bad_record f x) = absurd (x.few m)
  same-tree (tree.too_many e m) (tree.no_place f x l) = absurd (x.few m)
  same-tree (tree.too_many e m) (tree.no_room f x l r) = absurd (x.few m)
  same-tree (tree.too_many e m) (tree.wrote f x l q r) = absurd (x.few m)
  same-tree (tree.bad_record f x) (tree.bad_input e) = never f e
  same-tree (tree.bad_record f x) (tree.too_many e m) = absurd (x.few m)
  same-tree (tree.bad_record e x) (tree.bad_record f y) = (refl, same-bad x y, refl, refl)
  same-tree (tree.bad_record e x) (tree.no_place f y l) = sound-not-bad y x
  same-tree (tree.bad_record e x) (tree.no_room f y l r) = sound-not-bad y x
  same-tree (tree.bad_record e x) (tree.wrote f y l q r) = sound-not-bad y x
  same-tree (tree.no_place f x l) (tree.bad_input e) = never f e
  same-tree (tree.no_place f x l) (tree.too_many e m) = absurd (x.few m)
  same-tree (tree.no_place f x l) (tree.bad_record e y) = sound-not-bad x y
  same-tree (tree.no_place e x l) (tree.no_place f y k) = (refl, refl, refl, refl)
  same-tree (tree.no_place e x l) (tree.no_room f y k r) = absurd (omega arith)
  same-tree (tree.no_place e x l) (tree.wrote f y k q r) = absurd (omega arith)
  same-tree (tree.no_room f x l r) (tree.bad_input e) = never f e
  same-tree (tree.no_room f x l r) (tree.too_many e m) = absurd (x.few m)
  same-tree (tree.no_room f x l r) (tree.bad_record e y) = sound-not-bad x y
  same-tree (tree.no_room e x l r) (tree.no_place f y k) = absurd (omega arith)
  same-tree (tree.no_room e x l r) (tree.no_room f y k s) = (refl, refl, refl, refl)
  same-tree (tree.no_room e x l r) (tree.wrote f y k q s) = absurd (omega (arith, ap length q))
  same-tree (tree.wrote f x l q r) (tree.bad_input e) = never f e
  same-tree (tree.wrote f x l q r) (tree.too_many e m) = absurd (x.few m)
  same-tree (tree.wrote f x l q r) (tree.bad_record e y) = sound-not-bad x y
  same-tree (tree.wrote e x l q r) (tree.no_place f y k) = absurd (omega arith)
  same-tree (tree.wrote e x l q r) (tree.no_room f y k s) = absurd (omega (arith, ap length q))
  same-tree (tree.wrote e x l q r) (tree.wrote f y k q' s) = let h = q ∙ sym q' in (refl, refl, ap length h, ap (λ (l : List ℕ). l ++ drop (length l) b) h)

-- the sentence writer
module _ (t l b : List ℕ) where
  told-not-wrong : {u : Tree} {i : ℕ} {A : Type 0} → check_table t ≡ got tt → Reads (grammar_of t) l u → fault (grammar_of t) l ≡ some i → A
  told-not-wrong {u} e r f = let z = accepts (valid-grammar t e) l u r in let y : ◌≡◌ {A = ℕ} 0 1 = cc in absurd (omega arith)

  one_told : {u v : Tree} → check_table t ≡ got tt → Reads (grammar_of t) l u → Reads (grammar_of t) l v → words u ≡ words v
  one_told {u} {v} e x y = ap words (one-tree (grammar_of t) (valid-grammar t e) l u v x y)

  pub same-sentence : {c p n : ℕ} {a : List ℕ} {c' p' n' : ℕ} {a' : List ℕ} → SentenceWritten t l b c p n a → SentenceWritten t l b c' p' n' a' → Same c p n a c' p' n' a'
  same-sentence (bad_table e) (bad_table f) = let h = same-refusal e f in (ap code_of h, ap place_of h, refl, refl)
  same-sentence (bad_table e) (too_many f h) = never f e
  same-sentence (bad_table e) (wrong f h x) = never f e
  same-sentence (bad_table e) (no_room f h x k) = never f e
  same-sentence (bad_table e) (wrote f h x k) = never f e
  same-sentence (too_many f h) (bad_table e) = never f e
  same-sentence (too_many e h) (too_many f k) = (refl, refl, refl, refl)
  same-sentence (too_many e h) (wrong f k x) = absurd (omega arith)
  same-sentence (too_many e h) (no_room f k x m) = absurd (omega arith)
  same-sentence (too_many e h) (wrote f k x m) = absurd (omega arith)
  same-sentence (wrong f h x) (bad_table e) = never f e
  same-sentence (wrong e h x) (too_many f k) = absurd (omega arith)
  same-sentence (wrong e h x) (wrong f k y) = (refl, cc, refl, refl)
  same-sentence (wrong e h x) (no_room f k y m) = told-not-wrong e y x
  same-sentence (wrong e h x) (wrote f k y m) = told-not-wrong e y x
  same-sentence (no_room f h x k) (bad_table e) = never f e
  same-sentence (no_room e h x k) (too_many f m) = absurd (omega arith)
  same-sentence (no_room e h x k) (wrong f m y) = told-not-wrong e x y
  same-sentence (no_room e h x k) (no_room f m y n) = (refl, ap length (one_told e x y), refl, refl)
  same-sentence (no_room e h x k) (wrote f m y n) = absurd (omega (arith, ap length (one_told e x y)))
  same-sentence (wrote f h x k) (bad_table e) = never f e
  same-sentence (wrote e h x k) (too_many f m) = absurd (omega arith)
  same-sentence (wrote e h x k) (wrong f m y) = told-not-wrong e x y
  same-sentence (wrote e h x k) (no_room f m y n) = absurd (omega (arith, ap length (one_told e x y)))
  same-sentence (wrote e h x k) (wrote f m y n) = let q = one_told e x y in (refl, refl, ap length q, ap (λ (l : List ℕ). l ++ drop (length l) b) q)
