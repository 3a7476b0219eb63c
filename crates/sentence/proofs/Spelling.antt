-- The words that are found over noted nodes are those that their tree spells.
use mathlib.Core.Path.{◌≡◌, refl, sym, ap, ◌∙◌, subst}
use mathlib.Core.List.{List, [], ◌∷◌, ◌++◌, append_assoc}
use mathlib.Core.Option.{some}
use mathlib.Core.Bool.{Bool, true, false, cond}
use Prim.Native.Nat.{ℕ, zero, suc, ◌+◌, ◌-◌, ◌≤◌, ◌<◌}
use native.Mathlib.Omega.{arith}
use native.Mathlib.Numerals.{add-one}
use borrow.Author.Tests.{eqb-false}
use lib.Dec.{eqb}
use lib.ListN.{length, get_or, drop, length-append, get_or-map}
use lib.Seq.{drop-drop, drop_at}
use Rattle.meaning.specs.Grammar.{word, part, Rule, node, Trees, said, row, spell, spells}
use Rattle.meaning.specs.Table.{byte, number, rank_of, category_of, dimension_of}
use Rattle.meaning.specs.Decode.{past, several, symbol_at, row_at, row_end, rows_of, rule_at}
use Rattle.meaning.specs.Accepted.{FineRule, FineSymbol}
use Rattle.meaning.proofs.Places.{past_one}
use Rattle.meaning.proofs.Decoded.{several-length, several-at}
use Rattle.meaning.proofs.Walk.{Grown, grown_none, grown_more}
use Rattle.sentence.specs.Nodes.{rule_of, taken, daughter}
use Rattle.sentence.specs.Speech.{run, row_place, spelled}
use Rattle.sentence.proofs.Places.{of-rule, taken-no}

-- the symbols of a row say what the daughters' constituents do, where each symbol's constituent is the one found
module _ (t : List ℕ) (say : ℕ → ℕ → List ℕ) (ps : List (List (List ℕ))) where
  abbrev Agrees : ℕ → Type 0
  Agrees q = 1 ≤ byte t q → say (byte t q - 1) (number t (q + 1) - 1) ≡ get_or (get_or ps (byte t q - 1) []) (number t (q + 1) - 1) []

  one_symbol : (b : Bool) (q : ℕ) → eqb (byte t q) 0 ≡ b → Agrees q
      → cond b (number t (q + 1) ∷ []) (say (byte t q - 1) (number t (q + 1) - 1))
      ≡ said ps (cond b (word (number t (q + 1))) (part (byte t q - 1) (number t (q + 1) - 1)))
  unfolding said
  one_symbol true q e a = refl
  one_symbol false q e a = let n = eqb-false (byte t q) 0 e in a (omega arith)

  run_row : (m q : ℕ) → ((i : ℕ) → i < m → Agrees (past i (λ p. p + 3) q)) → run t say m q ≡ row ps (several m (symbol_at t) (λ p. p + 3) q)
  unfolding run row several past symbol_at
  run_row zero q h = refl
  run_row (suc m) q h =
      let a = one_symbol (eqb (byte t q) 0) q refl (h 0 (omega arith)) in
      let b = run_row m (q + 3) (λ i l. h (suc i) (omega arith)) in
      λ j. a j ++ b j

head_at : (ns : List ℕ) (at : ℕ) {p : ℕ} {l : List ℕ} → drop at ns ≡ p ∷ l → (at < length ns) × (get_or ns at 0 ≡ p) × (drop (at + 1) ns ≡ l)
head_at [] zero e = let z : ◌≡◌ {A = ℕ} 0 1 = cc in absurd (omega arith)
head_at [] (suc at) e = let z : ◌≡◌ {A = ℕ} 0 1 = cc in absurd (omega arith)
head_at (n ∷ ns) zero e = (omega arith, cc, cc)
head_at (n ∷ ns) (suc at) e = let (a, b, c) = head_at ns at e in (omega arith, b, rw add-one (rw add-one at c))

module _ (t ns : List ℕ) where
  -- a tree of a category stands at a place
  pub record Stands (at A : ℕ) (r : Rule) (ts : Trees) (fs : List ℕ) : Type 0 where
    pub place : ℕ
    pub rest : List ℕ
    pub rule : rule_of t place ≡ some r
    pub kind : A ≡ r.category
    pub grown : Grown (rule_of t) ts r.daughters fs
    pub lies : drop at ns ≡ place ∷ (fs ++ rest)

  rank_is : (p : ℕ) {r : Rule} → rule_of t p ≡ some r → length r.daughters ≡ rank_of t p
  unfolding rule_at
  rank_is p {r} e = let (l, q) = of-rule t p e in rw q (several-length (byte t) (λ p. p + 1) (rank_of t p) (p + 4))

  taken_more : (p : ℕ) (l : List ℕ) (n : ℕ) {r : Rule} → rule_of t p ≡ some r → taken t (p ∷ l) (suc n) ≡ suc (taken t l (length r.daughters + n))
  unfolding taken
  taken_more p l n e = rw (rank_is p e)

  -- trees are passed
  past-trees :
      {ts : Trees} {As fs : List ℕ} (rest : List ℕ) (n : ℕ) → Grown (rule_of t) ts As fs
      → taken t (fs ++ rest) (length As + n) ≡ length fs + taken t rest n
  past-trees rest n grown_none = let e : 0 + n ≡ n = omega arith in ap (taken t rest) e ∙ omega arith
  past-trees rest n (grown_more {r} {ts} {us} {A} {f} {As} {fs} {gs} e c g h) =
      let a = past-trees (gs ++ rest) (length As + n) g in
      let b = past-trees rest n h in
      let k : suc (length As) + n ≡ suc (length As + n) = omega arith in
      let m = taken_more f (fs ++ gs ++ rest) (length As + n) e in
      rw (k, m, append_assoc, a, b, length-append) (omega arith)

  -- daughter k's tree among trees that stand from a place on
  abbrev Kth : Trees → List ℕ → List ℕ → ℕ → ℕ → Type 0
  Kth ts As fs b k =
      (r : Rule) × (us : Trees) × (gs : List ℕ) × Stands (b + taken t (drop b ns) k) (get_or As k 0) r us gs
      × (get_or (spells ts) k [] ≡ spell (node r us))
      × (length gs < length fs)

  kth :
      {ts : Trees} {As fs : List ℕ} (b k : ℕ) (rest : List ℕ) → Grown (rule_of t) ts As fs → drop b ns ≡ fs ++ rest → k < length As
      → Kth ts As fs b k
  unfolding spell
  kth b k rest grown_none q h = absurd (omega arith)
  kth b zero rest (grown_more {r} {ts} {us} {A} {f} {As} {fs} {gs} e c g h) q l =
      let z : b ≡ b + taken t (drop b ns) 0 = omega (arith, taken-no t (drop b ns) 0 refl) in
      let d : drop b ns ≡ f ∷ (fs ++ (gs ++ rest)) = q ∙ ap (λ (l : List ℕ). f ∷ l) (append_assoc fs gs rest) in
      let s : Stands b A r ts fs = record { place = f; rest = gs ++ rest; rule = e; kind = c; grown = g; lies = d } in
      (r, ts, fs, subst (λ (n : ℕ). Stands n A r ts fs) z s, refl, simp length-append (omega arith))
  kth b (suc k) rest (grown_more {r} {ts} {us} {A} {f} {As} {fs} {gs} e c g h) q l =
      let d : drop b ns ≡ f ∷ (fs ++ (gs ++ rest)) = q ∙ ap (λ (l : List ℕ). f ∷ l) (append_assoc fs gs rest) in
      let (x, y, z) = head_at ns b d in
      let w : drop (b + 1 + length fs) ns ≡ gs ++ rest
      = sym (drop-drop (length fs) (b + 1) ns) ∙ ap (drop (length fs)) z ∙ drop_at fs (gs ++ rest) (length fs) refl in
      let (r', vs, hs, s, o, m) = kth (b + 1 + length fs) k rest h w (omega arith) in
      let u : taken t (drop b ns) (suc k) ≡ suc (length fs + taken t (gs ++ rest) k)
      = ap (λ (l : List ℕ). taken t l (suc k)) d ∙ taken_more f (fs ++ (gs ++ rest)) k e ∙ ap suc (past-trees (gs ++ rest) k g) in
      let n : b + 1 + length fs + taken t (drop (b + 1 + length fs) ns) k ≡ b + taken t (drop b ns) (suc k) = rw w (omega arith) in
      (r', vs, hs, subst (λ (n : ℕ). Stands n (get_or As k 0) r' vs hs) n s, o, simp length-append (omega arith))

  -- the category of daughter k, from 0
  kind-of : (p k : ℕ) {r : Rule} → rule_of t p ≡ some r → k < rank_of t p → get_or r.daughters k 0 ≡ byte t (p + 4 + k)
  unfolding rule_at
  kind-of p k e h =
      let (l, q) = of-rule t p e in
      rw q (several-at (byte t) (λ p. p + 1) (rank_of t p) (p + 4) k 0 h ∙ ap (byte t) (past_one k (p + 4)))

  abbrev Good : Type 0
  Good = (i : ℕ) → i < length ns → 1 ≤ get_or ns i 0 → FineRule t (get_or ns i 0)

  abbrev Spelt : ℕ → Type 0
  Spelt n =
      (at A c : ℕ) (r : Rule) (ts : Trees) (fs : List ℕ) → Stands at A r ts fs → length fs < n → c < dimension_of t A
      → spelled t ns n at c ≡ get_or (spell (node r ts)) c []

  -- a symbol's constituent is the daughter's
  part-is :
      (n : ℕ) → Spelt n → (at A u : ℕ) (r : Rule) (ts : Trees) (fs : List ℕ) (s : Stands at A r ts fs) → length fs ≤ n
      → FineSymbol t s.place u
      → Agrees t (λ k d. spelled t ns n (daughter t ns at k) d) (spells ts) u
  part-is n rec at A u r ts fs s l f h =
      let (x, y, z) = head_at ns at s.lies in
      let (a, b, c) = f.1 h in
      let k = byte t u - 1 in
      let w : k < length r.daughters = rw (rank_is s.place s.rule) (omega arith) in
      let (r', us, gs, o, e, m) = kth (at + 1) k s.rest s.grown z w in
      let i : s.place + 4 + k ≡ s.place + 3 + byte t u = omega arith in
      let g : get_or r.daughters k 0 ≡ byte t (s.place + 3 + byte t u) = kind-of s.place k s.rule (omega arith) ∙ ap (byte t) i in
      let d : number t (u + 1) - 1 < dimension_of t (get_or r.daughters k 0) = rw g (omega arith) in
      rec (daughter t ns at k) (get_or r.daughters k 0) (number t (u + 1) - 1) r' us gs o (omega arith) d
      ∙ ap (λ (l : List (List ℕ)). get_or l (number t (u + 1) - 1) []) (sym e)

  pub good-spelling : Good → (n : ℕ) → Spelt n
  unfolding spelled spell row row_at rule_at
  good-spelling good zero at A c r ts fs s l d = absurd (omega arith)
  good-spelling good (suc n) at A c r ts fs s l d =
      let (x, y, z) = head_at ns at s.lies in
      let (low, q) = of-rule t s.place s.rule in
      let f : FineRule t s.place = subst (FineRule t) y (good at x (omega arith)) in
      let w = row_place t s.place c in
      let e : A ≡ category_of t s.place = s.kind ∙ ap (λ (r : Rule). r.category) q in
      let d' : c < dimension_of t (category_of t s.place) = subst (λ (B : ℕ). c < dimension_of t B) e d in
      let g = f.rows c d' in
      let h = run_row t (λ k d. spelled t ns n (daughter t ns at k) d) (spells ts) (byte t w) (w + 1)
      (λ i j. part-is n (good-spelling good n) at A (past i (λ p. p + 3) (w + 1)) r ts fs s (omega arith) (g.symbols i j)) in
      let v : get_or r.rows c [] ≡ row_at t w
      = rw q (several-at (row_at t) (row_end t) (dimension_of t (category_of t s.place)) (rows_of t s.place) c [] d') in
      rw y (h ∙ sym (ap (row (spells ts)) v) ∙ sym (get_or-map (row (spells ts)) r.rows c []))
