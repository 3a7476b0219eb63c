-- A list that the walk accepts is the list of exactly one tree of the start category; and the list of such a tree is accepted.
-- Assumes nothing.
use mathlib.Core.Path.{◌≡◌, refl, sym, ap, ◌∙◌, subst}
use mathlib.Core.List.Memᴰ.{head as here}
use mathlib.Core.List.Memᴰ.{tail as there}
use mathlib.Core.List.{List, [], ◌∷◌, ◌++◌, append_assoc, append-nil, Memᴰ as Mem}
use mathlib.Core.Option.{Option, none, some}
use mathlib.Core.Bool.{Bool, true, false, cond}
use Prim.Native.Nat.{ℕ, suc, ◌+◌}
use native.Mathlib.Omega.{arith}
use lib.Dec.{eqb}
use lib.ListN.{length, length-append}
use borrow.Author.Tests.{eqb-true, eqb-false, eq-eqb}
use Rattle.meaning.specs.Grammar.{Rule, Grammar, Tree, node, Trees, bare, and, Of, of, OfAll, of_none, of_more, functions, preorder}
use Rattle.meaning.specs.Valid.{Valid}
use Rattle.meaning.proofs.Theory.{unique}
use Rattle.meaning.proofs.OneTree.{read}
use Rattle.meaning.specs.TreeWriting.{named}
use Rattle.meaning.specs.SentenceWriting.{fits, walk, fault, Reads}

-- a rule that is found is one of the rules, and has the function
named-at : (b : Bool) (r : Rule) (rs : List Rule) (f : ℕ) {s : Rule} → eqb r.function f ≡ b → (named rs f ≡ some s → Mem s rs × (s.function ≡ f))
    → cond b (some r) (named rs f) ≡ some s → Mem s (r ∷ rs) × (s.function ≡ f)
named-at true r rs f {s} e rec q = let h : s ≡ r = cc in (here h, ap (λ (r : Rule). r.function) h ∙ eqb-true r.function f e)
named-at false r rs f e rec q = let (m, g) = rec q in (there m, g)

pub named-is : (rs : List Rule) (f : ℕ) {r : Rule} → named rs f ≡ some r → Mem r rs × (r.function ≡ f)
unfolding named
named-is [] f q = let z : ◌≡◌ {A = ℕ} 0 1 = cc in absurd (omega arith)
named-is (r ∷ rs) f q = named-at (eqb r.function f) r rs f refl (named-is rs f) q

-- trees of these categories, whose nodes' names are these, each before its daughters
pub data Grown (look : ℕ → Option Rule) : Trees → List ℕ → List ℕ → Type 0 where
  grown_none : Grown look bare [] []
  grown_more : {r : Rule} {ts us : Trees} {A f : ℕ} {As fs gs : List ℕ} → look f ≡ some r → A ≡ r.category → Grown look ts r.daughters fs → Grown look us As gs
      → Grown look (and (node r ts) us) (A ∷ As) (f ∷ fs ++ gs)

module _ (look : ℕ → Option Rule) where
  abbrev Two : List ℕ → List ℕ → List ℕ → Type 0
  Two As Bs fs = (ts : Trees) × (us : Trees) × (a : List ℕ) × (b : List ℕ) × Grown look ts As a × Grown look us Bs b × (fs ≡ a ++ b)

  split : (As Bs : List ℕ) {ts : Trees} {fs : List ℕ} → Grown look ts (As ++ Bs) fs → Two As Bs fs
  split [] Bs {ts} {fs} g = (bare, ts, [], fs, grown_none, g, refl)
  split (A ∷ As) Bs (grown_more {f = f} {fs = fs} e c g h) =
      let (ts, us, a, b, x, y, q) = split As Bs h in
      (and _ ts, us, f ∷ fs ++ a, b, grown_more e c g x, y, ap (λ (l : List ℕ). f ∷ fs ++ l) q ∙ ap (λ (l : List ℕ). f ∷ l) (sym (append_assoc fs a b)))

  abbrev Accepted : List ℕ → List ℕ → Type 0
  Accepted As fs = (ts : Trees) × Grown look ts As fs

  onto : {r : Rule} {A f : ℕ} {As fs : List ℕ} → look f ≡ some r → A ≡ r.category → Accepted (r.daughters ++ As) fs → Accepted (A ∷ As) (f ∷ fs)
  onto {r} {A} {f} {As} {fs} e c (vs, g) =
      let (ts, us, a, b, x, y, q) = split r.daughters As g in
      (and (node r ts) us, subst (λ (l : List ℕ). Grown look (and (node r ts) us) (A ∷ As) (f ∷ l)) (sym q) (grown_more e c x y))

  judged : (b : Bool) (i : ℕ) {r : Rule} {A f : ℕ} {As fs : List ℕ} → eqb r.category A ≡ b → look f ≡ some r → (walk look (i + 1) (r.daughters ++ As) fs ≡ none → Accepted (r.daughters ++ As) fs)
      → cond b (walk look (i + 1) (r.daughters ++ As) fs) (some i) ≡ none → Accepted (A ∷ As) (f ∷ fs)
  judged true i {r} {A} e l rec q = onto l (sym (eqb-true r.category A e)) (rec q)
  judged false i e l rec q = let z : ◌≡◌ {A = ℕ} 0 1 = cc in absurd (omega arith)

  there-is : (o : Option Rule) (i : ℕ) {A f : ℕ} {As fs : List ℕ} → look f ≡ o → ((r : Rule) → walk look (i + 1) (r.daughters ++ As) fs ≡ none → Accepted (r.daughters ++ As) fs)
      → fits o A (some i) (λ r. walk look (i + 1) (r.daughters ++ As) fs) ≡ none → Accepted (A ∷ As) (f ∷ fs)
  there-is none i e rec q = let z : ◌≡◌ {A = ℕ} 0 1 = cc in absurd (omega arith)
  there-is (some r) i {A} e rec q = judged (eqb r.category A) i {r = r} refl e (rec r) q

  -- what is accepted is a list of trees
  pub accepted : (i : ℕ) (As fs : List ℕ) → walk look i As fs ≡ none → Accepted As fs
  unfolding walk
  accepted i [] [] q = (bare, grown_none)
  accepted i [] (f ∷ fs) q = let z : ◌≡◌ {A = ℕ} 0 1 = cc in absurd (omega arith)
  accepted i (A ∷ As) [] q = let z : ◌≡◌ {A = ℕ} 0 1 = cc in absurd (omega arith)
  accepted i (A ∷ As) (f ∷ fs) q = there-is (look f) i refl (λ r. accepted (i + 1) (r.daughters ++ As) fs) q

  -- the walk passes trees
  pub passes : {ts : Trees} {As fs : List ℕ} (i : ℕ) (Bs rest : List ℕ) → Grown look ts As fs → walk look i (As ++ Bs) (fs ++ rest) ≡ walk look (i + length fs) Bs rest
  unfolding walk
  passes i Bs rest grown_none = ap (λ (j : ℕ). walk look j Bs rest) (omega arith)
  passes i Bs rest (grown_more {r} {ts} {us} {A} {f} {As} {fs} {gs} e c g h) =
      let p = passes (i + 1) (As ++ Bs) (gs ++ rest) g in
      let q = passes (i + 1 + length fs) Bs rest h in
      let n : i + 1 + length fs + length gs ≡ i + suc (length (fs ++ gs)) = simp length-append (omega arith) in
      let s : walk look (i + 1) (r.daughters ++ (As ++ Bs)) ((fs ++ gs) ++ rest) ≡ walk look (i + suc (length (fs ++ gs))) Bs rest
      = ap (λ (l : List ℕ). walk look (i + 1) (r.daughters ++ (As ++ Bs)) l) (append_assoc fs gs rest) ∙ p ∙ q ∙ ap (λ (j : ℕ). walk look j Bs rest) n in
      rw (e, eq-eqb r.category A (sym c)) s

module _ (G : Grammar) where
  -- grown from a grammar's rules, they are its trees
  pub of-grown : {ts : Trees} {As fs : List ℕ} → Grown (named G.rules) ts As fs → OfAll G ts As × (preorder ts ≡ fs)
  unfolding functions
  of-grown grown_none = (of_none, refl)
  of-grown (grown_more {r} {ts} {us} {A} {f} {As} {fs} {gs} e c g h) =
      let (m, n) = named-is G.rules f e in
      let (a, p) = of-grown g in
      let (b, q) = of-grown h in
      (of_more (of m c a) b, cc)

  one : {ts : Trees} {fs : List ℕ} {A : ℕ} → OfAll G ts (A ∷ []) → preorder ts ≡ fs → (t : Tree) × Of G t A × (functions t ≡ fs)
  unfolding functions
  one {fs = fs} (of_more {t = t} o of_none) q = (t, o, sym (append-nil (functions t)) ∙ q)

  -- an accepted list is the list of a tree of the start category
  pub tree_of : (fs : List ℕ) → fault G fs ≡ none → (t : Tree) × Reads G fs t
  tree_of fs q =
      let (ts, g) = accepted (named G.rules) 0 (G.start ∷ []) fs q in
      let (o, p) = of-grown g in
      let (t, k, e) = one o p in
      (t, record { kind = k; told = e })

  -- and of one only
  pub one-tree : Valid G → (fs : List ℕ) (t u : Tree) → Reads G fs t → Reads G fs u → t ≡ u
  one-tree v fs t u x y =
      (read v t u [] [] x.kind y.kind (append-nil (functions t) ∙ x.told ∙ sym y.told ∙ sym (append-nil (functions u)))).0

-- a rule of a valid grammar is found by its function number
abbrev Some : Option Rule → Type 0
Some o = (s : Rule) × (o ≡ some s)

finds-at : (b : Bool) (x : Rule) (rs : List Rule) (r : Rule) → eqb x.function r.function ≡ b → Mem r (x ∷ rs) → (Mem r rs → Some (named rs r.function))
    → Some (cond b (some x) (named rs r.function))
finds-at true x rs r e m rec = (x, refl)
finds-at false x rs r e (here q) rec = absurd (eqb-false x.function r.function e (ap (λ (r : Rule). r.function) (sym q)))
finds-at false x rs r e (there m) rec = rec m

finds : (rs : List Rule) (r : Rule) → Mem r rs → Some (named rs r.function)
unfolding named
finds [] r m = elim m [ ]
finds (x ∷ rs) r m = finds-at (eqb x.function r.function) x rs r refl m (finds rs r)

module _ {G : Grammar} (v : Valid G) where
  pub found : (r : Rule) → Mem r G.rules → named G.rules r.function ≡ some r
  found r m =
      let (s, e) = finds G.rules r m in
      let (n, f) = named-is G.rules r.function e in
      let h : s ≡ r = unique (λ (f g : ℕ). f ≡ g → ⊥) (λ f d. d refl) (λ (r : Rule). r.function) G.rules v.distinct n m f in
      e ∙ ap some h

  mutual
    unfolding functions

    grow : (t : Tree) {A : ℕ} → Of G t A → {us : Trees} {As gs : List ℕ} → Grown (named G.rules) us As gs → Grown (named G.rules) (and t us) (A ∷ As) (functions t ++ gs)
    grow (node r ts) (of m e o) g = grown_more (found r m) e (grows ts o) g

    grows : (ts : Trees) {As : List ℕ} → OfAll G ts As → Grown (named G.rules) ts As (preorder ts)
    grows bare of_none = grown_none
    grows (and t ts) (of_more o os) = grow t o (grows ts os)

  -- the list of a tree of the start category is accepted
  pub accepts : (fs : List ℕ) (t : Tree) → Reads G fs t → fault G fs ≡ none
  unfolding walk
  accepts fs t r =
      let g = grow t r.kind grown_none in
      let p = passes (named G.rules) 0 [] [] g in
      let e : (functions t ++ []) ++ [] ≡ fs = append-nil (functions t ++ []) ∙ append-nil (functions t) ∙ r.told in
      ap (λ (l : List ℕ). walk (named G.rules) 0 (G.start ∷ []) l) (sym e) ∙ p
