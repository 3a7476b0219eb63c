-- A list of function numbers is read as one tree at most.
-- Assumes nothing.
use mathlib.Core.Path.{◌≡◌, refl, sym, ◌∙◌}
use mathlib.Core.List.{List, ◌++◌, append_assoc, head-eq_of_cons-eq, tail-eq_of_cons-eq}
use Prim.Native.Nat.{ℕ}
use Rattle.meaning.specs.Grammar.{Rule, Grammar, Tree, node, Trees, bare, and, Of, of, OfAll, of_none, of_more, functions, preorder}
use Rattle.meaning.specs.Valid.{Valid}
use Rattle.meaning.proofs.Theory.{unique}

clash : {G : Grammar} {t : Tree} {ts : Trees} {As : List ℕ} → OfAll G bare As → OfAll G (and t ts) As → ⊥
clash of_none p = elim p [ ]

module _ {G : Grammar} (v : Valid G) where
  mutual
    unfolding functions

    pub read : (t u : Tree) {A B : ℕ} (a b : List ℕ) → Of G t A → Of G u B → functions t ++ a ≡ functions u ++ b → (t ≡ u) × (a ≡ b)
    read (node r ts) (node s us) a b (of m e o) (of n f p) q =
        let h : r ≡ s = unique (λ (f g : ℕ). f ≡ g → ⊥) (λ f d. d refl) (λ (r : Rule). r.function) G.rules v.distinct m n (head-eq_of_cons-eq q) in
        let (x, y) = reads ts us a b o (rw (← h) at p) (tail-eq_of_cons-eq q) in
        (λ i. node (h i) (x i), y)

    pub reads : (ts us : Trees) {As : List ℕ} (a b : List ℕ) → OfAll G ts As → OfAll G us As → preorder ts ++ a ≡ preorder us ++ b → (ts ≡ us) × (a ≡ b)
    reads bare bare a b of_none of_none q = (refl, q)
    reads bare (and u us) a b o p q = absurd (clash o p)
    reads (and t ts) bare a b o p q = absurd (clash p o)
    reads (and t ts) (and u us) a b (of_more o os) (of_more p ps) q =
        let (x, y) = read t u (preorder ts ++ a) (preorder us ++ b) o p (sym (append_assoc (functions t) (preorder ts) a) ∙ q ∙ append_assoc (functions u) (preorder us) b) in
        let (z, w) = reads ts us a b os ps y in
        (λ i. and (x i) (z i), w)
