-- A tree spells at most as many words as its rules have symbols, since each constituent of each daughter is used once only.
use mathlib.Core.Path.{◌≡◌, refl, sym, ap, ◌∙◌}
use mathlib.Core.List.{List, [], ◌∷◌, map, Memᴰ as Mem}
use mathlib.Core.Bool.{Bool, true, false, cond, ◌&&◌}
use Prim.Native.Nat.{ℕ, zero, suc, ◌+◌, ◌*◌, ◌≤◌, ◌<◌}
use native.Mathlib.Omega.{arith}
use native.Mathlib.Decide.{dec_lt}
use borrow.Author.Tests.{eqb-true}
use lib.Dec.{eqb}
use lib.ListN.{length, get_or, length-append, get_or-eq_default}
use Rattle.meaning.specs.Grammar.{Symbol, word, part, Rule, Grammar, dimension, said, row, functions, preorder}
use Rattle.meaning.specs.Grammar.{Tree, node, Trees, bare, and, Of, of, OfAll, of_more, spell, spells}
use Rattle.meaning.specs.Valid.{Valid}

module _ (w : ℕ → ℕ → ℕ) where
  abbrev cost : Symbol → ℕ
  cost (word x) = 1
  cost (part k c) = w k c

  abbrev row_cost : List Symbol → ℕ
  row_cost [] = 0
  row_cost (s ∷ ss) = cost s + row_cost ss

  abbrev rows_cost : List (List Symbol) → ℕ
  rows_cost [] = 0
  rows_cost (ss ∷ rs) = row_cost ss + rows_cost rs

  abbrev box : ℕ
  box = (w 0 0 + w 0 1 + w 0 2) + (w 1 0 + w 1 1 + w 1 2) + (w 2 0 + w 2 1 + w 2 2)

abbrev pub sizes : List (List Symbol) → ℕ
sizes [] = 0
sizes (ss ∷ rs) = length ss + sizes rs

abbrev without : ℕ → ℕ → (ℕ → ℕ → ℕ) → ℕ → ℕ → ℕ
without k c w k' c' = cond (eqb k k' && eqb c c') 0 (w k' c')

without-box : (w : ℕ → ℕ → ℕ) (k c : ℕ) → k < 3 → c < 3 → box w ≡ w k c + box (without k c w)
without-box w zero zero h l = omega arith
without-box w zero (suc zero) h l = omega arith
without-box w zero (suc (suc zero)) h l = omega arith
without-box w (suc zero) zero h l = omega arith
without-box w (suc zero) (suc zero) h l = omega arith
without-box w (suc zero) (suc (suc zero)) h l = omega arith
without-box w (suc (suc zero)) zero h l = omega arith
without-box w (suc (suc zero)) (suc zero) h l = omega arith
without-box w (suc (suc zero)) (suc (suc zero)) h l = omega arith
without-box w (suc (suc (suc k))) c h l = absurd (omega arith)
without-box w zero (suc (suc (suc c))) h l = absurd (omega arith)
without-box w (suc zero) (suc (suc (suc c))) h l = absurd (omega arith)
without-box w (suc (suc zero)) (suc (suc (suc c))) h l = absurd (omega arith)

other : (a b : Bool) (x : ℕ) {k c k' c' : ℕ} → eqb k k' ≡ a → eqb c c' ≡ b → (part k' c' ≡ part k c → ⊥) → x ≡ cond (a && b) 0 x
other true true x {k} {c} {k'} {c'} e f h = let p = eqb-true k k' e in let q = eqb-true c c' f in absurd (h (cc))
other true false x e f h = refl
other false b x e f h = refl

abbrev at : List (List Symbol) → ℕ → ℕ → Symbol
at rs i j = get_or (get_or rs i []) j (word 0)

module _ (w : ℕ → ℕ → ℕ) (k c : ℕ) where
  row-without : (ss : List Symbol) → ((j : ℕ) → get_or ss j (word 0) ≡ part k c → ⊥) → row_cost w ss ≡ row_cost (without k c w) ss
  row-without [] h = refl
  row-without (word x ∷ ss) h = ap (λ (n : ℕ). 1 + n) (row-without ss (λ j. h (suc j)))
  row-without (part k' c' ∷ ss) h =
      let e = other (eqb k k') (eqb c c') (w k' c') {k = k} {c = c} {k' = k'} {c' = c'} refl refl (h 0) in
      let r = row-without ss (λ j. h (suc j)) in
      omega arith

  rows-without : (rs : List (List Symbol)) → ((i j : ℕ) → at rs i j ≡ part k c → ⊥) → rows_cost w rs ≡ rows_cost (without k c w) rs
  rows-without [] h = refl
  rows-without (ss ∷ rs) h = let a = row-without ss (h 0) in let b = rows-without rs (λ i. h (suc i)) in omega arith

pub record Once (rs : List (List Symbol)) : Type 0 where
  pub inside : (i j : ℕ) {k c : ℕ} → at rs i j ≡ part k c → (k < 3) × (c < 3)
  pub once : (i j i' j' : ℕ) {k c : ℕ} → at rs i j ≡ part k c → at rs i' j' ≡ part k c → (i ≡ i') × (j ≡ j')

next_row : {rs : List (List Symbol)} → Once ([] ∷ rs) → Once rs
next_row o = record { inside = λ i j e. o.inside (suc i) j e; once = λ i j i' j' e f. let p = o.once (suc i) j (suc i') j' e f in (omega arith, p.1) }

shift :
    (s : Symbol) (ss : List Symbol) (rs : List (List Symbol)) (i j : ℕ) {k c : ℕ} → at (ss ∷ rs) i j ≡ part k c
    → (j' : ℕ) × (at ((s ∷ ss) ∷ rs) i j' ≡ part k c) × (i ≡ 0 → j' ≡ suc j) × (1 ≤ i → j' ≡ j)
shift s ss rs zero j e = (suc j, e, λ _. refl, λ h. absurd (omega arith))
shift s ss rs (suc i) j e = (j, e, λ h. absurd (omega arith), λ _. refl)

next-symbol : {s : Symbol} {ss : List Symbol} {rs : List (List Symbol)} → Once ((s ∷ ss) ∷ rs) → Once (ss ∷ rs)
next-symbol {s} {ss} {rs} o = record {
  inside = λ i j e. (let (j', f, a, b) = shift s ss rs i j e in o.inside i j' f);
  once = λ i j i' j' e f. (let (x, p, a, b) = shift s ss rs i j e in let (y, q, a', b') = shift s ss rs i' j' f in
      let (g, h) = o.once i x i' y p q in (g, same i i' j j' x y g h a b a' b'));
}
  where
    same : (i i' j j' x y : ℕ) → i ≡ i' → x ≡ y → (i ≡ 0 → x ≡ suc j) → (1 ≤ i → x ≡ j) → (i' ≡ 0 → y ≡ suc j') → (1 ≤ i' → y ≡ j') → j ≡ j'
    same zero i' j j' x y g h a b a' b' = let u = a refl in let v = a' (sym g) in omega arith
    same (suc i) i' j j' x y g h a b a' b' = let u = b (omega arith) in let v = b' (omega arith) in omega arith

gone : {k c : ℕ} {ss : List Symbol} {rs : List (List Symbol)} → Once ((part k c ∷ ss) ∷ rs) → (i j : ℕ) → at (ss ∷ rs) i j ≡ part k c → ⊥
gone {k} {c} {ss} {rs} o zero j e = let (g, h) = o.once 0 0 0 (suc j) {k = k} {c = c} refl e in omega arith
gone {k} {c} {ss} {rs} o (suc i) j e = let (g, h) = o.once 0 0 (suc i) j {k = k} {c = c} refl e in omega arith

abbrev Bounded : List (List Symbol) → List Symbol → Type 0
Bounded rs ss = (w : ℕ → ℕ → ℕ) → Once (ss ∷ rs) → row_cost w ss + rows_cost w rs ≤ length ss + sizes rs + box w

first : (rs : List (List Symbol)) → Bounded rs [] → (ss : List Symbol) → Bounded rs ss
first rs base [] w o = base w o
first rs base (word x ∷ ss) w o = let r = first rs base ss w (next-symbol o) in omega arith
first rs base (part k c ∷ ss) w o =
    let r = first rs base ss (without k c w) (next-symbol o) in
    let (h, l) = o.inside 0 0 {k = k} {c = c} refl in
    let b = without-box w k c h l in
    let e = rows-without w k c (ss ∷ rs) (gone o) in
    omega arith

bounded : (rs : List (List Symbol)) → Bounded rs []
bounded [] w o = omega arith
bounded (ss ∷ rs) w o = let r = first rs (bounded rs) ss w (next_row o) in omega arith

-- what a rule's rows cost
pub rows-most : (w : ℕ → ℕ → ℕ) (rs : List (List Symbol)) → Once rs → rows_cost w rs ≤ sizes rs + box w
rows-most w [] o = omega arith
rows-most w (ss ∷ rs) o = first rs (bounded rs) ss w o

-- the words of all constituents
abbrev pub total : List (List ℕ) → ℕ
total [] = 0
total (l ∷ ls) = length l + total ls

three : (ls : List (List ℕ)) → length (get_or ls 0 []) + length (get_or ls 1 []) + length (get_or ls 2 []) ≤ total ls
three [] = omega arith
three (a ∷ []) = omega arith
three (a ∷ b ∷ []) = omega arith
three (a ∷ b ∷ c ∷ ls) = omega arith

abbrev totals : List (List (List ℕ)) → ℕ
totals [] = 0
totals (l ∷ ls) = total l + totals ls

abbrev weight : List (List (List ℕ)) → ℕ → ℕ → ℕ
weight ps k c = length (get_or (get_or ps k []) c [])

nine : (ps : List (List (List ℕ))) → box (weight ps) ≤ totals ps
nine [] = omega arith
nine (a ∷ []) = omega (arith, three a)
nine (a ∷ b ∷ []) = omega (arith, three a, three b)
nine (a ∷ b ∷ c ∷ ps) = omega (arith, three a, three b, three c)

row-length : (ps : List (List (List ℕ))) (ss : List Symbol) → length (row ps ss) ≡ row_cost (weight ps) ss
unfolding row said
row-length ps [] = refl
row-length ps (word x ∷ ss) = ap suc (row-length ps ss) ∙ omega arith
row-length ps (part k c ∷ ss) = length-append (get_or (get_or ps k []) c []) (row ps ss) ∙ ap (λ (n : ℕ). weight ps k c + n) (row-length ps ss)

rows-length : (ps : List (List (List ℕ))) (rs : List (List Symbol)) → total (map (row ps) rs) ≡ rows_cost (weight ps) rs
rows-length ps [] = refl
rows-length ps (ss ∷ rs) = let a = row-length ps ss in let b = rows-length ps rs in omega arith

-- few symbols in a rule's rows
module _ (G : Grammar) (v : Valid G) (brief : (r : Rule) → Mem r G.rules → sizes r.rows ≤ 48) where
  low : (r : Rule) (k c : ℕ) → c < dimension G (get_or r.daughters k 0) → k < length r.daughters
  low r k c h = go (dec_lt k (length r.daughters))
    where
      go : Dec (k < length r.daughters) → k < length r.daughters
      go (yes l) = l
      go (no l) =
          let m : length r.daughters ≤ k = omega arith in
          let z : c < dimension G 0 = rw (get_or-eq_default r.daughters 0 m) at h in
          absurd (omega arith)

  once-of : (r : Rule) → Mem r G.rules → Once r.rows
  once-of r m =
      let l = v.linear m in
      record {
        inside = λ i j {k} {c} e. (
            let h = l.inside i j e in
            let q = low r k c h in
            (omega (arith, v.ranks m), omega (arith, v.small (get_or r.daughters k 0))));
        once = λ i j i' j' e f. l.once i j i' j' e f;
      }

  mutual
    unfolding spell functions

    pub tree-most : (t : Tree) {A : ℕ} → Of G t A → total (spell t) ≤ 48 * length (functions t)
    tree-most (node r ts) (of m e o) =
        let a = rows-length (spells ts) r.rows in
        let b = rows-most (weight (spells ts)) r.rows (once-of r m) in
        let c = nine (spells ts) in
        let d = trees-most ts o in
        let f = brief r m in
        omega arith

    trees-most : (ts : Trees) {As : List ℕ} → OfAll G ts As → totals (spells ts) ≤ 48 * length (preorder ts)
    trees-most bare o = omega arith
    trees-most (and t ts) (of_more o os) =
        let a = tree-most t o in
        let b = trees-most ts os in
        let c = length-append (functions t) (preorder ts) in
        omega arith

  pub words-most : (t : Tree) {A : ℕ} → Of G t A → length (functions t) ≤ 255 → length (get_or (spell t) 0 []) ≤ 12240
  words-most t o h = let a = tree-most t o in let b = three (spell t) in omega arith
