-- Grammars, trees and what they spell: document 000, Definitions 1 and 2 and the linearization of section 3, narrowed by document 01.
use Rattle.std.specs.Prelude.{◌≡◌, ℕ, suc, max, get_or}
use mathlib.Core.List.{List, [], ◌∷◌, ◌++◌, map, Memᴰ as Mem}

-- a symbol of a row: a word, or constituent c of daughter k, both counted from 0
pub data Symbol : Type 0 where
  word : ℕ → Symbol
  part : ℕ → ℕ → Symbol

-- 'Each rule carries its own function number.' One row for each constituent of the rule's category.
pub record Rule : Type 0 where
  pub function : ℕ
  pub category : ℕ
  pub daughters : List ℕ
  pub rows : List (List Symbol)

pub record Grammar : Type 0 where
  pub start : ℕ
  pub dims : List ℕ
  pub rules : List Rule

-- the number of a category's constituents; categories count from 1
abbrev pub dimension : Grammar → ℕ → ℕ
dimension G A = get_or (0 ∷ G.dims) A 0

-- a rule with a tree for each daughter
mutual
  pub data Tree : Type 0 where
    node : Rule → Trees → Tree

  pub data Trees : Type 0 where
    bare : Trees
    and : Tree → Trees → Trees

-- t is a tree of category A; ts are trees of the categories As (000, section 3: t : A where f : A ← B1 .. and ti : Bi)
mutual
  pub data Of (G : Grammar) : Tree → ℕ → Type 0 where
    of : {r : Rule} {ts : Trees} {A : ℕ} → Mem r G.rules → A ≡ r.category → OfAll G ts r.daughters → Of G (node r ts) A

  pub data OfAll (G : Grammar) : Trees → List ℕ → Type 0 where
    of_none : OfAll G bare []
    of_more : {t : Tree} {ts : Trees} {A : ℕ} {As : List ℕ} → Of G t A → OfAll G ts As → OfAll G (and t ts) (A ∷ As)

-- what a symbol and a row say, over the daughters' constituents
unfoldable pub said : List (List (List ℕ)) → Symbol → List ℕ
said ps (word w) = w ∷ []
said ps (part k c) = get_or (get_or ps k []) c []

unfoldable pub row : List (List (List ℕ)) → List Symbol → List ℕ
row ps [] = []
row ps (s ∷ ss) = said ps s ++ row ps ss

-- a tree's constituents: the linearization of document 000
unfoldable mutual
  pub spell : Tree → List (List ℕ)
  spell (node r ts) = map (row (spells ts)) r.rows

  pub spells : Trees → List (List (List ℕ))
  spells bare = []
  spells (and t ts) = spell t ∷ spells ts

-- 'a rule without daughters alone is one level'
unfoldable mutual
  pub levels : Tree → ℕ
  levels (node r ts) = suc (most ts)

  pub most : Trees → ℕ
  most bare = 0
  most (and t ts) = max (levels t) (most ts)

-- 'the tree's function numbers, each node before its daughters'
unfoldable mutual
  pub functions : Tree → List ℕ
  functions (node r ts) = r.function ∷ preorder ts

  pub preorder : Trees → List ℕ
  preorder bare = []
  preorder (and t ts) = functions t ++ preorder ts
