-- What the grammar of an accepted table has: a statement that is proved, and that nobody has to believe.
use Rattle.std.specs.Prelude.{◌≡◌, ℕ, ◌≤◌, ◌<◌, length, get_or}
use mathlib.Core.List.{[], map, Memᴰ as Mem}
use Rattle.meaning.specs.Order.{Sorted}
use Rattle.meaning.specs.Grammar.{Symbol, word, part, Rule, Grammar, dimension}

-- the symbol at place j of row i
abbrev pub symbol : Rule → ℕ → ℕ → Symbol
symbol r i j = get_or (get_or r.rows i []) j (word 0)

-- 'within a rule each constituent of each daughter is used exactly once'
pub record Linear (G : Grammar) (r : Rule) : Type 0 where
  pub dim : length r.rows ≡ dimension G r.category
  pub used : (k c : ℕ) → c < dimension G (get_or r.daughters k 0) → (i : ℕ) × (j : ℕ) × (symbol r i j ≡ part k c)
  pub inside : (i j : ℕ) {k c : ℕ} → symbol r i j ≡ part k c → c < dimension G (get_or r.daughters k 0)
  pub once : (i j i' j' : ℕ) → {k c : ℕ} → symbol r i j ≡ part k c → symbol r i' j' ≡ part k c → (i ≡ i') × (j ≡ j')

pub record Valid (G : Grammar) : Type 0 where
  pub small : (A : ℕ) → dimension G A ≤ 3
  pub one : dimension G G.start ≡ 1
  pub linear : {r : Rule} → Mem r G.rules → Linear G r
  pub ranks : {r : Rule} → Mem r G.rules → length r.daughters ≤ 3
  pub distinct : Sorted (λ f g. f ≡ g → ⊥) (map (λ (r : Rule). r.function) G.rules)
