-- The nodes of a tree list by the places of their rules: what the code notes of them, and how it finds a daughter.
-- Nothing here is a rule of its own.
use Rattle.std.specs.Prelude.{ℕ, zero, suc, ◌+◌, ◌≤◌, ◌≡◌, List, [], ◌∷◌, ◌++◌, cond, eqb, length, get_or, drop}
use Rattle.std.proofs.Math.Option.{Option, none, some}
use Rattle.meaning.specs.Grammar.{Rule}
use Rattle.meaning.specs.Table.{byte, number, rank_of}
use Rattle.meaning.specs.Decode.{rule_at, rule_end, first_rule}
use Rattle.meaning.specs.Accepted.{FineRule}
use Rattle.meaning.specs.SentenceWriting.{walk}
use Rattle.table.specs.Views.{firsts}
use Rattle.std.specs.Prelude as code

-- the place of the first of n rules, from a place on, that has a function number; 0 where there is none
unfoldable pub seek : ℕ → List ℕ → ℕ → ℕ → ℕ
seek zero t f at = 0
seek (suc n) t f at = cond (eqb (number t at) f) at (seek n t f (rule_end t at))

-- the place of a table's rule with a function number
abbrev pub place_for : List ℕ → ℕ → ℕ
place_for t f = seek (number t 7) t f (first_rule t)

-- the rule at a place that a search gave
unfoldable pub rule_of : List ℕ → ℕ → Option Rule
rule_of t zero = none
rule_of t (suc p) = some (rule_at t (suc p))

-- what is known of noted nodes: each place is a rule's, or 0, and there are at most 255
pub record Within (t ns : List ℕ) : Type 0 where
  pub within : (i : ℕ) → get_or ns i 0 ≤ length t
  pub fine : (i : ℕ) → 1 ≤ get_or ns i 0 → FineRule t (get_or ns i 0)
  pub few : length ns ≤ 255

-- meaning's walk over noted nodes
abbrev pub walked : List ℕ → List ℕ → Option ℕ
walked t ns = walk (rule_of t) 0 (byte t 6 ∷ []) ns

-- what the code answers of it
abbrev pub walked_of : code.Option ℕ → Option ℕ
walked_of code.None = none
walked_of (code.Some i) = some i

-- of a stack whose first n numbers count, the latest first: the categories of a rule's daughters are put on it, the first on top
pub record Pushed (t : List ℕ) (rule n : ℕ) (before after : List ℕ) (r : ℕ) : Type 0 where
  pub count : r ≡ n + rank_of t rule
  pub stack : firsts r after ≡ (rule_at t rule).daughters ++ firsts n before

-- how many of these nodes the first n trees take
unfoldable pub taken : List ℕ → List ℕ → ℕ → ℕ
taken t [] n = 0
taken t (p ∷ ps) zero = 0
taken t (p ∷ ps) (suc n) = suc (taken t ps (rank_of t p + n))

-- where daughter k of the node at a place stands, both from 0
abbrev pub daughter : List ℕ → List ℕ → ℕ → ℕ → ℕ
daughter t ns at k = at + 1 + taken t (drop (at + 1) ns) k
