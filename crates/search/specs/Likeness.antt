-- Rules that are equal but for their function numbers: document 01, 'Each rule carries its own function number.'
use Rattle.std.specs.Prelude.{◌≡◌, List, ℕ, ◌+◌, ◌<◌, ◌≤◌}
use Rattle.meaning.specs.Table.{byte}
use Rattle.meaning.specs.Decode.{past, rule_end, first_rule}

-- after its 'function number (2 bytes ..)' the rule at a has the bytes that the rule at b has, up to its end
pub record Like (t : List ℕ) (a b : ℕ) : Type 0 where
  pub same : (k : ℕ) → 2 ≤ k → a + k < rule_end t a → byte t (a + k) ≡ byte t (b + k)

-- one of the first n rules is like the rule at a place
pub record LikeBefore (t : List ℕ) (rule n : ℕ) : Type 0 where
  pub index : ℕ
  pub below : index < n
  pub like : Like t (past index (rule_end t) (first_rule t)) rule
