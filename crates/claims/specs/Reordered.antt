-- The same rules in another order: what 'the order of rules changes nothing' is said of. Read after meaning's Table and Decode.
use Rattle.std.specs.Prelude.{◌≡◌, ℕ, take}
use mathlib.Core.List.{List, [], ◌∷◌, ◌++◌, flatten}
use Rattle.std.proofs.Math.Seq.{slice}
use Rattle.meaning.specs.Table.{number}
use Rattle.meaning.specs.Decode.{several, rule_end, first_rule}

-- the one list has what the other has, each as often, in another order
pub data Permuted {A : Type 0} : List A → List A → Type 0 where
  none : Permuted [] []
  keep : {a : A} {l m : List A} → Permuted l m → Permuted (a ∷ l) (a ∷ m)
  swap : {a b : A} {l : List A} → Permuted (a ∷ b ∷ l) (b ∷ a ∷ l)
  then : {l m n : List A} → Permuted l m → Permuted m n → Permuted l n

-- a table's header and dimensions
abbrev pub head_bytes : List ℕ → List ℕ
head_bytes t = take (first_rule t) t

-- the bytes of the rule that starts at a place
abbrev pub bytes_at : List ℕ → ℕ → List ℕ
bytes_at t at = slice at (rule_end t at) t

-- those of each rule of a table
unfoldable pub rule_bytes : List ℕ → List (List ℕ)
rule_bytes t = several (number t 7) (bytes_at t) (rule_end t) (first_rule t)

-- t' has the header and dimensions of t, then the bytes of its rules, one rule after another, in another order, then nothing
pub record Reordered (t t' : List ℕ) : Type 0 where
  pub order : List (List ℕ)
  pub same : Permuted (rule_bytes t) order
  pub bytes : t' ≡ head_bytes t ++ flatten order
