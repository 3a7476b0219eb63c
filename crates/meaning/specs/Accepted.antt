-- What the bytes of an accepted table have, part by part: statements that are proved, and that nobody has to believe.
use Rattle.std.specs.Prelude.{ℕ, ◌+◌, ◌≤◌, ◌<◌, ◌≡◌, List, length}
use Rattle.meaning.specs.Table.{byte, number, dimension_of, category_of, rank_of, daughter_of}
use Rattle.meaning.specs.Decode.{past, row_end, rows_of, rule_end, first_rule}

-- a symbol is a word that is not 0, or a constituent of a daughter
abbrev pub Means : List ℕ → ℕ → ℕ → ℕ → Type 0
Means t rule kind n =
    (kind ≡ 0 → 1 ≤ n) × (1 ≤ kind → (kind ≤ rank_of t rule) × (1 ≤ n) × (n ≤ dimension_of t (daughter_of t rule kind)))

abbrev pub FineSymbol : List ℕ → ℕ → ℕ → Type 0
FineSymbol t rule at = Means t rule (byte t at) (number t (at + 1))

pub record FineRow (t : List ℕ) (rule at : ℕ) : Type 0 where
  pub short : byte t at ≤ 16
  pub end : row_end t at ≤ length t
  pub symbols : (i : ℕ) → i < byte t at → FineSymbol t rule (past i (λ p. p + 3) (at + 1))

pub record FineRule (t : List ℕ) (at : ℕ) : Type 0 where
  pub within : at < length t
  pub end : rule_end t at ≤ length t
  pub function : 1 ≤ number t at
  pub low : 1 ≤ category_of t at
  pub high : category_of t at ≤ byte t 5
  pub rank : rank_of t at ≤ 3
  pub daughters : (i : ℕ) → i < rank_of t at → (1 ≤ byte t (past i (λ p. p + 1) (at + 4))) × (byte t (past i (λ p. p + 1) (at + 4)) ≤ byte t 5)
  pub rows : (i : ℕ) → i < dimension_of t (category_of t at) → FineRow t at (past i (row_end t) (rows_of t at))

pub record FineTable (t : List ℕ) : Type 0 where
  pub categories : (1 ≤ byte t 5) × (byte t 5 ≤ 64)
  pub start : (1 ≤ byte t 6) × (byte t 6 ≤ byte t 5)
  pub count : number t 7 ≤ 256
  pub dims : (i : ℕ) → i < byte t 5 → (1 ≤ byte t (past i (λ p. p + 1) 9)) × (byte t (past i (λ p. p + 1) 9) ≤ 3)
  pub one : dimension_of t (byte t 6) ≡ 1
  pub rules : (i : ℕ) → i < number t 7 → FineRule t (past i (rule_end t) (first_rule t))
  pub end : past (number t 7) (rule_end t) (first_rule t) ≡ length t

-- what is known once the dimensions were read
abbrev pub Dims : List ℕ → Type 0
Dims t = (c : ℕ) → 1 ≤ c → c ≤ byte t 5 → dimension_of t c ≤ 3

-- what is known of a rule whose head was read up to a place
pub record Headed (t : List ℕ) (rule at : ℕ) : Type 0 where
  pub within : rule < length t
  pub next : at ≡ rule + 4
  pub rank : rank_of t rule ≤ 3
