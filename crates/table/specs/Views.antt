-- What the code's results and arrays say, in the words of meaning's definitions. Nothing here is a rule of its own.
use Rattle.std.specs.Prelude.{ℕ, zero, suc, ◌≤◌, ◌<◌, ◌≡◌, List, [], ◌∷◌, Bool, false, length, get_or, Result, Ok, Err}
use Rattle.meaning.specs.declared.Refusal.{Refusal}
use Rattle.meaning.specs.Table.{Got, got, refused, Used, rank_of, daughter_of, dimension_of}
use Rattle.table.specs.declared.cursor.Cursor.{Cursor}

-- a field: its number with the place after it, or that the table's end cuts it
abbrev pub field_of : Result (ℕ × Cursor) Refusal → Got (ℕ × ℕ)
field_of (Ok (n, c)) = got (n, c.at)
field_of (Err r) = refused r

-- a symbol: its kind and number with the place after it, or that the table's end cuts it
abbrev pub symbol_of : Result (ℕ × ℕ × Cursor) Refusal → Got (ℕ × ℕ × ℕ)
symbol_of (Ok (kind, n, c)) = got (kind, n, c.at)
symbol_of (Err r) = refused r

-- a part that was checked: the place after it, or the refusal
abbrev pub step_of : Result Cursor Refusal → Got ℕ
step_of (Ok c) = got c.at
step_of (Err r) = refused r

-- the same where more than the place is left behind
abbrev pub step_with : {A : Type 0} → Result Cursor Refusal → A → Got (ℕ × A)
step_with (Ok c) a = got (c.at, a)
step_with (Err r) a = refused r

-- what was checked as a whole: nothing to say, or the refusal
abbrev pub verdict_of : Result (Unit {0}) Refusal → Got (Unit {0})
verdict_of (Ok u) = got tt
verdict_of (Err r) = refused r

-- the same where something is left behind
abbrev pub verdict_with : {A : Type 0} → Result (Unit {0}) Refusal → A → Got A
verdict_with (Ok u) a = got a
verdict_with (Err r) a = refused r

-- the first n numbers of an array, the latest first: the function numbers before a rule
unfoldable pub firsts : ℕ → List ℕ → List ℕ
firsts zero xs = []
firsts (suc n) xs = get_or xs n 0 ∷ firsts n xs

-- the array of use marks, by daughter and constituent, as `Used`
abbrev pub used_of : List (List Bool) → Used
used_of m k c = get_or (get_or m k []) c false

-- the array of use marks is three by three
pub record Square (m : List (List Bool)) : Type 0 where
  pub rows : length m ≡ 3
  pub each : (k : ℕ) → k < 3 → length (get_or m k []) ≡ 3

-- what is known of a rule whose head and daughters were read: its rank and its daughters' dimensions are at most 3
pub record Small (t : List ℕ) (rule : ℕ) : Type 0 where
  pub within : rule < length t
  pub rank : rank_of t rule ≤ 3
  pub dims : (k : ℕ) → 1 ≤ k → k ≤ rank_of t rule → dimension_of t (daughter_of t rule k) ≤ 3
