-- When a rule table is refused, and where: document 01, 'The rule table, version 1' and 'Numbers handed back'.
-- Each definition reads its fields in byte order, a line for each refusal; the first that holds is given. A name such as `dimension`,
-- `word`, `part` or `row` is here the check of that field; in Grammar it is the thing itself.
use Rattle.std.specs.Prelude.{ℕ, zero, suc, ◌+◌, ◌*◌, ◌-◌, List, [], ◌∷◌, Bool, true, false, not, cond, ◌&&◌, ◌||◌, length, get_or, ltb, eqb}
use Rattle.meaning.specs.declared.Refusal.{Refusal}
use Rattle.meaning.specs.declared.Refusal.TheVariants.{Short, Mark, Version, Range, Category, Function, Symbol, Twice, Missing, Start, Trailing}

infixl 20 ◌>>=◌
infixl 20 ◌>>◌
-- what reading a part gives: a value, or the first refusal
pub data Got (A : Type 0) : Type 0 where
  got : A → Got A
  refused : Refusal → Got A

abbrev pub ◌>>=◌ : {A B : Type 0} → Got A → (A → Got B) → Got B
◌>>=◌ (got a) k = k a
◌>>=◌ (refused r) k = refused r

abbrev pub ◌>>◌ : {A B : Type 0} → Got A → Got B → Got B
◌>>◌ (got a) k = k
◌>>◌ (refused r) k = refused r

abbrev pub refuse_if : Bool → Refusal → Got (Unit {0})
refuse_if true r = refused r
refuse_if false r = got tt

-- n times, each from where the one before ended
unfoldable pub times : {S : Type 0} → ℕ → (S → Got S) → S → Got S
times zero f s = got s
times (suc n) f s = f s >>= times n f

-- the test holds of a number below n
unfoldable pub any : ℕ → (ℕ → Bool) → Bool
any zero p = false
any (suc n) p = p n || any n p

unfoldable pub member : ℕ → List ℕ → Bool
member x [] = false
member x (y ∷ ys) = eqb y x || member x ys

unfoldable pub outside : ℕ → ℕ → ℕ → Bool
outside low high x = ltb x low || ltb high x

-- what stands at a place; 0 past the end
abbrev pub byte : List ℕ → ℕ → ℕ
byte t at = get_or t at 0

-- 'Two-byte numbers have the low byte first.'
unfoldable pub number : List ℕ → ℕ → ℕ
number t at = byte t at + 256 * byte t (at + 1)

-- a field, with the place after it: '2 Short: a field is cut by the table's end; table length'
unfoldable pub byte_field : List ℕ → ℕ → Got (ℕ × ℕ)
byte_field t at = do
  refuse_if (ltb (length t) (at + 1)) (Short (length t))
  got (byte t at, at + 1)

unfoldable pub number_field : List ℕ → ℕ → Got (ℕ × ℕ)
number_field t at = do
  refuse_if (ltb (length t) (at + 2)) (Short (length t))
  got (number t at, at + 2)

-- the header's last three fields: K, the start, the number of rules
unfoldable pub limits : List ℕ → Got ℕ
limits t = do
  refuse_if (outside 1 64 (byte t 5)) (Range 5)
  refuse_if (outside 1 (byte t 5) (byte t 6)) (Category 6)
  refuse_if (ltb 256 (number t 7)) (Range 7)
  got 9

-- 'fewer than nine bytes is Short; then header fields': the mark MCG, the version, then these
unfoldable pub header : List ℕ → Got ℕ
header t = do
  refuse_if (ltb (length t) 9) (Short (length t))
  refuse_if (not (eqb (byte t 0) 77)) Mark
  refuse_if (not (eqb (byte t 1) 67)) Mark
  refuse_if (not (eqb (byte t 2) 71)) Mark
  refuse_if (not (eqb (number t 3) 1)) Version
  limits t

-- 'dimension of each category'; categories count from 1
abbrev pub dimension_of : List ℕ → ℕ → ℕ
dimension_of t c = byte t (8 + c)

-- a field of one byte that must lie within limits
unfoldable pub limited : List ℕ → ℕ → ℕ → Refusal → ℕ → Got ℕ
limited t low high r at = do
  (x, next) ← byte_field t at
  refuse_if (outside low high x) r
  got next

abbrev pub dimension : List ℕ → ℕ → Got ℕ
dimension t at = limited t 1 3 (Range at) at

abbrev pub category : List ℕ → ℕ → Got ℕ
category t at = limited t 1 (byte t 5) (Category at) at

abbrev pub rank : List ℕ → ℕ → Got ℕ
rank t at = limited t 0 3 (Range at) at

-- of the rule that starts at a place: its category, its rank, and the category of its daughter k, from 1
abbrev pub category_of : List ℕ → ℕ → ℕ
category_of t rule = byte t (rule + 2)

abbrev pub rank_of : List ℕ → ℕ → ℕ
rank_of t rule = byte t (rule + 3)

abbrev pub daughter_of : List ℕ → ℕ → ℕ → ℕ
daughter_of t rule k = byte t (rule + 3 + k)

-- which constituents of which daughters a rule has used so far; both count from 0
abbrev pub Used : Type 0
Used = ℕ → ℕ → Bool

unfoldable pub unused : Used
unused k c = false

unfoldable pub mark : ℕ → ℕ → Used → Used
mark k c used k' c' = (eqb k k' && eqb c c') || used k' c'

-- 'A symbol's three bytes must be there before its kind is looked at.'
unfoldable pub symbol_field : List ℕ → ℕ → Got (ℕ × ℕ × ℕ)
symbol_field t at = do
  refuse_if (ltb (length t) (at + 3)) (Short (length t))
  got (byte t at, number t (at + 1), at + 3)

-- '8 Symbol: kind above the rank; word 0; constituent 0 or above the daughter's dimension'; '9 Twice: a constituent used again'
unfoldable pub word : ℕ → ℕ → Got (Unit {0})
word at n = refuse_if (eqb n 0) (Symbol (at + 1))

unfoldable pub part : List ℕ → ℕ → ℕ → ℕ → ℕ → Used → Got Used
part t rule at kind n used = do
  refuse_if (ltb (rank_of t rule) kind) (Symbol at)
  refuse_if (outside 1 (dimension_of t (daughter_of t rule kind)) n) (Symbol (at + 1))
  refuse_if (used (kind - 1) (n - 1)) (Twice at)
  got (mark (kind - 1) (n - 1) used)

unfoldable pub symbol : List ℕ → ℕ → ℕ × Used → Got (ℕ × Used)
symbol t rule s = do
  (kind, n, next) ← symbol_field t s.0
  used ← cond (eqb kind 0) (word s.0 n >> got s.1) (part t rule s.0 kind n s.1)
  got (next, used)

-- 'A row: its length (1 byte, 0 to 16), then symbols of three bytes'
unfoldable pub row : List ℕ → ℕ → ℕ × Used → Got (ℕ × Used)
row t rule s = do
  (n, next) ← byte_field t s.0
  refuse_if (ltb 16 n) (Range s.0)
  times n (symbol t rule) (next, s.1)

-- '10 Missing: after a rule's rows, a constituent unused'
unfoldable pub missing : List ℕ → ℕ → Used → Bool
missing t rule used = any (rank_of t rule) (λ k. any (dimension_of t (daughter_of t rule (k + 1))) (λ c. not (used k c)))

-- 'A rule: function number (2 bytes, 1 to 65,535, not used before), category (1), rank (1, 0 to 3)'
unfoldable pub rule_head : List ℕ → List ℕ → ℕ → Got ℕ
rule_head t earlier at = do
  (f, p) ← number_field t at
  refuse_if (eqb f 0) (Function at)
  refuse_if (member f earlier) (Function at)
  q ← category t p
  rank t q

-- 'one byte per daughter's category, then one row for each constituent of the rule's category'
unfoldable pub rule_body : List ℕ → ℕ → ℕ → Got ℕ
rule_body t rule at = do
  p ← times (rank_of t rule) (category t) at
  (next, used) ← times (dimension_of t (category_of t rule)) (row t rule) (p, unused)
  refuse_if (missing t rule used) (Missing rule)
  got next

-- a rule at a place, after those whose function numbers are given
unfoldable pub rule : List ℕ → ℕ × List ℕ → Got (ℕ × List ℕ)
rule t s = do
  p ← rule_head t s.1 s.0
  next ← rule_body t s.0 p
  got (next, number t s.0 ∷ s.1)

unfoldable pub rules : List ℕ → ℕ → ℕ → Got ℕ
rules t n at = do
  (next, earlier) ← times n (rule t) (at, [])
  got next

-- 'header fields, then dimensions, then Start, then rules, all in byte order; Trailing'
unfoldable pub check_table : List ℕ → Got (Unit {0})
check_table t = do
  p ← header t
  q ← times (byte t 5) (dimension t) p
  refuse_if (not (eqb (dimension_of t (byte t 6)) 1)) (Start (8 + byte t 6))
  next ← rules t (number t 7) q
  refuse_if (ltb next (length t)) (Trailing next)
