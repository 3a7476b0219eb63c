-- What an accepted table and accepted words say: document 01, 'The rule table, version 1' and 'Phrases'. Each part is read at its
-- place; that a table is accepted, so that this is its meaning, is `check_table`'s to say.
use Rattle.std.specs.Prelude.{ℕ, zero, suc, ◌+◌, ◌*◌, ◌-◌, ◌/◌, ◌%◌, List, [], ◌∷◌, cond, length, eqb, ltb}
use Rattle.meaning.specs.declared.Refusal.TheVariants.{Long, Odd, ZeroWord}
use Rattle.meaning.specs.Grammar.{Symbol, word, part, Rule, Grammar}
use Rattle.meaning.specs.Table.{Got, got, ◌>>◌, refuse_if, times, byte, number, dimension_of, category_of, rank_of, check_table}

-- the place after n parts, each of which ends where `next` says
unfoldable pub past : ℕ → (ℕ → ℕ) → ℕ → ℕ
past zero next at = at
past (suc n) next at = past n next (next at)

-- n parts, one after another
unfoldable pub several : {A : Type 0} → ℕ → (ℕ → A) → (ℕ → ℕ) → ℕ → List A
several zero f next at = []
several (suc n) f next at = f at ∷ several n f next (next at)

-- 'Kind 0 is a word .. Kind k from 1 to the rank is daughter k, and the number is one of its constituents, counted from 1.'
unfoldable pub symbol_at : List ℕ → ℕ → Symbol
symbol_at t at = cond (eqb (byte t at) 0) (word (number t (at + 1))) (part (byte t at - 1) (number t (at + 1) - 1))

unfoldable pub row_at : List ℕ → ℕ → List Symbol
row_at t at = several (byte t at) (symbol_at t) (λ p. p + 3) (at + 1)

unfoldable pub row_end : List ℕ → ℕ → ℕ
row_end t at = past (byte t at) (λ p. p + 3) (at + 1)

-- a rule's rows start after its daughters' categories
abbrev pub rows_of : List ℕ → ℕ → ℕ
rows_of t at = past (rank_of t at) (λ p. p + 1) (at + 4)

unfoldable pub rule_at : List ℕ → ℕ → Rule
rule_at t at = record {
  function = number t at;
  category = category_of t at;
  daughters = several (rank_of t at) (byte t) (λ p. p + 1) (at + 4);
  rows = several (dimension_of t (category_of t at)) (row_at t) (row_end t) (rows_of t at);
}

unfoldable pub rule_end : List ℕ → ℕ → ℕ
rule_end t at = past (dimension_of t (category_of t at)) (row_end t) (rows_of t at)

-- 'K bytes: dimension of each category'; 'rules: one after another'
abbrev pub first_rule : List ℕ → ℕ
first_rule t = past (byte t 5) (λ p. p + 1) 9

unfoldable pub grammar_of : List ℕ → Grammar
grammar_of t = record {
  start = byte t 6;
  dims = several (byte t 5) (byte t) (λ p. p + 1) 9;
  rules = several (number t 7) (rule_at t) (rule_end t) (first_rule t);
}

-- 'n is the words' bytes halved, rounded down'; a word is two bytes
unfoldable pub words_of : List ℕ → List ℕ
words_of b = several (length b / 2) (number b) (λ p. p + 2) 0

-- '15 Zero word: a word is 0; its index'
unfoldable pub word_there : List ℕ → ℕ → Got ℕ
word_there b i = refuse_if (eqb (number b (2 * i)) 0) (ZeroWord i) >> got (i + 1)

-- 'words (13, 14, 15)': 'more than 64 words; 64', 'odd in number; last byte', 'a word is 0; its index'
unfoldable pub check_words : List ℕ → Got (Unit {0})
check_words b = do
  refuse_if (ltb 64 (length b / 2)) Long
  refuse_if (eqb (length b % 2) 1) (Odd (length b - 1))
  times (length b / 2) (word_there b) 0 >> got tt

-- the checks that come before anything else: of the table, then of the words
unfoldable pub check_input : List ℕ → List ℕ → Got (Unit {0})
check_input table words = check_table table >> check_words words
