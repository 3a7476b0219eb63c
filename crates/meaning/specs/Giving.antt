-- True items, and what a rule gives from its daughters in a sentence: document 01, 'Phrases'.
use Rattle.std.specs.Prelude.{◌≡◌, ℕ, get_or}
use Rattle.std.proofs.Math.Option.{some as just}
use mathlib.Core.List.{List, [], ◌∷◌, map, Memᴰ as Mem}
use Rattle.meaning.specs.Range.{Range, none, IsRange, Spans, joined, Item, nothing, at, Counts}
use Rattle.meaning.specs.Grammar.{Symbol, word, part, Rule, Grammar, Tree, Trees, bare, and, Of, spell}

-- the tree 'spells, in each constituent, exactly the words of its range'; past its last constituent a tree says nothing
pub record Makes (G : Grammar) (ws : List ℕ) (t : Tree) (x : Item) : Type 0 where
  pub kind : Of G t x.category
  pub spans : (i : ℕ) → Spans ws (at x i) (get_or (spell t) i [])
  pub counts : Counts x

-- 'It is true when some tree of that category spells, in each constituent, exactly the words of its range.'
unfoldable pub True : Grammar → List ℕ → Item → Type 0
True G ws x = (t : Tree) × Makes G ws t x

pub data MakeAll (G : Grammar) (ws : List ℕ) : Trees → List Item → Type 0 where
  make_none : MakeAll G ws bare []
  make_more : {t : Tree} {ts : Trees} {x : Item} {xs : List Item} → Makes G ws t x → MakeAll G ws ts xs → MakeAll G ws (and t ts) (x ∷ xs)

-- the symbols, each at a range that P allows it, join to r; a row with nothing in it has the empty range
pub data Run (P : Symbol → Range → Type 0) : List Symbol → Range → Type 0 where
  done : {r : Range} → r ≡ none → Run P [] r
  more : {s : Symbol} {ss : List Symbol} {p q r : Range} → P s p → Run P ss q → joined p q ≡ just r → Run P (s ∷ ss) r

-- where a symbol may stand: a word wherever it is found, a part where the daughter has it, if that is a range of the sentence
unfoldable pub Stands : List ℕ → (ℕ → ℕ → Range) → Symbol → Range → Type 0
Stands ws e (word w) p = Spans ws p (w ∷ [])
Stands ws e (part k c) p = (p ≡ e k c) × IsRange ws p

-- constituent c of daughter k
abbrev pub held : List Item → ℕ → ℕ → Range
held ds k c = at (get_or ds k nothing) c

abbrev pub categories : List Item → List ℕ
categories ds = map (λ (d : Item). d.category) ds

-- x is one of the items that the rule and these daughters can give in these words.
-- Of an accepted table the true items are those that giving reaches: in a first round from no daughters, in a later one from items of the
-- rounds before it; and an item's height is the first round that gives it. This is proved: what is given from true items is true and what is
-- true is given (`step`, `inverse` of proofs/Laws), one level above the tallest daughter (`deduction` of proofs/Charts).
pub record Gives (G : Grammar) (ws : List ℕ) (r : Rule) (ds : List Item) (x : Item) : Type 0 where
  pub known : Mem r G.rules
  pub kind : x.category ≡ r.category
  pub kinds : categories ds ≡ r.daughters
  pub rows : (i : ℕ) → Run (Stands ws (held ds)) (get_or r.rows i []) (at x i)
  pub counts : Counts x
