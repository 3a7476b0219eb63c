-- What the sentence writer answers: document 01, 'Tree and sentence'.
use Rattle.std.specs.Prelude.{◌≡◌, cond, List, [], ◌∷◌, ◌++◌, ℕ, ◌+◌, ◌≤◌, ◌<◌, eqb, length, get_or, drop}
use Rattle.std.proofs.Math.Option.{Option, none, some}
use Rattle.meaning.specs.declared.Refusal.{Refusal}
use Rattle.meaning.specs.Refusals.{code_of, place_of, code}
use Rattle.meaning.specs.Refusals as ending
use Rattle.meaning.specs.Table.{got, refused, check_table}
use Rattle.meaning.specs.Decode.{grammar_of}
use Rattle.meaning.specs.Grammar.{Rule, Grammar, Tree, Of, functions, spell}
use Rattle.meaning.specs.TreeWriting.{named}

-- what follows where a rule is there and of the wanted category
abbrev pub fits : Option Rule → ℕ → Option ℕ → (Rule → Option ℕ) → Option ℕ
fits none A wrong k = wrong
fits (some r) A wrong k = cond (eqb r.category A) (k r) wrong

-- One walk from the left over the nodes, of which the first has index i, while trees of these categories are wanted: 'the first node that
-- is unknown or of a category not wanted there ..; an early end (list length); or a node too many (its index)'
unfoldable pub walk : (ℕ → Option Rule) → ℕ → List ℕ → List ℕ → Option ℕ
walk look i [] [] = none
walk look i [] (f ∷ fs) = some i
walk look i (A ∷ As) [] = some i
walk look i (A ∷ As) (f ∷ fs) = fits (look f) A (some i) (λ r. walk look (i + 1) (r.daughters ++ As) fs)

-- where a list is wrong as a tree: 'the root wants the start'
abbrev pub fault : Grammar → List ℕ → Option ℕ
fault G fs = walk (named G.rules) 0 (G.start ∷ []) fs

-- t is the tree of the start category whose function list this is
pub record Reads (G : Grammar) (fs : List ℕ) (t : Tree) : Type 0 where
  pub kind : Of G t G.start
  pub told : functions t ≡ fs

-- 'exactly the tree's words': the start has one constituent
abbrev pub words : Tree → List ℕ
words t = get_or (spell t) 0 []

-- The sentence writer's code, place, count and the whole slice after the call, for every input. 'more than 255 nodes (place 255, before
-- the rest)'; '21 Text room: more words than the slice holds; words needed'; 'It writes the words, leaves the rest'.
module _ (table list before : List ℕ) where
  pub data SentenceWritten : ℕ → ℕ → ℕ → List ℕ → Type 0 where
    bad_table : {r : Refusal} → check_table table ≡ refused r → SentenceWritten (code_of r) (place_of r) 0 before
    too_many : check_table table ≡ got tt → 255 < length list → SentenceWritten (code ending.TreeList) 255 0 before
    wrong : {i : ℕ} → check_table table ≡ got tt → length list ≤ 255 → fault (grammar_of table) list ≡ some i → SentenceWritten (code ending.TreeList) i 0 before
    no_room : {t : Tree} → check_table table ≡ got tt → length list ≤ 255 → Reads (grammar_of table) list t
        → length before < length (words t) → SentenceWritten (code ending.TextRoom) (length (words t)) 0 before
    wrote : {t : Tree} → check_table table ≡ got tt → length list ≤ 255 → Reads (grammar_of table) list t
        → length (words t) ≤ length before → SentenceWritten (code ending.Done) 0 (length (words t)) (words t ++ drop (length (words t)) before)
