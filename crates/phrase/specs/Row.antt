-- A row run from its left end, its first word tried at a given place, and where it can start: what the code computes.
-- That this finds the ranges that document 01 gives a row, and no others, is proved in proofs/Runs.antt.
use Rattle.std.specs.Prelude.{Bool, true, false, ◌&&◌, ◌||◌, List, [], ◌∷◌, ℕ, zero, suc, ◌-◌, eqb, ltb, leb, length, get_or}
use Rattle.std.proofs.Math.Option.{Option, none as apart, some as just}
use Rattle.meaning.specs.Range.{Range, is_none, joined}
use Rattle.meaning.specs.Grammar.{Symbol, word, part}

-- whether p is a range of the sentence: `IsRange` as a test
abbrev pub is_range : List ℕ → Range → Bool
is_range ws p = is_none p || (ltb p.from p.to && leb p.to (length ws))

-- the range, if the test holds
abbrev pub given : Bool → Range → Option Range
given true p = just p
given false p = apart

-- where a word goes next to what ends at a place: there, or at the start where nothing stands yet
abbrev pub after : ℕ → ℕ → ℕ
after start zero = start
after start (suc n) = suc n

-- the range of a word that must stand at a place
abbrev pub word_here : List ℕ → ℕ → ℕ → Option Range
word_here ws w p = given (ltb p (length ws) && eqb (get_or ws p 0) w) (record { from = p; to = suc p })

-- the range of a part, if it is one of the sentence's
abbrev pub part_here : List ℕ → Range → Option Range
part_here ws p = given (is_range ws p) p

-- the range of a symbol next to what ends at `to`, over the daughters' constituents e
unfoldable pub site : List ℕ → (ℕ → ℕ → Range) → ℕ → ℕ → Symbol → Option Range
site ws e start to (word w) = word_here ws w (after start to)
site ws e start to (part k c) = part_here ws (e k c)

-- go on with what there is, if there is something
abbrev pub and_then : {A B : Type 0} → Option A → (A → Option B) → Option B
and_then apart f = apart
and_then (just a) f = f a

-- what the symbols make, joined one after the other to a, where the first word next to nothing is tried at the start
unfoldable pub eval : List ℕ → (ℕ → ℕ → Range) → ℕ → Range → List Symbol → Option Range
eval ws e start a [] = just a
eval ws e start a (s ∷ ss) = and_then (site ws e start a.to s) (λ p. and_then (joined a p) (λ b. eval ws e start b ss))

-- where a row can start: from `first` up to but not including `end`
pub record Starts : Type 0 where
  pub first : ℕ
  pub end : ℕ

-- words and no part may stand anywhere; nothing stands at 0
abbrev pub alone : List ℕ → ℕ → Starts
alone ws zero = record { first = 0; end = 1 }
alone ws (suc n) = record { first = 0; end = length ws }

-- n words before a place fix the start; where they would stand before the sentence there is none
abbrev pub ahead : ℕ → ℕ → Starts
ahead from n = record { first = from - n; end = suc from - n }

-- a part that is not empty fixes the start, n words ahead of it; otherwise the rest of the row does
abbrev pub opens : ℕ → ℕ → ℕ → Starts → Starts
opens n from zero s = s
opens n from (suc to) s = ahead from n

-- n words on, where a row can start: its first part that is not empty, and the words before it, say so
unfoldable pub starts : List ℕ → (ℕ → ℕ → Range) → ℕ → List Symbol → Starts
starts ws e n [] = alone ws n
starts ws e n (word w ∷ ss) = starts ws e (suc n) ss
starts ws e n (part k c ∷ ss) = opens n (e k c).from (e k c).to (starts ws e n ss)
