-- What a row can have where some daughters are chosen and the others, of one part each, may be any that are known; and the same as a
-- walk over sets of places.
use Rattle.std.specs.Prelude.{◌≡◌, ◌⊎◌, Bool, true, false, List, [], ◌∷◌, ℕ, suc, ◌+◌, ◌*◌, ◌-◌, ◌≤◌, ◌<◌, length, get_or, Option as CodedOption, Some, None}
use Rattle.std.proofs.Math.Option.{some as just}
use Rattle.meaning.specs.Range.{Range, none, IsRange, Spans, joined}
use Rattle.meaning.specs.Grammar.{Symbol, word, part}
use Rattle.meaning.specs.Giving.{Run}
use Rattle.phrase.specs.declared.items.Daughters.{Daughters}
use Rattle.phrase.specs.Phrase.{held_of}
use Rattle.reach.specs.Bits.{Bit}
use Rattle.reach.specs.declared.places.Places.{Places}
use Rattle.reach.specs.declared.rows.Free.{Free}

-- where a part may stand: at its range if its daughter is chosen (A is 0), at any known range of category A if not
pub data Placed (ws : List ℕ) (K : ℕ → Range → Type 0) (A : ℕ) (q p : Range) : Type 0 where
  any : 0 < A → K A p → IsRange ws p → Placed ws K A q p
  chosen : A ≡ 0 → p ≡ q → IsRange ws p → Placed ws K A q p

-- where a symbol may stand: as `Stands` says, but that a daughter k that is not chosen, of category `free k`, may be any known one
unfoldable pub May : List ℕ → (ℕ → Range → Type 0) → (ℕ → ℕ) → (ℕ → ℕ → Range) → Symbol → Range → Type 0
May ws K free e (word w) p = Spans ws p (w ∷ [])
May ws K free e (part k c) p = Placed ws K (free k) (e k c) p

-- the row can have the range r
abbrev pub Reach : List ℕ → (ℕ → Range → Type 0) → (ℕ → ℕ) → (ℕ → ℕ → Range) → List Symbol → Range → Type 0
Reach ws K free e ss r = Run (May ws K free e) ss r

-- what is known of categories of one part, as lent: bit e - 1 of number A * 64 + s is (s, e), bit A - 1 of number 0 the empty range
pub data Known (ends : List ℕ) (A : ℕ) (r : Range) : Type 0 where
  empty : r ≡ none → Bit (get_or ends 0 0) (A - 1) → Known ends A r
  words : r.from < 64 → (i : ℕ) → r.to ≡ suc i → Bit (get_or ends (A * 64 + r.from) 0) i → Known ends A r

-- what is lent has its ends past its starts
pub record Upward (ends : List ℕ) : Type 0 where
  pub rises : (A s i : ℕ) → 1 ≤ A → s < 64 → Bit (get_or ends (A * 64 + s) 0) i → s ≤ i

-- a sentence of at most 64 words, and only ranges of it are lent
pub record Fair (ws ends : List ℕ) : Type 0 where
  pub short : length ws ≤ 64
  pub upward : Upward ends
  pub within : (A s i : ℕ) → 1 ≤ A → s < 64 → Bit (get_or ends (A * 64 + s) 0) i → i < length ws

-- the categories of the three daughters, 0 for one that is chosen
abbrev pub free_of : Free → ℕ → ℕ
free_of f k = get_or f.categories k 0

-- what a row's run asks: what is lent is the sentence's, and the categories are small
pub record Asked (ws ends : List ℕ) (f : Free) : Type 0 where
  pub fair : Fair ws ends
  pub small : (k : ℕ) → free_of f k ≤ 64

-- where a symbol may stand, of what is lent
abbrev pub MayLent : List ℕ → List ℕ → Free → Daughters → Symbol → Range → Type 0
MayLent ws ends f d = May ws (Known ends) (free_of f) (held_of d)

-- what a row has so far, from a start s: nothing, if it is still there; or up to one of the ends
pub data Holds (p : Places) (s : ℕ) (r : Range) : Type 0 where
  unmoved : r ≡ none → p.still ≡ true → Holds p s r
  moved : r.from ≡ s → (i : ℕ) → r.to ≡ suc i → Bit p.ends i → Holds p s r

-- the row has nothing so far, and can have nothing
pub record Nowhere (p : Places) : Type 0 where
  pub moved_on : p.still ≡ false
  pub no_end : p.ends ≡ 0

-- the row may be at a place: at the start, or at one of the ends
pub data MayBe (p : Places) (s at : ℕ) : Type 0 where
  beginning : p.still ≡ true → at ≡ s → MayBe p s at
  passed : (i : ℕ) → at ≡ suc i → Bit p.ends i → MayBe p s at

-- r is what the row has so far, and next to it a range at which P allows the symbol; nothing, or from the start s
pub record Onto (P : Range → Type 0) (s : ℕ) (p : Places) (r : Range) : Type 0 where
  pub before : Range
  pub next : Range
  pub held : Holds p s before
  pub stands : P next
  pub joins : joined before next ≡ just r
  pub starts : (r ≡ none) ⊎ (r.from ≡ s)

-- q is p with one more symbol, exactly
pub record Turns (P : Range → Type 0) (s : ℕ) (p q : Places) : Type 0 where
  pub sound : (r : Range) → Holds q s r → Onto P s p r
  pub whole : (r : Range) → Onto P s p r → Holds q s r

-- the places are exactly what the row can have from the start s: those ranges and, if it can, nothing
pub record Reaches (P : Symbol → Range → Type 0) (ss : List Symbol) (s : ℕ) (p : Places) : Type 0 where
  pub sound : (r : Range) → Holds p s r → Run P ss r × ((r ≡ none) ⊎ (r.from ≡ s))
  pub whole : (r : Range) → Run P ss r → (r ≡ none) ⊎ (r.from ≡ s) → Holds p s r

-- the set of places where the sentence has a word
pub record Occurs (ws : List ℕ) (w m : ℕ) : Type 0 where
  pub sound : (i : ℕ) → Bit m i → (i < length ws) × (get_or ws i 0 ≡ w)
  pub whole : (i : ℕ) → i < length ws → get_or ws i 0 ≡ w → Bit m i

-- the set of one place, if the sentence has the word there
pub record Here (ws : List ℕ) (w i m : ℕ) : Type 0 where
  pub sound : (j : ℕ) → Bit m j → (j ≡ i) × (get_or ws i 0 ≡ w)
  pub whole : get_or ws i 0 ≡ w → Bit m i

-- the sentence has the word at a place
pub record WordAt (ws : List ℕ) (w i : ℕ) : Type 0 where
  pub inside : i < length ws
  pub is : get_or ws i 0 ≡ w

-- r is the set of the numbers after those of a at which the sentence has the word
pub record After (ws : List ℕ) (w a r : ℕ) : Type 0 where
  pub whole : (i : ℕ) → Bit a i → WordAt ws w (suc i) → Bit r (suc i)
  pub sound : (j : ℕ) → Bit r j → (i : ℕ) × (j ≡ suc i) × Bit a i × WordAt ws w j

-- a range of one word
pub record OneWord (ws : List ℕ) (w : ℕ) (p : Range) : Type 0 where
  pub there : WordAt ws w p.from
  pub one : p.to ≡ suc p.from

-- a given range, if it is one of the sentence
pub record Exactly (ws : List ℕ) (q p : Range) : Type 0 where
  pub same : p ≡ q
  pub range : IsRange ws p

-- j is among the ends that are lent, from `base` on, for the place p + i of some i of the set `rest`
pub record From (ends : List ℕ) (base rest p j : ℕ) : Type 0 where
  pub place : ℕ
  pub within : p + place < 64
  pub there : Bit rest place
  pub ends_at : Bit (get_or ends (base + (p + place)) 0) j

-- the union of the ends from each place of a set: bit i is the place i + 1
pub record Union (ends : List ℕ) (base here r : ℕ) : Type 0 where
  pub sound : (j : ℕ) → Bit r j → From ends base here 1 j
  pub whole : (j : ℕ) → From ends base here 1 j → Bit r j

-- 1 for true
pub record Digit (b : Bool) (n : ℕ) : Type 0 where
  pub one : b ≡ true → n ≡ 1
  pub back : n ≡ 1 → b ≡ true

-- m is the set of the ends, less 1, that the row can have from a start
pub record Ended (P : Symbol → Range → Type 0) (ss : List Symbol) (s m : ℕ) : Type 0 where
  pub sound : (i : ℕ) → Bit m i → Run P ss (record { from = s; to = suc i })
  pub whole : (i : ℕ) → Run P ss (record { from = s; to = suc i }) → Bit m i

-- the first n sets are all ranges with words that the row can have; number n is 1 if it can be empty
pub record RowSet (P : Symbol → Range → Type 0) (ss : List Symbol) (n : ℕ) (sets : List ℕ) : Type 0 where
  pub all : (s : ℕ) → s < n → Ended P ss s (get_or sets s 0)
  pub none_else : (r : Range) → Run P ss r → (r ≡ none) ⊎ ((r.from < n) × (r.from < r.to) × (r.to ≤ n))
  pub empty : get_or sets n 0 ≡ 1 → Run P ss none
  pub empty_whole : Run P ss none → get_or sets n 0 ≡ 1

-- a range with words of the first n sets, by its start
pub record InWords (n : ℕ) (sets : List ℕ) (r : Range) : Type 0 where
  pub low : r.from < n
  pub last : ℕ
  pub end : r.to ≡ suc last
  pub bit : Bit (get_or sets r.from 0) last

-- the ranges of the sets: those with words, and the empty one if number n is 1
pub data InSets (n : ℕ) (sets : List ℕ) (r : Range) : Type 0 where
  in_none : r ≡ none → get_or sets n 0 ≡ 1 → InSets n sets r
  in_words : InWords n sets r → InSets n sets r

-- the number of a range of at most 64 words: by its start, then its end
abbrev pub number_of : Range → ℕ
number_of r = r.from * 65 + r.to

-- the first number at or after one that is in the set, or that there is none
pub data FirstBit (set from : ℕ) : CodedOption ℕ → Type 0 where
  first_bit : {r : ℕ} → r < 64 → Bit set r → from ≤ r → ((i : ℕ) → from ≤ i → i < r → Bit set i → ⊥) → FirstBit set from (Some r)
  no_more : ((i : ℕ) → from ≤ i → i < 64 → Bit set i → ⊥) → FirstBit set from None
