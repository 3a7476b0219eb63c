-- The codes of document 01, 'Numbers handed back', each once, and the places of the codes 2 to 15: those of a table and of a sentence.
use Rattle.std.specs.Prelude.{ℕ}
use Rattle.meaning.specs.declared.Refusal.{Refusal}
use Rattle.meaning.specs.declared.Refusal.TheVariants.{Short, Mark, Version, Range, Category, Function, Symbol, Twice, Missing, Start, Trailing, Long, Odd, ZeroWord}

-- the column 'Code' of these
abbrev pub code_of : Refusal → ℕ
code_of (Short p) = 2
code_of Mark = 3
code_of Version = 4
code_of (Range p) = 5
code_of (Category p) = 6
code_of (Function p) = 7
code_of (Symbol p) = 8
code_of (Twice p) = 9
code_of (Missing p) = 10
code_of (Start p) = 11
code_of (Trailing p) = 12
code_of Long = 13
code_of (Odd p) = 14
code_of (ZeroWord p) = 15

-- every other end of a call, and its code; `Done` is a yes, or that the tree or the text is written
pub data Ending : Type 0 where
  Done No Full Chart Place TreeRoom TreeList TextRoom Deep : Ending

abbrev pub code : Ending → ℕ
code = elim [ Done ↦ 0 | No ↦ 1 | Full ↦ 16 | Chart ↦ 17 | Place ↦ 18 | TreeRoom ↦ 19 | TreeList ↦ 20 | TextRoom ↦ 21 | Deep ↦ 22 ]

-- the column 'Place' of the refusals; where it hangs on the input, the definition that refuses says it
abbrev pub place_of : Refusal → ℕ
place_of (Short p) = p
place_of Mark = 0
place_of Version = 3
place_of (Range p) = p
place_of (Category p) = p
place_of (Function p) = p
place_of (Symbol p) = p
place_of (Twice p) = p
place_of (Missing p) = p
place_of (Start p) = p
place_of (Trailing p) = p
place_of Long = 64
place_of (Odd p) = p
place_of (ZeroWord p) = p
