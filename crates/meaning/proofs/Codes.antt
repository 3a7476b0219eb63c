-- The refusals of a table and of words have the codes 2 to 15, and code and place tell which it is.
use mathlib.Core.Path.{◌≡◌, refl}
use mathlib.Core.List.{List, [], ◌∷◌}
use Prim.Native.Nat.{ℕ, ◌-◌, ◌≤◌, ◌<◌}
use native.Mathlib.Omega.{arith}
use lib.ListN.{get_or}
use Rattle.meaning.specs.declared.Refusal.{Refusal}
use Rattle.meaning.specs.declared.Refusal.TheVariants.{Short, Mark, Version, Range, Category, Function, Symbol, Twice, Missing, Start, Trailing, Long, Odd, ZeroWord}
use Rattle.meaning.specs.Refusals.{code_of, place_of}

pub refusal-code : (r : Refusal) → (2 ≤ code_of r) × (code_of r < 16)
refusal-code (Short p) = (omega arith, omega arith)
refusal-code Mark = (omega arith, omega arith)
refusal-code Version = (omega arith, omega arith)
refusal-code (Range p) = (omega arith, omega arith)
refusal-code (Category p) = (omega arith, omega arith)
refusal-code (Function p) = (omega arith, omega arith)
refusal-code (Symbol p) = (omega arith, omega arith)
refusal-code (Twice p) = (omega arith, omega arith)
refusal-code (Missing p) = (omega arith, omega arith)
refusal-code (Start p) = (omega arith, omega arith)
refusal-code (Trailing p) = (omega arith, omega arith)
refusal-code Long = (omega arith, omega arith)
refusal-code (Odd p) = (omega arith, omega arith)
refusal-code (ZeroWord p) = (omega arith, omega arith)

-- the refusals at a place, by rising code
abbrev refusals : ℕ → List Refusal
refusals p =
    Short p ∷ Mark ∷ Version ∷ Range p ∷ Category p ∷ Function p ∷ Symbol p ∷ Twice p ∷ Missing p ∷ Start p ∷ Trailing p
    ∷ Long ∷ Odd p ∷ ZeroWord p ∷ []

-- the refusal with a code and a place
abbrev pub refusal_of : ℕ → ℕ → Refusal
refusal_of code place = get_or (refusals place) (code - 2) Mark

pub refusal-told : (r : Refusal) → refusal_of (code_of r) (place_of r) ≡ r
refusal-told (Short p) = refl
refusal-told Mark = refl
refusal-told Version = refl
refusal-told (Range p) = refl
refusal-told (Category p) = refl
refusal-told (Function p) = refl
refusal-told (Symbol p) = refl
refusal-told (Twice p) = refl
refusal-told (Missing p) = refl
refusal-told (Start p) = refl
refusal-told (Trailing p) = refl
refusal-told Long = refl
refusal-told (Odd p) = refl
refusal-told (ZeroWord p) = refl
