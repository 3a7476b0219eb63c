-- Chart order: an item's seven numbers, compared as `<` compares them.
use Prim.Native.Nat.{ℕ, ◌-◌, ◌<◌}
use mathlib.Core.Path.{◌≡◌, refl, ap}
use mathlib.Core.Logic.{inl, inr}
use mathlib.Core.List.{List, [], ◌∷◌}
use mathlib.Core.Bool.{Bool}
use native.Mathlib.Omega.{arith}
use native.Mathlib.Decide.{dec_lt}
use borrow.Author.Tests.{lt-ltb, le-ltb, eq-eqb, ne_eqb}
use lib.ListN.{length, get_or}
use Rattle.std.specs.Prelude.{Some}
use Rattle.std.specs.Ordering.{nat_cmp, is_lt, is_some_and, partial_lt, partial_ordering_then}
use Rattle.std.specs.Cmp.Lexicographic.{slice_partial_cmp}
use Rattle.meaning.specs.Order.{Lex}
use Rattle.meaning.specs.Range.{Item, numbers}
use Rattle.meaning.specs.Chart.{Known, Before}
use Rattle.meaning.specs.TreeWriting.{stated_at}
use Rattle.phrase.specs.declared.items.Item.{Item as CodedItem}
use Rattle.phrase.specs.Phrase.{item_of, Decides, holds, fails}
use Rattle.phrase.proofs.Fit.{instead}
use Rattle.lent.specs.Lent.{known_of, After}

-- what `<` answers of two lists of numbers
abbrev pub less : List ℕ → List ℕ → Bool
less xs ys = is_some_and is_lt (slice_partial_cmp (λ x y. Some (nat_cmp x y)) xs ys)

lex-more : (x y : ℕ) (xs ys : List ℕ) → y < x → Lex (x ∷ xs) (y ∷ ys) → ⊥
unfolding Lex
lex-more x y xs ys h (inl l) = omega arith
lex-more x y xs ys h (inr l) = omega (arith, l.0)

lex-off : (x y : ℕ) (xs ys : List ℕ) → x ≡ y → Lex (x ∷ xs) (y ∷ ys) → Lex xs ys
unfolding Lex
lex-off x y xs ys e (inl h) = absurd (omega arith)
lex-off x y xs ys e (inr l) = l.1

lex-is : (xs ys : List ℕ) → Decides (Lex xs ys) (less xs ys)
unfolding Lex
lex-is [] [] = fails (λ h. h)
lex-is [] (y ∷ ys) = holds tt
lex-is (x ∷ xs) [] = fails (λ h. h)
lex-is (x ∷ xs) (y ∷ ys) = go (lex-is xs ys) (dec_lt x y) (dec_lt y x)
  where
    go : Decides (Lex xs ys) (less xs ys) → Dec (x < y) → Dec (y < x) → Decides (Lex (x ∷ xs) (y ∷ ys)) (less (x ∷ xs) (y ∷ ys))
    go r (yes h) d = rw (lt-ltb x y h) (holds (inl h))
    go r (no h) (yes d) = let e : x ≡ y → ⊥ = omega arith in rw (le-ltb x y (omega arith), ne_eqb x y e) (fails (lex-more x y xs ys d))
    go r (no h) (no d) = let e : x ≡ y = omega arith in rw (le-ltb x y (omega arith), eq-eqb x y e) (instead (λ l. inr (e, l)) (lex-off x y xs ys e) r)

-- an item's numbers: its category, then its range numbers
six : (xs : List ℕ) → length xs ≡ 6
    → get_or xs 0 0 ∷ get_or xs 1 0 ∷ get_or xs 2 0 ∷ get_or xs 3 0 ∷ get_or xs 4 0 ∷ get_or xs 5 0 ∷ [] ≡ xs
six (a ∷ b ∷ c ∷ d ∷ e ∷ f ∷ []) h = refl
six [] h = absurd (omega arith)
six (a ∷ []) h = absurd (omega arith)
six (a ∷ b ∷ []) h = absurd (omega arith)
six (a ∷ b ∷ c ∷ []) h = absurd (omega arith)
six (a ∷ b ∷ c ∷ d ∷ []) h = absurd (omega arith)
six (a ∷ b ∷ c ∷ d ∷ e ∷ []) h = absurd (omega arith)
six (a ∷ b ∷ c ∷ d ∷ e ∷ f ∷ g ∷ l) h = absurd (omega arith)

-- a number and a list of numbers that are an item's category and its range numbers
pub record NumbersOf (x : CodedItem) (p : ℕ × List ℕ) : Type 0 where
  pub category : p.0 ≡ x.category
  pub six : length p.1 ≡ 6
  pub end0 : get_or p.1 0 0 ≡ get_or x.ends 0 0
  pub end1 : get_or p.1 1 0 ≡ get_or x.ends 1 0
  pub end2 : get_or p.1 2 0 ≡ get_or x.ends 2 0
  pub end3 : get_or p.1 3 0 ≡ get_or x.ends 3 0
  pub end4 : get_or p.1 4 0 ≡ get_or x.ends 4 0
  pub end5 : get_or p.1 5 0 ≡ get_or x.ends 5 0

numbers-are : (x : CodedItem) (p : ℕ × List ℕ) → NumbersOf x p → numbers (item_of x) ≡ p.0 ∷ p.1
unfolding numbers item_of
numbers-are x p n = rw (← n.category, ← n.end0, ← n.end1, ← n.end2, ← n.end3, ← n.end4, ← n.end5) (ap (λ (l : List ℕ). p.0 ∷ l) (six p.1 n.six))

-- what `<` answers of two such pairs
pub below : ℕ × List ℕ → ℕ × List ℕ → Bool
below p q = less (p.0 ∷ p.1) (q.0 ∷ q.1)

pub below-is : (p q : ℕ × List ℕ)
    → partial_lt (λ a b. partial_ordering_then (Some (nat_cmp a.0 b.0)) (slice_partial_cmp (λ x y. Some (nat_cmp x y)) a.1 b.1)) p q ≡ below p q
unfolding below
below-is p q = refl

pub before-is : (x y : CodedItem) (k l : Known Item) → known_of x ≡ k → known_of y ≡ l → {p q : ℕ × List ℕ} → NumbersOf x p → NumbersOf y q
    → Decides (Before k.item l.item) (below p q)
unfolding Before known_of below
before-is x y k l e f m n = rw (← e, ← f, numbers-are x _ m, numbers-are y _ n) (lex-is _ _)

-- the first record has no predecessor
pub after_first : (c : List ℕ) (i : ℕ) → i ≡ 0 → After c i
unfolding After
after_first c i e = λ h. absurd (omega arith)

pub after_last : (c : List ℕ) (i : ℕ) {j : ℕ} {b : Bool} → (i ≡ 0 → ⊥) → j ≡ i - 1 → Decides (Before (stated_at c j).item (stated_at c i).item) b → Decides (After c i) b
unfolding After
after_last c i n e = rw e (instead (λ b h. b) (λ a. a (omega arith)))
