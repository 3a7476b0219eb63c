-- A search from 0 on, by number and in a list, and the function numbers before a rule.
use Prim.Native.Nat.{ℕ, zero, suc, ◌+◌, ◌≤◌, ◌<◌}
use mathlib.Core.Path.{◌≡◌, ap, ◌∙◌, refl, fun_ext}
use mathlib.Core.List.{List, [], ◌∷◌}
use mathlib.Core.Bool.{Bool, true, false, ◌||◌}
use lib.ListN.{length, get_or, set, take, length-take, length-set}
use lib.Seq.{get_or-set_same, get_or-set_other, get_or-take, take_all}
use lib.Dec.{eqb}
use native.Mathlib.Omega.{arith}
use native.Mathlib.Numerals.{add-one}
use Rattle.std.specs.List.{list_any, range_with_len}
use Rattle.fields.proofs.Laws.{turns_over, turn_passed, turn_refused}
use Rattle.meaning.specs.Table.{any, member}
use Rattle.table.specs.Views.{firsts}

or-swap : (a b c : Bool) → (a || (b || c)) ≡ (b || (a || c))
or-swap true true c = refl
or-swap true false c = refl
or-swap false true c = refl
or-swap false false c = refl

pub any-front : (p : ℕ → Bool) (n : ℕ) → any (suc n) p ≡ p 0 || any n (λ i. p (suc i))
unfolding any
any-front p zero = refl
any-front p (suc n) = rw (any-front p n) (or-swap (p (suc n)) (p 0) (any n (λ i. p (suc i))))

-- a search of the numbers below n, as a range hands them out
any-from : (p : ℕ → Bool) (a n : ℕ) → any n (λ i. p (a + i)) ≡ list_any p (range_with_len a n)
unfolding any
any-from p a zero = refl
any-from p a (suc n) =
    let here : p (a + 0) ≡ p a = ap p (omega arith) in
    let on : any n (λ i. p (a + suc i)) ≡ list_any p (range_with_len (a + 1) n) = ap (any n) (fun_ext (λ i. ap p (omega arith))) ∙ any-from p (a + 1) n in
    any-front (λ i. p (a + i)) n ∙ rw (here, on) refl

pub any_range : (p : ℕ → Bool) (n : ℕ) → any n p ≡ list_any p (range_with_len 0 n)
any_range p n = ap (any n) (fun_ext (λ i. ap p (omega arith))) ∙ any-from p 0 n

-- a search of the first n elements of a list
pub any-list : {A : Type 0} (q : A → Bool) (d : A) (n : ℕ) (xs : List A) → n ≤ length xs → any n (λ i. q (get_or xs i d)) ≡ list_any q (take n xs)
unfolding any
any-list q d zero xs h = refl
any-list q d (suc n) [] h = absurd (omega arith)
any-list q d (suc n) (x ∷ xs) h = any-front (λ i. q (get_or (x ∷ xs) i d)) n ∙ ap (λ (b : Bool). q x || b) (any-list q d n xs (omega arith))

pub member-any : (x n : ℕ) (xs : List ℕ) → member x (firsts n xs) ≡ any n (λ i. eqb (get_or xs i 0) x)
unfolding member firsts any
member-any x zero xs = refl
member-any x (suc n) xs = ap (λ (b : Bool). eqb (get_or xs n 0) x || b) (member-any x n xs)

pub member_all : (x : ℕ) (xs : List ℕ) → member x (firsts (length xs) xs) ≡ list_any (λ y. eqb y x) xs
member_all x xs = member-any x (length xs) xs ∙ any-list (λ y. eqb y x) 0 (length xs) xs (omega arith) ∙ ap (list_any (λ y. eqb y x)) (take_all (length xs) xs (omega arith))

-- a store past the first numbers leaves them, and the store after them adds one
firsts-keep : (m i v : ℕ) (xs : List ℕ) → m ≤ i → firsts m (set xs i v) ≡ firsts m xs
unfolding firsts
firsts-keep zero i v xs h = refl
firsts-keep (suc m) i v xs h =
    rw (get_or-set_other xs i m v 0 (λ (e : m ≡ i). omega arith), firsts-keep m i v xs (omega arith))

pub firsts-set : (n v : ℕ) (xs : List ℕ) → n < length xs → firsts (n + 1) (set xs n v) ≡ v ∷ firsts n xs
unfolding firsts
firsts-set n v xs h = rw (add-one, get_or-set_same xs n v 0 h, firsts-keep n n v xs (omega arith))

pub firsts-take : (m n : ℕ) (xs : List ℕ) → m ≤ n → firsts m (take n xs) ≡ firsts m xs
unfolding firsts
firsts-take zero n xs h = refl
firsts-take (suc m) n xs h =
    rw (firsts-take m n xs (omega arith)) (ap (λ (x : ℕ). x ∷ firsts m xs) (get_or-take n xs m 0 (omega arith)))

-- the function numbers before a rule, lent alone
pub firsts_lent : (n : ℕ) (xs : List ℕ) → n ≤ length xs → firsts (length (take n xs)) (take n xs) ≡ firsts n xs
firsts_lent n xs h = let e : length (take n xs) ≡ n = length-take n xs ∙ omega arith in rw e (firsts-take n n xs (omega arith))

pub ruleset numbered = (turns_over, turn_passed, turn_refused, firsts-set, firsts_lent, length-set)
