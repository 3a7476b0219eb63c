-- The use marks: a mark that is set is a use marked, and nothing is marked at first.
use Prim.Native.Nat.{ℕ, zero, suc, ◌<◌}
use mathlib.Core.Path.{◌≡◌, refl, sym, ap, ◌∙◌, fun_ext}
use mathlib.Core.Bool.{Bool, true, false, ◌||◌, ◌&&◌}
use mathlib.Core.List.{List, [], ◌∷◌}
use lib.ListN.{length, get_or, set}
use lib.Seq.{get_or-set_same, get_or-set_other}
use lib.Dec.{eqb}
use borrow.Author.Tests.{eqb-true, eqb-false}
use native.Mathlib.Omega.{arith}
use Rattle.meaning.specs.Table.{unused, mark}
use Rattle.table.specs.Views.{used_of, Square}

one_set : (l : List Bool) (c c' : ℕ) → c < length l → get_or (set l c true) c' false ≡ eqb c c' || get_or l c' false
one_set l c c' h = go (eqb c c') refl
  where
    go : (b : Bool) → eqb c c' ≡ b → get_or (set l c true) c' false ≡ b || get_or l c' false
    go true e = rw (← eqb-true c c' e) (get_or-set_same l c true false h)
    go false e = get_or-set_other l c c' true false (λ p. eqb-false c c' e (sym p))

module _ (m : List (List Bool)) (k c : ℕ) (hk : k < 3) (hc : c < 3) (s : Square m) where
  pub marked : used_of (set m k (set (get_or m k []) c true)) ≡ mark k c (used_of m)
  unfolding mark
  marked = fun_ext (λ k'. fun_ext (λ c'. go k' c' (eqb k k') refl))
    where
      go : (k' c' : ℕ) (b : Bool) → eqb k k' ≡ b → used_of (set m k (set (get_or m k []) c true)) k' c' ≡ (b && eqb c c') || used_of m k' c'
      go k' c' true e =
          rw (← eqb-true k k' e)
          (let h : k < length m = omega (arith, s.rows) in
          let h' : c < length (get_or m k []) = omega (arith, s.each k hk) in
          ap (λ (l : List Bool). get_or l c' false) (get_or-set_same m k (set (get_or m k []) c true) [] h) ∙ one_set (get_or m k []) c c' h')
      go k' c' false e =
          ap (λ (l : List Bool). get_or l c' false) (get_or-set_other m k k' (set (get_or m k []) c true) [] (λ p. eqb-false k k' e (sym p)))

-- the marks of a rule that has not been read yet
no-mark : (c : ℕ) → get_or (false ∷ false ∷ false ∷ []) c false ≡ false
no-mark zero = refl
no-mark (suc zero) = refl
no-mark (suc (suc zero)) = refl
no-mark (suc (suc (suc c))) = refl

abbrev pub blank : List (List Bool)
blank = (false ∷ false ∷ false ∷ []) ∷ (false ∷ false ∷ false ∷ []) ∷ (false ∷ false ∷ false ∷ []) ∷ []

pub none_marked : used_of blank ≡ unused
unfolding unused
none_marked = fun_ext (λ k. fun_ext (λ c. go k c))
  where
    go : (k c : ℕ) → used_of blank k c ≡ false
    go zero c = no-mark c
    go (suc zero) c = no-mark c
    go (suc (suc zero)) c = no-mark c
    go (suc (suc (suc k))) c = refl
