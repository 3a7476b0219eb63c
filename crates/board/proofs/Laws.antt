-- What is said of an answer's numbers is said of the array that holds them.
use mathlib.Core.Path.{◌≡◌, sym, subst}
use mathlib.Core.List.{List, [], ◌∷◌}
use Prim.Native.Nat.{ℕ}
use lib.ListN.{get_or}

pub handed : (W : ℕ → ℕ → ℕ → Type 0) → {c p n c' p' n' : ℕ} {a : List ℕ} → W c p n → (c' ≡ c) × (p' ≡ p) × (n' ≡ n) → a ≡ c' ∷ p' ∷ n' ∷ []
    → W (get_or a 0 0) (get_or a 1 0) (get_or a 2 0)
handed W {c} {p} {n} {c'} {p'} {n'} w (ec, ep, en) ea =
    subst (λ (l : List ℕ). W (get_or l 0 0) (get_or l 1 0) (get_or l 2 0)) (sym ea)
    (subst (λ (x : ℕ). W x p' n') (sym ec) (subst (λ (y : ℕ). W c y n') (sym ep) (subst (λ (z : ℕ). W c p z) (sym en) w)))
