-- A list of numbers rises in at most one way, so `Sorted` has at most one proof. The field `sorted` of Task and Quest cites it, so it stands in specs/.
use Rattle.std.specs.Prelude.{ℕ, ◌<◌}
use mathlib.Core.Path.{refl}
use mathlib.Core.List.{List, [], ◌∷◌}
use Rattle.std.proofs.Props.{props}
use Rattle.meaning.specs.Order.{each_none, each_more, sorted_none, sorted_more}
use Rattle.store.specs.Set.{Sorted, Over}

below_prop : (a b : ℕ) → IsProp (a < b)
below_prop a b = hlevel props

Over_prop : (a : ℕ) (l : List ℕ) → IsProp (Over a l)
Over_prop a [] each_none each_none = refl
Over_prop a (b ∷ l) (each_more p ps) (each_more q qs) = λ i. each_more (below_prop a b p q i) (Over_prop a l ps qs i)

pub Sorted_prop : (l : List ℕ) → IsProp (Sorted l)
Sorted_prop [] sorted_none sorted_none = refl
Sorted_prop (a ∷ l) (sorted_more p ps) (sorted_more q qs) = λ i. sorted_more (Over_prop a l p q i) (Sorted_prop l ps qs i)
