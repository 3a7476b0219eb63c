-- What a chart that passed has for the recursion is said in one way only: the type's field cites it, so it stands in specs/.
use mathlib.Core.List.{List}
use Prim.Native.Nat.{ℕ}
use Rattle.std.proofs.Props.{props}
use Rattle.rules.specs.Index.{Got_set}
use Rattle.tree.specs.Writing.{Falling}

pub Falling_prop : (t c : List ℕ) (count : ℕ) → IsProp (Falling t c count)
Falling_prop t c count = Prim.hlevel (props, Got_set)
