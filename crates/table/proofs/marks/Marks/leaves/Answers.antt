-- `Marks::leaves` meets its contract: a search of the daughter's first marks for one that is not set. Assumes nothing.
use mathlib.Core.Bool.{beq, not}
use mathlib.Core.Path.{fun_ext}
use Rattle.std.proofs.Common.{◌≡◌, ℕ, ◌≤◌, ◌<◌, arith, get_or, [], Bool, true, false, refl, ◌∙◌, sym, ap, List, take}
use Rattle.std.specs.List.{list_any}
use Rattle.meaning.specs.Table.{any}
use Rattle.table.specs.Views.{used_of, Square}
use Rattle.table.proofs.Laws.{any-list}
use Rattle.table.proofs.marks.Marks.leaves.Goals as goal

not-beq : (b : Bool) → beq b false ≡ not b
not-beq true = refl
not-beq false = refl

unset : (m : List (List Bool)) (k k' n n' : ℕ) → Square m → k < 3 → n ≤ 3 → k' ≡ k → n' ≡ n → list_any (λ y. beq y false) (take n' (get_or m k' [])) ≡ any n (λ i. not (used_of m k i))
unset m k k' n n' s h l e f =
    let long = s.each k h in
    let xs = get_or m k [] in
    rw (e, f) (ap (λ (q : Bool → Bool). list_any q (take n xs)) (fun_ext not-beq) ∙ sym (any-list not false n xs (omega arith)))

pub returns : goal.returns
returns c = c.contains.ensures.value ∙ unset _ _ _ _ _ c.args.self.now.square c.requires.0 c.requires.1 c.from.ensures c.from-2.ensures
