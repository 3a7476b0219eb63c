-- What a list in another order keeps: its length, its members, what holds of each member or of any two, and its images.
use mathlib.Core.Path.{◌≡◌, refl, ap, ◌∙◌}
use mathlib.Core.List.Memᴰ.{head as here}
use mathlib.Core.List.Memᴰ.{tail as there}
use mathlib.Core.List.{List, [], ◌∷◌, map, Memᴰ as Mem}
use Prim.Native.Nat.{suc}
use lib.ListN.{length}
use Rattle.meaning.specs.Order.{Each, each_none, each_more, Sorted, sorted_none, sorted_more}
use Rattle.claims.specs.Reordered.{Permuted, none, keep, swap, then}

module _ {A : Type 0} where
  pub permuted-itself : (l : List A) → Permuted l l
  permuted-itself [] = none
  permuted-itself (a ∷ l) = keep (permuted-itself l)

  pub permuted-back : {l m : List A} → Permuted l m → Permuted m l
  permuted-back none = none
  permuted-back (keep p) = keep (permuted-back p)
  permuted-back swap = swap
  permuted-back (then p q) = then (permuted-back q) (permuted-back p)

  pub permuted-length : {l m : List A} → Permuted l m → length l ≡ length m
  permuted-length none = refl
  permuted-length (keep p) = ap suc (permuted-length p)
  permuted-length swap = refl
  permuted-length (then p q) = permuted-length p ∙ permuted-length q

  pub permuted-mem : {a : A} {l m : List A} → Permuted l m → Mem a l → Mem a m
  permuted-mem none i = elim i [ ]
  permuted-mem (keep p) (here e) = here e
  permuted-mem (keep p) (there i) = there (permuted-mem p i)
  permuted-mem swap (here e) = there (here e)
  permuted-mem swap (there (here e)) = here e
  permuted-mem swap (there (there i)) = there (there i)
  permuted-mem (then p q) i = permuted-mem q (permuted-mem p i)

  pub permuted-each : {P : A → Type 0} {l m : List A} → Permuted l m → Each P l → Each P m
  permuted-each none each_none = each_none
  permuted-each (keep p) (each_more x xs) = each_more x (permuted-each p xs)
  permuted-each swap (each_more x (each_more y ys)) = each_more y (each_more x ys)
  permuted-each (then p q) xs = permuted-each q (permuted-each p xs)

  pub permuted-sorted : {R : A → A → Type 0} {l m : List A} → ((a b : A) → R a b → R b a) → Permuted l m → Sorted R l → Sorted R m
  permuted-sorted sym none sorted_none = sorted_none
  permuted-sorted sym (keep p) (sorted_more x xs) = sorted_more (permuted-each p x) (permuted-sorted sym p xs)
  permuted-sorted sym swap (sorted_more (each_more x xs) (sorted_more y ys)) = sorted_more (each_more (sym _ _ x) y) (sorted_more xs ys)
  permuted-sorted sym (then p q) xs = permuted-sorted sym q (permuted-sorted sym p xs)

pub permuted-map : {A B : Type 0} (f : A → B) {l m : List A} → Permuted l m → Permuted (map f l) (map f m)
permuted-map f none = none
permuted-map f (keep p) = keep (permuted-map f p)
permuted-map f swap = swap
permuted-map f (then p q) = then (permuted-map f p) (permuted-map f q)
