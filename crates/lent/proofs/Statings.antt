-- What the code's items and daughters are in a lent chart: what the records state, its daughters and their greatest height.
use Prim.Native.Nat.{ℕ, zero, suc, ◌+◌, ◌≤◌, ◌<◌, max, min}
use mathlib.Core.Path.{◌≡◌, refl, sym, ap, ◌∙◌, subst}
use mathlib.Core.List.{List, [], ◌∷◌, map}
use native.Mathlib.Omega.{arith}
use native.Mathlib.Decide.{dec_lt}
use denote.Param.Members.{Mut}
use lib.ListN.{get_or, take}
use lib.Seq.{take-nil}
use Rattle.meaning.specs.Range.{Item}
use Rattle.meaning.specs.Chart.{Known, tallest, things}
use Rattle.meaning.specs.Decode.{several}
use Rattle.meaning.specs.TreeWriting.{stated_at}
use Rattle.phrase.specs.declared.items.Daughters.{Daughters}
use Rattle.phrase.specs.Phrase.{item_of, items_of}
use Rattle.std.specs.Prelude.{Option as Optional}
use Rattle.std.proofs.lemmas.List.{take-map}
use Rattle.std.specs.Option.{unwrap_or}
use Rattle.std.specs.List.{fold, reduce}
use Rattle.std.specs.Fn.{Called}
use Rattle.std.specs.Array.{IsFromFnResultFrom, IsFromFnResult}
use Rattle.lent.specs.Lent.{known_of, knowns_of, number_at, numbers_at, daughters_at}

-- the numbers that a closure makes one after another, as `h` does
from-each : (F : Type 0) (g : Mut F (ℕ × Unit {0}) ℕ) (h : ℕ → ℕ) (f : F) → ((i y : ℕ) (q : F) → Called g f (i, tt) y q → (q ≡ f) × (y ≡ h i))
    → (ys : List ℕ) (i n : ℕ) → IsFromFnResultFrom g f ys i n → (k d : ℕ) → i ≤ k → k < i + n → get_or ys k d ≡ h k
from-each F g h f one ys i zero m k d l b = absurd (omega arith)
from-each F g h f one ys i (suc n) (q, y, e, s, m) k d l b =
    let (p, v) = one i y q s in
    go v (λ c. from-each F g h f one ys (i + 1) n (subst (λ (r : F). IsFromFnResultFrom g r ys (i + 1) n) p m) k d (omega arith) (omega arith)) (dec_lt i k)
  where
    go : y ≡ h i → (i < k → get_or ys k d ≡ h k) → Dec (i < k) → get_or ys k d ≡ h k
    go v next (yes c) = next c
    go v next (no c) = let w : k ≡ i = omega arith in rw w (e.1 d ∙ v)

pub made-each : {F : Type 0} (g : Mut F (ℕ × Unit {0}) ℕ) (h : ℕ → ℕ) (f : F) → ((i y : ℕ) (q : F) → Called g f (i, tt) y q → (q ≡ f) × (y ≡ h i))
    → (ys : List ℕ) (n : ℕ) → IsFromFnResult g f ys n → (k : ℕ) → k < n → get_or ys k 0 ≡ h k
made-each g h f one ys n r k b = from-each _ g h f one ys 0 n r.each k 0 (omega arith) (omega arith)

-- the eight numbers of a record that state an item
pub stated-is : (c : List ℕ) (i : ℕ) {a h : ℕ} (ends : List ℕ) → a ≡ number_at c i 0 → h ≡ number_at c i 2 → ((k : ℕ) → k < 6 → get_or ends k 0 ≡ number_at c i (3 + k))
    → known_of (record { category = a; height = h; ends = ends }) ≡ stated_at c i
unfolding stated_at known_of item_of
stated-is c i ends e f g = λ t. record {
  item = record {
    category = e t;
    one = record { from = g 0 (omega arith) t; to = g 1 (omega arith) t };
    two = record { from = g 2 (omega arith) t; to = g 3 (omega arith) t };
    three = record { from = g 4 (omega arith) t; to = g 5 (omega arith) t };
  };
  height = f t;
}

-- the daughters' items
pub items-are : (d : Daughters) → things (knowns_of d) ≡ items_of d
unfolding knowns_of items_of known_of
items-are d = sym (take-map (λ (k : Known Item). k.item) d.count _)

-- daughters whose items are stated at the three places
pub daughters-are : (c : List ℕ) (i : ℕ) (d : Daughters)
    → known_of d.one ≡ stated_at c (number_at c i 9) → known_of d.two ≡ stated_at c (number_at c i 10) → known_of d.three ≡ stated_at c (number_at c i 11)
    → knowns_of d ≡ daughters_at c i d.count
unfolding knowns_of daughters_at several
daughters-are c i d e f g = rw (e, f, g) (take-map (stated_at c) d.count (numbers_at c i 3 9))

-- the greatest height
height_of : Known Item → ℕ
height_of k = k.height

highest : (a : ℕ) (ks : List (Known Item)) → fold max a (map height_of ks) ≡ max a (tallest ks)
unfolding tallest height_of
highest a [] = omega arith
highest a (k ∷ ks) = highest (max a k.height) ks ∙ omega arith

highest-of : (ks : List (Known Item)) → unwrap_or (reduce max (map height_of ks)) 0 ≡ tallest ks
unfolding tallest height_of
highest-of [] = refl
highest-of (k ∷ ks) = highest k.height ks

three-heights : (n a b c : ℕ) → take (min n 3) (a ∷ b ∷ c ∷ []) ≡ take n (a ∷ b ∷ c ∷ [])
three-heights zero a b c = refl
three-heights (suc zero) a b c = refl
three-heights (suc (suc zero)) a b c = refl
three-heights (suc (suc (suc n))) a b c = let e : min (suc (suc (suc n))) 3 ≡ 3 = omega arith in rw (e, take-nil {A = ℕ} n)

pub tallest-is : (d : Daughters) (n : ℕ) (o : Optional ℕ) → n ≡ min d.count 3 → o ≡ reduce max (take n (d.one.height ∷ d.two.height ∷ d.three.height ∷ [])) → unwrap_or o 0 ≡ tallest (knowns_of d)
unfolding knowns_of known_of height_of
tallest-is d n o e f =
    rw (f, e, three-heights d.count d.one.height d.two.height d.three.height)
    (ap (λ (l : List ℕ). unwrap_or (reduce max l) 0) (take-map height_of d.count _) ∙ highest-of (knowns_of d))
