-- The nodes of a record's tree: its function, and then the trees of its daughters, one after another (`nodes-are`, `nodes-more`). More levels
-- than a record's height tell no other tree (`told_same`).
use mathlib.Core.Path.{◌≡◌, refl, sym, ap, ◌∙◌}
use mathlib.Core.List.{List, [], ◌∷◌, ◌++◌, append_assoc, append-nil}
use Prim.Native.Nat.{ℕ, zero, suc, ◌+◌, ◌-◌, ◌≤◌, ◌<◌}
use native.Mathlib.Omega.{arith}
use lib.ListN.{length, get_or, take, drop, take-append-drop}
use native.Mathlib.Numerals.{add-one}
use lib.Seq.{take-suc, take_all}
use Rattle.meaning.specs.Decode.{grammar_of}
use Rattle.meaning.specs.Range.{Item}
use Rattle.meaning.specs.Chart.{Entry}
use Rattle.meaning.specs.TreeWriting.{stated_at, entry_at, lent, told, nodes}
use Rattle.tree.specs.Writing.{rank, function_at, height_at, place_at, Falling, trees}
use Rattle.tree.proofs.Records.{lent_at, stated-height, entry-function, places-many, place_is}

-- trees one after another
trees-append : (n : ℕ) (C : List (Entry Item)) (ps qs : List ℕ) → trees n C (ps ++ qs) ≡ trees n C ps ++ trees n C qs
trees-append n C [] qs = refl
trees-append n C (p ∷ ps) qs = rw (trees-append n C ps qs, append_assoc)

-- one daughter more
trees-more : (n : ℕ) (C : List (Entry Item)) (ps : List ℕ) (k : ℕ) → k < length ps → trees n C (take (k + 1) ps) ≡ trees n C (take k ps) ++ told n C (get_or ps k 0)
trees-more n C ps k h = rw (add-one, take-suc ps k 0 h, trees-append n C (take k ps) (get_or ps k 0 ∷ []), append-nil (told n C (get_or ps k 0)))

trees-same : (n m : ℕ) (C : List (Entry Item)) (ps : List ℕ) → ((k : ℕ) → k < length ps → told n C (get_or ps k 0) ≡ told m C (get_or ps k 0)) → trees n C ps ≡ trees m C ps
trees-same n m C [] h = refl
trees-same n m C (p ∷ ps) h = rw (h 0 (omega arith), trees-same n m C ps (λ k l. h (suc k) (omega arith)))

-- the places of a record's daughters, the trees of the first k of them, and of the others
abbrev places_at : List ℕ → List ℕ → ℕ → List ℕ
places_at t c i = (entry_at (grammar_of t) c i).places

abbrev pub first_trees : List ℕ → List ℕ → ℕ → ℕ → ℕ → List ℕ
first_trees t c count i k = trees (height_at c i - 1) (lent (grammar_of t) c count) (take k (places_at t c i))

abbrev pub last_trees : List ℕ → List ℕ → ℕ → ℕ → ℕ → List ℕ
last_trees t c count i k = trees (height_at c i - 1) (lent (grammar_of t) c count) (drop k (places_at t c i))

module _ (t c : List ℕ) (count : ℕ) (falls : Falling t c count) where
  abbrev C : List (Entry Item)
  C = lent (grammar_of t) c count

  length-places : (i : ℕ) → i < count → length (places_at t c i) ≡ rank t (function_at c i)
  length-places i h = places-many (grammar_of t) c i (omega (arith, falls.size)) (falls.three i h)

  place_at_lem : (i k : ℕ) → i < count → k < rank t (function_at c i) → get_or (places_at t c i) k 0 ≡ place_at c i k
  place_at_lem i k h l = place_is (grammar_of t) c i (omega (arith, falls.size)) (falls.three i h) k l

  -- a node and then its daughters
  told_at : (n i : ℕ) → i < count → told (suc n) C i ≡ function_at c i ∷ trees n C (places_at t c i)
  unfolding told
  told_at n i h = rw (lent_at (grammar_of t) c count i h, entry-function (grammar_of t) c i)

  pub told_same : (n m i : ℕ) → i < count → height_at c i ≤ n → height_at c i ≤ m → told n C i ≡ told m C i
  told_same zero m i h l k = absurd (omega (arith, falls.high i h))
  told_same (suc n) zero i h l k = absurd (omega (arith, falls.high i h))
  told_same (suc n) (suc m) i h l k =
      told_at n i h
      ∙ ap (λ (l : List ℕ). function_at c i ∷ l) (trees-same n m C (places_at t c i) (λ j b.
      let r : j < rank t (function_at c i) = omega (arith, length-places i h) in
      rw (place_at_lem i j h r) (told_same n m (place_at c i j) (falls.below i j h r) (omega (arith, falls.lower i j h r)) (omega (arith, falls.lower i j h r)))))
      ∙ sym (told_at m i h)

  pub nodes-are : (i k : ℕ) → i < count → rank t (function_at c i) ≤ k → nodes (grammar_of t) c count i ≡ function_at c i ∷ first_trees t c count i k
  unfolding nodes
  nodes-are i k h l =
      let n : (stated_at c i).height ≡ suc (height_at c i - 1) = omega (arith, stated-height c i, falls.high i h) in
      let a : take k (places_at t c i) ≡ places_at t c i = take_all k (places_at t c i) (omega (arith, length-places i h)) in
      ap (λ (m : ℕ). told m C i) n ∙ told_at (height_at c i - 1) i h ∙ ap (λ (ps : List ℕ). function_at c i ∷ trees (height_at c i - 1) C ps) (sym a)

  -- the trees of the first k daughters, and of the others
  pub nodes-rest : (i k : ℕ) → i < count → nodes (grammar_of t) c count i ≡ function_at c i ∷ (first_trees t c count i k ++ last_trees t c count i k)
  unfolding nodes
  nodes-rest i k h =
      let n : (stated_at c i).height ≡ suc (height_at c i - 1) = omega (arith, stated-height c i, falls.high i h) in
      ap (λ (m : ℕ). told m C i) n ∙ told_at (height_at c i - 1) i h
      ∙ ap (λ (ps : List ℕ). function_at c i ∷ trees (height_at c i - 1) C ps) (sym (take-append-drop k (places_at t c i)))
      ∙ ap (λ (l : List ℕ). function_at c i ∷ l) (trees-append (height_at c i - 1) C (take k (places_at t c i)) (drop k (places_at t c i)))

  pub nodes-more : (i k : ℕ) → i < count → k < rank t (function_at c i) → first_trees t c count i (k + 1) ≡ first_trees t c count i k ++ nodes (grammar_of t) c count (place_at c i k)
  unfolding nodes
  nodes-more i k h l =
      let q : place_at c i k < count = falls.below i k h l in
      let e = told_same (height_at c i - 1) (stated_at c (place_at c i k)).height (place_at c i k) q (omega (arith, falls.lower i k h l)) (omega (arith, stated-height c (place_at c i k))) in
      let d = place_at_lem i k h l in
      trees-more (height_at c i - 1) C (places_at t c i) k (omega (arith, length-places i h))
      ∙ ap (λ (l : List ℕ). first_trees t c count i k ++ l) (ap (told (height_at c i - 1) C) d ∙ e)
