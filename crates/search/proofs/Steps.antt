-- A level in arrays, and the search's turns.
use mathlib.Core.Path.{◌≡◌, refl, ap, subst, ◌∙◌}
use mathlib.Core.List.{List, [], ◌++◌, Memᴰ as Mem}
use Prim.Native.Nat.{ℕ, ◌+◌, ◌-◌, ◌≤◌}
use native.Mathlib.Omega.{arith}
use lib.ListN.{length, take, drop, length-append, length-drop}
use lib.Seq.{length-take-le, take-take, take_at, take-append-le}
use Rattle.meaning.proofs.Theory.{Deduction}
use Rattle.store.specs.Set.{Sorted, Merged}
use Rattle.std.specs.Prelude.{Some, None}
use Rattle.search.specs.Level.{Adds, Filled, kept, over}
use Rattle.search.specs.Search.{Level, Found, all, full, Begun}
use Rattle.search.proofs.Filling.{fits}
use Rattle.search.proofs.Levels.{exact_none, next_level, ended, apart, too_many}

module _ {Mk : ℕ → ℕ → Type 0} {Gv : ℕ → List ℕ → ℕ → Type 0} (D : Deduction Mk Gv) where
  -- left is how many more there is room for
  module _ {room h k left : ℕ} {b f : List ℕ} (B : Begun Mk room h k b f) (rest : left ≡ room - k) where
    space : length (take left f) ≡ left
    space = length-take-le left f (omega (arith, rest, B.fits_fresh))

    count : length (take k b) ≡ k
    count = length-take-le k b (omega (arith, B.count, B.fits))

    pub level-full : {ys : List ℕ} → Filled (take k b) (h + 1) (Level Gv (take k b) h) (take left f) 0 ys None → Found Mk room b None
    level-full (over E s z o) = full (too_many D B.exact room refl s (omega (arith, rest, space, count, B.count)) o)

    module _ {ys : List ℕ} {m : ℕ} (w : Filled (take k b) (h + 1) (Level Gv (take k b) h) (take left f) 0 ys (Some m)) where
      pub level-fits : m ≤ left
      level-fits = omega (arith, fits w, space)

      adds : Sorted (take m ys) × Adds (take k b) (h + 1) (Level Gv (take k b) h) [] (take m ys)
      adds = go w
        where
          go : {r : ℕ} → Filled (take k b) (h + 1) (Level Gv (take k b) h) (take left f) 0 ys (Some r) → Sorted (take r ys) × Adds (take k b) (h + 1) (Level Gv (take k b) h) [] (take r ys)
          go (kept g s A) = (s, A)

      pub level-done : m ≡ 0 → Found Mk room b (Some k)
      level-done e = all B.count (ended D B.exact (subst (λ (z : ℕ). Adds (take k b) (h + 1) (Level Gv (take k b) h) [] (take z ys)) e adds.1))

      module _ (size : length ys ≡ length (take left f)) where
        fresh-part : take m (ys ++ drop left f) ≡ take m ys
        fresh-part = take-append-le m ys (drop left f) (omega (arith, space, level-fits))

        pub fresh-size : length (take m (ys ++ drop left f)) ≡ m
        fresh-size = ap length fresh-part ∙ length-take-le m ys (omega (arith, space, level-fits))

        known-part : take k (take (k + m) b) ≡ take k b
        known-part = take-take k (k + m) b (omega arith)

        pub whole-size : length (take (k + m) b) ≡ k + m
        whole-size = length-take-le (k + m) b (omega (arith, rest, B.count, B.fits, level-fits))

        pub merge-ready : (length (take (k + m) b) ≡ k + length (take m (ys ++ drop left f))) × Sorted (take k (take (k + m) b)) × Sorted (take m (ys ++ drop left f)) × ((c : ℕ) → Mem c (take m (ys ++ drop left f)) → Mem c (take k (take (k + m) b)) → ⊥)
        merge-ready = (omega (arith, whole-size, fresh-size), rw known-part B.exact.sorted, rw fresh-part adds.0, rw (known-part, fresh-part) (apart D B.exact adds.1.origin))

        pub level-on : (zs : List ℕ) → (m ≡ 0 → ⊥) → length zs ≡ length (take (k + m) b)
            → Merged (take k (take (k + m) b)) (take m (ys ++ drop left f)) zs → Begun Mk room (h + 1) (k + m) (zs ++ drop (k + m) b) (ys ++ drop left f)
        level-on zs some z M =
            let known : take (k + m) (zs ++ drop (k + m) b) ≡ zs = take_at zs (drop (k + m) b) (k + m) (z ∙ whole-size) in
            record {
              exact = rw known (next_level D B.exact refl adds.1 (rw (known-part, fresh-part) at M));
              small = B.small;
              count = omega (arith, rest, B.count, level-fits);
              fits = simp (length-append, length-drop) (omega (arith, z, whole-size, B.fits));
              fits_fresh = simp (length-append, length-drop) (omega (arith, size, space, B.fits_fresh));
              levels = omega (arith, B.levels);
            }

  pub search-begins : {room : ℕ} {b f : List ℕ} → room ≤ 2000 → room ≤ length b → length f ≡ 2000 → Begun Mk room 0 0 b f
  search-begins s g p = record { exact = exact_none D; small = s; count = omega arith; fits = g; fits_fresh = omega arith; levels = omega arith }
