-- What is asked of a daughter leaves out only what gives nothing: its height, and then each row.
use mathlib.Core.Path.{◌≡◌, refl, sym, ap, subst, ◌∙◌}
use mathlib.Core.Logic.{inl, inr}
use mathlib.Core.List.{List, [], ◌∷◌}
use Prim.Native.Nat.{ℕ, zero, suc, ◌-◌, ◌≤◌, ◌<◌}
use native.Mathlib.Omega.{arith}
use native.Mathlib.Decide.{dec_lt}
use lib.ListN.{length, get_or, length-map, get_or-map, get_or-eq_default, length-take}
use lib.Seq.{get_or-take}
use Rattle.std.specs.List.{range_with_len, AllWithin}
use Rattle.std.proofs.Common.{zero-add}
use Rattle.std.proofs.lemmas.List.FromFn.{get_or-range_with_len}
use Rattle.meaning.specs.Range.{Range, Item, nothing, at}
use Rattle.meaning.specs.Giving.{held}
use Rattle.meaning.specs.Chart.{Known, item, things, tallest}
use Rattle.phrase.specs.declared.items.Item.{Item as CodedItem}
use Rattle.phrase.specs.declared.items.Daughters.{Daughters}
use Rattle.phrase.specs.Phrase.{item_of, items_of, row_of}
use Rattle.hint.specs.declared.Place.TheVariants.{Any}
use Rattle.hint.specs.declared.Wants.{Wants}
use Rattle.hint.specs.Hint.{seat, Open, unknown, Partial, Completes, Asks}
use Rattle.hint.specs.State.{Knows, Sharper, Ways, Wanted, Low, LeastAsked}

-- the greatest height of some items, and that of the item at a place
pub below-tallest : (ks : List (Known Item)) (k : ℕ) → (get_or ks k unknown).height ≤ tallest ks
unfolding tallest
below-tallest [] k = omega arith
below-tallest (x ∷ ks) zero = omega arith
below-tallest (x ∷ ks) (suc k) = let h = below-tallest ks k in omega arith

tallest-below : (ks : List (Known Item)) (b : ℕ) → 0 < b → ((j : ℕ) → j < length ks → (get_or ks j unknown).height < b) → tallest ks < b
unfolding tallest
tallest-below [] b l h = l
tallest-below (x ∷ ks) b l h =
    let g : x.height < b = h 0 (omega arith) in
    let t = tallest-below ks b l (λ j m. h (suc j) (omega arith)) in
    omega arith

-- where all others are lower than the greatest height, this one has it
tallest-at : (ks : List (Known Item)) (b k : ℕ) → b ≡ tallest ks → ((j : ℕ) → j < length ks → (j ≡ k → ⊥) → (get_or ks j unknown).height < b) → b ≤ (get_or ks k unknown).height
unfolding tallest
tallest-at [] b k e h = omega arith
tallest-at (x ∷ ks) zero k e h = omega arith
tallest-at (x ∷ ks) (suc b) zero e h =
    let t = tallest-below ks (suc b) (omega arith) (λ j m. h (suc j) (omega arith) (λ z. absurd (omega arith))) in
    omega arith
tallest-at (x ∷ ks) (suc b) (suc k) e h =
    let g : x.height < suc b = h 0 (omega arith) (λ z. absurd (omega arith)) in
    tallest-at ks (suc b) k (omega arith) (λ j m f. h (suc j) (omega arith) (λ z. f (omega arith)))

-- daughters that complete those that are chosen have their constituents
three-seats : (d : Daughters) (k : ℕ) → k < 3 → get_or (item_of d.one ∷ item_of d.two ∷ item_of d.three ∷ []) k nothing ≡ item_of (seat d k)
three-seats d zero h = refl
three-seats d (suc zero) h = refl
three-seats d (suc (suc zero)) h = refl
three-seats d (suc (suc (suc k))) h = absurd (omega arith)

seat-item : (d : Daughters) → d.count ≤ 3 → (k : ℕ) → k < d.count → get_or (items_of d) k nothing ≡ item_of (seat d k)
unfolding items_of
seat-item d few k h = get_or-take d.count _ k nothing h ∙ three-seats d k (omega arith)

no-seat : (d : Daughters) (k : ℕ) → d.count ≤ k → get_or (items_of d) k nothing ≡ nothing
unfolding items_of
no-seat d k h =
    get_or-eq_default (items_of d) nothing {n = k} (omega (arith, length-take d.count (item_of d.one ∷ item_of d.two ∷ item_of d.three ∷ [])))

module _ {d : Daughters} (few : d.count ≤ 3) {full : List (Known Item)} (co : Completes d full) where
  thing : (k : ℕ) → get_or (things full) k nothing ≡ (get_or full k unknown).item
  thing k = get_or-map item full k unknown

  same_item : (k : ℕ) → (Open d k → ⊥) → get_or (things full) k nothing ≡ get_or (items_of d) k nothing
  same_item k o = go (dec_lt k d.count)
    where
      go : Dec (k < d.count) → get_or (things full) k nothing ≡ get_or (items_of d) k nothing
      go (yes l) = thing k ∙ ap item (co.keeps k l o) ∙ sym (seat-item d few k l)
      go (no l) =
          get_or-eq_default (things full) nothing {n = k} (omega (arith, length-map full item, co.size)) ∙ sym (no-seat d k (omega arith))

  pub completes-knows : Knows d (held (things full))
  completes-knows k c o = ap (λ (x : Item). at x c) (same_item k o)

  -- where all others are chosen and lower
  others-lower : {high k : ℕ} → ((j : ℕ) → Low d k high j) → (j : ℕ) → j < length full → (j ≡ k → ⊥) → (get_or full j unknown).height < high
  others-lower low j l f =
      let (o, h) = low j (omega (arith, co.size)) f in
      let e = ap (λ (x : Known Item). x.height) (co.keeps j (omega (arith, co.size)) o) in
      omega arith

  pub least-meets : {high k low : ℕ} → LeastAsked d k high low → high ≡ tallest full → low ≤ (get_or full k unknown).height
  least-meets (inl e) t = omega arith
  least-meets {high} {k} (inr (e, lows)) t = omega (arith, tallest-at full high k t (others-lower lows))

-- all three daughters are low
pub three-low : (d : Daughters) (k high : ℕ) → d.count ≤ 3 → AllWithin (Low d k high) (range_with_len 0 3) 0 3 → (j : ℕ) → Low d k high j
three-low d k high few lows j l f = subst (Low d k high) (get_or-range_with_len 0 3 j 0 (omega arith) ∙ zero-add j) (lows j 0 (omega arith) (omega arith)) l f

module _ (t ws : List ℕ) (rule : ℕ) (d : Daughters) (goal : CodedItem) (k : ℕ) (p : Partial d) where
  -- at first only the height is asked
  pub asks-first : {low high : ℕ} → LeastAsked d k high low → high ≡ goal.height - 1
      → Asks t ws rule d goal k (record { low = low; high = high; one = record { from = Any; to = Any }; two = record { from = Any; to = Any }; three = record { from = Any; to = Any } })
  asks-first {low} {high} l e full x co gv =
      let h : high ≡ tallest full = omega (arith, gv.high) in
      record {
        low = least-meets p.few co l h;
        high = omega (arith, below-tallest full k);
        one = inr (tt, tt);
        two = inr (tt, tt);
        three = inr (tt, tt);
      }

  -- then what each row asks
  pub asks-more : {w w' : Wants} (i : ℕ) → Sharper (Ways ws d k (row_of t rule i) (Wanted goal i)) w w' → Asks t ws rule d goal k w → Asks t ws rule d goal k w'
  asks-more {w} {w'} i more asks full x co gv =
      let m = asks full x co gv in
      let f : ℕ → Range = at (get_or full k unknown).item in
      let way : Ways ws d k (row_of t rule i) (Wanted goal i) f = record {
        parts = held (things full);
        knows = completes-knows p.few co;
        these = ap at (thing p.few co k);
        range = at x i;
        run = gv.gives.rows i;
        fits = λ c. ap (λ (y : Item). at y i) (gv.same c);
      } in
      let q = more.parts f way (record { one = m.one; two = m.two; three = m.three }) in
      record { low = omega (arith, m.low, more.low); high = omega (arith, m.high, more.high); one = q.one; two = q.two; three = q.three }
