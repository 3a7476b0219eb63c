-- Keys are items: what is true in a sentence of at most 64 words packs, and the two laws of giving hold of keys.
use mathlib.Core.Path.{◌≡◌, refl, ap, sym, ◌∙◌}
use mathlib.Core.Logic.{inl, inr}
use mathlib.Core.List.{List, [], ◌∷◌, map, Memᴰ as Mem}
use Prim.Native.Nat.{ℕ, suc, ◌<◌, ◌≤◌}
use native.Mathlib.Omega.{arith}
use lib.ListN.{length}
use Rattle.meaning.specs.Order.{Each, each_none, each_more}
use Rattle.meaning.specs.Range.{Range, IsRange, Item}
use Rattle.meaning.specs.Grammar.{Rule, Tree, Of, of}
use Rattle.meaning.specs.Chart.{Known, things, tallest, Made, GivenBy}
use Rattle.meaning.specs.Table.{got, number, check_table}
use Rattle.meaning.specs.Decode.{rule_at, rule_end, first_rule, grammar_of}
use Rattle.meaning.proofs.Theory.{Deduction}
use Rattle.meaning.proofs.Charts.{deduction}
use Rattle.meaning.proofs.Ends.{fine-table}
use Rattle.meaning.proofs.Decoded.{valid-grammar, several-mem}
use Rattle.store.specs.Code.{unpacked, packed, Small}
use Rattle.store.proofs.Packing.{unpack-pack}
use Rattle.search.specs.Keys.{KeyMade, KeyGiven}

-- a rule's category is a number from 1 to 64
pub category-in : (t : List ℕ) → check_table t ≡ got tt → {r : Rule} → Mem r (grammar_of t).rules → (1 ≤ r.category) × (r.category ≤ 64)
unfolding grammar_of rule_at
category-in t e m =
    let (i, h, q) = several-mem (rule_at t) (rule_end t) (number t 7) (first_rule t) m in
    let v = fine-table t e in
    let f = v.rules i h in
    (rw q f.low, rw q (omega (arith, f.high, v.categories.1)))

range_small : (ws : List ℕ) {r : Range} → length ws ≤ 64 → IsRange ws r → (r.from < 128) × (r.to < 128)
range_small ws h (inl e) = rw e (omega arith, omega arith)
range_small ws h (inr (l, k)) = (omega arith, omega arith)

module _ (t ws : List ℕ) (e : check_table t ≡ got tt) (short : length ws ≤ 64) where
  pub made-category : (y : Item) (m : ℕ) → Made (grammar_of t) ws y m → (1 ≤ y.category) × (y.category ≤ 64)
  unfolding Made
  made-category y m (u, k, l) = go k.kind
    where
      go : {u : Tree} → Of (grammar_of t) u y.category → (1 ≤ y.category) × (y.category ≤ 64)
      go (of m q o) = rw q (category-in t e m)

  pub made-small : (y : Item) (m : ℕ) → Made (grammar_of t) ws y m → Small y
  unfolding Made
  made-small y m (u, k, l) =
      let c = made-category y m (u, k, l) in
      let a = range_small ws short (k.spans 0).range in
      let b = range_small ws short (k.spans 1).range in
      let d = range_small ws short (k.spans 2).range in
      record { category = omega arith; from₁ = a.0; to₁ = a.1; from₂ = b.0; to₂ = b.1; from₃ = d.0; to₃ = d.1 }

  -- as items, and as keys
  as_items : List (Known ℕ) → List (Known Item)
  as_items ds = map (λ (d : Known ℕ). record { item = unpacked d.item; height = d.height }) ds

  items-things : (ds : List (Known ℕ)) → things (as_items ds) ≡ map unpacked (things ds)
  unfolding as_items
  items-things [] = refl
  items-things (d ∷ ds) = ap (λ (l : List Item). unpacked d.item ∷ l) (items-things ds)

  items-tallest : (ds : List (Known ℕ)) → tallest (as_items ds) ≡ tallest ds
  unfolding as_items tallest
  items-tallest [] = refl
  items-tallest (d ∷ ds) = ap (λ (n : ℕ). Prim.Native.Nat.max d.height n) (items-tallest ds)

  items-made : {ds : List (Known ℕ)} → Each (λ d. KeyMade t ws d.item d.height) ds → Each (λ d. Made (grammar_of t) ws d.item d.height) (as_items ds)
  unfolding as_items KeyMade
  items-made each_none = each_none
  items-made (each_more m ms) = each_more m (items-made ms)

  as-keys : (ds : List (Known Item)) → Each (λ d. Made (grammar_of t) ws d.item d.height) ds
      → (ks : List (Known ℕ)) × Each (λ k. KeyMade t ws k.item k.height) ks × (map unpacked (things ks) ≡ things ds) × (tallest ks ≡ tallest ds)
  unfolding KeyMade tallest
  as-keys [] ms = ([], each_none, refl, refl)
  as-keys (d ∷ ds) (each_more m ms) =
      let (ks, ns, p, q) = as-keys ds ms in
      let u = unpack-pack d.item (made-small d.item d.height m) in
      let k : Known ℕ = record { item = packed d.item; height = d.height } in
      let n : Made (grammar_of t) ws (unpacked (packed d.item)) d.height = rw u m in
      (k ∷ ks, each_more {a = k} n ns, cc, cc)

  pub key-deduction : Deduction (KeyMade t ws) (KeyGiven t ws)
  unfolding KeyMade KeyGiven
  key-deduction = record { up = up; down = down }
    where
      D : Deduction (Made (grammar_of t) ws) (GivenBy (grammar_of t) ws)
      D = deduction (grammar_of t) ws (valid-grammar t e)

      up : (f : ℕ) (ds : List (Known ℕ)) (x : ℕ) → KeyGiven t ws f (things ds) x → Each (λ d. KeyMade t ws d.item d.height) ds → KeyMade t ws x (suc (tallest ds))
      up f ds x g ms = rw (items-tallest ds) at (D.up f (as_items ds) (unpacked x) (rw (items-things ds) g) (items-made ms))

      down : (x m : ℕ) → KeyMade t ws x m → (f : ℕ) × (ds : List (Known ℕ)) × Each (λ d. KeyMade t ws d.item d.height) ds × KeyGiven t ws f (things ds) x × (m ≡ suc (tallest ds))
      down x m y =
          let (f, ds, ms, g, q) = D.down (unpacked x) m y in
          let (ks, ns, p, h) = as-keys ds ms in
          (f, ks, ns, rw p g, q ∙ ap suc (sym h))
