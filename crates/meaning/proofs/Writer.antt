-- The tree that a chart holds at a place makes the item there: of every list of entries each of which is given by its function and daughters.
-- Assumes nothing.
use mathlib.Core.Path.{◌≡◌, refl, sym, ap, ◌∙◌}
use mathlib.Core.Option.{some}
use mathlib.Core.List.{List, [], ◌∷◌, ◌++◌, map, foldr, nil≢cons, cons≢nil}
use Prim.Native.Nat.{ℕ, zero, suc, ◌≤◌}
use native.Mathlib.Omega.{arith}
use lib.ListN.{get_elem?, get_or}
use Rattle.meaning.specs.Order.{Each}
use Rattle.meaning.specs.Range.{Item}
use Rattle.meaning.specs.Grammar.{Grammar, Tree, node, Trees, bare, and, levels, most, functions, preorder}
use Rattle.meaning.specs.Giving.{Makes, MakeAll, make_none, make_more}
use Rattle.meaning.specs.Chart.{Known, Entry, tallest, Way, GivenBy, things, knowns}
use Rattle.meaning.specs.TreeWriting.{blank, told}
use Rattle.meaning.proofs.Order.{each_at}
use Rattle.meaning.proofs.Laws.{step}
use Rattle.meaning.proofs.Theory.{at_mem}

at-known : (C : List (Entry Item)) (p : ℕ) {d : Known Item} → get_elem? (knowns C) p ≡ some d → (e : Entry Item) × (get_elem? C p ≡ some e) × (e.known ≡ d)
at-known [] p q = let z : ◌≡◌ {A = ℕ} 0 1 = cc in absurd (omega arith)
at-known (e ∷ C) zero q = (e, refl, cc)
at-known (e ∷ C) (suc p) q = at-known C p q

pub get_d_at : {A : Type 0} (l : List A) (p : ℕ) (d : A) {a : A} → get_elem? l p ≡ some a → get_or l p d ≡ a
get_d_at [] p d q = let z : ◌≡◌ {A = ℕ} 0 1 = cc in absurd (omega arith)
get_d_at (b ∷ l) zero d q = cc
get_d_at (b ∷ l) (suc p) d q = get_d_at l p d q

module _ (G : Grammar) (ws : List ℕ) (C : List (Entry Item)) where
  abbrev pub Told : ℕ → ℕ → Known Item → Type 0
  Told n p e = (t : Tree) × Makes G ws t e.item × (levels t ≡ e.height) × (functions t ≡ told n C p)

  daughters : (n : ℕ) → ((p : ℕ) (e : Entry Item) → get_elem? C p ≡ some e → e.known.height ≤ n → Told n p e.known)
      → (ps : List ℕ) (ds : List (Known Item)) → map (get_elem? (knowns C)) ps ≡ map some ds → tallest ds ≤ n
      → (ts : Trees) × MakeAll G ws ts (things ds) × (most ts ≡ tallest ds) × (preorder ts ≡ foldr (λ q l. told n C q ++ l) [] ps)
  unfolding levels functions tallest
  daughters n rec [] [] q h = (bare, make_none, refl, refl)
  daughters n rec [] (d ∷ ds) q h = absurd (nil≢cons q)
  daughters n rec (p ∷ ps) [] q h = absurd (cons≢nil q)
  daughters n rec (p ∷ ps) (d ∷ ds) q h = go (at-known C p {d = d} (cc)) (daughters n rec ps ds (cc) (omega arith))
    where
      go : (e : Entry Item) × (get_elem? C p ≡ some e) × (e.known ≡ d)
          → (ts : Trees) × MakeAll G ws ts (things ds) × (most ts ≡ tallest ds) × (preorder ts ≡ foldr (λ q l. told n C q ++ l) [] ps)
          → (ts : Trees) × MakeAll G ws ts (d.item ∷ things ds) × (most ts ≡ tallest (d ∷ ds)) × (preorder ts ≡ foldr (λ q l. told n C q ++ l) [] (p ∷ ps))
      go (e, a, k) (ts, ms, l, f) = let (t, m, i, g) = rw k at (rec p e a (rw k (omega arith))) in (and t ts, make_more m ms, cc, cc)

  pub written : Each (λ e. Way (GivenBy G ws) (knowns C) e.known e.function e.places) C
      → (n p : ℕ) (e : Entry Item) → get_elem? C p ≡ some e → e.known.height ≤ n → Told n p e.known
  unfolding GivenBy levels functions told
  written ways zero p e a h = let w = each_at ways (at_mem C p a) in absurd (omega (arith, w.high))
  written ways (suc n) p e a h =
      let w = each_at ways (at_mem C p a) in
      let (r, q, g) = w.given in
      let (ts, ms, l, f) = daughters n (written ways n) e.places w.daughters w.found (omega (arith, w.high)) in
      (node r ts, step g ms, ap suc l ∙ sym w.high, rw (get_d_at C p blank a) (cc))
