-- What is lent after all known codes are entered is exactly what is known: `known-code`, `code-known`; and it is the sentence's: `fair`.
-- Then the rule: some known daughters of one part (`GivesSome`) are some known items (`GivesFrom`).
use mathlib.Core.Path.{◌≡◌, refl, sym, ap, ◌∙◌, subst}
use mathlib.Core.Logic.{◌⊎◌, inl, inr}
use mathlib.Core.List.{List, [], ◌∷◌, Memᴰ as Mem}
use Prim.Native.Nat.{ℕ, zero, suc, ◌+◌, ◌*◌, ◌-◌, ◌≤◌, ◌<◌}
use native.Mathlib.Omega.{arith}
use lib.ListN.{length, get_or, get_or-map}
use Rattle.meaning.specs.Order.{Each, each_none, each_more}
use Rattle.meaning.specs.Range.{Range, none, IsRange, Item, nothing}
use Rattle.meaning.specs.Grammar.{Rule, Grammar, dimension}
use Rattle.meaning.proofs.Joining.{range-path}
use Rattle.reach.specs.Bits.{Bit}
use Rattle.reach.specs.Reach.{Known, empty, words, Fair}
use Rattle.reach.specs.Mirror.{item_at, Marks, with_words, with_none, Entered, Blank, Sensible, HasFirst}
use Rattle.reach.specs.Apart.{single, Partly, GivesSome, GivesFrom}
use Rattle.reach.proofs.Digits.{no-bit}

abbrev to_of : Range → ℕ
to_of r = r.to

abbrev from_of : Range → ℕ
from_of r = r.from

module _ (ws K : List ℕ) (y : Sensible ws K) {a b : List ℕ} (z : Blank a) (x : Entered (λ c. Mem c K) a b) where
  small : (c : ℕ) → Mem c K → (item_at c).one.from < 64
  small c m = go (y.range c m)
    where
      go : IsRange ws (item_at c).one → (item_at c).one.from < 64
      go (inl e) = omega (arith, ap from_of e)
      go (inr l) = omega (arith, y.short)

  -- a bit is a code's
  marked : (n i : ℕ) → Bit (get_or b n 0) i → (c : ℕ) × Mem c K × Marks c n i
  marked n i h = go (x.sound n i h)
    where
      go : Bit (get_or a n 0) i ⊎ ((c : ℕ) × Mem c K × Marks c n i) → (c : ℕ) × Mem c K × Marks c n i
      go (inl k) = absurd (no-bit i (subst (λ (v : ℕ). Bit v i) (z.zero n) k))
      go (inr k) = k

  -- the code's category, start and end are those of the bit
  same_place : (A s c i : ℕ) → 1 ≤ A → s < 64 → Mem c K → Marks c (A * 64 + s) i → ((item_at c).category ≡ A) × ((item_at c).one.from ≡ s) × ((item_at c).one.to ≡ suc i)
  same_place A s c i h l m (with_words p e) = (omega (arith, small c m), omega (arith, small c m), e)
  same_place A s c i h l m (with_none p k e) = absurd (omega arith)

  -- and of number 0 its category, which has the empty phrase
  same_none : (A c : ℕ) → 1 ≤ A → Mem c K → Marks c 0 (A - 1) → ((item_at c).category ≡ A) × ((item_at c).one.to ≡ 0)
  same_none A c h m (with_words p e) = absurd (omega (arith, y.low c m))
  same_none A c h m (with_none p k e) = (omega (arith, y.low c m), e)

  ends-empty : {r : Range} → IsRange ws r → r.to ≡ 0 → r ≡ none
  ends-empty (inl e) t = e
  ends-empty (inr l) t = absurd (omega arith)

  pub known-code : (A : ℕ) (p : Range) → 1 ≤ A → Known b A p → HasFirst K A p
  known-code A p h (empty e f) =
      let (c, m, k) = marked 0 (A - 1) f in
      let (u, v) = same_none A c h m k in
      record { code = c; there = m; kind = u; first = ends-empty (y.range c m) v ∙ sym e }
  known-code A p h (words l i t f) =
      let (c, m, k) = marked (A * 64 + p.from) i f in
      let (u, v, w) = same_place A p.from c i h l m k in
      record { code = c; there = m; kind = u; first = range-path v (w ∙ sym t) }

  pub code-known : (A : ℕ) (p : Range) → HasFirst K A p → Known b A p
  code-known A p w = go (y.range w.code w.there)
    where
      go : IsRange ws (item_at w.code).one → Known b A p
      go (inl e) = empty (sym w.first ∙ e) (x.whole w.code 0 (A - 1) w.there (with_none refl (ap (λ (v : ℕ). v - 1) (sym w.kind)) (ap to_of e)))
      go (inr l) =
          let t : p.to ≡ suc (p.to - 1) = omega (arith, ap to_of w.first) in
          words (omega (arith, ap from_of w.first, y.short)) (p.to - 1) t (x.whole w.code (A * 64 + p.from) (p.to - 1) w.there
          (with_words (omega (arith, w.kind, ap from_of w.first)) (ap to_of w.first ∙ t)))

  real : (A s i : ℕ) → 1 ≤ A → s < 64 → Bit (get_or b (A * 64 + s) 0) i → (s ≤ i) × (i < length ws)
  real A s i o l h = let (c, m, k) = marked (A * 64 + s) i h in go c (same_place A s c i o l m k) (y.range c m)
    where
      go : (c : ℕ) → ((item_at c).category ≡ A) × ((item_at c).one.from ≡ s) × ((item_at c).one.to ≡ suc i) → IsRange ws (item_at c).one → (s ≤ i) × (i < length ws)
      go c (u, v, w) (inl e) = absurd (omega (arith, ap to_of e))
      go c (u, v, w) (inr r) = (omega arith, omega arith)

  pub fair : Fair ws b
  fair = record { short = y.short; upward = record { rises = λ A s i o l h. (real A s i o l h).0 }; within = λ A s i o l h. (real A s i o l h).1 }

each-by : {In : Item → Type 0} (full : List Item) → ((k : ℕ) → k < length full → In (get_or full k nothing)) → Each In full
each-by [] f = each_none
each-by (d ∷ full) f = each_more (f 0 (omega arith)) (each-by full (λ k h. f (suc k) (omega arith)))

by-each : {In : Item → Type 0} {full : List Item} → Each In full → (k : ℕ) → k < length full → In (get_or full k nothing)
by-each each_none k h = absurd (omega arith)
by-each (each_more m ms) zero h = m
by-each (each_more m ms) (suc k) h = by-each ms k (omega arith)

suc-not : {n A : ℕ} → n ≡ suc A → n ≡ 0 → ⊥
suc-not e z = omega arith

-- known items, of which those of a category of one part are their first range
module _ {G : Grammar} {ws : List ℕ} {r : Rule} {In : Item → Type 0} {free : ℕ → ℕ} {ds : List Item} {x : Item} (o : Partly G r free ds)
    (flat : (y : Item) → In y → dimension G y.category ≡ 1 → y ≡ single y.category y.one) where
  pub some-from : ((k : ℕ) → k < length ds → free k ≡ 0 → In (get_or ds k nothing)) → GivesSome G ws r (λ A p. In (single A p)) free ds x → GivesFrom G ws r In free ds x
  some-from known g = record { full = g.full; size = g.fills.size; among = each-by g.full (λ k h. by k (free k) refl h); keeps = g.fills.keeps; gives = g.gives }
    where
      by : (k A : ℕ) → free k ≡ A → k < length g.full → In (get_or g.full k nothing)
      by k zero z h = subst In (sym (g.fills.keeps k z)) (known k (omega (arith, g.fills.size)) z)
      by k (suc A) z h = let (p, m, e) = g.fills.fills k (suc-not z) in subst In (sym e) m

  pub from_some : GivesFrom G ws r In free ds x → GivesSome G ws r (λ A p. In (single A p)) free ds x
  from_some g = record { full = g.full; fills = record { size = g.size; keeps = g.keeps; fills = fills }; gives = g.gives }
    where
      fills : (k : ℕ) → (free k ≡ 0 → ⊥) → (p : Range) × In (single (free k) p) × (get_or g.full k nothing ≡ single (free k) p)
      fills k n =
          let (l, e, d) = o.unchosen k n in
          let m = by-each g.among k (omega (arith, g.size)) in
          let q : (get_or g.full k nothing).category ≡ free k =
          sym (get_or-map (λ (y : Item). y.category) g.full k nothing) ∙ ap (λ (s : List ℕ). get_or s k 0) g.gives.kinds ∙ sym e in
          let f = flat (get_or g.full k nothing) m (ap (dimension G) q ∙ d) ∙ ap (λ (A : ℕ). single A (get_or g.full k nothing).one) q in
          ((get_or g.full k nothing).one, subst In f m, f)
