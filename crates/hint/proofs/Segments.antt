-- Which codes are as asked: the tests' answers, and where such codes stand in the order of codes.
use mathlib.Core.Path.{◌≡◌, ap, subst}
use mathlib.Core.Logic.{◌⊎◌, inl, inr}
use mathlib.Core.Bool.{Bool, false}
use Prim.Native.Nat.{ℕ, ◌+◌, ◌*◌, ◌^◌, ◌<◌}
use native.Mathlib.Omega.{arith}
use Rattle.meaning.specs.Range.{Range, none}
use Rattle.store.specs.Set.{key_of, Within}
use Rattle.store.specs.Code.{unpacked, known_of}
use Rattle.phrase.specs.Phrase.{Decides, fails}
use Rattle.hint.specs.declared.Place.{Place}
use Rattle.hint.specs.declared.Place.TheVariants.{At}
use Rattle.hint.specs.declared.Want.{Want}
use Rattle.hint.specs.declared.Wants.{Wants}
use Rattle.hint.specs.Hint.{As, PartMeets, Reaches}
use Rattle.hint.specs.State.{StartAsked}

-- a part that is not empty is as asked at both ends
pub at_ends : (w : Want) (r : Range) → (r ≡ none → ⊥) → PartMeets w r → As w.from r.from × As w.to r.to
at_ends w r f (inl e) = absurd (f e)
at_ends w r f (inr h) = h

-- a test's answer, where it is no
pub no-is : {P : Type 0} {b : Bool} → b ≡ false → (P → ⊥) → Decides P b
no-is e f = rw e (fails f)

-- a start is a digit
start-digit : (c : ℕ) → (unpacked (key_of c)).one.from < 128
unfolding unpacked
start-digit c = omega arith

-- the codes of a category, those of a start of its first part, those of an end of it too, and those where that is empty
module _ (c A : ℕ) (kind : (unpacked (key_of c)).category ≡ A) where
  pub of-category : Within (A * 2 ^ 53) (A * 2 ^ 53 + 2 ^ 53) c
  unfolding unpacked
  of-category = record { above = omega arith; below = omega arith }

  pub of-start : (s : ℕ) → (unpacked (key_of c)).one.from ≡ s
      → Within (A * 2 ^ 53 + s * 2 ^ 46) (A * 2 ^ 53 + s * 2 ^ 46 + 2 ^ 46) c
  unfolding unpacked
  of-start s e = record { above = omega arith; below = omega arith }

  pub of_end : (s e : ℕ) → (unpacked (key_of c)).one.from ≡ s → (unpacked (key_of c)).one.to ≡ e
      → Within (A * 2 ^ 53 + s * 2 ^ 46 + e * 2 ^ 39) (A * 2 ^ 53 + s * 2 ^ 46 + e * 2 ^ 39 + 2 ^ 39) c
  unfolding unpacked
  of_end s e f g = record { above = omega arith; below = omega arith }

  pub of-empty : (unpacked (key_of c)).one ≡ none → Within (A * 2 ^ 53) (A * 2 ^ 53 + 2 ^ 39) c
  unfolding unpacked
  of-empty e =
      let s = ap (λ (r : Range). r.from) e in
      let t = ap (λ (r : Range). r.to) e in
      record { above = omega arith; below = omega arith }

-- the parts of the codes that are reached, by what is asked of the first part
module _ {A first : ℕ} (w : Wants) (is : first ≡ A) where
  abbrev base : ℕ
  base = first * 2 ^ 53

  -- the part that is asked for, where its start is asked for at one place
  met-start : {start : ℕ} → w.one.from ≡ At start → {r : Range} → PartMeets w.one r → (r ≡ none) ⊎ (r.from ≡ start)
  met-start e (inl z) = inl z
  met-start e {r} (inr (a, b)) = inr (subst (λ (p : Place). As p r.from) e a)

  pub reach-all : Reaches A w (record { low = base; high = base + 2 ^ 53; low2 = base + 2 ^ 53; high2 = base + 2 ^ 53 })
  reach-all = record { order = omega arith; inside = λ c k m. inl (rw is (of-category c A k)) }

  pub reach-zero : w.one.from ≡ At 0 → Reaches A w (record { low = base; high = base + 2 ^ 46; low2 = base + 2 ^ 46; high2 = base + 2 ^ 46 })
  reach-zero z = record { order = omega arith; inside = λ c k m. inl (go c k (met-start z m.one)) }
    where
      go : (c : ℕ) → (known_of c).item.category ≡ A → ((unpacked (key_of c)).one ≡ none) ⊎ ((unpacked (key_of c)).one.from ≡ 0) → Within base (base + 2 ^ 46) c
      go c k (inl e) = let b = of-empty c A k e in record { above = omega arith; below = omega arith }
      go c k (inr e) = let b = of-start c A k 0 e in record { above = omega arith; below = omega arith }

  -- the four numbers come with what each is, so that a wrong one is refused for its value
  pub reach-start : {start low high low2 high2 : ℕ} → StartAsked w start
      → (low ≡ base) × (high ≡ base + 2 ^ 39) × (low2 ≡ base + start * 2 ^ 46) × (high2 ≡ base + start * 2 ^ 46 + 2 ^ 46)
      → Reaches A w (record { low = low; high = high; low2 = low2; high2 = high2 })
  reach-start {start} a (p, q, r, s) = rw (p, q, r, s) (record { order = omega (arith, a.low); inside = λ c k m. go c k (met-start a.is m.one) })
    where
      go : (c : ℕ) → (known_of c).item.category ≡ A → ((unpacked (key_of c)).one ≡ none) ⊎ ((unpacked (key_of c)).one.from ≡ start)
          → Within base (base + 2 ^ 39) c ⊎ Within (base + start * 2 ^ 46) (base + start * 2 ^ 46 + 2 ^ 46) c
      go c k (inl e) = inl (rw is (of-empty c A k e))
      go c k (inr e) = inr (rw is (of-start c A k start e))

  pub reach-end : {start end : ℕ} → StartAsked w start → w.one.to ≡ At end
      → Reaches A w (record { low = base; high = base + 2 ^ 39; low2 = base + start * 2 ^ 46 + end * 2 ^ 39; high2 = base + start * 2 ^ 46 + end * 2 ^ 39 + 2 ^ 39 })
  reach-end {start} {end} a t = record { order = omega (arith, a.low); inside = λ c k m. go c k m.one }
    where
      go : (c : ℕ) → (known_of c).item.category ≡ A → PartMeets w.one (unpacked (key_of c)).one
          → Within base (base + 2 ^ 39) c ⊎ Within (base + start * 2 ^ 46 + end * 2 ^ 39) (base + start * 2 ^ 46 + end * 2 ^ 39 + 2 ^ 39) c
      go c k (inl e) = inl (rw is (of-empty c A k e))
      go c k (inr (e, v)) =
          let from = subst (λ (p : Place). As p (unpacked (key_of c)).one.from) a.is e in
          let to = subst (λ (p : Place). As p (unpacked (key_of c)).one.to) t v in
          inr (rw is (of_end c A k start end from to))

  pub reach-empty : ((n : ℕ) → n < 128 → As w.one.from n → ⊥) → Reaches A w (record { low = base; high = base + 2 ^ 39; low2 = base + 2 ^ 39; high2 = base + 2 ^ 39 })
  reach-empty f = record { order = omega arith; inside = λ c k m. inl (go c k m.one) }
    where
      go : (c : ℕ) → (known_of c).item.category ≡ A → PartMeets w.one (unpacked (key_of c)).one → Within base (base + 2 ^ 39) c
      go c k (inl e) = rw is (of-empty c A k e)
      go c k (inr (e, v)) = absurd (f _ (start-digit c) e)
