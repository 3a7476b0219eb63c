-- A row's ranges one after another from one of its sides, and how what is known of the place there moves along them.
use mathlib.Core.Path.{◌≡◌, refl, sym, ap, subst, ◌∙◌}
use mathlib.Core.Logic.{◌⊎◌, inl, inr}
use mathlib.Core.List.{List}
use Prim.Native.Nat.{ℕ, zero, suc, ◌+◌, ◌*◌, ◌-◌}
use native.Mathlib.Omega.{arith}
use Rattle.meaning.specs.Range.{Range, none}
use Rattle.meaning.specs.Grammar.{Symbol, part}
use Rattle.meaning.specs.Giving.{Run, done, more, Stands}
use Rattle.meaning.specs.Decode.{several, symbol_at}
use Rattle.meaning.proofs.Joining.{Join, left, right, next, none-join, join-none, joined→join}
use Rattle.phrase.proofs.Joins.{Proper, Fold, stop, onto}
use Rattle.phrase.proofs.Runs.{stands-proper}
use Rattle.phrase.specs.declared.items.Daughters.{Daughters}
use Rattle.hint.specs.declared.Place.{Place}
use Rattle.hint.specs.declared.steps.Side.{Side}
use Rattle.hint.specs.declared.steps.Side.TheVariants.{Left, Right}
use Rattle.hint.specs.State.{near, far, Agrees, Some, Moves, Knows}
use Rattle.hint.proofs.Moving.{stands-part}

-- p, and then q on the way from a side, are r
abbrev pub Joins : Side → Range → Range → Range → Type 0
Joins Left p q r = Join p q r
Joins Right p q r = Join q p r

-- what holds of either side
none_first : (side : Side) {p q r : Range} → p ≡ none → Joins side p q r → r ≡ q
none_first Left = none-join
none_first Right = join-none

none_after : (side : Side) {p q r : Range} → q ≡ none → Joins side p q r → r ≡ p
none_after Left = join-none
none_after Right = none-join

some-not : {p : Range} → Some p → p ≡ none → ⊥
some-not h e = omega (arith, ap (λ (r : Range). r.from) e, ap (λ (r : Range). r.to) e)

both-some : (side : Side) {p q r : Range} → Some p → Some q → Joins side p q r → Some r × (near side r ≡ near side p) × (far side p ≡ near side q)
both-some Left h k (left e f) = absurd (some-not h e)
both-some Left h k (right e f) = absurd (some-not k e)
both-some Left h k (next e f) = rw f (omega arith, refl, e)
both-some Right h k (left e f) = absurd (some-not k e)
both-some Right h k (right e f) = absurd (some-not h e)
both-some Right h k (next e f) = rw f (omega arith, refl, sym e)

-- n ranges one after another, joined: the first is number n - 1, and the last is number 0
pub data Chain (P : ℕ → Range → Type 0) (J : Range → Range → Range → Type 0) : ℕ → Range → Type 0 where
  nil : {r : Range} → r ≡ none → Chain P J 0 r
  link : {n : ℕ} {p q r : Range} → P n p → Chain P J n q → J p q r → Chain P J (suc n) r

-- f are the parts of daughter k in a chain of n symbols, which starts as the state says
pub record Walk (side : Side) (ws : List ℕ) (symbol : ℕ → Symbol) (d : Daughters) (k n : ℕ) (s : Place) (f : ℕ → Range) : Type 0 where
  pub parts : ℕ → ℕ → Range
  pub knows : Knows d parts
  pub these : parts k ≡ f
  pub range : Range
  pub chain : Chain (λ m p. Stands ws parts (symbol m) p) (Joins side) n range
  pub fits : Some range → Agrees s (near side range)

module _ (side : Side) where
  -- what comes first gives the near end
  starts : {p q r : Range} → Proper q → Some p → Joins side p q r → Some r × (near side r ≡ near side p)
  starts (inl e) h j = let z = none_after side e j in (rw z h, ap (near side) z)
  starts (inr l) h j = let b = both-some side h l j in (b.0, b.1)

  joint-proper : {p q r : Range} → Proper p → Proper q → Joins side p q r → Proper r
  joint-proper (inl e) hq j = rw (none_first side e j) hq
  joint-proper (inr l) hq j = inr (starts hq l j).0

  chain-proper : {P : ℕ → Range → Type 0} → ((m : ℕ) (p : Range) → P m p → Proper p) → {n : ℕ} {r : Range} → Chain P (Joins side) n r → Proper r
  chain-proper proper (nil q) = inl q
  chain-proper proper (link {n = n} {p = p} h c j) = joint-proper (proper n p h) (chain-proper proper c) j

  -- the state moves over what comes first
  over : {p q r : Range} {s s' : Place} → Proper p → Joins side p q r → Moves p (near side p) (far side p) s s' → (Some r → Agrees s (near side r)) → Some q → Agrees s' (near side q)
  over {q = q} {s = s} (inl e) j m f h = let z = none_first side e j in m.empty e (near side q) (subst (λ (r : Range). Agrees s (near side r)) z (f (rw z h)))
  over {s = s} {s' = s'} (inr l) j m f h = let (g, a, b) = both-some side l h j in subst (Agrees s') b (m.full l (subst (Agrees s) a (f g)))

  module _ {ws : List ℕ} {symbol : ℕ → Symbol} {d : Daughters} {k : ℕ} where
    -- over the first symbol
    pub walks : {n : ℕ} {s s' : Place} {f : ℕ → Range} → ((e : ℕ → ℕ → Range) (p : Range) → Knows d e → Stands ws e (symbol n) p → Moves p (near side p) (far side p) s s')
        → Walk side ws symbol d k (suc n) s f → Walk side ws symbol d k n s' f
    walks {n} {s} {s'} {f} m z = go z.chain z.fits
      where
        go : {r : Range} → Chain (λ m p. Stands ws z.parts (symbol m) p) (Joins side) (suc n) r → (Some r → Agrees s (near side r)) → Walk side ws symbol d k n s' f
        go (link {p = p} {q = q} h c j) g = record {
          parts = z.parts;
          knows = z.knows;
          these = z.these;
          range = q;
          chain = c;
          fits = over (stands-proper ws z.parts (symbol n) p h) j (m z.parts p z.knows h) g;
        }

    -- what may be asked of the first symbol, if it is a part of daughter k
    pub asks : {n c : ℕ} {s : Place} {f : ℕ → Range} → symbol n ≡ part k c → Walk side ws symbol d k (suc n) s f → (f c ≡ none) ⊎ Agrees s (near side (f c))
    asks {n} {c} {s} {f} is z = go z.chain z.fits
      where
        go : {r : Range} → Chain (λ m p. Stands ws z.parts (symbol m) p) (Joins side) (suc n) r → (Some r → Agrees s (near side r)) → (f c ≡ none) ⊎ Agrees s (near side (f c))
        go (link {p = p} h ch j) g =
            let e : p ≡ f c = stands-part ws z.parts p is h ∙ ap (λ (f : ℕ → Range). f c) z.these in
            subst (λ (p : Range). (p ≡ none) ⊎ Agrees s (near side p)) e (asked (stands-proper ws z.parts (symbol n) p h) (chain-proper (λ m p. stands-proper ws z.parts (symbol m) p) ch) j g)
          where
            asked : {p q r : Range} → Proper p → Proper q → Joins side p q r → (Some r → Agrees s (near side r)) → (p ≡ none) ⊎ Agrees s (near side p)
            asked (inl e) hq j g = inl e
            asked (inr h) hq j g = let (b, e) = starts hq h j in inr (subst (Agrees s) e (g b))

-- a row's run as a chain from its left end
module _ (t : List ℕ) {P : Symbol → Range → Type 0} where
  pub run-chain : (n place end : ℕ) {r : Range} → place + 3 * n ≡ end → Run P (several n (symbol_at t) (λ p. p + 3) place) r → Chain (λ m p. P (symbol_at t (end - 3 * suc m)) p) (Joins Left) n r
  unfolding several
  run-chain zero place end e (done q) = nil q
  run-chain (suc n) place end e (more {p = p} h d j) =
      let q : place ≡ end - 3 * suc n = omega arith in
      link (subst (λ (a : ℕ). P (symbol_at t a) p) q h) (run-chain n (place + 3) end (omega arith) d) (joined→join j)

  -- and from its right end
  pub fold-chain : (m n end first place : ℕ) {a r : Range} → n + m ≡ end → place ≡ first + 3 * n → Fold P a (several m (symbol_at t) (λ p. p + 3) place) r
      → Chain (λ m p. P (symbol_at t (first + 3 * m)) p) (Joins Right) n a → Chain (λ m p. P (symbol_at t (first + 3 * m)) p) (Joins Right) end r
  unfolding several
  fold-chain zero n end first place {a} {r} e g (stop q) c =
      let z : n ≡ end = omega arith in
      subst (λ (r : Range). Chain (λ m p. P (symbol_at t (first + 3 * m)) p) (Joins Right) end r) (sym q) (subst (λ (n : ℕ). Chain (λ m p. P (symbol_at t (first + 3 * m)) p) (Joins Right) n a) z c)
  fold-chain (suc m) n end first place e g (onto {p = p} h j d) c =
      fold-chain m (suc n) end first (place + 3) (omega arith) (omega arith) d (link (subst (λ (a : ℕ). P (symbol_at t a) p) g h) c j)
