-- Two readings of tables that come out alike: both give values that correspond, or both refuse, with refusals that correspond. What is
-- made of such readings comes out alike too (`alike_next`, `alike-test`, `times-alike`).
use Prim.Native.Nat.{ℕ, zero, suc}
use mathlib.Core.Path.{◌≡◌, refl, ap, subst}
use mathlib.Core.Bool.{Bool, true, false}
use native.Mathlib.Omega.{arith}
use Rattle.meaning.specs.declared.Refusal.{Refusal}
use Rattle.meaning.specs.Table.{Got, got, refused, ◌>>=◌, ◌>>◌, refuse_if, times}
use Rattle.meaning.proofs.Fields.{both, same}

-- two readings: both give values, of which R holds, or both refuse, with refusals of which Q holds
pub data Alike (Q : Refusal → Refusal → Type 0) {A B : Type 0} (R : A → B → Type 0) : Got A → Got B → Type 0 where
  both_got : {a : A} {b : B} → R a b → Alike Q R (got a) (got b)
  both_refused : {r s : Refusal} → Q r s → Alike Q R (refused r) (refused s)

module _ (Q : Refusal → Refusal → Type 0) where
  pub alike_next : {A B C D : Type 0} {R : A → B → Type 0} {S : C → D → Type 0} {x : Got A} {y : Got B} (k : A → Got C) (l : B → Got D)
      → Alike Q R x y → ((a : A) (b : B) → x ≡ got a → R a b → Alike Q S (k a) (l b)) → Alike Q S (x >>= k) (y >>= l)
  alike_next k l (both_got {a = a} {b = b} r) f = f a b refl r
  alike_next k l (both_refused q) f = both_refused q

  pub alike-test : {A B : Type 0} {R : A → B → Type 0} (a b : Bool) {r s : Refusal} {x : Got A} {y : Got B} → a ≡ b → Q r s
      → (a ≡ false → Alike Q R x y) → Alike Q R (refuse_if a r >> x) (refuse_if b s >> y)
  alike-test true true e q k = both_refused q
  alike-test true false e q k = let z : ◌≡◌ {A = ℕ} 0 1 = cc in absurd (omega arith)
  alike-test false true e q k = let z : ◌≡◌ {A = ℕ} 0 1 = cc in absurd (omega arith)
  alike-test false false e q k = k refl

  pub alike-map : {A B : Type 0} {R S : A → B → Type 0} {x : Got A} {y : Got B} → ((a : A) (b : B) → R a b → S a b) → Alike Q R x y → Alike Q S x y
  alike-map f (both_got {a = a} {b = b} r) = both_got (f a b r)
  alike-map f (both_refused q) = both_refused q

  -- what is read from the one is read from the other
  pub alike-got : {A B : Type 0} {R : A → B → Type 0} {x : Got A} {y : Got B} {a : A} → Alike Q R x y → x ≡ got a → (b : B) × (y ≡ got b)
  alike-got (both_got {b = b} r) e = (b, refl)
  alike-got (both_refused q) e = let z : ◌≡◌ {A = ℕ} 0 1 = cc in absurd (omega arith)

  -- the same number of turns, while I says that there is room for them
  pub times-alike : {S T : Type 0} (I : ℕ → S → Type 0) (R : S → T → Type 0) (f : S → Got S) (g : T → Got T)
      → ((n : ℕ) (a : S) (b : T) → I (suc n) a → R a b → Alike Q R (f a) (g b))
      → ((n : ℕ) (a a' : S) → I (suc n) a → f a ≡ got a' → I n a')
      → (n : ℕ) (a : S) (b : T) → I n a → R a b → Alike Q R (times n f a) (times n g b)
  unfolding times
  times-alike I R f g one next zero a b i r = both_got r
  times-alike I R f g one next (suc n) a b i r =
      alike_next (times n f) (times n g) (one n a b i r) (λ a' b' e s. times-alike I R f g one next n a' b' (next n a a' i e) s)

abbrev pub Equal : {A : Type 0} → A → A → Type 0
Equal a b = a ≡ b

-- what is read is alike and the refusals are the same: the readings are the same
pub alike_same : {A : Type 0} {x y : Got A} → Alike Equal Equal x y → x ≡ y
alike_same (both_got e) = ap got e
alike_same (both_refused e) = ap refused e

pub same_alike : {A : Type 0} (x : Got A) {y : Got A} → x ≡ y → Alike Equal Equal x y
same_alike {A} x e = subst (Alike Equal Equal x) e (itself x)
  where
    itself : (x : Got A) → Alike Equal Equal x x
    itself (got a) = both_got refl
    itself (refused r) = both_refused refl

-- what each turn keeps, all keep
pub times-keeps : {S : Type 0} (I : ℕ → S → Type 0) (f : S → Got S) → ((n : ℕ) (a a' : S) → I (suc n) a → f a ≡ got a' → I n a')
    → (n : ℕ) (a a' : S) → I n a → times n f a ≡ got a' → I 0 a'
unfolding times
times-keeps I f next zero a a' i e = subst (I 0) (same e) i
times-keeps I f next (suc n) a a' i e = let b = both (f a) (times n f) a' e in times-keeps I f next n b.0 a' (next n a b.0 i b.1) b.2
