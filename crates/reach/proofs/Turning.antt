-- One turn of a row over sets of places: by which bits of the new set the turn is exact.
use mathlib.Core.Path.{◌≡◌, refl, sym, ap, ◌∙◌, subst}
use mathlib.Core.Logic.{◌⊎◌, inl, inr}
use mathlib.Core.Bool.{true}
use Prim.Native.Nat.{ℕ, suc, ◌-◌}
use native.Mathlib.Omega.{arith}
use Rattle.meaning.specs.Range.{Range, none}
use Rattle.meaning.proofs.Joining.{Join, left, right, next, range-path, none-join, join→joined, joined→join}
use Rattle.phrase.proofs.Joins.{Proper}
use Rattle.reach.specs.Bits.{Bit}
use Rattle.reach.specs.declared.places.Places.{Places}
use Rattle.reach.specs.Reach.{Holds, unmoved, moved, Onto, Turns}

-- the range from a to b
abbrev pub span : ℕ → ℕ → Range
span a b = record { from = a; to = b }

-- where an end comes from: from a place, from the start, or it stays where the symbol is empty
pub data Source (P : Range → Type 0) (s : ℕ) (p : Places) (j : ℕ) : Type 0 where
  from_place : (i : ℕ) → Bit p.ends i → P (span (suc i) (suc j)) → Source P s p j
  from_start : p.still ≡ true → P (span s (suc j)) → Source P s p j
  stays : Bit p.ends j → P none → Source P s p j

pub record Bits (P : Range → Type 0) (s : ℕ) (p q : Places) : Type 0 where
  pub sound : (j : ℕ) → Bit q.ends j → Source P s p j
  pub whole : (j : ℕ) → Source P s p j → Bit q.ends j
  pub stood : q.still ≡ true → (p.still ≡ true) × P none
  pub stands : p.still ≡ true → P none → q.still ≡ true

abbrev to_of : Range → ℕ
to_of r = r.to

abbrev from_of : Range → ℕ
from_of r = r.from

module _ {P : Range → Type 0} (proper : (r : Range) → P r → Proper r) {s : ℕ} {p q : Places} (b : Bits P s p q) where
  source : (r : Range) (i : ℕ) → r.from ≡ s → r.to ≡ suc i → Source P s p i → Onto P s p r
  source r i f t (from_place k c h) = record {
    before = span s (suc k);
    next = span (suc k) (suc i);
    held = moved refl k refl c;
    stands = h;
    joins = join→joined (next refl (range-path f t));
    starts = inr f;
  }
  source r i f t (from_start o h) = record {
    before = none;
    next = span s (suc i);
    held = unmoved refl o;
    stands = h;
    joins = join→joined (left refl (range-path f t));
    starts = inr f;
  }
  source r i f t (stays c h) = record {
    before = r;
    next = none;
    held = moved f i t c;
    stands = h;
    joins = join→joined (right refl refl);
    starts = inr f;
  }

  sound : (r : Range) → Holds q s r → Onto P s p r
  sound r (unmoved e t) = let (o, h) = b.stood t in record {
    before = none;
    next = none;
    held = unmoved refl o;
    stands = h;
    joins = join→joined (left refl e);
    starts = inl e;
  }
  sound r (moved f i t c) = source r i f t (b.sound i c)

  from_nothing : (r : Range) → p.still ≡ true → P r → Proper r → (r ≡ none) ⊎ (r.from ≡ s) → Holds q s r
  from_nothing r o h (inl e) k = unmoved e (b.stands o (subst P e h))
  from_nothing r o h (inr l) (inl e) = unmoved e (b.stands o (subst P e h))
  from_nothing r o h (inr l) (inr f) =
      let t : r.to ≡ suc (r.to - 1) = omega arith in
      let g : r ≡ span s (suc (r.to - 1)) = range-path f t in
      moved f (r.to - 1) t (b.whole (r.to - 1) (from_start o (subst P g h)))

  from-there : (a d r : Range) (i : ℕ) → a.from ≡ s → a.to ≡ suc i → Bit p.ends i → P d → Proper d → Join a d r → Holds q s r
  from-there a d r i f t c h k (left e g) = absurd (omega (arith, t, ap to_of e))
  from-there a d r i f t c h k (right e g) = moved (ap from_of g ∙ f) i (ap to_of g ∙ t) (b.whole i (stays c (subst P e h)))
  from-there a d r i f t c h (inl e) (next m g) = absurd (omega (arith, t, m, ap from_of e))
  from-there a d r i f t c h (inr l) (next m g) =
      let u : d.to ≡ suc (d.to - 1) = omega arith in
      let v : d ≡ span (suc i) (suc (d.to - 1)) = range-path (sym m ∙ t) u in
      moved (ap from_of g ∙ f) (d.to - 1) (ap to_of g ∙ u) (b.whole (d.to - 1) (from_place i c (subst P v h)))

  go : {r : Range} (o : Onto P s p r) → Holds p s o.before → Holds q s r
  go {r} o (unmoved e t) =
      let g : r ≡ o.next = none-join e (joined→join o.joins) in
      from_nothing r t (subst P (sym g) o.stands) (proper r (subst P (sym g) o.stands)) o.starts
  go {r} o (moved f i t c) = from-there o.before o.next r i f t c o.stands (proper o.next o.stands) (joined→join o.joins)

  pub turns : Turns P s p q
  turns = record { sound = sound; whole = λ r o. go o o.held }
