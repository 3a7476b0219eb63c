-- Joining as a relation: the three ways in which two ranges join, and that `joined` says no more and no less.
use mathlib.Core.Path.{◌≡◌, refl, sym, ap, ◌∙◌}
use mathlib.Core.Bool.{Bool, true, false, cond}
use mathlib.Core.Option.{Option, none as apart, some as just, none-ne-some}
use lib.Dec.{T, eqb, eqb→eq, eqb_refl}
use Rattle.meaning.specs.Range.{Range, none, is_none, joined}
use Rattle.meaning.proofs.Tests.{both}

pub range-path : {p q : Range} → p.from ≡ q.from → p.to ≡ q.to → p ≡ q
range-path e f = λ i. record { from = e i; to = f i }

-- p and q, side by side in this order, are r
pub data Join (p q r : Range) : Type 0 where
  left : p ≡ none → r ≡ q → Join p q r
  right : q ≡ none → r ≡ p → Join p q r
  next : p.to ≡ q.from → r ≡ record { from = p.from; to = q.to } → Join p q r

pub is_none→ : {p : Range} → T (is_none p) → p ≡ none
is_none→ {p} t = let (u, v) = both (eqb p.from 0) (eqb p.to 0) t in range-path (eqb→eq p.from 0 u) (eqb→eq p.to 0 v)

pub →is_none : {p : Range} → p ≡ none → T (is_none p)
→is_none e = rw e tt

-- a pair that meets is one of the two where the other is empty
pub meet_left : {p q r : Range} → p ≡ none → p.to ≡ q.from → r ≡ record { from = p.from; to = q.to } → r ≡ q
meet_left {q = q} e g h = h ∙ range-path {q = q} (cc) refl

pub meet_right : {p q r : Range} → q ≡ none → p.to ≡ q.from → r ≡ record { from = p.from; to = q.to } → r ≡ p
meet_right {p = p} e g h = h ∙ range-path {q = p} refl (cc)

pub none-join : {p q r : Range} → p ≡ none → Join p q r → r ≡ q
none-join h (left e f) = f
none-join h (right e f) = f ∙ h ∙ sym e
none-join h (next e f) = meet_left h e f

pub join-none : {p q r : Range} → q ≡ none → Join p q r → r ≡ p
join-none h (left e f) = f ∙ h ∙ sym e
join-none h (right e f) = f
join-none h (next e f) = meet_right h e f

abbrev joint : Range → Range → Bool → Bool → Bool → Option Range
joint p q a b c = cond a (just q) (cond b (just p) (cond c (just (record { from = p.from; to = q.to })) apart))

module _ {p q : Range} where
  to : (a b c : Bool) {r : Range} → (T a → p ≡ none) → (p ≡ none → T a) → (T b → q ≡ none) → (q ≡ none → T b) → (p.to ≡ q.from → T c)
      → Join p q r → joint p q a b c ≡ just r
  to true b c f f' g g' h j = ap just (sym (none-join (f tt) j))
  to false true c f f' g g' h j = ap just (sym (join-none (g tt) j))
  to false false c f f' g g' h (left e k) = absurd (f' e)
  to false false c f f' g g' h (right e k) = absurd (g' e)
  to false false true f f' g g' h (next e k) = ap just (sym k)
  to false false false f f' g g' h (next e k) = absurd (h e)

  pub join→joined : {r : Range} → Join p q r → joined p q ≡ just r
  unfolding joined
  join→joined = to (is_none p) (is_none q) (eqb p.to q.from) is_none→ →is_none is_none→ →is_none (λ e. rw e (eqb_refl q.from))

  from : (a b c : Bool) {r : Range} → (T a → p ≡ none) → (T b → q ≡ none) → (T c → p.to ≡ q.from) → joint p q a b c ≡ just r → Join p q r
  from true b c f g h e = left (f tt) (cc)
  from false true c f g h e = right (g tt) (cc)
  from false false true {r} f g h e = let z : r ≡ record { from = p.from; to = q.to } = cc in next (h tt) z
  from false false false {r} f g h e = absurd (none-ne-some r e)

  pub joined→join : {r : Range} → joined p q ≡ just r → Join p q r
  unfolding joined
  joined→join = from (is_none p) (is_none q) (eqb p.to q.from) is_none→ is_none→ (eqb→eq p.to q.from)
