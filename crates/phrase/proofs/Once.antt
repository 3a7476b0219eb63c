-- Any two results that a contract of this crate allows are equal: its views lose nothing, and its relations have one answer.
use Prim.Native.Nat.{ℕ, zero, suc, ◌<◌}
use mathlib.Core.Path.{◌≡◌, refl, sym, ap, ◌∙◌}
use mathlib.Core.Bool.{Bool}
use mathlib.Core.Option.{Option, none, some as just}
use mathlib.Core.List.{List}
use native.Mathlib.Omega.{arith}
use lib.ListN.{length, get_or}
use lib.Seq.{ext_get_or}
use Rattle.std.specs.Prelude.{Option as CodedOption, Some, None, IfSome, ◌≤◌}
use Rattle.std.specs.Coded.{le_prop}
use mathlib.Core.HLevel.{Σ_prop_path}
use denote.Ref.{Bor}
use Rattle.meaning.specs.Decode.{row_end}
use Rattle.rules.specs.declared.rule.Row.{Row}
use Rattle.meaning.specs.Range.{Item}
use Rattle.meaning.specs.Grammar.{Symbol}
use Rattle.phrase.specs.declared.ranges.Range.{Range as Coded}
use Rattle.phrase.specs.declared.items.Item.{Item as CodedItem}
use Rattle.phrase.specs.declared.items.Daughters.{Daughters}
use Rattle.std.specs.declared.ops.Range.{Range as Starts}
use Rattle.phrase.specs.Phrase.{range_of, join_of, starts_of, item_of, held_of, row_place, RowIs, Decides, holds, fails, Has, Next, found, over, start_of}
use Rattle.phrase.proofs.Runs.{run-once}

-- the structs and enums say no more than what they mean
pub range-once : (p q : Coded) → range_of p ≡ range_of q → p ≡ q
range-once p q e = λ i. record { from = (e i).from; to = (e i).to }

pub starts-once : (p q : Starts ℕ) → starts_of p ≡ starts_of q → p ≡ q
starts-once p q e = λ i. record { start = (e i).first; end = (e i).end }

the : {A : Type 0} {p q : A} → just p ≡ just q → p ≡ q
the e = cc

pub join-once : (r s : CodedOption Coded) → join_of r ≡ join_of s → r ≡ s
join-once (Some p) (Some q) e = ap Some (range-once p q (the e))
join-once (Some p) None e = absurd cc
join-once None (Some q) e = absurd cc
join-once None None e = refl

-- an array of six numbers is its three ranges
pub item-once : (x y : CodedItem) → length x.ends ≡ 6 → length y.ends ≡ 6 → item_of x ≡ item_of y → x.height ≡ y.height → x ≡ y
unfolding item_of
item-once x y l k e h =
    let f = ext_get_or 0 x.ends y.ends (l ∙ sym k) (λ i b. each i (omega arith)) in
    λ i. record { category = (e i).category; height = h i; ends = f i }
  where
    each : (i : ℕ) → i < 6 → get_or x.ends i 0 ≡ get_or y.ends i 0
    each zero b = ap (λ (r : Item). r.one.from) e
    each (suc zero) b = ap (λ (r : Item). r.one.to) e
    each (suc (suc zero)) b = ap (λ (r : Item). r.two.from) e
    each (suc (suc (suc zero))) b = ap (λ (r : Item). r.two.to) e
    each (suc (suc (suc (suc zero)))) b = ap (λ (r : Item). r.three.from) e
    each (suc (suc (suc (suc (suc zero))))) b = ap (λ (r : Item). r.three.to) e
    each (suc (suc (suc (suc (suc (suc i)))))) b = absurd (omega arith)

-- the relations have one answer
pub decides-once : {P : Type 0} {a b : Bool} → Decides P a → Decides P b → a ≡ b
decides-once (holds p) (holds q) = refl
decides-once (holds p) (fails n) = absurd (n p)
decides-once (fails n) (holds p) = absurd (n p)
decides-once (fails n) (fails m) = refl

row-once : (r s : Row) → r.table ≡ s.table → r.at ≡ s.at → r ≡ s
row-once r s e f =
    let P : Bor (List ℕ) × ℕ → Type 0 = λ p. row_end p.0.now p.1 ≤ length p.0.now in
    let u : ◌≡◌ {A = (p : Bor (List ℕ) × ℕ) × P p} ((r.table, r.at), r.inside) ((s.table, s.at), s.inside) = Σ_prop_path {B = P} (λ p. le_prop) (λ i. (e i, f i)) in
    ap (λ (p : (p : Bor (List ℕ) × ℕ) × P p). record { table = p.0.0; at = p.0.1; inside = p.1 }) u

pub row-is-once : {t : List ℕ} {rule i : ℕ} {r s : CodedOption Row} → RowIs t rule i r → RowIs t rule i s → row_place r ≡ row_place s
row-is-once a b = a.there ∙ sym b.there

-- with the table that both are of, two rows are one
pub row-of-once : (table : Bor (List ℕ)) {rule i : ℕ} (r s : CodedOption Row) → RowIs table.now rule i r → RowIs table.now rule i s
    → IfSome r (λ w. w.table ≡ table) → IfSome s (λ w. w.table ≡ table) → r ≡ s
row-of-once table (Some r) (Some s) a b f g = ap Some (row-once r s (f ∙ sym g) (the (row-is-once a b)))
row-of-once table (Some r) None a b f g = let z : just r.at ≡ none = row-is-once a b in cc
row-of-once table None (Some s) a b f g = let z : just s.at ≡ none = row-is-once b a in cc
row-of-once table None None a b f g = refl

module _ {A : Type 0} {key : A → ℕ} {P : A → Type 0} {n : ℕ} (one : (x y : A) → P x → P y → key x ≡ key y → x ≡ y) where
  pub next-once : {o o' : Option A} → Next key P n o → Next key P n o' → o ≡ o'
  next-once (found {x = x} p l m) (found {x = y} q k r) = ap just (one x y p q (omega (arith, m y q k, r x p l)))
  next-once (found {x = x} p l m) (over r) = absurd (omega (arith, r x p))
  next-once (over r) (found {x = x} p l m) = absurd (omega (arith, r x p))
  next-once (over r) (over s) = refl

module _ (ws : List ℕ) (d : Daughters) where
  pub row-next-once : (ss : List Symbol) {n : ℕ} (r s : CodedOption Coded) → Next start_of (Has ws d ss) n (join_of r) → Next start_of (Has ws d ss) n (join_of s) → r ≡ s
  row-next-once ss r s g h = join-once r s (next-once (λ p q a b e. run-once ws (held_of d) a b e) g h)
