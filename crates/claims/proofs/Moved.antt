-- A rule's bytes say the same wherever they stand. Where u has from q on the bytes that t has from p up to e, and the same dimensions, a rule
-- of t that ends before e is decoded from u as the same rule (`rule-same`), and if it was read from t without a refusal so it is from u
-- (`rule_moved`).
use Prim.Native.Nat.{ℕ, ◌≤◌}
use mathlib.Core.Path.{◌≡◌, sym, ap, ◌∙◌}
use mathlib.Core.Bool.{false}
use mathlib.Core.List.{List, ◌∷◌}
use native.Mathlib.Omega.{arith}
use Rattle.meaning.specs.Table.{got, member, byte, number, category_of, dimension_of, rule}
use Rattle.meaning.specs.Decode.{past, row_end, rows_of, rule_at, rule_end}
use Rattle.meaning.proofs.Functions.{joins}
use Rattle.meaning.proofs.Places.{past-grows, row_is, rows_are, row-grows, rule-grows}
use Rattle.claims.proofs.Alike.{alike-got}
use Rattle.meaning.proofs.Moved.{At, at_more, body_same}
use Rattle.claims.proofs.Windows.{Window, SameTop, RowRoom, RuleRoom, number_same, rule-alike}

module _ {t u : List ℕ} {p q e : ℕ} (w : Window t u p q e) where
  module _ (S : SameTop t u) where
    pub rule-same : {at at' : ℕ} → At p q at at' → 1 ≤ category_of t at → category_of t at ≤ byte t 5 → rule_end t at ≤ e
        → (rule_at t at ≡ rule_at u at') × At p q (rule_end t at) (rule_end u at')
    unfolding rule_at rule_end
    rule-same {at} {at'} a low high h =
        let b = body_same w.copied (at_more 2 a) (λ k. S.dims (category_of t at) low high ∙ ap (dimension_of u) k) h in
        let m = past-grows (dimension_of t (category_of t at)) (row_end t) (row-grows t) (rows_of t at) in
        let function = number_same w a (omega (arith, rows_are t at)) in
        (λ i. record { function = function i; category = b.category i; daughters = b.daughters i; rows = b.rows i }, b.end)

    -- rows and rules that end before e have room
    rows-room : RowRoom t e (λ n at. past n (row_end t) at ≤ e)
    unfolding past
    rows-room = record {
      one = λ n at h. omega (arith, past-grows n (row_end t) (row-grows t) (row_end t at), row_is t at);
      end = λ n at h _. omega (arith, past-grows n (row_end t) (row-grows t) (row_end t at));
      rest = λ n at h _. h;
    }

    rule-room : {at : ℕ} → rule_end t at ≤ e → RuleRoom t e (λ n at. past n (row_end t) at ≤ e) at
    unfolding rule_end
    rule-room {at} h = record {
      head = omega (arith, rule-grows t at);
      body = λ _ _ _. (omega (arith, past-grows (dimension_of t (category_of t at)) (row_end t) (row-grows t) (rows_of t at)), h);
    }

    pub rule_moved : (es es' : List ℕ) {at at' : ℕ} (s : ℕ × List ℕ) → At p q at at' → rule t (at, es) ≡ got s → rule_end t at ≤ e → member (number t at) es' ≡ false
        → rule u (at', es') ≡ got (rule_end u at', number t at ∷ es')
    rule_moved es es' {at} {at'} s a r h n =
        let (o, j) = joins t (at, es) s r in
        let (b, z) = alike-got (λ _ _. Unit {0}) (rule-alike w (λ _ _. Unit {0}) (λ f x y b. tt) S rows-room (at, es) (at', es') a (rule-room h) (o ∙ sym n)) r in
        z ∙ ap got ((joins u (at', es') b z).1 ∙ ap (λ f. (rule_end u at', f ∷ es')) (sym (number_same w a (omega (arith, rule-grows t at)))))
