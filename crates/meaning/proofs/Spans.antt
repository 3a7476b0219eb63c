-- The words of a range: ranges that join say one after the other what each says, and what is said in two parts is split into two ranges that join.
-- Assumes nothing.
use mathlib.Core.Path.{◌≡◌, refl, sym, ap, ◌∙◌}
use mathlib.Core.Logic.{inl, inr}
use mathlib.Core.List.{List, [], ◌∷◌, ◌++◌, append-nil}
use Prim.Native.Nat.{ℕ, zero, suc, ◌+◌, ◌≤◌, ◌<◌}
use native.Mathlib.Omega.{arith}
use lib.ListN.{length, get_or, take, drop, take-append-drop, length-append}
use lib.Seq.{slice, slice-cons, slice_empty, take-take, length-slice, take_at, drop_at}
use Rattle.meaning.specs.Range.{Range, none, IsRange, Spans}
use Rattle.meaning.proofs.Joining.{Join, left, right, next, range-path}

pub slice-join : (s m e : ℕ) (ws : List ℕ) → s ≤ m → m ≤ e → slice s m ws ++ slice m e ws ≡ slice s e ws
slice-join zero m e ws h k = rw (← take-take m e ws k) (take-append-drop m (take e ws))
slice-join (suc s) zero e ws h k = absurd (omega arith)
slice-join (suc s) (suc m) zero ws h k = absurd (omega arith)
slice-join (suc s) (suc m) (suc e) [] h k = refl
slice-join (suc s) (suc m) (suc e) (x ∷ ws) h k = slice-join s m e ws (omega arith) (omega arith)

append_inj : (a b c d : List ℕ) → length a ≡ length c → a ++ b ≡ c ++ d → (a ≡ c) × (b ≡ d)
append_inj a b c d h e = (
  sym (take_at a b (length a) refl) ∙ ap (take (length a)) e ∙ take_at c d (length a) (sym h),
  sym (drop_at a b (length a) refl) ∙ ap (drop (length a)) e ∙ drop_at c d (length a) (sym h),
)

module _ {ws : List ℕ} where
  pub spans-none : Spans ws none []
  spans-none = record { range = inl refl; words = refl }

  -- what a range's numbers are
  pub measure : {r : Range} {c : List ℕ} → Spans ws r c → (r.to ≤ length ws) × (r.from + length c ≡ r.to)
  measure {r} {c} h = go h.range
    where
      go : IsRange ws r → (r.to ≤ length ws) × (r.from + length c ≡ r.to)
      go (inl e) = rw (← h.words, e) (omega arith)
      go (inr (l, k)) = (k, omega (arith, length-slice r.from r.to ws k, ap length h.words))

  pub spans-nil : {r : Range} → Spans ws r [] → r ≡ none
  spans-nil {r} h = go h.range
    where
      go : IsRange ws r → r ≡ none
      go (inl e) = e
      go (inr o) = absurd (omega (arith, measure h))

  said-none : {p : Range} {c : List ℕ} → p ≡ none → Spans ws p c → c ≡ []
  said-none e h = sym h.words ∙ ap (λ (r : Range). slice r.from r.to ws) e

  pub join : {p q r : Range} {c d : List ℕ} → Spans ws p c → Spans ws q d → Join p q r → Spans ws r (c ++ d)
  join f g (left e h) = rw (h, said-none e f) g
  join f g (right e h) = rw (h, said-none e g, append-nil) f
  join {p} {q} {r} {c} {d} f g (next e h) = go f.range g.range
    where
      go : IsRange ws p → IsRange ws q → Spans ws r (c ++ d)
      go (inl a) b = rw (h ∙ range-path {q = q} (cc) refl, said-none a f) g
      go (inr a) (inl b) = rw (h ∙ range-path {q = p} refl (cc), said-none b g, append-nil) f
      go (inr a) (inr b) = rw h (record {
        range = inr (omega arith);
        words = sym (slice-join p.from p.to q.to ws (omega arith) (omega arith)) ∙ rw (f.words, e, g.words);
      })

  pub split : {r : Range} (c d : List ℕ) → Spans ws r (c ++ d) → (p : Range) × (q : Range) × Spans ws p c × Spans ws q d × Join p q r
  split {r} [] d h = (none, r, spans-none, h, left refl refl)
  split {r} (x ∷ c) [] h = (r, none, rw append-nil at h, spans-none, right refl refl)
  split {r} (x ∷ c) (y ∷ d) h =
      let m : ℕ = r.from + length (x ∷ c) in
      let k : r.from + (suc (length c) + suc (length d)) ≡ r.to = rw length-append at (measure h).1 in
      let l : r.to ≤ length ws = (measure h).0 in
      let w = append_inj (slice r.from m ws) (slice m r.to ws) (x ∷ c) (y ∷ d)
      (length-slice r.from m ws (omega arith) ∙ omega arith)
      (slice-join r.from m r.to ws (omega arith) (omega arith) ∙ h.words) in (
        record { from = r.from; to = m },
        record { from = m; to = r.to },
        record { range = inr (omega arith); words = w.0 },
        record { range = inr (omega arith); words = w.1 },
        next refl refl,
      )

  -- the range of one word
  pub one_word : {p w : ℕ} → p < length ws → get_or ws p 0 ≡ w → Spans ws (record { from = p; to = suc p }) (w ∷ [])
  one_word {p} h e = record { range = inr (omega arith); words = slice-cons p (suc p) ws 0 (omega arith) (omega arith) ∙ rw (e, slice_empty) }

  pub word_at : {p : Range} {w : ℕ} → Spans ws p (w ∷ []) → (p.from < length ws) × (p.to ≡ suc p.from) × (get_or ws p.from 0 ≡ w)
  word_at {p} {w} h =
      let m = measure h in
      let s = slice-cons p.from p.to ws 0 (omega arith) (omega arith) in
      (omega arith, omega arith, cc h.words)
