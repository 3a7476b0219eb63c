-- One turn of the speaking loops: a row is found, a symbol is said, and what is still to be written.
use mathlib.Core.Path.{◌≡◌, refl, sym, ap, ◌∙◌, subst}
use mathlib.Core.List.{List, [], ◌∷◌, ◌++◌}
use Prim.Native.Nat.{ℕ, zero, suc, ◌+◌, ◌-◌, ◌*◌, ◌≤◌, ◌<◌}
use native.Mathlib.Omega.{arith}
use native.Mathlib.Decide.{dec_lt}
use borrow.Author.Tests.{eq-eqb, ne_eqb}
use lib.ListN.{length, get_or, drop, set, length-append, length-drop, get_or-eq_default}
use lib.Seq.{sets}
use Rattle.meaning.specs.Table.{byte, number}
use Rattle.sentence.specs.Nodes.{daughter}
use Rattle.sentence.specs.Speech.{heard, run, row_place, spelled, below, Spoke}
use Rattle.sentence.proofs.Places.{taken-most}

-- the place of a row stays within reach of the table: past its end a row is one byte long
pub row-bound :
    (t : List ℕ) (at left c b : ℕ) → b ≡ byte t at → b < 256 → at + left ≤ length t + 800 + c → left ≤ c → 0 < left
    → at + 1 + 3 * b + (left - 1) ≤ length t + 800 + c
row-bound t at left c b q r h l p = go (dec_lt at (length t))
  where
    go : Dec (at < length t) → at + 1 + 3 * b + (left - 1) ≤ length t + 800 + c
    go (yes x) = omega arith
    go (no x) = let z = get_or-eq_default t 0 {n = at} (omega arith) in omega arith

sets-append : (l : List ℕ) (i : ℕ) (a b : List ℕ) → sets l i (a ++ b) ≡ sets (sets l i a) (i + length a) b
sets-append l i [] b = let e : i ≡ i + 0 = omega arith in ap (λ (n : ℕ). sets l n b) e
sets-append l i (x ∷ a) b =
    let e : suc i + length a ≡ i + suc (length a) = omega arith in
    sets-append (set l i x) (suc i) a b ∙ ap (λ (n : ℕ). sets (sets (set l i x) (suc i) a) n b) e

module _ (t : List ℕ) (say : ℕ → ℕ → List ℕ) where
  pub run-turn : (n place : ℕ) → 0 < n → run t say n place ≡ heard t say place ++ run t say (n - 1) (place + 3)
  unfolding run
  run-turn zero place h = absurd (omega arith)
  run-turn (suc n) place h = let e : n ≡ suc n - 1 = omega arith in ap (λ (m : ℕ). heard t say place ++ run t say m (place + 3)) e

  pub run_none : (n place : ℕ) → n ≡ 0 → run t say n place ≡ []
  unfolding run
  run_none n place e = rw e

  pub heard-fits : (m place next b : ℕ) → 0 < m → next + length (run t say m place) ≤ b → next + length (heard t say place) ≤ b
  heard-fits m place next b h l =
      let e : length (run t say m place) ≡ length (heard t say place) + length (run t say (m - 1) (place + 3))
      = ap length (run-turn m place h) ∙ length-append (heard t say place) (run t say (m - 1) (place + 3)) in
      omega arith

-- ws from pos on are to be written; what is still to be written of them is vs, from next on
pub record Still (ws before : List ℕ) (pos : ℕ) (vs now : List ℕ) (next : ℕ) : Type 0 where
  pub length : pos + lib.ListN.length ws ≡ next + lib.ListN.length vs
  pub text : sets before pos ws ≡ sets now next vs

pub began : {ws vs : List ℕ} (before : List ℕ) (pos : ℕ) → ws ≡ vs → Still ws before pos vs before pos
began {ws} {vs} before pos e = subst (λ (v : List ℕ). Still ws before pos v before pos) e (record { length = refl; text = refl })

pub one_on :
    {ws before : List ℕ} {pos : ℕ} {vs now : List ℕ} {next : ℕ} (a b later : List ℕ) (r : ℕ) → Still ws before pos vs now next → vs ≡ a ++ b
    → Spoke a now next later r → Still ws before pos b later r
one_on {ws} {before} {pos} {vs} {now} {next} a b later r s e p =
    let l : lib.ListN.length vs ≡ lib.ListN.length a + lib.ListN.length b = ap lib.ListN.length e ∙ length-append a b in
    let k = s.length in
    let n = p.next in
    record {
      length = omega arith;
      text = s.text ∙ ap (λ (v : List ℕ). sets now next v) e ∙ sets-append now next a b ∙ rw (p.text, p.next);
    }

pub spoke : {ws before : List ℕ} {pos : ℕ} {vs now : List ℕ} {next : ℕ} → Still ws before pos vs now next → vs ≡ [] → Spoke ws before pos now next
spoke {ws} {before} {pos} {vs} {now} {next} s e =
    let l : lib.ListN.length vs ≡ 0 = ap lib.ListN.length e in
    record { next = omega (arith, s.length); text = sym (s.text ∙ ap (λ (v : List ℕ). sets now next v) e) }

pub word-spoke : {ws before after : List ℕ} {pos r : ℕ} (w : ℕ) → ws ≡ w ∷ [] → after ≡ set before pos w → r ≡ pos + 1 → Spoke ws before pos after r
word-spoke {ws} {before} {after} {pos} {r} w e f g =
    let l : length ws ≡ 1 = ap length e in
    record { next = omega arith; text = f ∙ sym (ap (λ (v : List ℕ). sets before pos v) e) }

pub spoke-same : {ws vs before after : List ℕ} {pos r : ℕ} → ws ≡ vs → Spoke vs before pos after r → Spoke ws before pos after r
spoke-same {before = before} {after = after} {pos = pos} {r = r} e s = subst (λ (v : List ℕ). Spoke v before pos after r) (sym e) s

module _ (t ns : List ℕ) where
  pub spelled_none : (n at c : ℕ) → n ≡ 0 → spelled t ns n at c ≡ []
  unfolding spelled
  spelled_none n at c e = rw e

  pub spelled-row :
      (n at c row m first : ℕ) → 0 < n → row ≡ row_place t (get_or ns at 0) c → m ≡ byte t row → first ≡ row + 1
      → spelled t ns n at c ≡ run t (below t ns (n - 1) at) m first
  unfolding spelled
  spelled-row zero at c row m first h e f g = absurd (omega arith)
  spelled-row (suc n) at c row m first h e f g =
      let k : n ≡ suc n - 1 = omega arith in
      rw (f, g, e) (ap (λ (j : ℕ). run t (below t ns j at) (byte t (row_place t (get_or ns at 0) c)) (row_place t (get_or ns at 0) c + 1)) k)

  pub heard-word : (n at place : ℕ) → byte t place ≡ 0 → heard t (below t ns n at) place ≡ number t (place + 1) ∷ []
  heard-word n at place e = rw (eq-eqb (byte t place) 0 e)

  pub heard-part :
      (n at place k d e : ℕ) → (byte t place ≡ 0 → ⊥) → k ≡ byte t place - 1 → d ≡ daughter t ns at k → e ≡ number t (place + 1) - 1
      → heard t (below t ns n at) place ≡ spelled t ns n d e
  heard-part n at place k d e z f g h = rw (ne_eqb (byte t place) 0 z, h, g, f)

  pub daughter-most : (n at k d : ℕ) → d ≡ daughter t ns at k → length ns ≤ 255 → n < 255 → at + n < 510 → d + n ≤ 510
  daughter-most n at k d e f g h = let m = taken-most t (drop (at + 1) ns) k in let l = length-drop (at + 1) ns in omega arith
