-- A table is its header and dimensions h and the bytes of its rules. Taken apart, each rule's bytes are a rule after h alone (`rule-taken`); put
-- together again after h, bytes that are rules with different functions are read one after another to the end (`rules-put`).
use Prim.Native.Nat.{ℕ, ◌+◌, ◌≤◌}
use mathlib.Core.Path.{◌≡◌, refl, sym, ap, ap₂, ◌∙◌, subst}
use mathlib.Core.Bool.{false}
use mathlib.Core.List.{List, [], ◌∷◌, ◌++◌, map, flatten, append_assoc, append-nil}
use native.Mathlib.Omega.{arith}
use lib.ListN.{length, length-append, get_or-append}
use lib.Seq.{length-slice, get_or-append-add}
use borrow.Author.Tests.{ne_eqb}
use Rattle.meaning.specs.Table.{got, times, member, byte, rule}
use Rattle.meaning.specs.Order.{Each, each_none, each_more, Sorted, sorted_more}
use Rattle.meaning.specs.Grammar.{Rule}
use Rattle.meaning.specs.Decode.{several, rule_at, rule_end}
use Rattle.meaning.proofs.Order.{each_both}
use Rattle.meaning.proofs.Ends.{rule_end_lem}
use Rattle.meaning.proofs.Passing.{slice_at}
use Rattle.meaning.proofs.Places.{rule-grows}
use Rattle.claims.specs.Reordered.{bytes_at}
use Rattle.meaning.proofs.Moved.{At}
use Rattle.claims.proofs.Windows.{Window, SameTop, same-top}
use Rattle.claims.proofs.Moved.{rule-same, rule_moved}

-- tables with the same beginning
pub front-window : (h x y : List ℕ) → Window (h ++ x) (h ++ y) 0 0 (length h)
front-window h x y = record {
  fits = omega (arith, length-append h x);
  fits' = omega (arith, length-append h y);
  copied = record { bytes = λ i l. get_or-append h x 0 (0 + i) l ∙ sym (get_or-append h y 0 (0 + i) l) };
}

from-here : (p q : ℕ) → At p q p q
from-here p q = record { from = omega arith; level = omega arith }

-- the bytes B are a rule after h: read without a refusal, to the end
pub record Stands (h B : List ℕ) : Type 0 where
  pub state : ℕ × List ℕ
  pub read : rule (h ++ B) (length h, []) ≡ got state
  pub end : rule_end (h ++ B) (length h) ≡ length (h ++ B)

-- the rule that they are
abbrev pub decode : List ℕ → List ℕ → Rule
decode h B = rule_at (h ++ B) (length h)

-- the bytes of the rule of t at a place are a rule after h, and that rule
abbrev pub Taken : List ℕ → List ℕ → ℕ → Type 0
Taken h t at = Stands h (bytes_at t at) × (rule_at t at ≡ decode h (bytes_at t at))

-- the functions of such rules
abbrev pub functions_of : List ℕ → List (List ℕ) → List ℕ
functions_of h bs = map (λ (r : Rule). r.function) (map (decode h) bs)

still-new : (f : ℕ) (es : List ℕ) (g : ℕ) → (f ≡ g → ⊥) → member g es ≡ false → member g (f ∷ es) ≡ false
unfolding member
still-new f es g d m = rw (ne_eqb f g d) m

-- a header with as many dimensions as it says
module _ (h : List ℕ) (full : 9 + byte h 5 ≡ length h) where
  pub front-top : (x y : List ℕ) → SameTop (h ++ x) (h ++ y)
  front-top x y = same-top (front-window h x y) (omega arith) (omega (arith, get_or-append h x 0 5 (omega arith)))

  -- a rule of a table that begins so
  module _ (t x : List ℕ) (begins : t ≡ h ++ x) where
    cut-window : (at : ℕ) → rule_end t at ≤ length t → Window t (h ++ bytes_at t at) at (length h) (rule_end t at)
    cut-window at m =
        let n = length-slice at (rule_end t at) t m in
        let k = length-append h (bytes_at t at) in
        record {
          fits = m;
          fits' = omega (arith, rule-grows t at);
          copied = record { bytes = λ i l. sym (get_or-append-add h (bytes_at t at) i 0 ∙ slice_at at (rule_end t at) t i l) };
        }

    pub rule-taken : (s s' : ℕ × List ℕ) → rule t s ≡ got s' → Taken h t s.0
    unfolding member
    rule-taken s s' r =
        let at : ℕ = s.0 in
        let B : List ℕ = bytes_at t at in
        let f = (rule_end_lem t s s' r).1 in
        let w = cut-window at f.end in
        let S : SameTop t (h ++ B) = subst (λ y. SameTop y (h ++ B)) (sym begins) (front-top x B) in
        let (same, level) = rule-same w S (from-here at (length h)) f.low f.high (omega arith) in
        let n = length-slice at (rule_end t at) t f.end in (
          record {
            state = _;
            read = rule_moved w S s.1 [] s' (from-here at (length h)) r (omega arith) refl;
            end = omega (arith, level.level, level.from, n, length-append h B, rule-grows t at);
          },
          same,
        )

    -- bytes that are a rule, in their place in such a table
    set-window : (B pre rest : List ℕ) → t ≡ pre ++ (B ++ rest) → Window (h ++ B) t (length h) (length pre) (length (h ++ B))
    set-window B pre rest e = record {
      fits = omega arith;
      fits' = omega (arith, length-append h B, ap length e, length-append pre (B ++ rest), length-append B rest);
      copied = record { bytes = λ i l. get_or-append-add h B i 0 ∙ sym (rw e (get_or-append-add pre (B ++ rest) i 0 ∙ get_or-append B rest 0 i (omega (arith, length-append h B)))) };
    }

    rule-put : (B pre rest es : List ℕ) → Stands h B → t ≡ pre ++ (B ++ rest) → member (decode h B).function es ≡ false
        → (rule t (length pre, es) ≡ got (length (pre ++ B), (decode h B).function ∷ es)) × (rule_at t (length pre) ≡ decode h B) × (rule_end t (length pre) ≡ length (pre ++ B))
    unfolding rule_at
    rule-put B pre rest es b e n =
        let f = (rule_end_lem (h ++ B) (length h, []) b.state b.read).1 in
        let w = set-window B pre rest e in
        let S : SameTop (h ++ B) t = subst (SameTop (h ++ B)) (sym begins) (front-top B x) in
        let (same, level) = rule-same w S (from-here (length h) (length pre)) f.low f.high f.end in
        let l : rule_end t (length pre) ≡ length (pre ++ B) = omega (arith, level.level, b.end, length-append h B, length-append pre B) in
        (rw (← l) (rule_moved w S [] es b.state (from-here (length h) (length pre)) b.read f.end n), sym same, l)

    -- the rules that they are, one after another to the end
    pub record Put (bs : List (List ℕ)) (pre es : List ℕ) : Type 0 where
      pub state : ℕ × List ℕ
      pub read : times (length bs) (rule t) (length pre, es) ≡ got state
      pub end : state.0 ≡ length t
      pub rules : several (length bs) (rule_at t) (rule_end t) (length pre) ≡ map (decode h) bs

    pub rules-put : (bs : List (List ℕ)) (pre es : List ℕ) → t ≡ pre ++ flatten bs → Each (Stands h) bs → Sorted (λ f g. f ≡ g → ⊥) (functions_of h bs)
        → Each (λ f. member f es ≡ false) (functions_of h bs) → Put bs pre es
    unfolding flatten times several
    rules-put [] pre es e each_none d m = record { state = (length pre, es); read = refl; end = sym (ap length (e ∙ append-nil pre)); rules = refl }
    rules-put (B ∷ bs) pre es e (each_more b rest) (sorted_more d ds) (each_more m ms) =
        let f : ℕ = (decode h B).function in
        let (read, same, l) = rule-put B pre (flatten bs) es b e m in
        let r = rules-put bs (pre ++ B) (f ∷ es) (e ∙ sym (append_assoc pre B (flatten bs))) rest ds (each_both (still-new f es) d ms) in
        record { state = r.state; read = rw read r.read; end = r.end; rules = ap₂ ◌∷◌ same (rw l r.rules) }
