-- The goal among the items: where its key stands among the codes, it stands in the chart.
use mathlib.Core.Path.{◌≡◌, refl, sym, ap, ◌∙◌}
use mathlib.Core.Option.{some as just}
use mathlib.Core.List.{List, [], ◌∷◌, map}
use Prim.Native.Nat.{ℕ, zero, suc, ◌<◌, ◌≤◌}
use native.Mathlib.Omega.{arith}
use lib.ListN.{length, get_or, get_elem?}
use Rattle.meaning.specs.Range.{Item}
use Rattle.meaning.specs.Table.{got, byte, check_table}
use Rattle.meaning.specs.Decode.{grammar_of}
use Rattle.meaning.specs.Chart.{Entry, knowns}
use Rattle.meaning.specs.Reading.{goal, Verdict, yes_at, no_goal}
use Rattle.meaning.proofs.Ends.{fine-table}
use Rattle.meaning.proofs.Theory.{map-mem}
use Rattle.std.specs.Prelude.{Some, None}
use Rattle.store.specs.Set.{key_of, PlacedAt, at_first, nowhere}
use Rattle.store.specs.Code.{unpacked, packed, Small, known_of}
use Rattle.store.proofs.Packing.{unpack-pack, pack-unpack}
use Rattle.search.proofs.Whole.{thing, same-items}
use Rattle.reader.specs.Answers.{goal_key, Judged, stands, stands_not}

pub start_small : (t : List ℕ) → check_table t ≡ got tt → byte t 6 ≤ 64
start_small t e = let f = fine-table t e in omega (arith, f.start.1, f.categories.1)

get_elem_map : {A B : Type 0} (f : A → B) (l : List A) (p : ℕ) (d : A) → p < length l → get_elem? (map f l) p ≡ just (f (get_or l p d))
get_elem_map f [] p d h = absurd (omega arith)
get_elem_map f (x ∷ l) zero d h = refl
get_elem_map f (x ∷ l) (suc p) d h = get_elem_map f l p d (omega arith)

-- what the search for the goal's key found
pub goal-there : {x key place : ℕ} {K : List ℕ} → key ≡ x → PlacedAt key K (Some place) → Judged x K 0 place (length K)
goal-there q (at_first h k f) = stands h (k ∙ q) refl

pub goal-nowhere : {x key : ℕ} {K : List ℕ} → key ≡ x → PlacedAt key K None → Judged x K 1 0 (length K)
goal-nowhere q (nowhere lacks) = stands_not (λ h. lacks (rw q h)) refl

pub judged-count : (x : ℕ) {K : List ℕ} {code place count : ℕ} → Judged x K code place count → count ≡ length K
judged-count x (stands h k n) = n
judged-count x (stands_not lacks n) = n

module _ (t ws : List ℕ) (e : check_table t ≡ got tt) (short : length ws ≤ 64) where
  goal-key : packed (goal (grammar_of t) ws) ≡ goal_key (byte t 6) (length ws)
  unfolding packed grammar_of
  goal-key = omega arith

  goal-small : Small (goal (grammar_of t) ws)
  unfolding grammar_of
  goal-small = record {
    category = omega (arith, start_small t e);
    from₁ = omega arith;
    to₁ = omega arith;
    from₂ = omega arith;
    to₂ = omega arith;
    from₃ = omega arith;
    to₃ = omega arith;
  }

  goal-thing : (c : ℕ) → key_of c ≡ goal_key (byte t 6) (length ws) → thing c ≡ goal (grammar_of t) ws
  goal-thing c k = ap unpacked (k ∙ sym goal-key) ∙ unpack-pack (goal (grammar_of t) ws) goal-small

  -- the answer over the codes is the answer over the chart
  pub judged-verdict : (E : List (Entry Item)) (K : List ℕ) → knowns E ≡ map known_of K → {code place count : ℕ}
      → Judged (goal_key (byte t 6) (length ws)) K code place count → Verdict (grammar_of t) ws E code place
  judged-verdict E K q (stands {p = p} h k n) =
      yes_at (ap (λ (l : List Item). get_elem? l p) (same-items E K q) ∙ get_elem_map thing K p 0 h ∙ ap just (goal-thing (get_or K p 0) k))
  judged-verdict E K q (stands_not {n = n} lacks m) = no_goal (λ i.
      let (c, j, g) = map-mem thing K (rw (same-items E K q) at i) in
      lacks (record { code = c; there = j; is = sym (pack-unpack (key_of c)) ∙ ap packed (sym g) ∙ goal-key }))
