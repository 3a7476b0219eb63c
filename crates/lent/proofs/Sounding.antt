-- When a record of a lent chart is sound: its function is known, it is after its predecessor, and it is a way by its function's rule.
use Prim.Native.Nat.{ℕ, suc, ◌+◌, ◌*◌, ◌/◌, ◌≤◌, ◌<◌}
use mathlib.Core.Path.{◌≡◌, sym, ap, ◌∙◌, subst}
use mathlib.Core.Logic.{inl, inr}
use mathlib.Core.Option.{none, some}
use mathlib.Core.Bool.{Bool}
use mathlib.Core.List.{List, map}
use native.Mathlib.Omega.{arith}
use lib.ListN.{length, get_or, take}
use Rattle.meaning.specs.Order.{Each}
use Rattle.meaning.specs.Range.{Item}
use Rattle.meaning.specs.Grammar.{Rule}
use Rattle.meaning.specs.Giving.{Gives}
use Rattle.meaning.specs.Chart.{Known, tallest, things, GivenBy}
use Rattle.meaning.specs.Table.{got, check_table, byte, rank_of}
use Rattle.meaning.specs.Decode.{rule_at, grammar_of}
use Rattle.meaning.specs.TreeWriting.{named, stated_at, entry_at, Sound, TooMany}
use Rattle.meaning.proofs.Walk.{named-is, found}
use Rattle.meaning.proofs.Decoded.{several-length, valid-grammar}
use Rattle.std.specs.Prelude.{Some, None}
use Rattle.rules.specs.Walk.{Finds, known, unknown}
use Rattle.phrase.specs.Phrase.{RuleOf, Decides}
use Rattle.phrase.proofs.Fit.{instead}
use Rattle.rules.proofs.RuleThere.{fine}
use Rattle.lent.specs.Lent.{number_at, daughters_at, After, WayAt}
use Rattle.lent.proofs.Entries.{places, found_all, found_below, slice_places, each_below, placed_by, shown_by, record-shown, shown-record}

-- what the search for a function's rule finds, for a function number that is equal to the one asked
pub finds-rule : {t : List ℕ} {f p : ℕ} → Finds t f (Some p) → RuleOf t p
finds-rule (known o m) = o

pub finds-named : {t : List ℕ} {f n p : ℕ} → Finds t f (Some p) → f ≡ n → named (grammar_of t).rules n ≡ some (rule_at t p)
finds-named {t} (known o m) q = ap (named (grammar_of t).rules) (sym q) ∙ m

pub finds-none : {t : List ℕ} {f n : ℕ} → Finds t f None → f ≡ n → named (grammar_of t).rules n ≡ none
finds-none {t} (unknown m) q = ap (named (grammar_of t).rules) (sym q) ∙ m

module _ (t ws c : List ℕ) (count i : ℕ) where
  pub order-of : Sound (grammar_of t) ws c count i → After c i
  unfolding After
  order-of s = s.order

  -- what a sound record's function gives
  abbrev Known-by : Sound (grammar_of t) ws c count i → Rule → Type 0
  Known-by s r = (named (grammar_of t).rules (number_at c i 1) ≡ some r) × Gives (grammar_of t) ws r (things s.way.daughters) (stated_at c i).item

  known_by : check_table t ≡ got tt → (s : Sound (grammar_of t) ws c count i) → (r : Rule) × Known-by s r
  unfolding GivenBy entry_at
  known_by e s = let (r, f, g) = s.way.given in (r, (ap (named (grammar_of t).rules) (sym f) ∙ found (valid-grammar t e) r g.known, g))

  pub unknown-no : check_table t ≡ got tt → named (grammar_of t).rules (number_at c i 1) ≡ none → Sound (grammar_of t) ws c count i → ⊥
  unknown-no e n s = let (r, (m, g)) = known_by e s in absurd cc

  -- a record whose function's rule is known
  module _ (rule : ℕ) (o : RuleOf t rule) (n : named (grammar_of t).rules (number_at c i 1) ≡ some (rule_at t rule)) (h : 12 * i + 12 ≤ length c) where
    rank_is : length (rule_at t rule).daughters ≡ rank_of t rule
    unfolding rule_at
    rank_is = several-length (byte t) (λ p. p + 1) (rank_of t rule) (rule + 4)

    places-are : (entry_at (grammar_of t) c i).places ≡ take (rank_of t rule) (places c i)
    unfolding entry_at
    places-are = rw (n, rank_is, slice_places c i h)

    function-is : (rule_at t rule).function ≡ (entry_at (grammar_of t) c i).function
    unfolding entry_at
    function-is = (named-is (grammar_of t).rules (number_at c i 1) n).1

    sound-of : After c i → WayAt t ws c count rule i → Sound (grammar_of t) ws c count i
    unfolding After GivenBy daughters_at
    sound-of a w = record {
      order = a;
      unused = record-shown (grammar_of t) c i h (λ k l. ap (λ (ps : List ℕ). get_or ps k 0) places-are ∙ shown_by c i (rank_of t rule) count w.placed k l);
      way = record {
        daughters = daughters_at c i (rank_of t rule);
        found = rw places-are (found_all (grammar_of t) c count (each_below c i (rank_of t rule) count (fine t rule o).rank w.placed));
        given = (rule_at t rule, function-is, w.given);
        high = w.high;
      };
    }

    way_of : Sound (grammar_of t) ws c count i → WayAt t ws c count rule i
    unfolding daughters_at
    way_of s =
        let (bs, q) = found_below (grammar_of t) c count (entry_at (grammar_of t) c i).places s.way.daughters s.way.found in
        let ds : s.way.daughters ≡ daughters_at c i (rank_of t rule) = q ∙ ap (map (stated_at c)) places-are in
        let (r, (m, g)) = known_by o.accepted s in
        let f : r ≡ rule_at t rule = cc in
        record {
          placed = placed_by c i (rank_of t rule) count (subst (Each (λ p. p < count)) places-are bs)
              (λ k l. ap (λ (ps : List ℕ). get_or ps k 0) (sym places-are) ∙ shown-record (grammar_of t) c i h s.unused k l);
          given = rw (← f, ← ds) g;
          high = s.way.high ∙ ap (λ (l : List (Known Item)). suc (tallest l)) ds;
        }

    pub sound-by : {b : Bool} → After c i → Decides (WayAt t ws c count rule i) b → Decides (Sound (grammar_of t) ws c count i) b
    sound-by a = instead (sound-of a) way_of

-- a count that is not too great
pub few-enough : (c : List ℕ) (count : ℕ) → count ≤ 2000 → count ≤ length c / 12 → TooMany c count → ⊥
few-enough c count h k (inl m) = omega arith
few-enough c count h k (inr m) = omega arith
