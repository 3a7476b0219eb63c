-- Rules that are equal but for their function numbers give the same items (`tried-like`), so one that is like an earlier one gives nothing
-- new (`like-old`).
use Prim.Native.Nat.{ℕ, ◌+◌, ◌≤◌, ◌<◌}
use mathlib.Core.Path.{◌≡◌, refl, sym, ap, ◌∙◌, subst}
use mathlib.Core.Logic.{⊎_elim}
use mathlib.Core.List.{List, [], Memᴰ as Mem}
use native.Mathlib.Omega.{arith}
use lib.ListN.{length, get_or}
use Rattle.meaning.specs.Table.{got, check_table, byte, number, rank_of, dimension_of}
use Rattle.meaning.specs.Range.{Item, at}
use Rattle.meaning.specs.Grammar.{Symbol}
use Rattle.meaning.specs.Giving.{Run, Stands, held, Gives}
use Rattle.meaning.specs.Decode.{rule_at, rule_end, first_rule, grammar_of}
use Rattle.meaning.proofs.Places.{rule-grows, table-most}
use Rattle.meaning.proofs.Decoded.{mem-several}
use Rattle.meaning.proofs.Moved.{Copied, Body, body_same}
use Rattle.store.proofs.Laws.{lt-or-ge}
use Rattle.phrase.specs.declared.items.Item.{Item as CodedItem}
use Rattle.phrase.specs.Phrase.{RuleOf}
use Rattle.rules.proofs.RuleThere.{fine}
use Rattle.search.specs.Tried.{Tried, none_of, blank_item, ByRules}
use Rattle.search.specs.Likeness.{Like, LikeBefore}
use Rattle.search.proofs.Ruling.{open_none, place, by_cases}

-- the rules at a and b are equal but for their function numbers
module _ {t : List ℕ} {a b : ℕ} (l : Like t a b) where
  copied : Copied t t (a + 2) (b + 2) (rule_end t a)
  copied = record {
    bytes = λ i h.
        let e : a + (i + 2) ≡ a + 2 + i = omega arith in
        let f : b + (i + 2) ≡ b + 2 + i = omega arith in
        rw (e, f) at (l.same (i + 2) (omega arith) (omega arith));
  }

  body : Body copied a b
  body = body_same copied (record { from = omega arith; level = omega arith }) (λ k. ap (dimension_of t) k) (omega arith)

  -- what the one gives, the other gives
  gives-like : {ws : List ℕ} {ds : List Item} {x : Item} → RuleOf t a → Gives (grammar_of t) ws (rule_at t b) ds x → Gives (grammar_of t) ws (rule_at t a) ds x
  unfolding grammar_of rule_at
  gives-like {ws} {ds} {x} o g = record {
    known = subst (λ (p : ℕ). Mem (rule_at t p) (grammar_of t).rules) (sym o.there) (mem-several (rule_at t) (rule_end t) (number t 7) (first_rule t) o.index o.below);
    kind = g.kind ∙ sym body.category;
    kinds = g.kinds ∙ sym body.daughters;
    rows = λ i. subst (λ (rs : List (List Symbol)). Run (Stands ws (held ds)) (get_or rs i []) (at x i)) (sym body.rows) (g.rows i);
    counts = g.counts;
  }

  tried-like : {ws K : List ℕ} {goal : CodedItem} {x : ℕ} → RuleOf t a → Tried t ws b goal (none_of (rank_of t b)) K x → Tried t ws a goal (none_of (rank_of t a)) K x
  tried-like o w = record {
    full = w.full;
    completes = record { size = w.completes.size ∙ sym body.rank; keeps = λ k h n. absurd (n (open_none (rank_of t a) k)) };
    among = w.among;
    does = record { gives = gives-like o w.does.gives; high = w.does.high; same = w.does.same };
  }

-- a rule that is like one before it gives nothing new
pub like-old : (t ws K : List ℕ) (h i : ℕ) {rule : ℕ} → check_table t ≡ got tt → i < number t 7 → rule ≡ place t i → LikeBefore t rule i → (x : ℕ) → ByRules t ws K h (i + 1) x → ByRules t ws K h i x
like-old t ws K h i e l q w x s = ⊎_elim (λ o. o) again (by_cases t ws K h i x s)
  where
    again : Tried t ws (place t i) (blank_item (h + 1)) (none_of (rank_of t (place t i))) K x → ByRules t ws K h i x
    again v = record {
      index = w.index;
      below = w.below;
      tried = tried-like (subst (Like t (place t w.index)) q w.like) (record { accepted = e; index = w.index; below = omega (arith, w.below); there = refl }) v;
    }

-- for the loop over two rules' bytes: from the category on, those below k are the same
pub record SameTo (t : List ℕ) (a b k : ℕ) : Type 0 where
  pub same : (m : ℕ) → 2 ≤ m → m < k → byte t (a + m) ≡ byte t (b + m)

module _ {t : List ℕ} {a b : ℕ} where
  pub same_ends : (k : ℕ) → rule_end t a ≤ a + k → SameTo t a b k → Like t a b
  same_ends k h s = record { same = λ m low l. s.same m low (omega arith) }

-- a rule's place and its end are within the table, which is short
pub rule-in : {t : List ℕ} {rule : ℕ} → RuleOf t rule → (rule + 4 ≤ rule_end t rule) × (rule_end t rule ≤ length t) × (length t ≤ 39497)
rule-in {t} {rule} o = (rule-grows t rule, (fine t rule o).end, table-most t o.accepted)

-- for the loop over the rules before a rule
pub rule-here : {t : List ℕ} {here : ℕ} (i : ℕ) → here ≡ place t i → check_table t ≡ got tt → i < number t 7 → RuleOf t here
rule-here i is e l = record { accepted = e; index = i; below = l; there = is }

module _ {t : List ℕ} {rule : ℕ} (i : ℕ) {here : ℕ} (is : here ≡ place t i) where
  pub like-here : (n : ℕ) → i < n → Like t here rule → LikeBefore t rule n
  like-here n h l = record { index = i; below = h; like = subst (λ (p : ℕ). Like t p rule) is l }

  pub like-none : (LikeBefore t rule i → ⊥) → (Like t here rule → ⊥) → LikeBefore t rule (i + 1) → ⊥
  like-none f g w = ⊎_elim (λ l. f (record { index = w.index; below = l; like = w.like }))
      (λ m. let q : w.index ≡ i = omega (arith, w.below) in g (subst (λ (p : ℕ). Like t p rule) (ap (λ (j : ℕ). place t j) q ∙ sym is) w.like)) (lt-or-ge w.index i)

pub like-begins : {t : List ℕ} {rule : ℕ} (n : ℕ) → n ≡ 0 → LikeBefore t rule n → ⊥
like-begins n e w = omega (arith, w.below)

pub like-ends : {t : List ℕ} {rule i n : ℕ} → (LikeBefore t rule i → ⊥) → n ≤ i → LikeBefore t rule n → ⊥
like-ends f l w = f (record { index = w.index; below = omega (arith, w.below); like = w.like })
