-- The rule at a place of an accepted table: where its rows stand, whether daughters are of its kinds, and the items that it gives.
use Prim.Native.Nat.{ℕ, zero, suc, ◌+◌, ◌≤◌, ◌<◌, min}
use mathlib.Core.Path.{◌≡◌, refl, sym, ap, ◌∙◌, subst}
use mathlib.Core.List.{List, [], Memᴰ as Mem}
use mathlib.Core.Option.{some as just}
use native.Mathlib.Omega.{arith}
use borrow.Author.Tests.{lt-ltb, le-ltb}
use lib.ListN.{length, get_or, length-take, length-map}
use lib.Seq.{ext_get_or}
use Rattle.meaning.specs.Range.{Item, at}
use Rattle.meaning.specs.Giving.{done, categories, Gives}
use Rattle.meaning.specs.Table.{byte, number, dimension_of, category_of, rank_of}
use Rattle.meaning.specs.Decode.{past, row_at, row_end, rows_of, rule_at, rule_end, first_rule, grammar_of}
use Rattle.meaning.proofs.Laws.{counts_all}
use Rattle.meaning.proofs.Ends.{fine-table}
use Rattle.meaning.proofs.Places.{dim-most}
use Rattle.meaning.proofs.Decoded.{several-length, several-at, several-past, mem-several}
use Rattle.std.specs.Prelude.{Some, None}
use Rattle.rules.specs.declared.rule.Row.{Row}
use Rattle.rules.proofs.RuleThere.{fine}
use Rattle.phrase.specs.declared.items.Item.{Item as CodedItem}
use Rattle.phrase.specs.declared.items.Daughters.{Daughters}
use Rattle.phrase.specs.Phrase.{item_of, items_of, RuleOf, row_of, row_there, RowIs, Has, GivesAt}

-- equal lists have equal numbers at each place
pub kind-same : {l m : List ℕ} (k : ℕ) → l ≡ m → get_or l k 0 ≡ get_or m k 0
kind-same k e = ap (λ (l : List ℕ). get_or l k 0) e

module _ (t : List ℕ) (rule : ℕ) (o : RuleOf t rule) where
  known : Mem (rule_at t rule) (grammar_of t).rules
  unfolding grammar_of
  known = subst (λ (p : ℕ). Mem (rule_at t p) (grammar_of t).rules) (sym o.there) (mem-several (rule_at t) (rule_end t) (number t 7) (first_rule t) o.index o.below)

  three-rows : dimension_of t (category_of t rule) ≤ 3
  three-rows = dim-most t (fine-table t o.accepted) (category_of t rule) (fine t rule o).low (fine t rule o).high

  -- row i: past the last one there is none, and each other ends within the table
  none-there : (i : ℕ) → dimension_of t (category_of t rule) ≤ i → [] ≡ row_of t rule i
  unfolding rule_at
  none-there i h = sym (several-past (row_at t) (row_end t) (dimension_of t (category_of t rule)) (rows_of t rule) i [] h)

  pub row-past : (i : ℕ) → dimension_of t (category_of t rule) ≤ i → RowIs t rule i None
  unfolding row_there
  row-past i h = record { there = simp (le-ltb i (dimension_of t (category_of t rule)) h); symbols = none-there i h; ends = tt }

  row_in : (i : ℕ) → i < dimension_of t (category_of t rule) → row_end t (past i (row_end t) (rows_of t rule)) ≤ length t
  row_in i h = ((fine t rule o).rows i h).end

  pub row_inside : (i at : ℕ) → i < dimension_of t (category_of t rule) → at ≡ past i (row_end t) (rows_of t rule) → row_end t at ≤ length t
  row_inside i at h e = rw e (row_in i h)

  pub row-at-place : (i : ℕ) (r : Row) → i < dimension_of t (category_of t rule) → r.table.now ≡ t → r.at ≡ past i (row_end t) (rows_of t rule) → RowIs t rule i (Some r)
  unfolding row_there rule_at
  row-at-place i r h e f = record {
    there = simp (lt-ltb i (dimension_of t (category_of t rule)) h) (ap just f);
    symbols = rw (e, f) (sym (several-at (row_at t) (row_end t) (dimension_of t (category_of t rule)) (rows_of t rule) i [] h));
    ends = r.inside;
  }

  wanted-length : length (rule_at t rule).daughters ≡ rank_of t rule
  unfolding rule_at
  wanted-length = several-length (byte t) (λ p. p + 1) (rank_of t rule) (rule + 4)

  module _ (d : Daughters) where
    items-length : length (categories (items_of d)) ≡ min d.count 3
    unfolding items_of
    items-length = length-map (items_of d) _ ∙ length-take d.count _

    pub kinds-no : (n m : ℕ) → n ≡ min d.count 3 → m ≡ rank_of t rule → (n ≡ m → ⊥) → categories (items_of d) ≡ (rule_at t rule).daughters → ⊥
    kinds-no n m e f h g = h (e ∙ sym items-length ∙ ap length g ∙ wanted-length ∙ sym f)

    pub kinds-yes : (n m : ℕ) → n ≡ min d.count 3 → m ≡ rank_of t rule → n ≡ m
        → ((k : ℕ) → k < 3 → get_or (categories (items_of d)) k 0 ≡ get_or (rule_at t rule).daughters k 0)
        → categories (items_of d) ≡ (rule_at t rule).daughters
    kinds-yes n m e f g h = ext_get_or 0 (categories (items_of d)) (rule_at t rule).daughters (items-length ∙ sym e ∙ g ∙ f ∙ sym wanted-length) (λ i l. h i (omega (arith, items-length)))

    -- an item is given where its category and its ranges are
    module _ (ws : List ℕ) where
      pub give-item : (x : Item) → x.category ≡ category_of t rule → categories (items_of d) ≡ (rule_at t rule).daughters
          → Has ws d (row_of t rule 0) (at x 0) → Has ws d (row_of t rule 1) (at x 1) → Has ws d (row_of t rule 2) (at x 2)
          → Gives (grammar_of t) ws (rule_at t rule) (items_of d) x
      unfolding rule_at
      give-item x e k a b c = record { known = known; kind = e; kinds = k; rows = each; counts = counts_all x }
        where
          each : (i : ℕ) → Has ws d (row_of t rule i) (at x i)
          each zero = a
          each (suc zero) = b
          each (suc (suc zero)) = c
          each (suc (suc (suc i))) = rw (← none-there (suc (suc (suc i))) (omega (arith, three-rows))) (done refl)

      pub give : (x : CodedItem) → x.category ≡ category_of t rule → categories (items_of d) ≡ (rule_at t rule).daughters
          → ((i : ℕ) → i < 3 → Has ws d (row_of t rule i) (at (item_of x) i)) → GivesAt t ws rule d x
      unfolding item_of
      give x e k f = give-item (item_of x) e k (f 0 (omega arith)) (f 1 (omega arith)) (f 2 (omega arith))

      pub gives-kind : (x : CodedItem) → GivesAt t ws rule d x → x.category ≡ category_of t rule
      unfolding item_of rule_at
      gives-kind x g = g.kind
