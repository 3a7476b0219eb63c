-- A table that is not refused is a grammar in which each constituent of each daughter is used exactly once.
use Prim.Native.Nat.{ℕ, zero, suc, ◌+◌, ◌-◌, ◌≤◌, ◌<◌}
use mathlib.Core.Path.{◌≡◌, refl, sym, ap, ◌∙◌, subst}
use mathlib.Core.Logic.{◌⊎◌, inl, inr}
use mathlib.Core.Bool.{Bool, true, false, not, cond, ◌||◌}
use mathlib.Core.List.Memᴰ.{cases_cons as mem-cons}
use mathlib.Core.List.Memᴰ.{head as here}
use mathlib.Core.List.Memᴰ.{not-nil as not-mem-nil}
use mathlib.Core.List.Memᴰ.{tail as there}
use mathlib.Core.List.{List, [], map, Memᴰ as Mem}
use native.Mathlib.Omega.{arith}
use native.Mathlib.Decide.{dec_lt}
use lib.ListN.{length, get_or, get_or-eq_default}
use lib.Dec.{eqb}
use borrow.Author.Tests.{eqb-false, not-false}
use Rattle.meaning.specs.Order.{Each, each_none, each_more, Sorted, sorted_none, sorted_more}
use Rattle.meaning.specs.Grammar.{word as say, part as use-of, Rule, Symbol, dimension as dimension-in}
use Rattle.meaning.specs.Valid.{Linear, Valid as ValidGrammar}
use Rattle.meaning.specs.Table.{got, times, any, byte, number, unused, missing, header, dimension, rank_of, category_of, daughter_of, dimension_of, rule, rules, check_table}
use Rattle.meaning.specs.Decode.{past, several, symbol_at, row_at, row_end, rows_of, rule_at, rule_end, first_rule, grammar_of}
use Rattle.meaning.specs.Accepted.{FineRow}
use Rattle.meaning.specs.Accepted.{FineRule, FineTable}
use Rattle.meaning.proofs.Fields.{after, both}
use Rattle.meaning.proofs.Ends.{times-past, rule_end_lem, first-there, fine-table}
use Rattle.meaning.proofs.Places.{past_one, dim-most}
use Rattle.meaning.proofs.Functions.{functions-differ}
use Rattle.meaning.proofs.Tally.{one-place-all, comes-all, Whole, rule-whole}

-- several parts, one by one
module _ {A : Type 0} (f : ℕ → A) (next : ℕ → ℕ) where
  pub several-length : (n at : ℕ) → length (several n f next at) ≡ n
  unfolding several
  several-length zero at = refl
  several-length (suc n) at = ap suc (several-length n (next at))

  pub several-at : (n at i : ℕ) (d : A) → i < n → get_or (several n f next at) i d ≡ f (past i next at)
  unfolding several past
  several-at zero at i d h = absurd (omega arith)
  several-at (suc n) at zero d h = refl
  several-at (suc n) at (suc i) d h = several-at n (next at) i d (omega arith)

  pub several-past : (n at i : ℕ) (d : A) → n ≤ i → get_or (several n f next at) i d ≡ d
  several-past n at i d h = get_or-eq_default (several n f next at) d {n = i} (omega (arith, several-length n at))

  pub several-mem : {x : A} (n at : ℕ) → Mem x (several n f next at) → (i : ℕ) × (i < n) × (x ≡ f (past i next at))
  unfolding several past
  several-mem zero at m = absurd (not-mem-nil m)
  several-mem {x} (suc n) at m = go (several-mem n (next at)) (mem-cons m)
    where
      go : (Mem x (several n f next (next at)) → (i : ℕ) × (i < n) × (x ≡ f (past i next (next at)))) → (x ≡ f at) ⊎ Mem x (several n f next (next at))
          → (i : ℕ) × (i < suc n) × (x ≡ f (past i next at))
      go rest (inl e) = (0, omega arith, e)
      go rest (inr k) = let (i, h, e) = rest k in (suc i, omega arith, e)

  pub mem-several : (n at i : ℕ) → i < n → Mem (f (past i next at)) (several n f next at)
  unfolding several past
  mem-several zero at i h = absurd (omega arith)
  mem-several (suc n) at zero h = here refl
  mem-several (suc n) at (suc i) h = there (mem-several n (next at) i (omega arith))

any_false : (n : ℕ) (p : ℕ → Bool) → any n p ≡ false → (i : ℕ) → i < n → p i ≡ false
unfolding any
any_false zero p e i h = absurd (omega arith)
any_false (suc n) p e i h = go (p n) refl e (dec_lt i n) (λ r. any_false n p r i)
  where
    go : (b : Bool) → p n ≡ b → (b || any n p) ≡ false → Dec (i < n) → (any n p ≡ false → i < n → p i ≡ false) → p i ≡ false
    go true f e d rest = let z : ◌≡◌ {A = ℕ} 0 1 = cc in absurd (omega arith)
    go false f e (yes l) rest = rest e l
    go false f e (no l) rest = let q : i ≡ n = omega arith in rw q f

-- what the bytes of a symbol say
kind-part : (kind n k c : ℕ) → cond (eqb kind 0) (say n) (use-of (kind - 1) (n - 1)) ≡ use-of k c → (1 ≤ kind) × (kind - 1 ≡ k) × (n - 1 ≡ c)
kind-part kind n k c e = go (eqb kind 0) refl e
  where
    go : (b : Bool) → eqb kind 0 ≡ b → cond b (say n) (use-of (kind - 1) (n - 1)) ≡ use-of k c → (1 ≤ kind) × (kind - 1 ≡ k) × (n - 1 ≡ c)
    go true f e = let z : ◌≡◌ {A = ℕ} 0 1 = cc in absurd (omega arith)
    go false f e = let z : kind ≡ 0 → ⊥ = eqb-false kind 0 f in (omega arith, cc, cc)

module _ (t : List ℕ) (v : FineTable t) where
  -- a category's dimension in the grammar is that in the table
  pub dimension-is : (A : ℕ) → 1 ≤ A → A ≤ byte t 5 → dimension-in (grammar_of t) A ≡ dimension_of t A
  unfolding grammar_of
  dimension-is zero low high = absurd (omega arith)
  dimension-is (suc a) low high =
      several-at (byte t) (λ p. p + 1) (byte t 5) 9 a 0 (omega arith)
      ∙ ap (byte t) (past_one a 9 ∙ omega arith)

  no-dimension : (A : ℕ) → byte t 5 < A → dimension-in (grammar_of t) A ≡ 0
  unfolding grammar_of
  no-dimension zero h = refl
  no-dimension (suc a) h = several-past (byte t) (λ p. p + 1) (byte t 5) 9 a 0 (omega arith)

  small : (A : ℕ) → dimension-in (grammar_of t) A ≤ 3
  unfolding grammar_of
  small zero = omega arith
  small (suc a) = go (dec_lt (byte t 5) (suc a))
    where
      go : Dec (byte t 5 < suc a) → dimension-in (grammar_of t) (suc a) ≤ 3
      go (yes l) = omega (arith, no-dimension (suc a) l)
      go (no l) = omega (arith, dimension-is (suc a) (omega arith) (omega arith), dim-most t v (suc a) (omega arith) (omega arith))

  module _ (at : ℕ) (f : FineRule t at) where
    abbrev As : List ℕ
    As = several (rank_of t at) (byte t) (λ p. p + 1) (at + 4)

    abbrev rows : List (List Symbol)
    rows = several (dimension_of t (category_of t at)) (row_at t) (row_end t) (rows_of t at)

    -- a daughter's category, and its dimension
    pub daughter-is : (k : ℕ) → k < rank_of t at → get_or As k 0 ≡ daughter_of t at (k + 1)
    daughter-is k h = several-at (byte t) (λ p. p + 1) (rank_of t at) (at + 4) k 0 h ∙ ap (byte t) (past_one k (at + 4) ∙ omega arith)

    daughter-dimension : (k : ℕ) → k < rank_of t at → dimension-in (grammar_of t) (get_or As k 0) ≡ dimension_of t (daughter_of t at (k + 1))
    daughter-dimension k h =
        let (low, high) = f.daughters k h in
        let e = several-at (byte t) (λ p. p + 1) (rank_of t at) (at + 4) k 0 h in
        dimension-is (get_or As k 0) (rw e low) (rw e high) ∙ ap (dimension_of t) (daughter-is k h)

    no-daughter : (k : ℕ) → rank_of t at ≤ k → dimension-in (grammar_of t) (get_or As k 0) ≡ 0
    no-daughter k h = ap (dimension-in (grammar_of t)) (several-past (byte t) (λ p. p + 1) (rank_of t at) (at + 4) k 0 h)

    used-in : Whole t at → (k c : ℕ) → c < dimension-in (grammar_of t) (get_or As k 0) → (i : ℕ) × (j : ℕ) × (get_or (get_or rows i []) j (say 0) ≡ use-of k c)
    unfolding missing unused
    used-in w k c h = go (dec_lt k (rank_of t at))
      where
        open_up : (unused k c ≡ true) ⊎ ((i : ℕ) × (j : ℕ) × (get_or (get_or rows i []) j (say 0) ≡ use-of k c)) → (i : ℕ) × (j : ℕ) × (get_or (get_or rows i []) j (say 0) ≡ use-of k c)
        open_up (inl e) = let z : ◌≡◌ {A = ℕ} 0 1 = cc in absurd (omega arith)
        open_up (inr x) = x

        go : Dec (k < rank_of t at) → (i : ℕ) × (j : ℕ) × (get_or (get_or rows i []) j (say 0) ≡ use-of k c)
        go (no l) = absurd (omega (arith, no-daughter k (omega arith)))
        go (yes l) =
            let m = any_false (rank_of t at) _ w.full k l in
            let n = any_false (dimension_of t (daughter_of t at (k + 1))) _ m c (omega (arith, daughter-dimension k l)) in
            open_up (comes-all w.tallied (not-false (w.marked k c) n))

    -- a symbol's place, where it is none of the default
    inside-row : (place j k c : ℕ) → FineRow t at place → get_or (row_at t place) j (say 0) ≡ use-of k c → c < dimension-in (grammar_of t) (get_or As k 0)
    unfolding row_at symbol_at
    inside-row place j k c r e = go (dec_lt j (byte t place))
      where
        go : Dec (j < byte t place) → c < dimension-in (grammar_of t) (get_or As k 0)
        go (no l) = let q = several-past (symbol_at t) (λ p. p + 3) (byte t place) (place + 1) j (say 0) (omega arith) in let z : ◌≡◌ {A = ℕ} 0 1 = cc in absurd (omega arith)
        go (yes l) =
            let p : ℕ = past j (λ p. p + 3) (place + 1) in
            let (a, b, d) = kind-part (byte t p) (number t (p + 1)) k c (sym (several-at (symbol_at t) (λ p. p + 3) (byte t place) (place + 1) j (say 0) l) ∙ e) in
            let (x, y, z) = (r.symbols j l).1 a in
            let q : k + 1 ≡ byte t p = omega arith in
            let s : number t (p + 1) ≤ dimension_of t (daughter_of t at (k + 1)) = rw q z in
            omega (arith, daughter-dimension k (omega arith))

    inside : (i j : ℕ) {k c : ℕ} → get_or (get_or rows i []) j (say 0) ≡ use-of k c → c < dimension-in (grammar_of t) (get_or As k 0)
    inside i j {k} {c} e = go (dec_lt i (dimension_of t (category_of t at)))
      where
        go : Dec (i < dimension_of t (category_of t at)) → c < dimension-in (grammar_of t) (get_or As k 0)
        go (no l) =
            let q = several-past (row_at t) (row_end t) (dimension_of t (category_of t at)) (rows_of t at) i [] (omega arith) in
            let q' : say 0 ≡ use-of k c = rw q at e in
            let z : ◌≡◌ {A = ℕ} 0 1 = cc in
            absurd (omega arith)
        go (yes l) = inside-row (past i (row_end t) (rows_of t at)) j k c (f.rows i l) (rw (several-at (row_at t) (row_end t) (dimension_of t (category_of t at)) (rows_of t at) i [] l) at e)

    linear : Whole t at → Linear (grammar_of t) (rule_at t at)
    unfolding rule_at
    linear w = record {
      dim = several-length (row_at t) (row_end t) (dimension_of t (category_of t at)) (rows_of t at) ∙ sym (dimension-is (category_of t at) f.low f.high);
      used = used-in w;
      inside = inside;
      once = λ i j i' j' g h. one-place-all w.tallied i j i' j' g h;
    }

wholes : (t : List ℕ) → check_table t ≡ got tt → (i : ℕ) → i < number t 7 → Whole t (past i (rule_end t) (first_rule t))
unfolding check_table rules
wholes t e i h =
    let g = both (header t) _ tt e in
    let d = both (times (byte t 5) (dimension t) g.0) _ tt g.2 in
    let s = after (not (eqb (dimension_of t (byte t 6)) 1)) _ _ tt d.2 in
    let r = both (rules t (number t 7) d.0) _ tt s.1 in
    let u = both (times (number t 7) (rule t) (d.0, [])) _ r.0 r.1 in
    let q = times-past (λ p. p.0) (rule_end t) (Whole t) (rule t) (λ s s' e. ((rule_end_lem t s s' e).0, rule-whole t s s' e)) (number t 7) (d.0, []) u.0 u.1 in
    subst (λ (p : ℕ). Whole t (past i (rule_end t) p)) (first-there t g.0 d.0 g.1 d.1) (q.1 i h)

-- numbers that differ pairwise
differ : (f : ℕ → Rule) (next : ℕ → ℕ) (n at : ℕ)
    → ((i j : ℕ) → i < j → j < n → (f (past i next at)).function ≡ (f (past j next at)).function → ⊥)
    → Sorted (λ f g. f ≡ g → ⊥) (map (λ (r : Rule). r.function) (several n f next at))
unfolding several past
differ f next zero at h = sorted_none
differ f next (suc n) at h = sorted_more (each n (next at) (λ j l. h 0 (suc j) (omega arith) (omega arith))) (differ f next n (next at) (λ i j k l. h (suc i) (suc j) (omega arith) (omega arith)))
  where
    each : (n at' : ℕ) → ((j : ℕ) → j < n → (f at).function ≡ (f (past j next at')).function → ⊥) → Each (λ g. (f at).function ≡ g → ⊥) (map (λ (r : Rule). r.function) (several n f next at'))
    each zero at' h = each_none
    each (suc n) at' h = each_more (h 0 (omega arith)) (each n (next at') (λ j l. h (suc j) (omega arith)))

-- THE BRIDGE: a table that is not refused decodes to a grammar that is linear
pub valid-grammar : (t : List ℕ) → check_table t ≡ got tt → ValidGrammar (grammar_of t)
unfolding grammar_of rule_at
valid-grammar t e =
    let v = fine-table t e in
    record {
      small = small t v;
      one = dimension-is t v (byte t 6) v.start.0 v.start.1 ∙ v.one;
      ranks = λ m.
          let (i, h, q) = several-mem (rule_at t) (rule_end t) (number t 7) (first_rule t) m in
          let at = past i (rule_end t) (first_rule t) in
          rw q (omega (arith, several-length (byte t) (λ p. p + 1) (rank_of t at) (at + 4), (v.rules i h).rank));
      linear = λ m. let (i, h, q) = several-mem (rule_at t) (rule_end t) (number t 7) (first_rule t) m in rw q (linear t v _ (v.rules i h) (wholes t e i h));
      distinct = differ (rule_at t) (rule_end t) (number t 7) (first_rule t) (λ i j k h. functions-differ t e i j k h);
    }
