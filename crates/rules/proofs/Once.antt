-- Each public contract determines its result: two results that it allows for the same call are equal.
use Prim.Native.Nat.{ℕ, zero, suc, ◌≤◌, ◌<◌}
use mathlib.Core.Path.{◌≡◌, refl, sym, ap, ◌∙◌, subst}
use mathlib.Core.List.Memᴰ.{head as here}
use mathlib.Core.List.Memᴰ.{tail as there}
use mathlib.Core.List.{List, [], ◌∷◌, Memᴰ as Mem}
use native.Mathlib.Omega.{arith}
use native.Mathlib.Decide.{dec_lt}
use lib.ListN.{length, get_or, take, drop, take-append-drop}
use lib.Seq.{get_or-take, length-take-le}
use Rattle.meaning.specs.Order.{Each, each_none, each_more, Sorted, sorted_none, sorted_more}
use Rattle.meaning.specs.Grammar as grammar
use Rattle.meaning.specs.Table.{number}
use Rattle.meaning.specs.Decode.{rule_at}
use Rattle.meaning.proofs.Order.{same-members}
use Rattle.meaning.proofs.Functions.{functions-differ}
use Rattle.std.specs.Prelude.{Option, Some, None, IfSome}
use Rattle.std.specs.Borrow.{Bor}
use mathlib.Core.HLevel.{Σ_prop_path}
use Rattle.rules.specs.declared.rule.Rule.{Rule}
use Rattle.rules.specs.Index.{RuleOf_prop}
use Rattle.rules.specs.Found.{found_at}
use Rattle.rules.specs.Walk.{place_of, RuleOf, Finds, known, unknown, Ranked, Ordered}

-- find_rule
module _ (t : List ℕ) where
  -- two rules of one function number are one
  same_place : (p q : ℕ) → RuleOf t p → RuleOf t q → number t p ≡ number t q → p ≡ q
  same_place p q a b e = go (dec_lt a.index b.index) (dec_lt b.index a.index)
    where
      f : number t (place_of t a.index) ≡ number t (place_of t b.index)
      f = ap (number t) (sym a.there) ∙ e ∙ ap (number t) b.there

      go : Dec (a.index < b.index) → Dec (b.index < a.index) → p ≡ q
      go (yes h) d = absurd (functions-differ t a.accepted a.index b.index h b.below f)
      go (no h) (yes d) = absurd (functions-differ t a.accepted b.index a.index d a.below (sym f))
      go (no h) (no d) = let i : a.index ≡ b.index = omega arith in a.there ∙ ap (place_of t) i ∙ sym b.there

  number_of : (p q : ℕ) → rule_at t p ≡ rule_at t q → number t p ≡ number t q
  unfolding rule_at
  number_of p q e = ap (λ (r : grammar.Rule). r.function) e

  pub finds-once : (f : ℕ) {a b : Option ℕ} → Finds t f a → Finds t f b → a ≡ b
  finds-once f (known {p = p} o e) (known {p = q} u g) = ap Some (same_place p q o u (number_of p q cc))
  finds-once f (known o e) (unknown g) = let z : ◌≡◌ {A = ℕ} 0 1 = cc in absurd (omega arith)
  finds-once f (unknown e) (known u g) = let z : ◌≡◌ {A = ℕ} 0 1 = cc in absurd (omega arith)
  finds-once f (unknown e) (unknown g) = refl

some_same : {p q : ℕ} → Some p ≡ Some q → p ≡ q
some_same e = cc

-- a rule of a table is told by its place, so the rule that find_rule answers is too
same_rule : (r s : Rule) → r.table ≡ s.table → r.at ≡ s.at → r ≡ s
same_rule r s e f =
    let At : (Bor (List ℕ) × ℕ) → Type 0 = λ u. RuleOf u.0.now u.1 in
    let g : ((r.table, r.at), r.of_table) ≡ ((s.table, s.at), s.of_table) =
    Σ_prop_path {B = At} (λ u. RuleOf_prop u.0.now u.1) {u = ((r.table, r.at), r.of_table)} {v = ((s.table, s.at), s.of_table)} (λ i. (e i, f i)) in
    ap (λ (u : (v : Bor (List ℕ) × ℕ) × At v). record { table = u.0.0; at = u.0.1; of_table = u.1 }) g

pub rule-once : (t : Bor (List ℕ)) (f : ℕ) (a b : Option Rule)
    → Finds t.now f (found_at a) → IfSome a (λ r. r.table ≡ t) → Finds t.now f (found_at b) → IfSome b (λ r. r.table ≡ t) → a ≡ b
rule-once t f a b x y u v = go a b (finds-once t.now f x u) y v
  where
    go : (a b : Option Rule) → found_at a ≡ found_at b → IfSome a (λ r. r.table ≡ t) → IfSome b (λ r. r.table ≡ t) → a ≡ b
    go (Some r) (Some s) e y v = ap Some (same_rule r s (y ∙ sym v) (some_same e))
    go (Some r) None e y v = let z : ◌≡◌ {A = ℕ} 0 1 = cc in absurd (omega arith)
    go None (Some s) e y v = let z : ◌≡◌ {A = ℕ} 0 1 = cc in absurd (omega arith)
    go None None e y v = refl

-- order_rules: both lists are sorted, and have the same members
abbrev Earlier : List ℕ → ℕ → ℕ → Type 0
Earlier t p q = number t p < number t q

above : (P : ℕ → Type 0) (l : List ℕ) → ((j : ℕ) → j < length l → P (get_or l j 0)) → Each P l
above P [] f = each_none
above P (x ∷ l) f = each_more (f 0 (omega arith)) (above P l (λ j h. f (suc j) (omega arith)))

sorted : (t l : List ℕ) → ((j k : ℕ) → j < k → k < length l → Earlier t (get_or l j 0) (get_or l k 0)) → Sorted (Earlier t) l
sorted t [] f = sorted_none
sorted t (x ∷ l) f = sorted_more (above (Earlier t x) l (λ j h. f 0 (suc j) (omega arith) (omega arith))) (sorted t l (λ j k m h. f (suc j) (suc k) (omega arith) (omega arith)))

at_mem : {x : ℕ} {l : List ℕ} → Mem x l → (j : ℕ) × (j < length l) × (get_or l j 0 ≡ x)
at_mem (here e) = (0, omega arith, sym e)
at_mem (there m) = let (j, h, e) = at_mem m in (suc j, omega arith, e)

mem-at : (l : List ℕ) (j : ℕ) → j < length l → Mem (get_or l j 0) l
mem-at [] j h = absurd (omega arith)
mem-at (x ∷ l) zero h = here refl
mem-at (x ∷ l) (suc j) h = there (mem-at l j (omega arith))

module _ (t l m : List ℕ) (n : ℕ) (h : n ≤ length l) (k : n ≤ length m) (o : Ranked t n l) (u : Ranked t n m) where
  in_order : (a : List ℕ) → n ≤ length a → Ranked t n a → Sorted (Earlier t) (take n a)
  in_order a f r =
      sorted t (take n a)
      (λ i j c d. let e = length-take-le n a f in
      rw (get_or-take n a i 0 (omega arith), get_or-take n a j 0 (omega arith)) (r.rising i j c (omega arith)))

  pass : (a b : List ℕ) → n ≤ length a → n ≤ length b → Ranked t n a → Ranked t n b → (x : ℕ) → Mem x (take n a) → Mem x (take n b)
  pass a b f g r s x c =
      let (i, d, e) = at_mem c in
      let q = length-take-le n a f in
      let (p, v, w) = r.one i (omega arith) in
      let (j, y, z) = s.each p v in
      let eq : get_or (take n b) j 0 ≡ x = get_or-take n b j 0 y ∙ z ∙ sym w ∙ sym (get_or-take n a i 0 (omega arith)) ∙ e in
      subst (λ (y : ℕ). Mem y (take n b)) eq (mem-at (take n b) j (omega (arith, length-take-le n b g)))

  same-ranks : take n l ≡ take n m
  same-ranks =
      same-members (Earlier t) (λ a c. omega arith) (λ a b c d e. omega arith) (take n l) (take n m) (in_order l h o) (in_order m k u) (pass l m h k o u) (pass m l k h u o)

pub ordered-once :
    (t before : List ℕ) → number t 7 ≤ length before → {a b : List ℕ} {m n : ℕ} → Ordered t before a m → Ordered t before b n → (a ≡ b) × (m ≡ n)
ordered-once t before room {a} {b} {m} {n} o u =
    let e : m ≡ n = o.all ∙ sym u.all in
    let o' : Ordered t before a n = rw e at o in
    let h : n ≤ length a = omega (arith, o'.size, o'.all) in
    let k : n ≤ length b = omega (arith, u.size, u.all) in
    let f = same-ranks t a b n h k o'.ranked u.ranked in
    let g : drop n a ≡ drop n b = o'.rest ∙ sym u.rest in
    (sym (take-append-drop n a) ∙ rw (f, g) (take-append-drop n b), e)
