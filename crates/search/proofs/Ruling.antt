-- A level rule by rule: what all rules give from the known items is the level.
use mathlib.Core.Path.{◌≡◌, refl, ap, sym, subst, ◌∙◌}
use mathlib.Core.Logic.{◌⊎◌, inl, inr, ⊎_elim}
use mathlib.Core.List.{List, [], ◌∷◌, map, Memᴰ as Mem}
use Prim.Native.Nat.{ℕ, zero, suc, ◌+◌, ◌<◌, ◌≤◌, ◌^◌, max}
use native.Mathlib.Omega.{arith}
use lib.ListN.{length, length-map}
use Rattle.meaning.specs.Order.{Each, each_none, each_more, sorted_none}
use Rattle.meaning.specs.Range.{Item}
use Rattle.meaning.specs.Grammar.{Rule}
use Rattle.meaning.specs.Giving.{Gives}
use Rattle.meaning.specs.Chart.{Known, things, tallest, Least, GivenBy}
use Rattle.meaning.specs.Table.{got, check_table, byte, number, rank_of}
use Rattle.meaning.specs.Decode.{past, rule_at, rule_end, first_rule, grammar_of}
use Rattle.meaning.proofs.Ends.{fine-table, past-suc}
use Rattle.meaning.proofs.Decoded.{several-mem, several-length}
use Rattle.store.specs.Set.{key_of, height_of}
use Rattle.store.specs.Code.{unpacked, known_of}
use Rattle.store.proofs.Laws.{lt-or-ge}
use Rattle.store.proofs.Packing.{key-small, pack-unpack}
use Rattle.rules.proofs.RuleThere.{fine}
use Rattle.phrase.specs.Phrase.{RuleOf}
use Rattle.hint.specs.Hint.{seat, Open}
use Rattle.std.specs.Prelude.{Option, Some as counted, None as too_many}
use Rattle.search.specs.Level.{Ready, Filled}
use Rattle.search.specs.Search.{keyed, Level}
use Rattle.search.specs.Keys.{KeyMade, KeyGiven, Asked}
use Rattle.search.specs.Tried.{In, Tried, Trying, opens, blank_item, none_of, ByRules}
use Rattle.search.proofs.Keys.{made-category, made-small}
use Rattle.search.proofs.Filling.{nothing_yet, then, stop, same}

-- codes as known items
knowns-of : List ℕ → List (Known Item)
knowns-of cs = map known_of cs

same-things : (cs : List ℕ) → things (knowns-of cs) ≡ map unpacked (map key_of cs)
unfolding knowns-of
same-things [] = refl
same-things (c ∷ cs) = ap (λ (l : List Item). unpacked (key_of c) ∷ l) (same-things cs)

same-tallest : (cs : List ℕ) → tallest (knowns-of cs) ≡ tallest (map keyed cs)
unfolding knowns-of tallest
same-tallest [] = refl
same-tallest (c ∷ cs) = ap (λ (n : ℕ). max (height_of c) n) (same-tallest cs)

all_in : {K : List ℕ} {cs : List ℕ} → Each (λ c. Mem c K) cs → Each (λ k. In k K) (knowns-of cs)
unfolding knowns-of
all_in each_none = each_none
all_in (each_more {a = c} m ms) = each_more {a = known_of c} (record { code = c; there = m; is = refl }) (all_in ms)

in_all : {K : List ℕ} (ks : List (Known Item)) → Each (λ k. In k K) ks → (cs : List ℕ) × Each (λ c. Mem c K) cs × (knowns-of cs ≡ ks)
unfolding knowns-of
in_all [] each_none = ([], each_none, refl)
in_all (k ∷ ks) (each_more i is) = let (cs, ms, e) = in_all ks is in let f = i.is in (i.code ∷ cs, each_more i.there ms, cc)

-- none of them is chosen
pub open_none : (n k : ℕ) → Open (none_of n) k
open_none n zero = refl
open_none n (suc zero) = refl
open_none n (suc (suc k)) = refl

pub blank_none : (n k : ℕ) → (seat (none_of n) k).height ≡ 0
blank_none n zero = refl
blank_none n (suc zero) = refl
blank_none n (suc (suc k)) = refl

open-count : (n : ℕ) → n ≤ 3 → n ≡ opens (none_of n)
open-count zero h = refl
open-count (suc zero) h = refl
open-count (suc (suc zero)) h = refl
open-count (suc (suc (suc zero))) h = refl
open-count (suc (suc (suc (suc n)))) h = absurd (omega arith)

pub daughters-many : (t : List ℕ) (p : ℕ) → length (rule_at t p).daughters ≡ rank_of t p
unfolding rule_at
daughters-many t p = several-length (byte t) (λ p. p + 1) (rank_of t p) (p + 4)

pub full_size : (t ws : List ℕ) (p : ℕ) (ks : List (Known Item)) {y : Item} → Gives (grammar_of t) ws (rule_at t p) (things ks) y → length ks ≡ rank_of t p
full_size t ws p ks g = sym (length-map ks _) ∙ sym (length-map (things ks) _) ∙ ap length g.kinds ∙ daughters-many t p

-- a code of something that can be made has a category, and is no longer than 60 bits
pub code-fine : (t ws : List ℕ) → check_table t ≡ got tt → length ws ≤ 64 → (c : ℕ) → Least (KeyMade t ws) (keyed c) → (1 ≤ (known_of c).item.category) × (c < 2 ^ 60)
unfolding KeyMade
code-fine t ws e short c l =
    let k = made-category t ws e short (unpacked (key_of c)) (height_of c) l.made in
    let s = key-small (unpacked (key_of c)) (made-small t ws e short (unpacked (key_of c)) (height_of c) l.made) in
    (k.0, omega (arith, pack-unpack (key_of c)))

-- where rule i starts
abbrev pub place : List ℕ → ℕ → ℕ
place t i = past i (rule_end t) (first_rule t)

module _ (t ws K : List ℕ) (h : ℕ) where
  pub by_level : (n x : ℕ) → check_table t ≡ got tt → ByRules t ws K h n x → n ≤ number t 7 → Level (KeyGiven t ws) K h x
  unfolding KeyGiven GivenBy rule_at
  by_level n x e w l =
      let (cs, ms, q) = in_all w.tried.full w.tried.among in
      let g : Gives (grammar_of t) ws (rule_at t (place t w.index)) (map unpacked (map key_of cs)) (unpacked x) = rw (← same-things cs, q) w.tried.does.gives in
      record {
        function = number t (place t w.index);
        codes = cs;
        among = ms;
        gives = (rule_at t (place t w.index), refl, g);
        high = omega (arith, same-tallest cs, ap tallest q, w.tried.does.high);
      }

  pub level_by : (x : ℕ) → Level (KeyGiven t ws) K h x → ByRules t ws K h (number t 7) x
  unfolding KeyGiven GivenBy grammar_of
  level_by x w =
      let (r, f, g) = w.gives in
      let (i, l, q) = several-mem (rule_at t) (rule_end t) (number t 7) (first_rule t) g.known in
      let g' : Gives (grammar_of t) ws (rule_at t (place t i)) (things (knowns-of w.codes)) (unpacked x) = subst (λ (s : Rule). Gives (grammar_of t) ws s (things (knowns-of w.codes)) (unpacked x)) q (rw (same-things w.codes) g) in
      record {
        index = i;
        below = l;
        tried = record {
          full = knowns-of w.codes;
          completes = record { size = full_size t ws (place t i) (knowns-of w.codes) g'; keeps = λ k h n. absurd (n (open_none (rank_of t (place t i)) k)) };
          among = all_in w.among;
          does = record { gives = g'; high = omega (arith, same-tallest w.codes, w.high); same = λ n. absurd (n refl) };
        };
      }

  -- what one of the first i + 1 rules gives, one of the first i gives, or rule i
  pub by_cases : (i x : ℕ) → ByRules t ws K h (i + 1) x → ByRules t ws K h i x ⊎ Tried t ws (place t i) (blank_item (h + 1)) (none_of (rank_of t (place t i))) K x
  by_cases i x s = ⊎_elim (λ l. inl (record { index = s.index; below = l; tried = s.tried }))
      (λ g. inr (let e : s.index ≡ i = omega (arith, s.below) in subst (λ (j : ℕ). Tried t ws (place t j) (blank_item (h + 1)) (none_of (rank_of t (place t j))) K x) e s.tried)) (lt-or-ge s.index i)

-- what is known of the daughters when a rule is tried from nothing
pub trying-none : {t : List ℕ} {rule : ℕ} (K : List ℕ) → RuleOf t rule → Trying t rule (none_of (rank_of t rule)) K (rank_of t rule)
trying-none {t} {rule} K o = record {
  partial = record { few = few; past = λ k a b. open_none (rank_of t rule) k; blank = λ k a b. blank_none (rank_of t rule) k };
  count = refl;
  drawn = λ k a n. absurd (n (open_none (rank_of t rule) k));
  fewer = open-count (rank_of t rule) few;
}
  where
    few : rank_of t rule ≤ 3
    few = (fine t rule o).rank

-- what the first i rules give has been added to nothing in a: now the first m of b, which is as long
pub record ByFirst (t ws K : List ℕ) (h : ℕ) (a : List ℕ) (i : ℕ) (b : List ℕ) (m : ℕ) : Type 0 where
  pub long : length b ≡ length a
  pub filled : Filled K (h + 1) (ByRules t ws K h i) a 0 b (counted m)

-- rule by rule
module _ {t ws K : List ℕ} {h : ℕ} {a : List ℕ} where
  pub rules-begin : Ready a 0 → ByFirst t ws K h a 0 a 0
  rules-begin y = record { long = refl; filled = nothing_yet y (λ x w. omega (arith, w.below)) }

  pub rules-same : {i : ℕ} {b b' : List ℕ} {m m' : ℕ} → b' ≡ b → m' ≡ m → ByFirst t ws K h a i b m → ByFirst t ws K h a i b' m'
  rules-same {i} {b} {b'} {m} {m'} e f w = subst (λ (c : List ℕ). ByFirst t ws K h a i c m') (sym e) (subst (λ (n : ℕ). ByFirst t ws K h a i b n) (sym f) w)

  module _ {b : List ℕ} {m : ℕ} (i : ℕ) (w : ByFirst t ws K h a i b m) where
    pub rules-end : check_table t ≡ got tt → i ≡ number t 7 → Filled K (h + 1) (Level (KeyGiven t ws) K h) a 0 b (counted m)
    rules-end e q = same w.filled (λ x v. by_level t ws K h i x e v (omega arith)) (λ x v. rw q (level_by t ws K h x v))

    -- a rule more, of which nothing is tried that is not tried by those before
    pub rules-skip : ((x : ℕ) → ByRules t ws K h (i + 1) x → ByRules t ws K h i x) → ByFirst t ws K h a (i + 1) b m
    rules-skip f = record { long = w.long; filled = same w.filled (λ x s. record { index = s.index; below = omega (arith, s.below); tried = s.tried }) f }

    module _ {c : List ℕ} where
      pub rules-turn : {r : ℕ} → Filled K (h + 1) (Tried t ws (place t i) (blank_item (h + 1)) (none_of (rank_of t (place t i))) K) b m c (counted r)
          → length c ≡ length b → ByFirst t ws K h a (i + 1) c r
      rules-turn v len = record {
        long = len ∙ w.long;
        filled = then w.filled w.long v (λ x s. record { index = s.index; below = omega (arith, s.below); tried = s.tried })
            (λ x s. record { index = i; below = omega arith; tried = s }) (by_cases t ws K h i);
      }

      pub rules-stop : Filled K (h + 1) (Tried t ws (place t i) (blank_item (h + 1)) (none_of (rank_of t (place t i))) K) b m c too_many → check_table t ≡ got tt → i < number t 7
          → Filled K (h + 1) (Level (KeyGiven t ws) K h) a 0 c too_many
      rules-stop v e l = stop w.filled w.long v (λ x s. by_level t ws K h i x e s (omega arith))
          (λ x s. by_level t ws K h (i + 1) x e (record { index = i; below = omega arith; tried = s }) (omega arith))

pub ready-none : (a : List ℕ) → Ready a 0
ready-none a = record { sorted = sorted_none; count = omega arith }

-- for the loop over the rules, of which one is the i-th
module _ {t ws K : List ℕ} {h : ℕ} (A : Asked t ws K h) where
  module _ (e : check_table t ≡ got tt) where
    pub codes-fine : (c : ℕ) → Mem c K → (1 ≤ (known_of c).item.category) × (c < 2 ^ 60)
    codes-fine c m = code-fine t ws e A.short c (A.exact.right c m)

    pub rule-ends : (i rule : ℕ) → i < number t 7 → rule ≡ place t i → rule_end t rule ≤ length t
    rule-ends i rule l q = subst (λ (r : ℕ). rule_end t r ≤ length t) (sym q) ((fine-table t e).rules i l).end

pub next_place : (t : List ℕ) (i rule r : ℕ) → rule ≡ place t i → r ≡ rule_end t rule → r ≡ place t (i + 1)
next_place t i rule r e f = f ∙ ap (rule_end t) e ∙ sym (past-suc i (rule_end t) (first_rule t)) ∙ ap (λ (n : ℕ). place t n) (omega arith)

pub first-place : (t : List ℕ) (r : ℕ) → r ≡ first_rule t → r ≡ place t 0
unfolding past
first-place t r e = e

pub tried-at : (t ws K : List ℕ) (h : ℕ) {b : List ℕ} {m : ℕ} {c : List ℕ} {q : Option ℕ} (i rule : ℕ) → rule ≡ place t i
    → Filled K (h + 1) (Tried t ws rule (blank_item (h + 1)) (none_of (rank_of t rule)) K) b m c q
    → Filled K (h + 1) (Tried t ws (place t i) (blank_item (h + 1)) (none_of (rank_of t (place t i))) K) b m c q
tried-at t ws K h {b} {m} {c} {q} i rule e w = subst (λ (r : ℕ). Filled K (h + 1) (Tried t ws r (blank_item (h + 1)) (none_of (rank_of t r)) K) b m c q) e w
