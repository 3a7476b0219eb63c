-- Two tables whose bytes agree are checked alike. Where u has from q on the bytes that t has from p up to e, a rule that fits in there is
-- read from both with the same outcome: the same marks, functions and distance passed, or refusals that correspond (`rule-alike`). Where
-- both begin with the same header and dimensions, these are (`header-same`, `dims-same`).
use Prim.Native.Nat.{ℕ, zero, suc, ◌+◌, ◌*◌, ◌-◌, ◌≤◌, ◌<◌}
use mathlib.Core.Path.{◌≡◌, refl, sym, ap, ap₂, ◌∙◌}
use mathlib.Core.Bool.{Bool, true, false, not, cond, ◌||◌}
use mathlib.Core.List.{List, ◌∷◌}
use native.Mathlib.Omega.{arith}
use lib.ListN.{length}
use lib.Dec.{ltb, eqb}
use borrow.Author.Tests.{ltb-false, le-ltb, eqb-false}
use Rattle.meaning.specs.declared.Refusal.{Refusal}
use Rattle.meaning.specs.declared.Refusal.TheVariants.{Range, Category, Function, Symbol, Twice, Missing}
use Rattle.meaning.specs.Table.{got, ◌>>=◌, ◌>>◌, refuse_if, times, any, member, outside, byte, number, byte_field, number_field, symbol_field, limited, dimension, category, rank}
use Rattle.meaning.specs.Table.{Used, unused, word, part, symbol, row, missing, rank_of, category_of, daughter_of, dimension_of, rule_head, rule_body, rule, limits, header}
use Rattle.meaning.specs.Decode.{past, row_end, rows_of}
use Rattle.meaning.proofs.Fields.{limited-there, headed}
use Rattle.meaning.proofs.Ends.{head_more, symbol_end, row-end, category-end, In, times-past}
use Rattle.meaning.proofs.Places.{past_one, row_is, rows_are}
use Rattle.meaning.proofs.Moved as moved
use Rattle.meaning.proofs.Moved.{Copied, At, at_more}
use Rattle.claims.proofs.Alike.{Alike, both_got, alike_next, alike-test, alike-map, times-alike, Equal, alike_same}

-- u has from q on what t has from p up to e, and that is within both
pub record Window (t u : List ℕ) (p q e : ℕ) : Type 0 where
  pub fits : e ≤ length t
  pub fits' : e + q ≤ length u + p
  pub copied : Copied t u p q e

-- the categories' dimensions are the same
pub record SameTop (t u : List ℕ) : Type 0 where
  pub top : byte t 5 ≡ byte u 5
  pub dims : (c : ℕ) → 1 ≤ c → c ≤ byte t 5 → dimension_of t c ≡ dimension_of u c

-- the rank and the daughters' dimensions are the same
record SameHead (t u : List ℕ) (rule rule' : ℕ) : Type 0 where
  ranks : rank_of t rule ≡ rank_of u rule'
  dims : (k : ℕ) → 1 ≤ k → k ≤ rank_of t rule → dimension_of t (daughter_of t rule k) ≡ dimension_of u (daughter_of u rule' k)

-- there is room before e for n rows from a place on, where J says so
pub record RowRoom (t : List ℕ) (e : ℕ) (J : ℕ → ℕ → Type 0) : Type 0 where
  pub one : (n at : ℕ) → J (suc n) at → at < e
  pub end : (n at : ℕ) → J (suc n) at → byte t at ≤ 16 → row_end t at ≤ e
  pub rest : (n at : ℕ) → J (suc n) at → byte t at ≤ 16 → J n (row_end t at)

-- there is room before e for a rule
pub record RuleRoom (t : List ℕ) (e : ℕ) (J : ℕ → ℕ → Type 0) (at : ℕ) : Type 0 where
  pub head : at + 4 ≤ e
  pub body : rank_of t at ≤ 3 → 1 ≤ category_of t at → category_of t at ≤ byte t 5 → (rows_of t at ≤ e) × J (dimension_of t (category_of t at)) (rows_of t at)

any_same : (n : ℕ) (f g : ℕ → Bool) → ((i : ℕ) → i < n → f i ≡ g i) → any n f ≡ any n g
unfolding any
any_same zero f g h = refl
any_same (suc n) f g h = ap₂ ◌||◌ (h n (omega arith)) (any_same n f g (λ i l. h i (omega arith)))

missing-same : {t u : List ℕ} {rule rule' : ℕ} → SameHead t u rule rule' → (used : Used) → missing t rule used ≡ missing u rule' used
unfolding missing
missing-same {t} {u} {rule} {rule'} s used = rw (← s.ranks) (any_same (rank_of t rule) _ _ (λ k h. ap (λ d. any d (λ c. not (used k c))) (s.dims (k + 1) (omega arith) (omega arith))))

-- a field that is there is read
byte-read : (t : List ℕ) (at : ℕ) → at < length t → byte_field t at ≡ got (byte t at, at + 1)
unfolding byte_field
byte-read t at h = rw (le-ltb (length t) (at + 1) (omega arith))

number_read : (t : List ℕ) (at : ℕ) → at + 2 ≤ length t → number_field t at ≡ got (number t at, at + 2)
unfolding number_field
number_read t at h = rw (le-ltb (length t) (at + 2) h)

symbol-read : (t : List ℕ) (at : ℕ) → at + 3 ≤ length t → symbol_field t at ≡ got (byte t at, number t (at + 1), at + 3)
unfolding symbol_field
symbol-read t at h = rw (le-ltb (length t) (at + 3) h)

module _ {t u : List ℕ} {p q e : ℕ} (w : Window t u p q e) where
  pub byte-same : {at at' : ℕ} → At p q at at' → at < e → byte t at ≡ byte u at'
  byte-same a h = moved.byte-same w.copied a h

  pub number_same : {at at' : ℕ} → At p q at at' → at + 1 < e → number t at ≡ number u at'
  number_same a h = moved.number_same w.copied a h

  module _ (Q : Refusal → Refusal → Type 0) (moved : (f : ℕ → Refusal) (at at' : ℕ) → At p q at at' → Q (f at) (f at')) where
    limited-alike : (low high high' : ℕ) (f : ℕ → Refusal) {at at' : ℕ} → high ≡ high' → At p q at at' → at < e
        → Alike Q (At p q) (limited t low high (f at) at) (limited u low high' (f at') at')
    unfolding limited
    limited-alike low high high' f {at} {at'} s a h =
        rw (byte-read t at (omega (arith, w.fits)), byte-read u at' (omega (arith, w.fits')))
        (alike-test Q (outside low high (byte t at)) (outside low high' (byte u at')) (ap₂ (outside low) s (byte-same a h)) (moved f at at' a) (λ _. both_got (at_more 1 a)))

    -- two readings that went equally far and marked the same
    abbrev Level : ℕ × Used → ℕ × Used → Type 0
    Level a b = At p q a.0 b.0 × (a.1 ≡ b.1)

    module _ {rule rule' : ℕ} (s : SameHead t u rule rule') where
      part-alike : (kind n : ℕ) (used : Used) {at at' : ℕ} → 1 ≤ kind → At p q at at'
          → Alike Q Equal (part t rule at kind n used) (part u rule' at' kind n used)
      unfolding part
      part-alike kind n used {at} {at'} k a =
          alike-test Q (ltb (rank_of t rule) kind) (ltb (rank_of u rule') kind) (ap (λ r. ltb r kind) s.ranks) (moved Symbol at at' a) (λ b.
          alike-test Q (outside 1 (dimension_of t (daughter_of t rule kind)) n) (outside 1 (dimension_of u (daughter_of u rule' kind)) n)
          (ap (λ d. outside 1 d n) (s.dims kind k (ltb-false (rank_of t rule) kind b))) (moved (λ x. Symbol (x + 1)) at at' a) (λ _.
          alike-test Q (used (kind - 1) (n - 1)) (used (kind - 1) (n - 1)) refl (moved Twice at at' a) (λ _. both_got refl)))

      kind-alike : (kind n : ℕ) (used : Used) {at at' : ℕ} → At p q at at'
          → Alike Q Equal (cond (eqb kind 0) (word at n >> got used) (part t rule at kind n used)) (cond (eqb kind 0) (word at' n >> got used) (part u rule' at' kind n used))
      unfolding word
      kind-alike kind n used {at} {at'} a = go (eqb kind 0) refl
        where
          go : (b : Bool) → eqb kind 0 ≡ b → Alike Q Equal (cond b (word at n >> got used) (part t rule at kind n used)) (cond b (word at' n >> got used) (part u rule' at' kind n used))
          go true f = alike-test Q (eqb n 0) (eqb n 0) refl (moved (λ x. Symbol (x + 1)) at at' a) (λ _. both_got refl)
          go false f = let z : kind ≡ 0 → ⊥ = eqb-false kind 0 f in part-alike kind n used (omega arith) a

      symbol-alike : (x y : ℕ × Used) → Level x y → x.0 + 3 ≤ e → Alike Q Level (symbol t rule x) (symbol u rule' y)
      unfolding symbol
      symbol-alike x y (a, m) h =
          rw (symbol-read t x.0 (omega (arith, w.fits)), symbol-read u y.0 (omega (arith, w.fits')), ← byte-same a (omega arith), ← number_same (at_more 1 a) (omega arith), ← m)
          (alike_next Q (λ used. got (x.0 + 3, used)) (λ used. got (y.0 + 3, used)) (kind-alike (byte t x.0) (number t (x.0 + 1)) x.1 a) (λ v v' _ k. both_got (at_more 3 a, k)))

      -- a row whose symbols are before the end, if they are not too many
      row-alike : (x y : ℕ × Used) → Level x y → x.0 < e → (byte t x.0 ≤ 16 → row_end t x.0 ≤ e) → Alike Q Level (row t rule x) (row u rule' y)
      unfolding row
      row-alike x y (a, m) h l =
          rw (byte-read t x.0 (omega (arith, w.fits)), byte-read u y.0 (omega (arith, w.fits')), ← byte-same a h)
          (alike-test Q (ltb 16 (byte t x.0)) (ltb 16 (byte t x.0)) refl (moved Range x.0 y.0 a) (λ few.
          times-alike Q (λ n z. z.0 + 3 * n ≤ e) Level (symbol t rule) (symbol u rule')
          (λ n x y i r. symbol-alike x y r (omega arith))
          (λ n x x' i r. omega (arith, (symbol_end t rule x x' r).0))
          (byte t x.0) (x.0 + 1, x.1) (y.0 + 1, y.1) (omega (arith, row_is t x.0, l (ltb-false 16 (byte t x.0) few))) (at_more 1 a, m)))

    module _ (S : SameTop t u) {J : ℕ → ℕ → Type 0} (R : RowRoom t e J) where
      -- of a rule whose daughters' categories were read, the daughters' dimensions are the same
      same_head : {at at' next : ℕ} → At p q at at' → rows_of t at ≤ e → times (rank_of t at) (category t) (at + 4) ≡ got next → (next ≡ rows_of t at) × SameHead t u at at'
      same_head {at} {at'} {next} a h r =
          let d = times-past (λ x. x) (λ x. x + 1) (In t (byte t 5)) (category t) (category-end t) (rank_of t at) (at + 4) next r in
          (d.0, record { ranks = byte-same (at_more 3 a) (omega (arith, rows_are t at)); dims = λ k low high. one k low high (d.1 (k - 1) (omega arith)) })
        where
          one : (k : ℕ) → 1 ≤ k → k ≤ rank_of t at → In t (byte t 5) (past (k - 1) (λ x. x + 1) (at + 4)) → dimension_of t (daughter_of t at k) ≡ dimension_of u (daughter_of u at' k)
          one k low high i =
              let x : past (k - 1) (λ x. x + 1) (at + 4) ≡ at + 3 + k = past_one (k - 1) (at + 4) ∙ omega arith in
              let y : In t (byte t 5) (at + 3 + k) = rw x at i in
              S.dims (daughter_of t at k) y.0 y.1 ∙ ap (dimension_of u) (byte-same (at_more k (at_more 3 a)) (omega (arith, rows_are t at)))

      rows_alike : {at at' c c' : ℕ} (n : ℕ) → SameHead t u at at' → At p q at at' → At p q c c' → J n c
          → Alike Q (At p q) (times n (row t at) (c, unused) >>= (λ x. refuse_if (missing t at x.1) (Missing at) >> got x.0))
          (times n (row u at') (c', unused) >>= (λ x. refuse_if (missing u at' x.1) (Missing at') >> got x.0))
      rows_alike {at} {at'} {c} {c'} n s a r j =
          alike_next Q (λ (x : ℕ × Used). refuse_if (missing t at x.1) (Missing at) >> got x.0) (λ (x : ℕ × Used). refuse_if (missing u at' x.1) (Missing at') >> got x.0)
          (times-alike Q (λ k x. J k x.0) Level (row t at) (row u at')
          (λ k x y i l. row-alike s x y l (R.one k x.0 i) (R.end k x.0 i))
          (λ k x x' i l. let f = row-end t at x x' l in rw f.0 (R.rest k x.0 i f.1.short))
          n (c, unused) (c', unused) j (r, refl))
          (λ x y _ l. alike-test Q (missing t at x.1) (missing u at' y.1) (missing-same s x.1 ∙ ap (missing u at') l.1) (moved Missing at at' a) (λ _. both_got l.0))

      body_alike : {at at' : ℕ} → At p q at at' → 1 ≤ category_of t at → category_of t at ≤ byte t 5 → rows_of t at ≤ e → J (dimension_of t (category_of t at)) (rows_of t at)
          → Alike Q (At p q) (rule_body t at (at + 4)) (rule_body u at' (at' + 4))
      unfolding rule_body
      body_alike {at} {at'} a low high h j =
          let ranks : rank_of t at ≡ rank_of u at' = byte-same (at_more 3 a) (omega (arith, rows_are t at)) in
          let kinds : category_of t at ≡ category_of u at' = byte-same (at_more 2 a) (omega (arith, rows_are t at)) in
          rw (← ranks, ← kinds, ← S.dims (category_of t at) low high)
          (alike_next Q _ _ (times-alike Q (λ n x. x + n ≤ e) (At p q) (category t) (category u)
          (λ n x y i r. limited-alike 1 (byte t 5) (byte u 5) Category S.top r (omega arith))
          (λ n x x' i r. omega (arith, (category-end t x x' r).0))
          (rank_of t at) (at + 4) (at' + 4) (omega (arith, rows_are t at)) (at_more 4 a))
          (λ c c' read r. let (x, s) = same_head a h read in rows_alike (dimension_of t (category_of t at)) s a r (rw x j)))

      head-alike : (es es' : List ℕ) {at at' : ℕ} → At p q at at' → at + 4 ≤ e → member (number t at) es ≡ member (number t at) es'
          → Alike Q (At p q) (rule_head t es at) (rule_head u es' at')
      unfolding rule_head
      head-alike es es' {at} {at'} a h m =
          rw (number_read t at (omega (arith, w.fits)), number_read u at' (omega (arith, w.fits')), ← number_same a (omega arith))
          (alike-test Q (eqb (number t at) 0) (eqb (number t at) 0) refl (moved Function at at' a) (λ _.
          alike-test Q (member (number t at) es) (member (number t at) es') m (moved Function at at' a) (λ _.
          alike_next Q (rank t) (rank u) (limited-alike 1 (byte t 5) (byte u 5) Category S.top (at_more 2 a) (omega arith)) (λ c c' read r.
          limited-alike 0 3 3 Range refl r (omega (arith, (category-end t (at + 2) c read).0))))))

      -- a rule that has room is read alike after functions among which its own is, or is not, in both
      pub rule-alike : (x y : ℕ × List ℕ) → At p q x.0 y.0 → RuleRoom t e J x.0 → member (number t x.0) x.1 ≡ member (number t x.0) y.1
          → Alike Q (λ x' y'. At p q x'.0 y'.0 × (x'.1 ≡ number t x.0 ∷ x.1) × (y'.1 ≡ number t x.0 ∷ y.1)) (rule t x) (rule u y)
      unfolding rule
      rule-alike x y a o m =
          alike_next Q _ _ (head-alike x.1 y.1 a o.head m) (λ c c' read r.
          let k = headed t x.1 x.0 c read in
          let (f, low, high, l) = head_more t x.1 x.0 c read in
          let z : c' ≡ y.0 + 4 = omega (arith, k.next) in
          let (b, j) = o.body k.rank low high in
          rw (k.next, z) (alike_next Q _ _ (body_alike a low high b j) (λ n n' _ s. both_got (s, refl, ap (λ f. f ∷ y.1) (sym (number_same a (omega (arith, o.head))))))))

-- two tables that begin alike
pub at-start : (at : ℕ) → At 0 0 at at
at-start at = record { from = omega arith; level = refl }

pub same_place : {at at' : ℕ} → At 0 0 at at' → at ≡ at'
same_place a = omega arith

pub unmoved : (f : ℕ → Refusal) (at at' : ℕ) → At 0 0 at at' → f at ≡ f at'
unmoved f at at' a = ap f (same_place a)

module _ {t u : List ℕ} {e : ℕ} (w : Window t u 0 0 e) (nine : 9 ≤ e) where
  pub header-same : header t ≡ header u
  unfolding header limits number
  header-same = rw (
    le-ltb (length t) 9 (omega (arith, w.fits)),
    le-ltb (length u) 9 (omega (arith, w.fits')),
    b 0 (omega arith),
    b 1 (omega arith),
    b 2 (omega arith),
    b 3 (omega arith),
    b 4 (omega arith),
    b 5 (omega arith),
    b 6 (omega arith),
    b 7 (omega arith),
    b 8 (omega arith),
  )
    where
      b : (i : ℕ) → i < 9 → byte t i ≡ byte u i
      b i h = byte-same w (at-start i) (omega arith)

  module _ (all : 9 + byte t 5 ≤ e) where
    pub same-top : SameTop t u
    same-top = record { top = byte-same w (at-start 5) (omega arith); dims = λ c low high. byte-same w (at-start (8 + c)) (omega arith) }

    pub dims-same : times (byte t 5) (dimension t) 9 ≡ times (byte u 5) (dimension u) 9
    dims-same = alike_same (rw (← same-top.top) (alike-map Equal (λ a b. same_place) (times-alike Equal (λ n x. x + n ≤ e) (At 0 0) (dimension t) (dimension u)
        (λ n x y i r. limited-alike w Equal unmoved 1 3 3 Range refl r (omega arith))
        (λ n x x' i r. omega (arith, (limited-there t 1 3 (Range x) x x' r).0))
        (byte t 5) 9 9 (omega arith) (at-start 9))))
