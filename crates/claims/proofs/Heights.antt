-- Deep is never given: where an item's least height is h there are items of every height from h down to 1, so h different true items, and
-- with more than 2,000 of them the chart is Over any room. So of a whole chart, and of what the reader writes, all heights up to the
-- greatest occur, and none passes the count. The main statements: `never-deep`, `chart-heights`, `read-heights`.
use mathlib.Core.Path.{◌≡◌, refl, sym, ap, ◌∙◌, subst}
use mathlib.Core.List.Memᴰ.{head as here}
use mathlib.Core.List.Memᴰ.{tail as there}
use mathlib.Core.List.{List, [], ◌∷◌, Memᴰ as Mem}
use Prim.Native.Nat.{ℕ, zero, suc, ◌*◌, ◌-◌, ◌≤◌, ◌<◌}
use native.Mathlib.Omega.{arith}
use native.Mathlib.Decide.{dec_le}
use lib.ListN.{length, length-map, get_or, replicate}
use Rattle.meaning.specs.Decode.{grammar_of, words_of}
use Rattle.meaning.specs.Order.{Each, each_none, each_more, Sorted, sorted_none, sorted_more}
use Rattle.meaning.specs.Range.{Item}
use Rattle.meaning.specs.Grammar.{Grammar}
use Rattle.meaning.specs.Giving.{True}
use Rattle.meaning.specs.Valid.{Valid}
use Rattle.meaning.specs.Chart.{Known, Entry, tallest, Least, Made, ChartOf, item, things}
use Rattle.meaning.specs.Reading.{room, laid, Over, Verdict, yes_at, no_goal, Read, bad_input, full, deep, read}
use Rattle.meaning.specs.TreeWriting.{stated_at, blank}
use Rattle.meaning.proofs.Order.{each_at, each_of, each_map, each_both, Nodup}
use Rattle.meaning.proofs.Theory.{Deduction, bounded, map-mem}
use Rattle.meaning.proofs.Charts.{deduction}
use Rattle.meaning.proofs.Determined.{valid-input, room_most}
use Rattle.meaning.proofs.Codes.{refusal-code}
use Rattle.meaning.proofs.Growth as growth
use Rattle.meaning.proofs.Passing.{get_or-mem, known_is, shows}
use Rattle.claims.specs.Across.{Climbs}

-- one item of each height from n down to 1
record Stairs {A : Type 0} (Made : A → ℕ → Type 0) (n : ℕ) (l : List (Known A)) : Type 0 where
  many : length l ≡ n
  least : Each (Least Made) l
  below : Each (λ e. e.height ≤ n) l
  falling : Sorted (λ d e. e.height < d.height) l

module _ {A : Type 0} {Made : A → ℕ → Type 0} {Gives : ℕ → List A → A → Type 0} (D : Deduction Made Gives) where
  -- made at a height that is at most n
  abbrev Within : ℕ → A → Type 0
  Within n x = (m : ℕ) × Made x m × (m ≤ n)

  -- daughters each made within n levels, if each is not not
  all-within : (n : ℕ) (ds : List (Known A)) → Each (λ d. (Within n d.item → ⊥) → ⊥) ds
      → (((es : List (Known A)) → Each (λ e. Made e.item e.height) es → things es ≡ things ds → tallest es ≤ n → ⊥) → ⊥)
  unfolding tallest
  all-within n [] each_none k = k [] each_none refl (omega arith)
  all-within n (d ∷ ds) (each_more h hs) k =
      h (λ (m, y, l). all-within n ds hs (λ es ys is ls. k (record { item = d.item; height = m } ∷ es) (each_more y ys) (cc) (omega arith)))

  -- below an item of least height there is one of the height before
  one_lower : (x : A) (n : ℕ) → Least Made (record { item = x; height = suc (suc n) }) → ((y : A) → Least Made (record { item = y; height = suc n }) → ⊥) → ⊥
  one_lower x n l none-there =
      let (f, ds, ms, g, q) = D.down x (suc (suc n)) l.made in
      all-within n ds (each_both lower (bounded ds (omega arith)) ms) (λ es ys is h.
      let least : suc (suc n) ≤ suc (tallest es) = l.least (suc (tallest es)) (D.up f es x (rw is g) ys) in
      omega arith)
    where
      lower : (d : Known A) → d.height ≤ suc n → Made d.item d.height → (Within n d.item → ⊥) → ⊥
      lower d h y never = go (dec_le d.height n)
        where
          go : Dec (d.height ≤ n) → ⊥
          go (yes b) = never (d.height, y, b)
          go (no b) =
              let e : d.height ≡ suc n = omega arith in
              none-there d.item (record { made = rw e at y; least = λ m z. above m z (dec_le m n) })
            where
              above : (m : ℕ) → Made d.item m → Dec (m ≤ n) → suc n ≤ m
              above m z (yes c) = absurd (never (m, z, c))
              above m z (no c) = omega arith

  stairs : (n : ℕ) (x : A) → Least Made (record { item = x; height = suc n }) → ((l : List (Known A)) → Stairs Made (suc n) l → ⊥) → ⊥
  stairs zero x l k = k (record { item = x; height = 1 } ∷ []) (record {
    many = refl;
    least = each_more l each_none;
    below = each_more (omega arith) each_none;
    falling = sorted_more each_none sorted_none;
  })
  stairs (suc n) x l k = one_lower x n l (λ y m. stairs n y m (λ ys s. k (record { item = x; height = suc (suc n) } ∷ ys) (record {
    many = ap suc s.many;
    least = each_more l s.least;
    below = each_more (omega arith) (each_map (λ e h. omega arith) s.below);
    falling = sorted_more (each_map (λ e h. omega arith) s.below) s.falling;
  })))

  -- items of different least heights differ
  different : {l : List (Known A)} → Each (Least Made) l → Sorted (λ d e. e.height < d.height) l → Nodup (things l)
  different each_none sorted_none = sorted_none
  different (each_more {a = d} {l = l} x xs) (sorted_more h s) = sorted_more (each_of (things l) apart) (different xs s)
    where
      apart : (y : A) → Mem y (things l) → d.item ≡ y → ⊥
      apart y m e =
          let (k, i, q) = map-mem item l m in
          omega (arith, x.least k.height (subst (λ z. Made z k.height) (sym (e ∙ q)) (each_at xs i).made), each_at h i)

module _ (G : Grammar) (ws : List ℕ) where
  true_of : {l : List (Known Item)} → Each (Least (Made G ws)) l → Each (True G ws) (things l)
  unfolding True Made
  true_of each_none = each_none
  true_of (each_more x xs) = each_more (x.made.0, x.made.1) (true_of xs)

  -- a height that passes n: more than n true items
  deep-over : {k : Known Item} (n : ℕ) → Valid G → Least (Made G ws) k → n < k.height → (Over G ws n → ⊥) → ⊥
  deep-over {k} n v l h none_over = go k.height l h
    where
      go : (m : ℕ) → Least (Made G ws) (record { item = k.item; height = m }) → n < m → ⊥
      go zero l h = omega arith
      go (suc m) l h = stairs (deduction G ws v) m k.item l (λ ys s. none_over (record {
        some = things ys;
        apart = different (deduction G ws v) s.least s.falling;
        true = true_of s.least;
        more = omega (arith, length-map ys item, s.many);
      }))

verdict-below : {G : Grammar} {ws : List ℕ} {C : List (Entry Item)} {c p : ℕ} → Verdict G ws C c p → c < 2
verdict-below (yes_at e) = omega arith
verdict-below (no_goal n) = omega arith

-- the reader gives no 22
pub never-deep : {t w : List ℕ} {allowance : ℕ} {b : List ℕ} {c p n : ℕ} {a : List ℕ} → Read t w allowance b c p n a → c ≡ 22 → ⊥
never-deep (bad_input {r = r} e) h = omega (arith, (refusal-code r).1)
never-deep (full e o) h = omega arith
never-deep {t} {w} {allowance} {b} (deep e o d) h = deep-over (grammar_of t) (words_of w) (room allowance b) (valid-input t w e) d.height (omega (arith, d.passes, room_most allowance b)) o
never-deep (read e c l v) h = omega (arith, verdict-below v)

-- where a member stands
mem-place : {e : Entry Item} {C : List (Entry Item)} → Mem e C → (j : ℕ) × (j < length C) × (get_or C j blank ≡ e)
mem-place (here q) = (0, omega arith, sym q)
mem-place (there m) = let (j, h, q) = mem-place m in (suc j, omega arith, q)

abbrev height_at : List (Entry Item) → ℕ → ℕ
height_at C i = (get_or C i blank).known.height

-- 'All heights up to the greatest occur, so none passes the count': of a chart
pub chart-heights : {G : Grammar} (ws : List ℕ) {C : List (Entry Item)} → Valid G → ChartOf G ws C → Climbs (length C) (height_at C)
chart-heights {G} ws {C} v c = record {
  occur = occur;
  count = λ i l. omega (arith, growth.chart-height (deduction G ws v) c (get_or C i blank) (get_or-mem blank C i l));
}
  where
    occur : (i h : ℕ) → i < length C → 1 ≤ h → h ≤ height_at C i → (j : ℕ) × (j < length C) × (height_at C j ≡ h)
    occur i zero l low high = absurd (omega arith)
    occur i (suc k) l low high =
        let (d, m, q) = growth.chart-heights (deduction G ws v) c (get_or C i blank) (get_or-mem blank C i l) k (omega arith) in
        let (j, h, r) = mem-place m in
        (j, h, ap (λ (e : Entry Item). e.known.height) r ∙ q)

-- and of an answer of the reader
no-records : {high : ℕ → ℕ} → Climbs 0 high
no-records = record { occur = λ i h l. absurd (omega arith); count = λ i l. absurd (omega arith) }

pub read-heights : {t w : List ℕ} {allowance : ℕ} {b : List ℕ} {c p n : ℕ} {a : List ℕ} → Read t w allowance b c p n a → Climbs n (λ i. (stated_at a i).height)
read-heights (bad_input e) = no-records
read-heights (full e o) = no-records
read-heights (deep e o d) = no-records
read-heights {t} {w} {b = b} (read {C = C} e c l v) =
    record {
      occur = λ i h m low high. let (j, k, q) = climbs.occur i h m low (rw (← stated i m) high) in (j, k, stated j k ∙ q);
      count = λ i m. rw (stated i m) (climbs.count i m);
    }
  where
    climbs : Climbs (length C) (height_at C)
    climbs = chart-heights (words_of w) (valid-input t w e) c

    stated : (i : ℕ) → i < length C → (stated_at (laid C b) i).height ≡ height_at C i
    stated i m = ap (λ (k : Known Item). k.height) (known_is (shows C (replicate (length b - 12 * length C) 0) i m))
