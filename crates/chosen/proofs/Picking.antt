-- The first combination that works is the chosen one: function numbers rise with the walk, and so do the sequences of places.
use mathlib.Core.Path.{◌≡◌, refl, ap, sym, subst, ◌∙◌}
use mathlib.Core.Logic.{◌⊎◌, inl, inr}
use mathlib.Core.Option.{some}
use mathlib.Core.List.{List, ◌∷◌, map, Memᴰ as Mem}
use Prim.Native.Nat.{ℕ, suc, ◌<◌, ◌≤◌, ◌^◌}
use native.Mathlib.Omega.{arith}
use native.Mathlib.Decide.{dec_lt}
use lib.ListN.{length, get_or, get_elem?, length-map}
use Rattle.meaning.specs.Order.{Each, Lex}
use Rattle.meaning.specs.Range.{Item}
use Rattle.meaning.specs.Grammar.{Rule}
use Rattle.meaning.specs.Giving.{Gives}
use Rattle.meaning.specs.Table.{number, rank_of}
use Rattle.meaning.specs.Decode.{rule_at, rule_end, first_rule, grammar_of}
use Rattle.meaning.specs.Chart.{Known, Way, Least, Made, GivenBy, things, tallest}
use Rattle.meaning.proofs.Theory.{Lower, mem-map, map-mem, mems-at}
use Rattle.meaning.proofs.Order.{each_of}
use Rattle.meaning.proofs.Charts.{deduction}
use Rattle.meaning.proofs.Growth.{way-exists}
use Rattle.meaning.proofs.Decoded.{several-mem, valid-grammar}
use Rattle.meaning.proofs.Ends.{fine-table}
use Rattle.store.specs.Set.{key_of}
use Rattle.store.specs.Code.{unpacked, packed, known_of}
use Rattle.store.proofs.Laws.{at_mem}
use Rattle.store.proofs.Packing.{unpack-pack}
use Rattle.phrase.specs.declared.items.Item.{Item as CodedItem}
use Rattle.phrase.specs.Phrase.{item_of, RuleOf}
use Rattle.rules.proofs.RuleThere.{fine}
use Rattle.search.specs.Keys.{KeyMade}
use Rattle.search.specs.Tried.{coded}
use Rattle.search.proofs.Keys.{made-small}
use Rattle.search.proofs.Choosing.{coded-known, coded-full}
use Rattle.search.proofs.Ruling.{code-fine, full_size}
use Rattle.chosen.specs.declared.Choice.{Choice}
use Rattle.chosen.specs.declared.walk.Way.{Way as Found}
use Rattle.std.specs.Prelude.{Option, Some, IsSome}
use Rattle.chosen.specs.Walk.{Works, Passed, Looking, Walking, Finds, found, nowhere}
use Rattle.chosen.specs.Chosen.{Choosing, Chooses}
use Rattle.chosen.proofs.Ways.{three_of, lex-three, way-works, works-way, place₁, place₂, place₃, bounded}

module _ {t ws order K : List ℕ} {code : ℕ} (C : Choosing t ws order K code) where
  -- every item that can be made is known, at most as high
  low : (x : Item) (m : ℕ) → Made (grammar_of t) ws x m → Lower (map known_of K) x m
  unfolding KeyMade
  low x m y =
      let u = unpack-pack x (made-small t ws C.accepted C.short x m y) in
      let h = C.all.whole (packed x) m (rw u y) in
      let i : unpacked (key_of h.code) ≡ x = ap unpacked h.is ∙ u in
      (known_of h.code, mem-map known_of h.there, i, (C.all.right h.code h.there).least m (rw i y))

  least : Each (Least (Made (grammar_of t) ws)) (map known_of K)
  unfolding KeyMade
  least = each_of (map known_of K) (λ k m. let (c, i, q) = map-mem known_of K m in let r = C.all.right c i in rw q (record { made = r.made; least = r.least }))

  -- each known item has a way
  way : (f : ℕ) × (ds : List (Known Item)) × Each (λ d. Mem d (map known_of K)) ds
      × GivenBy (grammar_of t) ws f (things ds) (known_of code).item × ((known_of code).height ≡ suc (tallest ds))
  way = way-exists (deduction (grammar_of t) ws (valid-grammar t C.accepted)) (map known_of K) low least (known_of code) (mem-map known_of C.there)

  rule-of : (f : ℕ) → f < length order → RuleOf t (get_or order f 0)
  rule-of f l = let (i, h, e) = C.ranked.one f l in record { accepted = C.accepted; index = i; below = omega (arith, C.rules); there = e }

  few : (f : ℕ) → f < length order → rank_of t (get_or order f 0) ≤ 3
  few f l = (fine t (get_or order f 0) (rule-of f l)).rank

  pub code-small : code < 2 ^ 60
  code-small = (code-fine t ws C.accepted C.short code (C.all.right code C.there)).1

  pub order-few : length order ≤ 256
  order-few = omega (arith, C.rules, (fine-table t C.accepted).count)

  looking : Looking K (coded code)
  looking = record {
    sorted = C.all.sorted;
    some = omega (arith, (at_mem C.there).1);
    most = C.most;
    codes = λ c m. code-fine t ws C.accepted C.short c (C.all.right c m);
    high = let (f, ds, ms, g, h) = way in omega arith;
    named = coded-full code (code-fine t ws C.accepted C.short code (C.all.right code C.there)).0;
  }

  pub walking : (goal : CodedItem) → goal ≡ coded code → Walking t ws order K goal
  walking goal e = subst (Walking t ws order K) (sym e) (record { looking = looking; few = order-few; rules = rule-of })

  -- every way is met on the walk
  met : (g : ℕ) (qs : List ℕ) → Way (GivenBy (grammar_of t) ws) (map known_of K) (known_of code) g qs
      → (j : ℕ) × (j < length order) × (number t (get_or order j 0) ≡ g) × (length qs ≡ rank_of t (get_or order j 0)) × Works t ws order K (coded code) j (get_or qs 0 0) (get_or qs 1 0) (get_or qs 2 0)
  unfolding GivenBy grammar_of rule_at item_of unpacked
  met g qs w =
      let (r, q, y) = w.given in
      let (i, l, e) = several-mem (rule_at t) (rule_end t) (number t 7) (first_rule t) y.known in
      let (j, h, p) = C.ranked.each i (omega (arith, C.rules)) in
      let s : r ≡ rule_at t (get_or order j 0) = e ∙ ap (rule_at t) (sym p) in
      let y' = subst (λ (r : Rule). Gives (grammar_of t) ws r (things w.daughters) (known_of code).item) s y in
      let n = full_size t ws (get_or order j 0) w.daughters y' in
      let m : length qs ≡ length w.daughters = sym (length-map qs (get_elem? (map known_of K))) ∙ ap length w.found ∙ length-map w.daughters some in
      (j, h, ap (λ (r : Rule). r.function) (sym s) ∙ q, m ∙ n, way-works t ws order K (coded code) j qs w.daughters w.found (m ∙ n) n (few j h) y' w.high)

  -- function numbers rise with the walk
  earlier : (j f : ℕ) → j < length order → number t (get_or order j 0) < number t (get_or order f 0) → j < f
  earlier j f l h = go (dec_lt j f) (dec_lt f j)
    where
      go : Dec (j < f) → Dec (f < j) → j < f
      go (yes a) b = a
      go (no a) (yes b) = absurd (omega (arith, C.ranked.rising f j b l))
      go (no a) (no b) = let e : j ≡ f = omega arith in absurd (omega (arith, ap (λ (i : ℕ). number t (get_or order i 0)) e))

  same_place : (j f : ℕ) → j < length order → f < length order → number t (get_or order j 0) ≡ number t (get_or order f 0) → j ≡ f
  same_place j f l m e = go (dec_lt j f) (dec_lt f j)
    where
      go : Dec (j < f) → Dec (f < j) → j ≡ f
      go (yes a) b = absurd (omega (arith, C.ranked.rising j f a m))
      go (no a) (yes b) = absurd (omega (arith, C.ranked.rising f j b l))
      go (no a) (no b) = omega arith

  module _ {f a b c : ℕ} (below : f < length order) (w : Works t ws order K (coded code) f a b c) (p : Passed t ws order K (coded code) f a b c) where
    abbrev rank : ℕ
    rank = rank_of t (get_or order f 0)

    passed : (q r s : ℕ) → Works t ws order K (coded code) f q r s → (q < a) ⊎ ((q ≡ a) × ((r < b) ⊎ ((r ≡ b) × (s < c)))) → ⊥
    passed q r s v (inl l) = p.ones q l (r, (s, v))
    passed q r s v (inr (e, inl l)) = p.twos r l (s, subst (λ (x : ℕ). Works t ws order K (coded code) f x r s) e v)
    passed q r s v (inr (e, inr (d, l))) = p.threes s l (subst (λ (x : ℕ). Works t ws order K (coded code) f a x s) d (subst (λ (x : ℕ). Works t ws order K (coded code) f x r s) e v))

    none_before : (g : ℕ) (qs : List ℕ) → Way (GivenBy (grammar_of t) ws) (map known_of K) (known_of code) g qs → Lex (g ∷ qs) (number t (get_or order f 0) ∷ three_of rank a b c) → ⊥
    unfolding Lex
    none_before g qs v x =
        let (j, l, e, n, u) = met g qs v in
        go j l e n u x
      where
        go : (j : ℕ) → j < length order → number t (get_or order j 0) ≡ g → length qs ≡ rank_of t (get_or order j 0) → Works t ws order K (coded code) j (get_or qs 0 0) (get_or qs 1 0) (get_or qs 2 0)
            → (g < number t (get_or order f 0)) ⊎ ((g ≡ number t (get_or order f 0)) × Lex qs (three_of rank a b c)) → ⊥
        go j l e n u (inl y) = p.functions j (earlier j f l (omega arith)) (get_or qs 0 0, (get_or qs 1 0, (get_or qs 2 0, u)))
        go j l e n u (inr (y, z)) =
            let i = same_place j f l below (e ∙ y) in
            let m : length qs ≡ rank = n ∙ ap (λ (k : ℕ). rank_of t (get_or order k 0)) i in
            let u' = subst (λ (k : ℕ). Works t ws order K (coded code) k (get_or qs 0 0) (get_or qs 1 0) (get_or qs 2 0)) i u in
            passed (get_or qs 0 0) (get_or qs 1 0) (get_or qs 2 0) u' (lex-three qs a b c (omega (arith, m, few f below)) (rw m z))

    chooses : (r : Choice) → r.function ≡ number t (get_or order f 0) → r.one ≡ a → r.two ≡ b → r.three ≡ c → Chooses t ws K code r
    chooses r e one two three =
        record {
          places = three_of rank a b c;
          chosen = record {
            way = rw (e, ← coded-known code) (works-way t ws order K (coded code) f looking (few f below) w);
            first = λ g qs v x. none_before g qs v (rw (← e) x);
          };
          one = one ∙ place₁ t ws order K (coded code) f looking (few f below) w;
          two = two ∙ place₂ t ws order K (coded code) f looking (few f below) w;
          three = three ∙ place₃ t ws order K (coded code) f looking (few f below) w;
        }

  -- the walk's answer
  pub somewhere : {goal : CodedItem} {r : Option Found} → goal ≡ coded code → Finds t ws order K goal r → IsSome r
  somewhere e (found l w p) = refl
  somewhere {goal} e (nowhere n) =
      let (f, ds, ms, g, h) = way in
      let (ps, s) = mems-at ms in
      let (j, l, u, v, w) = met f ps (record { daughters = ds; found = s; given = g; high = h }) in
      absurd (n j l (get_or ps 0 0, (get_or ps 1 0, (get_or ps 2 0, subst (λ (x : CodedItem). Works t ws order K x j (get_or ps 0 0) (get_or ps 1 0) (get_or ps 2 0)) (sym e) w))))

  module _ {goal : CodedItem} (e : goal ≡ coded code) {w : Found} (F : Finds t ws order K goal (Some w)) where
    found_at : Finds t ws order K (coded code) (Some w)
    found_at = subst (λ (g : CodedItem). Finds t ws order K g (Some w)) e F

    pub found_below : w.function < length order
    found_below = go found_at
      where
        go : {v : Found} → Finds t ws order K (coded code) (Some v) → v.function < length order
        go (found l w p) = l

    -- its places are those of known items, or 0
    pub found_small : (w.one < 65536) × (w.two < 65536) × (w.three < 65536)
    found_small = go found_at
      where
        go : {v : Found} → Finds t ws order K (coded code) (Some v) → (v.one < 65536) × (v.two < 65536) × (v.three < 65536)
        go {v} (found l w p) =
            let h = bounded t ws order K (coded code) v.function looking (few v.function l) w in
            (omega (arith, h.0, C.most), omega (arith, h.1, C.most), omega (arith, h.2, C.most))

    pub picked : (r : Choice) → r.function ≡ number t (get_or order w.function 0) → r.one ≡ w.one → r.two ≡ w.two → r.three ≡ w.three → Chooses t ws K code r
    picked r g one two three = go found_at r g one two three
      where
        go : {v : Found} → Finds t ws order K (coded code) (Some v) → (r : Choice) → r.function ≡ number t (get_or order v.function 0)
            → r.one ≡ v.one → r.two ≡ v.two → r.three ≡ v.three → Chooses t ws K code r
        go (found l w p) r g one two three = chooses l w p r g one two three
