-- What the walk finds is the chosen function and daughters: a combination that works is a way to the item, and every way works.
use mathlib.Core.Path.{◌≡◌, refl, ap, sym, subst, ◌∙◌}
use mathlib.Core.Logic.{◌⊎◌, inl, inr}
use mathlib.Core.Option.{some}
use mathlib.Core.List.{List, [], ◌∷◌, map}
use Prim.Native.Nat.{ℕ, zero, suc, ◌<◌, ◌≤◌}
use native.Mathlib.Omega.{arith}
use native.Mathlib.Decide.{dec_lt}
use lib.ListN.{length, get_or, get_elem?, take, length-map}
use lib.Seq.{get_or-take}
use Rattle.meaning.specs.Order.{Lex}
use Rattle.meaning.specs.Range.{Item}
use Rattle.meaning.specs.Giving.{Gives}
use Rattle.meaning.specs.Table.{number, rank_of}
use Rattle.meaning.specs.Decode.{rule_at, grammar_of}
use Rattle.meaning.specs.Chart.{Known, Way, GivenBy, things, tallest}
use Rattle.store.specs.Code.{known_of}
use Rattle.store.proofs.Laws.{mem-at}
use Rattle.phrase.specs.declared.items.Item.{Item as CodedItem}
use Rattle.phrase.specs.declared.items.Daughters.{Daughters}
use Rattle.phrase.specs.Phrase.{item_of}
use Rattle.hint.specs.Hint.{seat, Open, held_as, unknown, Completes}
use Rattle.search.specs.Tried.{coded}
use Rattle.search.proofs.Choosing.{coded-known, coded-full, further}
use Rattle.search.proofs.Ruling.{open_none}
use Rattle.chosen.specs.Walk.{seats, taken, Works, Looking, zeroth, first, second, third}
use Rattle.chosen.proofs.Leading.{taken_in, taken_out, taken-other, taken-same}
use Rattle.chosen.proofs.Seats as seats
use Rattle.chosen.proofs.Seeking.{seats-in, seats-out}

-- daughters that are found at places
found_at : {A : Type 0} (z : A) (L : List A) (ps : List ℕ) (ds : List A) → map (get_elem? L) ps ≡ map some ds → (k : ℕ) → k < length ps
    → (get_or ps k 0 < length L) × (get_or ds k z ≡ get_or L (get_or ps k 0) z)
found_at z L [] ds e k l = absurd (omega arith)
found_at z L (p ∷ ps) [] e k l = let w : ◌≡◌ {A = ℕ} 0 1 = cc in absurd (omega arith)
found_at z L (p ∷ ps) (d ∷ ds) e zero l = here L p (cc)
  where
    here : (L : List _) (p : ℕ) → get_elem? L p ≡ some d → (p < length L) × (d ≡ get_or L p z)
    here [] p q = let w : ◌≡◌ {A = ℕ} 0 1 = cc in absurd (omega arith)
    here (a ∷ L) zero q = (omega arith, cc)
    here (a ∷ L) (suc p) q = let (u, v) = here L p q in (omega arith, v)
found_at z L (p ∷ ps) (d ∷ ds) e (suc k) l = found_at z L ps ds (cc) k (omega arith)

found-by : {A : Type 0} (z : A) (L : List A) (ps : List ℕ) (ds : List A) → length ds ≡ length ps
    → ((k : ℕ) → k < length ps → (get_or ps k 0 < length L) × (get_or ds k z ≡ get_or L (get_or ps k 0) z)) → map (get_elem? L) ps ≡ map some ds
found-by z L [] [] e f = refl
found-by z L [] (d ∷ ds) e f = absurd (omega arith)
found-by z L (p ∷ ps) [] e f = absurd (omega arith)
found-by z L (p ∷ ps) (d ∷ ds) e f =
    let h = f 0 (omega arith) in
    let a : get_elem? L p ≡ some d = there L p h.0 ∙ ap some (sym h.1) in
    let b = found-by z L ps ds (omega arith) (λ k l. f (suc k) (omega arith)) in
    cc
  where
    there : (L : List _) (p : ℕ) → p < length L → get_elem? L p ≡ some (get_or L p z)
    there [] p l = absurd (omega arith)
    there (a ∷ L) zero l = refl
    there (a ∷ L) (suc p) l = there L p (omega arith)

past_end : (ps : List ℕ) (k : ℕ) → length ps ≤ k → get_or ps k 0 ≡ 0
past_end [] k l = refl
past_end (p ∷ ps) zero l = absurd (omega arith)
past_end (p ∷ ps) (suc k) l = past_end ps k (omega arith)

-- the first n of three places
abbrev pub three_of : ℕ → ℕ → ℕ → ℕ → List ℕ
three_of n a b c = take n (a ∷ b ∷ c ∷ [])

pub three-many : (n a b c : ℕ) → n ≤ 3 → length (three_of n a b c) ≡ n
three-many zero a b c l = refl
three-many (suc zero) a b c l = refl
three-many (suc (suc zero)) a b c l = refl
three-many (suc (suc (suc zero))) a b c l = refl
three-many (suc (suc (suc (suc n)))) a b c l = absurd (omega arith)

-- sequences of the same length are compared place by place
pub lex-three : (qs : List ℕ) (a b c : ℕ) → length qs ≤ 3 → Lex qs (three_of (length qs) a b c)
    → (get_or qs 0 0 < a) ⊎ ((get_or qs 0 0 ≡ a) × ((get_or qs 1 0 < b) ⊎ ((get_or qs 1 0 ≡ b) × (get_or qs 2 0 < c))))
unfolding Lex
lex-three [] a b c l x = absurd x
lex-three (p ∷ []) a b c l (inl x) = inl x
lex-three (p ∷ []) a b c l (inr (e, x)) = absurd x
lex-three (p ∷ q ∷ []) a b c l (inl x) = inl x
lex-three (p ∷ q ∷ []) a b c l (inr (e, inl x)) = inr (e, inl x)
lex-three (p ∷ q ∷ []) a b c l (inr (e, inr (f, x))) = absurd x
lex-three (p ∷ q ∷ r ∷ []) a b c l (inl x) = inl x
lex-three (p ∷ q ∷ r ∷ []) a b c l (inr (e, inl x)) = inr (e, inl x)
lex-three (p ∷ q ∷ r ∷ []) a b c l (inr (e, inr (f, inl x))) = inr (e, inr (f, x))
lex-three (p ∷ q ∷ r ∷ []) a b c l (inr (e, inr (f, inr (g, x)))) = absurd x
lex-three (p ∷ q ∷ r ∷ s ∷ qs) a b c l x = absurd (omega arith)

known_at : (K : List ℕ) (p : ℕ) → p < length K → get_or (map known_of K) p unknown ≡ known_of (get_or K p 0)
known_at [] p l = absurd (omega arith)
known_at (c ∷ K) zero l = refl
known_at (c ∷ K) (suc p) l = known_at K p (omega arith)

-- one daughter more completes what the first complete
take_on : {full : List (Known Item)} (d : Daughters) (k c : ℕ) → d.count ≤ 3 → Open d k → (k < d.count → get_or full k unknown ≡ known_of c) → Completes d full → Completes (taken d k c) full
take_on {full} d k c few o e C = go (dec_lt k d.count)
  where
    go : Dec (k < d.count) → Completes (taken d k c) full
    go (yes l) = subst (λ (x : Daughters). Completes x full) (sym (taken_in d k c l)) (further d few k l o (coded c) (e l ∙ sym (coded-known c)) C)
    go (no l) = subst (λ (x : Daughters). Completes x full) (sym (taken_out d k c (omega arith))) C

-- daughters that are known items at places
module _ (K ps : List ℕ) (ds : List (Known Item)) (q : map (get_elem? (map known_of K)) ps ≡ map some ds) where
  seat-at : (d : Daughters) (k : ℕ) → length ps ≡ d.count → get_or ps k 0 < seats d k K
  seat-at d k e = go (dec_lt k d.count)
    where
      go : Dec (k < d.count) → get_or ps k 0 < seats d k K
      go (yes h) = rw (seats-in d k K h) (omega (arith, (found_at unknown (map known_of K) ps ds q k (omega arith)).0, length-map K known_of))
      go (no h) = rw (seats-out d k K (omega arith), past_end ps k (omega arith)) (omega arith)

  daughter-at : (d : Daughters) (k : ℕ) → length ps ≡ d.count → k < d.count → get_or ds k unknown ≡ known_of (get_or K (get_or ps k 0) 0)
  daughter-at d k e l =
      let (u, v) = found_at unknown (map known_of K) ps ds q k (omega arith) in
      v ∙ known_at K (get_or ps k 0) (omega (arith, u, length-map K known_of))

-- a way is a combination that works
module _ (t ws order K : List ℕ) (goal : CodedItem) (f : ℕ) where
  abbrev rank : ℕ
  rank = rank_of t (get_or order f 0)

  count₁ : (a : ℕ) → (first t ws order K goal f a).count ≡ rank
  count₁ = seats.count₁ t ws order K goal f

  count₂ : (a b : ℕ) → (second t ws order K goal f a b).count ≡ rank
  count₂ = seats.count₂ t ws order K goal f

  count₃ : (a b c : ℕ) → (third t ws order K goal f a b c).count ≡ rank
  count₃ = seats.count₃ t ws order K goal f

  pub way-works : (ps : List ℕ) (ds : List (Known Item)) → map (get_elem? (map known_of K)) ps ≡ map some ds → length ps ≡ rank → length ds ≡ rank → rank ≤ 3
      → Gives (grammar_of t) ws (rule_at t (get_or order f 0)) (things ds) (item_of goal) → goal.height ≡ suc (tallest ds) → Works t ws order K goal f (get_or ps 0 0) (get_or ps 1 0) (get_or ps 2 0)
  way-works ps ds q many size few g h = record {
    one = seat-at K ps ds q (zeroth t ws order K goal f) 0 many;
    two = seat-at K ps ds q (first t ws order K goal f a) 1 n₁;
    three = seat-at K ps ds q (second t ws order K goal f a b) 2 n₂;
    leads = record { full = ds; completes = whole; does = record { gives = g; high = h; same = λ n. refl } };
  }
    where
      a : ℕ
      a = get_or ps 0 0

      b : ℕ
      b = get_or ps 1 0

      n₁ : length ps ≡ (first t ws order K goal f a).count
      n₁ = many ∙ sym (count₁ a)

      n₂ : length ps ≡ (second t ws order K goal f a b).count
      n₂ = many ∙ sym (count₂ a b)

      none_yet : Completes (zeroth t ws order K goal f) ds
      none_yet = record { size = size; keeps = λ k l n. absurd (n (open_none rank k)) }

      one_more : Completes (first t ws order K goal f a) ds
      one_more = take_on (zeroth t ws order K goal f) 0 (get_or K a 0) few (open_none rank 0) (daughter-at K ps ds q (zeroth t ws order K goal f) 0 many) none_yet

      two-more : Completes (second t ws order K goal f a b) ds
      two-more =
          take_on (first t ws order K goal f a) 1 (get_or K b 0) (omega (arith, few, count₁ a))
          (seats.open₁ t ws order K goal f a 1 (omega arith) (λ e. omega arith)) (daughter-at K ps ds q (first t ws order K goal f a) 1 n₁) one_more

      whole : Completes (third t ws order K goal f a b (get_or ps 2 0)) ds
      whole =
          take_on (second t ws order K goal f a b) 2 (get_or K (get_or ps 2 0) 0) (omega (arith, few, count₂ a b))
          (seats.open₂ t ws order K goal f a b) (daughter-at K ps ds q (second t ws order K goal f a b) 2 n₂) two-more

  -- and a combination that works is a way
  module _ (L : Looking K goal) (few : rank ≤ 3) {a b c : ℕ} (w : Works t ws order K goal f a b c) where
    seat₀ : 0 < rank → seat (third t ws order K goal f a b c) 0 ≡ coded (get_or K a 0)
    seat₀ l =
        taken-other (second t ws order K goal f a b) 2 0 (get_or K c 0) (omega arith) (omega arith) (λ e. omega arith)
        ∙ taken-other (first t ws order K goal f a) 1 0 (get_or K b 0) (omega arith) (omega arith) (λ e. omega arith)
        ∙ taken-same (zeroth t ws order K goal f) 0 (get_or K a 0) l

    seat₁ : 1 < rank → seat (third t ws order K goal f a b c) 1 ≡ coded (get_or K b 0)
    seat₁ l =
        taken-other (second t ws order K goal f a b) 2 1 (get_or K c 0) (omega arith) (omega arith) (λ e. omega arith)
        ∙ taken-same (first t ws order K goal f a) 1 (get_or K b 0) (omega (arith, l, count₁ a))

    seat₂ : 2 < rank → seat (third t ws order K goal f a b c) 2 ≡ coded (get_or K c 0)
    seat₂ l = taken-same (second t ws order K goal f a b) 2 (get_or K c 0) (omega (arith, l, count₂ a b))

    -- the daughter that is seated at a place is the known item there
    seated-is : (k p : ℕ) → k < rank → p < length K → seat (third t ws order K goal f a b c) k ≡ coded (get_or K p 0)
        → get_or w.leads.full k unknown ≡ get_or (map known_of K) p unknown
    seated-is k p l h e =
        w.leads.completes.keeps k (omega (arith, l, count₃ a b c))
        (λ z. coded-full (get_or K p 0) (L.codes (get_or K p 0) (mem-at K p h)).0 (ap (λ (x : CodedItem). x.category) (sym e) ∙ z))
        ∙ ap held_as e ∙ coded-known (get_or K p 0) ∙ sym (known_at K p h)

    abbrev places : List ℕ
    places = three_of rank a b c

    place_at : (k : ℕ) → k < rank → get_or places k 0 ≡ get_or (a ∷ b ∷ c ∷ []) k 0
    place_at k l = get_or-take rank (a ∷ b ∷ c ∷ []) k 0 l

    within₁ : 0 < rank → a < length K
    within₁ l = rw (seats-in (zeroth t ws order K goal f) 0 K l) at w.one

    within₂ : 1 < rank → b < length K
    within₂ l = rw (seats-in (first t ws order K goal f a) 1 K (omega (arith, l, count₁ a))) at w.two

    within₃ : 2 < rank → c < length K
    within₃ l = rw (seats-in (second t ws order K goal f a b) 2 K (omega (arith, l, count₂ a b))) at w.three

    at_place : (k p : ℕ) → k < rank → p ≡ get_or places k 0 → p < length K → seat (third t ws order K goal f a b c) k ≡ coded (get_or K p 0)
        → (get_or places k 0 < length (map known_of K)) × (get_or w.leads.full k unknown ≡ get_or (map known_of K) (get_or places k 0) unknown)
    at_place k p l e h q = (omega (arith, e, h, length-map K known_of), seated-is k p l h q ∙ ap (λ (p : ℕ). get_or (map known_of K) p unknown) e)

    daughters-at : (k : ℕ) → k < rank → (get_or places k 0 < length (map known_of K)) × (get_or w.leads.full k unknown ≡ get_or (map known_of K) (get_or places k 0) unknown)
    daughters-at zero l = at_place 0 a l (sym (place_at 0 l)) (within₁ l) (seat₀ l)
    daughters-at (suc zero) l = at_place 1 b l (sym (place_at 1 l)) (within₂ l) (seat₁ l)
    daughters-at (suc (suc zero)) l = at_place 2 c l (sym (place_at 2 l)) (within₃ l) (seat₂ l)
    daughters-at (suc (suc (suc k))) l = absurd (omega (arith, l, few))

    pub works-way : Way (GivenBy (grammar_of t) ws) (map known_of K) (held_as goal) (number t (get_or order f 0)) places
    unfolding GivenBy rule_at
    works-way = record {
      daughters = w.leads.full;
      found =
          let many = three-many rank a b c few in
          found-by unknown (map known_of K) places w.leads.full (w.leads.completes.size ∙ count₃ a b c ∙ sym many)
          (λ k l. daughters-at k (omega (arith, l, many)));
      given = (rule_at t (get_or order f 0), refl, w.leads.does.gives);
      high = w.leads.does.high;
    }

    -- the places as the record has them: 0 where there is no such daughter
    unused : (k p : ℕ) → (rank ≤ k → p ≡ 0) → p ≡ get_or (a ∷ b ∷ c ∷ []) k 0 → p ≡ get_or places k 0
    unused k p z e = go (dec_lt k rank)
      where
        go : Dec (k < rank) → p ≡ get_or places k 0
        go (yes l) = e ∙ sym (place_at k l)
        go (no l) = z (omega arith) ∙ sym (past_end places k (omega (arith, three-many rank a b c few)))

    pub place₁ : a ≡ get_or places 0 0
    place₁ = unused 0 a (λ l. let h : a < 1 = rw (seats-out (zeroth t ws order K goal f) 0 K l) at w.one in omega arith) refl

    pub place₂ : b ≡ get_or places 1 0
    place₂ = unused 1 b (λ l. let h : b < 1 = rw (seats-out (first t ws order K goal f a) 1 K (omega (arith, l, count₁ a))) at w.two in omega arith) refl

    pub place₃ : c ≡ get_or places 2 0
    place₃ = unused 2 c (λ l. let h : c < 1 = rw (seats-out (second t ws order K goal f a b) 2 K (omega (arith, l, count₂ a b))) at w.three in omega arith) refl

    -- none is beyond the known items, which are not empty
    pub bounded : (a < length K) × (b < length K) × (c < length K)
    bounded = (below 0 a within₁ place₁, below 1 b within₂ place₂, below 2 c within₃ place₃)
      where
        below : (k p : ℕ) → (k < rank → p < length K) → p ≡ get_or places k 0 → p < length K
        below k p h e = go (dec_lt k rank)
          where
            go : Dec (k < rank) → p < length K
            go (yes l) = h l
            go (no l) = omega (arith, e, past_end places k (omega (arith, three-many rank a b c few)), L.some)
