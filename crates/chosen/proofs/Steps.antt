-- The steps of the nested walks: a place that is skipped leads to nothing.
use mathlib.Core.Path.{◌≡◌, subst}
use mathlib.Core.Logic.{⊎_elim}
use mathlib.Core.List.{List}
use Prim.Native.Nat.{ℕ, ◌+◌, ◌<◌, ◌≤◌}
use native.Mathlib.Omega.{arith}
use native.Mathlib.Decide.{dec_lt}
use lib.ListN.{length}
use Rattle.meaning.specs.Table.{rank_of}
use Rattle.phrase.specs.declared.items.Item.{Item as CodedItem}
use Rattle.rules.proofs.RuleThere.{fine}
use Rattle.search.specs.declared.spots.Spots.{Spots}
use Rattle.search.specs.Spots.{Ordered, Inside, Skips}
use Rattle.chosen.specs.declared.looking.Look.{Look}
use Rattle.chosen.specs.Walk.{Leads, Seeks, rule_of, zeroth, first, second, third, Works, Works₀, Works₁, Works₂, Passed, Walking}
use Rattle.chosen.proofs.Seats.{lead₁, lead₂}

-- a walk over spots that have every place of which W holds
module _ (W : ℕ → Type 0) (s : Spots) (has : (p : ℕ) → W p → Inside s p) where
  skip_first : {i : ℕ} → Skips s 0 i → (p : ℕ) → p < i → W p → ⊥
  skip_first z p l w = z.none p (omega arith) l (has p w)

  skip-next : {i j : ℕ} → ((p : ℕ) → p < i → W p → ⊥) → (W i → ⊥) → Skips s (i + 1) j → (p : ℕ) → p < j → W p → ⊥
  skip-next {i} before here z p l w = go (dec_lt p i) (dec_lt i p)
    where
      go : Dec (p < i) → Dec (i < p) → ⊥
      go (yes a) b = before p a w
      go (no a) (yes b) = z.none p (omega arith) l (has p w)
      go (no a) (no b) = here (subst W (omega arith) w)

  skip-end : {i : ℕ} → Ordered s → s.hi ≤ i → ((p : ℕ) → p < i → W p → ⊥) → (p : ℕ) → W p → ⊥
  skip-end o l before p w = before p (⊎_elim (λ e. omega (arith, e.1, o.two, o.three)) (λ e. omega (arith, e.1)) (has p w)) w

module _ (t ws order K : List ℕ) (goal : CodedItem) where
  -- where the walk stands: at a function, with its first daughters chosen
  pub record One (f rule : ℕ) (l : Look) : Type 0 where
    pub walking : Walking t ws order K goal
    pub below : f < length order
    pub rule_is : rule ≡ rule_of t ws order K goal f
    pub seeks : Seeks t ws (rule_of t ws order K goal f) goal (zeroth t ws order K goal f) 0 K l

  pub record Two (f rule : ℕ) (l : Look) (a : ℕ) (la : Look) : Type 0 where
    pub one : One f rule l
    pub within : a < l.spots.hi
    pub seeks : Seeks t ws (rule_of t ws order K goal f) goal (first t ws order K goal f a) 1 K la

  pub record Three (f rule : ℕ) (l : Look) (a : ℕ) (la : Look) (b : ℕ) (lb : Look) : Type 0 where
    pub two : Two f rule l a la
    pub within : b < la.spots.hi
    pub seeks : Seeks t ws (rule_of t ws order K goal f) goal (second t ws order K goal f a b) 2 K lb

module _ {t ws order K : List ℕ} {goal : CodedItem} where
  pub start : Passed t ws order K goal 0 0 0 0
  start = record {
    functions = λ q m. absurd (omega arith);
    ones = λ q m. absurd (omega arith);
    twos = λ q m. absurd (omega arith);
    threes = λ q m. absurd (omega arith);
  }

  module _ {f rule : ℕ} {l : Look} {a : ℕ} {la : Look} {b : ℕ} {lb : Look} (v : Three t ws order K goal f rule l a la b lb) where
    -- what works is where the last daughter is looked for
    has₃ : (c : ℕ) → Works t ws order K goal f a b c → Inside lb.spots c
    has₃ c w = v.seeks.has c w.three w.leads

    none₂ : {c : ℕ} → Passed t ws order K goal f a b c → lb.spots.hi ≤ c → Works₂ t ws order K goal f a b → ⊥
    none₂ p z (c, w) = skip-end (Works t ws order K goal f a b) lb.spots has₃ v.seeks.ordered z p.threes c w

    pub c-first : {c : ℕ} → Passed t ws order K goal f a b 0 → Skips lb.spots 0 c → Passed t ws order K goal f a b c
    c-first p z = record { functions = p.functions; ones = p.ones; twos = p.twos; threes = skip_first (Works t ws order K goal f a b) lb.spots has₃ z }

    pub c-next : {c next : ℕ} → Passed t ws order K goal f a b c → (Leads t ws (rule_of t ws order K goal f) goal (third t ws order K goal f a b c) → ⊥)
        → Skips lb.spots (c + 1) next → Passed t ws order K goal f a b next
    c-next p n z = record {
      functions = p.functions;
      ones = p.ones;
      twos = p.twos;
      threes = skip-next (Works t ws order K goal f a b) lb.spots has₃ p.threes (λ w. n w.leads) z;
    }

    pub works : {c : ℕ} → c < lb.spots.hi → Leads t ws (rule_of t ws order K goal f) goal (third t ws order K goal f a b c) → Works t ws order K goal f a b c
    works z w = record {
      one = omega (arith, v.two.within, v.two.one.seeks.within);
      two = omega (arith, v.within, v.two.seeks.within);
      three = omega (arith, z, v.seeks.within);
      leads = w;
    }

  module _ {f rule : ℕ} {l : Look} (o : One t ws order K goal f rule l) where
    few : rank_of t (rule_of t ws order K goal f) ≤ 3
    few = (fine t (rule_of t ws order K goal f) (o.walking.rules f o.below)).rank

    -- what works is where the first daughter is looked for
    has₁ : (a : ℕ) → Works₁ t ws order K goal f a → Inside l.spots a
    has₁ a v = let w = v.1.1 in o.seeks.has a w.one (lead₁ t ws order K goal f few w)

    none₀ : {a : ℕ} → Passed t ws order K goal f a 0 0 → l.spots.hi ≤ a → Works₀ t ws order K goal f → ⊥
    none₀ p z (a, v) = skip-end (Works₁ t ws order K goal f) l.spots has₁ o.seeks.ordered z p.ones a v

    pub a_first : {a : ℕ} → Passed t ws order K goal f 0 0 0 → Skips l.spots 0 a → Passed t ws order K goal f a 0 0
    a_first p z = record {
      functions = p.functions;
      ones = skip_first (Works₁ t ws order K goal f) l.spots has₁ z;
      twos = λ q m. absurd (omega arith);
      threes = λ q m. absurd (omega arith);
    }

    pub f-next : {a : ℕ} → Passed t ws order K goal f a 0 0 → l.spots.hi ≤ a → Passed t ws order K goal (f + 1) 0 0 0
    f-next p z = record {
      functions = λ g m w. go g w (dec_lt g f) m;
      ones = λ q m. absurd (omega arith);
      twos = λ q m. absurd (omega arith);
      threes = λ q m. absurd (omega arith);
    }
      where
        go : (g : ℕ) → Works₀ t ws order K goal g → Dec (g < f) → g < f + 1 → ⊥
        go g w (yes h) m = p.functions g h w
        go g w (no h) m = let e : g ≡ f = omega arith in none₀ p z (subst (λ (g : ℕ). Works₀ t ws order K goal g) e w)

  module _ {f rule : ℕ} {l : Look} {a : ℕ} {la : Look} (u : Two t ws order K goal f rule l a la) where
    -- what works is where the second daughter is looked for
    has₂ : (b : ℕ) → Works₂ t ws order K goal f a b → Inside la.spots b
    has₂ b (c, w) = u.seeks.has b w.two (lead₂ t ws order K goal f (few u.one) w)

    none₁ : {b : ℕ} → Passed t ws order K goal f a b 0 → la.spots.hi ≤ b → Works₁ t ws order K goal f a → ⊥
    none₁ p z (b, v) = skip-end (Works₂ t ws order K goal f a) la.spots has₂ u.seeks.ordered z p.twos b v

    pub b-first : {b : ℕ} → Passed t ws order K goal f a 0 0 → Skips la.spots 0 b → Passed t ws order K goal f a b 0
    b-first p z = record {
      functions = p.functions;
      ones = p.ones;
      twos = skip_first (Works₂ t ws order K goal f a) la.spots has₂ z;
      threes = λ q m. absurd (omega arith);
    }

    pub a-next : {b next : ℕ} → Passed t ws order K goal f a b 0 → la.spots.hi ≤ b → Skips l.spots (a + 1) next → Passed t ws order K goal f next 0 0
    a-next p z y = record {
      functions = p.functions;
      ones = skip-next (Works₁ t ws order K goal f) l.spots (has₁ u.one) p.ones (none₁ p z) y;
      twos = λ q m. absurd (omega arith);
      threes = λ q m. absurd (omega arith);
    }

  module _ {f rule : ℕ} {l : Look} {a : ℕ} {la : Look} {b : ℕ} {lb : Look} (v : Three t ws order K goal f rule l a la b lb) where
    pub b-next : {c next : ℕ} → Passed t ws order K goal f a b c → lb.spots.hi ≤ c → Skips la.spots (b + 1) next → Passed t ws order K goal f a next 0
    b-next p z y = record {
      functions = p.functions;
      ones = p.ones;
      twos = skip-next (Works₂ t ws order K goal f a) la.spots (has₂ v.two) p.twos (none₂ v p z) y;
      threes = λ q m. absurd (omega arith);
    }
