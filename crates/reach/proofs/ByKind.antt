-- One turn of a row for each kind of symbol: a word, a part of a chosen daughter, a daughter that may be any known one.
use mathlib.Core.Path.{◌≡◌, refl, sym, ap, ◌∙◌, subst}
use mathlib.Core.Logic.{◌⊎◌, inl, inr}
use mathlib.Core.Bool.{Bool, true, false}
use mathlib.Core.List.{List}
use Prim.Native.Nat.{ℕ, suc, ◌+◌, ◌*◌, ◌-◌, ◌≤◌, ◌<◌}
use native.Mathlib.Omega.{arith}
use lib.Dec.{T}
use lib.ListN.{length, get_or}
use Rattle.meaning.proofs.Search.{is_range→, →is_range}
use Rattle.phrase.specs.Row.{is_range}
use Rattle.meaning.specs.Range.{Range, none, IsRange}
use Rattle.meaning.proofs.Joining.{range-path}
use Rattle.phrase.proofs.Joins.{Proper}
use Rattle.reach.specs.Bits.{Bit, Single, Both, Lent}
use Rattle.reach.specs.declared.places.Places.{Places}
use Rattle.reach.specs.Reach.{Known, empty, words, Upward, Turns, WordAt, After, OneWord, Exactly, From, Union, MayBe, beginning, passed}
use Rattle.reach.proofs.Digits.{no-bit}
use Rattle.reach.proofs.Turning.{span, Source, from_place, from_start, stays, turns}
use Rattle.reach.proofs.Sets.{true-not}

abbrev to_of : Range → ℕ
to_of r = r.to

abbrev from_of : Range → ℕ
from_of r = r.from

-- what is at no end, and no longer still
abbrev pub gone : ℕ → Places
gone m = record { ends = m; still = false }

module _ {P : Range → Type 0} (proper : (r : Range) → P r → Proper r) (s : ℕ) (p : Places) where
  -- the symbol has words, and stands nowhere that the row may be
  pub nowhere : (P none → ⊥) → ((j : ℕ) → Source P s p j → ⊥) → Turns P s p (gone 0)
  nowhere n h = turns proper (record {
    sound = λ j b. absurd (no-bit j b);
    whole = λ j o. absurd (h j o);
    stood = λ e. true-not false e refl;
    stands = λ e f. absurd (n f);
  })

  -- the symbol has words, and one end
  pub one_end : (P none → ⊥) → (last m : ℕ) → ((r : Range) → P r → r.to ≡ suc last) → Source P s p last → Single last m → Turns P s p (gone m)
  one_end n last m h o b = turns proper (record {
    sound = λ j c. subst (Source P s p) (sym (b.only j c)) o;
    whole = λ j d. subst (Bit m) (sym (end j d)) b.it;
    stood = λ e. true-not false e refl;
    stands = λ e f. absurd (n f);
  })
    where
      end : (j : ℕ) → Source P s p j → j ≡ last
      end j (from_place i c k) = let e = h (span (suc i) (suc j)) k in omega arith
      end j (from_start c k) = let e = h (span s (suc j)) k in omega arith
      end j (stays c k) = absurd (n k)

  -- the symbol is empty
  pub no_words : P none → ((r : Range) → P r → r ≡ none) → Turns P s p p
  no_words n h = turns proper (record {
    sound = λ j c. stays c n;
    whole = λ j d. end j d;
    stood = λ e. (e, n);
    stands = λ e f. e;
  })
    where
      end : (j : ℕ) → Source P s p j → Bit p.ends j
      end j (from_place i c k) = absurd (omega (arith, ap to_of (h (span (suc i) (suc j)) k)))
      end j (from_start c k) = absurd (omega (arith, ap to_of (h (span s (suc j)) k)))
      end j (stays c k) = c

-- a word
word-proper : (ws : List ℕ) (w : ℕ) (r : Range) → OneWord ws w r → Proper r
word-proper ws w r o = inr (omega (arith, o.one))

pub after_none : (ws : List ℕ) (w : ℕ) {a : ℕ} → a ≡ 0 → After ws w a 0
after_none ws w e = record { whole = λ i b h. absurd (no-bit i (subst (λ (n : ℕ). Bit n i) e b)); sound = λ j b. absurd (no-bit j b) }

module _ (ws : List ℕ) (w s : ℕ) (p : Places) {on : ℕ} (n : After ws w p.ends on) where
  word_none : OneWord ws w none → ⊥
  word_none o = omega (arith, o.one)

  placed : (j : ℕ) → Bit on j → Source (OneWord ws w) s p j
  placed j b = go (n.sound j b)
    where
      go : (i : ℕ) × (j ≡ suc i) × Bit p.ends i × WordAt ws w j → Source (OneWord ws w) s p j
      go (i, e, c, d) = from_place i c (record { there = subst (WordAt ws w) e d; one = ap suc e })

  module _ {m : ℕ} (keeps : (j : ℕ) → Bit on j → Bit m j) (first : p.still ≡ true → WordAt ws w s → Bit m s) where
    ends : (j : ℕ) → Source (OneWord ws w) s p j → Bit m j
    ends j (from_place i c k) = let e : j ≡ suc i = omega (arith, k.one) in subst (Bit m) (sym e) (keeps (suc i) (n.whole i c k.there))
    ends j (from_start o k) = let e : j ≡ s = omega (arith, k.one) in subst (Bit m) (sym e) (first o k.there)
    ends j (stays c k) = absurd (word_none k)

    word-turns : ((j : ℕ) → Bit m j → Source (OneWord ws w) s p j) → Turns (OneWord ws w) s p (gone m)
    word-turns h = turns (word-proper ws w) (record { sound = h; whole = ends; stood = λ e. true-not false e refl; stands = λ e f. absurd (word_none f) })

  pub word_first : {one m : ℕ} → p.still ≡ true → WordAt ws w s → Single s one → Both on one m → Turns (OneWord ws w) s p (gone m)
  word_first {one} {m} o d k b = word-turns b.left (λ _ _. b.right s k.it) (λ j c. go j (b.either j c))
    where
      go : (j : ℕ) → Bit on j ⊎ Bit one j → Source (OneWord ws w) s p j
      go j (inl c) = placed j c
      go j (inr c) = from_start o (record { there = d; one = ap suc (k.only j c) })

  pub word_on : (p.still ≡ true → WordAt ws w s → ⊥) → Turns (OneWord ws w) s p (gone on)
  word_on h = word-turns (λ j c. c) (λ o d. absurd (h o d)) placed

-- whether the row may be at a place
module _ (p : Places) (s at : ℕ) where
  pub may-start : (p.still ≡ true) × (at ≡ s) → MayBe p s at
  may-start (o, e) = beginning o e

  pub may-pass : (at ≡ 0 → ⊥) → Bit p.ends (at - 1) → MayBe p s at
  may-pass n c = passed (at - 1) (omega arith) c

  pub not-started : ((p.still ≡ true) × (at ≡ s → ⊥)) ⊎ (p.still ≡ false) → (p.still ≡ true) × (at ≡ s) → ⊥
  not-started (inl (o, n)) (_, e) = n e
  not-started (inr n) (o, _) = true-not p.still o n

  pub may-end : ((p.still ≡ true) × (at ≡ s) → ⊥) → MayBe p s at → Bit p.ends (at - 1)
  may-end n (beginning o e) = absurd (n (o, e))
  may-end n (passed i e c) = let q : i ≡ at - 1 = omega arith in subst (Bit p.ends) q c

  pub may-not-zero : ((p.still ≡ true) × (at ≡ s) → ⊥) → at ≡ 0 → MayBe p s at → ⊥
  may-not-zero n z (beginning o e) = n (o, e)
  may-not-zero n z (passed i e c) = omega arith

-- a range of the sentence
module _ (ws : List ℕ) (q : Range) where
  pub range-is : {b : Bool} → b ≡ is_range ws q → b ≡ true → IsRange ws q
  range-is e t = is_range→ ws q (subst T (sym t ∙ e) tt)

  pub range-not : {b : Bool} → b ≡ is_range ws q → b ≡ false → IsRange ws q → ⊥
  range-not e t i = subst T (sym e ∙ t) (→is_range ws i)

  pub small-from : IsRange ws q → length ws ≤ 64 → q.from ≤ 64
  small-from (inl e) h = omega (arith, ap from_of e)
  small-from (inr l) h = omega arith

  pub small-to : IsRange ws q → length ws ≤ 64 → q.to ≤ 64
  small-to (inl e) h = omega (arith, ap to_of e)
  small-to (inr l) h = omega arith

  pub none_of : IsRange ws q → q.to ≡ 0 → q ≡ none
  none_of (inl e) z = e
  none_of (inr l) z = absurd (omega arith)

pub last_of : (n : ℕ) → (n ≡ 0 → ⊥) → n ≡ suc (n - 1)
last_of n h = omega arith

-- a part of a chosen daughter
module _ (ws : List ℕ) (q : Range) (s : ℕ) (p : Places) where
  part-proper : (r : Range) → Exactly ws q r → Proper r
  part-proper r e = go e.range
    where
      go : IsRange ws r → Proper r
      go (inl z) = inl z
      go (inr l) = inr l.0

  pub part_no : (IsRange ws q → ⊥) → Turns (Exactly ws q) s p (gone 0)
  part_no n = nowhere part-proper s p (never none) (λ j o. away j o)
    where
      never : (r : Range) → Exactly ws q r → ⊥
      never r e = n (subst (IsRange ws) e.same e.range)

      away : (j : ℕ) → Source (Exactly ws q) s p j → ⊥
      away j (from_place i c k) = never _ k
      away j (from_start c k) = never _ k
      away j (stays c k) = never _ k

  pub part-empty : q ≡ none → Turns (Exactly ws q) s p p
  part-empty z = no_words part-proper s p (record { same = sym z; range = inl refl }) (λ r e. e.same ∙ z)

  module _ (i : IsRange ws q) (last : ℕ) (t : q.to ≡ suc last) where
    not_none : Exactly ws q none → ⊥
    not_none e = omega (arith, ap to_of e.same)

    it : Exactly ws q q
    it = record { same = refl; range = i }

    is-it : {a b : ℕ} → q.from ≡ a → suc last ≡ b → Exactly ws q (span a b)
    is-it {a} {b} e f = let g : span a b ≡ q = range-path (sym e) (sym (t ∙ f)) in record { same = g; range = subst (IsRange ws) (sym g) i }

    source : MayBe p s q.from → Source (Exactly ws q) s p last
    source (beginning o e) = from_start o (is-it e refl)
    source (passed k e c) = from_place k c (is-it e refl)

    pub part-there : {m : ℕ} → MayBe p s q.from → Single last m → Turns (Exactly ws q) s p (gone m)
    part-there {m} o b = one_end part-proper s p not_none last m (λ r k. ap to_of k.same ∙ t) (source o) b

    pub part-away : (MayBe p s q.from → ⊥) → Turns (Exactly ws q) s p (gone 0)
    part-away f = nowhere part-proper s p not_none away
      where
        away : (j : ℕ) → Source (Exactly ws q) s p j → ⊥
        away j (from_place k c h) = f (passed k (sym (ap from_of h.same)) c)
        away j (from_start c h) = f (beginning c (sym (ap from_of h.same)))
        away j (stays c h) = not_none h

-- a daughter that may be any known one
module _ (ends : List ℕ) (A s : ℕ) (p : Places) (up : Upward ends) (some : 1 ≤ A) (small : s < 64) where
  free-proper : (r : Range) → Known ends A r → Proper r
  free-proper r (empty e f) = inl e
  free-proper r (words l i t c) = inr (omega (arith, up.rises A r.from i some l c))

  module _ {base less u v set first : ℕ} (is : base ≡ A * 64) (one : less ≡ A - 1) (n : Union ends base p.ends u) (l : Lent ends (base + s) p.still v) (b : Both u v set)
      (e : Lent ends 0 true first) where
    abbrev lent_at : ℕ → ℕ → Type 0
    lent_at j m = Bit (get_or ends m 0) j

    out : (j : ℕ) → Bit set j → Source (Known ends A) s p j
    out j c = go (b.either j c)
      where
        start : (p.still ≡ true) × Bit (get_or ends (base + s) 0) j → Source (Known ends A) s p j
        start (o, d) = let e : base + s ≡ A * 64 + s = omega arith in from_start o (words small j refl (subst (lent_at j) e d))

        place : From ends base p.ends 1 j → Source (Known ends A) s p j
        place f =
            let e : base + (1 + f.place) ≡ A * 64 + suc f.place = omega arith in
            from_place f.place f.there (words (omega (arith, f.within)) j refl (subst (lent_at j) e f.ends_at))

        go : Bit u j ⊎ Bit v j → Source (Known ends A) s p j
        go (inl d) = place (n.sound j d)
        go (inr d) = start (l.sound j d)

    by_place : (j i : ℕ) → Bit p.ends i → Known ends A (span (suc i) (suc j)) → Bit set j
    by_place j i c (empty e f) = absurd (omega (arith, ap to_of e))
    by_place j i c (words h k t d) =
        let q : k ≡ j = omega arith in
        let e : A * 64 + suc i ≡ base + (1 + i) = omega arith in
        b.left j (n.whole j (record { place = i; within = omega arith; there = c; ends_at = subst (lent_at j) e (subst (Bit (get_or ends (A * 64 + suc i) 0)) q d) }))

    by-start : (j : ℕ) → p.still ≡ true → Known ends A (span s (suc j)) → Bit set j
    by-start j o (empty e f) = absurd (omega (arith, ap to_of e))
    by-start j o (words h k t d) =
        let q : k ≡ j = omega arith in
        let e : A * 64 + s ≡ base + s = omega arith in
        b.right j (l.whole j o (subst (lent_at j) e (subst (Bit (get_or ends (A * 64 + s) 0)) q d)))

    flag : Known ends A none → Bit first less
    flag (empty q f) = subst (Bit first) (sym one) (e.whole (A - 1) refl f)
    flag (words h k t d) = absurd (omega arith)

    pub free_on : (Bit first less → ⊥) → Turns (Known ends A) s p (gone set)
    free_on h = turns free-proper (record { sound = out; whole = whole; stood = λ e. true-not false e refl; stands = λ o f. absurd (h (flag f)) })
      where
        whole : (j : ℕ) → Source (Known ends A) s p j → Bit set j
        whole j (from_place i c k) = by_place j i c k
        whole j (from_start o k) = by-start j o k
        whole j (stays c k) = absurd (h (flag k))

    pub free-empty : {m : ℕ} → Bit first less → Both set p.ends m → Turns (Known ends A) s p (record { ends = m; still = p.still })
    free-empty {m} f d = turns free-proper (record { sound = λ j c. sound j (d.either j c); whole = whole; stood = λ o. (o, known); stands = λ o _. o })
      where
        known : Known ends A none
        known = empty refl (subst (Bit (get_or ends 0 0)) one (e.sound less f).1)

        sound : (j : ℕ) → Bit set j ⊎ Bit p.ends j → Source (Known ends A) s p j
        sound j (inl c) = out j c
        sound j (inr c) = stays c known

        whole : (j : ℕ) → Source (Known ends A) s p j → Bit m j
        whole j (from_place i c k) = d.left j (by_place j i c k)
        whole j (from_start o k) = d.left j (by-start j o k)
        whole j (stays c k) = d.right j c
