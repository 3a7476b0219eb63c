-- A row as turns over sets of places: each symbol's turn, and the loop over the row.
use mathlib.Core.Path.{◌≡◌, refl, sym, ap, ◌∙◌, subst}
use mathlib.Core.Logic.{◌⊎◌, inl, inr}
use mathlib.Core.Bool.{true}
use mathlib.Core.List.{List, [], ◌∷◌}
use Prim.Native.Nat.{ℕ, suc, ◌+◌, ◌*◌, ◌-◌, ◌≤◌, ◌<◌}
use native.Mathlib.Omega.{arith}
use Rattle.meaning.specs.Range.{Range, none, IsRange, Spans}
use Rattle.meaning.specs.Grammar.{Symbol, word, part}
use Rattle.meaning.specs.Giving.{Run}
use Rattle.meaning.specs.Table.{byte}
use Rattle.meaning.specs.Decode.{several, symbol_at, row_at}
use Rattle.meaning.proofs.Joining.{Join, left, right, next, range-path, none-join, join→joined, joined→join}
use Rattle.meaning.proofs.Spans.{measure, one_word, word_at}
use Rattle.phrase.proofs.Joins.{Proper, Fold, stop, onto, run→fold, fold→run}
use Rattle.phrase.proofs.Turns.{left_of, left_all, left_on}
use Rattle.reach.specs.Bits.{Bit}
use Rattle.reach.specs.declared.places.Places.{Places}
use Rattle.reach.specs.declared.rows.Free.{Free}
use Rattle.reach.specs.Reach.{Placed, any, chosen, May, Known, empty, words, Fair, free_of, Nowhere, Holds, unmoved, moved, Onto, Turns, Reaches, OneWord, Exactly}
use Rattle.reach.proofs.Digits.{no-bit}
use Rattle.reach.proofs.Sets.{true-not}

abbrev to_of : Range → ℕ
to_of r = r.to

abbrev from_of : Range → ℕ
from_of r = r.from

-- a turn for one relation is a turn for another that says the same
turns_as : {P Q : Range → Type 0} {s : ℕ} {p q : Places} → ((r : Range) → P r → Q r) → ((r : Range) → Q r → P r) → Turns P s p q → Turns Q s p q
turns_as {P} {Q} {s} {p} f g t = record { sound = λ r h. to (t.sound r h); whole = λ r o. t.whole r (back o) }
  where
    to : {r : Range} → Onto P s p r → Onto Q s p r
    to o = record { before = o.before; next = o.next; held = o.held; stands = f o.next o.stands; joins = o.joins; starts = o.starts }

    back : {r : Range} → Onto Q s p r → Onto P s p r
    back o = record { before = o.before; next = o.next; held = o.held; stands = g o.next o.stands; joins = o.joins; starts = o.starts }

-- the three kinds of symbols
module _ (ws ends : List ℕ) (f : Free) (e : ℕ → ℕ → Range) (s : ℕ) (p q : Places) where
  abbrev P : Symbol → Range → Type 0
  P = May ws (Known ends) (free_of f) e

  pub turn-word : {x : Symbol} {w : ℕ} → x ≡ word w → Turns (OneWord ws w) s p q → Turns (P x) s p q
  unfolding May
  turn-word {w = w} g h = rw g (turns_as to back h)
    where
      to : (r : Range) → OneWord ws w r → Spans ws r (w ∷ [])
      to r h = subst (λ (x : Range). Spans ws x (w ∷ [])) (range-path refl (sym h.one)) (one_word h.there.inside h.there.is)

      back : (r : Range) → Spans ws r (w ∷ []) → OneWord ws w r
      back r h = let (i, k, w) = word_at h in record { there = record { inside = i; is = w }; one = k }

  module _ {x : Symbol} {k c : ℕ} (is : x ≡ part k c) where
    pub turn-part : {y : Range} → free_of f k ≡ 0 → y ≡ e k c → Turns (Exactly ws y) s p q → Turns (P x) s p q
    unfolding May
    turn-part {y} g i h = rw is (turns_as to back h)
      where
        to : (r : Range) → Exactly ws y r → Placed ws (Known ends) (free_of f k) (e k c) r
        to r h = chosen g (h.same ∙ i) h.range

        back : (r : Range) → Placed ws (Known ends) (free_of f k) (e k c) r → Exactly ws y r
        back r (any l m j) = absurd (omega arith)
        back r (chosen l m j) = record { same = m ∙ sym i; range = j }

    pub turn-free : {A : ℕ} → Fair ws ends → A ≡ free_of f k → (A ≡ 0 → ⊥) → Turns (Known ends A) s p q → Turns (P x) s p q
    unfolding May
    turn-free {A} d g n h = rw is (turns_as to back (subst (λ (m : ℕ). Turns (Known ends m) s p q) g h))
      where
        real : (r : Range) → Known ends (free_of f k) r → IsRange ws r
        real r (empty e b) = inl e
        real r (words l i t b) =
            let u = d.upward.rises (free_of f k) r.from i (omega arith) l b in
            let v = d.within (free_of f k) r.from i (omega arith) l b in
            inr (omega arith, omega arith)

        to : (r : Range) → Known ends (free_of f k) r → Placed ws (Known ends) (free_of f k) (e k c) r
        to r h = any (omega arith) h (real r h)

        back : (r : Range) → Placed ws (Known ends) (free_of f k) (e k c) r → Known ends (free_of f k) r
        back r (any l m j) = m
        back r (chosen l m j) = absurd (n (g ∙ l))

-- a symbol stands at nothing or at words
pub may-proper : (ws : List ℕ) (K : ℕ → Range → Type 0) (free : ℕ → ℕ) (e : ℕ → ℕ → Range) (s : Symbol) (p : Range) → May ws K free e s p → Proper p
unfolding May
may-proper ws K free e (word w) p h = inr (omega (arith, (measure h).1))
may-proper ws K free e (part k c) p (any l m (inl i)) = inl i
may-proper ws K free e (part k c) p (any l m (inr i)) = inr i.0
may-proper ws K free e (part k c) p (chosen l m (inl i)) = inl i
may-proper ws K free e (part k c) p (chosen l m (inr i)) = inr i.0

-- nothing, or something that ends past 0
abbrev Tidy : Range → Type 0
Tidy r = (r ≡ none) ⊎ (0 < r.to)

abbrev pub Starts : ℕ → Range → Type 0
Starts s r = (r ≡ none) ⊎ (r.from ≡ s)

holds-tidy : {p : Places} {s : ℕ} {r : Range} → Holds p s r → Tidy r
holds-tidy (unmoved e o) = inl e
holds-tidy (moved f i t b) = inr (omega arith)

holds-starts : {p : Places} {s : ℕ} {r : Range} → Holds p s r → Starts s r
holds-starts (unmoved e o) = inl e
holds-starts (moved f i t b) = inr f

module _ {a p b : Range} where
  join-tidy : Tidy a → Proper p → Join a p b → Tidy b
  join-tidy t (inl h) (left i f) = inl (f ∙ h)
  join-tidy t (inr h) (left i f) = inr (omega (arith, ap to_of f))
  join-tidy (inl h) q (right i f) = inl (f ∙ h)
  join-tidy (inr h) q (right i f) = inr (omega (arith, ap to_of f))
  join-tidy t (inr h) (next g f) = inr (omega (arith, ap to_of f))
  join-tidy (inl k) (inl h) (next g f) = inl (f ∙ range-path (ap from_of k) (ap to_of h))
  join-tidy (inr k) (inl h) (next g f) = absurd (omega (arith, ap from_of h))

  -- what is joined to something keeps its left end, and ends past 0
  join-keeps : 0 < a.to → Proper p → Join a p b → (b.from ≡ a.from) × (0 < b.to)
  join-keeps h q (left i f) = absurd (omega (arith, ap to_of i))
  join-keeps h q (right i f) = (ap from_of f, omega (arith, ap to_of f))
  join-keeps h (inl k) (next g f) = absurd (omega (arith, ap from_of k))
  join-keeps h (inr k) (next g f) = (ap from_of f, omega (arith, ap to_of f))

module _ {P : Symbol → Range → Type 0} (proper : (s : Symbol) (p : Range) → P s p → Proper p) where
  fold-keeps : {a : Range} {ss : List Symbol} {r : Range} → 0 < a.to → Fold P a ss r → (r.from ≡ a.from) × (0 < r.to)
  fold-keeps h (stop e) = (ap from_of e, omega (arith, ap to_of e))
  fold-keeps h (onto {s = s} {p = p} st j d) =
      let (f, g) = join-keeps h (proper s p st) j in
      let (u, v) = fold-keeps g d in
      (u ∙ f, v)

  fold-starts : {a : Range} {ss : List Symbol} {r : Range} (s : ℕ) → Tidy a → Fold P a ss r → Starts s r → Starts s a
  fold-starts s (inl e) d k = inl e
  fold-starts s (inr h) d (inl e) = let (u, v) = fold-keeps h d in absurd (omega (arith, ap to_of e))
  fold-starts s (inr h) d (inr f) = let (u, v) = fold-keeps h d in inr (sym u ∙ f)

  -- from some range that is held the rest of the row makes r
  pub record Rest (s : ℕ) (p : Places) (ss : List Symbol) (r : Range) : Type 0 where
    pub so_far : Range
    pub held : Holds p s so_far
    pub on : Fold P so_far ss r

  -- what the row makes from the start is what the rest of it makes from what is held
  pub record Way (s : ℕ) (row ss : List Symbol) (p : Places) : Type 0 where
    pub sound : (r : Range) → Rest s p ss r → Fold P none row r
    pub whole : (r : Range) → Fold P none row r → Starts s r → Rest s p ss r

  pub way-none : (s : ℕ) (row : List Symbol) → Way s row row (record { ends = 0; still = true })
  way-none s row = record { sound = λ r o. go o.held o.on; whole = λ r d k. record { so_far = none; held = unmoved refl refl; on = d } }
    where
      go : {a r : Range} → Holds (record { ends = 0; still = true }) s a → Fold P a row r → Fold P none row r
      go {a} {r} (unmoved e o) d = subst (λ (x : Range). Fold P x row r) e d
      go (moved f i t b) d = absurd (no-bit i b)

  pub way_on : {s : ℕ} {row ss : List Symbol} {x : Symbol} {p q : Places} → Way s row (x ∷ ss) p → Turns (P x) s p q → Way s row ss q
  way_on {s} {row} {ss} {x} {p} {q} w t = record { sound = λ r o. w.sound r (back r o (t.sound o.so_far o.held)); whole = λ r d k. on (w.whole r d k) k }
    where
      back : (r : Range) (o : Rest s q ss r) → Onto (P x) s p o.so_far → Rest s p (x ∷ ss) r
      back r o h = record { so_far = h.before; held = h.held; on = onto h.stands (joined→join h.joins) o.on }

      step : {a r : Range} → Holds p s a → Fold P a (x ∷ ss) r → Starts s r → Rest s q ss r
      step {a} h (onto {p = d} {b = b} st j f) k = record {
        so_far = b;
        held = t.whole b (record { before = a; next = d; held = h; stands = st; joins = join→joined j; starts = fold-starts s (join-tidy (holds-tidy h) (proper x d st) j) f k });
        on = f;
      }

      on : {r : Range} → Rest s p (x ∷ ss) r → Starts s r → Rest s q ss r
      on o k = step o.held o.on k

  pub way_end : {s : ℕ} {row : List Symbol} {p : Places} → Way s row [] p → Reaches P row s p
  way_end {s} {row} {p} w = record { sound = λ r h. (run (w.sound r (record { so_far = r; held = h; on = stop refl })), holds-starts h); whole = λ r d k. last (w.whole r (fold d) k) }
    where
      run : {r : Range} → Fold P none row r → Run P row r
      run d = let (q, e, j) = fold→run proper (inl refl) d in rw (none-join refl j) e

      fold : {r : Range} → Run P row r → Fold P none row r
      fold d = run→fold proper (inl refl) d (left refl refl)

      ended : {a r : Range} → Holds p s a → Fold P a [] r → Holds p s r
      ended h (stop e) = subst (Holds p s) (sym e) h

      last : {r : Range} → Rest s p [] r → Holds p s r
      last o = ended o.held o.on

  -- where nothing can be held, the row can have nothing
  pub way_out : {s : ℕ} {row ss : List Symbol} {p : Places} → Nowhere p → Way s row ss p → Reaches P row s p
  way_out {s} {row} {p = p} n w = record {
    sound = λ r h. absurd (never h);
    whole = λ r d k. absurd (never (w.whole r (run→fold proper (inl refl) d (left refl refl)) k).held);
  }
    where
      never : {r : Range} → Holds p s r → ⊥
      never (unmoved e o) = true-not p.still o n.moved_on
      never (moved f i t b) = no-bit i (subst (λ (m : ℕ). Bit m i) n.no_end b)

-- the symbols that are left of a row
symbols-on : (t : List ℕ) (n place : ℕ) {x : Symbol} → 0 < n → x ≡ symbol_at t place → left_of t n place ≡ x ∷ left_of t (n - 1) (place + 3)
unfolding several
symbols-on t n place h g = let q : n ≡ suc (n - 1) = omega arith in ap (λ (m : ℕ). left_of t m place) q ∙ ap (λ (x : Symbol). x ∷ left_of t (n - 1) (place + 3)) (sym g)

symbols-end : (t : List ℕ) (n place : ℕ) → n ≡ 0 → left_of t n place ≡ []
unfolding several
symbols-end t n place h = rw h

-- the loop over the symbols of a row
module _ (t ws : List ℕ) (K : ℕ → Range → Type 0) (free : ℕ → ℕ) (e : ℕ → ℕ → Range) (s at : ℕ) where
  abbrev pub Along : ℕ → Places → Type 0
  Along i p = Way (may-proper ws K free e) s (row_at t at) (left_of t (byte t at - i) (at + 1 + 3 * i)) p

  pub along-none : Along 0 (record { ends = 0; still = true })
  along-none = rw left_all (way-none (may-proper ws K free e) s (row_at t at))

  pub along-on : (i : ℕ) {p q : Places} {x : Symbol} → i < byte t at → x ≡ symbol_at t (at + 1 + 3 * i) → Along i p → Turns (May ws K free e x) s p q → Along (i + 1) q
  along-on i {p} {x = x} h g w u =
      let one = symbols-on t (byte t at - i) (at + 1 + 3 * i) (omega arith) g in
      rw left_on (way_on (may-proper ws K free e) (subst (λ l. Way (may-proper ws K free e) s (row_at t at) l p) one w) u)

  pub along-out : (i : ℕ) {p : Places} → Nowhere p → Along i p → Reaches (May ws K free e) (row_at t at) s p
  along-out i h w = way_out (may-proper ws K free e) h w

  pub along-end : (i : ℕ) {p : Places} → byte t at ≤ i → Along i p → Reaches (May ws K free e) (row_at t at) s p
  along-end i {p} h w =
      let none_left = symbols-end t (byte t at - i) (at + 1 + 3 * i) (omega arith) in
      way_end (may-proper ws K free e) (subst (λ l. Way (may-proper ws K free e) s (row_at t at) l p) none_left w)
