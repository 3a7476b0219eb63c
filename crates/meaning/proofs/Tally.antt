-- The use marks of a rule that is not refused: each constituent that its rows name was marked once, and each mark is of one.
use Prim.Native.Nat.{ℕ, zero, suc, ◌+◌, ◌-◌}
use mathlib.Core.Path.{◌≡◌, refl, sym, ap, ◌∙◌, subst}
use mathlib.Core.Logic.{◌⊎◌, inl, inr}
use mathlib.Core.Bool.{Bool, true, false, cond, ◌||◌, ◌&&◌, or-true}
use mathlib.Core.List.{List, [], ◌∷◌}
use native.Mathlib.Omega.{arith}
use lib.ListN.{length, get_or}
use lib.Dec.{ltb, eqb}
use borrow.Author.Tests.{eqb-true, eq-eqb}
use Rattle.meaning.specs.Grammar.{word as say, part as use-of, Symbol}
use Rattle.meaning.specs.Table.{got, ◌>>◌, times, outside, byte, byte_field, symbol_field, Used, unused, mark, word, part, symbol, row, missing}
use Rattle.meaning.specs.Table.{rank_of, category_of, daughter_of, dimension_of, category, rule_head, rule_body, rule}
use Rattle.meaning.specs.Decode.{several, symbol_at, row_at, row_end, rows_of}
use Rattle.meaning.specs.declared.Refusal.TheVariants.{Range}
use Rattle.meaning.proofs.Fields.{after, both, same, byte-there, headed}
use Rattle.meaning.proofs.Ends.{times-past, category-end, In, symbol_end, row-end}

clash : (b : Bool) → b ≡ true → b ≡ false → ⊥
clash b e f = let z : ◌≡◌ {A = ℕ} 0 1 = cc in omega arith

-- the symbols' parts are not marked in u, and are all that v has marked besides
pub data Tally : Used → List Symbol → Used → Type 0 where
  tally_none : {u v : Used} → v ≡ u → Tally u [] v
  tally_word : {u v : Used} {w : ℕ} {ss : List Symbol} → Tally u ss v → Tally u (say w ∷ ss) v
  tally_part : {u v : Used} {k c : ℕ} {ss : List Symbol} → u k c ≡ false → Tally (mark k c u) ss v → Tally u (use-of k c ∷ ss) v

marks : (k c : ℕ) (u : Used) → mark k c u k c ≡ true
unfolding mark
marks k c u = rw (eq-eqb k k refl, eq-eqb c c refl)

stays : (k c k' c' : ℕ) (u : Used) → u k' c' ≡ true → mark k c u k' c' ≡ true
unfolding mark
stays k c k' c' u e = rw e (or-true (eqb k k' && eqb c c'))

unmarked : (k c k' c' : ℕ) (u : Used) → mark k c u k' c' ≡ false → u k' c' ≡ false
unfolding mark
unmarked k c k' c' u e = go (eqb k k' && eqb c c') e
  where
    go : (b : Bool) → (b || u k' c') ≡ false → u k' c' ≡ false
    go true e = let z : ◌≡◌ {A = ℕ} 0 1 = cc in absurd (omega arith)
    go false e = e

was-or-is : (k c k' c' : ℕ) (u : Used) → mark k c u k' c' ≡ true → (u k' c' ≡ true) ⊎ (use-of k c ≡ use-of k' c')
unfolding mark
was-or-is k c k' c' u e = go (eqb k k') (eqb c c') refl refl e
  where
    go : (a b : Bool) → eqb k k' ≡ a → eqb c c' ≡ b → ((a && b) || u k' c') ≡ true → (u k' c' ≡ true) ⊎ (use-of k c ≡ use-of k' c')
    go true true f g e = inr (let p = eqb-true k k' f in let q = eqb-true c c' g in cc)
    go true false f g e = inl e
    go false b f g e = inl e

module _ {k c : ℕ} where
  keeps : {u v : Used} {ss : List Symbol} → Tally u ss v → u k c ≡ true → v k c ≡ true
  keeps (tally_none e) h = rw e h
  keeps (tally_word t) h = keeps t h
  keeps {u} (tally_part {k = k'} {c = c'} f t) h = keeps t (stays k' c' k c u h)

  sets : {u v : Used} {ss : List Symbol} → Tally u ss v → (j : ℕ) → get_or ss j (say 0) ≡ use-of k c → (u k c ≡ false) × (v k c ≡ true)
  sets (tally_none e) j h = let z : ◌≡◌ {A = ℕ} 0 1 = cc in absurd (omega arith)
  sets (tally_word t) zero h = let z : ◌≡◌ {A = ℕ} 0 1 = cc in absurd (omega arith)
  sets (tally_word t) (suc j) h = sets t j h
  sets {u} (tally_part {k = k'} {c = c'} f t) zero h =
      let p : k' ≡ k = cc in
      let q : c' ≡ c = cc in
      (rw (p, q) at f, keeps t (rw (p, q) (marks k c u)))
  sets {u} (tally_part {k = k'} {c = c'} f t) (suc j) h = let (a, b) = sets t j h in (unmarked k' c' k c u a, b)

  one_place : {u v : Used} {ss : List Symbol} → Tally u ss v → (i j : ℕ) → get_or ss i (say 0) ≡ use-of k c → get_or ss j (say 0) ≡ use-of k c → i ≡ j
  one_place (tally_none e) i j g h = let z : ◌≡◌ {A = ℕ} 0 1 = cc in absurd (omega arith)
  one_place (tally_word t) zero j g h = let z : ◌≡◌ {A = ℕ} 0 1 = cc in absurd (omega arith)
  one_place (tally_word t) (suc i) zero g h = let z : ◌≡◌ {A = ℕ} 0 1 = cc in absurd (omega arith)
  one_place (tally_word t) (suc i) (suc j) g h = ap suc (one_place t i j g h)
  one_place (tally_part f t) zero zero g h = refl
  one_place {u} (tally_part {k = k'} {c = c'} f t) zero (suc j) g h =
      let p : k' ≡ k = cc in
      let q : c' ≡ c = cc in
      absurd (clash (mark k' c' u k c) (rw (p, q) (marks k c u)) (sets t j h).0)
  one_place {u} (tally_part {k = k'} {c = c'} f t) (suc i) zero g h =
      let p : k' ≡ k = cc in
      let q : c' ≡ c = cc in
      absurd (clash (mark k' c' u k c) (rw (p, q) (marks k c u)) (sets t i g).0)
  one_place (tally_part f t) (suc i) (suc j) g h = ap suc (one_place t i j g h)

  comes : {u v : Used} {ss : List Symbol} → Tally u ss v → v k c ≡ true → (u k c ≡ true) ⊎ ((j : ℕ) × (get_or ss j (say 0) ≡ use-of k c))
  comes (tally_none e) h = inl (rw e at h)
  comes (tally_word {ss = ss} t) h = later (comes t h)
    where
      later : {P : Type 0} {s : Symbol} → P ⊎ ((j : ℕ) × (get_or ss j (say 0) ≡ use-of k c)) → P ⊎ ((j : ℕ) × (get_or (s ∷ ss) j (say 0) ≡ use-of k c))
      later (inl p) = inl p
      later (inr (j, e)) = inr (suc j, e)
  comes {u} (tally_part {k = k'} {c = c'} {ss = ss} f t) h = go (comes t h)
    where
      first : (u k c ≡ true) ⊎ (use-of k' c' ≡ use-of k c) → (u k c ≡ true) ⊎ ((j : ℕ) × (get_or (use-of k' c' ∷ ss) j (say 0) ≡ use-of k c))
      first (inl e) = inl e
      first (inr e) = inr (0, e)

      go : (mark k' c' u k c ≡ true) ⊎ ((j : ℕ) × (get_or ss j (say 0) ≡ use-of k c)) → (u k c ≡ true) ⊎ ((j : ℕ) × (get_or (use-of k' c' ∷ ss) j (say 0) ≡ use-of k c))
      go (inl e) = first (was-or-is k' c' k c u e)
      go (inr (j, e)) = inr (suc j, e)

-- the same for rows
pub data Tallies : Used → List (List Symbol) → Used → Type 0 where
  tallies_none : {u v : Used} → v ≡ u → Tallies u [] v
  tallies_more : {u m v : Used} {ss : List Symbol} {rows : List (List Symbol)} → Tally u ss m → Tallies m rows v → Tallies u (ss ∷ rows) v

abbrev pub sym_at : List (List Symbol) → ℕ → ℕ → Symbol
sym_at rows i j = get_or (get_or rows i []) j (say 0)

module _ {k c : ℕ} where
  keeps-all : {u v : Used} {rows : List (List Symbol)} → Tallies u rows v → u k c ≡ true → v k c ≡ true
  keeps-all (tallies_none e) h = rw e h
  keeps-all (tallies_more t ts) h = keeps-all ts (keeps t h)

  fresh : {u m : Used} {ss : List Symbol} → Tally u ss m → m k c ≡ false → u k c ≡ false
  fresh {u} t f = go (u k c) refl
    where
      go : (b : Bool) → u k c ≡ b → u k c ≡ false
      go true e = absurd (clash _ (keeps t e) f)
      go false e = e

  sets-all : {u v : Used} {rows : List (List Symbol)} → Tallies u rows v → (i j : ℕ) → sym_at rows i j ≡ use-of k c → (u k c ≡ false) × (v k c ≡ true)
  sets-all (tallies_none e) i j h = let z : ◌≡◌ {A = ℕ} 0 1 = cc in absurd (omega arith)
  sets-all (tallies_more t ts) zero j h = let (a, b) = sets t j h in (a, keeps-all ts b)
  sets-all (tallies_more t ts) (suc i) j h = let (a, b) = sets-all ts i j h in (fresh t a, b)

  pub one-place-all : {u v : Used} {rows : List (List Symbol)} → Tallies u rows v → (i j i' j' : ℕ)
      → sym_at rows i j ≡ use-of k c → sym_at rows i' j' ≡ use-of k c → (i ≡ i') × (j ≡ j')
  one-place-all (tallies_none e) i j i' j' g h = let z : ◌≡◌ {A = ℕ} 0 1 = cc in absurd (omega arith)
  one-place-all (tallies_more t ts) zero j zero j' g h = (refl, one_place t j j' g h)
  one-place-all (tallies_more t ts) zero j (suc i') j' g h = absurd (clash _ (sets t j g).1 (sets-all ts i' j' h).0)
  one-place-all (tallies_more t ts) (suc i) j zero j' g h = absurd (clash _ (sets t j' h).1 (sets-all ts i j g).0)
  one-place-all (tallies_more t ts) (suc i) j (suc i') j' g h = let (a, b) = one-place-all ts i j i' j' g h in (ap suc a, b)

  pub comes-all : {u v : Used} {rows : List (List Symbol)} → Tallies u rows v → v k c ≡ true → (u k c ≡ true) ⊎ ((i : ℕ) × (j : ℕ) × (sym_at rows i j ≡ use-of k c))
  comes-all (tallies_none e) h = inl (rw e at h)
  comes-all {u} (tallies_more {m = m} {ss = ss} {rows = rows} t ts) h = go (comes-all ts h)
    where
      first : (u k c ≡ true) ⊎ ((j : ℕ) × (get_or ss j (say 0) ≡ use-of k c)) → (u k c ≡ true) ⊎ ((i : ℕ) × (j : ℕ) × (sym_at (ss ∷ rows) i j ≡ use-of k c))
      first (inl e) = inl e
      first (inr (j, e)) = inr (0, j, e)

      go : (m k c ≡ true) ⊎ ((i : ℕ) × (j : ℕ) × (sym_at rows i j ≡ use-of k c)) → (u k c ≡ true) ⊎ ((i : ℕ) × (j : ℕ) × (sym_at (ss ∷ rows) i j ≡ use-of k c))
      go (inl e) = first (comes t e)
      go (inr (i, j, e)) = inr (suc i, j, e)

-- what was read was tallied
part-tally : (t : List ℕ) (rule at kind n : ℕ) (u u' v : Used) {ss : List Symbol} → part t rule at kind n u ≡ got u' → Tally u' ss v → Tally u (use-of (kind - 1) (n - 1) ∷ ss) v
unfolding part
part-tally t rule at kind n u u' v {ss} e h =
    let a = after (ltb (rank_of t rule) kind) _ _ u' e in
    let b = after (outside 1 (dimension_of t (daughter_of t rule kind)) n) _ _ u' a.1 in
    let d = after (u (kind - 1) (n - 1)) _ _ u' b.1 in
    tally_part d.0 (subst (λ (w : Used). Tally w ss v) (sym (same d.1)) h)

word-tally : (at n : ℕ) (u u' v : Used) {ss : List Symbol} → word at n >> got u ≡ got u' → Tally u' ss v → Tally u (say n ∷ ss) v
unfolding word
word-tally at n u u' v {ss} e h = tally_word (subst (λ (w : Used). Tally w ss v) (sym (same (after (eqb n 0) _ (got u) u' e).1)) h)

kind-tally : (t : List ℕ) (rule at kind n : ℕ) (u u' v : Used) {ss : List Symbol} → cond (eqb kind 0) (word at n >> got u) (part t rule at kind n u) ≡ got u'
    → Tally u' ss v → Tally u (cond (eqb kind 0) (say n) (use-of (kind - 1) (n - 1)) ∷ ss) v
kind-tally t rule at kind n u u' v {ss} e h = go (eqb kind 0) e
  where
    go : (b : Bool) → cond b (word at n >> got u) (part t rule at kind n u) ≡ got u' → Tally u (cond b (say n) (use-of (kind - 1) (n - 1)) ∷ ss) v
    go true e = word-tally at n u u' v e h
    go false e = part-tally t rule at kind n u u' v e h

symbol-tally : (t : List ℕ) (rule : ℕ) (s s' : ℕ × Used) (v : Used) {ss : List Symbol} → symbol t rule s ≡ got s' → Tally s'.1 ss v → Tally s.1 (symbol_at t s.0 ∷ ss) v
unfolding symbol symbol_field symbol_at
symbol-tally t rule s s' v {ss} e h =
    let f = both (symbol_field t s.0) _ s' e in
    let x = same (after (ltb (length t) (s.0 + 3)) _ _ f.0 f.1).1 in
    let g = both (cond (eqb f.0.0 0) (word s.0 f.0.1 >> got s.1) (part t rule s.0 f.0.0 f.0.1 s.1)) _ s' f.2 in
    let q : g.0 ≡ s'.1 = ap (λ (p : ℕ × Used). p.1) (same g.2) in
    let r = kind-tally t rule s.0 f.0.0 f.0.1 s.1 g.0 v {ss = ss} g.1 (subst (λ (w : Used). Tally w ss v) (sym q) h) in
    subst (λ (p : ℕ × ℕ × ℕ). Tally s.1 (cond (eqb p.0 0) (say p.1) (use-of (p.0 - 1) (p.1 - 1)) ∷ ss) v) (sym x) r

symbols-tally : (t : List ℕ) (rule n : ℕ) (s s' : ℕ × Used) → times n (symbol t rule) s ≡ got s' → Tally s.1 (several n (symbol_at t) (λ p. p + 3) s.0) s'.1
unfolding times several
symbols-tally t rule zero s s' e = tally_none (ap (λ (p : ℕ × Used). p.1) (sym (same e)))
symbols-tally t rule (suc n) s s' e =
    let b = both (symbol t rule s) (times n (symbol t rule)) s' e in
    let p = (symbol_end t rule s b.0 b.1).0 in
    symbol-tally t rule s b.0 s'.1 b.1 (subst (λ (q : ℕ). Tally b.0.1 (several n (symbol_at t) (λ p. p + 3) q) s'.1) p (symbols-tally t rule n b.0 s' b.2))

row-tally : (t : List ℕ) (rule : ℕ) (s s' : ℕ × Used) → row t rule s ≡ got s' → Tally s.1 (row_at t s.0) s'.1
unfolding row row_at
row-tally t rule s s' e =
    let f = both (byte_field t s.0) _ s' e in
    let b = byte-there t s.0 f.0 f.1 in
    let h = after (ltb 16 f.0.0) (Range s.0) _ s' f.2 in
    rw (b.0, b.1) (symbols-tally t rule f.0.0 (f.0.1, s.1) s' h.1)

rows-tally : (t : List ℕ) (rule n : ℕ) (s s' : ℕ × Used) → times n (row t rule) s ≡ got s' → Tallies s.1 (several n (row_at t) (row_end t) s.0) s'.1
unfolding times several
rows-tally t rule zero s s' e = tallies_none (ap (λ (p : ℕ × Used). p.1) (sym (same e)))
rows-tally t rule (suc n) s s' e =
    let b = both (row t rule s) (times n (row t rule)) s' e in
    let p = (row-end t rule s b.0 b.1).0 in
    tallies_more (row-tally t rule s b.0 b.1) (subst (λ (q : ℕ). Tallies b.0.1 (several n (row_at t) (row_end t) q) s'.1) p (rows-tally t rule n b.0 s' b.2))

-- the marks at a rule's end
pub record Whole (t : List ℕ) (at : ℕ) : Type 0 where
  pub marked : Used
  pub tallied : Tallies unused (several (dimension_of t (category_of t at)) (row_at t) (row_end t) (rows_of t at)) marked
  pub full : missing t at marked ≡ false

body-whole : (t : List ℕ) (at next : ℕ) → rule_body t at (at + 4) ≡ got next → Whole t at
unfolding rule_body
body-whole t at next e =
    let c = both (times (rank_of t at) (category t) (at + 4)) _ next e in
    let d = times-past (λ p. p) (λ p. p + 1) (In t (byte t 5)) (category t) (category-end t) (rank_of t at) (at + 4) c.0 c.1 in
    let f = both (times (dimension_of t (category_of t at)) (row t at) (c.0, unused)) _ next c.2 in
    let m = after (missing t at f.0.1) _ (got f.0.0) next f.2 in
    record {
      marked = f.0.1;
      tallied = subst (λ (q : ℕ). Tallies unused (several (dimension_of t (category_of t at)) (row_at t) (row_end t) q) f.0.1) d.0
          (rows-tally t at (dimension_of t (category_of t at)) (c.0, unused) f.0 f.1);
      full = m.0;
    }

pub rule-whole : (t : List ℕ) (s s' : ℕ × List ℕ) → rule t s ≡ got s' → Whole t s.0
unfolding rule
rule-whole t s s' e =
    let h = both (rule_head t s.1 s.0) _ s' e in
    let k = headed t s.1 s.0 h.0 h.1 in
    let b = both (rule_body t s.0 h.0) _ s' h.2 in
    body-whole t s.0 b.0 (ap (rule_body t s.0) (sym k.next) ∙ b.1)
