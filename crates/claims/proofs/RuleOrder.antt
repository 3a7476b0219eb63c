-- The order of rules changes nothing: a table with the rules of an accepted table in another order is accepted (`order-accepted`), its
-- grammar has the same start and dimensions, and the same rules in another order (`order-grammar`), and each of the three calls' definitions
-- allows the same results for both (`read-order`, `tree-order`, `sentence-order`); so any two results, one for each table, are equal
-- (`same-read-order`, `same-tree-order`, `same-sentence-order`). An accepted table is one of its orders (`order-itself`).
use Prim.Native.Nat.{ℕ, zero, suc, ◌+◌, ◌≤◌, ◌<◌}
use mathlib.Core.Path.{◌≡◌, refl, sym, ap, ap₂, ◌∙◌, subst, subst₂, subst₃}
use mathlib.Core.Bool.{not}
use mathlib.Core.Logic.{◌↔◌}
use mathlib.Core.List.{List, [], ◌∷◌, ◌++◌, map, flatten}
use native.Mathlib.Omega.{arith}
use lib.ListN.{length, drop, take-append-drop}
use lib.Seq.{slice, slice_empty, take-length, length-take-le, get_or-take}
use lib.Dec.{eqb}
use borrow.Author.Tests.{le-ltb}
use Rattle.meaning.specs.Table.{got, times, member, byte, number, header, dimension, dimension_of, rule, rules, check_table}
use Rattle.meaning.specs.Decode.{past, several, rule_at, rule_end, first_rule, grammar_of}
use Rattle.meaning.specs.Order.{Each, Sorted}
use Rattle.meaning.specs.Reading.{Read}
use Rattle.meaning.specs.TreeWriting.{TreeWritten}
use Rattle.meaning.specs.SentenceWriting.{SentenceWritten}
use Rattle.meaning.proofs.Order.{each_of}
use Rattle.meaning.proofs.Spans.{slice-join}
use Rattle.meaning.proofs.Fields.{after, both, header-there}
use Rattle.meaning.proofs.Ends.{times-past, rule_end_lem, first-there, fine-table}
use Rattle.meaning.proofs.Places.{past-grows, first-is, rule-grows'}
use Rattle.meaning.proofs.Decoded.{several-length, several-mem, valid-grammar}
use Rattle.meaning.proofs.Determined.{Same, same_read, same-tree, same-sentence}
use Rattle.claims.specs.Reordered.{Permuted, head_bytes, bytes_at, rule_bytes, Reordered}
use Rattle.claims.proofs.Permutation.{permuted-itself, permuted-back, permuted-length, permuted-mem, permuted-each, permuted-sorted, permuted-map}
use Rattle.claims.proofs.Windows.{Window, at-start, byte-same, number_same, header-same, dims-same}
use Rattle.meaning.proofs.Moved.{several-same}
use Rattle.claims.proofs.Blocks.{front-window, Stands, decode, Taken, functions_of, rule-taken, Put, rules-put}
use Rattle.claims.proofs.Carry.{SameRules, same_set, turned, read-carried, tree-carried, sentence-carried}

-- the parts of a check that refuses nothing
record Parts (t : List ℕ) : Type 0 where
  head : header t ≡ got 9
  dims : times (byte t 5) (dimension t) 9 ≡ got (first_rule t)
  start : dimension_of t (byte t 6) ≡ 1
  state : ℕ × List ℕ
  read : times (number t 7) (rule t) (first_rule t, []) ≡ got state
  end : state.0 ≡ length t

accepted-parts : (t : List ℕ) → check_table t ≡ got tt → Parts t
unfolding check_table rules
accepted-parts t e =
    let v = fine-table t e in
    let h = both (header t) _ tt e in
    let n = header-there t h.0 h.1 in
    let d = both (times (byte t 5) (dimension t) h.0) _ tt h.2 in
    let f = first-there t h.0 d.0 h.1 d.1 in
    let s = after (not (eqb (dimension_of t (byte t 6)) 1)) _ _ tt d.2 in
    let r = both (rules t (number t 7) d.0) _ tt s.1 in
    let u = both (times (number t 7) (rule t) (d.0, [])) _ r.0 r.1 in
    let q : times (number t 7) (rule t) (first_rule t, []) ≡ got u.0 = rw (← f) u.1 in
    let last : u.0.0 ≡ past (number t 7) (rule_end t) (first_rule t) =
    (times-past (λ s. s.0) (rule_end t) (λ _. Unit {0}) (rule t) (λ s s' r. ((rule_end_lem t s s' r).0, tt)) (number t 7) (first_rule t, []) u.0 q).0 in
    record {
      head = h.1 ∙ ap got n.0;
      dims = ap (times (byte t 5) (dimension t)) (sym n.0) ∙ d.1 ∙ ap got f;
      start = v.one;
      state = u.0;
      read = q;
      end = last ∙ v.end;
    }

parts-accepted : (t : List ℕ) → Parts t → check_table t ≡ got tt
unfolding check_table rules
parts-accepted t p = rw (p.head, p.dims, p.start, p.read, p.end, le-ltb (length t) (length t) (omega arith))

-- parts one after another: what holds of each holds of all
several-map : {A B : Type 0} (g : ℕ → B) (f : ℕ → A) (k : A → B) (next : ℕ → ℕ) (n at : ℕ) → ((i : ℕ) → i < n → g (past i next at) ≡ k (f (past i next at)))
    → several n g next at ≡ map k (several n f next at)
unfolding several past
several-map g f k next zero at h = refl
several-map g f k next (suc n) at h = ap₂ ◌∷◌ (h 0 (omega arith)) (several-map g f k next n (next at) (λ i l. h (suc i) (omega arith)))

-- an accepted table: its header and dimensions, its rules' bytes after them, each a rule, and its grammar's rules are these
module _ (t : List ℕ) (e : check_table t ≡ got tt) where
  first_fits : first_rule t ≤ length t
  first_fits = omega (arith, past-grows (number t 7) (rule_end t) (rule-grows' t) (first_rule t), (fine-table t e).end)

  length-head : length (head_bytes t) ≡ first_rule t
  length-head = length-take-le (first_rule t) t first_fits

  head-full : 9 + byte (head_bytes t) 5 ≡ length (head_bytes t)
  head-full = omega (arith, length-head, first-is t, get_or-take (first_rule t) t 5 0 (omega (arith, first-is t)))

  begins : t ≡ head_bytes t ++ drop (first_rule t) t
  begins = sym (take-append-drop (first_rule t) t)

  each-taken : (i : ℕ) → i < number t 7 → Taken (head_bytes t) t (past i (rule_end t) (first_rule t))
  each-taken =
      let p = accepted-parts t e in
      (times-past (λ s. s.0) (rule_end t) (Taken (head_bytes t) t) (rule t)
      (λ s s' r. ((rule_end_lem t s s' r).0, rule-taken (head_bytes t) head-full t (drop (first_rule t) t) begins s s' r)) (number t 7) (first_rule t, []) p.state p.read).1

  bytes-stand : Each (Stands (head_bytes t)) (rule_bytes t)
  unfolding rule_bytes
  bytes-stand = each_of (several (number t 7) (bytes_at t) (rule_end t) (first_rule t)) (λ B m.
      let (i, l, q) = several-mem (bytes_at t) (rule_end t) (number t 7) (first_rule t) m in
      subst (Stands (head_bytes t)) (sym q) (each-taken i l).0)

  decoded : (grammar_of t).rules ≡ map (decode (head_bytes t)) (rule_bytes t)
  unfolding grammar_of rule_bytes
  decoded = several-map (rule_at t) (bytes_at t) (decode (head_bytes t)) (rule_end t) (number t 7) (first_rule t) (λ i l. (each-taken i l).1)

  differ : Sorted (λ f g. f ≡ g → ⊥) (functions_of (head_bytes t) (rule_bytes t))
  differ = rw (← decoded) (valid-grammar t e).distinct

-- it is one of its orders: the rules' bytes, one after another, are what stands after the dimensions
flatten-bytes : (t : List ℕ) (n at : ℕ) → flatten (several n (bytes_at t) (rule_end t) at) ≡ slice at (past n (rule_end t) at) t
unfolding several past flatten
flatten-bytes t zero at = sym (slice_empty at t)
flatten-bytes t (suc n) at =
    let grows = past-grows n (rule_end t) (rule-grows' t) (rule_end t at) in
    rw (flatten-bytes t n (rule_end t at)) (slice-join at (rule_end t at) (past n (rule_end t) (rule_end t at)) t (rule-grows' t at) grows)

pub order-itself : (t : List ℕ) → check_table t ≡ got tt → Reordered t t
unfolding rule_bytes
order-itself t e = record {
  order = rule_bytes t;
  same = permuted-itself (rule_bytes t);
  bytes = begins t e ∙ ap (λ x. head_bytes t ++ x) (sym (flatten-bytes t (number t 7) (first_rule t) ∙ rw ((fine-table t e).end, take-length t)));
}

-- an accepted table and another with its rules in another order
module _ {t t' : List ℕ} (e : check_table t ≡ got tt) (o : Reordered t t') where
  window : Window t t' 0 0 (first_rule t)
  window = subst₃ (λ x y n. Window x y 0 0 n) (sym (begins t e)) (sym o.bytes) (length-head t e) (front-window (head_bytes t) (drop (first_rule t) t) (flatten o.order))

  nine : 9 ≤ first_rule t
  nine = omega (arith, first-is t)

  dims-fit : 9 + byte t 5 ≤ first_rule t
  dims-fit = omega (arith, first-is t)

  first-same : first_rule t ≡ first_rule t'
  first-same = ap (λ n. past n (λ p. p + 1) 9) (byte-same window (at-start 5) (omega (arith, nine)))

  count_same : number t 7 ≡ number t' 7
  count_same = number_same window (at-start 7) (omega (arith, nine))

  start-same : byte t 6 ≡ byte t' 6
  start-same = byte-same window (at-start 6) (omega (arith, nine))

  -- the rules' bytes in the new order are read one after another
  order-put : Put (head_bytes t) (head-full t e) t' (flatten o.order) o.bytes o.order (head_bytes t) []
  unfolding member
  order-put = rules-put (head_bytes t) (head-full t e) t' (flatten o.order) o.bytes o.order (head_bytes t) [] o.bytes (permuted-each o.same (bytes-stand t e))
      (permuted-sorted (λ f g d q. d (sym q)) (permuted-map _ (permuted-map (decode (head_bytes t)) o.same)) (differ t e)) (each_of (functions_of (head_bytes t) o.order) (λ f m. refl))

  order-length : length o.order ≡ number t' 7
  unfolding rule_bytes
  order-length = sym (permuted-length o.same) ∙ several-length (bytes_at t) (rule_end t) (number t 7) (first_rule t) ∙ count_same

  length-head-new : length (head_bytes t) ≡ first_rule t'
  length-head-new = length-head t e ∙ first-same

  new-parts : Parts t'
  new-parts =
      let p = accepted-parts t e in
      record {
        head = sym (header-same window nine) ∙ p.head;
        dims = sym (dims-same window nine dims-fit) ∙ p.dims ∙ ap got first-same;
        start = ap (dimension_of t') (sym start-same) ∙ sym (byte-same window (at-start (8 + byte t 6)) (omega (arith, (fine-table t e).start, first-is t))) ∙ p.start;
        state = order-put.state;
        read = ap₂ (λ n at. times n (rule t') (at, [])) (sym order-length) (sym length-head-new) ∙ order-put.read;
        end = order-put.end;
      }

  pub order-accepted : check_table t' ≡ got tt
  order-accepted = parts-accepted t' new-parts

  new-decoded : (grammar_of t').rules ≡ map (decode (head_bytes t)) o.order
  unfolding grammar_of
  new-decoded = ap₂ (λ n at. several n (rule_at t') (rule_end t') at) (sym order-length) (sym length-head-new) ∙ order-put.rules

  dims-kept : (grammar_of t).dims ≡ (grammar_of t').dims
  unfolding grammar_of
  dims-kept =
      several-same (byte t) (byte t') (λ p. p + 1) (λ p. p + 1) (λ n a b. (a ≡ b) × (a + n ≤ first_rule t))
      (λ n a b (q, l). (byte-same window (at-start a) (omega arith) ∙ ap (byte t') q, (omega arith, omega arith))) (byte t 5) 9 9 (refl, omega (arith, dims-fit))
      ∙ ap (λ n. several n (byte t') (λ p. p + 1) 9) (byte-same window (at-start 5) (omega (arith, nine)))

  start-kept : (grammar_of t).start ≡ (grammar_of t').start
  unfolding grammar_of
  start-kept = start-same

  pub order-grammar : ((grammar_of t).start ≡ (grammar_of t').start) × ((grammar_of t).dims ≡ (grammar_of t').dims) × Permuted (grammar_of t).rules (grammar_of t').rules
  order-grammar = (start-kept, dims-kept, subst₂ Permuted (sym (decoded t e)) (sym new-decoded) (permuted-map (decode (head_bytes t)) o.same))

  same-rules : SameRules (grammar_of t) (grammar_of t')
  same-rules = same_set (valid-grammar t e) (valid-grammar t' order-accepted) start-kept (λ r. permuted-mem order-grammar.2) (λ r. permuted-mem (permuted-back order-grammar.2))

  same_check : check_table t ≡ check_table t'
  same_check = e ∙ sym order-accepted

  -- what is allowed for the one is allowed for the other
  module _ {c p n : ℕ} {a : List ℕ} where
    pub read-order : {w : List ℕ} {allowance : ℕ} {b : List ℕ} → Read t w allowance b c p n a ↔ Read t' w allowance b c p n a
    read-order = (read-carried t t' same_check (λ _. same-rules), read-carried t' t (sym same_check) (λ _. turned same-rules))

    pub tree-order : {w chart : List ℕ} {count root : ℕ} {b : List ℕ} → TreeWritten t w chart count root b c p n a ↔ TreeWritten t' w chart count root b c p n a
    tree-order = (tree-carried t t' same_check (λ _. same-rules), tree-carried t' t (sym same_check) (λ _. turned same-rules))

    pub sentence-order : {l b : List ℕ} → SentenceWritten t l b c p n a ↔ SentenceWritten t' l b c p n a
    sentence-order = (sentence-carried t t' same_check (λ _. same-rules), sentence-carried t' t (sym same_check) (λ _. turned same-rules))

  -- and two results, one for each, are equal: code, place, count and the whole slice
  module _ {c p n : ℕ} {a : List ℕ} {c' p' n' : ℕ} {a' : List ℕ} where
    pub same-read-order : {w : List ℕ} {allowance : ℕ} {b : List ℕ} → Read t w allowance b c p n a → Read t' w allowance b c' p' n' a' → Same c p n a c' p' n' a'
    same-read-order {w} {allowance} {b} x y = same_read t' w allowance b (read-order.0 x) y

    pub same-tree-order : {w chart : List ℕ} {count root : ℕ} {b : List ℕ} → TreeWritten t w chart count root b c p n a → TreeWritten t' w chart count root b c' p' n' a' → Same c p n a c' p' n' a'
    same-tree-order {w} {chart} {count} {root} {b} x y = same-tree t' w chart count root b (tree-order.0 x) y

    pub same-sentence-order : {l b : List ℕ} → SentenceWritten t l b c p n a → SentenceWritten t' l b c' p' n' a' → Same c p n a c' p' n' a'
    same-sentence-order {l} {b} x y = same-sentence t' l b (sentence-order.0 x) y
