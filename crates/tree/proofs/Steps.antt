-- What each step of the recursion has written: nothing where there is no room, a node, one daughter's tree more, the whole.
use mathlib.Core.Path.{◌≡◌, sym, subst}
use mathlib.Core.List.{List}
use Prim.Native.Nat.{ℕ, ◌+◌, ◌≤◌, ◌<◌}
use lib.ListN.{length, set}
use Rattle.std.specs.Prelude.{Option, Some, None}
use Rattle.meaning.specs.Decode.{grammar_of}
use Rattle.meaning.specs.TreeWriting.{nodes}
use Rattle.tree.specs.Writing.{rank, function_at, place_at, Falling, Wrote}
use Rattle.tree.proofs.Trees.{first_trees, last_trees, nodes-are, nodes-more, nodes-rest}
use Rattle.tree.proofs.Laws.{then, cut_off, stored, no-room-for}

module _ (t c : List ℕ) (count : ℕ) (falls : Falling t c count) (i : ℕ) (h : i < count) where
  pub none-of-it : (s : List ℕ) (p : ℕ) → length s ≤ p → Wrote (nodes (grammar_of t) c count i) s p s None
  none-of-it s p l = rw (nodes-are t c count falls i 3 h (falls.three i h)) (no-room-for s p _ _ l)

  pub one-daughter : (k : ℕ) {j : ℕ} {s : List ℕ} {p : ℕ} {u : List ℕ} {q : ℕ} {v : List ℕ} {r : Option ℕ} → k < rank t (function_at c i)
      → Wrote (first_trees t c count i k) s p u (Some q) → j ≡ place_at c i k → Wrote (nodes (grammar_of t) c count j) u q v r
      → Wrote (first_trees t c count i (k + 1)) s p v r
  one-daughter k {j} {s} {p} {u} {q} {v} {r} l w e w' =
      let last : Wrote (nodes (grammar_of t) c count (place_at c i k)) u q v r = subst (λ (x : ℕ). Wrote (nodes (grammar_of t) c count x) u q v r) e w' in
      subst (λ (ns : List ℕ). Wrote ns s p v r) (sym (nodes-more t c count falls i k h l)) (then w last)

  pub all-daughters : (k : ℕ) (s : List ℕ) (p : ℕ) {u : List ℕ} {r : Option ℕ} → p < length s → rank t (function_at c i) ≤ k
      → Wrote (first_trees t c count i k) (set s p (function_at c i)) (p + 1) u r → Wrote (nodes (grammar_of t) c count i) s p u r
  all-daughters k s p {u} {r} l m w = subst (λ (ns : List ℕ). Wrote ns s p u r) (sym (nodes-are t c count falls i k h m)) (stored s p (function_at c i) l w)

  -- the trees of the first daughters had no room, so the whole tree has none
  pub some-daughters : (k : ℕ) (s : List ℕ) (p : ℕ) {u : List ℕ} → p < length s → Wrote (first_trees t c count i k) (set s p (function_at c i)) (p + 1) u None
      → Wrote (nodes (grammar_of t) c count i) s p u None
  some-daughters k s p {u} l w =
      subst (λ (ns : List ℕ). Wrote ns s p u None) (sym (nodes-rest t c count falls i k h)) (stored s p (function_at c i) l (cut_off (last_trees t c count i k) w))
