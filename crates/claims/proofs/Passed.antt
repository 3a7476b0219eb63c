-- What passes the tree writer's check holds only true items, and the tree that is written from a record makes its item. Every chart made by
-- the reader passes, and a tree written from it has the fewest levels of any tree of its phrase.
-- The main statements: `passed-true`, `written-tree`, `reader-passes`, `reader-not-bad`, `fewest-levels`.
use mathlib.Core.Path.{◌≡◌, refl, sym, ◌∙◌, subst}
use mathlib.Core.Logic.{inl, inr}
use mathlib.Core.List.{List}
use Prim.Native.Nat.{ℕ, ◌*◌, ◌-◌, ◌≤◌, ◌<◌}
use native.Mathlib.Omega.{arith}
use lib.ListN.{length, take, drop, replicate}
use lib.Seq.{take_at}
use Rattle.meaning.specs.Table.{got}
use Rattle.meaning.specs.Decode.{grammar_of, words_of, check_input}
use Rattle.meaning.specs.Order.{Each}
use Rattle.meaning.specs.Range.{Item}
use Rattle.meaning.specs.Grammar.{Grammar, Tree, levels}
use Rattle.meaning.specs.Giving.{Makes, True}
use Rattle.meaning.specs.Chart.{Entry, Way, Made, GivenBy, ChartOf, knowns}
use Rattle.meaning.specs.Reading.{room, laid, Read, bad_input, full, deep, read}
use Rattle.meaning.specs.TreeWriting.{stated_at, entry_at, lent, TooMany, Passes, blank, nodes, TreeWritten, too_many, bad_record, no_place, no_room, wrote}
use Rattle.meaning.specs.TreeWriting as tree
use Rattle.meaning.proofs.Order.{each_at, each_of, each_map}
use Rattle.meaning.proofs.Passing.{get_or-mem, known_is, shows, passes}
use Rattle.meaning.proofs.Lending.{entry-at, entry_of}
use Rattle.meaning.proofs.Writer.{written}
use Rattle.meaning.proofs.Determined.{valid-input, room_most}
use Rattle.meaning.proofs.Codes.{refusal-code}
use Rattle.claims.specs.Across.{Grown, Fewest}

module _ {G : Grammar} {ws c : List ℕ} {count : ℕ} (sound : Passes G ws c count) where
  ways : Each (λ e. Way (GivenBy G ws) (knowns (lent G c count)) e.known e.function e.places) (lent G c count)
  unfolding lent entry_at
  ways = each_of (lent G c count) (λ e m.
      let (i, h, q) = entry_of G c count m in
      rw q (sound.sound i h).way)

  -- the nodes that are written of a record are those of a tree that makes its item
  passed-tree : (i : ℕ) → i < count → Grown G ws (stated_at c i) (nodes G c count i)
  unfolding nodes lent entry_at
  passed-tree i h =
      let (t, m, l, f) = written G ws (lent G c count) ways (stated_at c i).height i (entry_at G c i) (entry-at G c count i h) (omega arith) in
      record { tree = t; makes = m; high = l; list = f }

  -- 'what passes holds only true items'
  pub passed-true : (i : ℕ) → i < count → True G ws (stated_at c i).item
  unfolding True
  passed-true i h = let g = passed-tree i h in (g.tree, g.makes)

-- so the nodes that the tree writer wrote from any chart are those of a tree that makes the root's item
module _ (t w c : List ℕ) (count root : ℕ) (b : List ℕ) where
  pub written-tree : {d p n : ℕ} {a : List ℕ} → TreeWritten t w c count root b d p n a → d ≡ 0
      → (root < count) × Grown (grammar_of t) (words_of w) (stated_at c root) (take n a)
  written-tree (tree.bad_input {r = r} e) z = absurd (omega (arith, (refusal-code r).0))
  written-tree (too_many e m) z = absurd (omega arith)
  written-tree (bad_record e f) z = absurd (omega arith)
  written-tree (no_place e s l) z = absurd (omega arith)
  written-tree (no_room e s l r) z = absurd (omega arith)
  written-tree (wrote {ns = ns} e s l q r) z =
      (l, subst (Grown (grammar_of t) (words_of w) (stated_at c root)) (sym (take_at ns (drop (length ns) b) (length ns) refl ∙ q)) (passed-tree s root l))

-- no records pass
none_pass : {G : Grammar} {ws c : List ℕ} → Passes G ws c 0
none_pass {c = c} = record { few = few; sound = λ i h. absurd (omega arith) }
  where
    few : TooMany c 0 → ⊥
    few (inl h) = omega arith
    few (inr h) = omega arith

module _ (t w : List ℕ) (allowance : ℕ) (b : List ℕ) where
  chart-passes : {C : List (Entry Item)} → check_input t w ≡ got tt → ChartOf (grammar_of t) (words_of w) C → length C ≤ room allowance b
      → Passes (grammar_of t) (words_of w) (laid C b) (length C)
  chart-passes {C} e c l =
      passes (words_of w) (valid-input t w e) C (each_map (λ x k. k.way) c.choices) (replicate (length b - 12 * length C) 0) c.sorted (omega (arith, room_most allowance b))

  -- 'Every chart made by the reader passes.'
  pub reader-passes : {c p n : ℕ} {a : List ℕ} → Read t w allowance b c p n a → Passes (grammar_of t) (words_of w) a n
  reader-passes (bad_input e) = none_pass
  reader-passes (full e o) = none_pass
  reader-passes (deep e o d) = none_pass
  reader-passes (read e c l v) = chart-passes e c l

  -- so that the tree writer never answers 17 of it
  pub reader-not-bad : {c p n : ℕ} {a : List ℕ} {root : ℕ} {before : List ℕ} {d q m : ℕ} {after : List ℕ}
      → Read t w allowance b c p n a → TreeWritten t w a n root before d q m after → d ≡ 17 → ⊥
  reader-not-bad x (tree.bad_input {r = r} e) z = omega (arith, (refusal-code r).1)
  reader-not-bad x (too_many e m) z = (reader-passes x).few m
  reader-not-bad x (bad_record {i = i} e f) z = f.bad ((reader-passes x).sound i f.below)
  reader-not-bad x (no_place e s l) z = omega arith
  reader-not-bad x (no_room e s l r) z = omega arith
  reader-not-bad x (wrote e s l q r) z = omega arith

-- a record of the reader's chart states its item's least height
module _ (t w : List ℕ) (allowance : ℕ) (b : List ℕ) where
  least-stated : {c p n : ℕ} {a : List ℕ} → Read t w allowance b c p n a → (i : ℕ) → i < n → (u : Tree) → Makes (grammar_of t) (words_of w) u (stated_at a i).item
      → (stated_at a i).height ≤ levels u
  unfolding Made
  least-stated (bad_input e) i h u m = absurd (omega arith)
  least-stated (full e o) i h u m = absurd (omega arith)
  least-stated (deep e o d) i h u m = absurd (omega arith)
  least-stated (read {C = C} e c l v) i h u m =
      let q = known_is (shows C (replicate (length b - 12 * length C) 0) i h) in
      rw q ((each_at c.heights (get_or-mem blank C i h)).least (levels u) (u, rw q at m, refl))

  -- 'the fewest levels of any tree that makes it true': of every tree written from the reader's own chart
  pub fewest-levels : {c p n : ℕ} {a : List ℕ} {root : ℕ} {before : List ℕ} {d q m : ℕ} {after : List ℕ}
      → Read t w allowance b c p n a → TreeWritten t w a n root before d q m after → d ≡ 0
      → Fewest (grammar_of t) (words_of w) (stated_at a root).item (take m after)
  fewest-levels {n = n} {a = a} {root = root} {before = before} x y z =
      let (h, g) = written-tree t w a n root before y z in
      record { tree = g.tree; makes = g.makes; list = g.list; fewest = λ u m. omega (arith, g.high, least-stated x root h u m) }
