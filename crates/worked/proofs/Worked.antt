-- The worked cases: a test of a case that the prover computes, the law that what passes it holds, and the one theorem over the table of cases.
use mathlib.Core.Path.{◌≡◌, refl, sym, subst₂}
use mathlib.Core.Bool.{Bool, true, false, ◌&&◌, cond}
use mathlib.Core.Option.{Option, none, some}
use mathlib.Core.List.{List, [], ◌++◌}
use Prim.Native.Nat.{ℕ, ◌/◌, ◌<◌}
use lib.Dec.{T, leb, ltb, eqb, leb→le, ltb→lt, eqb→eq}
use lib.ListN.{length, drop}
use Rattle.meaning.specs.Refusals.{code_of, place_of, code}
use Rattle.meaning.specs.Refusals as ending
use Rattle.meaning.specs.Table.{Got, got, refused, times, any, member, outside, number, byte_field, number_field, symbol_field, header, limits, limited}
use Rattle.meaning.specs.Table.{unused, mark, word, part, symbol, row, missing, rule_head, rule_body, rule, rules, check_table}
use Rattle.meaning.specs.Decode.{past, several, symbol_at, row_at, row_end, rule_at, rule_end, grammar_of, words_of, word_there, check_words, check_input}
use Rattle.meaning.specs.Order.{Each, each_none, each_more}
use Rattle.meaning.specs.Range.{Item, joined, numbers}
use Rattle.meaning.specs.Chart.{Entry, tallest, shown, records}
use Rattle.meaning.specs.Reading.{allowed, room, laid, cleared, Read, bad_input, full, read}
use Rattle.meaning.specs.TreeWriting.{named, stated_at, entry_at, lent, told, nodes, tree_room, Passes, TreeWritten}
use Rattle.meaning.specs.TreeWriting as tree
use Rattle.meaning.specs.SentenceWriting.{walk, fault, SentenceWritten, wrong}
use Rattle.worked.specs.Worked.{Call, reader, tree_writer, sentence_writer, Case, Answers, Holds, cases}
use Rattle.meaning.proofs.Order.{each_map}
use Rattle.meaning.proofs.Tests.{both, eqs, eqs→eq}
use Rattle.meaning.proofs.Charts.{over}
use Rattle.meaning.proofs.Check.{check, checked, verdictb, verdict}
use Rattle.meaning.proofs.Passing.{passes}
use Rattle.meaning.proofs.Determined.{valid-input}

-- an answer's three numbers and slice are these
abbrev saysb : ℕ → ℕ → ℕ → List ℕ → ℕ → ℕ → ℕ → List ℕ → Bool
saysb c p n a c' p' n' a' = (eqb c c' && eqb p p') && (eqb n n' && eqs a a')

says : (P : ℕ → ℕ → ℕ → List ℕ → Type 0) {c p n : ℕ} {a : List ℕ} {c' p' n' : ℕ} {a' : List ℕ} → T (saysb c p n a c' p' n' a') → P c' p' n' a' → P c p n a
says P {c} {p} {n} {a} {c'} {p'} {n'} {a'} t h =
    let (u, v) = both (eqb c c' && eqb p p') (eqb n n' && eqs a a') t in
    let (c₁, p₁) = both (eqb c c') (eqb p p') u in
    let (n₁, a₁) = both (eqb n n') (eqs a a') v in
    rw (eqb→eq c c' c₁, eqb→eq p p' p₁, eqb→eq n n' n₁, eqs→eq a a' a₁) h

-- the reader: refused before the chart; more items than room, shown by a chart; or the chart itself
module _ (t w : List ℕ) (a : ℕ) (b : List ℕ) (c p n : ℕ) (s : List ℕ) where
  abbrev fullb : List (Entry Item) → Bool
  fullb C = (check (grammar_of t) (words_of w) C && ltb (room a b) (length C)) && saysb c p n s (code ending.Full) (room a b) 0 (cleared b)

  abbrev readb : List (Entry Item) → Bool
  readb C = (check (grammar_of t) (words_of w) C && leb (length C) (room a b)) && (verdictb (grammar_of t) (words_of w) C c p && saysb c p n s c p (length C) (laid C b))

  abbrev readerb : Got (Unit {0}) → List ℕ → Bool
  readerb (refused r) chart = saysb c p n s (code_of r) (place_of r) 0 b
  readerb (got u) chart = cond (eqb c (code ending.Full)) (fullb (lent (grammar_of t) chart (length chart / 12))) (readb (lent (grammar_of t) s n))

  full-holds : check_input t w ≡ got tt → (C : List (Entry Item)) → T (fullb C) → Read t w a b c p n s
  full-holds e C h =
      let (u, v) = both (check (grammar_of t) (words_of w) C && ltb (room a b) (length C)) _ h in
      let (x, y) = both (check (grammar_of t) (words_of w) C) _ u in
      says (Read t w a b) v (full e (over (checked (grammar_of t) (words_of w) C (valid-input t w e) x) (ltb→lt _ _ y)))

  read-holds : check_input t w ≡ got tt → (C : List (Entry Item)) → T (readb C) → Read t w a b c p n s
  read-holds e C h =
      let (u, v) = both (check (grammar_of t) (words_of w) C && leb (length C) (room a b)) _ h in
      let (x, y) = both (check (grammar_of t) (words_of w) C) _ u in
      let (d, z) = both (verdictb (grammar_of t) (words_of w) C c p) _ v in
      says (Read t w a b) z (read e (checked (grammar_of t) (words_of w) C (valid-input t w e) x) (leb→le _ _ y) (verdict (grammar_of t) (words_of w) C c p d))

  reader-holds : (g : Got (Unit {0})) (chart : List ℕ) → check_input t w ≡ g → T (readerb g chart) → Read t w a b c p n s
  reader-holds (refused r) chart e h = says (Read t w a b) h (bad_input e)
  reader-holds (got tt) chart e h = go (eqb c (code ending.Full)) h
    where
      go : (x : Bool) → T (cond x (fullb (lent (grammar_of t) chart (length chart / 12))) (readb (lent (grammar_of t) s n))) → Read t w a b c p n s
      go true k = full-holds e (lent (grammar_of t) chart (length chart / 12)) k
      go false k = read-holds e (lent (grammar_of t) s n) k

-- the tree writer over a chart that is the sentence's own: no room, or written
module _ (t w chart : List ℕ) (count root : ℕ) (b : List ℕ) (c p n : ℕ) (s : List ℕ) where
  abbrev own : List (Entry Item)
  own = lent (grammar_of t) chart count

  abbrev ns : List ℕ
  ns = nodes (grammar_of t) chart count root

  abbrev ownb : Bool
  ownb = (eqs chart (records own ++ []) && eqb count (length own)) && ((leb count 2000 && ltb root count) && check (grammar_of t) (words_of w) own)

  abbrev writtenb : Bool
  writtenb = cond (ltb (tree_room b) (length ns)) (saysb c p n s (code ending.TreeRoom) (tree_room b) 0 b) (leb (length ns) (tree_room b) && saysb c p n s (code ending.Done) 0 (length ns) (ns ++ drop (length ns) b))

  abbrev treeb : Got (Unit {0}) → Bool
  treeb (refused r) = false
  treeb (got u) = ownb && writtenb

  own-passes : check_input t w ≡ got tt → T ownb → Passes (grammar_of t) (words_of w) chart count × (root < count)
  own-passes e h =
      let (u, v) = both (eqs chart (records own ++ []) && eqb count (length own)) _ h in
      let (q, k) = both (eqs chart (records own ++ [])) (eqb count (length own)) u in
      let (x, y) = both (leb count 2000 && ltb root count) _ v in
      let (l, m) = both (leb count 2000) (ltb root count) x in
      let g = valid-input t w e in
      let C = checked (grammar_of t) (words_of w) own g y in
      let few = leb→le count 2000 l in
      let z = passes (words_of w) g own (each_map (λ e h. h.way) C.choices) [] C.sorted (rw (← eqb→eq count (length own) k) few) in
      (subst₂ (Passes (grammar_of t) (words_of w)) (sym (eqs→eq chart (records own ++ []) q)) (sym (eqb→eq count (length own) k)) z, ltb→lt root count m)

  tree-holds : (g : Got (Unit {0})) → check_input t w ≡ g → T (treeb g) → TreeWritten t w chart count root b c p n s
  tree-holds (refused r) e h = absurd h
  tree-holds (got tt) e h = let (u, v) = both ownb writtenb h in let (x, y) = own-passes e u in go x y (ltb (tree_room b) (length ns)) (ltb→lt (tree_room b) (length ns)) v
    where
      go : Passes (grammar_of t) (words_of w) chart count → root < count → (z : Bool) → (T z → tree_room b < length ns)
          → T (cond z (saysb c p n s (code ending.TreeRoom) (tree_room b) 0 b) (leb (length ns) (tree_room b) && saysb c p n s (code ending.Done) 0 (length ns) (ns ++ drop (length ns) b))) → TreeWritten t w chart count root b c p n s
      go x y true l k = says (TreeWritten t w chart count root b) k (tree.no_room e x y (l tt))
      go x y false l k = let (i, j) = both (leb (length ns) (tree_room b)) _ k in says (TreeWritten t w chart count root b) j (tree.wrote e x y refl (leb→le _ _ i))

-- the sentence writer on a list that is no tree
module _ (t l b : List ℕ) (c p n : ℕ) (s : List ℕ) where
  abbrev sentenceb : Got (Unit {0}) → Option ℕ → Bool
  sentenceb (refused r) o = false
  sentenceb (got u) none = false
  sentenceb (got u) (some i) = leb (length l) 255 && saysb c p n s (code ending.TreeList) i 0 b

  sentence-holds : (g : Got (Unit {0})) (o : Option ℕ) → check_table t ≡ g → fault (grammar_of t) l ≡ o → T (sentenceb g o) → SentenceWritten t l b c p n s
  sentence-holds (refused r) o e f h = absurd h
  sentence-holds (got tt) none e f h = absurd h
  sentence-holds (got tt) (some i) e f h = let (k, v) = both (leb (length l) 255) _ h in says (SentenceWritten t l b) v (wrong e (leb→le _ _ k) f)

-- the test of a case, and its law
abbrev callb : Call → ℕ → ℕ → ℕ → List ℕ → List ℕ → Bool
callb (reader t w a b) c p n s chart = readerb t w a b c p n s (check_input t w) chart
callb (tree_writer t w k i r b) c p n s chart = treeb t w k i r b c p n s (check_input t w)
callb (sentence_writer t l b) c p n s chart = sentenceb t l b c p n s (check_table t) (fault (grammar_of t) l)

abbrev holdsb : Case → Bool
holdsb k = callb k.call k.code k.place k.count k.after k.whole_chart

call-holds : (k : Call) (c p n : ℕ) (s chart : List ℕ) → T (callb k c p n s chart) → Answers k c p n s
call-holds (reader t w a b) c p n s chart h = reader-holds t w a b c p n s (check_input t w) chart refl h
call-holds (tree_writer t w k i r b) c p n s chart h = tree-holds t w k i r b c p n s (check_input t w) refl h
call-holds (sentence_writer t l b) c p n s chart h = sentence-holds t l b c p n s (check_table t) (fault (grammar_of t) l) refl refl h

-- document 01's eleven cases
pub worked : Each Holds cases
unfolding times any member outside number byte_field number_field symbol_field header limits limited unused mark word part symbol row missing
    rule_head rule_body rule rules check_table past several symbol_at row_at row_end rule_at rule_end grammar_of words_of word_there check_words check_input
    joined numbers tallest shown records allowed room named stated_at entry_at lent told nodes walk
worked = each_map (λ k t. call-holds k.call k.code k.place k.count k.after k.whole_chart t) tested
  where
    -- the test of each case is computed
    tested : Each (λ k. T (holdsb k)) cases
    tested =
        each_more tt (each_more tt (each_more tt (each_more tt (each_more tt (each_more tt (each_more tt (each_more tt (each_more tt (each_more tt (each_more tt
        each_none))))))))))
