-- From the checks to the answer: what each refusal says, what was written in the space, and that what was judged is what the definition says.
use mathlib.Core.Path.{◌≡◌, refl, sym}
use mathlib.Core.List.{List, ◌++◌}
use Prim.Native.Nat.{ℕ, ◌<◌}
use native.Mathlib.Omega.{arith}
use lib.ListN.{length, take, drop}
use Rattle.std.specs.Prelude.{Option, Some, None, Result, Ok, Err}
use Rattle.std.specs.Option.{ok_or}
use Rattle.std.specs.Result.{IsErrAnd}
use Rattle.meaning.specs.declared.Refusal.{Refusal}
use Rattle.meaning.specs.Table.{got, refused}
use Rattle.meaning.specs.Decode.{grammar_of, words_of, check_input}
use Rattle.meaning.specs.TreeWriting.{Passes, nodes, tree_room, TreeWritten, bad_input, too_many, bad_record, no_place, no_room, wrote}
use Rattle.lent.specs.declared.ChartFault.TheVariants.{Many, Bad}
use Rattle.lent.specs.Lent.{Checked, good}
use Rattle.lent.specs.Lent as chart
use Rattle.tree.specs.declared.answer.TreeRefusal.{TreeRefusal}
use Rattle.tree.specs.declared.answer.TreeRefusal.TheVariants.{Input, TreeRoom}
use Rattle.tree.specs.Writing.{Wrote}
use Rattle.tree.specs.Answers.{code_of, place_of, count_of, Fitted, cramped, written, Rooted, outside, inside, Judged, many, bad, passed}
use Rattle.tree.proofs.Laws.{kept, fit, too_long}

-- what was written from the start of a space, or that it had no room
module _ {ns space mid before : List ℕ} {w : Option ℕ} {room : ℕ} (wrote : Wrote ns space 0 mid w) (size : length mid ≡ room) where
  pub cramped-out : (a : Result ℕ TreeRefusal) {r : TreeRefusal} → w ≡ None → Err r ≡ ok_or w (TreeRoom (length mid)) → IsErrAnd a (λ e. e ≡ r)
      → Fitted ns room before (code_of a) (place_of a) (count_of a) before
  cramped-out (Ok n) e q h = absurd h
  cramped-out (Err x) {r} e q h =
      let z : r ≡ TreeRoom (length mid) = cc (rw e at q) in
      rw (h, z) (cramped size (omega (arith, too_long (rw e at wrote), kept wrote)) refl)

  pub written-out : {n : ℕ} {copied : List ℕ} → w ≡ Some n → copied ≡ take n mid → Fitted ns room before 0 0 n (copied ++ drop n before)
  written-out {n} e q =
      let f = fit (rw e at wrote) in
      written f.size (omega (arith, f.within, kept wrote)) (rw (q, f.there))

-- the chart's check found no fault
pub passes : {t ws c : List ℕ} {count : ℕ} {u : Unit {0}} → Checked t ws c count (Ok u) → Passes (grammar_of t) ws c count
passes (good p) = p

module _ (t w c : List ℕ) (count root : ℕ) (b : List ℕ) where
  -- a refusal of the table or the words, handed on
  pub input-refused : (a : Result ℕ TreeRefusal) {r : Refusal} → refused r ≡ check_input t w → IsErrAnd a (λ e. e ≡ Input r)
      → TreeWritten t w c count root b (code_of a) (place_of a) (count_of a) b
  input-refused (Ok n) e h = absurd h
  input-refused (Err x) e h = rw h (bad_input (sym e))

  module _ (e : check_input t w ≡ got tt) where
    module _ (s : Passes (grammar_of t) (words_of w) c count) where
      fitted-written : {d p n : ℕ} {a : List ℕ} → root < count → Fitted (nodes (grammar_of t) c count root) (tree_room b) b d p n a → TreeWritten t w c count root b d p n a
      fitted-written l (cramped {r = r} q h f) = rw (q, f) (no_room e s l h)
      fitted-written l (written {n = n} q h f) = rw (f, q) (wrote e s l refl (rw (← q) h))

      rooted-written : {d p n : ℕ} {a : List ℕ} → Rooted t c count root b d p n a → TreeWritten t w c count root b d p n a
      rooted-written (outside l f) = rw f (no_place e s l)
      rooted-written (inside l f) = fitted-written l f

    judged-written : {d p n : ℕ} {a : List ℕ} → Judged t (words_of w) c count root b d p n a → TreeWritten t w c count root b d p n a
    judged-written (many m f) = rw f (too_many e m)
    judged-written (bad i f) = rw f (bad_record e i)
    judged-written (passed s f) = rooted-written s f

    -- a fault of the chart, handed on with its place
    pub many-refused : {p : ℕ} → Checked t (words_of w) c count (Err Many) → p ≡ 0 → TreeWritten t w c count root b 17 p 0 b
    many-refused (chart.many m) q = rw q (judged-written (many m refl))

    pub bad-refused : {i p : ℕ} → Checked t (words_of w) c count (Err (Bad i)) → p ≡ i → TreeWritten t w c count root b 17 p 0 b
    bad-refused (chart.bad f) q = rw q (judged-written (bad f refl))

    -- the chart passed
    pub tree-written : {u : Unit {0}} {d p n : ℕ} {a : List ℕ} → Checked t (words_of w) c count (Ok u) → Rooted t c count root b d p n a
        → TreeWritten t w c count root b d p n a
    tree-written x r = judged-written (passed (passes x) r)
