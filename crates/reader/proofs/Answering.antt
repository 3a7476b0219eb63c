-- From what the code finds to what the reader answers: the records written and the goal looked for are a chart and its verdict; with a room, that
-- or too many items; with the checks of table and words, `Read`.
use mathlib.Core.Path.{◌≡◌, sym, ap, subst, ◌∙◌}
use mathlib.Core.List.{List, ◌++◌}
use Prim.Native.Nat.{ℕ, ◌*◌, ◌/◌, ◌≤◌, min}
use native.Mathlib.Omega.{arith}
use lib.ListN.{length, take, drop}
use lib.Seq.{length-take-le}
use Rattle.std.specs.Prelude.{Option, Some, None, Result, Ok, Err}
use Rattle.std.specs.Result.{IsErrAnd}
use Rattle.meaning.specs.declared.Refusal.{Refusal}
use Rattle.meaning.specs.Table.{got, refused, byte}
use Rattle.meaning.specs.Decode.{grammar_of, words_of, check_input}
use Rattle.meaning.specs.Chart.{records}
use Rattle.meaning.specs.Reading.{allowed, room, Over, cleared, Read, bad_input, full, read}
use Rattle.meaning.proofs.Determined.{table-accepted, room_most}
use Rattle.search.specs.Search.{Found, all, full as over}
use Rattle.search.specs.Keys.{KeyMade}
use Rattle.search.proofs.Whole.{more-over, all-chart}
use Rattle.reader.specs.Records.{Whole, Written}
use Rattle.reader.specs.declared.answer.Reading.{Reading as Answer}
use Rattle.reader.specs.declared.answer.ReadRefusal.{ReadRefusal}
use Rattle.reader.specs.declared.answer.ReadRefusal.TheVariants.{Input}
use Rattle.reader.specs.Answers.{code_of, place_of, count_of, goal_key, Judged, Charted, Reading, Answered, too_many, charted}
use Rattle.std.proofs.lemmas.List.{drop-replicate}
use Rattle.reader.proofs.Inputs.{words-short}
use Rattle.reader.proofs.Writing.{entries-length}
use Rattle.reader.proofs.Goals.{judged-verdict, judged-count}

-- with all records written and the goal looked for
pub charted-all : {t ws K before after : List ℕ} {code place count : ℕ} → Whole t ws K → Written t ws K K before after
    → Judged (goal_key (byte t 6) (length ws)) K code place count → Charted t ws K before code place count after
charted-all {t} {ws} {K} w r j = record {
  entries = r.entries;
  chart = all-chart t ws w.accepted w.short w.all r.entries r.known (rw r.known r.chosen);
  size = entries-length r;
  verdict = judged-verdict t ws w.accepted w.short r.entries K r.known j;
  count = judged-count _ j;
  there = r.there;
}

-- a refusal handed on: that of the table or the words
pub input-refused : {t w : List ℕ} {allowance : ℕ} {before : List ℕ} {r : Refusal} (a : Result Answer ReadRefusal) → refused r ≡ check_input t w
    → IsErrAnd a (λ e. e ≡ Input r) → Read t w allowance before (code_of a) (place_of a) (count_of a) before
input-refused (Ok x) e h = absurd h
input-refused (Err x) e h = rw h (bad_input (sym e))

-- a search with this room that answers that there are more items; the answer's place is the room
pub full-refused : {t ws : List ℕ} {room n place : ℕ} {before K after : List ℕ} {found : Option ℕ} → Found (KeyMade t ws) n K found → found ≡ None
    → n ≡ room → place ≡ room → after ≡ cleared before → Answered t ws room before 16 place 0 after
full-refused {t} {ws} {room} {n} {place} {before} {K} {after} f e q p l = go (rw e at f)
  where
    go : Found (KeyMade t ws) n K None → Answered t ws room before 16 place 0 after
    go (over m) = rw p (too_many (subst (λ (x : ℕ). Over (grammar_of t) ws x) q (more-over t ws m)) l)

-- the first of the codes are all items, and the chart slice holds their records
pub record FoundWhole (t ws codes before : List ℕ) (room count : ℕ) : Type 0 where
  pub whole : Whole t ws codes
  pub size : length codes ≡ count
  pub few : length codes ≤ room
  pub fits : 12 * length codes ≤ length before

pub found-whole : {t ws : List ℕ} {room n : ℕ} {before b : List ℕ} {found : Option ℕ} {r : ℕ} → Reading t ws room before → length b ≡ 2000
    → Found (KeyMade t ws) n b found → found ≡ Some r → n ≤ room → FoundWhole t ws (take r b) before room r
found-whole {t} {ws} {room} {n} {before} {b} {r = r} p s f e q = go (rw e at f)
  where
    go : Found (KeyMade t ws) n b (Some r) → FoundWhole t ws (take r b) before room r
    go (all h a) =
        let size : length (take r b) ≡ r = length-take-le r b (omega (arith, p.small)) in
        record {
          whole = record { accepted = p.accepted; short = p.short; all = a; most = omega (arith, p.small) };
          size = size;
          few = omega arith;
          fits = omega (arith, p.fits);
        }

module _ (t ws : List ℕ) {room : ℕ} where
  pub answered-chart : {before K mid after : List ℕ} {code place count : ℕ} → length K ≤ room → mid ≡ cleared before
      → Charted t ws K mid code place count after → Answered t ws room before code place count after
  answered-chart {before} h e c =
      let n : ℕ = 12 * length c.entries in
      let rest : drop n _ ≡ _ = ap (drop n) e ∙ drop-replicate n (length before) 0 in
      charted c.chart (omega (arith, c.size)) c.verdict (c.count ∙ sym c.size)
      (c.there ∙ ap (λ (l : List ℕ). records c.entries ++ l) rest)

module _ (t w : List ℕ) (allowance : ℕ) (before : List ℕ) (e : check_input t w ≡ got tt) where
  room-here : {n : ℕ} → n ≡ min (allowed allowance) (length before / 12) → n ≡ room allowance before
  unfolding room
  room-here q = q

  pub reading : {n : ℕ} → n ≡ min (allowed allowance) (length before / 12) → Reading t (words_of w) n before
  reading q = record {
    accepted = table-accepted t w e;
    short = words-short t w e;
    small = omega (arith, room-here q, room_most allowance before);
    fits = omega arith;
  }

  pub read-answered : {n : ℕ} {code place count : ℕ} {after : List ℕ} → n ≡ min (allowed allowance) (length before / 12)
      → Answered t (words_of w) n before code place count after → Read t w allowance before code place count after
  read-answered q a = go (room-here q) a
    where
      go : {n : ℕ} {code place count : ℕ} {after : List ℕ} → n ≡ room allowance before
          → Answered t (words_of w) n before code place count after → Read t w allowance before code place count after
      go {after = after} q (too_many o l) =
          let over-room = subst (λ (x : ℕ). Over (grammar_of t) (words_of w) x) q o in
          subst (λ (x : ℕ). Read t w allowance before 16 x 0 after) (sym q)
          (subst (λ (a : List ℕ). Read t w allowance before 16 (room allowance before) 0 a) (sym l) (full e over-room))
      go {code = code} {place = place} {after = after} q (charted {C = C} c h v m l) =
          subst (λ (x : ℕ). Read t w allowance before code place x after) (sym m)
          (subst (λ (a : List ℕ). Read t w allowance before code place (length C) a) (sym l) (read e c (omega arith) v))
