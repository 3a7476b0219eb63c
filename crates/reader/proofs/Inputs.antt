-- What is at hand before the items are looked for: what is allowed, the words that were read, the rules in their order.
use mathlib.Core.Path.{◌≡◌, refl, ◌∙◌}
use mathlib.Core.List.{List}
use Prim.Native.Nat.{ℕ, zero, suc, ◌<◌, ◌≤◌, min}
use native.Mathlib.Omega.{arith}
use lib.ListN.{length, get_or, take}
use lib.Seq.{get_or-take, length-take-le}
use Rattle.meaning.specs.Table.{got, check_table}
use Rattle.meaning.specs.Decode.{words_of, check_input}
use Rattle.meaning.specs.Reading.{allowed}
use Rattle.meaning.proofs.Determined.{words-few}
use Rattle.meaning.proofs.Ends.{fine-table}
use Rattle.rules.specs.Walk.{Ranked, Ordered}
use Rattle.meaning.proofs.Words.{words-length}
use Rattle.reader.specs.Records.{Ruled}

-- 'more than 2,000 is taken as 2,000', of an allowance that is not 0
pub allowed-some : (a : ℕ) → (a ≡ 0 → ⊥) → allowed a ≡ min a 2000
unfolding allowed
allowed-some zero h = absurd (h refl)
allowed-some (suc a) h = refl

pub allowed-none : (a : ℕ) → a ≡ 0 → allowed a ≡ 2000
unfolding allowed
allowed-none a e = rw e

-- the rules that were ordered are the first of the slice
pub ruled : {t before after : List ℕ} {count : ℕ} → Ordered t before after count → count ≤ length after → Ruled t (take count after)
ruled {t} {before} {after} {count} o h = record { ranked = rw size ranked; rules = size ∙ o.all }
  where
    size : length (take count after) ≡ count
    size = length-take-le count after h

    at : (j : ℕ) → j < count → get_or (take count after) j 0 ≡ get_or after j 0
    at j l = get_or-take count after j 0 l

    ranked : Ranked t count (take count after)
    ranked = record {
      one = λ j l. let (i, k, e) = o.ranked.one j l in (i, k, at j l ∙ e);
      each = λ i l. let (j, k, e) = o.ranked.each i l in (j, k, at j k ∙ e);
      rising = λ j k l m. rw (at j (omega arith), at k m) (o.ranked.rising j k l m);
    }

pub rules-fit : {t before after : List ℕ} {count : ℕ} → check_table t ≡ got tt → length before ≡ 256
    → Ordered t before after count → count ≤ length after
rules-fit {t} e n o = omega (arith, o.all, o.size, (fine-table t e).count)

pub words-short : (t w : List ℕ) → check_input t w ≡ got tt → length (words_of w) ≤ 64
words-short t w e = omega (arith, words-length w, words-few t w e)
