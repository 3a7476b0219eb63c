-- One record: what is needed to choose for an item, and that its twelve numbers are those of its entry.
use mathlib.Core.Path.{◌≡◌, refl, ap, ◌∙◌}
use mathlib.Core.List.{List, ◌++◌, Memᴰ as Mem}
use Prim.Native.Nat.{ℕ, ◌+◌, ◌/◌, ◌<◌, ◌^◌}
use native.Mathlib.Omega.{arith}
use lib.ListN.{length, get_or, take, drop}
use Rattle.meaning.specs.Chart.{shown}
use Rattle.store.specs.Code.{unpacked, known_of}
use Rattle.store.proofs.Packing.{pack-unpack, key-small}
use Rattle.store.proofs.Laws.{mem-at}
use Rattle.phrase.specs.declared.items.Item.{Item as CodedItem}
use Rattle.search.specs.Tried.{coded}
use Rattle.search.specs.Keys.{KeyMade}
use Rattle.search.proofs.Keys.{made-small}
use Rattle.chosen.specs.declared.Choice.{Choice}
use Rattle.chosen.specs.Chosen.{Choosing, Chooses}
use Rattle.reader.specs.Records.{record_of, Whole, Ruled, Entered}

-- what is needed to choose for item i
pub choosing : {t ws order K : List ℕ} (i : ℕ) → Whole t ws K → Ruled t order → i < length K → Choosing t ws order K (get_or K i 0)
choosing {K = K} i w r h = record {
  accepted = w.accepted;
  short = w.short;
  all = w.all;
  most = w.most;
  ranked = r.ranked;
  rules = r.rules;
  there = mem-at K i h;
}

-- an item's code is below 2 ^ 60
pub code-small : {t ws K : List ℕ} → Whole t ws K → {c : ℕ} → Mem c K → c < 2 ^ 60
unfolding KeyMade
code-small {t} {ws} w {c} m =
    let s = made-small t ws w.accepted w.short (unpacked (c / 2048)) _ (w.all.right c m).made in
    omega (arith, key-small (unpacked (c / 2048)) s, pack-unpack (c / 2048))

-- the twelve numbers are the record of the item with what is chosen for it
record-shown : {t ws K : List ℕ} {code : ℕ} {c : Choice} (h : Chooses t ws K code c)
    → record_of (coded code) c ≡ shown (record { known = known_of code; function = c.function; places = h.places })
unfolding shown unpacked
record-shown h = rw (h.one, h.two, h.three)

pub entered : {t ws K : List ℕ} {code at : ℕ} {x : CodedItem} {c : Choice} {before after : List ℕ} → Chooses t ws K code c → x ≡ coded code
    → after ≡ take at before ++ record_of x c ++ drop (at + 12) before → Entered t ws K code at before after
entered {at = at} {c = c} {before = before} h q e = record {
  entry = record { known = _; function = _; places = h.places };
  known = refl;
  chosen = h.chosen;
  there = e ∙ ap (λ (l : List ℕ). take at before ++ l ++ drop (at + 12) before) (ap (λ (y : CodedItem). record_of y c) q ∙ record-shown h);
}
