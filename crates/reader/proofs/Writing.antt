-- Records that are written one after another at the front of a slice.
use mathlib.Core.Path.{◌≡◌, refl, sym, ap, ◌∙◌}
use mathlib.Core.List.{List, [], ◌∷◌, ◌++◌, append-nil, append_assoc}
use Prim.Native.Nat.{ℕ, ◌+◌, ◌*◌, ◌<◌}
use native.Mathlib.Numerals.{add-one}
use native.Mathlib.Omega.{arith}
use Rattle.std.proofs.lemmas.List.{map_push}
use lib.ListN.{length, get_or, take, drop, length-append, length-map}
use lib.Seq.{take-suc, take_at, drop_at, drop-drop, length-take-le}
use Rattle.meaning.specs.Order.{each_none, each_more}
use Rattle.meaning.specs.Range.{Item}
use Rattle.meaning.specs.Chart.{Entry, entry_known, shown, records}
use Rattle.meaning.proofs.Order.{each_append}
use Rattle.store.specs.Code.{known_of}
use Rattle.reader.specs.Records.{Written, Entered}

length-records : (E : List (Entry Item)) → length (records E) ≡ 12 * length E
unfolding records shown
length-records [] = refl
length-records (e ∷ E) = omega (arith, length-records E)

records-snoc : (E : List (Entry Item)) (e : Entry Item) → records (E ++ (e ∷ [])) ≡ records E ++ shown e
unfolding records
records-snoc [] e = append-nil (shown e)
records-snoc (x ∷ E) e = ap (λ (l : List ℕ). shown x ++ l) (records-snoc E e) ∙ sym (append_assoc (shown x) (records E) (shown e))

module _ {t ws K : List ℕ} {before : List ℕ} where
  -- nothing is written yet
  pub write-none : Written t ws K (take 0 K) before before
  unfolding records
  write-none = record { entries = []; known = refl; chosen = each_none; there = refl }

  pub entries-length : {codes after : List ℕ} (w : Written t ws K codes before after) → length w.entries ≡ length codes
  entries-length {codes} w = sym (length-map w.entries entry_known) ∙ ap length w.known ∙ length-map codes known_of

  -- one record more
  pub write-next : {mid after : List ℕ} (i : ℕ) → i < length K → Written t ws K (take i K) before mid → Entered t ws K (get_or K i 0) (12 * i) mid after
      → Written t ws K (take (i + 1) K) before after
  write-next {mid} {after} i h w q = record {
    entries = E ++ (e ∷ []);
    known = rw (map_push, add-one, take-suc K i 0 h, map_push, w.known, q.known);
    chosen = each_append w.chosen (each_more q.chosen each_none);
    there = q.there ∙ rw (front, rest, records-snoc, append_assoc);
  }
    where
      E : List (Entry Item)
      E = w.entries

      e : Entry Item
      e = q.entry

      size : length E ≡ i
      size = entries-length w ∙ length-take-le i K (omega arith)

      front : take (12 * i) mid ≡ records E
      front = ap (take (12 * i)) w.there ∙ take_at (records E) _ (12 * i) (length-records E ∙ ap (λ (n : ℕ). 12 * n) size)

      rest : drop (12 * i + 12) mid ≡ drop (12 * length (E ++ (e ∷ []))) before
      rest =
          let n : 12 * length E + 12 ≡ 12 * length (E ++ (e ∷ [])) = omega (arith, length-append E (e ∷ [])) in
          sym (drop-drop 12 (12 * i) mid) ∙ ap (λ (l : List ℕ). drop 12 (drop (12 * i) l)) w.there
          ∙ ap (drop 12) (drop_at (records E) _ (12 * i) (length-records E ∙ ap (λ (n : ℕ). 12 * n) size))
          ∙ drop-drop 12 (12 * length E) before ∙ ap (λ (m : ℕ). drop m before) n
