-- Items and daughters of the code: what each look-up says of them.
use Prim.Native.Nat.{ℕ, zero, suc, ◌+◌, ◌*◌, ◌≤◌, ◌<◌}
use mathlib.Core.Path.{◌≡◌, sym, ap, ◌∙◌}
use mathlib.Core.List.{List, [], ◌∷◌}
use native.Mathlib.Omega.{arith}
use lib.ListN.{get_or, length-take, get_or-eq_default, get_or-map}
use lib.Seq.{get_or-take}
use Rattle.meaning.specs.Range.{Item, nothing, at}
use Rattle.meaning.specs.Giving.{categories}
use Rattle.meaning.proofs.Joining.{range-path}
use Rattle.phrase.specs.declared.items.Item.{Item as CodedItem}
use Rattle.phrase.specs.declared.items.Daughters.{Daughters}
use Rattle.phrase.specs.Phrase.{item_of, items_of}

-- daughter k
abbrev pub three : Daughters → List Item
three d = item_of d.one ∷ item_of d.two ∷ item_of d.three ∷ []

abbrev pub kind : Item → ℕ
kind x = x.category

module _ (d : Daughters) (k : ℕ) where
  pub item-past : d.count ≤ k → nothing ≡ get_or (items_of d) k nothing
  unfolding items_of
  item-past h = sym (get_or-eq_default (items_of d) nothing {n = k} (omega (arith, length-take d.count (three d))))

  item-is : k < d.count → get_or (three d) k nothing ≡ get_or (items_of d) k nothing
  unfolding items_of
  item-is h = sym (get_or-take d.count (three d) k nothing h)

  pub item-at : (i : ℕ) → k < d.count → k ≡ i → get_or (three d) i nothing ≡ get_or (items_of d) k nothing
  item-at i h e = ap (λ (j : ℕ). get_or (three d) j nothing) (sym e) ∙ item-is h

  pub item-none : k < d.count → 2 < k → nothing ≡ get_or (items_of d) k nothing
  item-none h l = sym (get_or-eq_default (three d) nothing {n = k} (omega arith)) ∙ item-is h

  pub kind-of : get_or (categories (items_of d)) k 0 ≡ kind (get_or (items_of d) k nothing)
  kind-of = get_or-map kind (items_of d) k nothing

-- range i of an item: its ends stand from number 2 * i on
pub range-there : (x : CodedItem) (i : ℕ) {f t : ℕ} → i < 3 → f ≡ get_or x.ends (2 * i) 0 → t ≡ get_or x.ends (2 * i + 1) 0 → record { from = f; to = t } ≡ at (item_of x) i
unfolding item_of
range-there x zero h e g = range-path e g
range-there x (suc zero) h e g = range-path e g
range-there x (suc (suc zero)) h e g = range-path e g
range-there x (suc (suc (suc i))) h e g = absurd (omega arith)
