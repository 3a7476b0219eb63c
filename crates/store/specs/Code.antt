-- Packed items: an item's category and six range numbers as the digits of one number to the base 128, so that number order is chart order.
use Rattle.std.specs.Prelude.{ℕ, ◌+◌, ◌*◌, ◌/◌, ◌%◌, ◌<◌}
use Rattle.meaning.specs.Range.{Item}
use Rattle.meaning.specs.Chart.{Known}
use Rattle.store.specs.Set.{key_of, height_of}

-- the item of a key
unfoldable pub unpacked : ℕ → Item
unpacked x =
    let k4 : ℕ = x / 128 in
    let k3 : ℕ = k4 / 128 in
    let k2 : ℕ = k3 / 128 in
    let k1 : ℕ = k2 / 128 in
    let k0 : ℕ = k1 / 128 in
    record {
      category = k0 / 128;
      one = record { from = k0 % 128; to = k1 % 128 };
      two = record { from = k2 % 128; to = k3 % 128 };
      three = record { from = k4 % 128; to = x % 128 };
    }

-- the key of an item
unfoldable pub packed : Item → ℕ
packed y =
    (((((y.category * 128 + y.one.from) * 128 + y.one.to) * 128 + y.two.from) * 128 + y.two.to) * 128 + y.three.from) * 128
    + y.three.to

-- an item whose numbers are digits
pub record Small (y : Item) : Type 0 where
  pub category : y.category < 128
  pub from₁ : y.one.from < 128
  pub to₁ : y.one.to < 128
  pub from₂ : y.two.from < 128
  pub to₂ : y.two.to < 128
  pub from₃ : y.three.from < 128
  pub to₃ : y.three.to < 128

-- the item and the height of a code
abbrev pub known_of : ℕ → Known Item
known_of c = record { item = unpacked (key_of c); height = height_of c }

abbrev pub code_of : Known Item → ℕ
code_of k = packed k.item * 2048 + k.height
