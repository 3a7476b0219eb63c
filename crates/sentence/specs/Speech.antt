-- The words of noted nodes as the code finds them, from the table's bytes. Nothing here is a rule of its own.
use Rattle.std.specs.Prelude.{ℕ, zero, suc, ◌+◌, ◌-◌, ◌≤◌, ◌<◌, ◌≡◌, List, [], ◌∷◌, ◌++◌, cond, eqb, length, get_or}
use Rattle.std.proofs.lemmas.List.Edits.{sets}
use Rattle.meaning.specs.Table.{byte, number}
use Rattle.meaning.specs.Decode.{past, row_end, rows_of}
use Rattle.sentence.specs.Nodes.{daughter}

-- what the symbol at a place says, where `say` tells the daughters' constituents
abbrev pub heard : List ℕ → (ℕ → ℕ → List ℕ) → ℕ → List ℕ
heard t say place = cond (eqb (byte t place) 0) (number t (place + 1) ∷ []) (say (byte t place - 1) (number t (place + 1) - 1))

-- what n symbols from a place on say
unfoldable pub run : List ℕ → (ℕ → ℕ → List ℕ) → ℕ → ℕ → List ℕ
run t say zero place = []
run t say (suc n) place = heard t say place ++ run t say n (place + 3)

-- where row c of the rule at a place starts
abbrev pub row_place : List ℕ → ℕ → ℕ → ℕ
row_place t rule c = past c (row_end t) (rows_of t rule)

-- constituent c of the tree at a node, of at most n levels
unfoldable pub spelled : List ℕ → List ℕ → ℕ → ℕ → ℕ → List ℕ
spelled t ns zero at c = []
spelled t ns (suc n) at c =
    let row = row_place t (get_or ns at 0) c in
    run t (λ k d. spelled t ns n (daughter t ns at k) d) (byte t row) (row + 1)

-- what the daughters of a node say, of at most n levels
abbrev pub below : List ℕ → List ℕ → ℕ → ℕ → ℕ → ℕ → List ℕ
below t ns n at k d = spelled t ns n (daughter t ns at k) d

-- the words of the tree of all the nodes
abbrev pub whole : List ℕ → List ℕ → List ℕ
whole t ns = spelled t ns (length ns) 0 0

-- a node and a constituent that a walk of so many further levels can come to
pub record Near (left at c : ℕ) : Type 0 where
  pub levels : left ≤ 255
  pub place : at + left ≤ 510
  pub constituent : c ≤ 65535

-- a node, and the place of a symbol of its rule, that a walk of so many further levels can come to
pub record Close (t : List ℕ) (fewer at place : ℕ) : Type 0 where
  pub levels : fewer < 255
  pub node : at + fewer < 510
  pub symbol : place ≤ length t + 68000

-- the numbers ws are written from a place on, as far as there is room, and r is the place after them
pub record Spoke (ws before : List ℕ) (pos : ℕ) (after : List ℕ) (r : ℕ) : Type 0 where
  pub next : r ≡ pos + length ws
  pub text : after ≡ sets before pos ws
