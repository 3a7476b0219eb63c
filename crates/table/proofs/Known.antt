-- What is known of a rule while it is read: what the type of its head and the readers' `requires` ask.
use Prim.Native.Nat.{ℕ, ◌+◌, ◌-◌, ◌≤◌}
use mathlib.Core.Path.{◌≡◌, subst}
use mathlib.Core.Bool.{false}
use mathlib.Core.List.{List}
use native.Mathlib.Omega.{arith}
use lib.ListN.{length}
use Rattle.meaning.specs.declared.Refusal.TheVariants.{Category}
use Rattle.meaning.specs.Table.{got, times, outside, byte, category, rank_of, daughter_of, dimension_of}
use Rattle.meaning.specs.Accepted.{Dims, Headed}
use Rattle.meaning.proofs.Fields.{inside, limited-there, times-there, symbol-there, header-there, dims-there}
use Rattle.table.specs.Views.{Small}

-- a constituent that passed its tests lies within the marks
pub part_inside :
    (t : List ℕ) (rule kind n r d : ℕ) → Small t rule → 1 ≤ kind → r ≡ rank_of t rule → kind ≤ r
    → d ≡ dimension_of t (daughter_of t rule kind) → outside 1 d n ≡ false → (1 ≤ n) × (n ≤ 3) × (kind ≤ 3)
part_inside t rule kind n r d s k e h e' o =
    let i = inside 1 d n o in
    let b : kind ≤ rank_of t rule = rw e at h in
    let m = s.dims kind k b in
    let w = s.rank in
    (i.0, omega arith, omega arith)

-- the daughters that were read
pub small-there : (t : List ℕ) (rule at next : ℕ) → Dims t → Headed t rule at → times (rank_of t rule) (category t) at ≡ got next → Small t rule
small-there t rule at next dims head e = record { within = head.within; rank = head.rank; dims = each }
  where
    each : (k : ℕ) → 1 ≤ k → k ≤ rank_of t rule → dimension_of t (daughter_of t rule k) ≤ 3
    each k low high =
        let r = times-there (λ q. (1 ≤ byte t q) × (byte t q ≤ byte t 5) × (q + 1 ≤ length t)) (category t) (λ q n. limited-there t 1 (byte t 5) (Category q) q n) (rank_of t rule) at next e (k - 1) (omega arith) in
        let p : at + (k - 1) ≡ rule + 3 + k = omega (arith, head.next) in
        subst (λ (q : ℕ). dimension_of t (byte t q) ≤ 3) p (dims (byte t (at + (k - 1))) r.0 r.1)

pub ruleset read = (symbol-there, small-there, header-there, dims-there)
