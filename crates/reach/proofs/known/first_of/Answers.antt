-- `reach::known::first_of` meets its contract.
use mathlib.Core.Path.{refl}
use Rattle.store.specs.Code.{unpacked}
use Rattle.reach.proofs.known.first_of.Goals as goal

pub returns : goal.returns
unfolding unpacked
returns c = record { category = refl; from = refl; to = refl }
