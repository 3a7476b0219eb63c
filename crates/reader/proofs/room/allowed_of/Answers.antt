use mathlib.Core.Path.{sym, ◌∙◌}
use Rattle.reader.proofs.Inputs.{allowed-none, allowed-some}
use Rattle.reader.proofs.room.allowed_of.Goals as goal

pub returns-then-allowance-eq0 : goal.returns-then-allowance-eq0
returns-then-allowance-eq0 c = sym (allowed-none _ c.if-allowance-eq0.true)

pub returns : goal.returns
returns c = c.min.ensures ∙ sym (allowed-some _ c.if-allowance-eq0.false)
