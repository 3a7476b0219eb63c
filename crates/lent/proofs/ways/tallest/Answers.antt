-- `lent::ways::tallest` meets its contract: the greatest of the first heights.
use mathlib.Core.Path.{sym, ◌∙◌}
use Rattle.lent.proofs.Statings.{tallest-is}
use Rattle.std.proofs.lemmas.Iterator.{YieldsList-from_slice}
use Rattle.std.proofs.lemmas.Iterator.Adapters.{option_map_id}
use Rattle.std.proofs.lemmas.Iterator.Consumers.{max_from_yields_List, YieldsList-from_copied}
use Rattle.lent.proofs.ways.tallest.Goals as goal

pub returns : goal.returns
returns c = c.unwrap_or.ensures ∙ tallest-is c.args.d _ c.max.result c.min.ensures
    (sym (option_map_id _) ∙ max_from_yields_List c.copied.result c.max.result c.max.ensures.ran (YieldsList-from_copied (YieldsList-from_slice _ cc)))
