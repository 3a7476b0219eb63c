use Rattle.search.proofs.Parts.{finds}
use Rattle.search.proofs.spots.spots_of.Goals as goal

pub returns : goal.returns
returns c = finds c.find.result c.find-2.result c.find-3.result c.find-4.result c.find.ensures c.find-2.ensures c.find-3.ensures c.find-4.ensures c.requires.1 c.requires.2 c.requires.3
