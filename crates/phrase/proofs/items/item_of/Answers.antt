-- `phrase::items::item_of` meets its contract.
use borrow.Author.Rules.{rules}
use Rattle.phrase.specs.Phrase.{item_of}
use Rattle.phrase.proofs.items.item_of.Goals as goal

pub returns : goal.returns
unfolding item_of
returns c = search rules
