-- `phrase::items::kind_at` meets its contract: the category of what is there.
use borrow.Author.Rules.{rules}
use Rattle.phrase.specs.Phrase.{item_of}
use Rattle.phrase.proofs.Values.{kind-of}
use Rattle.phrase.proofs.items.kind_at.Goals as goal

pub returns : goal.returns
unfolding item_of
returns c = rw kind-of (search rules)
