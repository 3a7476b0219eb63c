-- `reach::places::Places::over_word` meets its contract: the ends move on over the word, and the start too, where the row is still there.
use Rattle.std.proofs.Common.{rules}
use Rattle.reach.specs.Reach.{WordAt}
use Rattle.reach.proofs.Sets.{true-not}
use Rattle.reach.proofs.ByKind.{word_first, word_on}
use Rattle.reach.proofs.places.Places.over_word.Goals as goal
use Rattle.reach.proofs.places.Places.over_word.Goals.{else-self-via-then-self+else-eq, else-self-via-else-self}

pub returns-then-eq : goal.returns-then-eq
returns-then-eq c =
    let a = c.args in
    let o : WordAt a.on.words.now a.w a.on.start = record { inside = search rules; is = search rules } in
    rw c.moved.ensures (word_first a.on.words.now a.w a.on.start a.self c.after-next.ensures c.if-self.true o c.only.ensures c.both.ensures)

pub returns : goal.returns
returns c =
    let a = c.args in
    rw c.moved-2.ensures
    (word_on a.on.words.now a.w a.on.start a.self c.after-next.ensures (elim c.else-self.branch [
      | else-self-via-then-self+else-eq w ↦ (λ o b. let i = b.inside in let e = b.is in search rules)
      | else-self-via-else-self w ↦ (λ o b. true-not _ o w.if-self.false)
    ]))
