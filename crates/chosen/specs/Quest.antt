-- What is asked and told of a quest's daughters, in short.
use Rattle.std.specs.Prelude.{ℕ, get_or}
use Rattle.meaning.specs.Table.{rank_of}
use Rattle.phrase.specs.declared.items.Daughters.{Daughters}
use Rattle.search.specs.Tried.{none_of}
use Rattle.chosen.specs.declared.looking.Look.{Look}
use Rattle.chosen.specs.declared.quest.Quest.{Quest}
use Rattle.chosen.specs.Walk as walk

-- the first k daughters of the rule are chosen, and no other
abbrev pub Seated : Quest → Daughters → ℕ → Type 0
Seated q d k = walk.Seated q.rule.table.now q.rule.at d k

-- no daughter is chosen
abbrev pub none_chosen : Quest → Daughters
none_chosen q = none_of (rank_of q.rule.table.now q.rule.at)

-- the daughters that are chosen and the known item at a place
abbrev pub one_more : Quest → Look → ℕ → Daughters
one_more q l place = walk.taken l.chosen l.turn (get_or q.known.now place 0)

-- the rule gives the goal, with the right heights, from the daughters that are chosen and some others
abbrev pub Leads : Quest → Daughters → Type 0
Leads q d = walk.Leads q.rule.table.now q.words.now q.rule.at q.goal d

-- daughter k is looked for: no place that leads to the goal is left out, and each that does is as asked
abbrev pub Seeks : Quest → Daughters → ℕ → Look → Type 0
Seeks q d k l = walk.Seeks q.rule.table.now q.words.now q.rule.at q.goal d k q.known.now l

-- a place is taken of those where a daughter is looked for
abbrev pub Onward : Quest → Look → ℕ → Type 0
Onward q l place = walk.Onward q.rule.table.now q.words.now q.rule.at q.goal q.known.now l place
