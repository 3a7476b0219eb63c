-- What is known of a task's daughters, and what is added from them, in short.
use Rattle.std.specs.Prelude.{ℕ, Option}
use mathlib.Core.List.{List}
use Rattle.meaning.specs.Table.{rank_of}
use Rattle.phrase.specs.declared.items.Daughters.{Daughters}
use Rattle.hint.specs.declared.Wants.{Wants}
use Rattle.search.specs.declared.task.Task.{Task}
use Rattle.search.specs.Level.{Filled}
use Rattle.search.specs.Tried as tried

-- left daughters are not chosen, and those that are chosen are known items
abbrev pub Trying : Task → Daughters → ℕ → Type 0
Trying task d left = tried.Trying task.rule.table.now task.rule.at d task.known.now left

-- the code c is tried as daughter k, of which w is asked, and left more are not chosen
abbrev pub Trial : Task → Daughters → ℕ → ℕ → Wants → ℕ → Type 0
Trial task d k left w c = tried.Trial task.rule.table.now task.words.now task.rule.at task.goal d task.known.now k left w c

-- the rule gives the item of a key from the chosen daughters and other known items
abbrev pub Tried : Task → Daughters → ℕ → Type 0
Tried task d = tried.Tried task.rule.table.now task.words.now task.rule.at task.goal d task.known.now

-- a key begins with these digits and goes on with a range of each of the last rows, so many of three
abbrev pub Ranges : Task → Daughters → ℕ → ℕ → ℕ → Type 0
Ranges task d rows key = tried.Ranges task.rule.table.now task.words.now task.rule.at d rows key

-- no daughter is chosen
abbrev pub none_chosen : Task → Daughters
none_chosen task = tried.none_of (rank_of task.rule.table.now task.rule.at)

-- the keys of S that are not known are added
abbrev pub Fills : Task → (ℕ → Type 0) → List ℕ → ℕ → List ℕ → Option ℕ → Type 0
Fills task S a n b r = Filled task.known.now task.goal.height S a n b r
