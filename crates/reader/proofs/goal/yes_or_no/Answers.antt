use mathlib.Core.Path.{◌≡◌, ap, ◌∙◌}
use Prim.Native.Nat.{ℕ}
use native.Mathlib.Omega.{arith}
use Rattle.meaning.specs.Table.{byte}
use Rattle.meaning.proofs.Ends.{fine-table}
use Rattle.reader.specs.Answers.{goal_key}
use Rattle.reader.proofs.Goals.{goal-there, goal-nowhere}
use Rattle.reader.proofs.goal.yes_or_no.Goals as goal

pub goal_key-key-requires : goal.goal_key-key-requires
goal_key-key-requires c =
    let f = fine-table c.args.table.bytes.now c.args.table.accepted in
    (omega (arith, c.byte_at.ensures.0, f.start.1, f.categories.1), c.requires.0)

pub place_of-requires : goal.place_of-requires
place_of-requires c =
    let f = fine-table c.args.table.bytes.now c.args.table.accepted in
    (c.requires.1, omega (arith, c.requires.0, c.byte_at.ensures.0, f.start.1, f.categories.1, c.goal_key-key.ensures))

pub returns-in-Some : goal.returns-in-Some
returns-in-Some c =
    let key : c.goal_key-key.result ≡ goal_key (byte c.args.table.bytes.now 6) c.args.n = c.goal_key-key.ensures ∙ ap (λ (s : ℕ). goal_key s c.args.n) c.byte_at.ensures.0 in
    goal-there key c.in-Some.ensures

pub returns-in-None : goal.returns-in-None
returns-in-None c =
    let key : c.goal_key-key.result ≡ goal_key (byte c.args.table.bytes.now 6) c.args.n = c.goal_key-key.ensures ∙ ap (λ (s : ℕ). goal_key s c.args.n) c.byte_at.ensures.0 in
    goal-nowhere key c.in-None.ensures
