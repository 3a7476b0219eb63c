-- `hint::codes::parts_meet` meets its contract: the three parts, as the key's digits have them.
use mathlib.Core.Path.{sym, ◌∙◌}
use Rattle.std.proofs.lemmas.Bool.{false≢true}
use Rattle.store.specs.Code.{unpacked}
use Rattle.phrase.proofs.Fit.{said-yes, said-no, instead}
use Rattle.hint.proofs.Segments.{no-is}
use Rattle.hint.proofs.codes.parts_meet.Goals as goal
use Rattle.hint.proofs.codes.parts_meet.Goals.{then-part_meets, else-part_meets}

pub returns-then-part_meets-2 : goal.returns-then-part_meets-2
unfolding unpacked
returns-then-part_meets-2 c =
    elim c.if-part_meets.branch [
      | then-part_meets w ↦
          let two = said-yes c.part_meets.ensures w.if-part_meets.true in
          let three = said-yes w.part_meets-then-part_meets.ensures (sym w.value-is ∙ c.if-part_meets-2.true) in
          instead (λ one. record { one = one; two = two; three = three }) (λ m. m.one) c.part_meets-then-part_meets-2.ensures
      | else-part_meets w ↦ absurd (false≢true (sym w.if-part_meets.false ∙ sym w.value-is ∙ c.if-part_meets-2.true))
    ]

pub returns-else-part_meets-2 : goal.returns-else-part_meets-2
unfolding unpacked
returns-else-part_meets-2 c =
    elim c.if-part_meets.branch [
      | then-part_meets w ↦ no-is c.if-part_meets-2.false (λ m. said-no w.part_meets-then-part_meets.ensures (sym w.value-is ∙ c.if-part_meets-2.false) m.three)
      | else-part_meets w ↦ no-is c.if-part_meets-2.false (λ m. said-no c.part_meets.ensures w.if-part_meets.false m.two)
    ]
