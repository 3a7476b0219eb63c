-- The row starts after the rows that are still to be passed.
use mathlib.Core.Path.{◌≡◌, sym, ap, ◌∙◌}
use Prim.Native.Nat.{ℕ, ◌+◌, ◌-◌, ◌*◌, ◌<◌}
use native.Mathlib.Omega.{arith}
use Rattle.meaning.specs.Table.{byte, rank_of}
use Rattle.meaning.specs.Decode.{past, row_end, rows_of}
use Rattle.meaning.proofs.Places.{past-turn, past-none, rows_are, row_is}
use Rattle.sentence.proofs.Turns.{row-bound}
use Rattle.sentence.proofs.speech.row_place.Goals as goal

pub loop-init : goal.loop-init
loop-init c =
    let t = c.args.table.now in
    let rule = c.args.rule in
    let rank : c.from.result ≡ rank_of t rule = c.from.ensures ∙ c.byte_at.ensures.0 in
    let e : rows_of t rule ≡ rule + 4 + c.from.result = rows_are t rule ∙ ap (λ (n : ℕ). rule + 4 + n) (sym rank) in
    let z : c.args.c - 0 ≡ c.args.c = omega arith in
    (rw z (ap (past c.args.c (row_end t)) e), omega (arith, c.byte_at.ensures.1, c.from.ensures, c.requires))

pub loop-preserved : goal.loop-preserved
loop-preserved c =
    let a = c.args in
    let t = a.table.now in
    let l = c.loop in
    let left = a.c - l.counter in
    let h : 0 < left = omega (arith, c.loop-test.true) in
    let n : a.c - (l.counter + 1) ≡ left - 1 = omega arith in
    let b = c.from-in-loop.result in
    let e : b ≡ byte t l.at = c.from-in-loop.ensures ∙ c.byte_at-in-loop.ensures.0 in
    let f : row_end t l.at ≡ l.at + 1 + 3 * b = row_is t l.at ∙ ap (λ (n : ℕ). l.at + 1 + 3 * n) (sym e) in
    let small : b < 256 = omega (arith, c.byte_at-in-loop.ensures.1, c.from-in-loop.ensures) in
    rw n (l.invariant.0 ∙ past-turn _ _ _ h ∙ ap (past (left - 1) (row_end t)) f, row-bound t l.at left a.c b e small l.invariant.1 (omega arith) h)

pub returns : goal.returns
returns c = let h = c.loop-test.false in
    (sym (c.loop.invariant.0 ∙ past-none _ _ _ (omega (arith, h))), omega (arith, c.loop.invariant.1, c.requires))
