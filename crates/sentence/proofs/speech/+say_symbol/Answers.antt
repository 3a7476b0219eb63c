-- `say` and `symbol` meet their contracts: they call each other, and every call of `say` has one level less. Assumes nothing.
use mathlib.Core.Path.{◌≡◌, refl, sym, ap, ◌∙◌}
use mathlib.Core.List.{◌∷◌, []}
use Prim.Native.Nat.{ℕ, ◌+◌, ◌-◌, ◌*◌, ◌≤◌}
use native.Mathlib.Omega.{arith}
use lib.ListN.{length, get_or}
use Rattle.rules.proofs.Symbols.{word-of, part-of}
use Rattle.sentence.specs.Speech.{run, row_place, below, Near}
use Rattle.sentence.proofs.Turns.{began, spoke, one_on, word-spoke, spoke-same}
use Rattle.sentence.proofs.Turns.{run-turn, run_none, heard-fits, spelled_none, spelled-row, heard-word, heard-part, daughter-most}
use Rattle.sentence.proofs.speech.+say_symbol.Goals as goal

pub say-returns-then-left-eq0 : goal.say-returns-then-left-eq0
say-returns-then-left-eq0 t c = spoke (began _ _ refl) (spelled_none _ _ _ _ _ c.if-left-eq0.true)

pub say-loop-i-init : goal.say-loop-i-init
say-loop-i-init t c =
    let a = c.args in
    let r = c.row_place-row in
    let b = c.byte_at in
    let q : r.result ≡ row_place a.nodes.now.table.now (get_or a.nodes.now.places.now a.at 0) a.c
    = r.ensures.0 ∙ ap (λ (p : ℕ). row_place a.nodes.now.table.now p a.c) c.node_at.ensures in
    let n = c.from-i-end.ensures ∙ b.ensures.0 in
    let z : c.from-i-end.result - 0 ≡ c.from-i-end.result = omega arith in
    let y : r.result + 1 + 0 ≡ r.result + 1 = omega arith in
    (rw (z, y) (began _ _ (spelled-row a.nodes.now.table.now a.nodes.now.places.now a.left a.at a.c r.result c.from-i-end.result _ (omega (arith, c.if-left-eq0.false)) q n refl)), refl)

pub say-symbol-next-requires : goal.say-symbol-next-requires
say-symbol-next-requires t c =
    let a = c.args in
    let l = c.loop-i in
    let near = c.requires.near in
    let say = below a.nodes.now.table.now a.nodes.now.places.now (a.left - 1) a.at in
    let fewer = c.if-left-eq0.false in
    let small : c.from-i-end.result ≤ 255 = omega (arith, c.from-i-end.ensures, c.byte_at.ensures.1) in
    let m = c.from-i-end.result - l.i in
    let place = c.row_place-row.result + 1 + 3 * l.i in
    let left : l.next + length (run a.nodes.now.table.now say m place) ≤ 12240 = omega (arith, l.invariant.0.length, c.requires.c_bound) in
    let fits = heard-fits a.nodes.now.table.now say m place l.next 12240 (omega (arith, c.loop-i-test.true)) left in (
      omega (arith, c.decreases, fewer),
      (record { levels = omega (arith, near, fewer); node = omega (arith, near, fewer); symbol = omega (arith, c.row_place-row.ensures.1, small, c.loop-i-test.true) }, fits),
    )

pub say-loop-i-preserved : goal.say-loop-i-preserved
say-loop-i-preserved t c =
    let a = c.args in
    let l = c.loop-i in
    let s = c.symbol-next in
    let n = c.from-i-end.result in
    let row = c.row_place-row.result in
    let e : n - (l.i + 1) ≡ n - l.i - 1 = omega arith in
    let f : row + 1 + 3 * (l.i + 1) ≡ row + 1 + 3 * l.i + 3 = omega arith in
    (rw (e, f) (one_on _ _ _ _ l.invariant.0 (run-turn _ _ (n - l.i) (row + 1 + 3 * l.i) (omega (arith, c.loop-i-test.true))) s.ensures), s.auto.text ∙ l.invariant.1)

pub say-returns : goal.say-returns
say-returns t c = spoke c.loop-i.invariant.0 (run_none _ _ _ _ (omega (arith, c.loop-i-test.false)))

pub symbol-returns-in-Word : goal.symbol-returns-in-Word
symbol-returns-in-Word t c =
    let a = c.args in
    let (z, n) = word-of a.nodes.now.table.now a.place (c.in-Word.ensures.symbol) in
    let w = heard-word a.nodes.now.table.now a.nodes.now.places.now a.fewer a.at a.place z in
    word-spoke _ (w ∙ ap (λ (n : ℕ). n ∷ []) (sym n)) c.put.ensures refl

pub symbol-say-requires : goal.symbol-say-requires
symbol-say-requires t c =
    let a = c.args in
    let ns = a.nodes.now.places.now in
    let close = c.requires.close in
    let d = c.daughter in
    let (z, k, e) = part-of a.nodes.now.table.now a.place (c.in-Part.ensures.symbol) in
    let place = daughter-most a.nodes.now.table.now ns a.fewer a.at _ d.result d.ensures a.nodes.now.within.few close.levels close.node in
    let near : Near a.fewer d.result c.in-Part.c = record { levels = omega (arith, close); place = place; constituent = omega (arith, c.in-Part.ensures.small.1) } in
    let same = heard-part a.nodes.now.table.now ns a.fewer a.at a.place c.in-Part.k d.result c.in-Part.c z k d.ensures e in
    (omega (arith, c.decreases), (near, rw (← same) c.requires.place_bound))

pub symbol-returns-in-Part : goal.symbol-returns-in-Part
symbol-returns-in-Part t c =
    let a = c.args in
    let d = c.daughter in
    let (z, k, e) = part-of a.nodes.now.table.now a.place (c.in-Part.ensures.symbol) in
    spoke-same (heard-part a.nodes.now.table.now a.nodes.now.places.now a.fewer a.at a.place c.in-Part.k d.result c.in-Part.c z k d.ensures e) c.say.ensures
