-- `tree::tree` meets its contract: the first refusal in the checks' order is the answer, or else the root's tree is written.
use mathlib.Core.Path.{◌≡◌, refl, sym}
use native.Mathlib.Omega.{arith}
use lib.Seq.{length-take-le}
use Rattle.meaning.specs.Decode.{words_of}
use Rattle.meaning.proofs.Determined.{words-few, table-accepted}
use Rattle.input.proofs.Sentence.{words-read}
use Rattle.tree.proofs.Judging.{input-refused, passes, many-refused, bad-refused, tree-written}
use Rattle.tree.proofs.Records.{falling}
use Rattle.tree.proofs.tree.Goals as goal

pub returns-in_err-check_input : goal.returns-in_err-check_input
returns-in_err-check_input c =
    let a = c.args in
    input-refused a.table.now a.words.now a.chart.now a.count a.root a.out.now c.from_residual.result c.in_err-check_input.ensures c.from_residual.ensures.1

pub slice_bounds-space-end : goal.slice_bounds-space-end
slice_bounds-space-end c = words-few c.args.table.now c.args.words.now (sym c.in_ok-check_input.ensures)

pub slice_bounds-numbers-end : goal.slice_bounds-numbers-end
slice_bounds-numbers-end c = sym (length-take-le _ _ (words-few c.args.table.now c.args.words.now (sym c.in_ok-check_input.ensures)))

pub invariant_of-table : goal.invariant_of-table
invariant_of-table c = record { accepted = table-accepted c.args.table.now c.args.words.now (sym c.in_ok-check_input.ensures) }

pub returns-in-Err-Many : goal.returns-in-Err-Many
returns-in-Err-Many c =
    let a = c.args in
    let e = sym c.in_ok-check_input.ensures in
    let q : c.read_words.new.words ≡ words_of a.words.now = words-read a.table.now a.words.now _ e refl c.read_words.ensures in
    many-refused a.table.now a.words.now a.chart.now a.count a.root a.out.now e (rw (q, c.in-Err-Many.field-0-is) at c.in-Err-Many.ensures) (omega arith)

pub returns-in-Err-Bad : goal.returns-in-Err-Bad
returns-in-Err-Bad c =
    let a = c.args in
    let e = sym c.in_ok-check_input.ensures in
    let q : c.read_words.new.words ≡ words_of a.words.now = words-read a.table.now a.words.now _ e refl c.read_words.ensures in
    bad-refused a.table.now a.words.now a.chart.now a.count a.root a.out.now e (rw (q, c.in-Err-Bad.field-0-is) at c.in-Err-Bad.ensures)
    (omega (arith, c.in-Err-Bad.i-is))

pub invariant_of-chart : goal.invariant_of-chart
invariant_of-chart c =
    let a = c.args in
    let e = sym c.in_ok-check_input.ensures in
    record { falling = falling a.table.now c.read_words.new.words a.chart.now a.count (table-accepted a.table.now a.words.now e) (passes c.in-Ok.ensures) }

pub returns-in-Ok : goal.returns-in-Ok
returns-in-Ok c =
    let a = c.args in
    let e = sym c.in_ok-check_input.ensures in
    let q : c.read_words.new.words ≡ words_of a.words.now = words-read a.table.now a.words.now _ e refl c.read_words.ensures in
    tree-written a.table.now a.words.now a.chart.now a.count a.root a.out.now e (rw q at c.in-Ok.ensures) c.write_root.ensures
