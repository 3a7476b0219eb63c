use mathlib.Core.Path.{◌≡◌, refl, sym}
use lib.Seq.{length-take-le}
use Rattle.meaning.specs.Decode.{words_of}
use Rattle.meaning.proofs.Determined.{words-few, table-accepted}
use Rattle.input.proofs.Sentence.{words-read}
use Rattle.reader.proofs.Answering.{input-refused, reading, read-answered}
use Rattle.reader.proofs.read.Goals as goal

pub returns-in_err-check_input : goal.returns-in_err-check_input
returns-in_err-check_input c = input-refused c.from_residual.result c.in_err-check_input.ensures c.from_residual.ensures.1

pub slice_bounds-space-end : goal.slice_bounds-space-end
slice_bounds-space-end c = words-few c.args.table.now c.args.words.now (sym c.in_ok-check_input.ensures)

pub slice_bounds-numbers-end : goal.slice_bounds-numbers-end
slice_bounds-numbers-end c = sym (length-take-le _ _ (words-few c.args.table.now c.args.words.now (sym c.in_ok-check_input.ensures)))

pub invariant_of-table : goal.invariant_of-table
invariant_of-table c = record { accepted = table-accepted c.args.table.now c.args.words.now (sym c.in_ok-check_input.ensures) }

pub sought-requires : goal.sought-requires
sought-requires c =
    let a = c.args in
    let e = sym c.in_ok-check_input.ensures in
    let q : c.read_words.new.words ≡ words_of a.words.now = words-read a.table.now a.words.now _ e refl c.read_words.ensures in
    rw q (reading a.table.now a.words.now a.allowance a.chart.now e c.room_of-room.ensures)

pub returns : goal.returns
returns c =
    let a = c.args in
    let e = sym c.in_ok-check_input.ensures in
    let q : c.read_words.new.words ≡ words_of a.words.now = words-read a.table.now a.words.now _ e refl c.read_words.ensures in
    read-answered a.table.now a.words.now a.allowance a.chart.now e c.room_of-room.ensures (rw q at c.sought.ensures)
