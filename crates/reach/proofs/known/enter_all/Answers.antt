-- `reach::known::enter_all` meets its contract. The invariant: the first codes are entered.
use native.Mathlib.Omega.{arith}
use Rattle.store.proofs.Laws.{mem-at}
use Rattle.reach.proofs.Entering.{none-among, entered-none, one_more, all_among}
use Rattle.reach.proofs.known.enter_all.Goals as goal

pub loop-c-init : goal.loop-c-init
loop-c-init c = entered-none _ (none-among c.args.codes.now)

pub mark-requires : goal.mark-requires
mark-requires c =
    let loop = c.loop-c in
    (c.requires.each _ (mem-at c.args.codes.now loop.c-index (omega arith)), omega (arith, c.requires.room, loop.invariant.size))

pub loop-c-preserved : goal.loop-c-preserved
loop-c-preserved c = one_more c.args.codes.now (omega arith) c.loop-c.invariant c.mark.ensures

pub returns : goal.returns
returns c = all_among c.args.codes.now (omega arith) c.loop-c.invariant
