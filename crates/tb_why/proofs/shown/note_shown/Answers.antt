use Rattle.std.proofs.Common.{arith, drop}
use Rattle.tb_why.specs.ShownOf.{all_shown_of}
use Rattle.tb_why.proofs.SheetLemmas.{sheets-rise}
use Rattle.tb_why.proofs.shown.note_shown.Goals as goal

pub note_showing-requires-clause-few : goal.note_showing-requires-clause-few
note_showing-requires-clause-few c =
    let few = c.loop-showing.invariant.few in
    let rise = sheets-rise c.loop-showing.summary.sheets (all_shown_of c.args.store.now (drop c.loop-showing.showing-index c.args.shown.now)) in
    omega (arith, few, rise)
