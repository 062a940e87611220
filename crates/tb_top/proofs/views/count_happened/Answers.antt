use Rattle.std.proofs.Common.{◌<◌, length, arith}
use Rattle.tb_top.proofs.Written.TallyLemmas.{counts-next}
use Rattle.tb_top.proofs.views.count_happened.Goals as goal

pub count_happening-requires-clause-room : goal.count_happening-requires-clause-room
count_happening-requires-clause-room c =
    let lt : c.loop-happening.happening-index < length c.args.happened.now = omega arith in
    counts-next c.args.store.now c.args.happened.now c.loop-happening.happening-index c.happening-item.result c.args.totals.now c.loop-happening.totals lt c.happening-item.is c.loop-happening.invariant.counted c.requires.room
