use Rattle.tb_pool.specs.Lists.{list_at}
use Rattle.tb_output.proofs.ColumnPages.SizeLemmas.{taken, amount-passed}
use Rattle.tb_output.proofs.Machine.told.Goals as goal

pub sum_of-requires-clause-second : goal.sum_of-requires-clause-second
sum_of-requires-clause-second c =
    let e = c.list_extent-extent.result in
    let t = taken (list_at c.args.store.now c.args.body) e.room e.depth c.requires.body.sized c.requires.body.few c.list_extent-extent.ensures.room c.list_extent-extent.ensures.depth in
    amount-passed e.room t.small
