use Rattle.std.proofs.Common.{◌∙◌, sym, subst, length, ◌*◌}
use Rattle.tb_pool.specs.Lists.{list_at}
use Rattle.tb_float.specs.Ranges.{IsWithin}
use Rattle.tb_output.proofs.ColumnPages.SizeLemmas.{taken, amount-cast}
use Rattle.tb_output.proofs.texts.list_height.Goals as goal

pub returns-clause-value : goal.returns-clause-value
returns-clause-value c =
    let e = c.list_extent.result in
    let t = taken (list_at c.args.store.now c.args.l) e.room e.depth c.requires.sized c.requires.few c.list_extent.ensures.room c.list_extent.ensures.depth in
    amount-cast e.room t.small ∙ c.list_extent.ensures.room

pub returns-clause-within : goal.returns-clause-within
returns-clause-within c =
    let ns = list_at c.args.store.now c.args.l in
    let e = c.list_extent.result in
    let t = taken ns e.room e.depth c.requires.sized c.requires.few c.list_extent.ensures.room c.list_extent.ensures.depth in
    subst (IsWithin (2147483646 * length ns)) (sym (amount-cast e.room t.small)) t.within
