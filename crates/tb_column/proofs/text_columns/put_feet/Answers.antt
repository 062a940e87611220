use Rattle.std.proofs.Common.{◌∙◌, ap, ◌++◌}
use Rattle.tb_pool.specs.Lists.{list_at}
use Rattle.tb_column.specs.Notes.{boxes_among}
use Rattle.tb_column.specs.TextColumns.{notes_list}
use Rattle.tb_column.proofs.text_columns.put_feet.Goals as goal
use Rattle.std.specs.Prelude.{true}

pub returns-clause-text : goal.returns-clause-text
returns-clause-text c = c.join_notes.ensures.text ∙ ap (λ k. list_at c.args.store.now c.args.body ++ notes_list c.args.p.now k c.args.store.now (boxes_among true c.args.notes.now)) c.foot_kern-kern.ensures
