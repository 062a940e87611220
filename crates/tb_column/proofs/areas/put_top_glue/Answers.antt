use Rattle.std.proofs.Common.{◌∙◌, sym}
use Rattle.tb_column.specs.FloatColumns.{glue_list}
use Rattle.tb_column.proofs.MovingLemmas.{nothing-before, glue-is}
use Rattle.tb_column.proofs.areas.put_top_glue.Goals as goal

pub returns-else-not-is_no_glue-clause-lists : goal.returns-else-not-is_no_glue-clause-lists
returns-else-not-is_no_glue-clause-lists c = nothing-before c.args.store.now c.args.body (glue_list c.args.glue) c.requires.live (glue-is c.args.glue _ (sym c.is_no_glue.ensures ∙ c.if-not-is_no_glue.false))
