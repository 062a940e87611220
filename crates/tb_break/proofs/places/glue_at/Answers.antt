use Rattle.std.proofs.Common.{◌∙◌, ap, sym}
use Rattle.tb_pool.specs.Lists.{list_at}
use Rattle.tb_break.specs.Places.{begins_with_glue}
use Rattle.tb_break.proofs.LegalLemmas.{glue_there, none_at}
use Rattle.tb_break.proofs.places.glue_at.Goals as goal

pub returns-in-Some : goal.returns-in-Some
returns-in-Some c = c.is_glue.ensures ∙ glue_there (list_at c.args.store.now c.args.l) c.args.index c.in-Some.n.now c.in-Some.ensures

pub returns-in-None : goal.returns-in-None
returns-in-None c = sym (ap begins_with_glue (none_at (list_at c.args.store.now c.args.l) c.args.index c.in-None.ensures))
