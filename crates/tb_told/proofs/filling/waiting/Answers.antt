use Rattle.std.proofs.Common.{sym}
use Rattle.tb_float.specs.declared.Part.TheVariants as parts
use Rattle.tb_area.proofs.DeferredLemmas.{waiting_stands, waiting_there}
use Rattle.tb_told.proofs.filling.waiting.Goals as goal

pub float_at-requires : goal.float_at-requires
float_at-requires c = waiting_stands parts.Deferred tt c.args.pool.now.lists c.args.k c.requires

pub returns-clause-value : goal.returns-clause-value
returns-clause-value c = waiting_there parts.Deferred tt c.args.pool.now.lists c.args.k c.float_at.result (sym c.float_at.ensures.value)
