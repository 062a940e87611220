use Rattle.std.proofs.Common.{sym}
use Rattle.tb_area.proofs.DeferredLemmas.{waiting_stands, waiting_there}
use Rattle.tb_area.proofs.tries.waiting_float.Goals as goal

pub float_at-requires : goal.float_at-requires
float_at-requires c = waiting_stands c.args.from c.requires.waiting c.args.pool.now.lists c.args.k c.requires.within

pub returns-clause-value : goal.returns-clause-value
returns-clause-value c = waiting_there c.args.from c.requires.waiting c.args.pool.now.lists c.args.k c.float_at.result (sym c.float_at.ensures.value)
