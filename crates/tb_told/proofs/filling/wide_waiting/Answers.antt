use Rattle.std.proofs.Common.{sym}
use Rattle.tb_area.proofs.DeferredLemmas.{waiting_stands, waiting_there}
use Rattle.tb_told.proofs.filling.wide_waiting.Goals as goal

pub float_in-requires : goal.float_in-requires
float_in-requires c = waiting_stands c.args.from c.requires.waiting c.args.pool.now.lists c.args.k c.requires.within

pub returns : goal.returns
returns c = waiting_there c.args.from c.requires.waiting c.args.pool.now.lists c.args.k c.float_in.result (sym c.float_in.ensures)
