use Rattle.std.proofs.Common.{ap}
use Rattle.tb_column.specs.TextColumns.{kern_list}
use Rattle.tb_column.proofs.MovingLemmas.{nothing-added}
use Rattle.tb_column.proofs.notes.push_kern.Goals as goal

pub returns-in-None-clause-lists : goal.returns-in-None-clause-lists
returns-in-None-clause-lists c = nothing-added c.args.store.now c.args.l (kern_list c.args.kern) c.requires.live (ap kern_list c.in-None.is)
