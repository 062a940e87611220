use Rattle.std.proofs.Common.{ap}
use Rattle.tb_plain.specs.StoredLists.{above_feet}
use Rattle.tb_plain.proofs.GrowLemmas.{none-put}
use Rattle.tb_plain.proofs.firing.push_above_feet.Goals as goal

pub returns-then-void-clause-lists : goal.returns-then-void-clause-lists
returns-then-void-clause-lists c = none-put c.args.store.now c.args.list (above_feet c.args.p.now c.args.void) c.requires.live (ap (above_feet c.args.p.now) c.if-void.true)
