use Rattle.tb_laws.proofs.NothingLost.ShippedRuns.{lists-emptied}
use Rattle.tb_laws.proofs.laws.lists_are_emptied.Goals as goal

pub returns : goal.returns
returns _ = lists-emptied
