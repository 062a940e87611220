use Rattle.tb_laws.proofs.ClassesRise.OrderedGalleys.{classes-keep-order}
use Rattle.tb_laws.proofs.PlanLemmas.{breaks-keep-order}
use Rattle.tb_laws.proofs.laws.breaks_keep_order.Goals as goal

pub returns : goal.returns
returns _ = breaks-keep-order classes-keep-order
