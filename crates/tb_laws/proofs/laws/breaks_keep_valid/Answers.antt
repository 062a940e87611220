use Rattle.tb_plans.proofs.OrderLemmas.{plans-keep-order}
use Rattle.tb_laws.proofs.PlanLemmas.{breaks-keep-valid}
use Rattle.tb_laws.proofs.laws.breaks_keep_valid.Goals as goal

pub returns-clause-valid : goal.returns-clause-valid
returns-clause-valid _ = breaks-keep-valid

pub returns-clause-order : goal.returns-clause-order
returns-clause-order _ = plans-keep-order
