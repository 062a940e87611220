use Rattle.tb_best.proofs.LimitRuns.{plan-lim, best-lim}
use Rattle.tb_best.proofs.laws.limits_change_no_plan.Goals as goal

pub returns-clause-demerits : goal.returns-clause-demerits
returns-clause-demerits c = plan-lim

pub returns-clause-best : goal.returns-clause-best
returns-clause-best c = best-lim
