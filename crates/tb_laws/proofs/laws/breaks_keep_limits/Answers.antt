use Rattle.tb_laws.proofs.Limits.LimitedRuns.{run-within}
use Rattle.tb_laws.proofs.PlanLemmas.{breaks-keep-limits}
use Rattle.tb_laws.proofs.laws.breaks_keep_limits.Goals as goal

pub returns : goal.returns
returns _ = breaks-keep-limits run-within
