use Rattle.tb_laws.proofs.Limits.LimitedRuns.{run-within}
use Rattle.tb_laws.proofs.laws.floats_keep_the_limits.Goals as goal

pub returns : goal.returns
returns _ = run-within
