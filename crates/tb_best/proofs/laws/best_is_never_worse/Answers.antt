use Rattle.tb_best.proofs.RatedPlans.{never-worse}
use Rattle.tb_best.proofs.laws.best_is_never_worse.Goals as goal

pub returns : goal.returns
returns c = never-worse
