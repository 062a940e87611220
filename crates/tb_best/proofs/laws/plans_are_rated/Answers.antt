use Rattle.tb_best.proofs.RatedPlans.{plan-rated}
use Rattle.tb_best.proofs.laws.plans_are_rated.Goals as goal

pub returns : goal.returns
returns c = plan-rated
