use Rattle.tb_best.proofs.WayLemmas.{ends-are-plans}
use Rattle.tb_best.proofs.laws.ends_are_plans.Goals as goal

pub returns : goal.returns
returns c = ends-are-plans
