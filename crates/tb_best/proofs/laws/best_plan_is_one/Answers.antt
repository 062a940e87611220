use Rattle.tb_best.proofs.BestOfLemmas.{best-one}
use Rattle.tb_best.proofs.laws.best_plan_is_one.Goals as goal

pub returns : goal.returns
returns c = best-one
