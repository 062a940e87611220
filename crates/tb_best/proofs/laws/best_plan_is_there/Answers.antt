use Rattle.tb_best.proofs.BestOfLemmas.{best-there}
use Rattle.tb_best.proofs.laws.best_plan_is_there.Goals as goal

pub returns : goal.returns
returns c = λ g left h. best-there g left h
