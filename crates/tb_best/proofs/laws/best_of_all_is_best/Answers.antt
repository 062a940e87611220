use Rattle.tb_best.proofs.BestOfLemmas.{best-of-is}
use Rattle.tb_best.proofs.laws.best_of_all_is_best.Goals as goal

pub returns : goal.returns
returns c = λ g. best-of-is g
