use Rattle.tb_best.proofs.CountedStates.{counts-good}
use Rattle.tb_best.proofs.laws.smaller_counts_are_as_good.Goals as goal

pub returns : goal.returns
returns c = λ g s counts keep h. counts-good g s s.left_column counts keep h
