use Rattle.tb_best.proofs.CountedStates.{left-alike}
use Rattle.tb_best.proofs.laws.left_columns_are_alike.Goals as goal

pub returns : goal.returns
returns c = left-alike
