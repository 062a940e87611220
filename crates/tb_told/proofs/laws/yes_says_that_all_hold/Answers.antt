use Rattle.tb_told.proofs.TestedLemmas.{yes_is_all}
use Rattle.tb_told.proofs.laws.yes_says_that_all_hold.Goals as goal

pub returns : goal.returns
returns c = yes_is_all
