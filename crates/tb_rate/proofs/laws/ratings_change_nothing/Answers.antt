use Rattle.tb_rate.proofs.RunLemmas.{run-happens}
use Rattle.tb_rate.proofs.laws.ratings_change_nothing.Goals as goal

pub returns : goal.returns
returns c = run-happens
