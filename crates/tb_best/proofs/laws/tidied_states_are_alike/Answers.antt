use Rattle.tb_best.proofs.TidiedLemmas.{tidied-alike}
use Rattle.tb_best.proofs.laws.tidied_states_are_alike.Goals as goal

pub returns : goal.returns
returns c = tidied-alike
