use Rattle.tb_best.proofs.TurnLemmas.{turn-fires, turn-goes-on, turn-demerits}
use Rattle.tb_best.proofs.laws.steps_look_no_further.Goals as goal

pub returns-clause-fires : goal.returns-clause-fires
returns-clause-fires c = turn-fires

pub returns-clause-run : goal.returns-clause-run
returns-clause-run c = turn-goes-on

pub returns-clause-demerits : goal.returns-clause-demerits
returns-clause-demerits c = λ places s t es rs more h. turn-demerits s t es rs more h places
