use Rattle.tb_steps.specs.Run.{step, step_events}
use Rattle.tb_rate.proofs.TriedLemmas.{step-tried, last-tried}
use Rattle.tb_rate.proofs.laws.breaks_can_be_rated.Goals as goal

pub returns : goal.returns
returns c = λ s. last-tried (step_events (step s)) (step-tried s)
