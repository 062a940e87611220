use Rattle.tb_best.proofs.RatedPlans.{ends-well}
use Rattle.tb_best.proofs.TurnLemmas.{end-quiet}
use Rattle.tb_best.proofs.laws.good_ends_are_quiet.Goals as goal

pub returns-clause-quiet : goal.returns-clause-quiet
returns-clause-quiet c = end-quiet

pub returns-clause-run : goal.returns-clause-run
returns-clause-run c = ends-well
