use Rattle.tb_plain.proofs.StepLemmas.{steps_agree}
use Rattle.tb_plain.proofs.ReasonLemmas.{ends_have_reasons}
use Rattle.tb_plain.proofs.makeup_runs_are_defined.Goals as goal

pub returns-clause-bounds : goal.returns-clause-bounds
returns-clause-bounds _ = steps_agree

pub returns-clause-reasons : goal.returns-clause-reasons
returns-clause-reasons _ = ends_have_reasons
