use Rattle.tb_laws.proofs.Defined.FuelLemmas.{same-run, run-reason}
use Rattle.tb_laws.proofs.laws.runs_are_defined.Goals as goal

pub returns-clause-bounds : goal.returns-clause-bounds
returns-clause-bounds _ = same-run

pub returns-clause-reasons : goal.returns-clause-reasons
returns-clause-reasons _ = run-reason
