use Rattle.tb_why.proofs.FaultLemmas.{told_of_fault}
use Rattle.tb_why.proofs.summary_laws.reasons_are_of_the_float_at_fault.Goals as goal

pub returns : goal.returns
returns c = told_of_fault
