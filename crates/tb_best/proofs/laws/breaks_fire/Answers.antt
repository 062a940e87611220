use Rattle.tb_best.proofs.CutPages.{cut-fires, item-fires}
use Rattle.tb_best.proofs.laws.breaks_fire.Goals as goal

pub returns-clause-put_in : goal.returns-clause-put_in
returns-clause-put_in c = cut-fires

pub returns-clause-called : goal.returns-clause-called
returns-clause-called c = item-fires
