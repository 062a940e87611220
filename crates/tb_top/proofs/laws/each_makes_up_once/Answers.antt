use Rattle.tb_top.proofs.Plain.MakeupOnce.{makes-up-once}
use Rattle.tb_top.proofs.laws.each_makes_up_once.Goals as goal

pub returns : goal.returns
returns _ = makes-up-once
