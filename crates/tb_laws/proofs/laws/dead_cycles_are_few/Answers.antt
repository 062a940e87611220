use Rattle.tb_laws.proofs.DeadCycles.CycleBound.{dead-cycle-bound}
use Rattle.tb_laws.proofs.laws.dead_cycles_are_few.Goals as goal

pub returns : goal.returns
returns _ = dead-cycle-bound
