use Rattle.tb_best.specs.ClosedTables.{rows_know}
use Rattle.tb_best.proofs.BestLemmas.{closed-best}
use Rattle.tb_best.proofs.laws.closed_tables_have_the_best.Goals as goal

pub returns : goal.returns
returns c = λ g plan total rows. closed-best g plan total (rows_know rows)
