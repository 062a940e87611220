use Rattle.tb_best.proofs.RowLemmas.{plan_rows}
use Rattle.tb_best.proofs.rows.check_plans.Goals as goal

pub returns : goal.returns
returns c = plan_rows
