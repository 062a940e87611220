use Rattle.tb_rate.proofs.RowLemmas.{demerit_rows}
use Rattle.tb_rate.proofs.rows.check_demerits.Goals as goal

pub returns : goal.returns
returns c = demerit_rows
