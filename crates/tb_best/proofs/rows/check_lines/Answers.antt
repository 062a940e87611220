use Rattle.tb_best.proofs.RowLemmas.{line_rows}
use Rattle.tb_best.proofs.rows.check_lines.Goals as goal

pub returns : goal.returns
returns c = line_rows
