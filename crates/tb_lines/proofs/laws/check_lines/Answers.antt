use Rattle.tb_lines.proofs.WorkedLines.{lines_rows}
use Rattle.tb_lines.proofs.laws.check_lines.Goals as goal

pub returns : goal.returns
returns _ = lines_rows
