use Rattle.tb_lines.proofs.LeastOf.{least_is}
use Rattle.tb_lines.proofs.laws.solutions_are_least.Goals as goal

pub returns : goal.returns
returns _ = least_is
