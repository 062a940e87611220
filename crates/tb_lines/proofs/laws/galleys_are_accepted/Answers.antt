use Rattle.tb_lines.proofs.Accepted.{galley_accepted}
use Rattle.tb_lines.proofs.laws.galleys_are_accepted.Goals as goal

pub returns : goal.returns
returns _ = galley_accepted
