use Rattle.tb_laws.proofs.Limits.NumberedRuns.{numbers_hold}
use Rattle.tb_laws.proofs.laws.areas_keep_their_numbers.Goals as goal

pub returns : goal.returns
returns _ = numbers_hold
