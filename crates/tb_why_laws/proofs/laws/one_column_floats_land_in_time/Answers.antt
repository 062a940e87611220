use Rattle.tb_why_laws.proofs.InTime.LandingTimes.{lands-in-time}
use Rattle.tb_why_laws.proofs.laws.one_column_floats_land_in_time.Goals as goal

pub returns : goal.returns
returns _ = lands-in-time
