use Rattle.tb_why.specs.WhyRun.{shown_run}
use Rattle.tb_why.proofs.TimeLemmas.{stories_are_timed}
use Rattle.tb_why_laws.proofs.InOrder.RunTales.{shown-in-order}
use Rattle.tb_why_laws.proofs.laws.times_of_runs_are_sheets.Goals as goal

pub returns : goal.returns
returns _ = λ g v. stories_are_timed (shown_run g) (shown-in-order g v)
