use Rattle.tb_why_laws.proofs.InOrder.RunTales.{shown-in-order}
use Rattle.tb_why_laws.proofs.laws.shown_runs_are_in_order.Goals as goal

pub returns : goal.returns
returns _ = shown-in-order
