use Rattle.tb_laws.proofs.OnceEach.ShippedOnce.{ships-once}
use Rattle.tb_laws.proofs.OnceEach.ShippedTotals.{totals-shown}
use Rattle.tb_laws.proofs.PlanLemmas.{breaks-ship-once, breaks-keep-totals}
use Rattle.tb_laws.proofs.laws.breaks_ship_once.Goals as goal

pub returns-clause-once : goal.returns-clause-once
returns-clause-once _ = breaks-ship-once ships-once

pub returns-clause-totals : goal.returns-clause-totals
returns-clause-totals _ = breaks-keep-totals totals-shown
