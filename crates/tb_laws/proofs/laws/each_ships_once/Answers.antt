use Rattle.tb_laws.proofs.OnceEach.ShippedOnce.{ships-once}
use Rattle.tb_laws.proofs.OnceEach.ShippedTotals.{totals-shown}
use Rattle.tb_laws.proofs.laws.each_ships_once.Goals as goal

pub returns-clause-once : goal.returns-clause-once
returns-clause-once _ = ships-once

pub returns-clause-totals : goal.returns-clause-totals
returns-clause-totals _ = totals-shown
