use Rattle.tb_best.proofs.SideItems.{items-keep, sides-with, start-keeps}
use Rattle.tb_best.proofs.SteadySteps.{next-keeps}
use Rattle.tb_best.proofs.laws.notes_keep_sides.Goals as goal

pub returns-clause-begins : goal.returns-clause-begins
returns-clause-begins c = start-keeps

pub returns-clause-items : goal.returns-clause-items
returns-clause-items c = items-keep

pub returns-clause-takes : goal.returns-clause-takes
returns-clause-takes c = sides-with

pub returns-clause-steps : goal.returns-clause-steps
returns-clause-steps c = next-keeps
