use Rattle.std.proofs.Common.{sym, ◌∙◌}
use Rattle.tb_area.proofs.deferred.double_behind.Goals as goal

pub returns-else-has : goal.returns-else-has
returns-else-has c = λ s before classes. c.double_place.ensures s before (sym c.if-has.false ∙ c.has.ensures before classes)
