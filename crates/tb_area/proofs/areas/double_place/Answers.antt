use Rattle.std.proofs.Common.{true, false, sym, ◌∙◌}
use Rattle.tb_area.proofs.ChoiceLemmas.{double_by}
use Rattle.tb_area.proofs.areas.double_place.Goals as goal

pub returns-then-goes_double : goal.returns-then-goes_double
returns-then-goes_double c = λ s before had. sym (double_by c.args.p.now c.args.pool.now.lists s before c.args.f.now true (sym (c.goes_double.ensures s before had) ∙ c.if-goes_double.true))

pub returns-else-goes_double : goal.returns-else-goes_double
returns-else-goes_double c = λ s before had. sym (double_by c.args.p.now c.args.pool.now.lists s before c.args.f.now false (sym (c.goes_double.ensures s before had) ∙ c.if-goes_double.false))
