use Rattle.std.proofs.Common.{refl}
use Rattle.tb_output.proofs.FiringWork.ResultLemmas.{same-err}
use Rattle.tb_output.proofs.Machine.take_note.Goals as goal

pub returns-in_err-take_margin-clause-err : goal.returns-in_err-take_margin-clause-err
returns-in_err-take_margin-clause-err c =
    same-err c.from_residual.result c.in_err-take_margin.field-0.0 _ c.from_residual.ensures.1
    (rw (← c.self.view_is) (record { room = c.in_err-take_margin.ensures.full.0 refl; shown = c.in_err-take_margin.ensures.shown; machine = rw c.in_err-take_margin.ensures.unchanged refl }))
