use Rattle.std.proofs.Common.{sym, subst}
use Rattle.tb_float.specs.Ranges.{AreFloatParams}
use Rattle.tb_output.specs.Machine.{MachineView, AreOutputParams}
use Rattle.tb_output.proofs.ColumnPages.ParamLemmas.{changed-output}
use Rattle.tb_output.proofs.Machine.set_parameter.Goals as goal

pub take_room-requires : goal.take_room-requires
take_room-requires c =
    let params : AreOutputParams c.self.inside.params = subst (λ (m : MachineView). AreOutputParams m.params) (sym c.self.view_is) c.requires.params in
    subst AreFloatParams (sym c.change.ensures.changed) (changed-output c.self.inside.params c.args.change params).columns.floats
