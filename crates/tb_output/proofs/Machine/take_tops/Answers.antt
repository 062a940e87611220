use Rattle.std.proofs.Common.{sym, subst}
use Rattle.tb_output.specs.Machine.{MachineView, AreOutputParams}
use Rattle.tb_output.proofs.Machine.take_tops.Goals as goal

pub pair_tops-requires : goal.pair_tops-requires
pair_tops-requires c =
    let params : AreOutputParams c.self.inside.params = subst (λ (m : MachineView). AreOutputParams m.params) (sym c.self.view_is) c.requires.params in
    params.columns
