use Rattle.std.proofs.Common.{◌≡◌, sym, subst, FitsSigned, w64, rules}
use Rattle.std.specs.Prelude.{IfOk}
use Rattle.std.proofs.lemmas.Int.{to_z-of_z}
use Rattle.tb_float.specs.Pool.{marked_floats}
use Rattle.tb_column.specs.Column.{float_column_of}
use Rattle.tb_column.specs.StoredColumns.{column_shown}
use Rattle.tb_output.specs.Machine.{MachineView, AreOutputParams}
use Rattle.tb_output.proofs.Machine.make_floats.Goals as goal

pub float_column-requires-clause-params : goal.float_column-requires-clause-params
float_column-requires-clause-params c =
    let params : AreOutputParams c.self.inside.params = subst (λ (m : MachineView). AreOutputParams m.params) (sym c.self.view_is) c.requires.params in
    params.columns

pub returns-clause-shown : goal.returns-clause-shown
returns-clause-shown c =
    let height : FitsSigned w64 c.args.height = search rules in
    subst (λ (m : MachineView). IfOk c.float_column.result (λ k. column_shown c.float_column.new.store k ≡ float_column_of c.args.wide m.params c.args.height (marked_floats c.args.from m.pool))) c.self.view_is
    (simp to_z-of_z at c.float_column.ensures.column)
