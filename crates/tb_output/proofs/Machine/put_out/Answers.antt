use Rattle.std.proofs.Common.{sym, subst, ◌∷◌, []}
use Rattle.tb_column.specs.StoredColumns.{column_shown}
use Rattle.tb_output.specs.Pages.{put_out}
use Rattle.tb_output.specs.FiringWork.{shows, Does}
use Rattle.tb_output.specs.MachineFrame.{KeepsMachine}
use Rattle.tb_output.proofs.FiringWork.ResultLemmas.{same-err}
use Rattle.tb_output.proofs.ColumnPages.PuttingOut.{put_out-does, put_out-fails, done-keeps}
use Rattle.tb_output.proofs.Machine.put_out.Goals as goal

pub returns-in_err-put_by-clause-err : goal.returns-in_err-put_by-clause-err
returns-in_err-put_by-clause-err c =
    same-err c.from_residual.result _ _ c.from_residual.ensures.1
    (put_out-fails _ c.args.self.now c.put_by.new.self c.args.store.now c.put_by.new.store (column_shown c.args.store.now c.args.column) c.in_err-put_by.ensures.err)

pub returns-in_err-put_by-clause-keeps : goal.returns-in_err-put_by-clause-keeps
returns-in_err-put_by-clause-keeps c = c.put_by.ensures.keeps

pub returns-clause-ok : goal.returns-clause-ok
returns-clause-ok c =
    subst (λ n. Does (shows c.args.self.now c.args.store.now) (shows n c.put_by.new.store) (put_out c.args.self.now.params (column_shown c.args.store.now c.args.column))) (sym c.end_column.ensures)
    (put_out-does c.args.self.now c.put_by.new.self c.args.store.now c.put_by.new.store (column_shown c.args.store.now c.args.column) c.in_ok-put_by.ensures.ok)

pub returns-clause-keeps : goal.returns-clause-keeps
returns-clause-keeps c =
    subst (λ n. KeepsMachine (c.args.column.list ∷ []) c.args.self.now n c.args.store.now c.put_by.new.store) (sym c.end_column.ensures)
    (done-keeps (c.args.column.list ∷ []) c.args.self.now c.put_by.new.self c.args.store.now c.put_by.new.store c.put_by.ensures.keeps)
