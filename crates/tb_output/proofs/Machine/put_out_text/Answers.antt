use Rattle.std.proofs.Common.{sym, subst, ◌∷◌, []}
use Rattle.tb_pool.specs.Frame.{IsNoneOf}
use Rattle.tb_node.specs.PlainNodes.{plain_list}
use Rattle.tb_column.specs.Notes.{note_lists}
use Rattle.tb_column.specs.StoredColumns.{column_shown}
use Rattle.tb_output.specs.Machine.{machine_lists}
use Rattle.tb_output.specs.Columns.{put_out_text}
use Rattle.tb_output.specs.Pages.{put_out}
use Rattle.tb_output.specs.FiringWork.{shows, IsCutShort, Does}
use Rattle.tb_output.specs.MachineFrame.{KeepsMachine}
use Rattle.tb_output.proofs.FiringWork.ResultLemmas.{memory-err, ok-map, err-map}
use Rattle.tb_output.proofs.ColumnPages.TakingText.{text-out, text-fails}
use Rattle.tb_output.proofs.FiringWork.KeepLemmas.{keeps-then}
use Rattle.tb_output.proofs.StepLaws.WorkSteps.{continues-put_out_text}
use Rattle.tb_output.proofs.Machine.put_out_text.Goals as goal

pub put_out-requires-clause-apart : goal.put_out-requires-clause-apart
put_out-requires-clause-apart c = subst (λ q. IsNoneOf q (machine_lists c.take_text.new.self)) (sym c.in_ok-column.ensures.list) c.in_ok-column.ensures.apart

pub returns-in_err-column-clause-err : goal.returns-in_err-column-clause-err
returns-in_err-column-clause-err c =
    memory-err c.from_residual.result _ c.from_residual.ensures.1
    (text-fails c.args.self.now c.take_text.new.self c.args.store.now c.take_text.new.store c.args.notes.now (put_out_text c.args.self.now.params (plain_list c.args.store.now c.args.body)) c.requires.machine c.in_err-column.ensures.machine c.in_err-column.ensures.err (continues-put_out_text c.args.self.now.params (plain_list c.args.store.now c.args.body)))

pub returns-in_err-column-clause-keeps : goal.returns-in_err-column-clause-keeps
returns-in_err-column-clause-keeps c = c.take_text.ensures.keeps

pub returns-clause-ok : goal.returns-clause-ok
returns-clause-ok c =
    let m = c.args.self.now in
    let mid = c.take_text.new.self in
    let s = c.take_text.new.store in
    ok-map c.put_out.result _ _ (λ does. text-out m mid c.args.store.now s c.args.body c.args.notes.now (shows c.put_out.new.self c.put_out.new.store) (column_shown s c.in_ok-column.column) c.in_ok-column.ensures.shown c.in_ok-column.ensures.ok
    (subst (λ p. Does (shows mid s) (shows c.put_out.new.self c.put_out.new.store) (put_out p (column_shown s c.in_ok-column.column))) c.take_text.ensures.keeps.fields.params does)) c.put_out.ensures.ok

pub returns-clause-err : goal.returns-clause-err
returns-clause-err c =
    let m = c.args.self.now in
    let mid = c.take_text.new.self in
    let s = c.take_text.new.store in
    err-map c.put_out.result _ _ (λ e does. text-out m mid c.args.store.now s c.args.body c.args.notes.now (IsCutShort e c.put_out.new.self c.put_out.new.store) (column_shown s c.in_ok-column.column) c.in_ok-column.ensures.shown c.in_ok-column.ensures.ok
    (subst (λ p. Does (shows mid s) (IsCutShort e c.put_out.new.self c.put_out.new.store) (put_out p (column_shown s c.in_ok-column.column))) c.take_text.ensures.keeps.fields.params does)) c.put_out.ensures.err

pub returns-clause-keeps : goal.returns-clause-keeps
returns-clause-keeps c =
    let lists = c.args.body ∷ note_lists c.args.notes.now in
    let k = subst (λ q. KeepsMachine (q ∷ []) c.take_text.new.self c.put_out.new.self c.take_text.new.store c.put_out.new.store) c.in_ok-column.ensures.list c.put_out.ensures.keeps in
    keeps-then lists (c.args.body ∷ []) c.args.self.now c.take_text.new.self c.put_out.new.self c.args.store.now c.take_text.new.store c.put_out.new.store c.take_text.ensures.keeps k (λ q live none. (none.0, tt))
