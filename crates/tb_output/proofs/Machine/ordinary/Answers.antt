use Rattle.std.proofs.Common.{◌∙◌, ◌∷◌, []}
use Rattle.tb_node.specs.PlainNodes.{plain_list}
use Rattle.tb_column.specs.Notes.{note_lists}
use Rattle.tb_output.specs.Columns.{put_out_text}
use Rattle.tb_output.specs.FiringWork.{shows_notes}
use Rattle.tb_output.proofs.FiringWork.ResultLemmas.{same-err}
use Rattle.tb_output.proofs.ColumnPages.FloatMoves.{fill_column-does, floats-keep}
use Rattle.tb_output.specs.PageChanges.{filled_lists}
use Rattle.tb_output.proofs.FiringWork.KeepLemmas.{keeps-then}
use Rattle.tb_output.proofs.ColumnPages.StepsInTurn.{column-all, column-cut, text-cut}
use Rattle.tb_output.proofs.Machine.ordinary.Goals as goal

pub returns-in_err-put_out_text-clause-err : goal.returns-in_err-put_out_text-clause-err
returns-in_err-put_out_text-clause-err c =
    let m = c.args.self.now in
    same-err c.from_residual.result _ _ c.from_residual.ensures.1
    (text-cut (shows_notes c.args.notes.now m c.args.store.now) m.params (put_out_text m.params (plain_list c.args.store.now c.args.body)) c.put_out_text.new.self m m c.put_out_text.new.store c.args.store.now _ c.in_err-put_out_text.ensures.err)

pub returns-in_err-float_columns-clause-err : goal.returns-in_err-float_columns-clause-err
returns-in_err-float_columns-clause-err c =
    let m = c.args.self.now in
    same-err c.from_residual-in_err-float_columns.result _ _ c.from_residual-in_err-float_columns.ensures.1
    (column-cut (shows_notes c.args.notes.now m c.args.store.now) m.params (put_out_text m.params (plain_list c.args.store.now c.args.body)) c.put_out_text.new.self c.float_columns.new.self m c.put_out_text.new.store c.float_columns.new.store _
    c.put_out_text.ensures.keeps.fields.params c.in_ok-put_out_text.ensures.ok c.in_err-float_columns.ensures.err)

pub returns-in_err-float_columns-clause-keeps : goal.returns-in_err-float_columns-clause-keeps
returns-in_err-float_columns-clause-keeps c =
    keeps-then (c.args.body ∷ note_lists c.args.notes.now) [] c.args.self.now c.put_out_text.new.self c.float_columns.new.self c.args.store.now c.put_out_text.new.store c.float_columns.new.store c.put_out_text.ensures.keeps c.float_columns.ensures.keeps (λ q live none. tt)

pub returns-clause-ok : goal.returns-clause-ok
returns-clause-ok c =
    let m = c.args.self.now in
    let one = c.put_out_text.new.self in
    let two = c.float_columns.new.self in
    column-all (shows_notes c.args.notes.now m c.args.store.now) m.params (put_out_text m.params (plain_list c.args.store.now c.args.body)) one two c.fill_column.new.self c.put_out_text.new.store c.float_columns.new.store
    c.put_out_text.ensures.keeps.fields.params (c.float_columns.ensures.keeps.fields.params ∙ c.put_out_text.ensures.keeps.fields.params)
    c.in_ok-put_out_text.ensures.ok c.in_ok-float_columns.ensures.ok (fill_column-does two c.fill_column.new.self c.float_columns.new.store c.fill_column.ensures)

pub returns-clause-keeps : goal.returns-clause-keeps
returns-clause-keeps c =
    let one = c.put_out_text.new.self in
    let two = c.float_columns.new.self in
    let s = c.put_out_text.new.store in
    let t = c.float_columns.new.store in
    let first = keeps-then (c.args.body ∷ note_lists c.args.notes.now) [] c.args.self.now one two c.args.store.now s t c.put_out_text.ensures.keeps c.float_columns.ensures.keeps (λ q live none. tt) in
    keeps-then (c.args.body ∷ note_lists c.args.notes.now) [] c.args.self.now two c.fill_column.new.self c.args.store.now t t first (floats-keep (filled_lists two) two c.fill_column.new.self t c.fill_column.ensures c.float_columns.ensures.keeps.machine) (λ q live none. tt)
