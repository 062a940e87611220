use Rattle.std.proofs.Common.{◌∷◌}
use Rattle.tb_node.specs.PlainNodes.{plain_list}
use Rattle.tb_column.specs.Notes.{note_lists}
use Rattle.tb_output.specs.declared.RunFault.TheVariants as faults
use Rattle.tb_output.proofs.FiringWork.ResultLemmas.{memory-err, ok-map, err-map}
use Rattle.tb_output.proofs.InText.ListSteps.{placed-does, placed-cut, back-cut, placed-keeps}
use Rattle.tb_output.proofs.Machine.float_or_note.Goals as goal

pub returns-in_err-size-clause-err : goal.returns-in_err-size-clause-err
returns-in_err-size-clause-err c =
    let s = c.args.store.now in
    memory-err c.from_residual.result _ c.from_residual.ensures.1
    (back-cut c.args.back c.args.notes.now c.args.self.now s c.args.vert (plain_list s c.args.body) c.args.self.now c.args.self.now c.list_back.new.store c.list_back.new.store faults.Memory c.in_err-size.ensures.err)

pub returns-clause-ok : goal.returns-clause-ok
returns-clause-ok c =
    ok-map c.place_first.result _ _
    (placed-does c.args.back c.args.notes.now c.args.self.now c.args.store.now c.args.vert (plain_list c.args.store.now c.args.body) c.args.self.now c.place_first.new.self c.list_back.new.store c.place_first.new.store c.in_ok-size.size c.in_ok-size.ensures.size c.in_ok-size.ensures.ok)
    c.place_first.ensures.ok

pub returns-clause-err : goal.returns-clause-err
returns-clause-err c =
    err-map c.place_first.result _ _
    (λ e. placed-cut c.args.back c.args.notes.now c.args.self.now c.args.store.now c.args.vert (plain_list c.args.store.now c.args.body) c.args.self.now c.place_first.new.self c.list_back.new.store c.place_first.new.store e c.in_ok-size.size c.in_ok-size.ensures.size c.in_ok-size.ensures.ok)
    c.place_first.ensures.err

pub returns-clause-keeps : goal.returns-clause-keeps
returns-clause-keeps c =
    placed-keeps c.args.back (c.args.body ∷ note_lists c.args.notes.now) c.args.self.now c.args.self.now c.place_first.new.self c.args.store.now c.list_back.new.store c.place_first.new.store c.list_back.ensures.keeps c.place_first.ensures.keeps
