use Rattle.std.proofs.Common.{◌≡◌, sym, subst, ap, ◌∙◌, []}
use Rattle.tb_output.specs.Output.{leave_column}
use Rattle.tb_output.specs.Machine.{MachineView, events_shown}
use Rattle.tb_output.specs.FiringWork.{shows_back, Does}
use Rattle.tb_output.specs.MachineFrame.{back_lists, KeepsBack}
use Rattle.tb_sheet.proofs.ListsApart.{apart-none}
use Rattle.tb_output.proofs.FiringWork.StandLemmas.{lists-shown}
use Rattle.tb_output.proofs.FiringWork.KeepLemmas.{keeps-back_same, grown-machine, grown-keeps}
use Rattle.tb_output.proofs.InText.PushLemmas.{grown-of}
use Rattle.tb_output.proofs.Firings.GoalLemmas.{blanks, blanks-back, left-keeps, left-done}
use Rattle.tb_output.proofs.FiringWork.ResultLemmas.{memory-err}
use Rattle.tb_output.proofs.FiringWork.WorkingLemmas.{no-memory_given}
use Rattle.tb_output.proofs.StepLaws.WorkSteps.{continues-leave_column}
use Rattle.tb_output.proofs.Machine.leave_column.Goals as goal

pub returns-in_err-push_blanks-clause-err : goal.returns-in_err-push_blanks-clause-err
returns-in_err-push_blanks-clause-err c =
    let shown = lists-shown c.args.self.now c.args.store.now c.push_blanks.new.store c.requires.machine c.in_err-push_blanks.ensures.err in
    memory-err c.from_residual.result _ c.from_residual.ensures.1
    (no-memory_given (shows_back c.args.back c.args.self.now c.args.store.now) c.args.self.now c.args.self.now c.args.store.now c.push_blanks.new.store leave_column (λ b w h. h.0) shown.events continues-leave_column)

pub returns-in_err-push_blanks-clause-keeps : goal.returns-in_err-push_blanks-clause-keeps
returns-in_err-push_blanks-clause-keeps c = keeps-back_same c.args.back [] c.args.self.now c.args.store.now c.push_blanks.new.store c.requires.machine c.requires.back c.in_err-push_blanks.ensures.err (apart-none (back_lists c.args.store.now c.args.back))

pub returns-in_err-warn_floats-clause-err : goal.returns-in_err-warn_floats-clause-err
returns-in_err-warn_floats-clause-err c =
    let grown = grown-of c.args.store.now c.push_blanks.new.store c.args.back (blanks c.is_second.result) [] c.in_ok-push_blanks.ensures.ok in
    let shown = grown-machine c.args.back (blanks c.is_second.result) [] c.args.self.now c.args.store.now c.push_blanks.new.store c.requires.machine c.requires.back grown (apart-none _) in
    let same : events_shown c.push_blanks.new.store c.warn_floats.new.self.events ≡ events_shown c.args.store.now c.args.self.now.events = ap (λ (m : MachineView). events_shown c.push_blanks.new.store m.events) c.in_err-warn_floats.ensures.err ∙ shown.events in
    memory-err c.from_residual-in_err-warn_floats.result _ c.from_residual-in_err-warn_floats.ensures.1
    (no-memory_given (shows_back c.args.back c.args.self.now c.args.store.now) c.args.self.now c.warn_floats.new.self c.args.store.now c.push_blanks.new.store leave_column (λ b w h. h.0) same continues-leave_column)

pub returns-in_err-warn_floats-clause-keeps : goal.returns-in_err-warn_floats-clause-keeps
returns-in_err-warn_floats-clause-keeps c =
    let grown = grown-of c.args.store.now c.push_blanks.new.store c.args.back (blanks c.is_second.result) [] c.in_ok-push_blanks.ensures.ok in
    subst (λ m. KeepsBack c.args.back [] c.args.self.now m c.args.store.now c.push_blanks.new.store) (sym c.in_err-warn_floats.ensures.err)
    (grown-keeps c.args.back (blanks c.is_second.result) [] c.args.self.now c.args.store.now c.push_blanks.new.store c.requires.machine c.requires.back grown (apart-none _) (blanks-back c.is_second.result))

pub returns-clause-ok : goal.returns-clause-ok
returns-clause-ok c =
    let grown = grown-of c.args.store.now c.push_blanks.new.store c.args.back (blanks c.is_second.result) [] c.in_ok-push_blanks.ensures.ok in
    subst (λ m. Does (shows_back c.args.back c.args.self.now c.args.store.now) (shows_back c.args.back m c.push_blanks.new.store) leave_column) (sym c.in_ok-warn_floats.ensures.ok)
    (left-done c.args.back c.args.self.now c.args.store.now c.push_blanks.new.store c.requires.machine c.requires.back c.is_second.result c.is_second.ensures grown)

pub returns-clause-keeps : goal.returns-clause-keeps
returns-clause-keeps c =
    let grown = grown-of c.args.store.now c.push_blanks.new.store c.args.back (blanks c.is_second.result) [] c.in_ok-push_blanks.ensures.ok in
    subst (λ m. KeepsBack c.args.back [] c.args.self.now m c.args.store.now c.push_blanks.new.store) (sym c.in_ok-warn_floats.ensures.ok)
    (left-keeps c.args.back c.args.self.now c.args.store.now c.push_blanks.new.store c.requires.machine c.requires.back c.is_second.result c.is_second.ensures grown)
