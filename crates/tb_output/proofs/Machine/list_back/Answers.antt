use Rattle.std.proofs.Common.{subst, [], arith}
use Rattle.tb_output.specs.BackList.{insertions_again}
use Rattle.tb_output.specs.Machine.{MachineView}
use Rattle.tb_output.specs.MachineFrame.{HasGrown}
use Rattle.tb_output.proofs.FiringWork.ResultLemmas.{same-err}
use Rattle.tb_output.proofs.InText.ListSteps.{list-keeps, list-does, memory-keeps, memory-does, text-sized, text-notes, text-front, text-count, text-size}
use Rattle.tb_output.proofs.Machine.list_back.Goals as goal

pub text_size-size-requires-clause-sized : goal.text_size-size-requires-clause-sized
text_size-size-requires-clause-sized c =
    text-sized c.args.back c.args.body c.args.notes.now c.args.self.now c.args.store.now c.text_back-told.new.store c.requires.machine c.requires.back c.requires.empty c.requires.lists c.requires.known c.text_back-told.ensures.lists

pub text_size-size-requires-clause-notes : goal.text_size-size-requires-clause-notes
text_size-size-requires-clause-notes c =
    text-notes c.args.back c.args.body c.args.notes.now c.args.self.now c.args.store.now c.text_back-told.new.store c.requires.machine c.requires.back c.requires.empty c.requires.lists c.requires.known c.text_back-told.ensures.lists

pub text_size-size-requires-clause-few_notes : goal.text_size-size-requires-clause-few_notes
text_size-size-requires-clause-few_notes c =
    let same = text-count c.args.back c.args.body c.args.notes.now c.args.self.now c.args.store.now c.text_back-told.new.store c.requires.machine c.requires.back c.requires.empty c.requires.lists c.requires.known c.text_back-told.ensures.lists in
    omega (arith, same, c.requires.lists.few)

pub insertions_back-requires-clause-notes : goal.insertions_back-requires-clause-notes
insertions_back-requires-clause-notes c =
    text-notes c.args.back c.args.body c.args.notes.now c.args.self.now c.args.store.now c.text_back-told.new.store c.requires.machine c.requires.back c.requires.empty c.requires.lists c.requires.known c.text_back-told.ensures.lists

pub insertions_back-requires-clause-apart : goal.insertions_back-requires-clause-apart
insertions_back-requires-clause-apart c =
    text-front c.args.back c.args.body c.args.notes.now c.args.self.now c.args.store.now c.text_back-told.new.store c.requires.machine c.requires.back c.requires.empty c.requires.lists c.requires.known c.text_back-told.ensures.lists

pub returns-in_err-insertions_back-clause-err : goal.returns-in_err-insertions_back-clause-err
returns-in_err-insertions_back-clause-err c =
    same-err c.from_residual.result _ _ c.from_residual.ensures.1
    (memory-does c.args.back c.args.body c.args.notes.now c.args.self.now c.args.store.now c.text_back-told.new.store c.requires.machine c.requires.back c.requires.empty c.requires.lists c.requires.known c.text_back-told.ensures.lists c.insertions_back.new.store c.in_err-insertions_back.ensures.err)

pub returns-in_err-insertions_back-clause-keeps : goal.returns-in_err-insertions_back-clause-keeps
returns-in_err-insertions_back-clause-keeps c =
    memory-keeps c.args.back c.args.body c.args.notes.now c.args.self.now c.args.store.now c.text_back-told.new.store c.requires.machine c.requires.back c.requires.empty c.requires.lists c.requires.known c.text_back-told.ensures.lists c.insertions_back.new.store c.in_err-insertions_back.ensures.err

pub returns-clause-ok : goal.returns-clause-ok
returns-clause-ok c =
    let grown : HasGrown c.args.back (insertions_again c.args.self.now.params c.text_back-told.new.store c.args.notes.now) [] c.text_back-told.new.store c.insertions_back.new.store = subst (λ (m : MachineView). HasGrown c.args.back (insertions_again m.params c.text_back-told.new.store c.args.notes.now) [] c.text_back-told.new.store c.insertions_back.new.store) c.self.view_is c.in_ok-insertions_back.ensures.ok in
    list-does c.args.back c.args.body c.args.notes.now c.args.self.now c.args.store.now c.text_back-told.new.store c.requires.machine c.requires.back c.requires.empty c.requires.lists c.requires.known c.text_back-told.ensures.lists c.insertions_back.new.store grown

pub returns-clause-size : goal.returns-clause-size
returns-clause-size c =
    let z = c.text_size-size.ensures in
    text-size c.args.back c.args.body c.args.notes.now c.args.self.now c.args.store.now c.text_back-told.new.store c.requires.machine c.requires.back c.requires.empty c.requires.lists c.requires.known c.text_back-told.ensures.lists c.text_size-size.result z.depth z.height z.page z.small_height z.small_page z.extent

pub returns-clause-keeps : goal.returns-clause-keeps
returns-clause-keeps c =
    let grown : HasGrown c.args.back (insertions_again c.args.self.now.params c.text_back-told.new.store c.args.notes.now) [] c.text_back-told.new.store c.insertions_back.new.store = subst (λ (m : MachineView). HasGrown c.args.back (insertions_again m.params c.text_back-told.new.store c.args.notes.now) [] c.text_back-told.new.store c.insertions_back.new.store) c.self.view_is c.in_ok-insertions_back.ensures.ok in
    list-keeps c.args.back c.args.body c.args.notes.now c.args.self.now c.args.store.now c.text_back-told.new.store c.requires.machine c.requires.back c.requires.empty c.requires.lists c.requires.known c.text_back-told.ensures.lists c.insertions_back.new.store grown
