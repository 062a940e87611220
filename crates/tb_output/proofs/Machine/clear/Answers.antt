use Rattle.std.proofs.Common.{◌≡◌, sym, ◌∙◌, ap, List, [], length}
use Rattle.std.specs.Prelude.{◌==◌}
use Rattle.tb_column.specs.declared.NoteBox.{NoteBox}
use Rattle.tb_output.specs.Notes.{standing_boxes}
use Rattle.tb_output.specs.FiringWork.{shows_back, IsCutShort}
use Rattle.tb_output.proofs.FiringWork.ResultLemmas.{ok-map, err-map}
use Rattle.tb_output.proofs.ColumnPages.StandingBoxes.{live-notes}
use Rattle.tb_output.proofs.Clears.NotedSteps.{dropped-machine, dropped-back, dropped-lists, noteless-clear, noteless-keeps, no-notes, some-notes, noted-clear}
use Rattle.tb_output.proofs.Machine.clear.Goals as goal

pub standing_notes-requires : goal.standing_notes-requires
standing_notes-requires c = c.requires.lists.notes.rising

pub drop_notes-requires-clause-live : goal.drop_notes-requires-clause-live
drop_notes-requires-clause-live c = live-notes c.args.store.now c.args.body c.args.notes.now c.requires.lists.notes

pub drop_notes-requires-clause-apart : goal.drop_notes-requires-clause-apart
drop_notes-requires-clause-apart c = c.requires.lists.notes.apart.1

pub clear_floats-requires-clause-machine : goal.clear_floats-requires-clause-machine
clear_floats-requires-clause-machine c = dropped-machine c.args.back c.args.body c.args.notes.now c.args.self.now c.args.store.now c.drop_notes.new.store c.requires.machine c.requires.back c.requires.lists c.drop_notes.ensures

pub clear_floats-requires-clause-back : goal.clear_floats-requires-clause-back
clear_floats-requires-clause-back c = dropped-back c.args.back c.args.body c.args.notes.now c.args.self.now c.args.store.now c.drop_notes.new.store c.requires.machine c.requires.back c.requires.lists c.drop_notes.ensures

pub clear_floats-requires-clause-lists : goal.clear_floats-requires-clause-lists
clear_floats-requires-clause-lists c = dropped-lists c.args.back c.args.body c.args.notes.now c.args.self.now c.args.store.now c.drop_notes.new.store c.requires.machine c.requires.back c.requires.lists c.drop_notes.ensures

pub returns-then-is_empty-clause-ok : goal.returns-then-is_empty-clause-ok
returns-then-is_empty-clause-ok c =
    let none : standing_boxes c.args.notes.now ≡ [] = no-notes _ (sym (c.is_empty.ensures ∙ ap (λ (ns : List NoteBox). length ns == 0) c.standing_notes.ensures) ∙ c.if-is_empty.true) in
    ok-map c.clear_floats.result _ _ (λ done. noteless-clear c.args.back c.args.body c.args.notes.now c.args.self.now c.args.store.now c.drop_notes.new.store c.requires.machine c.requires.back c.requires.lists c.drop_notes.ensures none (shows_back c.args.back c.clear_floats.new.self c.clear_floats.new.store) done) c.clear_floats.ensures.ok

pub returns-then-is_empty-clause-err : goal.returns-then-is_empty-clause-err
returns-then-is_empty-clause-err c =
    let none : standing_boxes c.args.notes.now ≡ [] = no-notes _ (sym (c.is_empty.ensures ∙ ap (λ (ns : List NoteBox). length ns == 0) c.standing_notes.ensures) ∙ c.if-is_empty.true) in
    err-map c.clear_floats.result _ _ (λ f cut. noteless-clear c.args.back c.args.body c.args.notes.now c.args.self.now c.args.store.now c.drop_notes.new.store c.requires.machine c.requires.back c.requires.lists c.drop_notes.ensures none (IsCutShort f c.clear_floats.new.self c.clear_floats.new.store) cut) c.clear_floats.ensures.err

pub returns-then-is_empty-clause-keeps : goal.returns-then-is_empty-clause-keeps
returns-then-is_empty-clause-keeps c = noteless-keeps c.args.back c.args.body c.args.notes.now c.args.self.now c.args.store.now c.drop_notes.new.store c.requires.machine c.requires.back c.requires.lists c.drop_notes.ensures c.clear_floats.new.self c.clear_floats.new.store c.clear_floats.ensures.keeps

pub returns-clause-ok : goal.returns-clause-ok
returns-clause-ok c =
    let some = some-notes (standing_boxes c.args.notes.now) (sym (c.is_empty.ensures ∙ ap (λ (ns : List NoteBox). length ns == 0) c.standing_notes.ensures) ∙ c.if-is_empty.false) in
    ok-map c.clear_notes.result _ _ (λ done. noted-clear c.args.back c.args.body c.args.self.now c.args.store.now (shows_back c.args.back c.clear_notes.new.self c.clear_notes.new.store) c.args.notes.now some done) c.clear_notes.ensures.ok

pub returns-clause-err : goal.returns-clause-err
returns-clause-err c =
    let some = some-notes (standing_boxes c.args.notes.now) (sym (c.is_empty.ensures ∙ ap (λ (ns : List NoteBox). length ns == 0) c.standing_notes.ensures) ∙ c.if-is_empty.false) in
    err-map c.clear_notes.result _ _ (λ f cut. noted-clear c.args.back c.args.body c.args.self.now c.args.store.now (IsCutShort f c.clear_notes.new.self c.clear_notes.new.store) c.args.notes.now some cut) c.clear_notes.ensures.err

pub returns-clause-keeps : goal.returns-clause-keeps
returns-clause-keeps c = c.clear_notes.ensures.keeps
