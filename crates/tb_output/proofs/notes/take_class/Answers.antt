use Rattle.std.proofs.Common.{sym, ◌∙◌, refl}
use Rattle.tb_builder.proofs.Ownership.FrameLemmas.{opened_live, opened_apart}
use Rattle.tb_builder.specs.Contents.{contents_of}
use Rattle.tb_builder.specs.FiredPages.{box_content}
use Rattle.tb_output.proofs.Firings.NotesTaking.{unopened-sound, unopened-frame, is-void, void-taken, list-sound, list-awaits, box-taken, box-frame}
use Rattle.tb_output.proofs.notes.take_class.Goals as goal

pub returns-then-is_void-clause-taken : goal.returns-then-is_void-clause-taken
returns-then-is_void-clause-taken c =
    let void = is-void (box_content (contents_of c.args.b.now c.args.store.now).boxes c.args.class.now.number) (sym (c.is_void.ensures c.args.store.now) ∙ c.if-is_void.true) in
    void-taken c.args.class.now c.args.b.now c.args.store.now c.requires.sound void

pub returns-then-is_void-clause-frame : goal.returns-then-is_void-clause-frame
returns-then-is_void-clause-frame c = unopened-frame c.args.b.now c.args.store.now c.args.store.now c.requires.sound refl

pub take_box-requires-clause-sound : goal.take_box-requires-clause-sound
take_box-requires-clause-sound c = list-sound c.args.b.now c.args.store.now c.add_list.new.self c.in_ok-list.list c.requires.sound c.in_ok-list.ensures.fresh c.in_ok-list.ensures.opened

pub take_box-requires-clause-empty : goal.take_box-requires-clause-empty
take_box-requires-clause-empty c = list-awaits c.args.b.now c.args.store.now c.add_list.new.self c.in_ok-list.list c.requires.sound c.in_ok-list.ensures.fresh c.in_ok-list.ensures.opened c.requires.awaits

pub take_box-requires-clause-live : goal.take_box-requires-clause-live
take_box-requires-clause-live c = opened_live c.args.b.now c.args.store.now c.add_list.new.self c.in_ok-list.list c.requires.sound c.in_ok-list.ensures.fresh c.in_ok-list.ensures.opened

pub take_box-requires-clause-apart : goal.take_box-requires-clause-apart
take_box-requires-clause-apart c = opened_apart c.args.b.now c.args.store.now c.add_list.new.self c.in_ok-list.list c.requires.sound c.in_ok-list.ensures.fresh c.in_ok-list.ensures.opened

pub returns-in_err-list-clause-sound : goal.returns-in_err-list-clause-sound
returns-in_err-list-clause-sound c = unopened-sound c.args.b.now c.args.store.now c.add_list.new.self c.requires.sound c.in_err-list.ensures.err

pub returns-in_err-list-clause-frame : goal.returns-in_err-list-clause-frame
returns-in_err-list-clause-frame c = unopened-frame c.args.b.now c.args.store.now c.add_list.new.self c.requires.sound c.in_err-list.ensures.err

pub returns-clause-taken : goal.returns-clause-taken
returns-clause-taken c =
    box-taken c.args.b.now c.args.store.now c.add_list.new.self c.in_ok-list.list c.requires.sound c.in_ok-list.ensures.fresh c.in_ok-list.ensures.opened c.args.class.now _ c.take_box.new.self c.take_box.new.store refl
    (sym (c.is_void.ensures c.args.store.now) ∙ c.if-is_void.false) c.take_box.ensures.contents c.take_box.ensures.taken c.take_box.ensures.keeps

pub returns-clause-frame : goal.returns-clause-frame
returns-clause-frame c =
    box-frame c.args.b.now c.args.store.now c.add_list.new.self c.in_ok-list.list c.requires.sound c.in_ok-list.ensures.fresh c.in_ok-list.ensures.opened c.args.class.now
    (record { class = c.args.class.now.number; below = c.args.class.now.below; skip = c.args.class.now.skip; list = c.in_ok-list.list }) c.take_box.new.self c.take_box.new.store refl
    (sym (c.is_void.ensures c.args.store.now) ∙ c.if-is_void.false) c.take_box.ensures.contents c.take_box.ensures.taken c.take_box.ensures.keeps c.take_box.ensures.others
