use Rattle.std.proofs.Common.{◌≡◌, sym, ◌∙◌, false}
use Rattle.std.specs.Prelude.{◌==◌}
use Rattle.tb_pool.specs.Lists.{list_at}
use Rattle.tb_output.proofs.ColumnPages.SizeLemmas.{amount-cast, alike, unlike, has_box-is, standing-room, enlarging-none, enlarging-size, list-room, room-amount}
use Rattle.tb_output.proofs.texts.note_room.Goals as goal

pub returns-then-note-clause-value : goal.returns-then-note-clause-value
returns-then-note-clause-value c =
    let store = c.args.store.now in
    let n = c.args.note.now in
    let stands : (n.class == 255) ≡ false = unlike n.class c.if-note.true in
    let r = standing-room store n c.list_height.result c.sum_of.result c.requires stands c.list_height.ensures.value c.list_height.ensures.within c.sum_of.ensures in
    amount-cast c.sum_of.result (room-amount store n c.sum_of.result c.requires r.1) ∙ r.0

pub returns-then-has_box-clause-value : goal.returns-then-has_box-clause-value
returns-then-has_box-clause-value c =
    let store = c.args.store.now in
    let n = c.args.note.now in
    enlarging-none store n (alike n.class c.if-note.false) (sym (c.has_box.ensures ∙ has_box-is (list_at store n.list)) ∙ c.if-has_box.true)

pub returns-clause-value : goal.returns-clause-value
returns-clause-value c =
    let store = c.args.store.now in
    let n = c.args.note.now in
    let size = c.list_height-2.result in
    amount-cast size (room-amount store n size c.requires (list-room store n size c.list_height-2.ensures.within))
    ∙ enlarging-size store n size (alike n.class c.if-note.false) (sym (c.has_box.ensures ∙ has_box-is (list_at store n.list)) ∙ c.if-has_box.false) c.list_height-2.ensures.value
