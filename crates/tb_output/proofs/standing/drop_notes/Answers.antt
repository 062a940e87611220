use Rattle.std.proofs.Common.{◌<◌, length, arith}
use Rattle.tb_output.proofs.Firings.DroppedNotes.{dropped-begin, dropped-live, dropped-next}
use Rattle.tb_output.proofs.standing.drop_notes.Goals as goal

pub loop-note-init : goal.loop-note-init
loop-note-init c = dropped-begin c.args.notes.now c.args.store.now c.requires.live c.requires.apart

pub drop_list-requires : goal.drop_list-requires
drop_list-requires c =
    let lt : c.loop-note.note-index < length c.args.notes.now = omega arith in
    dropped-live c.args.notes.now c.loop-note.note-index c.note-item.result c.args.store.now c.loop-note.store lt c.note-item.is c.loop-note.invariant

pub loop-note-preserved : goal.loop-note-preserved
loop-note-preserved c =
    let lt : c.loop-note.note-index < length c.args.notes.now = omega arith in
    dropped-next c.args.notes.now c.loop-note.note-index c.note-item.result c.args.store.now c.loop-note.store lt c.note-item.is c.loop-note.invariant c.drop_list.new.store c.drop_list.ensures

pub returns : goal.returns
returns c = c.loop-note.invariant.others
