use Rattle.std.proofs.Common.{◌≡◌, ◌≢◌, ◌*◌, ◌<◌, ap, sym, subst, ◌∙◌, ◌∷◌, [], ◌++◌, length, map, take, arith}
use Rattle.std.proofs.lemmas.List.{take_more}
use Rattle.std.proofs.lemmas.List.Elements.{All-from_recursion}
use Rattle.tb_pool.specs.Lists.{list_at}
use Rattle.tb_node.specs.PlainNodes.{shape_of}
use Rattle.tb_node.specs.Sums.{size_of}
use Rattle.tb_column.specs.declared.NoteBox.{NoteBox}
use Rattle.tb_column.specs.Notes.{IsNote}
use Rattle.tb_column.specs.FloatColumns.{made_node}
use Rattle.tb_output.specs.BackList.{insertion_of, insertions_again}
use Rattle.tb_output.specs.MachineFrame.{HasGrown}
use Rattle.tb_sheet.proofs.StandLemmas.{list-stands}
use Rattle.tb_output.proofs.ColumnPages.SizeLemmas.{within-amount, amount-cast}
use Rattle.tb_output.proofs.InText.BackLemmas.{notes-apart, again-begun, again-stands, again-more}
use Rattle.tb_output.proofs.texts.insertions_back.Goals as goal

pub list_height-height-requires : goal.list_height-height-requires
list_height-height-requires c =
    let store = c.args.store.now in
    let n = c.note-item.result in
    let lt : c.loop-note.note-index < length c.args.notes.now = omega arith in
    let note = subst (IsNote store) (sym c.note-item.is) (All-from_recursion (IsNote store) c.args.notes.now c.requires.notes c.loop-note.note-index n lt) in
    let apart : n.list ≢ c.args.back = subst (λ (m : NoteBox). m.list ≢ c.args.back) (sym c.note-item.is) (All-from_recursion (λ (m : NoteBox). m.list ≢ c.args.back) c.args.notes.now (notes-apart c.args.back c.args.notes.now c.requires.apart) c.loop-note.note-index n lt) in
    list-stands store c.loop-note.store n.list (again-stands store c.loop-note.store c.args.back _ n apart c.loop-note.invariant.grown) note.list

pub loop-note-preserved : goal.loop-note-preserved
loop-note-preserved c =
    let store = c.args.store.now in
    let mid = c.loop-note.store in
    let ns = c.args.notes.now in
    let k = c.loop-note.note-index in
    let n = c.note-item.result in
    let lt : k < length ns = omega arith in
    let note = subst (IsNote store) (sym c.note-item.is) (All-from_recursion (IsNote store) ns c.requires.notes k n lt) in
    let apart : n.list ≢ c.args.back = subst (λ (m : NoteBox). m.list ≢ c.args.back) (sym c.note-item.is) (All-from_recursion (λ (m : NoteBox). m.list ≢ c.args.back) ns (notes-apart c.args.back ns c.requires.apart) k n lt) in
    let there = list-stands store mid n.list (again-stands store mid c.args.back _ n apart c.loop-note.invariant.grown) note.list in
    let h = c.list_height-height.result in
    let small = within-amount (2147483646 * length (list_at mid n.list)) h (omega (arith, there.few)) c.list_height-height.ensures.within in
    let made : made_node c.insertion.result ≡ insertion_of c.args.p.now n (size_of (map shape_of (list_at mid n.list))) = c.insertion.ensures ∙ ap (insertion_of c.args.p.now n) (amount-cast h small ∙ c.list_height-height.ensures.value) in
    let more = take_more ns k n lt ∙ ap (λ (m : NoteBox). take k ns ++ m ∷ []) (sym c.note-item.is) in
    record {
      grown = subst (λ xs. HasGrown c.args.back (insertions_again c.args.p.now store xs) [] store c.push_made.new.store) (sym more)
          (again-more c.args.p.now store mid c.push_made.new.store c.args.back (take k ns) n (made_node c.insertion.result) apart made c.loop-note.invariant.grown c.push_made.ensures.lists);
      room = omega (arith, c.loop-note.invariant.room, c.push_made.ensures.spare);
    }

pub loop-note-init : goal.loop-note-init
loop-note-init c = record { grown = again-begun c.args.p.now c.args.store.now c.reserve.new.self c.args.back c.args.notes.now c.requires.back c.in_ok-reserve.ensures.lists; room = omega (arith, c.in_ok-reserve.ensures.room) }
