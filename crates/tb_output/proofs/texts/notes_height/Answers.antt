use Rattle.std.proofs.Common.{◌≡◌, ◌+◌, ◌<◌, ◌≤◌, sym, subst, ◌∙◌, List, [], ◌∷◌, length, drop, drop-cons, add-one, w64, to_z, arith}
use Rattle.std.proofs.lemmas.List.{at_drop_all}
use Rattle.std.proofs.lemmas.List.Elements.{All-from_recursion}
use Rattle.tb_column.specs.declared.NoteBox.{NoteBox}
use Rattle.tb_column.specs.Notes.{IsNote}
use Rattle.tb_column.proofs.NoteLemmas.{rising-at}
use Rattle.tb_output.proofs.ColumnPages.SizeLemmas.{IsHeightSoFar, height-begun, height-next, height-all, room-amount, amount-passed}
use Rattle.tb_output.proofs.texts.notes_height.Goals as goal

pub loop-note-init : goal.loop-note-init
loop-note-init c = height-begun c.args.store.now c.args.notes.now c.requires.few

pub note_room-requires : goal.note_room-requires
note_room-requires c =
    let n = c.note-item.result in
    let lt : c.loop-note.note-index < length c.args.notes.now = omega arith in
    subst (IsNote c.args.store.now) (sym c.note-item.is) (All-from_recursion (IsNote c.args.store.now) c.args.notes.now c.requires.notes c.loop-note.note-index n lt)

pub sum_of-height-requires-clause-second : goal.sum_of-height-requires-clause-second
sum_of-height-requires-clause-second c =
    let store = c.args.store.now in
    let n = c.note-item.result in
    let lt : c.loop-note.note-index < length c.args.notes.now = omega arith in
    let note = subst (IsNote store) (sym c.note-item.is) (All-from_recursion (IsNote store) c.args.notes.now c.requires.notes c.loop-note.note-index n lt) in
    amount-passed c.note_room.result (room-amount store n c.note_room.result note c.note_room.ensures.within)

pub loop-note-preserved : goal.loop-note-preserved
loop-note-preserved c =
    let store = c.args.store.now in
    let ns = c.args.notes.now in
    let k = c.loop-note.note-index in
    let n = c.note-item.result in
    let lt : k < length ns = omega arith in
    let note = subst (IsNote store) (sym c.note-item.is) (All-from_recursion (IsNote store) ns c.requires.notes k n lt) in
    let left : drop k ns ≡ n ∷ drop (k + 1) ns = drop-cons ns k n lt ∙ (λ i. sym c.note-item.is i ∷ drop (sym (add-one k) i) ns) in
    let height = to_z w64 c.loop-note.height-bits in
    let so : IsHeightSoFar store ns (n ∷ drop (k + 1) ns) k height = subst (λ xs. IsHeightSoFar store ns xs k height) left c.loop-note.invariant in
    let rising : 0 + k ≤ n.class = rw (← c.note-item.is) at (rising-at 0 ns c.requires.rising k n lt) in
    let classes : k + 1 ≤ 256 = omega (arith, rising) in
    height-next store ns (drop (k + 1) ns) k n height c.note_room.result c.sum_of-height.result classes note c.note_room.ensures.value c.note_room.ensures.within so c.sum_of-height.ensures

pub returns-clause-value : goal.returns-clause-value
returns-clause-value c =
    let store = c.args.store.now in
    let ns = c.args.notes.now in
    let height = to_z w64 c.loop-note.height-bits in
    let none : drop c.loop-note.note-index ns ≡ [] = at_drop_all (λ (xs : List NoteBox). xs) ns c.loop-note.note-index c.loop-note-test.false in
    (height-all store ns c.loop-note.note-index height (subst (λ xs. IsHeightSoFar store ns xs c.loop-note.note-index height) none c.loop-note.invariant)).0

pub returns-clause-within : goal.returns-clause-within
returns-clause-within c =
    let store = c.args.store.now in
    let ns = c.args.notes.now in
    let height = to_z w64 c.loop-note.height-bits in
    let none : drop c.loop-note.note-index ns ≡ [] = at_drop_all (λ (xs : List NoteBox). xs) ns c.loop-note.note-index c.loop-note-test.false in
    (height-all store ns c.loop-note.note-index height (subst (λ xs. IsHeightSoFar store ns xs c.loop-note.note-index height) none c.loop-note.invariant)).1
