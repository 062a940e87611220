use Rattle.std.proofs.Common.{◌≡◌, refl, sym, ap, ◌∙◌, subst, ◌+◌, ◌<◌, ◌==◌, true, false, List, [], ◌∷◌, length, drop, drop-cons, add-one, FitsSigned, w64, arith}
use Rattle.std.specs.Prelude.{if◌then◌else◌}
use Rattle.std.proofs.lemmas.Int.{to_z-of_z}
use Rattle.std.proofs.lemmas.List.{at_drop_all}
use Rattle.std.proofs.lemmas.List.Elements.{All-from_recursion}
use Rattle.tb_column.specs.declared.NoteBox.{NoteBox}
use Rattle.tb_column.specs.Column.{enlarged_by, enlarged_of}
use Rattle.tb_column.specs.Notes.{note_shown, notes_shown, IsNote}
use Rattle.tb_output.proofs.ColumnPages.SizeLemmas.{alike, unlike}
use Rattle.tb_output.proofs.standing.enlarged_of.Goals as goal

pub loop-note-init : goal.loop-note-init
loop-note-init c = refl

pub loop-note-preserved : goal.loop-note-preserved
loop-note-preserved c =
    let store = c.args.store.now in
    let ns = c.args.notes.now in
    let k = c.loop-note.note-index in
    let n = c.note-item.result in
    let shrink : FitsSigned w64 c.args.shrink = c.ranges.shrink in
    let lt : k < length ns = omega arith in
    let left : drop k ns ≡ n ∷ drop (k + 1) ns = drop-cons ns k n lt ∙ (λ i. sym c.note-item.is i ∷ drop (sym (add-one k) i) ns) in
    let other : (n.class == 255) ≡ false = unlike n.class c.if-note.false in
    let rest = enlarged_of c.args.shrink (notes_shown store (drop (k + 1) ns)) in
    let before = simp to_z-of_z at c.loop-note.invariant in
    let now : rest ≡ enlarged_of c.args.shrink (notes_shown store ns) =
    ap (λ t. if t then enlarged_by c.args.shrink (note_shown store n).inner else rest) (sym other) ∙ ap (λ (xs : List NoteBox). enlarged_of c.args.shrink (notes_shown store xs)) (sym left) ∙ before in
    simp to_z-of_z now

pub enlarged_by-requires-clause-list : goal.enlarged_by-requires-clause-list
enlarged_by-requires-clause-list c =
    let n = c.note-item.result in
    let lt : c.loop-note.note-index < length c.args.notes.now = omega arith in
    (subst (IsNote c.args.store.now) (sym c.note-item.is) (All-from_recursion (IsNote c.args.store.now) c.args.notes.now c.requires.notes c.loop-note.note-index n lt)).list

pub returns-then-note-clause-value : goal.returns-then-note-clause-value
returns-then-note-clause-value c =
    let store = c.args.store.now in
    let ns = c.args.notes.now in
    let k = c.loop-note.note-index in
    let n = c.note-item.result in
    let shrink : FitsSigned w64 c.args.shrink = c.ranges.shrink in
    let lt : k < length ns = omega arith in
    let left : drop k ns ≡ n ∷ drop (k + 1) ns = drop-cons ns k n lt ∙ (λ i. sym c.note-item.is i ∷ drop (sym (add-one k) i) ns) in
    let here : (n.class == 255) ≡ true = alike n.class c.if-note.true in
    let rest = enlarged_of c.args.shrink (notes_shown store (drop (k + 1) ns)) in
    let before = simp to_z-of_z at c.loop-note.invariant in
    let value = simp to_z-of_z at c.enlarged_by.ensures.value in
    value ∙ ap (λ t. if t then enlarged_by c.args.shrink (note_shown store n).inner else rest) (sym here)
    ∙ ap (λ (xs : List NoteBox). enlarged_of c.args.shrink (notes_shown store xs)) (sym left) ∙ before

pub returns-clause-value : goal.returns-clause-value
returns-clause-value c =
    let store = c.args.store.now in
    let shrink : FitsSigned w64 c.args.shrink = c.ranges.shrink in
    let none : drop c.loop-note.note-index c.args.notes.now ≡ [] = at_drop_all (λ (xs : List NoteBox). xs) c.args.notes.now c.loop-note.note-index c.loop-note-test.false in
    let before = simp to_z-of_z at c.loop-note.invariant in
    sym (ap (λ (xs : List NoteBox). enlarged_of c.args.shrink (notes_shown store xs)) none) ∙ before
