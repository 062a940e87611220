use Rattle.std.proofs.Common.{◌≡◌, refl, sym, subst, ap, ◌∙◌, ◌∷◌, FitsSigned, w64, rules, arith}
use Rattle.std.proofs.lemmas.Int.{to_z-of_z}
use Rattle.tb_scaled.specs.Amount.{IsAmount}
use Rattle.tb_node.specs.PlainNodes.{plain_list}
use Rattle.tb_column.specs.Column.{standing_notes, enlarged_of, text_column}
use Rattle.tb_column.specs.StoredColumns.{column_shown}
use Rattle.tb_column.specs.Notes.{note_lists, notes_shown, note_count, AreNotes}
use Rattle.tb_column.specs.ColumnChanges.{AreJoined, without_text_floats}
use Rattle.tb_output.specs.Notes.{standing_boxes}
use Rattle.tb_output.proofs.ColumnPages.StandingBoxes.{shown-standing, notes-standing, count-standing, live-joined}
use Rattle.tb_output.specs.Machine.{MachineView, AreOutputParams}
use Rattle.tb_output.specs.MachineFrame.{KeepsMachine}
use Rattle.tb_output.specs.contracts.Machine.{the_view}
use Rattle.tb_output.proofs.ColumnPages.FloatMoves.{pool-moved}
use Rattle.tb_output.proofs.FiringWork.KeepLemmas.{keeps-same}
use Rattle.tb_output.proofs.ColumnPages.TakingText.{text-does, text-keeps, text-shows}
use Rattle.tb_output.proofs.Machine.take_text.Goals.{In_ok-column}
use Rattle.tb_output.proofs.Machine.take_text.Goals as goal

-- the boxes that stand have joined the text
joined_is : (c : In_ok-column) → AreJoined c.args.body (standing_boxes c.args.notes.now) c.args.store.now c.make_column.new.store
joined_is c = subst (λ ns. AreJoined c.args.body ns c.args.store.now c.make_column.new.store) c.standing_notes-standing.ensures c.in_ok-column.ensures.lists

pub returns-clause-ok : goal.returns-clause-ok
returns-clause-ok c =
    text-does c.args.self.now _ c.args.store.now c.make_column.new.store c.drop_notes.new.store c.args.body c.args.notes.now c.requires.machine c.requires.lists (joined_is (goal.at.returns-clause-ok c).In_ok-column) c.drop_notes.ensures
    (pool-moved without_text_floats (the_view c.self.inside) c.args.self.now c.make_column.new.pool c.keep_room.new.self.sent c.self.view_is c.in_ok-column.ensures.pool c.keep_room.ensures.sent)

pub returns-clause-keeps : goal.returns-clause-keeps
returns-clause-keeps c =
    text-keeps c.args.self.now _ c.args.store.now c.make_column.new.store c.drop_notes.new.store c.args.body c.args.notes.now c.requires.machine c.requires.lists (joined_is (goal.at.returns-clause-keeps c).In_ok-column) c.drop_notes.ensures
    (pool-moved without_text_floats (the_view c.self.inside) c.args.self.now c.make_column.new.pool c.keep_room.new.self.sent c.self.view_is c.in_ok-column.ensures.pool c.keep_room.ensures.sent)

pub make_column-requires-clause-params : goal.make_column-requires-clause-params
make_column-requires-clause-params c =
    let params : AreOutputParams c.self.inside.params = subst (λ (m : MachineView). AreOutputParams m.params) (sym c.self.view_is) c.requires.machine.params in
    params.columns

-- the boxes that stand, as they are shown
standing_is : (c : In_ok-column) → notes_shown c.args.store.now c.standing_notes-standing.result.now ≡ standing_notes (notes_shown c.args.store.now c.args.notes.now)
standing_is c = ap (notes_shown c.args.store.now) c.standing_notes-standing.ensures ∙ shown-standing c.args.store.now c.args.notes.now

-- how the column is packed
enlarged_is : (c : In_ok-column) → c.enlarged_of-enlarged.result ≡ enlarged_of c.args.self.now.shrink (notes_shown c.args.store.now c.args.notes.now)
enlarged_is c =
    let fits : FitsSigned w64 c.self.inside.shrink = search rules in
    let value = simp to_z-of_z at c.enlarged_of-enlarged.ensures.value in
    value ∙ ap (λ (m : MachineView). enlarged_of m.shrink (notes_shown c.args.store.now c.args.notes.now)) c.self.view_is

pub enlarged_of-enlarged-requires-clause-notes : goal.enlarged_of-enlarged-requires-clause-notes
enlarged_of-enlarged-requires-clause-notes c = c.requires.lists.notes.each

pub enlarged_of-enlarged-requires-clause-shrink : goal.enlarged_of-enlarged-requires-clause-shrink
enlarged_of-enlarged-requires-clause-shrink c =
    let fits : FitsSigned w64 c.self.inside.shrink = search rules in
    let small : IsAmount c.self.inside.shrink = subst (λ (m : MachineView). IsAmount m.shrink) (sym c.self.view_is) c.requires.machine.shrink in
    simp to_z-of_z small

pub standing_notes-standing-requires : goal.standing_notes-standing-requires
standing_notes-standing-requires c = c.requires.lists.notes.rising

pub make_column-requires-clause-notes : goal.make_column-requires-clause-notes
make_column-requires-clause-notes c =
    subst (AreNotes c.args.store.now c.args.body) (sym c.standing_notes-standing.ensures) (notes-standing c.args.store.now c.args.body c.args.notes.now c.requires.lists.notes)

pub make_column-requires-clause-few : goal.make_column-requires-clause-few
make_column-requires-clause-few c =
    let few = c.requires.lists.few in
    let less = count-standing c.args.store.now c.args.notes.now in
    let same = ap (note_count c.args.store.now) c.standing_notes-standing.ensures in
    omega (arith, few, less, same)

pub make_column-requires-clause-enlarged : goal.make_column-requires-clause-enlarged
make_column-requires-clause-enlarged c = c.enlarged_of-enlarged.ensures.fits

pub drop_notes-requires-clause-live : goal.drop_notes-requires-clause-live
drop_notes-requires-clause-live c = live-joined c.args.store.now c.make_column.new.store c.args.body c.args.notes.now c.requires.lists.notes (joined_is (goal.at.drop_notes-requires-clause-live c).In_ok-column)

pub drop_notes-requires-clause-apart : goal.drop_notes-requires-clause-apart
drop_notes-requires-clause-apart c = c.requires.lists.notes.apart.1

pub returns-clause-shown : goal.returns-clause-shown
returns-clause-shown c =
    let w = (goal.at.returns-clause-shown c).In_ok-column in
    let s = c.make_column.new.store in
    let made = subst (λ (m : MachineView). column_shown s c.in_ok-column.column ≡ text_column m.params m.pool.lists (plain_list c.args.store.now c.args.body) (notes_shown c.args.store.now c.standing_notes-standing.result.now) c.enlarged_of-enlarged.result) c.self.view_is c.in_ok-column.ensures.column in
    text-shows c.args.self.now _ c.args.store.now s c.drop_notes.new.store c.args.body c.args.notes.now c.requires.machine c.requires.lists (joined_is w) c.drop_notes.ensures
    (pool-moved without_text_floats (the_view c.self.inside) c.args.self.now c.make_column.new.pool c.keep_room.new.self.sent c.self.view_is c.in_ok-column.ensures.pool c.keep_room.ensures.sent)
    c.in_ok-column.column c.in_ok-column.ensures.list c.in_ok-column.ensures.page ∙ made
    ∙ (λ i. text_column c.args.self.now.params c.args.self.now.pool.lists (plain_list c.args.store.now c.args.body) (standing_is w i) (enlarged_is w i))

-- there was no memory
pub returns-in_err-keep_room-clause-keeps : goal.returns-in_err-keep_room-clause-keeps
returns-in_err-keep_room-clause-keeps c =
    let args = c.args.body ∷ note_lists c.args.notes.now in
    subst (λ n. KeepsMachine args c.args.self.now n c.args.store.now c.args.store.now)
    (sym (pool-moved (λ v. v) (the_view c.self.inside) c.args.self.now c.self.inside.pool c.keep_room.new.self.sent c.self.view_is refl c.keep_room.ensures.sent))
    (keeps-same args c.args.self.now c.args.store.now c.args.store.now c.requires.machine refl)

pub returns-in_err-column-clause-keeps : goal.returns-in_err-column-clause-keeps
returns-in_err-column-clause-keeps c =
    let args = c.args.body ∷ note_lists c.args.notes.now in
    subst (λ n. KeepsMachine args c.args.self.now n c.args.store.now c.make_column.new.store)
    (sym (pool-moved (λ v. v) (the_view c.self.inside) c.args.self.now c.make_column.new.pool c.keep_room.new.self.sent c.self.view_is c.in_err-column.ensures.err_pool c.keep_room.ensures.sent))
    (keeps-same args c.args.self.now c.args.store.now c.make_column.new.store c.requires.machine c.in_err-column.ensures.err_lists)
