-- The text column of a page was made, and the lists of its insertions closed.
use Rattle.std.proofs.Common.{◌≡◌, refl, sym, subst, ◌∙◌, ap, ℕ, List, [], ◌∷◌}
use Rattle.std.specs.FinMap.{get}
use Rattle.std.specs.List.{AllByRecursion}
use Rattle.tb_pool.specs.Lists.{Lists}
use Rattle.tb_pool.specs.Frame.{IsNoneOf}
use Rattle.tb_pool.proofs.FrameLemmas.{none-front, none-back}
use Rattle.tb_node.specs.declared.Node.{Node}
use Rattle.tb_node.specs.PlainNodes.{plain_list}
use Rattle.tb_column.specs.declared.Column.{Column}
use Rattle.tb_column.specs.declared.NoteBox.{NoteBox}
use Rattle.tb_column.specs.Column.{PlainColumn, standing_notes, enlarged_of, text_column}
use Rattle.tb_column.specs.StoredColumns.{column_shown}
use Rattle.tb_column.specs.Notes.{note_lists, notes_shown}
use Rattle.tb_column.specs.Page.{IsPageColumn}
use Rattle.tb_column.specs.ColumnChanges.{AreJoined, without_text_floats}
use Rattle.tb_output.specs.declared.RunFault.TheVariants as faults
use Rattle.tb_output.specs.State.{State, Work}
use Rattle.tb_output.specs.Notes.{standing_boxes}
use Rattle.tb_output.proofs.ColumnPages.StandingBoxes.{none-standing}
use Rattle.tb_output.specs.Columns
use Rattle.tb_output.specs.Pages
use Rattle.tb_output.specs.Machine.{MachineView, events_shown, machine_lists, IsMachine}
use Rattle.tb_output.specs.FiringWork.{shows, shows_notes, IsCutShort, Does, Continues}
use Rattle.tb_sheet.specs.ApartLists.{AreNoneOf}
use Rattle.tb_output.specs.MachineFrame.{AreTextLists, KeepsMachine}
use Rattle.tb_output.proofs.FiringWork.WorkingLemmas.{Fact, no-memory}
use Rattle.tb_sheet.proofs.StandLemmas.{Stands, column-stands, column-shows}
use Rattle.tb_output.proofs.FiringWork.StandLemmas.{IsShownBy, stands-shown, lists-shown}
use Rattle.tb_sheet.proofs.ListsApart.{apart-swap}
use Rattle.tb_output.proofs.ColumnPages.FloatMoves.{pooled-lists, pooled-fields, pooled-state, pooled-machine}

module _ (m now : MachineView) (store mid new : Lists Node) (body : ℕ) (notes : List NoteBox) (is : IsMachine m store) (lists : AreTextLists 8355840 (machine_lists m) store body notes) (joined : AreJoined body (standing_boxes notes) store mid)
    (closed : (q : ℕ) → IsNoneOf q (note_lists notes) → get new.lists q ≡ get mid.lists q) (is_now : now ≡ record m { pool = without_text_floats m.pool }) where
  -- every other list is as before
  others-stand : (q : ℕ) → IsNoneOf q (body ∷ note_lists notes) → get new.lists q ≡ get store.lists q
  others-stand q none = closed q none.1 ∙ joined.others q (none.0, none-standing q notes none.1)

  all-stand : (ls : List ℕ) → AreNoneOf ls (body ∷ note_lists notes) → AllByRecursion (Stands store new) ls
  all-stand [] none = tt
  all-stand (q ∷ ls) none = (others-stand q none.0, all-stand ls none.1)

  same : IsShownBy m store new
  same = stands-shown m store new is (all-stand (machine_lists m) (apart-swap (body ∷ note_lists notes) (machine_lists m) lists.apart))

  pub text-does : Does (shows_notes notes m store) (shows now new) Columns.without_column_floats
  text-does before w h = record {
    served = h.0.served;
    sent = ap (λ (n : MachineView). events_shown new n.events) is_now ∙ same.events ∙ h.0.sent;
    state = pooled-state (without_text_floats m.pool) m now is_now new (Columns.emptied_boxes w.state.boxes) w.state.waiting
        ∙ ap (λ (s : State). (Columns.without_column_floats (record w { state = s })).state) (same.state w.state.boxes w.state.waiting ∙ h.0.state);
  }

  pub text-keeps : KeepsMachine (body ∷ note_lists notes) m now store new
  text-keeps = record {
    machine = pooled-machine (without_text_floats m.pool) m now is_now new refl (record { deferred = is.unmarked.deferred; second = is.unmarked.second }) same.machine;
    frame = λ q live none. (
      others-stand q (none-front q (body ∷ note_lists notes) (machine_lists m) none),
      subst (IsNoneOf q) (sym (pooled-lists (without_text_floats m.pool) m now is_now)) (none-back q (body ∷ note_lists notes) (machine_lists m) none),
    );
    fields = pooled-fields (without_text_floats m.pool) m now is_now;
  }

  module _ (c : Column) (list : c.list ≡ body) (page : IsPageColumn mid c) where
    column-same : get new.lists c.list ≡ get mid.lists c.list
    column-same = subst (λ q. get new.lists q ≡ get mid.lists q) (sym list) (closed body lists.notes.apart.0)

    pub text-shows : column_shown new c ≡ column_shown mid c
    text-shows = column-shows mid new c column-same page

    pub text-page : IsPageColumn new c
    text-page = column-stands mid new c column-same page

-- it is put out
pub text-out : (m mid : MachineView) (store s : Lists Node) (body : ℕ) (notes : List NoteBox) (to : Fact) (c : PlainColumn) → c ≡ text_column m.params m.pool.lists (plain_list store body) (standing_notes (notes_shown store notes)) (enlarged_of m.shrink (notes_shown store notes))
    → Does (shows_notes notes m store) (shows mid s) Columns.without_column_floats → Does (shows mid s) to (Pages.put_out m.params c) → Does (shows_notes notes m store) to (Columns.put_out_text m.params (plain_list store body))
text-out m mid store s body notes to c is text does before w h =
    subst (λ k. to before (Pages.put_out m.params k (Columns.without_column_floats w))) (is ∙ made) (does before (Columns.without_column_floats w) (text before w h))
  where
    made : text_column m.params m.pool.lists (plain_list store body) (standing_notes (notes_shown store notes)) (enlarged_of m.shrink (notes_shown store notes)) ≡ Columns.text_of m.params w.state (plain_list store body)
    made = λ i.
        text_column m.params (ap (λ (x : State). x.floats) h.0.state i) (plain_list store body) (standing_notes (sym h.1 i))
        (enlarged_of (ap (λ (x : State). x.shrink) h.0.state i) (sym h.1 i))

-- there was no memory, and nothing changed
pub text-fails : (m now : MachineView) (store new : Lists Node) (notes : List NoteBox) (f : Work → Work) → IsMachine m store → now ≡ m → new.lists ≡ store.lists → ((w : Work) → Continues w (f w)) → Does (shows_notes notes m store) (IsCutShort faults.Memory now new) f
text-fails m now store new notes f is same lists goes before w h =
    no-memory m now store new f (ap (λ (n : MachineView). events_shown new n.events) same ∙ (lists-shown m store new is lists).events) goes before w h.0
