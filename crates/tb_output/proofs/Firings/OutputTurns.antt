-- What a page that is not held is given to, by its penalty.
use Rattle.std.proofs.Common.{◌≡◌, refl, sym, subst, ◌∙◌, ap, ℕ, ℤ, Bool, true, false, List, [], ◌∷◌, ◌++◌, length, arith}
use Rattle.std.specs.Prelude.{not, int_le, if◌then◌else◌}
use Rattle.tb_scaled.specs.Scaled.{eject_penalty}
use Rattle.tb_pool.specs.Lists.{Lists}
use Rattle.tb_node.specs.declared.Node.{Node}
use Rattle.tb_node.specs.PlainNodes.{PlainNode, plain_list}
use Rattle.tb_param.specs.declared.Params.{Params}
use Rattle.tb_column.specs.declared.NoteBox.{NoteBox}
use Rattle.tb_column.specs.Notes.{note_lists}
use Rattle.tb_output.specs.declared.RunFault.{RunFault}
use Rattle.tb_output.specs.State.{Work}
use Rattle.tb_output.specs.Columns
use Rattle.tb_output.specs.Clear
use Rattle.tb_output.specs.Text
use Rattle.tb_sheet.specs.Asked.{clear_penalty, par_penalty}
use Rattle.tb_output.specs.Output.{is_int}
use Rattle.tb_output.specs.Machine.{MachineView, machine_lists}
use Rattle.tb_output.specs.FiringWork.{shows, shows_back, shows_notes, shows_page, IsCutShort, Does}
use Rattle.tb_sheet.specs.ApartLists.{AreNoneOf}
use Rattle.tb_output.specs.MachineFrame.{AreTextLists, IsBack, back_lists, KeepsMachine, KeepsBack}
use Rattle.tb_output.specs.FiringParts.{page_output}
use Rattle.tb_sheet.proofs.ListsApart.{apart-front, apart-back, apart-swap}
use Rattle.tb_output.proofs.FiringWork.KeepLemmas.{beside-shows, keeps-beside}
use Rattle.tb_output.proofs.StepLaws.ColumnSteps.{no_law, stays, put_out-step, float_columns-step, place_next-step}
use Rattle.tb_output.proofs.FiringWork.WorkingLemmas.{Fact}

-- the lists of a page are apart from some of the lists that they are apart from
pub lists-fewer : (more others : List ℕ) (store : Lists Node) (l : ℕ) (ns : List NoteBox) → AreTextLists 8355839 (more ++ others) store l ns → AreTextLists 8355840 others store l ns
lists-fewer more others store l ns h = record {
  text = h.text;
  notes = h.notes;
  few = let few = h.few in omega (arith, few);
  apart = apart-back (l ∷ note_lists ns) more others h.apart;
}

-- ---- an ordinary page puts nothing back

module _ (p : Params) (body : List PlainNode) where
  ordinary-back : (w : Work) → (Columns.ordinary p body w).put_back ≡ w.put_back
  ordinary-back w =
      let a = Columns.put_out_text p body w in
      let b = Columns.all_float_columns p false a in
      (stays (place_next-step p (no_law p) [] b.state.floats.deferred b)).put_back
      ∙ (stays (float_columns-step p (no_law p) false (length a.state.floats.deferred) a)).put_back
      ∙ (stays (put_out-step p (no_law p) (Columns.text_of p w.state body) (Columns.without_column_floats w))).put_back

module _ (l : ℕ) (body : ℕ) (notes : List NoteBox) (m now : MachineView) (store new : Lists Node) (back : IsBack l m store) (lists : AreTextLists 8355839 (back_lists store l ++ machine_lists m) store body notes)
    (keeps : KeepsMachine (body ∷ note_lists notes) m now store new) where
  back-apart : AreNoneOf (back_lists store l) (body ∷ note_lists notes)
  back-apart = apart-swap (body ∷ note_lists notes) (back_lists store l) (apart-front (body ∷ note_lists notes) (back_lists store l) (machine_lists m) lists.apart)

  pub ordinary-keeps : KeepsBack l (body ∷ note_lists notes) m now store new
  ordinary-keeps = keeps-beside (body ∷ note_lists notes) m now store new l back keeps back-apart

  pub ordinary-done : Does (shows_notes notes m store) (shows now new) (Columns.ordinary m.params (plain_list store body)) → Does (shows_page l notes m store) (shows_back l now new) (Columns.ordinary m.params (plain_list store body))
  ordinary-done done before w h = (
    done before w (h.0, h.2),
    beside-shows (body ∷ note_lists notes) m now store new l back keeps back-apart ∙ h.1 ∙ sym (ordinary-back m.params (plain_list store body) w),
  )

pub ordinary-cut : (l : ℕ) (notes : List NoteBox) (m now : MachineView) (store new : Lists Node) (e : RunFault) (step : Work → Work) → Does (shows_notes notes m store) (IsCutShort e now new) step → Does (shows_page l notes m store) (IsCutShort e now new) step
ordinary-cut l notes m now store new e step cut before w h = cut before w (h.0, h.2)

-- ---- by the penalty

module _ (from to : Fact) (p : Params) (n : ℤ) (body : List PlainNode) where
  pub by-ordinary : int_le eject_penalty n ≡ true → Does from to (Columns.ordinary p body) → Does from to (page_output p n body)
  by-ordinary e done before w h =
      subst (λ v. to before v)
      (ap (λ t. if t then Columns.ordinary p body w else (if is_int n clear_penalty then Clear.clear p body w else (if is_int n par_penalty then Text.float_or_note p false body w else Text.float_or_note p true body w))) (sym e))
      (done before w h)

  pub by-clear : int_le eject_penalty n ≡ false → is_int n clear_penalty ≡ true → Does from to (Clear.clear p body) → Does from to (page_output p n body)
  by-clear low e done before w h =
      subst (λ v. to before v)
      (λ i. if sym low i then Columns.ordinary p body w else (if sym e i then Clear.clear p body w else (if is_int n par_penalty then Text.float_or_note p false body w else Text.float_or_note p true body w)))
      (done before w h)

  pub by-float : (vert : Bool) → int_le eject_penalty n ≡ false → is_int n clear_penalty ≡ false → vert ≡ not (is_int n par_penalty) → Does from to (Text.float_or_note p vert body) → Does from to (page_output p n body)
  by-float vert low e is done before w h =
      subst (λ v. to before v)
      (λ i. if sym low i then Columns.ordinary p body w else (if sym e i then Clear.clear p body w else picked i))
      (done before w h)
    where
      by_par : (t : Bool) → Text.float_or_note p (not t) body w ≡ (if t then Text.float_or_note p false body w else Text.float_or_note p true body w)
      by_par true = refl
      by_par false = refl

      picked : Text.float_or_note p vert body w ≡ (if is_int n par_penalty then Text.float_or_note p false body w else Text.float_or_note p true body w)
      picked = ap (λ t. Text.float_or_note p t body w) is ∙ by_par (is_int n par_penalty)
