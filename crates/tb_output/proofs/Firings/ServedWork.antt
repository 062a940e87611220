-- The work of a firing, once the insertions were taken out of the builder's boxes.
use Rattle.std.proofs.Common.{◌≡◌, sym, subst, ◌∙◌, ap, ℕ, List}
use Rattle.std.specs.Prelude.{◌<ℤ◌, true, false, int_le, if◌then◌else◌}
use Rattle.tb_pool.specs.Lists.{Lists}
use Rattle.tb_node.specs.declared.Node.{Node}
use Rattle.tb_param.specs.declared.Params.{Params}
use Rattle.tb_builder.specs.declared.Builder.{Builder}
use Rattle.tb_builder.specs.FiredPages.{Fired}
use Rattle.tb_builder.specs.Contents.{Contents, contents_of}
use Rattle.tb_column.specs.declared.NoteBox.{NoteBox}
use Rattle.tb_sheet.specs.Sheet.{PlainSent}
use Rattle.tb_output.specs.declared.RunFault.{RunFault}
use Rattle.tb_output.specs.State.{State, Work, notes_in}
use Rattle.tb_output.specs.Columns.{emptied_boxes, ordinary}
use Rattle.tb_scaled.specs.Scaled.{eject_penalty}
use Rattle.tb_node.specs.PlainNodes.{plain_list}
use Rattle.tb_output.specs.Clear.{clear}
use Rattle.tb_output.specs.Text.{float_or_note}
use Rattle.tb_sheet.specs.Asked.{hold_penalty, clear_penalty, par_penalty, vert_penalty}
use Rattle.tb_output.specs.Output.{is_int, hold, output_by}
use Rattle.tb_output.specs.Machine.{MachineView, AreClassesFrom}
use Rattle.tb_output.specs.FiringWork.{ShowsWork, shows, shows_back, shows_page, shows_all, IsCutShort, Does}
use Rattle.tb_output.specs.Notes.{NotesTaken}
use Rattle.tb_output.specs.FiringParts.{page_output}
use Rattle.tb_output.proofs.FiringWork.StandLemmas.{IsShownBy}
use Rattle.tb_output.proofs.FiringWork.WorkingLemmas.{shows-moved}
use Rattle.tb_output.proofs.Firings.GoalLemmas.{int-same}
use Rattle.tb_output.proofs.StepLaws.ClassBoxes.{page-boxes, page-is}

module _ (m now : MachineView) (b later : Builder) (store middle new : Lists Node) (l : ℕ) (notes : List NoteBox) (f : Fired)
    (shown : IsShownBy m store middle) (back : plain_list middle l ≡ plain_list store l) (classes : AreClassesFrom 0 m.classes) (known : (contents_of b store).classes ≡ m.classes)
    (taken : NotesTaken m.classes notes b later store middle) where
  -- the insertions of the work are in lists of their own
  pub taken-work : (before : List PlainSent) (w : Work) → shows_all l b m store before w → shows_page l notes m middle before w
  taken-work before w h = (
    shows-moved m m store middle before w shown.events (shown.state w.state.boxes w.state.waiting) h.0,
    back ∙ h.1,
    (λ i. notes_in (ap (λ (s : State). s.classes) (sym h.0.state) i) (sym h.2 i)) ∙ sym taken.shown,
  )

  module _ (above : hold_penalty <ℤ f.penalty) (contents : contents_of later new ≡ contents_of later middle)
      (done : Does (shows_page l notes m middle) (shows_back l now new) (page_output m.params f.penalty f.body)) where
    -- it was done, and the boxes are the builder's
    pub output-done : Does (shows_all l b m store) (shows_all l later now new) (output_by m.params f)
    output-done before w h =
        let v = done before w (taken-work before w h) in
        let same = page-is m.params f w above in (
          subst (ShowsWork before now new) same v.0,
          v.1 ∙ ap (λ (x : Work). x.put_back) same,
          ap (λ (x : Contents). x.boxes) contents ∙ ap (λ (x : Contents). x.boxes) taken.contents ∙ ap emptied_boxes h.2
              ∙ sym (page-boxes m.params f.penalty f.body w) ∙ ap (λ (x : Work). x.state.boxes) same,
        )

  -- it was cut short
  module _ (above : hold_penalty <ℤ f.penalty) (e : RunFault) (done : Does (shows_page l notes m middle) (IsCutShort e now new) (page_output m.params f.penalty f.body)) where
    pub output-cut : Does (shows_all l b m store) (IsCutShort e now new) (output_by m.params f)
    output-cut before w h = subst (IsCutShort e now new before) (page-is m.params f w above) (done before w (taken-work before w h))

-- ---- a page that is held

-- by its penalty
hold-is : (p : Params) (f : Fired) (w : Work) → is_int f.penalty hold_penalty ≡ true → hold f.body w ≡ output_by p f w
hold-is p f w e =
    let at : f.penalty ≡ hold_penalty = int-same f.penalty hold_penalty e in
    sym (
    ap (λ t. if t then ordinary p f.body w else (if is_int f.penalty clear_penalty then clear p f.body w else (if is_int f.penalty par_penalty then float_or_note p false f.body w else (if is_int f.penalty vert_penalty then float_or_note p true f.body w else hold f.body w)))) (ap (int_le eject_penalty) at)
    ∙ ap (λ t. if t then clear p f.body w else (if is_int f.penalty par_penalty then float_or_note p false f.body w else (if is_int f.penalty vert_penalty then float_or_note p true f.body w else hold f.body w))) (ap (λ n. is_int n clear_penalty) at)
    ∙ ap (λ t. if t then float_or_note p false f.body w else (if is_int f.penalty vert_penalty then float_or_note p true f.body w else hold f.body w)) (ap (λ n. is_int n par_penalty) at)
    ∙ ap (λ t. if t then float_or_note p true f.body w else hold f.body w) (ap (λ n. is_int n vert_penalty) at)
    )

pub held-output : (p : Params) (f : Fired) (l : ℕ) (b : Builder) (m now : MachineView) (store new : Lists Node) → is_int f.penalty hold_penalty ≡ true → plain_list new l ≡ plain_list store l → contents_of b new ≡ contents_of b store
    → Does (shows m store) (shows now new) (hold f.body) → Does (shows_all l b m store) (shows_all l b now new) (output_by p f)
held-output p f l b m now store new e back contents done before w h =
    let same = hold-is p f w e in
    (subst (ShowsWork before now new) same (done before w h.0), back ∙ h.1 ∙ ap (λ (x : Work). x.put_back) same, ap (λ (x : Contents). x.boxes) contents ∙ h.2 ∙ ap (λ (x : Work). x.state.boxes) same)
