-- A firing from the list that is opened for what goes back to the goal of the next page.
use Rattle.std.proofs.Common.{◌≡◌, refl, sym, subst, ◌∙◌, ap, ℕ, List, [], map, None}
use Rattle.std.specs.FinMap.{get}
use Rattle.tb_pool.specs.Lists.{Lists, list_at, with_list}
use Rattle.tb_pool.proofs.FrameLemmas.{none-front, none-back, none-join}
use Rattle.tb_node.specs.declared.Node.{Node}
use Rattle.tb_node.specs.PlainNodes.{plain_of}
use Rattle.tb_builder.specs.declared.Builder.{Builder}
use Rattle.tb_builder.specs.declared.Page.{Page}
use Rattle.tb_builder.specs.FiredPages.{Fired}
use Rattle.tb_builder.specs.Contents.{Contents, contents_of}
use Rattle.tb_builder.specs.Courses.{IsSound}
use Rattle.tb_builder.specs.Contributions.{NoPage}
use Rattle.tb_sheet.specs.Sheet.{PlainSent}
use Rattle.tb_output.specs.declared.RunFault.{RunFault}
use Rattle.tb_output.specs.declared.RunFault.TheVariants as faults
use Rattle.tb_output.specs.State.{Work}
use Rattle.tb_output.specs.Output.{output_by, next_goal}
use Rattle.tb_output.specs.Machine.{MachineView, machine_lists, IsMachine}
use Rattle.tb_output.specs.FiringWork.{shows_back, shows_boxes, shows_all, IsCutShort, Does}
use Rattle.tb_output.specs.MachineFrame.{KeepsBack}
use Rattle.tb_builder.specs.BuilderLists.{builder_lists}
use Rattle.tb_output.specs.Firing.{fired_in, CanFire, CanGoBack, KeepsAll, KeepsServing}
use Rattle.tb_output.specs.FiringParts.{served}
use Rattle.tb_output.proofs.FiringWork.StandLemmas.{lists-shown}
use Rattle.tb_output.proofs.FiringWork.WorkingLemmas.{does-given, cut-then, shows-moved, no-memory_given}
use Rattle.tb_output.proofs.StepLaws.WorkSteps.{continues-then, continues-output_by, continues-next_goal}
use Rattle.tb_output.proofs.StepLaws.ClassBoxes.{goal-boxes}
use Rattle.tb_output.proofs.Firings.NotesTaking.{unopened-sound, unopened-frame}
use Rattle.tb_output.proofs.Firings.FiringLemmas.{opened-empty, opened-machine, opened-contents, opened-fired, then-contents, goes-back}

-- ---- there was no memory for the list

module _ (m : MachineView) (b : Builder) (store new : Lists Node) (is : IsMachine m store) (sound : IsSound b store) (same : new.lists ≡ store.lists) where
  pub unserved-cut : (f : Fired) → Does (shows_boxes b m store) (IsCutShort faults.Memory m new) (served m.params f)
  unserved-cut f =
      no-memory_given (shows_boxes b m store) m m store new (served m.params f) (λ before w h. h.0) (lists-shown m store new is same).events
      (λ w. continues-then (continues-output_by m.params f w) (continues-next_goal m.params f.penalty (output_by m.params f w)))

  pub unserved-keeps : (body : ℕ) → KeepsAll body m m b b store new
  unserved-keeps body = record {
    machine = (lists-shown m store new is same).machine;
    builder = unopened-sound b store new sound same;
    frame = λ q live none.
        let step = unopened-frame b store new sound same q live (none-front q (builder_lists b store) (machine_lists m) none.1) in
        (step.0, none-join q (builder_lists b new) (machine_lists m) step.1 (none-back q (builder_lists b store) (machine_lists m) none.1));
    params = refl;
    classes = refl;
  }

-- ---- the list was opened

module _ (m : MachineView) (b : Builder) (store opened : Lists Node) (l : ℕ) (page : Page) (is : IsMachine m store) (sound : IsSound b store) (fire : CanFire m b store page)
    (fresh : get store.lists l ≡ None) (e : opened.lists ≡ with_list store l []) where
  begins : (before : List PlainSent) (w : Work) → shows_boxes b m store before w → shows_all l b m opened before w
  begins before w h =
      let shown = opened-machine store opened l fresh e m b page is sound in (
        shows-moved m m store opened before w shown.events (shown.state w.state.boxes w.state.waiting) h.0,
        ap (map (plain_of (list_at opened))) (opened-empty store opened l fresh e) ∙ sym h.2,
        ap (λ (x : Contents). x.boxes) (opened-contents store opened l fresh e m b page is sound) ∙ h.1,
      )

  fired-same : fired_in b opened page ≡ fired_in b store page
  fired-same = opened-fired store opened l fresh e m b page is sound fire

  module _ (mid : MachineView) (later : Builder) (middle : Lists Node) where
    -- the routine was cut short
    pub routine-cut : (f : RunFault) → Does (shows_all l b m opened) (IsCutShort f mid middle) (output_by m.params (fired_in b opened page)) → Does (shows_boxes b m store) (IsCutShort f mid middle) (served m.params (fired_in b store page))
    routine-cut f cut =
        cut-then (shows_boxes b m store) f mid middle (output_by m.params (fired_in b store page)) (next_goal m.params page.penalty)
        (does-given (shows_boxes b m store) (shows_all l b m opened) (IsCutShort f mid middle) (output_by m.params (fired_in b store page)) begins
        (subst (λ x. Does (shows_all l b m opened) (IsCutShort f mid middle) (output_by m.params x)) fired-same cut))
        (continues-next_goal m.params page.penalty)

    module _ (keeps : KeepsServing page.body l m mid b later opened middle) (done : Does (shows_all l b m opened) (shows_all l later mid middle) (output_by m.params (fired_in b opened page))) where
      routine-done : Does (shows_boxes b m store) (shows_all l later mid middle) (output_by m.params (fired_in b store page))
      routine-done =
          does-given (shows_boxes b m store) (shows_all l b m opened) (shows_all l later mid middle) (output_by m.params (fired_in b store page)) begins
          (subst (λ x. Does (shows_all l b m opened) (shows_all l later mid middle) (output_by m.params x)) fired-same done)

      -- the goal was cut short
      pub goal-cut : (f : RunFault) (now : MachineView) (new : Lists Node) → Does (shows_back l mid middle) (IsCutShort f now new) (next_goal mid.params page.penalty) → Does (shows_boxes b m store) (IsCutShort f now new) (served m.params (fired_in b store page))
      goal-cut f now new cut before w h =
          let v = routine-done before w h in
          let u = output_by m.params (fired_in b store page) w in
          subst (λ p. IsCutShort f now new before (next_goal p page.penalty u)) keeps.fields.params (cut before u (v.0, v.1))

      -- all was done
      pub goal-all : (now : MachineView) (new : Lists Node) → KeepsBack l [] mid now middle new → Does (shows_back l mid middle) (shows_back l now new) (next_goal mid.params page.penalty) → Does (shows_boxes b m store) (shows_all l later now new) (served m.params (fired_in b store page))
      goal-all now new y goal before w h =
          let v = routine-done before w h in
          let u = output_by m.params (fired_in b store page) w in
          let g = subst (λ p. shows_back l now new before (next_goal p page.penalty u)) keeps.fields.params (goal before u (v.0, v.1)) in (
            g.0,
            g.1,
            ap (λ (x : Contents). x.boxes) (then-contents page.body l m mid now b later opened middle new keeps y) ∙ v.2 ∙ sym (goal-boxes m.params page.penalty u),
          )

      -- the builder holds what it held, but for its boxes
      module _ (alone : contents_of later middle ≡ record (contents_of b opened) { boxes = (contents_of later middle).boxes }) (now : MachineView) (new : Lists Node) (y : KeepsBack l [] mid now middle new) where
        same : contents_of later new ≡ contents_of later middle
        same = then-contents page.body l m mid now b later opened middle new keeps y

        pub all-contents : contents_of later new ≡ record (contents_of b store) { boxes = (contents_of later new).boxes }
        all-contents =
            same ∙ alone ∙ (λ i. record (opened-contents store opened l fresh e m b page is sound i) { boxes = (sym same i).boxes })

        awaits : NoPage (contents_of later new)
        awaits = subst NoPage (sym all-contents) (record { page = fire.awaits.page; frozen = fire.awaits.frozen })

        known : (contents_of later new).classes ≡ now.classes
        known = ap (λ (x : Contents). x.classes) all-contents ∙ fire.classes ∙ sym (y.fields.classes ∙ keeps.fields.classes)

        pub all-back : KeepsServing page.body l m now b later opened new → CanGoBack l now later new
        all-back z = goes-back l now later new z.builder z.back z.apart awaits known
