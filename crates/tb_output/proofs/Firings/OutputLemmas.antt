-- A page is held, or its insertions are taken and it is put out, with the list that goes back.
use Rattle.std.proofs.Common.{◌≡◌, ◌≢◌, refl, sym, subst, ◌∙◌, ap, ℕ, ◌+◌, ◌≤◌, true, List, [], ◌∷◌, ◌++◌, length}
use Rattle.std.specs.Prelude.{◌<ℤ◌}
use Rattle.tb_pool.specs.Lists.{Lists, list_at}
use Rattle.tb_pool.specs.Frame.{IsNoneOf, OnlyChanged}
use Rattle.tb_node.specs.declared.Node.{Node}
use Rattle.tb_node.specs.PlainNodes.{plain_list}
use Rattle.tb_builder.specs.declared.Builder.{Builder}
use Rattle.tb_builder.specs.declared.Page.{Page}
use Rattle.tb_builder.specs.FiredPages.{Boxed}
use Rattle.tb_builder.specs.Contents.{Contents, contents_of}
use Rattle.tb_builder.specs.Ownership.{inner_ids}
use Rattle.tb_builder.specs.Courses.{IsSound}
use Rattle.tb_column.specs.declared.NoteBox.{NoteBox}
use Rattle.tb_column.specs.Notes.{note_lists, note_count}
use Rattle.tb_output.specs.declared.RunFault.{RunFault}
use Rattle.tb_output.specs.declared.RunFault.TheVariants as faults
use Rattle.tb_sheet.specs.Asked.{hold_penalty}
use Rattle.tb_output.specs.Output.{is_int, hold, output_by}
use Rattle.tb_output.specs.Machine.{MachineView, machine_lists, IsMachine}
use Rattle.tb_output.specs.FiringWork.{shows, shows_back, shows_page, shows_all, IsCutShort, Does}
use Rattle.tb_sheet.specs.ApartLists.{AreNoneOf}
use Rattle.tb_output.specs.MachineFrame.{AreTextLists, IsBack, back_lists, KeepsMachine, KeepsBack}
use Rattle.tb_builder.specs.BuilderLists.{builder_lists}
use Rattle.tb_output.specs.Firing.{fired_in, CanFire, KeepsServing}
use Rattle.tb_output.specs.Notes.{NotesTaken}
use Rattle.tb_output.specs.FiringParts.{page_output}
use Rattle.tb_sheet.proofs.StandLemmas.{list-same}
use Rattle.tb_output.proofs.FiringWork.StandLemmas.{machine-live, frame-stands, IsShownBy}
use Rattle.tb_sheet.proofs.ListsApart.{apart-none, apart-swap}
use Rattle.tb_output.proofs.FiringWork.KeepLemmas.{back-live, beside-shows, keeps-beside, keeps-back_same}
use Rattle.tb_output.proofs.FiringWork.WorkingLemmas.{no-memory_given}
use Rattle.tb_output.proofs.StepLaws.WorkSteps.{continues-output_by}
use Rattle.tb_output.proofs.Firings.TakenLists.{text-new, body-shows, text-free, text-few, text-lists}
use Rattle.tb_output.proofs.Firings.ServingLemmas.{taken-machine, taken-lists, taken-list, taken-shows, taken-back, served-contents, served-keeps}
use Rattle.tb_output.proofs.Firings.ServedWork.{output-done, output-cut, held-output}

-- of what a builder holds the boxes alone changed
boxes-alone : (x c : Contents) (bs : List Boxed) → x ≡ record c { boxes = bs } → x ≡ record c { boxes = x.boxes }
boxes-alone x c bs e = e ∙ (λ i. record c { boxes = (sym e i).boxes })

module _ (m : MachineView) (b : Builder) (store : Lists Node) (l : ℕ) (page : Page) (is : IsMachine m store) (sound : IsSound b store) (fire : CanFire m b store page)
    (back : IsBack l m store) (empty : list_at store l ≡ []) (differ : page.body ≢ l) (free : IsNoneOf l (builder_lists b store)) where
  own-lists : back_lists store l ≡ l ∷ []
  own-lists = ap (λ ns. l ∷ inner_ids ns) empty

  back-free : AreNoneOf (back_lists store l) (builder_lists b store)
  back-free = subst (λ ls. AreNoneOf ls (builder_lists b store)) (sym own-lists) (free, tt)

  body-back : IsNoneOf page.body (back_lists store l)
  body-back = subst (IsNoneOf page.body) (sym own-lists) ((λ e. differ (sym e)), tt)

  -- ---- the page is held

  module _ (now : MachineView) (new : Lists Node) (keeps : KeepsMachine (page.body ∷ []) m now store new) where
    back-apart : AreNoneOf (back_lists store l) (page.body ∷ [])
    back-apart = apart-swap (page.body ∷ []) (back_lists store l) (body-back, tt)

    held-back : KeepsBack l (page.body ∷ []) m now store new
    held-back = keeps-beside (page.body ∷ []) m now store new l back keeps back-apart

    held-contents : contents_of b new ≡ contents_of b store
    held-contents =
        served-contents m b b store store l is back sound (λ q live none. (refl, none)) fire.machine_free back-free now new (page.body ∷ []) page.body held-back (fire.body_free, tt)
        (λ q live none other. ((λ e. other (sym e)), tt))

    pub held-alone : contents_of b new ≡ record (contents_of b store) { boxes = (contents_of b new).boxes }
    held-alone = boxes-alone (contents_of b new) (contents_of b store) (contents_of b store).boxes held-contents

    pub held-serving : KeepsServing page.body l m now b b store new
    held-serving =
        served-keeps m b b store store l is back sound (λ q live none. (refl, none)) fire.machine_free back-free now new (page.body ∷ []) page.body held-back (fire.body_free, tt)
        (λ q live none other. ((λ e. other (sym e)), tt))

    pub held-all : is_int page.penalty hold_penalty ≡ true → Does (shows m store) (shows now new) (hold (plain_list store page.body)) → Does (shows_all l b m store) (shows_all l b now new) (output_by m.params (fired_in b store page))
    held-all e done = held-output m.params (fired_in b store page) l b m now store new e (beside-shows (page.body ∷ []) m now store new l back keeps back-apart) held-contents done

  -- ---- the insertions are taken

  module _ (later : Builder) (middle : Lists Node) (after : IsSound later middle) (frame : OnlyChanged (builder_lists b store) (builder_lists later middle) store middle) where
    pub middle-shown : IsShownBy m store middle
    middle-shown = taken-machine m b later store middle l is back after frame fire.machine_free back-free

    pub middle-back : IsBack l m middle
    middle-back = taken-back m b later store middle l is back after frame fire.machine_free back-free

    pub middle-empty : list_at middle l ≡ []
    middle-empty = taken-list m b later store middle l is back after frame fire.machine_free back-free ∙ empty

    -- there was no memory for them
    pub untaken-cut : Does (shows_all l b m store) (IsCutShort faults.Memory m middle) (output_by m.params (fired_in b store page))
    untaken-cut = no-memory_given (shows_all l b m store) m m store middle (output_by m.params (fired_in b store page)) (λ before w h. h.0) middle-shown.events (continues-output_by m.params (fired_in b store page))

    pub untaken-serving : KeepsServing page.body l m m b later store middle
    untaken-serving =
        served-keeps m b later store middle l is back after frame fire.machine_free back-free m middle [] page.body
        (keeps-back_same l [] m middle middle middle-shown.machine middle-back refl (apart-none (back_lists middle l))) tt (λ q live none other. tt)

    module _ (notes : List NoteBox) (taken : NotesTaken m.classes notes b later store middle) where
      held-same : list_at middle m.held_page ≡ list_at store m.held_page
      held-same = list-same store middle m.held_page (frame-stands (builder_lists b store) (builder_lists later middle) store middle frame (machine_lists m) (machine-live m store is) fire.machine_free).0

      pub page-few : length (list_at middle page.body) + length (list_at middle m.held_page) + note_count middle notes ≤ 8355839
      page-few =
          text-few m b later store middle l page.body notes is fire.body frame fire.body_free taken (back-live l m store back)
          (taken-lists m b later store middle l is back after frame fire.machine_free back-free) body-back fire.body_apart back-free fire.machine_free fire.few held-same

      pub page-lists : AreTextLists 8355839 (back_lists middle l ++ machine_lists m) middle page.body notes
      page-lists =
          text-lists m b later store middle l page.body notes is fire.body frame fire.body_free taken (back-live l m store back)
          (taken-lists m b later store middle l is back after frame fire.machine_free back-free) body-back fire.body_apart back-free fire.machine_free fire.few held-same

      -- ---- the page is put out

      page-same : plain_list middle page.body ≡ plain_list store page.body
      page-same = body-shows m b later store middle l page.body notes is fire.body frame fire.body_free taken

      back-same : plain_list middle l ≡ plain_list store l
      back-same = taken-shows m b later store middle l is back after frame fire.machine_free back-free

      module _ (now : MachineView) (new : Lists Node) (keeps : KeepsBack l (page.body ∷ note_lists notes) m now middle new) where
        later-same : contents_of later new ≡ contents_of later middle
        later-same =
            served-contents m b later store middle l is back after frame fire.machine_free back-free now new (page.body ∷ note_lists notes) page.body keeps
            (text-free m b later store middle l page.body notes is fire.body frame fire.body_free taken) (text-new b store page.body notes taken.own.fresh)

        pub page-serving : KeepsServing page.body l m now b later store new
        page-serving =
            served-keeps m b later store middle l is back after frame fire.machine_free back-free now new (page.body ∷ note_lists notes) page.body keeps
            (text-free m b later store middle l page.body notes is fire.body frame fire.body_free taken) (text-new b store page.body notes taken.own.fresh)

        pub page-contents : contents_of later new ≡ record (contents_of b store) { boxes = (contents_of later new).boxes }
        page-contents = boxes-alone (contents_of later new) (contents_of b store) _ (later-same ∙ taken.contents)

        pub page-all : hold_penalty <ℤ page.penalty → Does (shows_page l notes m middle) (shows_back l now new) (page_output m.params page.penalty (plain_list middle page.body)) → Does (shows_all l b m store) (shows_all l later now new) (output_by m.params (fired_in b store page))
        page-all above done =
            output-done m now b later store middle new l notes (fired_in b store page) middle-shown back-same is.classes fire.classes taken above later-same
            (subst (λ ns. Does (shows_page l notes m middle) (shows_back l now new) (page_output m.params page.penalty ns)) page-same done)

        pub page-cut : (e : RunFault) → hold_penalty <ℤ page.penalty → Does (shows_page l notes m middle) (IsCutShort e now new) (page_output m.params page.penalty (plain_list middle page.body)) → Does (shows_all l b m store) (IsCutShort e now new) (output_by m.params (fired_in b store page))
        page-cut e above done =
            output-cut m now b later store middle new l notes (fired_in b store page) middle-shown back-same is.classes fire.classes taken above e
            (subst (λ ns. Does (shows_page l notes m middle) (IsCutShort e now new) (page_output m.params page.penalty ns)) page-same done)
