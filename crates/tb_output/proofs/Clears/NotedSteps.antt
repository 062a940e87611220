-- A clear of a page with insertions: the page is filled with glue and put out, and a further clear goes back.
use Rattle.std.proofs.Common.{◌≡◌, refl, sym, subst, ◌∙◌, ap, ℕ, ◌+◌, ◌==◌, true, false, List, [], ◌∷◌, ◌++◌, map, length, length-append, Option, IsSome, arith}
use Rattle.std.specs.Prelude.{All}
use Rattle.std.specs.List.{AllByRecursion}
use Rattle.std.proofs.lemmas.Bool.{eqb-true}
use Rattle.std.proofs.lemmas.Int.{ints}
use Rattle.std.proofs.lemmas.List.{map-append}
use Rattle.std.proofs.lemmas.List.Elements.{All-append, All-from_recursion}
use Rattle.std.specs.FinMap.{get}
use Rattle.tb_break.proofs.EachLemmas.{all-front, all-back}
use Rattle.tb_scaled.specs.declared.Glue.{Glue}
use Rattle.tb_scaled.specs.Glue.{filling_glue}
use Rattle.tb_pool.specs.Lists.{Lists, list_at, with_list}
use Rattle.tb_pool.specs.Frame.{IsNoneOf}
use Rattle.tb_pool.proofs.FrameLemmas.{none-front, none-back}
use Rattle.tb_node.specs.declared.Kind.TheVariants as kinds
use Rattle.tb_node.specs.declared.Node.{Node}
use Rattle.tb_node.specs.PlainNodes.{PlainNode, plain_of, made, skip, plain_list}
use Rattle.tb_node.specs.Fit.{IsSizedNode}
use Rattle.tb_param.specs.declared.Params.{Params}
use Rattle.tb_column.specs.declared.NoteBox.{NoteBox}
use Rattle.tb_builder.specs.Ownership.{inner_ids}
use Rattle.tb_sheet.specs.Sheet.{PlainSent}
use Rattle.tb_column.specs.Column.{standing_notes}
use Rattle.tb_column.specs.FloatColumns.{made_node}
use Rattle.tb_column.specs.Notes.{AreNotes, notes_shown, note_lists}
use Rattle.tb_column.specs.Page.{AreLeaves, IsPageList}
use Rattle.tb_column.proofs.FloatLemmas.{leaves-append}
use Rattle.tb_output.specs.declared.RunFault.{RunFault}
use Rattle.tb_output.specs.declared.RunFault.TheVariants as faults
use Rattle.tb_output.specs.State.{Work, puts, footnotes}
use Rattle.tb_output.specs.Columns.{emptied_boxes, text_of, without_column_floats, put_out_text}
use Rattle.tb_output.specs.Clear.{clear_again, clear_floats, without_notes, clear_by, clear}
use Rattle.tb_output.specs.Notes.{standing_boxes}
use Rattle.tb_output.proofs.ColumnPages.StandingBoxes.{shown-standing}
use Rattle.tb_output.specs.BackList.{clear_list}
use Rattle.tb_output.specs.FiringParts.{clear_noted}
use Rattle.tb_output.specs.Machine.{MachineView, machine_lists, IsMachine}
use Rattle.tb_output.specs.FiringWork.{shows, shows_back, shows_notes, shows_page, IsCutShort, Does}
use Rattle.tb_sheet.specs.ApartLists.{AreNoneOf}
use Rattle.tb_output.specs.MachineFrame.{AreTextLists, HasGrown, IsBack, back_lists, KeepsMachine, KeepsBack}
use Rattle.tb_sheet.proofs.ListsApart.{apart-back, apart-swap}
use Rattle.tb_sheet.proofs.StandLemmas.{Stands, leaves-shown, list-same, list-stands, nodes-stand}
use Rattle.tb_output.proofs.FiringWork.StandLemmas.{notes-same, count-same, notes-stay, IsShownBy, stands-shown, lists-shown}
use Rattle.tb_output.proofs.FiringWork.KeepLemmas.{fields-same, keeps-then, keeps-more, keeps-beside, beside-shows, keeps-back_same, keeps-back_then}
use Rattle.tb_output.proofs.InText.PushLemmas.{pushed-first, grown-of}
use Rattle.tb_output.proofs.FiringWork.WorkingLemmas.{Fact, does-then, shows-moved, cut-then, no-memory_given}
use Rattle.tb_output.proofs.StepLaws.WorkSteps.{continues-then, continues-puts, continues-put_out_text}
use Rattle.tb_output.proofs.StepLaws.ColumnSteps.{no_law, stays, put_out-step}
use Rattle.tb_output.proofs.FiringWork.StepLemmas.{Done, Cut, no-room}
use Rattle.tb_output.proofs.Clears.ClearSteps.{clear-done}

-- the lists of insertions that are as they were
notes-stand : (store new : Lists Node) (body : ℕ) (ns : List NoteBox) → AllByRecursion (Stands store new) (note_lists ns) → AreNotes store body ns → AreNotes new body ns
notes-stand store new body ns h k = record { rising = k.rising; apart = k.apart; each = notes-stay store new ns h k.each }

-- a page that is put out puts nothing back
pub put_out_text-stays : (p : Params) (body : List PlainNode) (w : Work) → (put_out_text p body w).put_back ≡ w.put_back
put_out_text-stays p body w = (stays (put_out-step p (no_law p) (text_of p w.state body) (without_column_floats w))).put_back

-- ---- the page is filled

-- the glue at its end
abbrev pub filling : List Node
filling = made_node (kinds.Skip filling_glue) ∷ []

pub filled-of : (store mid middle : Lists Node) (body : ℕ) (g : Glue) → mid.lists ≡ store.lists → g ≡ filling_glue → middle.lists ≡ with_list mid body (list_at mid body ++ made_node (kinds.Skip g) ∷ []) → HasGrown body filling [] store middle
filled-of store mid middle body g same e put =
    grown-of store middle body filling []
    (pushed-first store mid middle body filling same (put ∙ ap (λ (x : Glue). with_list mid body (list_at mid body ++ made_node (kinds.Skip x) ∷ [])) e))

filling-sized : All IsSizedNode filling
filling-sized = All-from_recursion IsSizedNode filling ((record { low = omega (arith, ints); high = omega (arith, ints) }, record { low = omega (arith, ints); high = omega (arith, ints) }, record { low = omega (arith, ints); high = omega (arith, ints) }), tt)

module _ (l body : ℕ) (notes : List NoteBox) (m : MachineView) (store : Lists Node) (is : IsMachine m store) (back : IsBack l m store) (lists : AreTextLists 8355839 (back_lists store l ++ machine_lists m) store body notes) where
  abbrev mine : List ℕ
  mine = body ∷ note_lists notes

  away : AreNoneOf (back_lists store l) mine
  away = all-front (λ q. IsNoneOf q mine) (back_lists store l) (machine_lists m) (apart-swap mine (back_lists store l ++ machine_lists m) lists.apart)

  -- there was no memory for the glue
  module _ (now : MachineView) (new : Lists Node) (unchanged : now ≡ m) (same : new.lists ≡ store.lists) where
    pub unfilled-cut : Does (shows_page l notes m store) (IsCutShort faults.Memory now new) (clear_noted m.params (plain_list store body))
    unfilled-cut = subst (λ x. Does (shows_page l notes m store) (IsCutShort faults.Memory x new) (clear_noted m.params (plain_list store body))) (sym unchanged)
        (no-memory_given (shows_page l notes m store) m m store new (clear_noted m.params (plain_list store body)) (λ b w h. h.0) (lists-shown m store new is same).events
        (λ w. continues-then (continues-put_out_text m.params (plain_list store body ++ made (skip filling_glue) ∷ []) w) (continues-puts clear_again _)))

    pub unfilled-keeps : KeepsBack l mine m now store new
    unfilled-keeps = subst (λ x. KeepsBack l mine m x store new) (sym unchanged) (keeps-back_same l mine m store new is back same away)

  module _ (middle : Lists Node) (grown : HasGrown body filling [] store middle) where
    stand-but : (ls : List ℕ) → IsNoneOf body ls → AllByRecursion (Stands store middle) ls
    stand-but [] h = tt
    stand-but (q ∷ ls) h = (grown.others q h.0 tt, stand-but ls h.1)

    own-stand : AllByRecursion (Stands store middle) (machine_lists m)
    own-stand = stand-but (machine_lists m) (none-back body (back_lists store l) (machine_lists m) lists.apart.0)

    note-stand : AllByRecursion (Stands store middle) (note_lists notes)
    note-stand = stand-but (note_lists notes) lists.notes.apart.0

    filled-shown : IsShownBy m store middle
    filled-shown = stands-shown m store middle is own-stand

    filled-list : list_at middle body ≡ list_at store body ++ filling
    filled-list = rw grown.list refl

    filled-nodes : plain_list middle body ≡ plain_list store body ++ made (skip filling_glue) ∷ []
    filled-nodes =
        ap (map (plain_of (list_at middle))) filled-list
        ∙ map-append (plain_of (list_at middle)) (list_at store body) filling
        ∙ ap (λ ns. ns ++ made (skip filling_glue) ∷ []) (leaves-shown (list_at middle) (list_at store) (list_at store body) lists.text.leaves)

    filled-few : length (list_at middle body) ≡ length (list_at store body) + 1
    filled-few = ap length filled-list ∙ length-append (list_at store body) filling

    filled-page : IsPageList middle body
    filled-page = record {
      live = subst (λ (o : Option (List Node)). IsSome o) (sym grown.list) refl;
      leaves = subst AreLeaves (sym filled-list) (leaves-append (list_at store body) filling lists.text.leaves (tt, tt));
      sized = subst (All IsSizedNode) (sym filled-list) (All-append IsSizedNode (list_at store body) filling lists.text.sized filling-sized);
      few = omega (arith, filled-few, lists.few);
    }

    -- it may be put out
    pub filled-lists : AreTextLists 8355840 (machine_lists m) middle body notes
    filled-lists = record {
      text = filled-page;
      notes = notes-stand store middle body notes note-stand lists.notes;
      few = omega (arith, filled-few, count-same store middle notes note-stand, lists.few);
      apart = apart-back mine (back_lists store l) (machine_lists m) lists.apart;
    }

    pub filled-machine : IsMachine m middle
    filled-machine = filled-shown.machine

    filled-keeps : KeepsMachine (body ∷ []) m m store middle
    filled-keeps = record {
      machine = filled-shown.machine;
      frame = λ q live none. (grown.others q (λ e. none.0 (sym e)) tt, none.1);
      fields = fields-same m;
    }

    -- and is put out
    module _ (now : MachineView) (new : Lists Node) (k : KeepsMachine mine m now middle new) where
      whole : KeepsMachine mine m now store new
      whole = keeps-then mine mine m m now store middle new (keeps-more (body ∷ []) mine m m store middle filled-keeps (λ q none. (none.0, tt))) k (λ q live none. none)

      pub out-keeps : KeepsBack l mine m now store new
      out-keeps = keeps-beside mine m now store new l back whole away

      abbrev out_step : Work → Work
      out_step w = put_out_text m.params (plain_list store body ++ made (skip filling_glue) ∷ []) w

      filled-does : (to : Fact) → Does (shows_notes notes m middle) to (put_out_text m.params (plain_list middle body)) → Does (shows_page l notes m store) to out_step
      filled-does to does before w h = subst (λ ns. to before (put_out_text m.params ns w)) filled-nodes
          (does before w (shows-moved m m store middle before w filled-shown.events (filled-shown.state w.state.boxes w.state.waiting) h.0, h.2 ∙ sym (notes-same store middle notes note-stand)))

      pub out-cut : (e : RunFault) → Does (shows_notes notes m middle) (IsCutShort e now new) (put_out_text m.params (plain_list middle body)) → Does (shows_page l notes m store) (IsCutShort e now new) (clear_noted m.params (plain_list store body))
      out-cut e does = cut-then (shows_page l notes m store) e now new out_step (puts clear_again) (filled-does (IsCutShort e now new) does) (λ w. continues-puts clear_again w)

      module _ (does : Does (shows_notes notes m middle) (shows now new) (put_out_text m.params (plain_list middle body))) where
        out-does : Does (shows_page l notes m store) (shows_back l now new) out_step
        out-does before w h = (
          filled-does (shows now new) does before w h,
          beside-shows mine m now store new l back whole away ∙ h.1 ∙ sym (put_out_text-stays m.params (plain_list store body ++ made (skip filling_glue) ∷ []) w),
        )

        -- there was no memory for the further clear
        module _ (last : Lists Node) (same : last.lists ≡ new.lists) where
          unput : Cut faults.Memory l now now new last (puts clear_again)
          unput = no-room l now now new last (puts clear_again) whole.machine out-keeps.back refl same (continues-puts clear_again)

          pub unput-cut : Does (shows_page l notes m store) (IsCutShort faults.Memory now last) (clear_noted m.params (plain_list store body))
          unput-cut = does-then (shows_page l notes m store) (shows_back l now new) (IsCutShort faults.Memory now last) out_step (puts clear_again) out-does unput.does

          pub unput-keeps : KeepsBack l mine m now store last
          unput-keeps = keeps-back_then l mine [] m now now store new last out-keeps unput.keeps (λ q live none. tt)

        -- it went back
        module _ (last : Lists Node) (more : HasGrown l clear_list [] new last) where
          again : Done l now now new last (puts clear_again)
          again = clear-done l now new last whole.machine out-keeps.back more

          pub noted-done : Does (shows_page l notes m store) (shows_back l now last) (clear_noted m.params (plain_list store body))
          noted-done = does-then (shows_page l notes m store) (shows_back l now new) (shows_back l now last) out_step (puts clear_again) out-does again.does

          pub noted-keeps : KeepsBack l mine m now store last
          noted-keeps = keeps-back_then l mine [] m now now store new last out-keeps again.keeps (λ q live none. tt)

-- ---- the lists of the insertions are dropped

module _ (l body : ℕ) (notes : List NoteBox) (m : MachineView) (store new : Lists Node) (is : IsMachine m store) (back : IsBack l m store) (lists : AreTextLists 8355839 (back_lists store l ++ machine_lists m) store body notes)
    (dropped : (q : ℕ) → IsNoneOf q (note_lists notes) → get new.lists q ≡ get store.lists q) where
  abbrev ours : List ℕ
  ours = body ∷ note_lists notes

  stand-beside : (ls : List ℕ) → AreNoneOf ls ours → AllByRecursion (Stands store new) ls
  stand-beside [] none = tt
  stand-beside (q ∷ ls) none = (dropped q none.0.1, stand-beside ls none.1)

  beside-ours : AreNoneOf (back_lists store l ++ machine_lists m) ours
  beside-ours = apart-swap ours (back_lists store l ++ machine_lists m) lists.apart

  back-away : AreNoneOf (back_lists store l) ours
  back-away = all-front (λ q. IsNoneOf q ours) (back_lists store l) (machine_lists m) beside-ours

  dropped-shown : IsShownBy m store new
  dropped-shown = stands-shown m store new is (stand-beside (machine_lists m) (all-back (λ q. IsNoneOf q ours) (back_lists store l) (machine_lists m) beside-ours))

  dropped-keeps : KeepsMachine ours m m store new
  dropped-keeps = record {
    machine = dropped-shown.machine;
    frame = λ q live none. (dropped q (none-front q (note_lists notes) (machine_lists m) none.1), none-back q (note_lists notes) (machine_lists m) none.1);
    fields = fields-same m;
  }

  dropped-whole : KeepsBack l ours m m store new
  dropped-whole = keeps-beside ours m m store new l back dropped-keeps back-away

  body-stands : Stands store new body
  body-stands = dropped body lists.notes.apart.0

  pub dropped-machine : IsMachine m new
  dropped-machine = dropped-shown.machine

  pub dropped-back : IsBack l m new
  dropped-back = dropped-whole.back

  dropped-lists-of : back_lists new l ≡ back_lists store l
  dropped-lists-of = ap (λ (ns : List Node). l ∷ inner_ids ns) (list-same store new l (dropped l back-away.0.1))

  pub dropped-lists : AreTextLists 8355839 (back_lists new l ++ machine_lists m) new body []
  dropped-lists = record {
    text = list-stands store new body body-stands lists.text;
    notes = record { rising = tt; apart = (tt, tt); each = tt };
    few = let few = lists.few in let same = ap length (list-same store new body body-stands) in omega (arith, few, same);
    apart = subst (λ ls. AreNoneOf (body ∷ []) (ls ++ machine_lists m)) (sym dropped-lists-of) (lists.apart.0, tt);
  }

  dropped-does : Does (shows_page l notes m store) (shows_back l m new) without_notes
  dropped-does before w h = (
    record {
      served = h.0.served;
      sent = dropped-shown.events ∙ h.0.sent;
      state = dropped-shown.state (emptied_boxes w.state.boxes) w.state.waiting ∙ (λ i. record (h.0.state i) { boxes = emptied_boxes w.state.boxes });
    },
    beside-shows ours m m store new l back dropped-keeps back-away ∙ h.1,
  )

  -- without insertions that stand on a page the floats are cleared
  module _ (none : standing_boxes notes ≡ []) (to : Fact) where
    pub noteless-clear : Does (shows_back l m new) to (clear_floats m.params (plain_list new body)) → Does (shows_page l notes m store) to (clear m.params (plain_list store body))
    noteless-clear does before w h =
        let standing : standing_notes (footnotes w.state) ≡ [] = ap standing_notes h.2 ∙ sym (shown-standing store notes) ∙ ap (notes_shown store) none in
        subst (λ v. to before v) (ap (λ ns. clear_floats m.params ns (without_notes w)) (nodes-stand store new body body-stands lists.text.leaves) ∙ ap (λ ns. clear_by m.params (plain_list store body) w ns) (sym standing))
        (does before (without_notes w) (dropped-does before w h))

  pub noteless-keeps : (now : MachineView) (last : Lists Node) → KeepsBack l (body ∷ []) m now new last → KeepsBack l ours m now store last
  noteless-keeps now last k = keeps-back_then l ours (body ∷ []) m m now store new last dropped-whole k (λ q live none. (none.0, tt))

-- ---- with and without insertions

pub no-notes : (ns : List NoteBox) → (length ns == 0) ≡ true → ns ≡ []
no-notes [] h = refl
no-notes (n ∷ ns) h = let e = eqb-true (length (n ∷ ns)) 0 h in absurd (omega (arith, e))

pub some-notes : (ns : List NoteBox) → (length ns == 0) ≡ false → ns ≡ [] → ⊥
some-notes [] h e = cc
some-notes (n ∷ ns) h e = cc

module _ (l body : ℕ) (m : MachineView) (store : Lists Node) (to : Fact) where
  abbrev page_nodes : List PlainNode
  page_nodes = plain_list store body

  -- a list that is not empty
  by-notes : (before : List PlainSent) (w : Work) (ns : List NoteBox) → (ns ≡ [] → ⊥) → to before (clear_noted m.params page_nodes w) → to before (clear_by m.params page_nodes w (notes_shown store ns))
  by-notes before w [] some done = absurd (some refl)
  by-notes before w (n ∷ ns) some done = done

  pub noted-clear : (notes : List NoteBox) → (standing_boxes notes ≡ [] → ⊥) → Does (shows_page l notes m store) to (clear_noted m.params page_nodes) → Does (shows_page l notes m store) to (clear m.params page_nodes)
  noted-clear notes some does before w h =
      let standing : notes_shown store (standing_boxes notes) ≡ standing_notes (footnotes w.state) = shown-standing store notes ∙ ap standing_notes (sym h.2) in
      subst (λ ms. to before (clear_by m.params page_nodes w ms)) standing (by-notes before w (standing_boxes notes) some (does before w h))
