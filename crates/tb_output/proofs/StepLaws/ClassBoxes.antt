-- What a firing does to the class boxes: those of a page that is held stay as they are, and all others are void afterwards.
use Rattle.std.proofs.Common.{◌≡◌, refl, sym, ◌∙◌, ap, ℕ, suc, Bool, true, false, List, [], ◌∷◌, ◌++◌, length, Option, Some, None, arith}
use Rattle.std.specs.Prelude.{ℤ, ◌==◌, ◌<◌, not, ◌||◌, ◌<ℤ◌, int_le, if◌then◌else◌}
use Rattle.std.proofs.lemmas.Int.{ints}
use Rattle.std.proofs.lemmas.Bool.Decides.{nat_tests}
use Rattle.tb_scaled.specs.Scaled.{eject_penalty, max_dimen}
use Rattle.tb_scaled.specs.Glue.{filling_glue}
use Rattle.tb_node.specs.declared.Float.{Float}
use Rattle.tb_node.specs.declared.Margin.{Margin}
use Rattle.tb_node.specs.declared.Where.{Where}
use Rattle.tb_node.specs.declared.Where.TheVariants as places
use Rattle.tb_node.specs.PlainNodes.{Leaf, PlainNode, made, skip, blank_box}
use Rattle.tb_param.specs.declared.Params.{Params}
use Rattle.tb_insert.specs.declared.Class.{Class}
use Rattle.tb_builder.specs.FiredPages.{Boxed, Fired, box_content}
use Rattle.tb_builder.specs.SizedContents.{AreBoxesOf}
use Rattle.tb_float.specs.declared.Entry.{Entry}
use Rattle.tb_float.specs.declared.Entry.TheVariants as entries
use Rattle.tb_float.specs.Lists.{FloatLists}
use Rattle.tb_float.specs.Rooms.{column_room_of}
use Rattle.tb_margin.specs.declared.Placed.{Placed}
use Rattle.tb_margin.specs.Margin.{placed_note}
use Rattle.tb_column.specs.Column.{Notes, standing_notes}
use Rattle.tb_sheet.specs.Sheet.{warned}
use Rattle.tb_sheet.specs.declared.Warn.TheVariants as warnings
use Rattle.tb_output.specs.State.{Work, puts, sends, with_floats, footnotes, notes_in, with_notes, has_floats}
use Rattle.tb_output.specs.FloatMoves
use Rattle.tb_output.specs.Pages
use Rattle.tb_output.specs.Columns
use Rattle.tb_output.specs.Text
use Rattle.tb_output.specs.Clear
use Rattle.tb_output.specs.Output
use Rattle.tb_sheet.specs.Asked
use Rattle.tb_output.specs.Machine.{AreClassesFrom}
use Rattle.tb_output.specs.FiringParts.{page_output}
use Rattle.tb_output.proofs.StepLaws.ColumnSteps.{no_law, stays, sends-stays, put_out-step, float_columns-step, all_wide_pages-step, place_next-step, place_float-step}
use Rattle.tb_output.proofs.StepLaws.FiringSteps.{defer-stays}
use Rattle.tb_output.proofs.Firings.GoalLemmas.{int-is}

-- ---- the steps leave the boxes

boxes_if : (t : Bool) (a b w : Work) → a.state.boxes ≡ w.state.boxes → b.state.boxes ≡ w.state.boxes → (if t then a else b).state.boxes ≡ w.state.boxes
boxes_if true a b w x y = x
boxes_if false a b w x y = y

module _ (p : Params) where
  put_out_text-boxes : (body : List PlainNode) (w : Work) → (Columns.put_out_text p body w).state.boxes ≡ Columns.emptied_boxes w.state.boxes
  put_out_text-boxes body w = (stays (put_out-step p (no_law p) (Columns.text_of p w.state body) (Columns.without_column_floats w))).boxes

  float_columns-boxes : (clearing : Bool) (w : Work) → (Columns.all_float_columns p clearing w).state.boxes ≡ w.state.boxes
  float_columns-boxes clearing w = (stays (float_columns-step p (no_law p) clearing (length w.state.floats.deferred) w)).boxes

  ordinary-boxes : (body : List PlainNode) (w : Work) → (Columns.ordinary p body w).state.boxes ≡ Columns.emptied_boxes w.state.boxes
  ordinary-boxes body w =
      let a = Columns.put_out_text p body w in
      let b = Columns.all_float_columns p false a in
      (stays (place_next-step p (no_law p) [] b.state.floats.deferred b)).boxes ∙ float_columns-boxes false a ∙ put_out_text-boxes body w

  clear_wide-boxes : (w : Work) → (Clear.clear_wide p w).state.boxes ≡ w.state.boxes
  clear_wide-boxes w = by_number w.state.two_columns
    where
      a : Work
      a = with_floats (Clear.double_again p w.state.floats) w

      by_number : (t : Bool) → (if not t then w else (if w.state.first_column then Pages.all_wide_pages p true a else puts (made blank_box ∷ Clear.clear_again) w)).state.boxes ≡ w.state.boxes
      by_number false = refl
      by_number true = boxes_if w.state.first_column (Pages.all_wide_pages p true a) (puts (made blank_box ∷ Clear.clear_again) w) w (stays (all_wide_pages-step p (no_law p) true a)).boxes refl

  clear_floats-boxes : (body : List PlainNode) (w : Work) → (Clear.clear_floats p body w).state.boxes ≡ w.state.boxes
  clear_floats-boxes body w =
      let a = with_floats (Clear.deferred_again w.state.floats) (puts (Clear.cleared_front p body) w) in
      let b = Columns.all_float_columns p true a in
      let c = Clear.clear_wide p b in
      boxes_if (has_floats c.state.floats.deferred || has_floats c.state.floats.second) (puts Clear.clear_again c) c c refl refl ∙ clear_wide-boxes b ∙ float_columns-boxes true a

  clear_by-boxes : (body : List PlainNode) (w : Work) (notes : List Notes) → (Clear.clear_by p body w notes).state.boxes ≡ Columns.emptied_boxes w.state.boxes
  clear_by-boxes body w [] = clear_floats-boxes body (Clear.without_notes w)
  clear_by-boxes body w (n ∷ notes) = put_out_text-boxes (body ++ made (skip filling_glue) ∷ []) w

  -- ---- floats and notes in the text

  place_float-boxes : (place : Where) (f : Float) (left : FloatLists) (w : Work) → (FloatMoves.place_float p place f left w).state.boxes ≡ w.state.boxes
  place_float-boxes place f left w = (stays (place_float-step p (no_law p) place f left w tt)).boxes

  float_goes-boxes : (vert : Bool) (f : Float) (left : FloatLists) (w : Work) (place : Where) → (Text.float_goes p vert f left w place).state.boxes ≡ w.state.boxes
  float_goes-boxes vert f left w places.Page = (defer-stays p f left w).boxes
  float_goes-boxes vert f left w places.Double = (defer-stays p f left w).boxes
  float_goes-boxes vert f left w places.Deferred = (defer-stays p f left w).boxes
  float_goes-boxes vert f left w place = place_float-boxes place f left w

  note_goes-boxes : (depth : ℤ) (m : Margin) (left : FloatLists) (w : Work) (at : Placed) → (Text.note_goes p depth m left w at).state.boxes ≡ w.state.boxes
  note_goes-boxes depth m left w at =
      let a = Text.with_note_bottom at.bottom (with_floats left w) in
      boxes_if at.moved (sends (warned (warnings.Moved m.name at.shift)) a) a w (sends-stays (warned (warnings.Moved m.name at.shift)) a).boxes refl

  first_goes-boxes : (vert : Bool) (height depth page_height : ℤ) (es : List Entry) (w : Work) → (Text.first_goes p vert height depth page_height es w).state.boxes ≡ w.state.boxes
  first_goes-boxes vert height depth page_height (entries.Float f ∷ es) w = float_goes-boxes vert f _ w _
  first_goes-boxes vert height depth page_height (entries.Left m ∷ []) w = note_goes-boxes depth m _ w (placed_note p w.state.number w.state.two_columns w.state.first_column height w.state.note_bottom m)
  first_goes-boxes vert height depth page_height (entries.Left m ∷ e ∷ es) w = note_goes-boxes depth m _ w (placed_note p w.state.number w.state.two_columns w.state.first_column height w.state.note_bottom m)
  first_goes-boxes vert height depth page_height (entries.Right m ∷ es) w = refl
  first_goes-boxes vert height depth page_height [] w = refl

  float_or_note-boxes : (vert : Bool) (body : List PlainNode) (w : Work) → (Text.float_or_note p vert body w).state.boxes ≡ Columns.emptied_boxes w.state.boxes
  float_or_note-boxes vert body w = first_goes-boxes vert _ _ _ w.state.floats.current (Text.list_back p (w.state.held_page ++ Text.without_firing_box body) w)

  -- ---- a page that is not held

  if-emptied : (t : Bool) (a b w : Work) → a.state.boxes ≡ Columns.emptied_boxes w.state.boxes → b.state.boxes ≡ Columns.emptied_boxes w.state.boxes → (if t then a else b).state.boxes ≡ Columns.emptied_boxes w.state.boxes
  if-emptied true a b w x y = x
  if-emptied false a b w x y = y

  pub page-boxes : (n : ℤ) (body : List PlainNode) (w : Work) → (page_output p n body w).state.boxes ≡ Columns.emptied_boxes w.state.boxes
  page-boxes n body w =
      if-emptied (int_le eject_penalty n) (Columns.ordinary p body w) _ w (ordinary-boxes body w)
      (if-emptied (Output.is_int n Asked.clear_penalty) (Clear.clear p body w) _ w (clear_by-boxes body w (standing_notes (footnotes w.state)))
      (if-emptied (Output.is_int n Asked.par_penalty) (Text.float_or_note p false body w) (Text.float_or_note p true body w) w (float_or_note-boxes false body w) (float_or_note-boxes true body w)))

  -- the penalty says that it is not
  pub page-is : (f : Fired) (w : Work) → Asked.hold_penalty <ℤ f.penalty → page_output p f.penalty f.body w ≡ Output.output_by p f w
  page-is f w above = by_eject (int_le eject_penalty f.penalty) refl
    where
      by_par : (t : Bool) → Output.is_int f.penalty Asked.par_penalty ≡ t → int_le eject_penalty f.penalty ≡ false → Output.is_int f.penalty Asked.clear_penalty ≡ false
          → (if t then Text.float_or_note p false f.body w else Text.float_or_note p true f.body w)
          ≡ (if t then Text.float_or_note p false f.body w else (if Output.is_int f.penalty Asked.vert_penalty then Text.float_or_note p true f.body w else Output.hold f.body w))
      by_par true e low clear = refl
      by_par false e low clear =
          let not_clear : f.penalty ≡ Asked.clear_penalty → ⊥ = λ h. false-true (sym clear ∙ int-is f.penalty Asked.clear_penalty h) in
          let not_par : f.penalty ≡ Asked.par_penalty → ⊥ = λ h. false-true (sym e ∙ int-is f.penalty Asked.par_penalty h) in
          let vert : f.penalty ≡ Asked.vert_penalty = left-over f.penalty above low not_clear not_par in
          ap (λ u. if u then Text.float_or_note p true f.body w else Output.hold f.body w) (sym (int-is f.penalty Asked.vert_penalty vert))
        where
          false-true : false ≡ true → ⊥
          false-true h = cc

          left-over : (n : ℤ) → Asked.hold_penalty <ℤ n → int_le eject_penalty n ≡ false → (n ≡ Asked.clear_penalty → ⊥) → (n ≡ Asked.par_penalty → ⊥) → n ≡ Asked.vert_penalty
          left-over n a l x y = grind (arith, ints, a, l, x, y)

      by_clear : (t : Bool) → Output.is_int f.penalty Asked.clear_penalty ≡ t → int_le eject_penalty f.penalty ≡ false
          → (if t then Clear.clear p f.body w else (if Output.is_int f.penalty Asked.par_penalty then Text.float_or_note p false f.body w else Text.float_or_note p true f.body w))
          ≡ (if t then Clear.clear p f.body w else (if Output.is_int f.penalty Asked.par_penalty then Text.float_or_note p false f.body w else (if Output.is_int f.penalty Asked.vert_penalty then Text.float_or_note p true f.body w else Output.hold f.body w)))
      by_clear true e low = refl
      by_clear false e low = by_par (Output.is_int f.penalty Asked.par_penalty) refl low e

      by_eject : (t : Bool) → int_le eject_penalty f.penalty ≡ t
          → (if t then Columns.ordinary p f.body w else (if Output.is_int f.penalty Asked.clear_penalty then Clear.clear p f.body w else (if Output.is_int f.penalty Asked.par_penalty then Text.float_or_note p false f.body w else Text.float_or_note p true f.body w)))
          ≡ (if t then Columns.ordinary p f.body w else (if Output.is_int f.penalty Asked.clear_penalty then Clear.clear p f.body w else (if Output.is_int f.penalty Asked.par_penalty then Text.float_or_note p false f.body w else (if Output.is_int f.penalty Asked.vert_penalty then Text.float_or_note p true f.body w else Output.hold f.body w))))
      by_eject true e = refl
      by_eject false e = by_clear (Output.is_int f.penalty Asked.clear_penalty) refl e

  -- the goal of the next page
  pub goal-boxes : (n : ℤ) (w : Work) → (Output.next_goal p n w).state.boxes ≡ w.state.boxes
  goal-boxes n w =
      let room = column_room_of p w.state.floats in
      boxes_if (Output.is_int n Asked.hold_penalty) (Output.with_goal max_dimen w) (Output.goal_by p room w) w refl
      (boxes_if (Output.is_crowded p room) (Output.leave_column w) (Output.with_goal room w) w (sends-stays (warned (warnings.Floats w.state.number)) w).boxes refl)

-- ---- boxes that hold nothing

-- a later class has another box
later-content : (k : ℕ) (n : ℕ) (b : Boxed) (bs : List Boxed) → b.number ≡ n → n < k → box_content (b ∷ bs) k ≡ box_content bs k
later-content k n b bs e less = let differ : (b.number == k) ≡ false = grind (arith, nat_tests, e, less) in ap (λ t. if t then b.content else box_content bs k) differ

pub later-notes : (k : ℕ) (cs : List Class) (b : Boxed) (bs : List Boxed) → b.number < k → AreClassesFrom k cs → notes_in cs (b ∷ bs) ≡ notes_in cs bs
later-notes k [] b bs less h = refl
later-notes k (c ∷ cs) b bs less h =
    let first = h.0 in
    let later : b.number < suc c.number = omega arith in
    let own : b.number < c.number = omega arith in
    (λ i. with_notes c (later-content c.number b.number b bs refl own i) (later-notes (suc c.number) cs b bs later h.2 i))

-- what the box of a class holds
pub own-content : (c : Class) (b : Boxed) (bs : List Boxed) → b.number ≡ c.number → box_content (b ∷ bs) c.number ≡ b.content
own-content c b bs e = let same : (b.number == c.number) ≡ true = grind (arith, nat_tests, e) in ap (λ t. if t then b.content else box_content bs c.number) same

-- no insertions were on the page
pub void-boxes : (k : ℕ) (cs : List Class) (bs : List Boxed) → AreClassesFrom k cs → AreBoxesOf cs bs → notes_in cs bs ≡ [] → Columns.emptied_boxes bs ≡ bs
void-boxes k [] [] classes boxes none = refl
void-boxes k [] (b ∷ bs) classes boxes none = absurd boxes
void-boxes k (c ∷ cs) [] classes boxes none = absurd boxes
void-boxes k (c ∷ cs) (b ∷ bs) classes boxes none = λ i. first i ∷ void-boxes (suc c.number) cs bs classes.2 boxes.1 rest i
  where
    by_content : (o : Option (List Leaf)) (ns : List Notes) → with_notes c o ns ≡ [] → (None ≡ o) × (ns ≡ [])
    by_content None ns e = (refl, e)
    by_content (Some inner) ns e = let no : record { class = c.number; below = c.below; skip = c.skip; inner = inner } ∷ ns ≡ [] = e in cc

    split : (None ≡ b.content) × (notes_in cs (b ∷ bs) ≡ [])
    split = by_content b.content (notes_in cs (b ∷ bs)) (sym (ap (λ o. with_notes c o (notes_in cs (b ∷ bs))) (own-content c b bs boxes.0)) ∙ none)

    first : Columns.emptied_box b ≡ b
    first = λ i. record b { content = split.0 i }

    rest : notes_in cs bs ≡ []
    rest = let e = boxes.0 in let less : b.number < suc c.number = omega arith in sym (later-notes (suc c.number) cs b bs less classes.2) ∙ split.1
