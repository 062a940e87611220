-- What a firing is made of: steps of its columns, and changes of what is put back, of the held page, the insertion boxes and the
-- goal.
use Rattle.std.proofs.Common.{◌≡◌, refl, ℕ, ◌+◌, ◌≤◌, Bool, true, false, List, [], ◌∷◌, ◌++◌, length, arith}
use Rattle.std.specs.Prelude.{ℤ, int_le, not, ◌||◌, if◌then◌else◌}
use Rattle.tb_node.specs.declared.Float.{Float}
use Rattle.tb_node.specs.declared.Margin.{Margin}
use Rattle.tb_node.specs.declared.Where.{Where}
use Rattle.tb_node.specs.declared.Where.TheVariants as places
use Rattle.tb_node.specs.PlainNodes.{PlainNode, made, blank_box, skip}
use Rattle.tb_scaled.specs.Glue.{filling_glue}
use Rattle.tb_scaled.specs.Scaled.{eject_penalty, max_dimen}
use Rattle.tb_param.specs.declared.Params.{Params}
use Rattle.tb_builder.specs.FiredPages.{Fired}
use Rattle.tb_float.specs.declared.Entry.{Entry}
use Rattle.tb_float.specs.declared.Entry.TheVariants as entries
use Rattle.tb_float.specs.Lists.{FloatLists}
use Rattle.tb_float.specs.Rooms.{column_height_of, column_room_of}
use Rattle.tb_area.specs.Area.{current_place}
use Rattle.tb_area.proofs.LawLemmas.{current-laws}
use Rattle.tb_margin.specs.declared.Placed.{Placed}
use Rattle.tb_column.specs.Column.{Notes, standing_notes}
use Rattle.tb_sheet.specs.Sheet.{warned}
use Rattle.tb_sheet.specs.declared.Warn.{Warn}
use Rattle.tb_sheet.specs.declared.Warn.TheVariants as warnings
use Rattle.tb_output.specs.State.{State, Work, placed, begun, puts, sends, with_floats, footnotes, has_floats}
use Rattle.tb_output.specs.FloatMoves
use Rattle.tb_output.specs.Pages
use Rattle.tb_output.specs.Columns
use Rattle.tb_output.specs.Text
use Rattle.tb_output.specs.Clear
use Rattle.tb_output.specs.Output
use Rattle.tb_sheet.specs.Asked
use Rattle.tb_output.specs.Firing.{page_work}
use Rattle.tb_output.proofs.StepLaws.ColumnSteps.{RecordLaw, course, ColumnStep, in_turn, sends-frame, Stays, by-frame, place_float-step, place_next-step, all_wide_pages-step, put_out-step, float_columns-step}

-- a step of a firing that warns so often at most: one of its columns, a warning, or a change of something that sending, recording and shipping leave alone
pub data FiringStep (p : Params) (law : RecordLaw p) : ℕ → Work → Work → Type 0 where
  by_columns : {a b : Work} → ColumnStep p law a b → FiringStep p law 0 a b
  warns_one : (e : Warn) (w : Work) → FiringStep p law 1 w (sends (warned e) w)
  changes : {a b : Work} → course b ≡ course a → FiringStep p law 0 a b
  fewer : {j k : ℕ} {a b : Work} → j ≤ k → FiringStep p law j a b → FiringStep p law k a b
  afterwards : {j k : ℕ} {a b c : Work} → FiringStep p law j a b → FiringStep p law k b c → FiringStep p law (j + k) a c

-- a float that is deferred leaves what the steps of a column leave
pub defer-stays : (p : Params) (f : Float) (left : FloatLists) (w : Work) → Stays w (Text.defer p f left w)
defer-stays p f left w = by_places (Text.only_here f)
  where
    a : Work
    a = FloatMoves.place_float p places.Deferred (Text.with_top f) left w

    by_places : (t : Bool) → Stays w (if t then sends (warned (warnings.Ht f.name)) a else FloatMoves.place_float p places.Deferred f left w)
    by_places true = by-frame (sends-frame (warned (warnings.Ht f.name)) a)
    by_places false = by-frame refl

module _ (p : Params) (law : RecordLaw p) where
  abbrev Step : ℕ → Work → Work → Type 0
  Step = FiringStep p law

  step_if : {k : ℕ} (a : Work) (t : Bool) (b c : Work) → Step k a b → Step k a c → Step k a (if t then b else c)
  step_if a true b c x y = x
  step_if a false b c x y = y

  -- two steps without a warning, and one as a step that may warn
  silent : {a b c : Work} → Step 0 a b → Step 0 b c → Step 0 a c
  silent x y = afterwards x y

  quiet : {a b : Work} → Step 0 a b → Step 1 a b
  quiet x = fewer (omega arith) x

  pub put_out_text-step : (body : List PlainNode) (w : Work) → Step 0 w (Columns.put_out_text p body w)
  put_out_text-step body w = silent {b = Columns.without_column_floats w} (changes refl) (by_columns (put_out-step p law _ _))

  pub ordinary-step : (body : List PlainNode) (w : Work) → Step 0 w (Columns.ordinary p body w)
  ordinary-step body w =
      let a = Columns.put_out_text p body w in
      let b = Columns.all_float_columns p false a in
      silent (put_out_text-step body w) (by_columns (in_turn (float_columns-step p law false (length a.state.floats.deferred) a) (place_next-step p law [] b.state.floats.deferred b)))

  -- ---- floats and notes in the text

  interline-step : (nobreak : Bool) (a w : Work) → Step 1 a w → Step 1 a (Text.puts_interline p nobreak w)
  interline-step nobreak a w x = afterwards {j = 1} {k = 0} {b = w} x (changes refl)

  pub defer-step : (f : Float) (left : FloatLists) (w : Work) → Step 1 w (Text.defer p f left w)
  defer-step f left w = by_places (Text.only_here f)
    where
      a : Work
      a = FloatMoves.place_float p places.Deferred (Text.with_top f) left w

      by_places : (t : Bool) → Step 1 w (if t then sends (warned (warnings.Ht f.name)) a else FloatMoves.place_float p places.Deferred f left w)
      by_places true = afterwards {j = 0} {k = 1} {b = a} (changes refl) (warns_one (warnings.Ht f.name) a)
      by_places false = quiet (changes refl)

  pub float_goes-step : (vert : Bool) (f : Float) (left : FloatLists) (w : Work) (place : Where) → law.holds (placed p f place w.state.floats (column_height_of p w.state.floats)) → Step 1 w (Text.float_goes p vert f left w place)
  float_goes-step vert f left w places.Here h =
      let a = FloatMoves.place_float p places.Here f left w in
      afterwards {j = 1} {k = 0} {b = Text.puts_interline p f.nobreak a} (interline-step f.nobreak w a (quiet (by_columns (place_float-step p law places.Here f left w h)))) (changes refl)
  float_goes-step vert f left w places.Top h = interline-step f.nobreak w _ (quiet (by_columns (place_float-step p law places.Top f left w h)))
  float_goes-step vert f left w places.Bottom h = interline-step f.nobreak w _ (quiet (by_columns (place_float-step p law places.Bottom f left w h)))
  float_goes-step vert f left w place h = interline-step f.nobreak w _ (defer-step f left w)

  pub note_goes-step : (depth : ℤ) (m : Margin) (left : FloatLists) (w : Work) (at : Placed) → Step 1 w (Text.note_goes p depth m left w at)
  note_goes-step depth m left w at =
      let a = Text.with_note_bottom at.bottom (with_floats left w) in
      let b = Text.moved_warning m at a in
      afterwards {j = 0} {k = 1} {b = a} (changes refl)
      (afterwards {j = 1} {k = 0} {b = b} (step_if a at.moved (sends (warned (warnings.Moved m.name at.shift)) a) a (warns_one (warnings.Moved m.name at.shift) a) (quiet (changes refl))) (changes refl))

  pub first_goes-step : (vert : Bool) (height depth page_height : ℤ) (es : List Entry) (w : Work) → Step 1 w (Text.first_goes p vert height depth page_height es w)
  first_goes-step vert height depth page_height (entries.Float f ∷ es) w =
      let place = current_place p w.state.floats w.state.suppress page_height f in
      float_goes-step vert f _ w place (law.at_place f place w.state.floats (current-laws p w.state.floats w.state.suppress page_height f).limits)
  first_goes-step vert height depth page_height (entries.Left m ∷ []) w = note_goes-step depth m _ w _
  first_goes-step vert height depth page_height (entries.Left m ∷ e ∷ es) w = note_goes-step depth m _ w _
  first_goes-step vert height depth page_height (entries.Right m ∷ es) w = quiet (changes refl)
  first_goes-step vert height depth page_height [] w = quiet (changes refl)

  pub float_or_note-step : (vert : Bool) (body : List PlainNode) (w : Work) → Step 1 w (Text.float_or_note p vert body w)
  float_or_note-step vert body w =
      afterwards {j = 0} {k = 1} {b = Text.list_back p (w.state.held_page ++ Text.without_firing_box body) w} (changes refl) (first_goes-step vert _ _ _ w.state.floats.current _)

  -- ---- a clear

  pub clear_wide-step : (w : Work) → Step 0 w (Clear.clear_wide p w)
  clear_wide-step w = by_number w.state.two_columns
    where
      a : Work
      a = with_floats (Clear.double_again p w.state.floats) w

      by_number : (t : Bool) → Step 0 w (if not t then w else (if w.state.first_column then Pages.all_wide_pages p true a else puts (made blank_box ∷ Clear.clear_again) w))
      by_number false = changes refl
      by_number true = step_if w w.state.first_column (Pages.all_wide_pages p true a) (puts (made blank_box ∷ Clear.clear_again) w) (silent {b = a} (changes refl) (by_columns (all_wide_pages-step p law true a))) (changes refl)

  pub clear_floats-step : (body : List PlainNode) (w : Work) → Step 0 w (Clear.clear_floats p body w)
  clear_floats-step body w =
      let a = with_floats (Clear.deferred_again w.state.floats) (puts (Clear.cleared_front p body) w) in
      let b = Columns.all_float_columns p true a in
      let c = Clear.clear_wide p b in
      silent {b = a} (changes refl)
      (silent {b = b} (by_columns (float_columns-step p law true (length a.state.floats.deferred) a))
      (silent (clear_wide-step b) (step_if c (has_floats c.state.floats.deferred || has_floats c.state.floats.second) (puts Clear.clear_again c) c (changes refl) (changes refl))))

  pub clear_by-step : (body : List PlainNode) (w : Work) (notes : List Notes) → Step 0 w (Clear.clear_by p body w notes)
  clear_by-step body w [] = silent {b = Clear.without_notes w} (changes refl) (clear_floats-step body (Clear.without_notes w))
  clear_by-step body w (n ∷ notes) = silent (put_out_text-step (body ++ made (skip filling_glue) ∷ []) w) (changes refl)

  -- ---- a firing

  pub output_by-step : (f : Fired) (w : Work) → Step 1 w (Output.output_by p f w)
  output_by-step f w =
      step_if w (int_le eject_penalty f.penalty) (Columns.ordinary p f.body w) _ (quiet (ordinary-step f.body w))
      (step_if w (Output.is_int f.penalty Asked.clear_penalty) (Clear.clear p f.body w) _ (quiet (clear_by-step f.body w (standing_notes (footnotes w.state))))
      (step_if w (Output.is_int f.penalty Asked.par_penalty) (Text.float_or_note p false f.body w) _ (float_or_note-step false f.body w)
      (step_if w (Output.is_int f.penalty Asked.vert_penalty) (Text.float_or_note p true f.body w) (Output.hold f.body w) (float_or_note-step true f.body w) (quiet (changes refl)))))

  pub next_goal-step : (n : ℤ) (w : Work) → Step 1 w (Output.next_goal p n w)
  next_goal-step n w =
      let room = column_room_of p w.state.floats in
      let told = sends (warned (warnings.Floats w.state.number)) w in
      step_if w (Output.is_int n Asked.hold_penalty) (Output.with_goal max_dimen w) (Output.goal_by p room w) (quiet (changes refl))
      (step_if w (Output.is_crowded p room) (Output.leave_column w) (Output.with_goal room w) (afterwards {j = 1} {k = 0} {b = told} (warns_one (warnings.Floats w.state.number) w) (changes refl)) (quiet (changes refl)))

  -- a firing without what waits after it
  pub page_work-step : (s : State) (f : Fired) → Step 2 (begun (Output.after_page s f)) (page_work p s f)
  unfolding page_work
  page_work-step s f = afterwards {j = 1} {k = 1} (output_by-step f (begun (Output.after_page s f))) (next_goal-step f.penalty (Output.output_by p f (begun (Output.after_page s f))))
