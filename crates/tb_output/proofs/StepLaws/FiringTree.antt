-- The moves of a firing, and of each part of it.
use Rattle.std.proofs.Common.{◌≡◌, refl, sym, ◌∙◌, zero, suc, ℕ, Bool, true, false, List, [], ◌∷◌, ◌++◌, append_assoc, drop, length, Option, Some, None}
use Rattle.std.specs.Prelude.{ℤ, int_le, not, ◌&&◌, ◌||◌, if◌then◌else◌}
use Rattle.tb_scaled.specs.Glue.{filling_glue}
use Rattle.tb_scaled.specs.Scaled.{eject_penalty, max_dimen}
use Rattle.tb_node.specs.declared.Float.{Float}
use Rattle.tb_node.specs.declared.Margin.{Margin}
use Rattle.tb_node.specs.declared.Where.{Where}
use Rattle.tb_node.specs.declared.Where.TheVariants as places
use Rattle.tb_node.specs.PlainNodes.{PlainNode, made, blank_box, skip}
use Rattle.tb_param.specs.declared.Params.{Params}
use Rattle.tb_builder.specs.FiredPages.{Fired}
use Rattle.tb_float.specs.declared.Entry.{Entry}
use Rattle.tb_float.specs.declared.Entry.TheVariants as entries
use Rattle.tb_float.specs.declared.Part.{Part}
use Rattle.tb_float.specs.declared.Part.TheVariants as parts
use Rattle.tb_float.specs.Lists.{FloatLists, IsWaiting, floats_of, with_floats_of, wide_part, wide_waiting}
use Rattle.tb_float.specs.Rooms.{column_room_of}
use Rattle.tb_float.proofs.WaitingLemmas.{wide-waits}
use Rattle.tb_fpage.specs.Company.{Choice, company, left_floats}
use Rattle.tb_area.specs.Area.{AreaPlace, at_top, at_bottom, deferred, where_of, current_place, next_area_place, goes_double}
use Rattle.tb_margin.specs.declared.Placed.{Placed}
use Rattle.tb_margin.specs.Margin.{placed_note}
use Rattle.tb_column.specs.Column.{PlainColumn, Notes, standing_notes}
use Rattle.tb_sheet.specs.Sheet.{one, pair_sheet, warned}
use Rattle.tb_sheet.specs.declared.Warn.TheVariants as warnings
use Rattle.tb_output.specs.State.{State, Work, output, begun, puts, sends, records_also, with_floats, footnotes, has_floats}
use Rattle.tb_output.specs.FloatMoves
use Rattle.tb_output.specs.Pages
use Rattle.tb_output.specs.Columns
use Rattle.tb_output.specs.Text
use Rattle.tb_output.specs.Clear
use Rattle.tb_sheet.specs.Asked
use Rattle.tb_output.specs.Output
use Rattle.tb_output.specs.Firing.{page_work}
use Rattle.tb_output.proofs.StepLaws.ColumnSteps.{no_law, records_one, ships_one, ship_wide-step, place_float-step, stays}
use Rattle.tb_output.proofs.StepLaws.Moves.{Hand, nothing, of_text, of_column, of_float, of_note, deferred_float, ColumnMove, takes_company, records_column, ships_column, keeps_left, ships_pair, ends_column, ships_wide, places_double, FillMove, places_next, PageMove, by_column, by_fill, takes_text, fills_text, keeps_front, drops_notes, gathers, gathers_wide, leaves_second, clears_again, TextMove, goes_back, places_current, defers_current, takes_float, stands_here, takes_note, stands_beside, puts_penalty, warns, Move, by_page, by_text, holds_page, leaves_blank, sets_goal, Moves, rests, moves, in_turn, goes-on, widen}

-- the list of a place that was not taken still has its float
still-waits : (before : List Float) (f : Float) (rest fs : List Float) → fs ≡ before ++ f ∷ rest → fs ≡ (before ++ f ∷ []) ++ rest
still-waits before f rest fs e = e ∙ sym (append_assoc before (f ∷ []) rest)

-- a float above both columns leaves the others of its list
double-leaves : (from : Part) → IsWaiting from → (f : Float) (fs : List Float) (l : FloatLists) → floats_of from (FloatMoves.joined_to places.Double f (with_floats_of from fs l)) ≡ fs
double-leaves parts.Deferred q f fs l = refl
double-leaves parts.Second q f fs l = refl
double-leaves from q f fs l = absurd q

-- no move of a column changes their number
pub two-stays : {p : Params} {h i : Hand} {a b : Work} → ColumnMove p h a i b → b.state.two_columns ≡ a.state.two_columns
two-stays {p = p} (records_column c w) = (stays {p = p} {law = no_law p} (records_one (output c) w tt)).columns
two-stays {p = p} (ships_column c w t) = (stays {p = p} {law = no_law p} (ships_one (one c) w)).columns
two-stays {p = p} (ships_pair c w t f) = (stays {p = p} {law = no_law p} (ships_one _ w)).columns
two-stays {p = p} (ships_wide clearing cs w e) = (stays (ship_wide-step p (no_law p) cs w)).columns
two-stays {p = p} (places_double f before rest w two e i) = (stays (place_float-step p (no_law p) places.Double f (with_floats_of (wide_part p) (before ++ rest) w.state.floats) w tt)).columns
two-stays m = refl

pub two-kept : {p : Params} {h i : Hand} {a b : Work} → Moves (ColumnMove p) h a i b → b.state.two_columns ≡ a.state.two_columns
two-kept x = goes-on (λ h a i b. b.state.two_columns ≡ a.state.two_columns) (λ h w. refl) (λ h i j a b c x y. y ∙ x) (λ h i a b m. two-stays m) x

-- of two works the one that a test chooses
by_test : {M : Hand → Work → Hand → Work → Type 0} {h i : Hand} {a : Work} (t : Bool) (b c : Work) → (t ≡ true → Moves M h a i b) → (t ≡ false → Moves M h a i c) → Moves M h a i (if t then b else c)
by_test {M = M} {h = h} {i = i} {a = a} t b c x y = by_value t refl
  where
    by_value : (u : Bool) → t ≡ u → Moves M h a i (if u then b else c)
    by_value true e = x e
    by_value false e = y e

module _ (p : Params) where
  abbrev OfColumn : Hand → Work → Work → Type 0
  OfColumn h a b = Moves (ColumnMove p) h a nothing b

  abbrev OfFill : Work → Work → Type 0
  OfFill a b = Moves (FillMove p) nothing a nothing b

  abbrev OfPage : Hand → Work → Work → Type 0
  OfPage h a b = Moves (PageMove p) h a nothing b

  abbrev OfText : Hand → Work → Work → Type 0
  OfText h a b = Moves (TextMove p) h a nothing b

  abbrev Of : Hand → Work → Work → Type 0
  Of h a b = Moves (Move p) h a nothing b

  page : {h i : Hand} {a b : Work} → Moves (ColumnMove p) h a i b → Moves (PageMove p) h a i b
  page x = widen (λ h i a b m. by_column m) x

  -- ---- floats go to their places

  pub next-moves : (before fs : List Float) (w : Work) → w.state.floats.deferred ≡ before ++ fs → OfFill w (FloatMoves.place_next p before fs w)
  next-moves before [] w e = rests
  next-moves before (f ∷ rest) w e =
      let a = next_area_place p w.state.floats w.state.suppress before f in
      let x = by_area a refl in
      in_turn x.0 (next-moves (FloatMoves.still_deferred (where_of a) f before) rest (FloatMoves.place_waiting parts.Deferred p (where_of a) f before rest w) x.1)
    where
      by_area : (a : AreaPlace) → next_area_place p w.state.floats w.state.suppress before f ≡ a → OfFill w (FloatMoves.place_waiting parts.Deferred p (where_of a) f before rest w) × ((FloatMoves.place_waiting parts.Deferred p (where_of a) f before rest w).state.floats.deferred ≡ FloatMoves.still_deferred (where_of a) f before ++ rest)
      by_area at_top i = (moves (places_next at_top f before rest w tt e i), refl)
      by_area at_bottom i = (moves (places_next at_bottom f before rest w tt e i), refl)
      by_area deferred i = (rests, still-waits before f rest w.state.floats.deferred e)

  double-moves : (before fs : List Float) (w : Work) → w.state.two_columns ≡ true → floats_of (wide_part p) w.state.floats ≡ before ++ fs → OfColumn nothing w (FloatMoves.place_double (wide_part p) p before fs w)
  double-moves before [] w two e = rests
  double-moves before (f ∷ rest) w two e =
      let t = goes_double p w.state.floats w.state.suppress before f in
      let place = if t then places.Double else places.Deferred in
      let x = by_double t refl in
      in_turn x.0 (double-moves (FloatMoves.still_deferred place f before) rest (FloatMoves.place_waiting (wide_part p) p place f before rest w) (two-kept x.0 ∙ two) x.1)
    where
      by_double : (t : Bool) → goes_double p w.state.floats w.state.suppress before f ≡ t → OfColumn nothing w (FloatMoves.place_waiting (wide_part p) p (if t then places.Double else places.Deferred) f before rest w) × (floats_of (wide_part p) (FloatMoves.place_waiting (wide_part p) p (if t then places.Double else places.Deferred) f before rest w).state.floats ≡ FloatMoves.still_deferred (if t then places.Double else places.Deferred) f before ++ rest)
      by_double true i = (moves (places_double f before rest w two e i), double-leaves (wide_part p) (wide-waits p) f (before ++ rest) w.state.floats)
      by_double false i = (rests, still-waits before f rest (floats_of (wide_part p) w.state.floats) e)

  -- ---- pages and columns

  pub wide-moves : (clearing : Bool) (n : ℕ) (w : Work) → OfColumn nothing w (Pages.wide_pages p clearing n w)
  wide-moves clearing zero w = rests
  wide-moves clearing (suc n) w = by_company (λ v. wide-moves clearing n v) (company (Pages.wide_wanted p clearing) (wide_waiting p w.state.floats)) refl
    where
      by_company : ((v : Work) → OfColumn nothing v (Pages.wide_pages p clearing n v)) → (o : Option (List Choice)) → company (Pages.wide_wanted p clearing) (wide_waiting p w.state.floats) ≡ o → OfColumn nothing w (Pages.wide_pages_by (λ v. Pages.wide_pages p clearing n v) p w o)
      by_company again None e = rests
      by_company again (Some cs) e = in_turn (moves (ships_wide clearing cs w e)) (again (Pages.ship_wide p cs w))

  pub all_wide-moves : (clearing : Bool) (w : Work) → OfColumn nothing w (Pages.all_wide_pages p clearing w)
  all_wide-moves clearing w = wide-moves clearing (length (wide_waiting p w.state.floats)) w

  pub fill_double-moves : (w : Work) → w.state.two_columns ≡ true → OfColumn nothing w (Pages.fill_double p w)
  fill_double-moves w two = double-moves [] (wide_waiting p w.state.floats) w two refl

  -- what follows the page of two columns
  pub pair_rest-moves : (c : PlainColumn) (w : Work) → w.state.two_columns ≡ true → OfColumn nothing (Pages.without_double (Pages.ship p (pair_sheet p w.state.floats (Pages.left_or c w.state.left_column) c) w)) (Pages.ship_pair p c w)
  pair_rest-moves c w t =
      let sheet = pair_sheet p w.state.floats (Pages.left_or c w.state.left_column) c in
      let b = Pages.without_double (Pages.ship p sheet w) in
      let x = all_wide-moves false b in
      in_turn x (fill_double-moves (Pages.all_wide_pages p false b) (two-kept x ∙ (stays {p = p} {law = no_law p} (ships_one sheet w)).columns ∙ t))

  put_out_by-moves : (c : PlainColumn) (w : Work) → OfColumn (of_column c) w (Pages.put_out_by p c w)
  put_out_by-moves c w = by_columns w.state.two_columns w.state.first_column refl refl
    where
      by_columns : (two first : Bool) → w.state.two_columns ≡ two → w.state.first_column ≡ first → OfColumn (of_column c) w (if not two then Pages.ship p (one c) w else (if first then Pages.keep_left c w else Pages.ship_pair p c w))
      by_columns false first t f = moves (ships_column c w t)
      by_columns true true t f = moves (keeps_left c w t f)
      by_columns true false t f = in_turn (moves (ships_pair c w t f)) (pair_rest-moves c w t)

  pub put_out-moves : (c : PlainColumn) (w : Work) → OfColumn (of_column c) w (Pages.put_out p c w)
  put_out-moves c w =
      let a = records_also (output c) w in
      in_turn (moves (records_column c w)) (in_turn (put_out_by-moves c a) (moves (ends_column (Pages.put_out_by p c a))))

  pub put_out_text-moves : (body : List PlainNode) (w : Work) → OfPage (of_text body) w (Columns.put_out_text p body w)
  put_out_text-moves body w = in_turn (moves (takes_text body w)) (page (put_out-moves (Columns.text_of p w.state body) (Columns.without_column_floats w)))

  pub float_columns-moves : (clearing : Bool) (n : ℕ) (w : Work) → OfColumn nothing w (Columns.float_columns p clearing n w)
  float_columns-moves clearing zero w = rests
  float_columns-moves clearing (suc n) w = by_company (λ v. float_columns-moves clearing n v) (company (Columns.single_wanted p w.state.floats clearing) w.state.floats.deferred) refl
    where
      by_company : ((v : Work) → OfColumn nothing v (Columns.float_columns p clearing n v)) → (o : Option (List Choice)) → company (Columns.single_wanted p w.state.floats clearing) w.state.floats.deferred ≡ o → OfColumn nothing w (Columns.float_columns_by (λ v. Columns.float_columns p clearing n v) p w o)
      by_company again None e = rests
      by_company again (Some cs) e = in_turn (in_turn (moves (takes_company clearing cs w e)) (put_out-moves _ (Pages.with_deferred (left_floats cs) w))) (again (Columns.put_out_company p cs w))

  pub all_columns-moves : (clearing : Bool) (w : Work) → OfColumn nothing w (Columns.all_float_columns p clearing w)
  all_columns-moves clearing w = float_columns-moves clearing (length w.state.floats.deferred) w

  pub fill_column-moves : (w : Work) → OfFill w (Columns.fill_column p w)
  fill_column-moves w = next-moves [] w.state.floats.deferred w refl

  -- a column in hand is put out, and columns of floats follow
  pub text_columns-moves : (c : PlainColumn) (w : Work) → OfColumn (of_column c) w (Columns.all_float_columns p false (Pages.put_out p c w))
  text_columns-moves c w = in_turn (put_out-moves c w) (all_columns-moves false (Pages.put_out p c w))

  -- an ordinary page once its text is made a column
  pub ordinary-columns : (body : List PlainNode) (w : Work) → OfPage (of_column (Columns.text_of p w.state body)) (Columns.without_column_floats w) (Columns.ordinary p body w)
  ordinary-columns body w =
      let c = Columns.text_of p w.state body in
      let b = Columns.all_float_columns p false (Columns.put_out_text p body w) in
      in_turn (page (text_columns-moves c (Columns.without_column_floats w))) (widen (λ h i a b m. by_fill m) (fill_column-moves b))

  pub ordinary-moves : (body : List PlainNode) (w : Work) → OfPage (of_text body) w (Columns.ordinary p body w)
  ordinary-moves body w = in_turn (moves (takes_text body w)) (ordinary-columns body w)

  -- ---- floats and notes in the text

  -- the interline penalty goes back at last
  then_penalty : (nobreak : Bool) {h : Hand} {a : Work} (b : Work) → Moves (TextMove p) h a nothing b → Moves (TextMove p) h a nothing (Text.puts_interline p nobreak b)
  then_penalty nobreak b x = in_turn x (moves (puts_penalty nobreak nothing b))

  defer-moves : (f : Float) (es : List Entry) (w : Work) → w.state.floats.current ≡ entries.Float f ∷ es → OfText nothing w (Text.defer p f (record w.state.floats { current = es }) w)
  defer-moves f es w e = by_test (Text.only_here f) _ _ (λ i. in_turn (placed true i) (moves (warns nothing (warnings.Ht f.name) _))) (placed false)
    where
      placed : (t : Bool) → Text.only_here f ≡ t → OfText nothing w (FloatMoves.place_float p places.Deferred (deferred_float t f) (record w.state.floats { current = es }) w)
      placed t i = moves (defers_current t f es w e i)

  float_goes-moves : (vert : Bool) (f : Float) (es : List Entry) (w : Work) (page_height : ℤ) (place : Where) → w.state.floats.current ≡ entries.Float f ∷ es → current_place p w.state.floats w.state.suppress page_height f ≡ place → OfText nothing w (Text.float_goes p vert f (record w.state.floats { current = es }) w place)
  float_goes-moves vert f es w height places.Here e i =
      let a = FloatMoves.place_float p places.Here f (record w.state.floats { current = es }) w in
      in_turn (moves (takes_float f es w e)) (in_turn (moves (puts_penalty f.nobreak (of_float f) a)) (moves (stands_here vert f (Text.puts_interline p f.nobreak a))))
  float_goes-moves vert f es w height places.Top e i = then_penalty f.nobreak _ (moves (places_current places.Top f es height w tt e i))
  float_goes-moves vert f es w height places.Bottom e i = then_penalty f.nobreak _ (moves (places_current places.Bottom f es height w tt e i))
  float_goes-moves vert f es w height place e i = then_penalty f.nobreak _ (defer-moves f es w e)

  note-moves : (height depth : ℤ) (m : Margin) (es : List Entry) (w : Work) → w.state.floats.current ≡ entries.Left m ∷ es → OfText nothing w (Text.note_at p height depth m (record w.state.floats { current = drop 1 es }) w)
  note-moves height depth m es w e =
      let at = placed_note p w.state.number w.state.two_columns w.state.first_column height w.state.note_bottom m in
      let a = Text.with_note_bottom at.bottom (with_floats (record w.state.floats { current = drop 1 es }) w) in
      let b = Text.moved_warning m at a in
      then_penalty m.nobreak _ (in_turn (moves (takes_note height m es at w e refl)) (in_turn (told at a at.moved) (moves (stands_beside depth m at b))))
    where
      told : (at : Placed) (a : Work) (t : Bool) → Moves (TextMove p) (of_note m at) a (of_note m at) (if t then sends (warned (warnings.Moved m.name at.shift)) a else a)
      told at a true = moves (warns (of_note m at) (warnings.Moved m.name at.shift) a)
      told at a false = rests

  pub first-moves : (vert : Bool) (height depth page_height : ℤ) (es : List Entry) (w : Work) → w.state.floats.current ≡ es → OfText nothing w (Text.first_goes p vert height depth page_height es w)
  first-moves vert height depth page_height (entries.Float f ∷ es) w e = float_goes-moves vert f es w page_height _ e refl
  first-moves vert height depth page_height (entries.Left m ∷ []) w e = note-moves height depth m [] w e
  first-moves vert height depth page_height (entries.Left m ∷ n ∷ es) w e = note-moves height depth m (n ∷ es) w e
  first-moves vert height depth page_height (entries.Right m ∷ es) w e = moves (puts_penalty false nothing w)
  first-moves vert height depth page_height [] w e = moves (puts_penalty false nothing w)

  pub float_or_note-moves : (vert : Bool) (body : List PlainNode) (w : Work) → OfText (of_text body) w (Text.float_or_note p vert body w)
  float_or_note-moves vert body w = in_turn (moves (goes_back body w)) (first-moves vert _ _ _ w.state.floats.current (Text.list_back p (w.state.held_page ++ Text.without_firing_box body) w) refl)

  -- ---- a clear

  pub clear_wide-moves : (w : Work) → OfPage nothing w (Clear.clear_wide p w)
  clear_wide-moves w = by_columns w.state.two_columns w.state.first_column refl refl
    where
      a : Work
      a = with_floats (Clear.double_again p w.state.floats) w

      by_columns : (two first : Bool) → w.state.two_columns ≡ two → w.state.first_column ≡ first → OfPage nothing w (if not two then w else (if first then Pages.all_wide_pages p true a else puts (made blank_box ∷ Clear.clear_again) w))
      by_columns false first t f = rests
      by_columns true true t f = in_turn (moves (gathers_wide w t f)) (page (all_wide-moves true a))
      by_columns true false t f = moves (leaves_second w t f)

  pub clear_rest-moves : (w : Work) → OfPage nothing w (Clear.clear_rest w)
  clear_rest-moves w = by_test (has_floats w.state.floats.deferred || has_floats w.state.floats.second) (puts Clear.clear_again w) w (λ e. moves (clears_again w)) (λ e. rests)

  pub clear_floats-moves : (body : List PlainNode) (w : Work) → OfPage (of_text body) w (Clear.clear_floats p body w)
  clear_floats-moves body w =
      let z = puts (Clear.cleared_front p body) w in
      let a = with_floats (Clear.deferred_again w.state.floats) z in
      let b = Columns.all_float_columns p true a in
      let c = Clear.clear_wide p b in
      in_turn (moves (keeps_front body w)) (in_turn (moves (gathers z)) (in_turn (page (all_columns-moves true a)) (in_turn (clear_wide-moves b) (clear_rest-moves c))))

  pub clear_by-moves : (body : List PlainNode) (w : Work) (notes : List Notes) → standing_notes (footnotes w.state) ≡ notes → OfPage (of_text body) w (Clear.clear_by p body w notes)
  clear_by-moves body w [] none = in_turn (moves (drops_notes body w none)) (clear_floats-moves body (Clear.without_notes w))
  clear_by-moves body w (n ∷ notes) some =
      let text = body ++ made (skip filling_glue) ∷ [] in
      in_turn (moves (fills_text body w)) (in_turn (put_out_text-moves text w) (moves (clears_again (Columns.put_out_text p text w))))

  -- ---- the firing

  pub output-moves : (f : Fired) (w : Work) → Of (of_text f.body) w (Output.output_by p f w)
  output-moves f w =
      by_test (int_le eject_penalty f.penalty) (Columns.ordinary p f.body w) _ (λ e. widen (λ h i a b m. by_page m) (ordinary-moves f.body w))
      (λ e. by_test (Output.is_int f.penalty Asked.clear_penalty) (Clear.clear p f.body w) _ (λ e. widen (λ h i a b m. by_page m) (clear_by-moves f.body w (standing_notes (footnotes w.state)) refl))
      (λ e. by_test (Output.is_int f.penalty Asked.par_penalty) (Text.float_or_note p false f.body w) _ (λ e. widen (λ h i a b m. by_text m) (float_or_note-moves false f.body w))
      (λ e. by_test (Output.is_int f.penalty Asked.vert_penalty) (Text.float_or_note p true f.body w) (Output.hold f.body w) (λ e. widen (λ h i a b m. by_text m) (float_or_note-moves true f.body w)) (λ e. moves (holds_page f.body w)))))

  pub goal-moves : (n : ℤ) (w : Work) → Of nothing w (Output.next_goal p n w)
  goal-moves n w =
      let room = column_room_of p w.state.floats in
      let told = sends (warned (warnings.Floats w.state.number)) w in
      by_test (Output.is_int n Asked.hold_penalty) (Output.with_goal max_dimen w) (Output.goal_by p room w) (λ e. moves (sets_goal max_dimen w))
      (λ e. by_test (Output.is_crowded p room) (Output.leave_column w) (Output.with_goal room w) (λ e. in_turn (moves (by_text (warns nothing (warnings.Floats w.state.number) w))) (moves (leaves_blank (w.state.two_columns && not w.state.first_column) told))) (λ e. moves (sets_goal room w)))

  -- a firing without what waits after it
  pub page-moves : (s : State) (f : Fired) → Of (of_text f.body) (begun (Output.after_page s f)) (page_work p s f)
  unfolding page_work
  page-moves s f =
      let w = begun (Output.after_page s f) in
      in_turn (output-moves f w) (goal-moves f.penalty (Output.output_by p f w))
