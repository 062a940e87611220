-- What putting out pages and columns and filling the next ones is made of: records, shipped pages, and changes of the float lists,
-- the first of two columns, the suppress flags and how far marginal notes reach.
use Rattle.std.proofs.Common.{◌≡◌, refl, ◌∙◌, ap, ℕ, zero, suc, Bool, true, false, List, [], ◌∷◌, ◌++◌, length, Option, Some, None}
use Rattle.std.specs.Prelude.{not, if◌then◌else◌}
use Rattle.tb_node.specs.declared.Float.{Float}
use Rattle.tb_node.specs.declared.Where.{Where}
use Rattle.tb_node.specs.PlainNodes.{PlainNode}
use Rattle.tb_param.specs.declared.Params.{Params}
use Rattle.tb_insert.specs.declared.Class.{Class}
use Rattle.tb_builder.specs.FiredPages.{Boxed}
use Rattle.tb_float.specs.declared.Part.{Part}
use Rattle.tb_float.specs.declared.Part.TheVariants as parts
use Rattle.tb_float.specs.Lists.{FloatLists, with_floats_of, wide_part, wide_waiting, with_wide_waiting}
use Rattle.tb_float.specs.Rooms.{column_height_of}
use Rattle.tb_fpage.specs.Company.{Choice, company, left_floats}
use Rattle.tb_area.specs.Area.{next_place, double_place}
use Rattle.tb_area.specs.Laws.{KeepsLimits}
use Rattle.tb_area.proofs.LawLemmas.{next-laws, double-laws}
use Rattle.tb_column.specs.Column.{PlainColumn}
use Rattle.tb_sheet.specs.Sheet.{PlainSheet, PlainSent, one, pair_sheet}
use Rattle.tb_output.specs.State.{Work, Recorded, placed, output, sends, records_also, with_floats}
use Rattle.tb_output.specs.FloatMoves
use Rattle.tb_output.specs.Pages
use Rattle.tb_output.specs.Columns
use Rattle.tb_output.proofs.StepLaws.RefusedSteps.{by-sends, by-records, by-any-ship}

-- ---- what a step is made of

-- what is so of each float that is placed within the limits, with the lists and the column height just before, and of each column
pub record RecordLaw (p : Params) : Type 1 where
  pub holds : Recorded → Type 0
  pub at_place : (f : Float) (place : Where) (l : FloatLists) → (f.bang ≡ false → KeepsLimits p l f place) → holds (placed p f place l (column_height_of p l))
  pub at_output : (c : PlainColumn) → holds (output c)

-- what is so of every record
abbrev pub no_law : (p : Params) → RecordLaw p
no_law p = record { holds = λ r. Unit {0}; at_place = λ f place l h. tt; at_output = λ c. tt }

-- what a firing changes by sending, recording and shipping alone; and the parameters, the classes and what waits, which it leaves as they are
pub record Course : Type 0 where
  pub sent : List PlainSent
  pub records : List Recorded
  pub refused : Bool
  pub page : ℕ
  pub dead_cycles : ℕ
  pub params : Params
  pub classes : List Class
  pub waiting : List PlainNode

abbrev pub course : Work → Course
course w = record { sent = w.sent; records = w.records; refused = w.refused; page = w.state.page; dead_cycles = w.state.dead_cycles; params = w.state.params; classes = w.state.classes; waiting = w.state.waiting }

-- what the steps of a column leave as it is
pub record Frame : Type 0 where
  pub put_back : List PlainNode
  pub held_page : List PlainNode
  pub boxes : List Boxed
  pub two_columns : Bool

abbrev pub frame : Work → Frame
frame w = record { put_back = w.put_back; held_page = w.state.held_page; boxes = w.state.boxes; two_columns = w.state.two_columns }

-- a step of a column: it leaves the course and the frame as they are, or it records or ships; or it is two such steps
pub data ColumnStep (p : Params) (law : RecordLaw p) : Work → Work → Type 0 where
  still : {a b : Work} → course b ≡ course a → frame b ≡ frame a → ColumnStep p law a b
  in_turn : {a b c : Work} → ColumnStep p law a b → ColumnStep p law b c → ColumnStep p law a c
  records_one : (r : Recorded) (w : Work) → law.holds r → ColumnStep p law w (records_also r w)
  ships_one : (sheet : PlainSheet) (w : Work) → ColumnStep p law w (Pages.ship p sheet w)

-- ---- what a step leaves as it is

pub sends-frame : (e : PlainSent) (w : Work) → frame (sends e w) ≡ frame w
sends-frame e w = by-sends (λ v. frame v ≡ frame w) e w refl refl

records-frame : (r : Recorded) (w : Work) → frame (records_also r w) ≡ frame w
records-frame r w = by-records (λ v. frame v ≡ frame w) r w refl refl

ship-frame : (p : Params) (sheet : PlainSheet) (w : Work) → frame (Pages.ship p sheet w) ≡ frame w
ship-frame p sheet w = by-any-ship (λ v. frame v ≡ frame w) p sheet w refl refl refl

column-frame : {p : Params} {law : RecordLaw p} {a b : Work} → ColumnStep p law a b → frame b ≡ frame a
column-frame (still c f) = f
column-frame (in_turn x y) = column-frame y ∙ column-frame x
column-frame (records_one r w h) = records-frame r w
column-frame {p} (ships_one sheet w) = ship-frame p sheet w

-- what is put back, the held page, the insertion boxes and the number of columns are as before
pub record Stays (a b : Work) : Type 0 where
  pub put_back : b.put_back ≡ a.put_back
  pub held : b.state.held_page ≡ a.state.held_page
  pub boxes : b.state.boxes ≡ a.state.boxes
  pub columns : b.state.two_columns ≡ a.state.two_columns

pub by-frame : {a b : Work} → frame b ≡ frame a → Stays a b
by-frame f = record { put_back = ap (λ x. x.put_back) f; held = ap (λ x. x.held_page) f; boxes = ap (λ x. x.boxes) f; columns = ap (λ x. x.two_columns) f }

pub stays : {p : Params} {law : RecordLaw p} {a b : Work} → ColumnStep p law a b → Stays a b
stays x = by-frame (column-frame x)

pub sends-stays : (e : PlainSent) (w : Work) → Stays w (sends e w)
sends-stays e w = by-frame (sends-frame e w)

-- ---- the steps

module _ (p : Params) (law : RecordLaw p) where
  abbrev Step : Work → Work → Type 0
  Step = ColumnStep p law

  step_if : (a : Work) (t : Bool) (b c : Work) → Step a b → Step a c → Step a (if t then b else c)
  step_if a true b c x y = x
  step_if a false b c x y = y

  -- ---- floats

  pub place_float-step : (place : Where) (f : Float) (left : FloatLists) (w : Work) → law.holds (placed p f place w.state.floats (column_height_of p w.state.floats)) → Step w (FloatMoves.place_float p place f left w)
  place_float-step place f left w h =
      let r = placed p f place w.state.floats (column_height_of p w.state.floats) in
      in_turn (step_if w (FloatMoves.is_placed place) (records_also r w) w (records_one r w h) (still refl refl)) (still refl refl)

  pub place_waiting-step : (from : Part) (place : Where) (f : Float) (before rest : List Float) (w : Work) → law.holds (placed p f place w.state.floats (column_height_of p w.state.floats)) → Step w (FloatMoves.place_waiting from p place f before rest w)
  place_waiting-step from place f before rest w h =
      let l : FloatLists = with_floats_of from (before ++ rest) w.state.floats in
      step_if w (FloatMoves.is_placed place) (FloatMoves.place_float p place f l w) w (place_float-step place f l w h) (still refl refl)

  pub place_next-step : (before fs : List Float) (w : Work) → Step w (FloatMoves.place_next p before fs w)
  place_next-step before [] w = still refl refl
  place_next-step before (f ∷ rest) w =
      let place = next_place p w.state.floats w.state.suppress before f in
      let h = law.at_place f place w.state.floats (next-laws p w.state.floats w.state.suppress before f).limits in
      in_turn (place_waiting-step parts.Deferred place f before rest w h) (place_next-step (FloatMoves.still_deferred place f before) rest (FloatMoves.place_waiting parts.Deferred p place f before rest w))

  pub place_double-step : (from : Part) (before fs : List Float) (w : Work) → Step w (FloatMoves.place_double from p before fs w)
  place_double-step from before [] w = still refl refl
  place_double-step from before (f ∷ rest) w =
      let place = double_place p w.state.floats w.state.suppress before f in
      let h = law.at_place f place w.state.floats (double-laws p w.state.floats w.state.suppress before f).limits in
      in_turn (place_waiting-step from place f before rest w h) (place_double-step from (FloatMoves.still_deferred place f before) rest (FloatMoves.place_waiting from p place f before rest w))

  -- ---- pages and columns

  pub ship_wide-step : (cs : List Choice) (w : Work) → Step w (Pages.ship_wide p cs w)
  ship_wide-step cs w = in_turn {b = with_floats (with_wide_waiting p (left_floats cs) w.state.floats) w} (still refl refl) (ships_one _ _)

  wide_by-step : (again : Work → Work) → ((w : Work) → Step w (again w)) → (w : Work) (o : Option (List Choice)) → Step w (Pages.wide_pages_by again p w o)
  wide_by-step again h w None = still refl refl
  wide_by-step again h w (Some cs) = in_turn (ship_wide-step cs w) (h (Pages.ship_wide p cs w))

  pub wide_pages-step : (clearing : Bool) (n : ℕ) (w : Work) → Step w (Pages.wide_pages p clearing n w)
  wide_pages-step clearing zero w = still refl refl
  wide_pages-step clearing (suc n) w = wide_by-step (λ w'. Pages.wide_pages p clearing n w') (λ w'. wide_pages-step clearing n w') w (company (Pages.wide_wanted p clearing) (wide_waiting p w.state.floats))

  pub all_wide_pages-step : (clearing : Bool) (w : Work) → Step w (Pages.all_wide_pages p clearing w)
  all_wide_pages-step clearing w = wide_pages-step clearing (length (wide_waiting p w.state.floats)) w

  pub ship_pair-step : (c : PlainColumn) (w : Work) → Step w (Pages.ship_pair p c w)
  ship_pair-step c w =
      let a = Pages.ship p (pair_sheet p w.state.floats (Pages.left_or c w.state.left_column) c) w in
      let b = Pages.without_double a in
      let d = Pages.all_wide_pages p false b in
      in_turn {b = a} (ships_one _ w) (in_turn {b = b} (still refl refl) (in_turn (all_wide_pages-step false b) (place_double-step (wide_part p) [] (wide_waiting p d.state.floats) d)))

  pub put_out_by-step : (c : PlainColumn) (w : Work) → Step w (Pages.put_out_by p c w)
  put_out_by-step c w = by_columns w.state.two_columns
    where
      by_columns : (t : Bool) → Step w (if not t then Pages.ship p (one c) w else (if w.state.first_column then Pages.keep_left c w else Pages.ship_pair p c w))
      by_columns false = ships_one (one c) w
      by_columns true = step_if w w.state.first_column (Pages.keep_left c w) (Pages.ship_pair p c w) (still refl refl) (ship_pair-step c w)

  pub put_out-step : (c : PlainColumn) (w : Work) → Step w (Pages.put_out p c w)
  put_out-step c w =
      let a = records_also (output c) w in
      in_turn {b = a} (records_one (output c) w (law.at_output c)) (in_turn {b = Pages.put_out_by p c a} (put_out_by-step c a) (still refl refl))

  pub put_out_company-step : (cs : List Choice) (w : Work) → Step w (Columns.put_out_company p cs w)
  put_out_company-step cs w = in_turn {b = Pages.with_deferred (left_floats cs) w} (still refl refl) (put_out-step _ _)

  columns_by-step : (again : Work → Work) → ((w : Work) → Step w (again w)) → (w : Work) (o : Option (List Choice)) → Step w (Columns.float_columns_by again p w o)
  columns_by-step again h w None = still refl refl
  columns_by-step again h w (Some cs) = in_turn (put_out_company-step cs w) (h (Columns.put_out_company p cs w))

  pub float_columns-step : (clearing : Bool) (n : ℕ) (w : Work) → Step w (Columns.float_columns p clearing n w)
  float_columns-step clearing zero w = still refl refl
  float_columns-step clearing (suc n) w = columns_by-step (λ w'. Columns.float_columns p clearing n w') (λ w'. float_columns-step clearing n w') w (company (Columns.single_wanted p w.state.floats clearing) w.state.floats.deferred)
