-- What shipping pages and putting out columns of floats leaves as it is.
use Rattle.std.proofs.Common.{◌≡◌, refl, sym, ◌∙◌, ap, subst, ℕ, zero, suc, Bool, true, false, List, [], ◌∷◌, ◌++◌, length, Option, Some, None}
use Rattle.std.specs.Prelude.{if◌then◌else◌}
use Rattle.tb_node.specs.declared.Float.{Float}
use Rattle.tb_node.specs.declared.Where.{Where}
use Rattle.tb_node.specs.declared.Where.TheVariants as places
use Rattle.tb_node.specs.PlainNodes.{PlainNode}
use Rattle.tb_param.specs.declared.Params.{Params}
use Rattle.tb_float.proofs.WaitingLemmas.{wide-waits}
use Rattle.tb_float.specs.Rooms.{column_height_of}
use Rattle.tb_fpage.specs.Company.{Choice, company, chosen_floats, left_floats}
use Rattle.tb_area.specs.Area.{at_top, at_bottom, deferred}
use Rattle.tb_float.specs.declared.Part.{Part}
use Rattle.tb_float.specs.declared.Part.TheVariants as parts
use Rattle.tb_float.specs.Lists.{FloatLists, IsWaiting, with_floats_of, wide_part, wide_waiting, with_wide_waiting}
use Rattle.tb_column.specs.Column.{PlainColumn, wide_floats_column}
use Rattle.tb_sheet.specs.Sheet.{PlainSheet, one, wide, pair_sheet}
use Rattle.tb_laws.proofs.Closed.Closings.{never}
use Rattle.tb_output.specs.State.{State, Work, Recorded, placed, output, records_also, with_floats}
use Rattle.tb_output.specs.FloatMoves
use Rattle.tb_output.specs.Pages
use Rattle.tb_output.specs.Columns
use Rattle.tb_output.proofs.StepLaws.RefusedSteps.{by-records, by-any-ship}
use Rattle.tb_output.proofs.StepLaws.Moves.{Hand, ColumnMove, records_column, ships_column, keeps_left, ships_pair, ships_wide, places_double, FillMove, places_next, Moves, holds-on, goes-on}
use Rattle.tb_output.proofs.StepLaws.FiringTree.{all_wide-moves, all_columns-moves, put_out-moves, text_columns-moves, fill_column-moves}
use Rattle.tb_laws.proofs.NothingLost.StateWeights.{ColumnsFit}
use Rattle.tb_laws.proofs.NothingLost.PutOutWeights.{ship-keeps}

-- in one column no float waits for the top of two
abbrev pub Single : State → Type 0
Single s = s.two_columns ≡ false → s.floats.double ≡ []

-- the lists but the deferred and the double one stay, and so does what is put back; and the columns fit as before
pub record Spares (a c : Work) : Type 0 where
  pub current : c.state.floats.current ≡ a.state.floats.current
  pub here : c.state.floats.here ≡ a.state.floats.here
  pub top : c.state.floats.top ≡ a.state.floats.top
  pub bottom : c.state.floats.bottom ≡ a.state.floats.bottom
  pub boxes : c.state.boxes ≡ a.state.boxes
  pub page : c.state.held_page ≡ a.state.held_page
  pub columns : c.state.two_columns ≡ a.state.two_columns
  pub put_back : c.put_back ≡ a.put_back
  pub fit : ColumnsFit a.state.two_columns a.state.first_column a.state.left_column → ColumnsFit c.state.two_columns c.state.first_column c.state.left_column
  pub single : Single a.state → Single c.state

pub spared : (a c d : Work) → Spares a c → Spares c d → Spares a d
spared a c d x y = record {
  current = y.current ∙ x.current;
  here = y.here ∙ x.here;
  top = y.top ∙ x.top;
  bottom = y.bottom ∙ x.bottom;
  boxes = y.boxes ∙ x.boxes;
  page = y.page ∙ x.page;
  columns = y.columns ∙ x.columns;
  put_back = y.put_back ∙ x.put_back;
  fit = λ h. y.fit (x.fit h);
  single = λ h. y.single (x.single h);
}

pub unchanged : (a : Work) → Spares a a
unchanged a = record { current = refl; here = refl; top = refl; bottom = refl; boxes = refl; page = refl; columns = refl; put_back = refl; fit = λ h. h; single = λ h. h }

records-spares : (r : Recorded) (w : Work) → Spares w (records_also r w)
records-spares r w = by-records (Spares w) r w (unchanged w) (record { current = refl; here = refl; top = refl; bottom = refl; boxes = refl; page = refl; columns = refl; put_back = refl; fit = λ h. h; single = λ h. h })

ship-spares : (p : Params) (sheet : PlainSheet) (w : Work) → Spares w (Pages.ship p sheet w)
ship-spares p sheet w = by-any-ship (Spares w) p sheet w (unchanged w) (record { current = refl; here = refl; top = refl; bottom = refl; boxes = refl; page = refl; columns = refl; put_back = refl; fit = λ h. h; single = λ h. h }) (record { current = refl; here = refl; top = refl; bottom = refl; boxes = refl; page = refl; columns = refl; put_back = refl; fit = λ h. h; single = λ h. h })

-- so when other floats wait in a list
pub waiting-spares : (from : Part) → IsWaiting from → (fs : List Float) (w : Work) → Spares w (with_floats (with_floats_of from fs w.state.floats) w)
waiting-spares parts.Deferred i fs w = record { current = refl; here = refl; top = refl; bottom = refl; boxes = refl; page = refl; columns = refl; put_back = refl; fit = λ h. h; single = λ h. h }
waiting-spares parts.Second i fs w = record { current = refl; here = refl; top = refl; bottom = refl; boxes = refl; page = refl; columns = refl; put_back = refl; fit = λ h. h; single = λ h. h }
waiting-spares from i fs w = absurd i

-- ---- wide pages

-- wide pages take nothing from the double list, and leave a kept column
SameDouble : Work → Work → Type 0
SameDouble a c = (c.state.floats.double ≡ a.state.floats.double) × (c.state.left_column ≡ a.state.left_column)

ship-double : (p : Params) (sheet : PlainSheet) (w : Work) → SameDouble w (Pages.ship p sheet w)
unfolding SameDouble
ship-double p sheet w = (ap (λ l. l.double) (ship-keeps p sheet w).0, (ship-keeps p sheet w).1)

-- so do other floats that wait
pub waiting-double : (from : Part) → IsWaiting from → (fs : List Float) (l : FloatLists) → (with_floats_of from fs l).double ≡ l.double
waiting-double parts.Deferred i fs l = refl
waiting-double parts.Second i fs l = refl
waiting-double from i fs l = absurd i

wide_by-double : (p : Params) (again : Work → Work) → ((w : Work) → SameDouble w (again w)) → (w : Work) (o : Option (List Choice)) → SameDouble w (Pages.wide_pages_by again p w o)
unfolding SameDouble
wide_by-double p again h w None = (refl, refl)
wide_by-double p again h w (Some cs) =
    let x = ship-double p (wide (wide_floats_column p p.textheight (chosen_floats cs))) (with_floats (with_wide_waiting p (left_floats cs) w.state.floats) w) in
    let y = h (Pages.ship_wide p cs w) in
    (y.0 ∙ x.0 ∙ waiting-double (wide_part p) (wide-waits p) (left_floats cs) w.state.floats, y.1 ∙ x.1)

wide_pages-double : (p : Params) (clearing : Bool) (n : ℕ) (w : Work) → SameDouble w (Pages.wide_pages p clearing n w)
unfolding SameDouble
wide_pages-double p clearing zero w = (refl, refl)
wide_pages-double p clearing (suc n) w = wide_by-double p (λ w'. Pages.wide_pages p clearing n w') (λ w'. wide_pages-double p clearing n w') w (company (Pages.wide_wanted p clearing) (wide_waiting p w.state.floats))

pub all_wide-double : (p : Params) (clearing : Bool) (w : Work) → ((Pages.all_wide_pages p clearing w).state.floats.double ≡ w.state.floats.double) × ((Pages.all_wide_pages p clearing w).state.left_column ≡ w.state.left_column)
unfolding SameDouble
all_wide-double p clearing w = wide_pages-double p clearing (length (wide_waiting p w.state.floats)) w

-- ---- a pair of columns

yes-no : (s : State) → s.two_columns ≡ true → Single s
yes-no s t e = never (sym e ∙ t)

-- the work when a placement was recorded, and when the float has moved
abbrev pub noted : Params → Where → Float → Work → Bool → Work
noted p place f w t = if t then w else record w { records = w.records ++ placed p f place w.state.floats (column_height_of p w.state.floats) ∷ [] }

abbrev pub moved : Params → Where → Float → FloatLists → Work → Bool → Work
moved p place f left w t = record (noted p place f w t) { state = record (noted p place f w t).state { floats = FloatMoves.joined_to place f left } }

-- what is left when these floats stay in a list
abbrev staying : Part → List Float → Work → FloatLists
staying from fs w = with_floats_of from fs w.state.floats

-- a float that goes above two columns
double-spares : (from : Part) → IsWaiting from → (p : Params) (f : Float) (fs : List Float) (w : Work) → w.state.two_columns ≡ true → (t : Bool) → Spares w (moved p places.Double f (staying from fs w) w t)
double-spares parts.Deferred i p f fs w t true = record { current = refl; here = refl; top = refl; bottom = refl; boxes = refl; page = refl; columns = refl; put_back = refl; fit = λ h. h; single = λ h. yes-no (moved p places.Double f (staying parts.Deferred fs w) w true).state t }
double-spares parts.Deferred i p f fs w t false = record { current = refl; here = refl; top = refl; bottom = refl; boxes = refl; page = refl; columns = refl; put_back = refl; fit = λ h. h; single = λ h. yes-no (moved p places.Double f (staying parts.Deferred fs w) w false).state t }
double-spares parts.Second i p f fs w t true = record { current = refl; here = refl; top = refl; bottom = refl; boxes = refl; page = refl; columns = refl; put_back = refl; fit = λ h. h; single = λ h. yes-no (moved p places.Double f (staying parts.Second fs w) w true).state t }
double-spares parts.Second i p f fs w t false = record { current = refl; here = refl; top = refl; bottom = refl; boxes = refl; page = refl; columns = refl; put_back = refl; fit = λ h. h; single = λ h. yes-no (moved p places.Double f (staying parts.Second fs w) w false).state t }
double-spares from i p f fs w t u = absurd i

keep_left-spares : (c : PlainColumn) (w : Work) → w.state.two_columns ≡ true → w.state.first_column ≡ true → Spares w (Pages.keep_left c w)
keep_left-spares c w t f = record { current = refl; here = refl; top = refl; bottom = refl; boxes = refl; page = refl; columns = refl; put_back = refl; fit = λ h. subst (λ x. ColumnsFit x false (Some c)) (sym t) tt; single = λ h. h }

-- ---- each move of a column

column-spares : {p : Params} {h : Hand} {a : Work} {i : Hand} {b : Work} → ColumnMove p h a i b → Spares a b
column-spares (records_column c w) = records-spares (output c) w
column-spares {p} (ships_column c w t) = ship-spares p (one c) w
column-spares (keeps_left c w t f) = keep_left-spares c w t f
column-spares {p} (ships_pair c w t f) =
    let a = Pages.ship p (pair_sheet p w.state.floats (Pages.left_or c w.state.left_column) c) w in
    spared w a (Pages.without_double a) (ship-spares p _ w) (record { current = refl; here = refl; top = refl; bottom = refl; boxes = refl; page = refl; columns = refl; put_back = refl; fit = λ h. tt; single = λ h. λ e. refl })
column-spares {p} (ships_wide clearing cs w e) =
    spared w (with_floats (with_wide_waiting p (left_floats cs) w.state.floats) w) (Pages.ship_wide p cs w) (waiting-spares (wide_part p) (wide-waits p) (left_floats cs) w) (ship-spares p _ _)
column-spares {p} (places_double f before rest w t e i) = double-spares (wide_part p) (wide-waits p) p f (before ++ rest) w t w.refused
column-spares {b = b} m = record { current = refl; here = refl; top = refl; bottom = refl; boxes = refl; page = refl; columns = refl; put_back = refl; fit = λ h. h; single = λ h. h }

columns-spare : {p : Params} {h i : Hand} {a b : Work} → Moves (ColumnMove p) h a i b → Spares a b
columns-spare x = goes-on (λ h a i b. Spares a b) (λ h w. unchanged w) (λ h i j a b c x y. spared a b c x y) (λ h i a b m. column-spares m) x

pub all_wide-spares : (p : Params) (clearing : Bool) (w : Work) → Spares w (Pages.all_wide_pages p clearing w)
all_wide-spares p clearing w = columns-spare (all_wide-moves p clearing w)

pub all_columns-spares : (p : Params) (clearing : Bool) (w : Work) → Spares w (Columns.all_float_columns p clearing w)
all_columns-spares p clearing w = columns-spare (all_columns-moves p clearing w)

-- ---- a text column

-- it takes the floats at top, at bottom and in the text, and leaves the double and the current list, the columns and what is put back
pub record TakesText (a c : Work) : Type 0 where
  pub columns : c.state.two_columns ≡ a.state.two_columns
  pub current : c.state.floats.current ≡ a.state.floats.current
  pub here : c.state.floats.here ≡ []
  pub page : c.state.held_page ≡ a.state.held_page
  pub put_back : c.put_back ≡ a.put_back
  pub single : Single a.state → Single c.state

text-takes : (w a : Work) → Spares (Columns.without_column_floats w) a → TakesText w a
text-takes w a x = record { columns = x.columns; current = x.current; here = x.here; page = x.page; put_back = x.put_back; single = λ h. x.single h }

pub put_out_text-takes : (p : Params) (body : List PlainNode) (w : Work) → TakesText w (Columns.put_out_text p body w)
put_out_text-takes p body w = text-takes w _ (columns-spare (put_out-moves p (Columns.text_of p w.state body) (Columns.without_column_floats w)))

-- deferred floats that go to the top and bottom of a column
top-takes : (p : Params) (w₀ : Work) (f : Float) (fs : List Float) (w : Work) → TakesText w₀ w → (t : Bool) → TakesText w₀ (moved p places.Top f (staying parts.Deferred fs w) w t)
top-takes p w₀ f fs w h true = record { columns = h.columns; current = h.current; here = h.here; page = h.page; put_back = h.put_back; single = h.single }
top-takes p w₀ f fs w h false = record { columns = h.columns; current = h.current; here = h.here; page = h.page; put_back = h.put_back; single = h.single }

bottom-takes : (p : Params) (w₀ : Work) (f : Float) (fs : List Float) (w : Work) → TakesText w₀ w → (t : Bool) → TakesText w₀ (moved p places.Bottom f (staying parts.Deferred fs w) w t)
bottom-takes p w₀ f fs w h true = record { columns = h.columns; current = h.current; here = h.here; page = h.page; put_back = h.put_back; single = h.single }
bottom-takes p w₀ f fs w h false = record { columns = h.columns; current = h.current; here = h.here; page = h.page; put_back = h.put_back; single = h.single }

-- each move that fills a column
fill-takes : {p : Params} (w₀ : Work) {h : Hand} {a : Work} {i : Hand} {b : Work} → FillMove p h a i b → TakesText w₀ a → TakesText w₀ b
fill-takes {p} w₀ (places_next at_top f before rest w c e i) h = top-takes p w₀ f (before ++ rest) w h w.refused
fill-takes {p} w₀ (places_next at_bottom f before rest w c e i) h = bottom-takes p w₀ f (before ++ rest) w h w.refused
fill-takes w₀ (places_next deferred f before rest w c e i) h = absurd c

-- an ordinary firing
pub ordinary-takes : (p : Params) (body : List PlainNode) (w : Work) → TakesText w (Columns.ordinary p body w)
ordinary-takes p body w =
    let b = Columns.all_float_columns p false (Columns.put_out_text p body w) in
    let x : TakesText w b = text-takes w b (columns-spare (text_columns-moves p (Columns.text_of p w.state body) (Columns.without_column_floats w))) in
    holds-on (λ h v. TakesText w v) (λ h i a b m. fill-takes w m) (fill_column-moves p b) x
