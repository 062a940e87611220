-- What is told of a firing names floats and notes of its state alone, whose names have no line feed.
use Rattle.std.proofs.Common.{◌≡◌, refl, ℕ, zero, suc, ℤ, ◌+ℤ◌, ◌-ℤ◌, Bool, true, false, List, [], ◌∷◌, ◌++◌, map, length, Option, Some, None}
use Rattle.std.specs.Prelude.{not, ◌==◌, int_le, if◌then◌else◌}
use Rattle.std.specs.Bool.{beq}
use Rattle.std.specs.List.{AllByRecursion}
use Rattle.tb_break.proofs.EachLemmas.{all-join}
use Rattle.tb_scaled.specs.Scaled.{max_ℤ, eject_penalty}
use Rattle.tb_scaled.specs.Glue.{filling_glue}
use Rattle.tb_node.specs.declared.Float.{Float}
use Rattle.tb_node.specs.declared.Where.{Where}
use Rattle.tb_node.specs.declared.Where.TheVariants as places
use Rattle.tb_node.specs.PlainNodes.{PlainNode, node_shape, skip, made}
use Rattle.tb_node.specs.Sums.{size_of, last_depth}
use Rattle.tb_param.specs.declared.Params.{Params}
use Rattle.tb_builder.specs.FiredPages.{Fired}
use Rattle.tb_float.specs.declared.Entry.{Entry}
use Rattle.tb_float.specs.declared.Entry.TheVariants as entries
use Rattle.tb_float.specs.declared.Part.{Part}
use Rattle.tb_float.specs.declared.Part.TheVariants as parts
use Rattle.tb_float.specs.declared.Suppress.{Suppress}
use Rattle.tb_float.specs.Lists.{FloatLists, IsWaiting, has_class, with_floats_of, wide_part, wide_waiting}
use Rattle.tb_float.specs.Rooms.{column_height_of}
use Rattle.tb_float.proofs.WaitingLemmas.{wide-waits}
use Rattle.tb_area.specs.Area.{at_top, where_of, next_place, double_place, text_minimum, next_separator, tries_top}
use Rattle.tb_fpage.specs.declared.Wanted.{Wanted}
use Rattle.tb_fpage.specs.Company.{Choice, company, passed_over, joins, choices_from, company_of_head, is_made, chosen_floats, left_floats}
use Rattle.tb_column.specs.Column.{PlainColumn, Notes, standing_notes, single_floats_column}
use Rattle.tb_sheet.specs.Sheet.{pair_sheet}
use Rattle.tb_told.specs.Tested.{all_hold, first_of_class, first_float}
use Rattle.tb_told.specs.declared.Told.{Told}
use Rattle.tb_told.specs.declared.Told.TheVariants.{Goes}
use Rattle.tb_told.specs.AreaTold.{enter_tests, here_tests, top_tests, told_bottom, told_areas, told_column, told_call, told_next, told_wide}
use Rattle.tb_told.specs.declared.ToldColumn.{ToldColumn}
use Rattle.tb_told.specs.declared.ToldColumn.TheVariants.{Joins, Companied, Takes}
use Rattle.tb_told.specs.ColumnTold.{alone_tests, joins_told, made_told, if_of_width, told_joins, told_made, told_head, told_float, told_from, told_column as told_of_column}
use Rattle.tb_told.specs.declared.Spot.{Spot}
use Rattle.tb_told.specs.declared.Tale.{Tale}
use Rattle.tb_told.specs.declared.Tale.TheVariants.{Begins, InColumn, Stands, PutOut}
use Rattle.tb_told.specs.declared.Piece.{Piece}
use Rattle.tb_told.specs.declared.Piece.TheVariants.{Says, NextSent}
use Rattle.tb_told.specs.Tales.{tales, decisions, has_width, column_tales, back_tales, here_lines, stands_tales}
use Rattle.tb_output.specs.State.{State, Work, begun, footnotes, output, puts, records_also, with_floats}
use Rattle.tb_output.specs.FloatMoves.{is_placed, place_float, still_deferred, place_waiting}
use Rattle.tb_output.specs.Pages.{ship, wide_wanted, ship_wide, all_wide_pages, left_or, without_double, with_deferred}
use Rattle.tb_output.specs.Columns.{text_of, put_out_text, put_out_company, single_wanted, all_float_columns, without_column_floats}
use Rattle.tb_output.specs.Clear.{without_notes, cleared_front, deferred_again, double_again}
use Rattle.tb_output.specs.Text.{without_firing_box, notes_height, list_back}
use Rattle.tb_sheet.specs.Asked.{clear_penalty, par_penalty, vert_penalty}
use Rattle.tb_output.specs.Output.{is_int, after_page}
use Rattle.tb_output.proofs.StepLaws.Moves.{takes_company, ships_wide, takes_text, fills_text, keeps_front, gathers}
use Rattle.tb_output.proofs.StepLaws.FiringTree.{all_wide-moves, put_out-moves, put_out_text-moves, all_columns-moves}
use Rattle.tb_why.specs.Firing.{unless_over, spot_of, ship_pieces, wide_pieces_by, wide_pieces, all_wide_pieces, double_pieces, fill_double_pieces, after_pair, pair_pieces, put_out_pieces_by, put_out_pieces, text_pieces, company_pieces, float_pieces_by, float_pieces, all_float_pieces, next_pieces, fill_pieces, start_pieces, ordinary_pieces, clear_wide_pieces, clear_columns_pieces, clear_floats_pieces, clear_pieces_by, first_tales, text_tales, text_float_pieces, firing_pieces}
use Rattle.tb_why.specs.PlainNames.{IsPlainFloat, IsPlainBlocker, IsPlainTold, IsPlainColumn, IsPlainTale}
use Rattle.tb_why.proofs.PlainRuns.CleanNodes.{CleanFloats, CleanNodes, CleanFired}
use Rattle.tb_why.proofs.PlainRuns.CleanWorks.{emptied, CleanLists, CleanEntries, CleanState, CleanWork, floats-join, waiting, goes-to, work-if, records-more, pair-ships, wide-again, column-clean, page-clean, columns-clean, pages-clean}

-- ---- lists of what is told

abbrev AreTold : List Told → Type 0
AreTold ts = AllByRecursion IsPlainTold ts

abbrev AreColumn : List ToldColumn → Type 0
AreColumn ts = AllByRecursion IsPlainColumn ts

abbrev AreTales : List Tale → Type 0
AreTales ts = AllByRecursion IsPlainTale ts

abbrev pub CleanPiece : Piece → Type 0
CleanPiece (Says t) = IsPlainTale t
CleanPiece NextSent = Unit {0}

abbrev pub CleanPieces : List Piece → Type 0
CleanPieces ps = AllByRecursion CleanPiece ps

says : (ts : List Tale) → AreTales ts → CleanPieces (tales ts)
says [] h = tt
says (t ∷ ts) h = (h.0, says ts h.1)

join : (ps qs : List Piece) → CleanPieces ps → CleanPieces qs → CleanPieces (ps ++ qs)
join ps qs h k = all-join CleanPiece ps qs h k

pieces-if : (t : Bool) (ps qs : List Piece) → CleanPieces ps → CleanPieces qs → CleanPieces (if t then ps else qs)
pieces-if true ps qs h k = h
pieces-if false ps qs h k = k

unless : (w : Work) (ps : List Piece) → CleanPieces ps → CleanPieces (unless_over w ps)
unless w ps h = pieces-if w.refused [] ps tt h

tells : (w : Work) (ts : List Tale) → AreTales ts → CleanPieces (unless_over w (tales ts))
tells w ts h = unless w (tales ts) (says ts h)

decides : (f : Float) (ts : List Told) → IsPlainFloat f → AreTold ts → AreTales (decisions f ts)
decides f [] h k = tt
decides f (t ∷ ts) h k = ((h, k.0), decides f ts h k.1)

-- ---- floats in the way

blocker-if : (t : Bool) (a b : Option Float) → IsPlainBlocker a → IsPlainBlocker b → IsPlainBlocker (if t then a else b)
blocker-if true a b h k = h
blocker-if false a b h k = k

first-plain : (k : ℕ) (fs : List Float) → CleanFloats fs → IsPlainBlocker (first_of_class k fs)
first-plain k [] h = tt
first-plain k (f ∷ fs) h = blocker-if (f.class == k) (Some f) (first_of_class k fs) h.0 (first-plain k fs h.1)

either-plain : (a b : Option Float) → IsPlainBlocker a → IsPlainBlocker b → IsPlainBlocker (first_float a b)
either-plain None b h k = k
either-plain (Some f) b h k = h

-- ---- decisions

told-if : (t : Bool) (xs ys : List Told) → AreTold xs → AreTold ys → AreTold (if t then xs else ys)
told-if true xs ys h k = h
told-if false xs ys h k = k

module _ (p : Params) (l : FloatLists) (s : Suppress) (k : CleanLists l) where
  bottom-told : (r : ℤ) (f : Float) → AreTold (told_bottom p l s r f)
  bottom-told r f = (tt, (tt, tt))

  areas-told : (r : ℤ) (f : Float) → AreTold (told_areas p l s r f)
  areas-told r f =
      let above = r +ℤ next_separator p l.top in
      let low = if tries_top p l s f then above else r in (
        either-plain (first_of_class f.class l.here) (first_of_class f.class l.bottom) (first-plain f.class l.here k.6) (first-plain f.class l.bottom k.2),
        told-if (all_hold (top_tests p l s above f)) (Goes (where_of at_top) ∷ []) (told_bottom p l s low f) (tt, tt) (bottom-told low f),
      )

  column-told : (r : ℤ) (f : Float) → AreTold (told_column p l s r f)
  column-told r f =
      let inside = r +ℤ p.intextsep.width in
      let to = if f.places.h then inside else r in (
        first-plain f.class l.bottom k.2,
        told-if (all_hold (here_tests p l inside f)) (Goes places.Here ∷ []) (if has_class f.class l.bottom then told_bottom p l s r f else told_areas p l s to f) (tt, tt)
            (told-if (has_class f.class l.bottom) (told_bottom p l s r f) (told_areas p l s to f) (bottom-told r f) (areas-told to f)),
      )

  call-told : (h : ℤ) (f : Float) → AreTold (told_call p l s h f)
  call-told h f =
      let r = max_ℤ h (text_minimum p l f) +ℤ f.height in
      (first-plain f.class l.deferred k.3, told-if (all_hold (enter_tests p l s l.deferred r f)) (told_column p l s r f) (Goes places.Deferred ∷ []) (column-told r f) (tt, tt))

  next-told : (before : List Float) (f : Float) → CleanFloats before → AreTold (told_next p l s before f)
  next-told before f b =
      let r = f.height +ℤ text_minimum p l f in
      told-if f.wide [] _ tt
      (first-plain f.class before b, told-if (all_hold (enter_tests p l s before r f)) (told_areas p l s r f) (Goes places.Deferred ∷ []) (areas-told r f) (tt, tt))

  wide-told : (before : List Float) (f : Float) → CleanFloats before → AreTold (told_wide p l s before f)
  wide-told before f b = told-if f.wide _ [] (first-plain f.class before b, (tt, tt)) tt

-- ---- columns of floats

abbrev CleanChoices : List Choice → Type 0
CleanChoices cs = AllByRecursion (λ c. IsPlainFloat c.float) cs

floats-if : (t : Bool) (xs ys : List Float) → CleanFloats xs → CleanFloats ys → CleanFloats (if t then xs else ys)
floats-if true xs ys h k = h
floats-if false xs ys h k = k

chosen-clean : (cs : List Choice) → CleanChoices cs → CleanFloats (chosen_floats cs)
chosen-clean [] h = tt
chosen-clean (c ∷ cs) h = let k = chosen-clean cs h.1 in floats-if c.chosen (c.float ∷ chosen_floats cs) (chosen_floats cs) (h.0, k) k

left-clean : (cs : List Choice) → CleanChoices cs → CleanFloats (left_floats cs)
left-clean [] h = tt
left-clean (c ∷ cs) h = let k = left-clean cs h.1 in floats-if c.chosen (left_floats cs) (c.float ∷ left_floats cs) k (h.0, k)

passed-clean : (fs : List Float) → CleanFloats fs → CleanChoices (passed_over fs)
passed-clean [] h = tt
passed-clean (f ∷ fs) h = (h.0, passed-clean fs h.1)

choices-join : (cs : List Choice) (f : Float) (t : Bool) → CleanChoices cs → IsPlainFloat f → CleanChoices (cs ++ record { float = f; chosen = t } ∷ [])
choices-join cs f t h k = all-join (λ c. IsPlainFloat c.float) cs (record { float = f; chosen = t } ∷ []) h (k, tt)

column-join : (xs ys : List ToldColumn) → AreColumn xs → AreColumn ys → AreColumn (xs ++ ys)
column-join xs ys h k = all-join IsPlainColumn xs ys h k

column-if : (t : Bool) (xs ys : List ToldColumn) → AreColumn xs → AreColumn ys → AreColumn (if t then xs else ys)
column-if true xs ys h k = h
column-if false xs ys h k = k

takes-told : (fs : List Float) → CleanFloats fs → AreColumn (map (λ g. Takes g) fs)
takes-told [] h = tt
takes-told (f ∷ fs) h = (h.0, takes-told fs h.1)

module _ (z : Wanted) where
  choices-clean : (before : List Choice) (fs : List Float) → CleanChoices before → CleanFloats fs → CleanChoices (choices_from z before fs)
  choices-clean before [] h k = h
  choices-clean before (f ∷ fs) h k = choices-clean (before ++ record { float = f; chosen = joins z before f } ∷ []) fs (choices-join before f (joins z before f) h k.0) k.1

  joins-told : (before : List Choice) (fs : List Float) → CleanChoices before → CleanFloats fs → AreColumn (told_joins z before fs)
  joins-told before [] h k = tt
  joins-told before (f ∷ fs) h k =
      let next = before ++ record { float = f; chosen = joins z before f } ∷ [] in
      column-join (if_of_width z f (Joins f (joins_told z before f))) (told_joins z next fs)
      (column-if (beq f.wide z.wide) (Joins f (joins_told z before f) ∷ []) [] ((k.0, first-plain f.class (left_floats before) (left-clean before h)), tt) tt)
      (joins-told next fs (choices-join before f (joins z before f) h k.0) k.1)

  head-told : (before : List Float) (f : Float) (fs : List Float) (later : List ToldColumn) → CleanFloats before → IsPlainFloat f → CleanFloats fs → AreColumn later → AreColumn (told_head z before f fs later)
  head-told before f fs later b h k g =
      let cs = company_of_head z before f fs in
      let head = passed_over before ++ record { float = f; chosen = true } ∷ [] in
      let headed = choices-join (passed_over before) f true (passed-clean before b) h in
      column-if (is_made z cs) (told_made z before f fs) (Companied f (made_told z cs) ∷ later)
      (column-join (told_joins z head fs) (Companied f (made_told z cs) ∷ map (λ g. Takes g) (chosen_floats cs)) (joins-told head fs headed k)
      (h, takes-told (chosen_floats cs) (chosen-clean cs (choices-clean head fs headed k)))) (h, g)

  from-told : (before fs : List Float) → CleanFloats before → CleanFloats fs → AreColumn (told_from z before fs)
  from-told before [] b k = tt
  from-told before (f ∷ fs) b k =
      let later = told_from z (before ++ f ∷ []) fs in
      let g = from-told (before ++ f ∷ []) fs (floats-join before (f ∷ []) b (k.0, tt)) k.1 in
      column-if (beq f.wide z.wide) (told_float z before f fs later) later
      ((k.0, first-plain f.class before b), column-if (all_hold (alone_tests z before f)) (told_head z before f fs later) later (head-told before f fs later b k.0 k.1 g) g) g

in-column : (ts : List ToldColumn) → AreColumn ts → AreTales (map (λ t. InColumn t) ts)
in-column [] h = tt
in-column (t ∷ ts) h = (h.0, in-column ts h.1)

column-tales : (at : Spot) (z : Wanted) (fs : List Float) → CleanFloats fs → AreTales (column_tales at z fs)
column-tales at z fs h = by_width (has_width z.wide fs)
  where
    by_width : (t : Bool) → AreTales (if t then Begins at z ∷ map (λ t. InColumn t) (told_of_column z fs) else [])
    by_width true = (tt, in-column (told_of_column z fs) (from-told z [] fs tt h))
    by_width false = tt

back-tales : (place : Where) (fs : List Float) → CleanFloats fs → AreTales (back_tales place fs)
back-tales place [] h = tt
back-tales place (f ∷ fs) h = (h.0, back-tales place fs h.1)

stands-tales : (ls : List ℕ) → AreTales (map (λ l. Stands l) ls)
stands-tales [] = tt
stands-tales (l ∷ ls) = (tt, stands-tales ls)

-- ---- along a firing

module _ (p : Params) where
  ship-clean : (w : Work) → CleanPieces (ship_pieces p w)
  ship-clean w = unless w _ (pieces-if _ [] (NextSent ∷ []) tt (tt, tt))

  -- a float that waits goes to its place
  waits : (from : Part) → IsWaiting from → (place : Where) (f : Float) (before rest : List Float) (w : Work) → IsPlainFloat f → CleanFloats before → CleanFloats rest → CleanWork p w → CleanWork p (place_waiting from p place f before rest w)
  waits from q place f before rest w h b r k =
      work-if p (is_placed place) (place_float p place f (with_floats_of from (before ++ rest) w.state.floats) w) w
      (goes-to p place f (with_floats_of from (before ++ rest) w.state.floats) w h (with-part from q) k) k
    where
      with-part : (from : Part) → IsWaiting from → CleanLists (with_floats_of from (before ++ rest) w.state.floats)
      with-part parts.Deferred q = let l = k.0.3 in (l.0, l.1, l.2, floats-join before rest b r, l.4, l.5, l.6)
      with-part parts.Second q = let l = k.0.3 in (l.0, l.1, l.2, l.3, l.4, floats-join before rest b r, l.6)
      with-part from q = absurd q

  stays : (place : Where) (f : Float) (before : List Float) → IsPlainFloat f → CleanFloats before → CleanFloats (still_deferred place f before)
  stays place f before h b = floats-if (is_placed place) before (before ++ f ∷ []) b (floats-join before (f ∷ []) b (h, tt))

  next-clean : (before fs : List Float) (w : Work) → CleanFloats before → CleanFloats fs → CleanWork p w → CleanPieces (next_pieces p before fs w)
  next-clean before [] w b h k = tt
  next-clean before (f ∷ rest) w b h k =
      let place = next_place p w.state.floats w.state.suppress before f in
      let ts = told_next p w.state.floats w.state.suppress before f in
      let v = place_waiting parts.Deferred p place f before rest w in
      join (unless_over w (tales (decisions f ts))) (next_pieces p (still_deferred place f before) rest v)
      (tells w (decisions f ts) (decides f ts h.0 (next-told p w.state.floats w.state.suppress k.0.3 before f b)))
      (next-clean (still_deferred place f before) rest v (stays place f before h.0 b) h.1 (waits parts.Deferred tt place f before rest w h.0 b h.1 k))

  double-clean : (from : Part) → IsWaiting from → (before fs : List Float) (w : Work) → CleanFloats before → CleanFloats fs → CleanWork p w → CleanPieces (double_pieces from p before fs w)
  double-clean from q before [] w b h k = tt
  double-clean from q before (f ∷ rest) w b h k =
      let place = double_place p w.state.floats w.state.suppress before f in
      let ts = told_wide p w.state.floats w.state.suppress before f in
      let v = place_waiting from p place f before rest w in
      join (unless_over w (tales (decisions f ts))) (double_pieces from p (still_deferred place f before) rest v)
      (tells w (decisions f ts) (decides f ts h.0 (wide-told p w.state.floats w.state.suppress k.0.3 before f b)))
      (double-clean from q (still_deferred place f before) rest v (stays place f before h.0 b) h.1 (waits from q place f before rest w h.0 b h.1 k))

  fill_double-clean : (w : Work) → CleanWork p w → CleanPieces (fill_double_pieces p w)
  fill_double-clean w k = double-clean (wide_part p) (wide-waits p) [] (wide_waiting p w.state.floats) w tt (waiting p w.state.floats k.0.3) k

  wide-clean : (clearing : Bool) (n : ℕ) (w : Work) → CleanWork p w → CleanPieces (wide_pieces p clearing n w)
  wide-clean clearing zero w k = tt
  wide-clean clearing (suc n) w k =
      let fs = wide_waiting p w.state.floats in
      let ts = column_tales (spot_of w.state) (wide_wanted p clearing) fs in
      join (unless_over w (tales ts)) _ (tells w ts (column-tales (spot_of w.state) (wide_wanted p clearing) fs (waiting p w.state.floats k.0.3)))
      (by_company (λ v. wide_pieces p clearing n v) (λ v g. wide-clean clearing n v g) (company (wide_wanted p clearing) fs) refl)
    where
      by_company : (again : Work → List Piece) → ((v : Work) → CleanWork p v → CleanPieces (again v)) → (o : Option (List Choice)) → company (wide_wanted p clearing) (wide_waiting p w.state.floats) ≡ o → CleanPieces (wide_pieces_by again p w o)
      by_company again g None e = tt
      by_company again g (Some cs) e =
          join (unless_over w (Says PutOut ∷ [])) (ship_pieces p w ++ again (ship_wide p cs w)) (unless w (Says PutOut ∷ []) (tt, tt))
          (join (ship_pieces p w) (again (ship_wide p cs w)) (ship-clean w) (g (ship_wide p cs w) (column-clean p (ships_wide clearing cs w e) (tt, k)).1))

  all_wide-clean : (clearing : Bool) (w : Work) → CleanWork p w → CleanPieces (all_wide_pieces p clearing w)
  all_wide-clean clearing w k = wide-clean clearing (length (wide_waiting p w.state.floats)) w k

  pair-clean : (c : PlainColumn) (w : Work) → CleanNodes c.nodes → CleanWork p w → CleanPieces (pair_pieces p c w)
  pair-clean c w h k =
      let b = without_double (ship p (pair_sheet p w.state.floats (left_or c w.state.left_column) c) w) in
      let g = pair-ships p c w h k in
      join (ship_pieces p w) (after_pair p b) (ship-clean w)
      (join (all_wide_pieces p false b) (fill_double_pieces p (all_wide_pages p false b)) (all_wide-clean false b g) (fill_double-clean (all_wide_pages p false b) (columns-clean p (all_wide-moves p false b) (tt, g)).1))

  put_out-clean : (c : PlainColumn) (w : Work) → CleanNodes c.nodes → CleanWork p w → CleanPieces (put_out_pieces p c w)
  put_out-clean c w h k =
      let a = records_also (output c) w in
      join (unless_over w (Says PutOut ∷ [])) (put_out_pieces_by p c a) (unless w (Says PutOut ∷ []) (tt, tt))
      (pieces-if (not a.state.two_columns) (ship_pieces p a) (if a.state.first_column then [] else pair_pieces p c a) (ship-clean a)
      (pieces-if a.state.first_column [] (pair_pieces p c a) tt (pair-clean c a h (records-more p (output c) w k))))

  text-clean : (body : List PlainNode) (w : Work) → CleanNodes body → CleanWork p w → CleanPieces (text_pieces p body w)
  text-clean body w h k =
      let c = text_of p w.state body in
      let g = page-clean p (takes_text body w) (h, k) in
      join (unless_over w (tales (stands_tales body))) (put_out_pieces p c (without_column_floats w)) (tells w (stands_tales body) (stands-tales (here_lines body)))
      (put_out-clean c (without_column_floats w) g.0 g.1)

  float-clean : (clearing : Bool) (n : ℕ) (w : Work) → CleanWork p w → CleanPieces (float_pieces p clearing n w)
  float-clean clearing zero w k = tt
  float-clean clearing (suc n) w k =
      let z = single_wanted p w.state.floats clearing in
      let fs = w.state.floats.deferred in
      let ts = column_tales (spot_of w.state) z fs in
      join (unless_over w (tales ts)) _ (tells w ts (column-tales (spot_of w.state) z fs k.0.3.3))
      (by_company (λ v. float_pieces p clearing n v) (λ v g. float-clean clearing n v g) (company z fs) refl)
    where
      by_company : (again : Work → List Piece) → ((v : Work) → CleanWork p v → CleanPieces (again v)) → (o : Option (List Choice)) → company (single_wanted p w.state.floats clearing) w.state.floats.deferred ≡ o → CleanPieces (float_pieces_by again p w o)
      by_company again g None e = tt
      by_company again g (Some cs) e =
          let c = single_floats_column p (column_height_of p w.state.floats) (chosen_floats cs) in
          let v = with_deferred (left_floats cs) w in
          let x = column-clean p (takes_company clearing cs w e) (tt, k) in
          join (company_pieces p cs w) (again (put_out_company p cs w)) (put_out-clean c v x.0 x.1) (g (put_out_company p cs w) (columns-clean p (put_out-moves p c v) x).1)

  all_float-clean : (clearing : Bool) (w : Work) → CleanWork p w → CleanPieces (all_float_pieces p clearing w)
  all_float-clean clearing w k = float-clean clearing (length w.state.floats.deferred) w k

  columns-after : (clearing : Bool) (w : Work) → CleanWork p w → CleanWork p (all_float_columns p clearing w)
  columns-after clearing w k = (columns-clean p (all_columns-moves p clearing w) (tt, k)).1

  ordinary-clean : (body : List PlainNode) (w : Work) → CleanNodes body → CleanWork p w → CleanPieces (ordinary_pieces p body w)
  ordinary-clean body w h k =
      let a = put_out_text p body w in
      let g = (pages-clean p (put_out_text-moves p body w) (h, k)).1 in
      let b = all_float_columns p false a in
      let f = columns-after false a g in
      join (text_pieces p body w) (start_pieces p a) (text-clean body w h k)
      (join (all_float_pieces p false a) (fill_pieces p b) (all_float-clean false a g) (next-clean [] b.state.floats.deferred b tt f.0.3.3 f))

  -- ---- a clear

  clear_wide-clean : (w : Work) → CleanWork p w → CleanPieces (clear_wide_pieces p w)
  clear_wide-clean w k =
      let a = with_floats (double_again p w.state.floats) w in
      let ts = back_tales places.Double w.state.floats.double in
      pieces-if (not w.state.two_columns) [] _ tt
      (pieces-if w.state.first_column (unless_over w (tales ts) ++ all_wide_pieces p true a) []
      (join (unless_over w (tales ts)) (all_wide_pieces p true a) (tells w ts (back-tales places.Double w.state.floats.double k.0.3.4)) (all_wide-clean true a (wide-again p w k))) tt)

  clear_floats-clean : (body : List PlainNode) (w : Work) → CleanNodes body → CleanWork p w → CleanPieces (clear_floats_pieces p body w)
  clear_floats-clean body w h k =
      let z = puts (cleared_front p body) w in
      let a = with_floats (deferred_again w.state.floats) z in
      let g = page-clean p (gathers z) (page-clean p (keeps_front body w) (h, k)) in
      let top = back_tales places.Top w.state.floats.top in
      let bottom = back_tales places.Bottom w.state.floats.bottom in
      join (unless_over w (tales (top ++ bottom))) (clear_columns_pieces p a)
      (tells w (top ++ bottom) (all-join IsPlainTale top bottom (back-tales places.Top w.state.floats.top k.0.3.1) (back-tales places.Bottom w.state.floats.bottom k.0.3.2)))
      (join (all_float_pieces p true a) (clear_wide_pieces p (all_float_columns p true a)) (all_float-clean true a g.1) (clear_wide-clean (all_float_columns p true a) (columns-after true a g.1)))

  clear-clean : (body : List PlainNode) (w : Work) (notes : List Notes) → CleanNodes body → CleanWork p w → CleanPieces (clear_pieces_by p body w notes)
  clear-clean body w [] h k =
      let s = k.0 in
      clear_floats-clean body (without_notes w) h ((s.0, emptied w.state.boxes, s.2, s.3, s.4), k.1, k.2)
  clear-clean body w (n ∷ ns) h k = let g = page-clean p (fills_text body w) (h, k) in text-clean (body ++ made (skip filling_glue) ∷ []) w g.0 g.1

  -- ---- floats and notes in the text

  first-clean : (height page_height : ℤ) (es : List Entry) (s : State) → CleanEntries es → CleanLists s.floats → AreTales (first_tales p height page_height es s)
  first-clean height page_height (entries.Float f ∷ es) s h k =
      (h.0, decides f (Rattle.tb_told.specs.AreaTold.told_call p s.floats s.suppress page_height f) h.0 (call-told p s.floats s.suppress k page_height f))
  first-clean height page_height (entries.Left m ∷ es) s h k = (h.0, tt)
  first-clean height page_height (entries.Right m ∷ es) s h k = tt
  first-clean height page_height [] s h k = tt

  text_float-clean : (body : List PlainNode) (w : Work) → CleanWork p w → CleanPieces (text_float_pieces p body w)
  text_float-clean body w k =
      let ns = w.state.held_page ++ without_firing_box body in
      let shapes = map node_shape ns in
      let depth = last_depth shapes in
      let height = size_of shapes -ℤ depth in
      tells w (text_tales p ns w) (first-clean height (height +ℤ depth +ℤ notes_height (footnotes w.state)) w.state.floats.current (list_back p ns w).state k.0.3.0 k.0.3)

  -- ---- the firing

  pub told-clean : (s : State) (f : Fired) → CleanState s → CleanFired f → CleanPieces (firing_pieces p s f)
  unfolding firing_pieces
  told-clean s f h g =
      let w = begun (after_page s f) in
      let k : CleanWork p w = ((tt, g.boxes, h.2, h.3, h.4), tt, tt) in
      pieces-if (int_le eject_penalty f.penalty) (ordinary_pieces p f.body w) _ (ordinary-clean f.body w g.body k)
      (pieces-if (is_int f.penalty clear_penalty) (clear_pieces_by p f.body w (standing_notes (footnotes w.state))) _ (clear-clean f.body w (standing_notes (footnotes w.state)) g.body k)
      (pieces-if (is_int f.penalty par_penalty) (text_float_pieces p f.body w) _ (text_float-clean f.body w k)
      (pieces-if (is_int f.penalty vert_penalty) (text_float_pieces p f.body w) [] (text_float-clean f.body w k) tt)))
