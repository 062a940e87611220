-- A firing keeps the nodes and floats of the galley: what it sends and leaves has no name with a line feed, if what it began
-- with has none.
use Rattle.std.proofs.Common.{refl, subst, ℕ, ℤ, ◌+ℤ◌, ◌-ℤ◌, Bool, true, false, List, [], ◌∷◌, ◌++◌, map, Option, Some, None}
use Rattle.std.specs.Prelude.{◌==◌, int_le, not, ◌&&◌, if◌then◌else◌}
use Rattle.std.specs.List.{AllByRecursion}
use Rattle.tb_break.proofs.EachLemmas.{all-join}
use Rattle.tb_scaled.specs.declared.Glue.{Glue}
use Rattle.tb_scaled.specs.Glue.{filling_glue}
use Rattle.tb_node.specs.declared.Float.{Float}
use Rattle.tb_node.specs.declared.Margin.{Margin}
use Rattle.tb_node.specs.declared.Where.{Where}
use Rattle.tb_node.specs.declared.Where.TheVariants as places
use Rattle.tb_node.specs.PlainNodes.{skip, Leaf, PlainNode, node_shape, made, blank_box}
use Rattle.tb_param.specs.declared.Params.{Params}
use Rattle.tb_param.specs.Release.{has_second}
use Rattle.tb_insert.specs.declared.Class.{Class}
use Rattle.tb_builder.specs.FiredPages.{Boxed, box_content, Fired}
use Rattle.tb_float.specs.declared.Entry.{Entry}
use Rattle.tb_float.specs.declared.Entry.TheVariants as entries
use Rattle.tb_float.specs.declared.Part.TheVariants as parts
use Rattle.tb_float.specs.Lists.{FloatLists, floats_of, with_floats_of, wide_waiting, with_wide_waiting}
use Rattle.tb_float.specs.Rooms.{column_height_of, column_room_of}
use Rattle.tb_fpage.proofs.FirstLemmas.{company-all}
use Rattle.tb_fpage.specs.Company.{chosen_floats, left_floats}
use Rattle.tb_column.specs.Column.{Notes, standing_notes, enlarged_of, PlainColumn, wide_floats_column}
use Rattle.tb_sheet.specs.Sheet.{PlainSheet, one, wide, pair_sheet, PlainSent, warned, shipped}
use Rattle.tb_area.specs.Area.{where_of, current_place}
use Rattle.tb_margin.specs.declared.Placed.{Placed}
use Rattle.tb_margin.specs.Margin.{placed_note}
use Rattle.tb_sheet.specs.declared.Warn.TheVariants as warnings
use Rattle.tb_node.specs.Sums.{size_of, last_depth}
use Rattle.tb_scaled.specs.Scaled.{max_dimen, eject_penalty}
use Rattle.tb_output.specs.State.{State, Work, Recorded, placed, output, begun, puts, sends, records_also, with_floats, with_notes, notes_in, footnotes}
use Rattle.tb_output.specs.FloatMoves.{joined_to, is_placed, place_float}
use Rattle.tb_output.specs.Pages.{ship, wide_wanted, left_or, without_double}
use Rattle.tb_output.specs.Columns.{emptied_boxes, single_wanted, ordinary}
use Rattle.tb_output.specs.Text.{penalty_nodes, penalty_between, puts_interline, without_firing_box, notes_nodes, notes_height, list_back, here_nodes, only_here, with_top, defer, float_goes, note_nodes, moved_warning, with_note_bottom, note_goes, first_goes, float_or_note}
use Rattle.tb_sheet.specs.Asked.{clear_penalty, par_penalty, vert_penalty, hold_penalty}
use Rattle.tb_output.specs.Clear.{clear_again, cleared_front, deferred_again, double_again, clear}
use Rattle.tb_output.specs.Output.{is_int, hold, output_by, with_goal, blank_column, is_crowded, leave_column, goal_by, next_goal, after_page, out}
use Rattle.tb_output.specs.Firing.{page_work}
use Rattle.tb_output.proofs.StepLaws.RefusedSteps.{by-sends, by-records, by-ship}
use Rattle.tb_output.proofs.StepLaws.Moves.{Hand, nothing, of_text, of_column, of_float, of_note, ColumnMove, takes_company, records_column, ships_column, keeps_left, ships_pair, ends_column, ships_wide, places_double, places_next, PageMove, by_column, by_fill, takes_text, fills_text, drops_notes, keeps_front, gathers, gathers_wide, leaves_second, clears_again, Moves, holds-on}
use Rattle.tb_output.proofs.StepLaws.FiringTree.{ordinary-moves, clear_by-moves}
use Rattle.tb_why.specs.PlainNames.{IsPlainFloat, IsPlainWarning}
use Rattle.tb_why.proofs.PlainRuns.CleanNodes.{CleanFloats, CleanNote, CleanNodes, nodes-join, nodes-take, CleanContent, CleanBoxes, CleanFired, floats-column, CleanNotes, standing-clean, text-clean, pair-clean, CleanSheet}

-- ---- states

-- a note is taken by its left box
abbrev pub CleanEntry : Entry → Type 0
CleanEntry (entries.Float f) = IsPlainFloat f
CleanEntry (entries.Left m) = CleanNote m
CleanEntry (entries.Right m) = Unit {0}

abbrev pub CleanEntries : List Entry → Type 0
CleanEntries es = AllByRecursion CleanEntry es

-- the floats of each list
abbrev pub CleanLists : FloatLists → Type 0
CleanLists l = CleanEntries l.current × CleanFloats l.top × CleanFloats l.bottom × CleanFloats l.deferred × CleanFloats l.double × CleanFloats l.second × CleanFloats l.here

abbrev pub CleanLeft : Option PlainColumn → Type 0
CleanLeft None = Unit {0}
CleanLeft (Some c) = CleanNodes c.nodes

abbrev pub CleanState : State → Type 0
CleanState s = CleanNodes s.waiting × CleanBoxes s.boxes × CleanNodes s.held_page × CleanLists s.floats × CleanLeft s.left_column

-- ---- lists of floats

pub floats-join : (xs ys : List Float) → CleanFloats xs → CleanFloats ys → CleanFloats (xs ++ ys)
floats-join xs ys h k = all-join IsPlainFloat xs ys h k

joined : (place : Where) (f : Float) (l : FloatLists) → IsPlainFloat f → CleanLists l → CleanLists (joined_to place f l)
joined places.Here f l h k = (k.0, k.1, k.2, k.3, k.4, k.5, floats-join l.here (f ∷ []) k.6 (h, tt))
joined places.Top f l h k = (k.0, floats-join l.top (f ∷ []) k.1 (h, tt), k.2, k.3, k.4, k.5, k.6)
joined places.Bottom f l h k = (k.0, k.1, floats-join l.bottom (f ∷ []) k.2 (h, tt), k.3, k.4, k.5, k.6)
joined places.Page f l h k = k
joined places.Double f l h k = (k.0, k.1, k.2, k.3, floats-join l.double (f ∷ []) k.4 (h, tt), k.5, k.6)
joined places.Deferred f l h k = (k.0, k.1, k.2, floats-join l.deferred (f ∷ []) k.3 (h, tt), k.4, k.5, k.6)

pub waiting : (p : Params) (l : FloatLists) → CleanLists l → CleanFloats (wide_waiting p l)
waiting p l h = by_release (has_second p)
  where
    by_release : (t : Bool) → CleanFloats (floats_of (if t then parts.Second else parts.Deferred) l)
    by_release true = h.5
    by_release false = h.3

pub with-waiting : (p : Params) (fs : List Float) (l : FloatLists) → CleanFloats fs → CleanLists l → CleanLists (with_wide_waiting p fs l)
with-waiting p fs l g h = by_release (has_second p)
  where
    by_release : (t : Bool) → CleanLists (with_floats_of (if t then parts.Second else parts.Deferred) fs l)
    by_release true = (h.0, h.1, h.2, h.3, h.4, g, h.6)
    by_release false = (h.0, h.1, h.2, g, h.4, h.5, h.6)

-- ---- the insertions of a page

box-content : (bs : List Boxed) (k : ℕ) → CleanBoxes bs → CleanContent (box_content bs k)
box-content [] k h = tt
box-content (b ∷ bs) k h = by_class (b.number == k) (box-content bs k h.1)
  where
    by_class : (t : Bool) → CleanContent (box_content bs k) → CleanContent (if t then b.content else box_content bs k)
    by_class true g = h.0
    by_class false g = g

one-class : (c : Class) (o : Option (List Leaf)) (ns : List Notes) → CleanContent o → CleanNotes ns → CleanNotes (with_notes c o ns)
one-class c None ns h k = k
one-class c (Some inner) ns h k = (h, k)

notes-of : (cs : List Class) (bs : List Boxed) → CleanBoxes bs → CleanNotes (notes_in cs bs)
notes-of [] bs h = tt
notes-of (c ∷ cs) bs h = one-class c (box_content bs c.number) (notes_in cs bs) (box-content bs c.number h) (notes-of cs bs h)

pub emptied : (bs : List Boxed) → CleanBoxes (emptied_boxes bs)
emptied [] = tt
emptied (b ∷ bs) = (tt, emptied bs)

-- ---- a firing at work

module _ (p : Params) where
  abbrev pub CleanSent : PlainSent → Type 0
  CleanSent (warned w) = IsPlainWarning w
  CleanSent (shipped number sheet) = CleanSheet sheet

  abbrev pub CleanWork : Work → Type 0
  CleanWork w = CleanState w.state × CleanNodes w.put_back × AllByRecursion CleanSent w.sent

  abbrev pub CleanHand : Hand → Type 0
  CleanHand nothing = Unit {0}
  CleanHand (of_text body) = CleanNodes body
  CleanHand (of_column c) = CleanNodes c.nodes
  CleanHand (of_float f) = IsPlainFloat f
  CleanHand (of_note m at) = CleanNote m

  abbrev pub Clean : Hand → Work → Type 0
  Clean h w = CleanHand h × CleanWork w

  pub work-if : (t : Bool) (a b : Work) → CleanWork a → CleanWork b → CleanWork (if t then a else b)
  work-if true a b h k = h
  work-if false a b h k = k

  puts-more : (ns : List PlainNode) (w : Work) → CleanNodes ns → CleanWork w → CleanWork (puts ns w)
  puts-more ns w h k = (k.0, nodes-join w.put_back ns k.1 h, k.2)

  sends-more : (e : PlainSent) (w : Work) → CleanSent e → CleanWork w → CleanWork (sends e w)
  sends-more e w h k = by-sends CleanWork e w k (k.0, k.1, all-join CleanSent w.sent (e ∷ []) k.2 (h, tt))

  pub records-more : (r : Recorded) (w : Work) → CleanWork w → CleanWork (records_also r w)
  records-more r w k = by-records CleanWork r w k k

  pub has-floats : (l : FloatLists) (w : Work) → CleanLists l → CleanWork w → CleanWork (with_floats l w)
  has-floats l w h k = ((k.0.0, k.0.1, k.0.2, h, k.0.4), k.1, k.2)

  -- ---- floats

  pub goes-to : (place : Where) (f : Float) (l : FloatLists) (w : Work) → IsPlainFloat f → CleanLists l → CleanWork w → CleanWork (place_float p place f l w)
  goes-to place f l w h k g =
      has-floats (joined_to place f l) (if is_placed place then records_also (placed p f place w.state.floats (column_height_of p w.state.floats)) w else w) (joined place f l h k)
      (work-if (is_placed place) (records_also (placed p f place w.state.floats (column_height_of p w.state.floats)) w) w (records-more _ w g) g)

  taken-out : (before : List Float) (f : Float) (rest : List Float) → CleanFloats (before ++ f ∷ rest) → IsPlainFloat f × CleanFloats (before ++ rest)
  taken-out [] f rest h = h
  taken-out (g ∷ before) f rest h = let k = taken-out before f rest h.1 in (k.0, (h.0, k.1))

  -- ---- pages

  pub ships : (sheet : PlainSheet) (w : Work) → CleanSheet sheet → CleanWork w → CleanWork (ship p sheet w)
  ships sheet w h k = by-ship CleanWork p sheet w (λ r. k) (λ r. k) (λ r e. (k.0, k.1, all-join CleanSent w.sent (shipped w.state.number sheet ∷ []) k.2 (h, tt)))

  pub left-column : (c : PlainColumn) (o : Option PlainColumn) → CleanNodes c.nodes → CleanLeft o → CleanNodes (left_or c o).nodes
  left-column c None h k = h
  left-column c (Some d) h k = k

  pub without-double : (w : Work) → CleanWork w → CleanWork (without_double w)
  without-double w k = ((k.0.0, k.0.1, k.0.2, (k.0.3.0, k.0.3.1, k.0.3.2, k.0.3.3, tt, k.0.3.5, k.0.3.6), tt), k.1, k.2)

  -- the page of two columns
  pub pair-ships : (c : PlainColumn) (w : Work) → CleanNodes c.nodes → CleanWork w → CleanWork (without_double (ship p (pair_sheet p w.state.floats (left_or c w.state.left_column) c) w))
  pair-ships c w h k =
      let sheet = pair_sheet p w.state.floats (left_or c w.state.left_column) c in
      without-double (ship p sheet w) (ships sheet w (pair-clean p w.state.floats k.0.3.4, left-column c w.state.left_column h k.0.4, h) k)

  -- the floats above both columns wait again
  pub wide-again : (w : Work) → CleanWork w → CleanWork (with_floats (double_again p w.state.floats) w)
  wide-again w k =
      let l = k.0.3 in
      has-floats (double_again p w.state.floats) w (with-waiting p (w.state.floats.double ++ wide_waiting p w.state.floats) (record w.state.floats { double = [] }) (floats-join w.state.floats.double (wide_waiting p w.state.floats) l.4 (waiting p w.state.floats l)) (l.0, l.1, l.2, l.3, tt, l.5, l.6)) k

  -- ---- what goes back

  penalties : (n : ℤ) (o : Option Glue) → CleanNodes (penalty_nodes n o)
  penalties n None = (tt, tt)
  penalties n (Some g) = (tt, (tt, (tt, tt)))

  between : (n : ℤ) (nobreak : Bool) (ns : List PlainNode) → CleanNodes (penalty_between n nobreak ns)
  between n true ns = (tt, tt)
  between n false ns = penalties n _

  notes-back : (ns : List Notes) → CleanNotes ns → CleanNodes (notes_nodes p ns)
  notes-back [] h = tt
  notes-back (n ∷ ns) h = (h.0, notes-back ns h.1)

  stands : (vert : Bool) (f : Float) → IsPlainFloat f → CleanNodes (here_nodes p vert f)
  stands true f h = (tt, (h, (tt, (tt, (tt, tt)))))
  stands false f h = (tt, (h, (tt, (tt, tt))))

  clear-nodes : CleanNodes clear_again
  clear-nodes = (tt, (tt, (tt, (tt, (tt, tt)))))

  blank-nodes : (two : Bool) → CleanNodes (if two then blank_column ++ blank_column else blank_column)
  blank-nodes true = (tt, (tt, (tt, (tt, tt))))
  blank-nodes false = (tt, (tt, tt))

  -- ---- each move

  pub column-clean : {h : Hand} {a : Work} {i : Hand} {b : Work} → ColumnMove p h a i b → Clean h a → Clean i b
  column-clean (takes_company clearing cs w e) k =
      let c = company-all IsPlainFloat (single_wanted p w.state.floats clearing) w.state.floats.deferred cs e k.1.0.3.3 in
      let l = k.1.0.3 in
      (floats-column (column_height_of p w.state.floats) p.fptop p.fpsep p.fpbot (chosen_floats cs) c.0, has-floats (record w.state.floats { deferred = left_floats cs }) w (l.0, l.1, l.2, c.1, l.4, l.5, l.6) k.1)
  column-clean (records_column c w) k = (k.0, records-more (output c) w k.1)
  column-clean (ships_column c w t) k = (tt, ships (one c) w k.0 k.1)
  column-clean (keeps_left c w t f) k = (tt, ((k.1.0.0, k.1.0.1, k.1.0.2, k.1.0.3, k.0), k.1.1, k.1.2))
  column-clean (ships_pair c w t f) k = (tt, pair-ships c w k.0 k.1)
  column-clean (ends_column w) k = k
  column-clean (ships_wide clearing cs w e) k =
      let c = company-all IsPlainFloat (wide_wanted p clearing) (wide_waiting p w.state.floats) cs e (waiting p w.state.floats k.1.0.3) in
      let l = with_wide_waiting p (left_floats cs) w.state.floats in
      (tt, ships (wide (wide_floats_column p p.textheight (chosen_floats cs))) (with_floats l w) (floats-column p.textheight p.dblfptop p.dblfpsep p.dblfpbot (chosen_floats cs) c.0) (has-floats l w (with-waiting p (left_floats cs) w.state.floats c.1 k.1.0.3) k.1))
  column-clean (places_double f before rest w two e i) k =
      let g = taken-out before f rest (subst CleanFloats e (waiting p w.state.floats k.1.0.3)) in
      (tt, goes-to places.Double f (with_wide_waiting p (before ++ rest) w.state.floats) w g.0 (with-waiting p (before ++ rest) w.state.floats g.1 k.1.0.3) k.1)

  pub page-clean : {h : Hand} {a : Work} {i : Hand} {b : Work} → PageMove p h a i b → Clean h a → Clean i b
  page-clean (by_column m) k = column-clean m k
  page-clean (by_fill (places_next a f before rest w c e i)) k =
      let l = k.1.0.3 in
      let g = taken-out before f rest (subst CleanFloats e l.3) in
      (tt, goes-to (where_of a) f (record w.state.floats { deferred = before ++ rest }) w g.0 (l.0, l.1, l.2, g.1, l.4, l.5, l.6) k.1)
  page-clean (takes_text body w) k =
      let s = k.1.0 in
      (text-clean p w.state.floats body (standing_notes (footnotes w.state)) (enlarged_of w.state.shrink (footnotes w.state)) s.3.1 s.3.2 k.0 (standing-clean (footnotes w.state) (notes-of w.state.classes w.state.boxes s.1)), ((s.0, emptied w.state.boxes, s.2, (s.3.0, tt, tt, s.3.3, s.3.4, s.3.5, tt), s.4), k.1.1, k.1.2))
  page-clean (fills_text body w) k = (nodes-join body (made (skip filling_glue) ∷ []) k.0 (tt, tt), k.1)
  page-clean (drops_notes body w none) k =
      let s = k.1.0 in
      (k.0, ((s.0, emptied w.state.boxes, s.2, s.3, s.4), k.1.1, k.1.2))
  page-clean (keeps_front body w) k = (tt, puts-more (cleared_front p body) w (nodes-take _ body k.0) k.1)
  page-clean (gathers w) k =
      let l = k.1.0.3 in
      (tt, has-floats (deferred_again w.state.floats) w (l.0, tt, tt, floats-join (w.state.floats.top ++ w.state.floats.bottom) w.state.floats.deferred (floats-join w.state.floats.top w.state.floats.bottom l.1 l.2) l.3, l.4, l.5, l.6) k.1)
  page-clean (gathers_wide w t f) k = (tt, wide-again w k.1)
  page-clean (leaves_second w t f) k = (tt, puts-more (made blank_box ∷ clear_again) w (tt, clear-nodes) k.1)
  page-clean (clears_again w) k = (tt, puts-more clear_again w clear-nodes k.1)

  -- moves of a column, and of a page
  pub columns-clean : {h i : Hand} {a b : Work} → Moves (ColumnMove p) h a i b → Clean h a → Clean i b
  columns-clean x k = holds-on Clean (λ h i a b m. column-clean m) x k

  pub pages-clean : {h i : Hand} {a b : Work} → Moves (PageMove p) h a i b → Clean h a → Clean i b
  pages-clean x k = holds-on Clean (λ h i a b m. page-clean m) x k

  -- ---- floats and notes in the text

  interline : (nobreak : Bool) (w : Work) → CleanWork w → CleanWork (puts_interline p nobreak w)
  interline nobreak w k = puts-more (penalty_between p.interlinepenalty nobreak w.put_back) w (between p.interlinepenalty nobreak w.put_back) k

  defers : (f : Float) (left : FloatLists) (w : Work) → IsPlainFloat f → CleanLists left → CleanWork w → CleanWork (defer p f left w)
  defers f left w h k g =
      work-if (only_here f) (sends (warned (warnings.Ht f.name)) (place_float p places.Deferred (with_top f) left w)) (place_float p places.Deferred f left w)
      (sends-more (warned (warnings.Ht f.name)) (place_float p places.Deferred (with_top f) left w) h (goes-to places.Deferred (with_top f) left w h k g))
      (goes-to places.Deferred f left w h k g)

  float-goes : (vert : Bool) (f : Float) (left : FloatLists) (w : Work) (place : Where) → IsPlainFloat f → CleanLists left → CleanWork w → CleanWork (float_goes p vert f left w place)
  float-goes vert f left w places.Here h k g =
      let a = place_float p places.Here f left w in
      puts-more (here_nodes p vert f) (puts_interline p f.nobreak a) (stands vert f h) (interline f.nobreak a (goes-to places.Here f left w h k g))
  float-goes vert f left w places.Top h k g = interline f.nobreak (place_float p places.Top f left w) (goes-to places.Top f left w h k g)
  float-goes vert f left w places.Bottom h k g = interline f.nobreak (place_float p places.Bottom f left w) (goes-to places.Bottom f left w h k g)
  float-goes vert f left w places.Page h k g = interline f.nobreak (defer p f left w) (defers f left w h k g)
  float-goes vert f left w places.Double h k g = interline f.nobreak (defer p f left w) (defers f left w h k g)
  float-goes vert f left w places.Deferred h k g = interline f.nobreak (defer p f left w) (defers f left w h k g)

  note-goes : (depth : ℤ) (m : Margin) (left : FloatLists) (w : Work) (at : Placed) → CleanNote m → CleanLists left → CleanWork w → CleanWork (note_goes p depth m left w at)
  note-goes depth m left w at h k g =
      let b = with_note_bottom at.bottom (with_floats left w) in
      let moved = work-if at.moved (sends (warned (warnings.Moved m.name at.shift)) b) b (sends-more (warned (warnings.Moved m.name at.shift)) b h (has-floats left w k g)) (has-floats left w k g) in
      interline m.nobreak (puts (note_nodes depth m at) (moved_warning m at b)) (puts-more (note_nodes depth m at) (moved_warning m at b) (tt, (h, (tt, tt))) moved)

  first : (vert : Bool) (height depth page_height : ℤ) (es : List Entry) (w : Work) → CleanEntries es → CleanWork w → CleanWork (first_goes p vert height depth page_height es w)
  first vert height depth page_height (entries.Float f ∷ es) w h k =
      let l = k.0.3 in
      float-goes vert f (record w.state.floats { current = es }) w (current_place p w.state.floats w.state.suppress page_height f) h.0 (h.1, l.1, l.2, l.3, l.4, l.5, l.6) k
  first vert height depth page_height (entries.Left m ∷ []) w h k =
      let l = k.0.3 in
      note-goes depth m (record w.state.floats { current = [] }) w (placed_note p w.state.number w.state.two_columns w.state.first_column height w.state.note_bottom m) h.0 (tt, l.1, l.2, l.3, l.4, l.5, l.6) k
  first vert height depth page_height (entries.Left m ∷ e ∷ es) w h k =
      let l = k.0.3 in
      note-goes depth m (record w.state.floats { current = es }) w (placed_note p w.state.number w.state.two_columns w.state.first_column height w.state.note_bottom m) h.0 (h.1.1, l.1, l.2, l.3, l.4, l.5, l.6) k
  first vert height depth page_height (entries.Right m ∷ es) w h k = interline false w k
  first vert height depth page_height [] w h k = interline false w k

  text-float : (vert : Bool) (body : List PlainNode) (w : Work) → CleanNodes body → CleanWork w → CleanWork (float_or_note p vert body w)
  text-float vert body w h k =
      let s = k.0 in
      let ns = w.state.held_page ++ without_firing_box body in
      let shapes = map node_shape ns in
      let depth = last_depth shapes in
      let height = size_of shapes -ℤ depth in
      let back = puts-more (ns ++ notes_nodes p (footnotes w.state)) (record w { state = record w.state { held_page = []; boxes = emptied_boxes w.state.boxes } })
      (nodes-join ns (notes_nodes p (footnotes w.state)) (nodes-join w.state.held_page (without_firing_box body) s.2 (nodes-take _ body h)) (notes-back (footnotes w.state) (notes-of w.state.classes w.state.boxes s.1)))
      ((s.0, emptied w.state.boxes, tt, s.3, s.4), k.1, k.2) in
      first vert height depth (height +ℤ depth +ℤ notes_height (footnotes w.state)) w.state.floats.current (list_back p ns w) s.3.0 back

  -- ---- the firing

  output-clean : (f : Fired) (w : Work) → CleanNodes f.body → CleanWork w → CleanWork (output_by p f w)
  output-clean f w h k =
      work-if (int_le eject_penalty f.penalty) (ordinary p f.body w) _ (pages-clean (ordinary-moves p f.body w) (h, k)).1
      (work-if (is_int f.penalty clear_penalty) (clear p f.body w) _ (pages-clean (clear_by-moves p f.body w (standing_notes (footnotes w.state)) refl) (h, k)).1
      (work-if (is_int f.penalty par_penalty) (float_or_note p false f.body w) _ (text-float false f.body w h k)
      (work-if (is_int f.penalty vert_penalty) (float_or_note p true f.body w) (hold f.body w) (text-float true f.body w h k) ((k.0.0, k.0.1, h, k.0.3, k.0.4), k.1, k.2))))

  goal-clean : (n : ℤ) (w : Work) → CleanWork w → CleanWork (next_goal p n w)
  goal-clean n w k =
      let room = column_room_of p w.state.floats in
      let two = w.state.two_columns && not w.state.first_column in
      work-if (is_int n hold_penalty) (with_goal max_dimen w) (goal_by p room w) k
      (work-if (is_crowded p room) (leave_column w) (with_goal room w)
      (puts-more (if two then blank_column ++ blank_column else blank_column) (sends (warned (warnings.Floats w.state.number)) w) (blank-nodes two) (sends-more (warned (warnings.Floats w.state.number)) w tt k)) k)

  -- the firing of a page
  pub out-clean : (s : State) (f : Fired) → CleanState s → CleanFired f → CleanWork (out p s f)
  unfolding out page_work
  out-clean s f h g =
      let x = page_work p s f in
      let k : CleanWork (page_work p s f) = (let w = begun (after_page s f) in goal-clean f.penalty (output_by p f w) (output-clean f w g.body ((tt, g.boxes, h.2, h.3, h.4), tt, tt))) in
      ((nodes-join (f.held ++ x.put_back) f.rest (nodes-join f.held x.put_back g.held k.1) g.rest, k.0.1, k.0.2, k.0.3, k.0.4), k.1, k.2)
