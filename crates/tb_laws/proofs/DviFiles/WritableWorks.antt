-- A firing keeps the nodes and floats of the galley: what it sends and leaves has bytes in a DVI file, if what it began
-- with has, and each page has a number up to the page limit and 1000000.
use Rattle.std.proofs.Common.{◌≡◌, subst, ℕ, ◌+◌, ◌≤◌, ℤ, pos, negsuc, Bool, true, false, List, [], ◌∷◌, ◌++◌, drop, Option, Some, None, arith, unwrap_or}
use Rattle.std.specs.Prelude.{◌==◌, int_lt, nat_abs, if◌then◌else◌}
use Rattle.std.proofs.lemmas.Int.{ints}
use Rattle.std.specs.List.{AllByRecursion}
use Rattle.tb_break.proofs.EachLemmas.{all-join}
use Rattle.tb_scaled.specs.declared.Glue.{Glue}
use Rattle.tb_scaled.specs.Glue.{filling_glue}
use Rattle.tb_node.specs.declared.Float.{Float}
use Rattle.tb_node.specs.declared.Margin.{Margin}
use Rattle.tb_node.specs.declared.Where.{Where}
use Rattle.tb_node.specs.declared.Where.TheVariants as places
use Rattle.tb_node.specs.PlainNodes.{skip, Leaf, PlainNode, made, blank_box}
use Rattle.tb_param.specs.declared.Params.{Params}
use Rattle.tb_param.specs.Release.{has_second}
use Rattle.tb_insert.specs.declared.Class.{Class}
use Rattle.tb_builder.specs.FiredPages.{Boxed, box_content, Fired}
use Rattle.tb_float.specs.declared.Entry.{Entry}
use Rattle.tb_float.specs.declared.Entry.TheVariants as entries
use Rattle.tb_float.specs.declared.Part.TheVariants as parts
use Rattle.tb_float.specs.Lists.{FloatLists, floats_of, with_floats_of, wide_waiting, with_wide_waiting}
use Rattle.tb_float.specs.Rooms.{column_height_of}
use Rattle.tb_fpage.proofs.FirstLemmas.{company-all}
use Rattle.tb_fpage.specs.Company.{chosen_floats, left_floats}
use Rattle.tb_column.specs.Column.{Notes, PlainColumn, standing_notes, enlarged_of, wide_floats_column}
use Rattle.tb_column.specs.Ranges.{AreColumnParams, IsSizedRule}
use Rattle.tb_sheet.specs.Sheet.{PlainSheet, one, wide, pair_sheet, PlainSent, warned, shipped}
use Rattle.tb_area.specs.Area.{where_of}
use Rattle.tb_output.specs.State.{State, Work, Recorded, placed, output, puts, sends, records_also, with_floats, with_notes, notes_in, footnotes}
use Rattle.tb_output.specs.FloatMoves.{joined_to, is_placed, place_float}
use Rattle.tb_output.specs.Pages.{ship, wide_wanted, left_or, without_double}
use Rattle.tb_output.specs.Columns.{emptied_boxes, single_wanted}
use Rattle.tb_output.specs.Text.{penalty_nodes, penalty_between, without_firing_box, notes_nodes, here_nodes, note_nodes}
use Rattle.tb_output.specs.Clear.{clear_again, cleared_front, deferred_again, double_again}
use Rattle.tb_output.specs.Output.{blank_column, out}
use Rattle.tb_output.specs.Firing.{page_work}
use Rattle.tb_output.proofs.StepLaws.RefusedSteps.{by-sends, by-records, by-ship}
use Rattle.tb_output.proofs.StepLaws.Moves.{Hand, nothing, of_text, of_column, of_float, of_note, deferred_float, ColumnMove, takes_company, records_column, ships_column, keeps_left, ships_pair, ends_column, ships_wide, places_double, places_next, PageMove, by_column, by_fill, takes_text, fills_text, drops_notes, keeps_front, gathers, gathers_wide, leaves_second, clears_again, TextMove, goes_back, places_current, defers_current, takes_float, stands_here, takes_note, stands_beside, puts_penalty, warns, Move, by_page, by_text, holds_page, leaves_blank, sets_goal, holds-on}
use Rattle.tb_output.proofs.StepLaws.FiringTree.{page-moves}
use Rattle.tb_laws.proofs.StepLaws.StandingNotes.{standing-have}
use Rattle.tb_laws.proofs.DviFiles.WritableNodes.{WritableFloat, WritableFloats, WritableNote, WritableNodes, nodes-join, nodes-take, WritableContent, WritableBoxes, WritableFired, floats-column, WritableNotes, WritableClass, text-writable, pair-writable, WritableSheet}

-- ---- states

-- a note is taken by its left box
abbrev pub WritableEntry : Entry → Type 0
WritableEntry (entries.Float f) = WritableFloat f
WritableEntry (entries.Left m) = WritableNote m
WritableEntry (entries.Right m) = Unit {0}

abbrev pub WritableEntries : List Entry → Type 0
WritableEntries es = AllByRecursion WritableEntry es

-- the floats in the text are there as boxes, and their list is not shown
abbrev pub WritableLists : FloatLists → Type 0
WritableLists l = WritableEntries l.current × WritableFloats l.top × WritableFloats l.bottom × WritableFloats l.deferred × WritableFloats l.double × WritableFloats l.second

abbrev pub WritableLeft : Option PlainColumn → Type 0
WritableLeft None = Unit {0}
WritableLeft (Some c) = WritableNodes c.nodes

-- the rules of classes that stand below footnotes have bytes
abbrev pub WritableClasses : List Class → Type 0
WritableClasses cs = AllByRecursion (λ c. IsSizedRule (unwrap_or c.below None)) cs

abbrev pub WritableState : State → Type 0
WritableState s = WritableNodes s.waiting × WritableBoxes s.boxes × WritableNodes s.held_page × WritableLists s.floats × WritableLeft s.left_column × (s.number ≤ s.page + 1000000) × WritableClasses s.classes

-- ---- lists of floats

floats-join : (xs ys : List Float) → WritableFloats xs → WritableFloats ys → WritableFloats (xs ++ ys)
floats-join xs ys h k = all-join WritableFloat xs ys h k

joined : (place : Where) (f : Float) (l : FloatLists) → WritableFloat f → WritableLists l → WritableLists (joined_to place f l)
joined places.Here f l h k = k
joined places.Top f l h k = (k.0, floats-join l.top (f ∷ []) k.1 (h, tt), k.2, k.3, k.4, k.5)
joined places.Bottom f l h k = (k.0, k.1, floats-join l.bottom (f ∷ []) k.2 (h, tt), k.3, k.4, k.5)
joined places.Page f l h k = k
joined places.Double f l h k = (k.0, k.1, k.2, k.3, floats-join l.double (f ∷ []) k.4 (h, tt), k.5)
joined places.Deferred f l h k = (k.0, k.1, k.2, floats-join l.deferred (f ∷ []) k.3 (h, tt), k.4, k.5)

waiting : (p : Params) (l : FloatLists) → WritableLists l → WritableFloats (wide_waiting p l)
waiting p l h = by_release (has_second p)
  where
    by_release : (t : Bool) → WritableFloats (floats_of (if t then parts.Second else parts.Deferred) l)
    by_release true = h.5
    by_release false = h.3

with-waiting : (p : Params) (fs : List Float) (l : FloatLists) → WritableFloats fs → WritableLists l → WritableLists (with_wide_waiting p fs l)
with-waiting p fs l g h = by_release (has_second p)
  where
    by_release : (t : Bool) → WritableLists (with_floats_of (if t then parts.Second else parts.Deferred) fs l)
    by_release true = (h.0, h.1, h.2, h.3, h.4, g)
    by_release false = (h.0, h.1, h.2, g, h.4, h.5)

-- ---- the insertions of a page

box-content : (bs : List Boxed) (k : ℕ) → WritableBoxes bs → WritableContent (box_content bs k)
box-content [] k h = tt
box-content (b ∷ bs) k h = by_class (b.number == k) (box-content bs k h.1)
  where
    by_class : (t : Bool) → WritableContent (box_content bs k) → WritableContent (if t then b.content else box_content bs k)
    by_class true g = h.0
    by_class false g = g

one-class : (c : Class) (o : Option (List Leaf)) (ns : List Notes) → WritableContent o → IsSizedRule (unwrap_or c.below None) → WritableNotes ns → WritableNotes (with_notes c o ns)
one-class c None ns h r k = k
one-class c (Some inner) ns h r k = ((h, r), k)

notes-of : (cs : List Class) (bs : List Boxed) → WritableBoxes bs → WritableClasses cs → WritableNotes (notes_in cs bs)
notes-of [] bs h g = tt
notes-of (c ∷ cs) bs h g = one-class c (box_content bs c.number) (notes_in cs bs) (box-content bs c.number h) g.0 (notes-of cs bs h g.1)

emptied : (bs : List Boxed) → WritableBoxes (emptied_boxes bs)
emptied [] = tt
emptied (b ∷ bs) = (tt, emptied bs)

-- ---- a firing at work

module _ (p : Params) where
  -- a page has a number up to the page limit and 1000000, since a number that is set is at most 1000000 and goes on from there
  abbrev pub WritableSent : PlainSent → Type 0
  WritableSent (warned w) = Unit {0}
  WritableSent (shipped number sheet) = (number ≤ nat_abs p.maxpages + 1000000) × WritableSheet sheet

  abbrev pub WritableWork : Work → Type 0
  WritableWork w = WritableState w.state × WritableNodes w.put_back × AllByRecursion WritableSent w.sent

  abbrev WritableHand : Hand → Type 0
  WritableHand nothing = Unit {0}
  WritableHand (of_text body) = WritableNodes body
  WritableHand (of_column c) = WritableNodes c.nodes
  WritableHand (of_float f) = WritableFloat f
  WritableHand (of_note m at) = WritableNote m

  abbrev Writable : Hand → Work → Type 0
  Writable h w = WritableHand h × WritableWork w

  work-if : (t : Bool) (a b : Work) → WritableWork a → WritableWork b → WritableWork (if t then a else b)
  work-if true a b h k = h
  work-if false a b h k = k

  puts-more : (ns : List PlainNode) (w : Work) → WritableNodes ns → WritableWork w → WritableWork (puts ns w)
  puts-more ns w h k = (k.0, nodes-join w.put_back ns k.1 h, k.2)

  sends-more : (e : PlainSent) (w : Work) → WritableSent e → WritableWork w → WritableWork (sends e w)
  sends-more e w h k = by-sends WritableWork e w k (k.0, k.1, all-join WritableSent w.sent (e ∷ []) k.2 (h, tt))

  records-more : (r : Recorded) (w : Work) → WritableWork w → WritableWork (records_also r w)
  records-more r w k = by-records WritableWork r w k k

  has-floats : (l : FloatLists) (w : Work) → WritableLists l → WritableWork w → WritableWork (with_floats l w)
  has-floats l w h k = ((k.0.0, k.0.1, k.0.2, h, k.0.4, k.0.5, k.0.6), k.1, k.2)

  -- ---- floats

  goes-to : (place : Where) (f : Float) (l : FloatLists) (w : Work) → WritableFloat f → WritableLists l → WritableWork w → WritableWork (place_float p place f l w)
  goes-to place f l w h k g =
      has-floats (joined_to place f l) (if is_placed place then records_also (placed p f place w.state.floats (column_height_of p w.state.floats)) w else w) (joined place f l h k)
      (work-if (is_placed place) (records_also (placed p f place w.state.floats (column_height_of p w.state.floats)) w) w (records-more _ w g) g)

  taken-out : (before : List Float) (f : Float) (rest : List Float) → WritableFloats (before ++ f ∷ rest) → WritableFloat f × WritableFloats (before ++ rest)
  taken-out [] f rest h = h
  taken-out (g ∷ before) f rest h = let k = taken-out before f rest h.1 in (k.0, (h.0, k.1))

  current-taken : (e : Entry) (es : List Entry) (l : FloatLists) → l.current ≡ e ∷ es → WritableLists l → WritableEntry e × WritableEntries es
  current-taken e es l is h = subst WritableEntries is h.0

  with-top : (t : Bool) (f : Float) → WritableFloat f → WritableFloat (deferred_float t f)
  with-top true f h = h
  with-top false f h = h

  -- the first float of the current list goes to a place
  current-goes : (place : Where) (f g : Float) (es : List Entry) (w : Work) → w.state.floats.current ≡ entries.Float f ∷ es → (WritableFloat f → WritableFloat g) → WritableWork w → WritableFloat f × WritableWork (place_float p place g (record w.state.floats { current = es }) w)
  current-goes place f g es w e same k =
      let l = k.0.3 in
      let c = current-taken (entries.Float f) es w.state.floats e l in
      (c.0, goes-to place g (record w.state.floats { current = es }) w (same c.0) (c.1, l.1, l.2, l.3, l.4, l.5) k)

  note-taken : (m : Margin) (es : List Entry) (l : FloatLists) → l.current ≡ entries.Left m ∷ es → WritableLists l → WritableNote m × WritableEntries (drop 1 es)
  note-taken m [] l is h = current-taken (entries.Left m) [] l is h
  note-taken m (e ∷ es) l is h = let k = current-taken (entries.Left m) (e ∷ es) l is h in (k.0, k.1.1)

  -- ---- pages

  number-fits : (page number : ℕ) (most : ℤ) → int_lt most (pos page) ≡ false → number ≤ page + 1000000 → number ≤ nat_abs most + 1000000
  number-fits page number (pos m) e h = grind (arith, ints, e, h)
  number-fits page number (negsuc m) e h = cc

  ships : (sheet : PlainSheet) (w : Work) → WritableSheet sheet → WritableWork w → WritableWork (ship p sheet w)
  ships sheet w h k = by-ship WritableWork p sheet w (λ r. k) (λ r. k) (λ r e.
      let fits : w.state.number ≤ w.state.page + 1000000 = k.0.5 in
      let next : w.state.number + 1 ≤ w.state.page + 1 + 1000000 = omega (arith, fits) in
      ((k.0.0, k.0.1, k.0.2, k.0.3, k.0.4, next, k.0.6), k.1, all-join WritableSent w.sent (shipped w.state.number sheet ∷ []) k.2 ((number-fits w.state.page w.state.number p.maxpages e fits, h), tt)))

  left-column : (c : PlainColumn) (o : Option PlainColumn) → WritableNodes c.nodes → WritableLeft o → WritableNodes (left_or c o).nodes
  left-column c None h k = h
  left-column c (Some d) h k = k

  without-double : (w : Work) → WritableWork w → WritableWork (without_double w)
  without-double w k = ((k.0.0, k.0.1, k.0.2, (k.0.3.0, k.0.3.1, k.0.3.2, k.0.3.3, tt, k.0.3.5), tt, k.0.5, k.0.6), k.1, k.2)

  -- ---- what goes back

  penalties : (n : ℤ) (o : Option Glue) → WritableNodes (penalty_nodes n o)
  penalties n None = (tt, tt)
  penalties n (Some g) = (tt, (tt, (tt, tt)))

  between : (n : ℤ) (nobreak : Bool) (ns : List PlainNode) → WritableNodes (penalty_between n nobreak ns)
  between n true ns = (tt, tt)
  between n false ns = penalties n _

  notes-back : (ns : List Notes) → WritableNotes ns → WritableNodes (notes_nodes p ns)
  notes-back [] h = tt
  notes-back (n ∷ ns) h = (h.0.0, notes-back ns h.1)

  stands : (vert : Bool) (f : Float) → WritableFloat f → WritableNodes (here_nodes p vert f)
  stands true f h = (tt, ((h.0 places.Here, h.1), (tt, (tt, (tt, tt)))))
  stands false f h = (tt, ((h.0 places.Here, h.1), (tt, (tt, tt))))

  clear-nodes : WritableNodes clear_again
  clear-nodes = (tt, (tt, (tt, (tt, (tt, tt)))))

  blank-nodes : (two : Bool) → WritableNodes (if two then blank_column ++ blank_column else blank_column)
  blank-nodes true = (tt, (tt, (tt, (tt, tt))))
  blank-nodes false = (tt, (tt, tt))

  module _ (ranges : AreColumnParams p) where
    -- ---- each move

    column-writable : {h : Hand} {a : Work} {i : Hand} {b : Work} → ColumnMove p h a i b → Writable h a → Writable i b
    column-writable (takes_company clearing cs w e) k =
        let c = company-all WritableFloat (single_wanted p w.state.floats clearing) w.state.floats.deferred cs e k.1.0.3.3 in
        let l = k.1.0.3 in
        (floats-column (column_height_of p w.state.floats) p.fptop p.fpsep p.fpbot (chosen_floats cs) c.0, has-floats (record w.state.floats { deferred = left_floats cs }) w (l.0, l.1, l.2, c.1, l.4, l.5) k.1)
    column-writable (records_column c w) k = (k.0, records-more (output c) w k.1)
    column-writable (ships_column c w t) k = (tt, ships (one c) w k.0 k.1)
    column-writable (keeps_left c w t f) k = (tt, ((k.1.0.0, k.1.0.1, k.1.0.2, k.1.0.3, k.0, k.1.0.5, k.1.0.6), k.1.1, k.1.2))
    column-writable (ships_pair c w t f) k =
        let sheet = pair_sheet p w.state.floats (left_or c w.state.left_column) c in
        (tt, without-double (ship p sheet w) (ships sheet w (pair-writable p ranges w.state.floats k.1.0.3.4, left-column c w.state.left_column k.0 k.1.0.4, k.0) k.1))
    column-writable (ends_column w) k = k
    column-writable (ships_wide clearing cs w e) k =
        let c = company-all WritableFloat (wide_wanted p clearing) (wide_waiting p w.state.floats) cs e (waiting p w.state.floats k.1.0.3) in
        let l = with_wide_waiting p (left_floats cs) w.state.floats in
        (tt, ships (wide (wide_floats_column p p.textheight (chosen_floats cs))) (with_floats l w) (floats-column p.textheight p.dblfptop p.dblfpsep p.dblfpbot (chosen_floats cs) c.0) (has-floats l w (with-waiting p (left_floats cs) w.state.floats c.1 k.1.0.3) k.1))
    column-writable (places_double f before rest w two e i) k =
        let g = taken-out before f rest (subst WritableFloats e (waiting p w.state.floats k.1.0.3)) in
        (tt, goes-to places.Double f (with_wide_waiting p (before ++ rest) w.state.floats) w g.0 (with-waiting p (before ++ rest) w.state.floats g.1 k.1.0.3) k.1)

    page-writable : {h : Hand} {a : Work} {i : Hand} {b : Work} → PageMove p h a i b → Writable h a → Writable i b
    page-writable (by_column m) k = column-writable m k
    page-writable (by_fill (places_next a f before rest w c e i)) k =
        let l = k.1.0.3 in
        let g = taken-out before f rest (subst WritableFloats e l.3) in
        (tt, goes-to (where_of a) f (record w.state.floats { deferred = before ++ rest }) w g.0 (l.0, l.1, l.2, g.1, l.4, l.5) k.1)
    page-writable (takes_text body w) k =
        let s = k.1.0 in
        (text-writable p ranges w.state.floats body (standing_notes (footnotes w.state)) (enlarged_of w.state.shrink (footnotes w.state)) s.3.1 s.3.2 k.0 (standing-have WritableClass (footnotes w.state) (notes-of w.state.classes w.state.boxes s.1 s.6)), ((s.0, emptied w.state.boxes, s.2, (s.3.0, tt, tt, s.3.3, s.3.4, s.3.5), s.4, s.5, s.6), k.1.1, k.1.2))
    page-writable (drops_notes body w e) k = let s = k.1.0 in (k.0, ((s.0, emptied w.state.boxes, s.2, s.3, s.4, s.5, s.6), k.1.1, k.1.2))
    page-writable (fills_text body w) k = (nodes-join body (made (skip filling_glue) ∷ []) k.0 (tt, tt), k.1)
    page-writable (keeps_front body w) k = (tt, puts-more (cleared_front p body) w (nodes-take _ body k.0) k.1)
    page-writable (gathers w) k =
        let l = k.1.0.3 in
        (tt, has-floats (deferred_again w.state.floats) w (l.0, tt, tt, floats-join (w.state.floats.top ++ w.state.floats.bottom) w.state.floats.deferred (floats-join w.state.floats.top w.state.floats.bottom l.1 l.2) l.3, l.4, l.5) k.1)
    page-writable (gathers_wide w t f) k =
        let l = k.1.0.3 in
        (tt, has-floats (double_again p w.state.floats) w (with-waiting p (w.state.floats.double ++ wide_waiting p w.state.floats) (record w.state.floats { double = [] }) (floats-join w.state.floats.double (wide_waiting p w.state.floats) l.4 (waiting p w.state.floats l)) (l.0, l.1, l.2, l.3, tt, l.5)) k.1)
    page-writable (leaves_second w t f) k = (tt, puts-more (made blank_box ∷ clear_again) w (tt, clear-nodes) k.1)
    page-writable (clears_again w) k = (tt, puts-more clear_again w clear-nodes k.1)

    served-writable : {h : Hand} {a : Work} {i : Hand} {b : Work} → TextMove p h a i b → Writable h a → Writable i b
    served-writable (goes_back body w) k =
        let s = k.1.0 in
        let ns = w.state.held_page ++ without_firing_box body in (
          tt,
          puts-more (ns ++ notes_nodes p (footnotes w.state)) (record w { state = record w.state { held_page = []; boxes = emptied_boxes w.state.boxes } })
              (nodes-join ns (notes_nodes p (footnotes w.state)) (nodes-join w.state.held_page (without_firing_box body) s.2 (nodes-take _ body k.0)) (notes-back (footnotes w.state) (notes-of w.state.classes w.state.boxes s.1 s.6)))
              ((s.0, emptied w.state.boxes, tt, s.3, s.4, s.5, s.6), k.1.1, k.1.2),
        )
    served-writable (places_current place f es height w c e i) k = (tt, (current-goes place f f es w e (λ h. h) k.1).1)
    served-writable (defers_current t f es w e i) k = (tt, (current-goes places.Deferred f (deferred_float t f) es w e (with-top t f) k.1).1)
    served-writable (takes_float f es w e) k = current-goes places.Here f f es w e (λ h. h) k.1
    served-writable (stands_here vert f w) k = (tt, puts-more (here_nodes p vert f) w (stands vert f k.0) k.1)
    served-writable (takes_note height m es at w e i) k =
        let l = k.1.0.3 in
        let g = note-taken m es w.state.floats e l in
        (g.0, has-floats (record w.state.floats { current = drop 1 es }) w (g.1, l.1, l.2, l.3, l.4, l.5) k.1)
    served-writable (stands_beside depth m at w) k = (tt, puts-more (note_nodes depth m at) w (tt, ((k.0.0 at.side, k.0.1 at.side), (tt, tt))) k.1)
    served-writable (puts_penalty nobreak h w) k = (k.0, puts-more (penalty_between p.interlinepenalty nobreak w.put_back) w (between p.interlinepenalty nobreak w.put_back) k.1)
    served-writable (warns h e w) k = (k.0, sends-more (warned e) w tt k.1)

    writable : {h : Hand} {a : Work} {i : Hand} {b : Work} → Move p h a i b → Writable h a → Writable i b
    writable (by_page m) k = page-writable m k
    writable (by_text m) k = served-writable m k
    writable (holds_page body w) k = (tt, ((k.1.0.0, k.1.0.1, k.0, k.1.0.3, k.1.0.4, k.1.0.5, k.1.0.6), k.1.1, k.1.2))
    writable (leaves_blank two w) k = (tt, puts-more (if two then blank_column ++ blank_column else blank_column) w (blank-nodes two) k.1)
    writable (sets_goal g w) k = k

    -- the firing of a page
    pub out-writable : (s : State) (f : Fired) → WritableState s → WritableFired f → WritableWork (out p s f)
    unfolding out page_work
    out-writable s f h g =
        let x = page_work p s f in
        let k : WritableWork (page_work p s f) = (holds-on Writable (λ h i a b m. writable m) (page-moves p s f) (g.body, ((tt, g.boxes, h.2, h.3, h.4, h.5, h.6), tt, tt))).1 in
        ((nodes-join (f.held ++ x.put_back) f.rest (nodes-join f.held x.put_back g.held k.1) g.rest, k.0.1, k.0.2, k.0.3, k.0.4, k.0.5, k.0.6), k.1, k.2)
