-- A firing keeps the order of a class.
use Rattle.std.proofs.Common.{◌≡◌, refl, sym, ◌∙◌, ap, subst, ℕ, zero, suc, ◌==◌, ℤ, Bool, true, false, List, [], ◌∷◌, ◌++◌, map, take, length, Option, Some, None, append_assoc, append-nil, arith}
use Rattle.std.specs.Prelude.{int_lt, int_le, not, ◌||◌, if◌then◌else◌}
use Rattle.std.specs.List.{AllByRecursion}
use Rattle.std.proofs.lemmas.Int.{ints}
use Rattle.tb_break.proofs.EachLemmas.{all-front, all-join, all-of}
use Rattle.tb_scaled.specs.declared.Glue.{Glue}
use Rattle.tb_scaled.specs.Scaled.{eject_penalty}
use Rattle.tb_scaled.specs.Glue.{filling_glue}
use Rattle.tb_node.specs.declared.Float.{Float}
use Rattle.tb_node.specs.declared.Margin.{Margin}
use Rattle.tb_node.specs.declared.Where.{Where}
use Rattle.tb_node.specs.declared.Where.TheVariants as places
use Rattle.tb_node.specs.PlainNodes.{Leaf, plain, PlainNode, made, blank_box, pen, skip}
use Rattle.tb_break.specs.Places.{last_or}
use Rattle.tb_param.specs.declared.Params.{Params}
use Rattle.tb_builder.specs.FiredPages.{Boxed, content_of, box_content}
use Rattle.tb_float.specs.declared.Entry.{Entry}
use Rattle.tb_float.specs.declared.Entry.TheVariants as entries
use Rattle.tb_float.specs.Lists.{FloatLists, floats_among, wide_part, wide_waiting}
use Rattle.tb_float.proofs.WaitingLemmas.{wide-waits}
use Rattle.tb_insert.specs.declared.Class.{Class}
use Rattle.tb_float.specs.Rooms.{column_height_of}
use Rattle.tb_area.specs.Area.{current_place}
use Rattle.tb_area.specs.Deferred.{filled}
use Rattle.tb_area.specs.Laws.{HasNone, PassesNone}
use Rattle.tb_area.proofs.LawLemmas.{current-laws}
use Rattle.tb_margin.specs.declared.Placed.{Placed}
use Rattle.tb_margin.specs.Margin.{placed_note}
use Rattle.tb_sheet.specs.declared.Warn.{Warn}
use Rattle.tb_sheet.specs.declared.Warn.TheVariants as warnings
use Rattle.tb_column.specs.Column.{Notes, PlainColumn, standing_notes, enlarged_of}
use Rattle.tb_sheet.specs.Sheet.{warned}
use Rattle.tb_output.specs.State.{State, Work, Recorded, placed, output, puts, sends, records_also, with_floats, with_notes, notes_in, footnotes, has_floats}
use Rattle.tb_output.specs.FloatMoves
use Rattle.tb_output.specs.Pages
use Rattle.tb_output.specs.Columns
use Rattle.tb_output.specs.Text
use Rattle.tb_output.specs.Clear
use Rattle.tb_laws.proofs.StepLaws.StandingNotes.{standing-have}
use Rattle.tb_laws.proofs.NothingLost.StateWeights.{Paired}
use Rattle.tb_output.proofs.ColumnPages.FillLemmas.{HasLists, fill_column-lists}
use Rattle.tb_laws.proofs.ClassesRise.RisingLists.{IsAbove, Rises}
use Rattle.tb_laws.proofs.ClassesRise.ClassLines.{FloatKind, Side, alike, narrow, wider, waits, PartedBy, IsReleased, wide-from, NotesFloatless, is_of, line_if, class_lines, float_lines, left_lines, sent_lines, lines-append, sent-append, AreFloatless, filled-lines, text_column-lines}
use Rattle.tb_laws.proofs.ClassesRise.RecordLines.{IsCarried}
use Rattle.tb_laws.proofs.Closed.SparedLists.{waiting-double}
use Rattle.tb_output.proofs.StepLaws.ColumnSteps.{no_law, place_float-step, place_next-step, put_out-step, float_columns-step, stays, sends-stays}
use Rattle.tb_output.proofs.StepLaws.FiringSteps.{defer-stays, clear_wide-step}
use Rattle.tb_output.proofs.StepLaws.WorkSteps.{column-unrefused, firing-unrefused}
use Rattle.tb_laws.proofs.StepLaws.QuietLemmas.{AllAreas, AddsQuiet, next-added, fill-areas, fill-same}
use Rattle.tb_laws.proofs.ClassesRise.FloatlessFeet.{HoldsFloatless, HoldFloatless, BoxesFloatless}
use Rattle.tb_laws.proofs.ClassesRise.PageLines.{deeds, kind_deeds, deeds-append, kind_takes, take_lines, append-none, none-front, takes-append, AreEndless, endless-join}
use Rattle.tb_laws.proofs.ClassesRise.SpreadLemmas.{IsBehind, IsUnseen, Spread, no-first}
use Rattle.tb_laws.proofs.ClassesRise.SpreadSteps.{quietly, double_again}
use Rattle.tb_laws.proofs.ClassesRise.SpreadFirings.{InHand, IsOpen, records-now, sends-now, all_wide-open, put_out_by-hand, float_columns-hand}
use Rattle.tb_laws.proofs.ClassesRise.ClassOrder.{Order}
use Rattle.tb_laws.proofs.ClassesRise.ColumnOrder.{text_hand, outer-rises, settled, cleared}
use Rattle.tb_laws.proofs.ClassesRise.TakenOrder.{to_top, to_bottom, to_deferred, to_here}

-- ---- nodes that the routine makes

-- nodes without acts, without floats in feet, and without penalties below that of a page's end
pub record AreLight (k : FloatKind) (ns : List PlainNode) : Type 0 where
  pub takes : take_lines k ns ≡ []
  pub does : deeds ns ≡ []
  pub feet : HoldFloatless k ns
  pub endless : AreEndless ns

pub light-join : (k : FloatKind) (xs ys : List PlainNode) → AreLight k xs → AreLight k ys → AreLight k (xs ++ ys)
light-join k xs ys a b = record {
  takes = takes-append k xs ys ∙ ap (λ l. l ++ take_lines k ys) a.takes ∙ b.takes;
  does = deeds-append xs ys ∙ ap (λ l. l ++ deeds ys) a.does ∙ b.does;
  feet = all-join (λ (n : PlainNode). HoldsFloatless k n.kind) xs ys a.feet b.feet;
  endless = endless-join xs ys a.endless b.endless;
}

pub light-take : (k : FloatKind) (i : ℕ) (ns : List PlainNode) → AreLight k ns → AreLight k (take i ns)
light-take k zero ns h = record { takes = refl; does = refl; feet = tt; endless = tt }
light-take k (suc i) [] h = record { takes = refl; does = refl; feet = tt; endless = tt }
light-take k (suc i) (n ∷ ns) h =
    let t = light-take k i ns (record { takes = append-none (kind_takes k n.kind) (take_lines k ns) h.takes; does = append-none (kind_deeds n.kind) (deeds ns) h.does; feet = h.feet.1; endless = h.endless.1 }) in
    record {
      takes = ap (λ l. l ++ take_lines k (take i ns)) (none-front (kind_takes k n.kind) (take_lines k ns) h.takes) ∙ t.takes;
      does = ap (λ l. l ++ deeds (take i ns)) (none-front (kind_deeds n.kind) (deeds ns) h.does) ∙ t.does;
      feet = (h.feet.0, t.feet);
      endless = (h.endless.0, t.endless);
    }

calm-endless : (n : ℤ) → int_le n eject_penalty ≡ false → int_lt n eject_penalty ≡ false
calm-endless n h = grind (arith, ints, h)

interline-light : (k : FloatKind) (n : ℤ) (o : Option Glue) → int_le n eject_penalty ≡ false → AreLight k (Text.penalty_nodes n o) × (class_lines k (Text.penalty_nodes n o) ≡ [])
interline-light k n None calm = (record { takes = refl; does = refl; feet = (tt, tt); endless = (calm-endless n calm, tt) }, refl)
interline-light k n (Some g) calm = (record { takes = refl; does = refl; feet = (tt, (tt, (tt, tt))); endless = (refl, (calm-endless n calm, (refl, tt))) }, refl)

between-light : (k : FloatKind) (n : ℤ) (nobreak : Bool) (ns : List PlainNode) → int_le n eject_penalty ≡ false → AreLight k (Text.penalty_between n nobreak ns) × (class_lines k (Text.penalty_between n nobreak ns) ≡ [])
between-light k n true ns calm = (record { takes = refl; does = refl; feet = (tt, tt); endless = (refl, tt) }, refl)
between-light k n false ns calm = interline-light k n (Text.glue_at_end (last_or (plain (pen n)) (map (λ (m : PlainNode). m.kind) ns))) calm

here-light : (k : FloatKind) (p : Params) (vert : Bool) (f : Float) → int_le p.interlinepenalty eject_penalty ≡ false → AreLight k (Text.here_nodes p vert f) × (class_lines k (Text.here_nodes p vert f) ≡ line_if (is_of k f.class f.line) f.line)
here-light k p true f calm = (record { takes = refl; does = refl; feet = (tt, (tt, (tt, (tt, (tt, tt))))); endless = (refl, (refl, (calm-endless p.interlinepenalty calm, (refl, (refl, tt))))) }, append-nil (line_if (is_of k f.class f.line) f.line))
here-light k p false f calm = (record { takes = refl; does = refl; feet = (tt, (tt, (tt, (tt, tt)))); endless = (refl, (refl, (calm-endless p.interlinepenalty calm, (refl, tt)))) }, append-nil (line_if (is_of k f.class f.line) f.line))

-- ---- footnotes

pub notes-light : (k : FloatKind) (p : Params) (ns : List Notes) → NotesFloatless k ns → AreLight k (Text.notes_nodes p ns) × (class_lines k (Text.notes_nodes p ns) ≡ [])
notes-light k p [] h = (record { takes = refl; does = refl; feet = tt; endless = tt }, refl)
notes-light k p (n ∷ ns) h = let x = notes-light k p ns h.1 in (record { takes = x.0.takes; does = x.0.does; feet = (h.0, x.0.feet); endless = (refl, x.0.endless) }, x.1)

pub content-floatless : (k : FloatKind) (n : ℕ) (bs : List Boxed) → BoxesFloatless k bs → AreFloatless k (content_of (box_content bs n))
content-floatless k n [] h = tt
content-floatless k n (b ∷ bs) h = by_number (b.number == n) h.0 (content-floatless k n bs h.1)
  where
    by_number : (t : Bool) → AreFloatless k (content_of b.content) → AreFloatless k (content_of (box_content bs n)) → AreFloatless k (content_of (if t then b.content else box_content bs n))
    by_number true x y = x
    by_number false x y = y

-- what the boxes of all classes hold
pub notes-floatless : (k : FloatKind) (cs : List Class) (bs : List Boxed) → BoxesFloatless k bs → NotesFloatless k (notes_in cs bs)
notes-floatless k [] bs h = tt
notes-floatless k (c ∷ cs) bs h = by_content (box_content bs c.number) (content-floatless k c.number bs h) (notes-floatless k cs bs h)
  where
    by_content : (o : Option (List Leaf)) → AreFloatless k (content_of o) → NotesFloatless k (notes_in cs bs) → NotesFloatless k (with_notes c o (notes_in cs bs))
    by_content None x y = y
    by_content (Some ls) x y = (x, y)

pub emptied-floatless : (k : FloatKind) (bs : List Boxed) → BoxesFloatless k (Columns.emptied_boxes bs)
emptied-floatless k [] = tt
emptied-floatless k (b ∷ bs) = (tt, emptied-floatless k bs)

-- ---- a firing at work

-- the order of a class in a firing at work, with these lines in the text, after these events and records
abbrev pub Ordered : FloatKind → (ℕ → Type 0) → List ℕ → List ℕ → List Recorded → List ℕ → Work → Type 0
Ordered k Known takes past old text w = Order k Known text takes (past ++ sent_lines k w.sent) (old ++ w.records) w.state.floats w.state.two_columns w.state.first_column w.state.left_column

-- the float or note that was taken last went to its place; these nodes are put back besides
pub record Gone (k : FloatKind) (Known : ℕ → Type 0) (takes past : List ℕ) (old : List Recorded) (text : List ℕ) (a c : Work) : Type 0 where
  pub more : List PlainNode
  pub put : c.put_back ≡ a.put_back ++ more
  pub light : AreLight k more
  pub ordered : Ordered k Known takes past old (text ++ class_lines k more) c
  pub stays_held : c.state.held_page ≡ a.state.held_page
  pub stays_boxes : c.state.boxes ≡ a.state.boxes

module _ (k : FloatKind) (Known : ℕ → Type 0) (takes past : List ℕ) (old : List Recorded) where
  -- ---- a text column

  put_out_text-hand : (p : Params) (r : IsReleased k p) (held rest : List ℕ) (body : List PlainNode) (w : Work) → NotesFloatless k (footnotes w.state) → (Columns.put_out_text p body w).refused ≡ false
      → Ordered k Known takes past old (held ++ (class_lines k body ++ rest)) w → InHand k Known (held ++ rest) takes past old [] (Columns.put_out_text p body w)
  put_out_text-hand p r held rest body w free ok h =
      let c = Columns.text_of p w.state body in
      let v = Columns.without_column_floats w in
      let u = records_also (output c) v in
      let v_ok = column-unrefused (put_out-step p (no_law p) c v) ok in
      put_out_by-hand k Known (held ++ rest) takes past old p r c u ok
      (subst (λ (x : Work). InHand k Known (held ++ rest) takes past old (class_lines k c.nodes) x) (sym (records-now (output c) v v_ok))
      (subst (λ x. Spread k Known (held ++ rest) takes (past ++ sent_lines k w.sent) x (class_lines k c.nodes) v.state.floats w.state.two_columns w.state.first_column w.state.left_column) (append_assoc old w.records (output c ∷ []))
      (text_hand k Known takes (past ++ sent_lines k w.sent) (old ++ w.records) w.state.floats w.state.two_columns w.state.first_column w.state.left_column held (class_lines k body) rest c (text_column-lines k p w.state.floats body (standing_notes (footnotes w.state)) (enlarged_of w.state.shrink (footnotes w.state)) (standing-have (λ (n : Notes). AreFloatless k n.inner) (footnotes w.state) free)) h)))

  -- ---- the next column

  fill_column-ordered : (p : Params) (text : List ℕ) (w : Work) → Rises Known (λ n. ⊥) text → InHand k Known text takes past old [] w → Ordered k Known takes past old text (Columns.fill_column p w)
  fill_column-ordered p text w rises h = lists (Columns.fill_column p w) (fill_column-lists p w) (next-added p [] w.state.floats.deferred w)
    where
      l : FloatLists
      l = w.state.floats

      m : FloatLists
      m = filled p w.state.suppress [] w.state.floats.deferred w.state.floats

      areas : AllAreas (IsBehind k text) m
      areas = fill-areas (IsBehind k text) p w.state.suppress w.state.floats (record { top = subst (AllByRecursion (IsBehind k text)) (sym h.top) tt; bottom = subst (AllByRecursion (IsBehind k text)) (sym h.bottom) tt; deferred = all-front (IsBehind k text) w.state.floats.deferred w.state.floats.second h.behind })

      lists : (v : Work) → HasLists w v m → AddsQuiet w v → Ordered k Known takes past old text v
      lists v g a =
          subst (λ (x : State). Order k Known text takes (past ++ sent_lines k v.sent) (old ++ v.records) x.floats x.two_columns x.first_column x.left_column) (sym g.state)
          (subst (λ x. Order k Known text takes (past ++ sent_lines k x) (old ++ v.records) m w.state.two_columns w.state.first_column w.state.left_column) (sym g.sent)
          (subst (λ x. Order k Known text takes (past ++ sent_lines k w.sent) x m w.state.two_columns w.state.first_column w.state.left_column) (append_assoc old w.records a.more ∙ ap (λ x. old ++ x) (sym a.whole))
          (settled k Known text takes (past ++ sent_lines k w.sent) ((old ++ w.records) ++ a.more) l w.state.two_columns w.state.first_column w.state.left_column m
          (quietly k Known text takes (past ++ sent_lines k w.sent) [] (old ++ w.records) a.more l w.state.two_columns w.state.first_column w.state.left_column a.quiet h)
          rises (filled-lines k p w.state.suppress l) (fill-same p w.state.suppress l) areas)))

  -- a text column, columns of floats, and the floats of the next text column
  pub ordinary-ordered : (p : Params) (r : IsReleased k p) (held rest : List ℕ) (body : List PlainNode) (w : Work) → NotesFloatless k (footnotes w.state) → (Columns.ordinary p body w).refused ≡ false
      → Ordered k Known takes past old (held ++ (class_lines k body ++ rest)) w → Ordered k Known takes past old (held ++ rest) (Columns.ordinary p body w)
  ordinary-ordered p r held rest body w free ok h =
      let a = Columns.put_out_text p body w in
      let b = Columns.all_float_columns p false a in
      let b_ok = column-unrefused (place_next-step p (no_law p) [] b.state.floats.deferred b) ok in
      let a_ok = column-unrefused (float_columns-step p (no_law p) false (length a.state.floats.deferred) a) b_ok in
      fill_column-ordered p (held ++ rest) b (outer-rises Known held (class_lines k body) rest h.rising)
      (float_columns-hand k Known (held ++ rest) takes past old p r false (length a.state.floats.deferred) a b_ok (put_out_text-hand p r held rest body w free a_ok h))

  -- ---- a clear

  unfilled : (w : Work) → InHand k Known [] takes past old [] w → Ordered k Known takes past old [] w
  unfilled w h =
      let l = w.state.floats in
      settled k Known [] takes (past ++ sent_lines k w.sent) (old ++ w.records) l w.state.two_columns w.state.first_column w.state.left_column l h tt refl (record { current = refl; double = refl; second = refl })
      (record { top = all-of (IsBehind k []) (λ f e. tt) l.top; bottom = all-of (IsBehind k []) (λ f e. tt) l.bottom; deferred = all-of (IsBehind k []) (λ f e. tt) l.deferred })

  clear_wide-hand : (p : Params) (r : IsReleased k p) (w : Work) → (Clear.clear_wide p w).refused ≡ false → InHand k Known [] takes past old [] w → InHand k Known [] takes past old [] (Clear.clear_wide p w)
  clear_wide-hand p r w ok h = by_columns w.state.two_columns w.state.first_column refl refl ok
    where
      a : Work
      a = with_floats (Clear.double_again p w.state.floats) w

      opens : w.state.two_columns ≡ true → w.state.first_column ≡ true → IsOpen k Known [] takes past old a
      opens t f =
          let e = no-first k w.state.two_columns w.state.first_column w.state.left_column f h.columns in
          record {
            hand = double_again k Known [] takes (wide_part p) (wide-waits p) (wide-from k p r) (past ++ sent_lines k w.sent) (old ++ w.records) w.state.floats w.state.two_columns w.state.first_column w.state.left_column e h (all-of (IsBehind k []) (λ f e. tt) w.state.floats.double);
            double = waiting-double (wide_part p) (wide-waits p) (w.state.floats.double ++ wide_waiting p w.state.floats) (record w.state.floats { double = [] });
            left = e;
            two = t;
          }

      by_columns : (t f : Bool) → w.state.two_columns ≡ t → w.state.first_column ≡ f → (if not t then w else (if f then Pages.all_wide_pages p true a else puts (made blank_box ∷ Clear.clear_again) w)).refused ≡ false
          → InHand k Known [] takes past old [] (if not t then w else (if f then Pages.all_wide_pages p true a else puts (made blank_box ∷ Clear.clear_again) w))
      by_columns false f t_is f_is ok = h
      by_columns true true t_is f_is ok = (all_wide-open k Known [] takes past old p r true a ok (opens t_is f_is)).hand
      by_columns true false t_is f_is ok = h

  clear_rest-ordered : (w : Work) → Ordered k Known takes past old [] w → Ordered k Known takes past old [] (Clear.clear_rest w)
  clear_rest-ordered w h = by_floats (has_floats w.state.floats.deferred || has_floats w.state.floats.second)
    where
      by_floats : (t : Bool) → Ordered k Known takes past old [] (if t then puts Clear.clear_again w else w)
      by_floats true = h
      by_floats false = h

  rest-refused : (w : Work) → (Clear.clear_rest w).refused ≡ false → w.refused ≡ false
  rest-refused w ok = by_floats (has_floats w.state.floats.deferred || has_floats w.state.floats.second) ok
    where
      by_floats : (t : Bool) → (if t then puts Clear.clear_again w else w).refused ≡ false → w.refused ≡ false
      by_floats true e = e
      by_floats false e = e

  clear_floats-ordered : (p : Params) (r : IsReleased k p) (body : List PlainNode) (w : Work) → (Clear.clear_floats p body w).refused ≡ false → Ordered k Known takes past old [] w → Ordered k Known takes past old [] (Clear.clear_floats p body w)
  clear_floats-ordered p r body w ok h =
      let a = with_floats (Clear.deferred_again w.state.floats) (puts (Clear.cleared_front p body) w) in
      let b = Columns.all_float_columns p true a in
      let c = Clear.clear_wide p b in
      let c_ok = rest-refused c ok in
      let b_ok = firing-unrefused (clear_wide-step p (no_law p) b) c_ok in
      clear_rest-ordered c (unfilled c (clear_wide-hand p r b c_ok (float_columns-hand k Known [] takes past old p r true (length a.state.floats.deferred) a b_ok
      (cleared k Known takes (past ++ sent_lines k w.sent) (old ++ w.records) w.state.floats w.state.two_columns w.state.first_column w.state.left_column h))))

  -- if the text has no floats of the class
  pub clear-ordered : (p : Params) (r : IsReleased k p) (body : List PlainNode) (w : Work) (o : List Notes) → standing_notes (footnotes w.state) ≡ o → NotesFloatless k (footnotes w.state) → class_lines k body ≡ [] → (Clear.clear_by p body w o).refused ≡ false
      → Ordered k Known takes past old [] w → Ordered k Known takes past old [] (Clear.clear_by p body w o)
  clear-ordered p r body w [] e free none ok h = clear_floats-ordered p r body (Clear.without_notes w) ok h
  clear-ordered p r body w (n ∷ notes) e free none ok h =
      let ns = body ++ made (skip filling_glue) ∷ [] in
      let empty : class_lines k ns ++ [] ≡ [] = append-nil (class_lines k ns) ∙ lines-append k body (made (skip filling_glue) ∷ []) ∙ append-nil (class_lines k body) ∙ none in
      unfilled (Columns.put_out_text p ns w) (put_out_text-hand p r [] [] ns w free ok (subst (λ t. Ordered k Known takes past old t w) (sym empty) h))

  -- ---- a float or a note

  pub warned-ordered : (text : List ℕ) (e : Warn) (w : Work) → w.refused ≡ false → Ordered k Known takes past old text w → Ordered k Known takes past old text (sends (warned e) w)
  warned-ordered text e w ok h =
      subst (λ (x : Work). Ordered k Known takes past old text x) (sym (sends-now (warned e) w ok))
      (subst (λ x. Order k Known text takes x (old ++ w.records) w.state.floats w.state.two_columns w.state.first_column w.state.left_column) (ap (λ y. past ++ y) (sym (append-nil (sent_lines k w.sent)) ∙ sym (sent-append k w.sent (warned e ∷ [])))) h)

  -- the list of what was taken last changes, but for its floats
  recurrent : (text before : List ℕ) (rs : List Recorded) (l : FloatLists) (two first : Bool) (o : Option PlainColumn) (es : List Entry) → floats_among es ≡ floats_among l.current → Order k Known text takes before rs l two first o → Order k Known text takes before rs (record l { current = es }) two first o
  recurrent text before rs l two first o es e h = record {
    order = subst (λ fs. Rises Known (λ n. IsCarried k n rs) (before ++ (float_lines k l.double ++ (left_lines k o ++ (float_lines k (l.top ++ l.bottom ++ waits l) ++ (float_lines k fs ++ takes)))))) (sym e) h.order;
    rising = h.rising;
    held = h.held;
    bottom = h.bottom;
    deferred = h.deferred;
    parted = by_side k.side h.parted;
    later = subst (λ fs. AllByRecursion (IsAbove text) (float_lines k fs ++ takes)) (sym e) h.later;
    unseen = subst (λ fs. AllByRecursion (IsUnseen k rs) (float_lines k fs ++ takes)) (sym e) h.unseen;
    known = h.known;
    columns = h.columns;
    single = h.single;
  }
    where
      by_side : (d : Side) → PartedBy d k l → PartedBy d k (record l { current = es })
      by_side alike x = x
      by_side narrow x = x
      by_side wider x = (ap (float_lines k) e ∙ x.0, x.1)

  module _ (p : Params) (calm : int_le p.interlinepenalty eject_penalty ≡ false) (text : List ℕ) where
    -- the penalty between lines follows
    interline-gone : (nobreak : Bool) (a c : Work) → c.put_back ≡ a.put_back → c.state.held_page ≡ a.state.held_page → c.state.boxes ≡ a.state.boxes → Ordered k Known takes past old text c → Gone k Known takes past old text a (Text.puts_interline p nobreak c)
    interline-gone nobreak a c e held boxes h =
        let more = Text.penalty_between p.interlinepenalty nobreak c.put_back in
        let x = between-light k p.interlinepenalty nobreak c.put_back calm in
        record {
          more = more;
          put = ap (λ ns. ns ++ more) e;
          light = x.0;
          ordered = subst (λ t. Ordered k Known takes past old t c) (sym (ap (λ l. text ++ l) x.1 ∙ append-nil text)) h;
          stays_held = held;
          stays_boxes = boxes;
        }

    -- the order when a record is made
    recorded-ordered : (t : List ℕ) (r : Recorded) (m : FloatLists) (w : Work) → w.refused ≡ false → Order k Known t takes (past ++ sent_lines k w.sent) ((old ++ w.records) ++ r ∷ []) m w.state.two_columns w.state.first_column w.state.left_column
        → Ordered k Known takes past old t (with_floats m (records_also r w))
    recorded-ordered t r m w ok h =
        subst (λ (x : Work). Ordered k Known takes past old t (with_floats m x)) (sym (records-now r w ok))
        (subst (λ x. Order k Known t takes (past ++ sent_lines k w.sent) x m w.state.two_columns w.state.first_column w.state.left_column) (append_assoc old w.records (r ∷ [])) h)

    module _ (f : Float) (es : List Entry) (w : Work) (current : w.state.floats.current ≡ entries.Float f ∷ es) (w_ok : w.refused ≡ false) (h : Ordered k Known takes past old text w) where
      abbrev l : FloatLists
      l = w.state.floats

      abbrev left : FloatLists
      left = record l { current = es }

      abbrev height : ℤ
      height = column_height_of p w.state.floats

      top-ordered : HasNone f l.deferred → HasNone f l.here → HasNone f l.bottom → Ordered k Known takes past old text (FloatMoves.place_float p places.Top f left w)
      top-ordered a b c = recorded-ordered text (placed p f places.Top l height) (record left { top = l.top ++ f ∷ [] }) w w_ok
          (to_top k Known text takes (past ++ sent_lines k w.sent) (old ++ w.records) l w.state.two_columns w.state.first_column w.state.left_column f es current h p height l a b c)

      bottom-ordered : HasNone f l.deferred → Ordered k Known takes past old text (FloatMoves.place_float p places.Bottom f left w)
      bottom-ordered a = recorded-ordered text (placed p f places.Bottom l height) (record left { bottom = l.bottom ++ f ∷ [] }) w w_ok
          (to_bottom k Known text takes (past ++ sent_lines k w.sent) (old ++ w.records) l w.state.two_columns w.state.first_column w.state.left_column f es current h p height l a)

      here-ordered : HasNone f l.deferred → HasNone f l.bottom → Ordered k Known takes past old (text ++ line_if (is_of k f.class f.line) f.line) (FloatMoves.place_float p places.Here f left w)
      here-ordered a b = recorded-ordered (text ++ line_if (is_of k f.class f.line) f.line) (placed p f places.Here l height) (record left { here = l.here ++ f ∷ [] }) w w_ok
          (to_here k Known text takes (past ++ sent_lines k w.sent) (old ++ w.records) l w.state.two_columns w.state.first_column w.state.left_column f es current h p height l a b)

      deferred-ordered : (g : Float) → g.class ≡ f.class → g.line ≡ f.line → Ordered k Known takes past old text (FloatMoves.place_float p places.Deferred g left w)
      deferred-ordered g c n = to_deferred k Known text takes (past ++ sent_lines k w.sent) (old ++ w.records) l w.state.two_columns w.state.first_column w.state.left_column f es current h g c n

      defer-ordered : Ordered k Known takes past old text (Text.defer p f left w)
      defer-ordered = by_places (Text.only_here f)
        where
          by_places : (t : Bool) → Ordered k Known takes past old text (if t then sends (warned (warnings.Ht f.name)) (FloatMoves.place_float p places.Deferred (Text.with_top f) left w) else FloatMoves.place_float p places.Deferred f left w)
          by_places true = warned-ordered text (warnings.Ht f.name) (FloatMoves.place_float p places.Deferred (Text.with_top f) left w) w_ok (deferred-ordered (Text.with_top f) refl refl)
          by_places false = deferred-ordered f refl refl

      deferred-gone : Gone k Known takes past old text w (Text.puts_interline p f.nobreak (Text.defer p f left w))
      deferred-gone = let s = defer-stays p f left w in interline-gone f.nobreak w (Text.defer p f left w) s.put_back s.held s.boxes defer-ordered

      goes-gone : (vert : Bool) (place : Where) → PassesNone l l.deferred f place → Gone k Known takes past old text w (Text.float_goes p vert f left w place)
      goes-gone vert places.Top n =
          let s = stays (place_float-step p (no_law p) places.Top f left w tt) in
          interline-gone f.nobreak w (FloatMoves.place_float p places.Top f left w) s.put_back s.held s.boxes (top-ordered n.0 n.1 n.2)
      goes-gone vert places.Bottom n =
          let s = stays (place_float-step p (no_law p) places.Bottom f left w tt) in
          interline-gone f.nobreak w (FloatMoves.place_float p places.Bottom f left w) s.put_back s.held s.boxes (bottom-ordered n)
      goes-gone vert places.Page n = absurd n
      goes-gone vert places.Double n = deferred-gone
      goes-gone vert places.Deferred n = deferred-gone
      goes-gone vert places.Here n =
          let v = FloatMoves.place_float p places.Here f left w in
          let s = stays (place_float-step p (no_law p) places.Here f left w tt) in
          let line = Text.penalty_between p.interlinepenalty f.nobreak v.put_back in
          let x = between-light k p.interlinepenalty f.nobreak v.put_back calm in
          let y = here-light k p vert f calm in
          record {
            more = line ++ Text.here_nodes p vert f;
            put = append_assoc v.put_back line (Text.here_nodes p vert f) ∙ ap (λ ns. ns ++ (line ++ Text.here_nodes p vert f)) s.put_back;
            light = light-join k line (Text.here_nodes p vert f) x.0 y.0;
            ordered = subst (λ t. Ordered k Known takes past old (text ++ t) v) (sym (lines-append k line (Text.here_nodes p vert f) ∙ ap (λ t. t ++ class_lines k (Text.here_nodes p vert f)) x.1 ∙ y.1)) (here-ordered n.0 n.1);
            stays_held = s.held;
            stays_boxes = s.boxes;
          }

    note-gone : (depth : ℤ) (m : Margin) (es : List Entry) (w : Work) (at : Placed) → w.refused ≡ false → floats_among es ≡ floats_among w.state.floats.current → Ordered k Known takes past old text w → Gone k Known takes past old text w (Text.note_goes p depth m (record w.state.floats { current = es }) w at)
    note-gone depth m es w at ok e h = by_moved at.moved
      where
        a : Work
        a = Text.with_note_bottom at.bottom (with_floats (record w.state.floats { current = es }) w)

        a_ordered : Ordered k Known takes past old text a
        a_ordered = recurrent text (past ++ sent_lines k w.sent) (old ++ w.records) w.state.floats w.state.two_columns w.state.first_column w.state.left_column es e h

        gone : (c : Work) → c.put_back ≡ w.put_back → c.state.held_page ≡ w.state.held_page → c.state.boxes ≡ w.state.boxes → Ordered k Known takes past old text c → Gone k Known takes past old text w (Text.puts_interline p m.nobreak (puts (Text.note_nodes depth m at) c))
        gone c q held boxes o =
            let ns = Text.note_nodes depth m at in
            let g = interline-gone m.nobreak (puts ns c) (puts ns c) refl refl refl o in
            record {
              more = ns ++ g.more;
              put = g.put ∙ append_assoc c.put_back ns g.more ∙ ap (λ x. x ++ (ns ++ g.more)) q;
              light = light-join k ns g.more (record { takes = refl; does = refl; feet = (tt, (tt, (tt, tt))); endless = (refl, (refl, (refl, tt))) }) g.light;
              ordered = g.ordered;
              stays_held = g.stays_held ∙ held;
              stays_boxes = g.stays_boxes ∙ boxes;
            }

        by_moved : (t : Bool) → Gone k Known takes past old text w (Text.puts_interline p m.nobreak (puts (Text.note_nodes depth m at) (if t then sends (warned (warnings.Moved m.name at.shift)) a else a)))
        by_moved true =
            let s = sends-stays (warned (warnings.Moved m.name at.shift)) a in
            gone (sends (warned (warnings.Moved m.name at.shift)) a) s.put_back s.held s.boxes (warned-ordered text (warnings.Moved m.name at.shift) a ok a_ordered)
        by_moved false = gone a refl refl refl a_ordered

    pub first-gone : (vert : Bool) (height depth page_height : ℤ) (es : List Entry) (w : Work) → w.state.floats.current ≡ es → Paired es → w.refused ≡ false → Ordered k Known takes past old text w → Gone k Known takes past old text w (Text.first_goes p vert height depth page_height es w)
    first-gone vert height depth page_height (entries.Float f ∷ es) w e pairs ok h =
        goes-gone f es w e ok h vert (current_place p w.state.floats w.state.suppress page_height f) (current-laws p w.state.floats w.state.suppress page_height f).order
    first-gone vert height depth page_height (entries.Left m ∷ []) w e pairs ok h = absurd pairs
    first-gone vert height depth page_height (entries.Left m ∷ entries.Right n ∷ es) w e pairs ok h =
        note-gone depth m es w (placed_note p w.state.number w.state.two_columns w.state.first_column height w.state.note_bottom m) ok (ap floats_among (sym e)) h
    first-gone vert height depth page_height (entries.Left m ∷ entries.Float f ∷ es) w e pairs ok h = absurd pairs
    first-gone vert height depth page_height (entries.Left m ∷ entries.Left n ∷ es) w e pairs ok h = absurd pairs
    first-gone vert height depth page_height (entries.Right m ∷ es) w e pairs ok h = absurd pairs
    first-gone vert height depth page_height [] w e pairs ok h = interline-gone false w w refl refl refl h
