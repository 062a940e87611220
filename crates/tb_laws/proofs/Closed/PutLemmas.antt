-- What a firing puts back: nodes before and after which what is well formed stays so.
use Rattle.std.proofs.Common.{◌≡◌, refl, sym, ◌∙◌, ap, subst, ℕ, Bool, true, false, List, [], ◌∷◌, ◌++◌, length, Option, Some, None, map, append_assoc}
use Rattle.std.specs.Prelude.{ℤ, int_le, not, ◌||◌, ◌&&◌, if◌then◌else◌}
use Rattle.tb_node.specs.declared.Float.{Float}
use Rattle.tb_node.specs.declared.Margin.{Margin}
use Rattle.tb_node.specs.declared.Where.{Where}
use Rattle.tb_node.specs.declared.Where.TheVariants as places
use Rattle.tb_insert.specs.declared.Class.{Class}
use Rattle.tb_builder.specs.FiredPages.{Boxed, content_of, box_content}
use Rattle.tb_node.specs.PlainNodes.{Leaf, PlainNode, plain, pen, made, blank_box, skip}
use Rattle.tb_scaled.specs.declared.Glue.{Glue}
use Rattle.tb_break.specs.Places.{last_or}
use Rattle.std.specs.List.{AllByRecursion}
use Rattle.tb_output.specs.FiringWork.{Continues}
use Rattle.tb_builder.proofs.FiredPages.PageWeights.{IsOnce}
use Rattle.tb_scaled.specs.Glue.{filling_glue}
use Rattle.tb_scaled.specs.Scaled.{eject_penalty, max_dimen}
use Rattle.tb_param.specs.declared.Params.{Params}
use Rattle.tb_float.specs.declared.Entry.{Entry}
use Rattle.tb_float.specs.declared.Entry.TheVariants as entries
use Rattle.tb_float.specs.Lists.{FloatLists}
use Rattle.tb_float.specs.Rooms.{column_room_of}
use Rattle.tb_margin.specs.declared.Placed.{Placed}
use Rattle.tb_column.specs.Column.{Notes}
use Rattle.tb_sheet.specs.Sheet.{warned, PlainSent}
use Rattle.tb_sheet.specs.declared.Warn.TheVariants as warnings
use Rattle.tb_output.specs.State.{Work, puts, sends, with_floats, with_notes, notes_in, footnotes, has_floats}
use Rattle.tb_output.specs.FloatMoves
use Rattle.tb_output.specs.Pages
use Rattle.tb_output.specs.Columns
use Rattle.tb_output.specs.Text
use Rattle.tb_output.specs.Clear
use Rattle.tb_output.specs.Output
use Rattle.tb_sheet.specs.Asked
use Rattle.tb_output.proofs.StepLaws.ColumnSteps.{RecordLaw, no_law, ColumnStep, in_turn, Stays, sends-stays, place_float-step, place_next-step, all_wide_pages-step, put_out-step, float_columns-step, stays}
use Rattle.tb_output.proofs.StepLaws.FiringSteps.{defer-stays}
use Rattle.tb_output.proofs.StepLaws.WorkSteps.{continues-sends, column-continues, continues-defer}
use Rattle.tb_laws.proofs.Closed.BareFeet.{BareAt, BoxesBare, AllPlaced, placed-both, content-bare}
use Rattle.tb_laws.proofs.Closed.SortLemmas.{Sort, light, blank, real, Seen, none, one, many, Stands, sorts, sorts-append, fewer, Steady}

-- the number of each class is one of these
abbrev pub AreAmong : List ℕ → List Class → Type 0
AreAmong ks cs = AllByRecursion (λ (c : Class). IsOnce ks c.number) cs

-- these nodes may be put in between; and their insertions are of these classes
pub record Extends (ks : List ℕ) (t : Seen) (b : Bool) (ns : List PlainNode) : Type 0 where
  pub by : (ys : List Sort) → Stands t b ys → Stands t b (sorts ns ++ ys)
  pub feet : AllPlaced ks ns

-- what is put back so far begins a page well if what follows is well formed
pub record Opens (ks : List ℕ) (t : Seen) (b : Bool) (ns : List PlainNode) : Type 0 where
  pub by : (ys : List Sort) → Stands t b ys → Stands none b (sorts ns ++ ys)
  pub feet : AllPlaced ks ns

module _ (ks : List ℕ) (t : Seen) (b : Bool) where
  pub record Puts (a c : Work) : Type 0 where
    pub opens : Opens ks t b a.put_back → Opens ks t b c.put_back
    pub held : c.state.held_page ≡ a.state.held_page
    pub classes : c.state.classes ≡ a.state.classes

  same : {a c : Work} → c.put_back ≡ a.put_back → c.state.held_page ≡ a.state.held_page → c.state.classes ≡ a.state.classes → Puts a c
  same {a} {c} e h g = record { opens = λ o. subst (Opens ks t b) (sym e) o; held = h; classes = g }

  joined : (p : Params) (a c d : Work) → Puts a c → Puts c d → Puts a d
  joined p a c d x y = record { opens = λ o. y.opens (x.opens o); held = y.held ∙ x.held; classes = y.classes ∙ x.classes }

  puts_if : (p : Params) (a : Work) (u : Bool) (c d : Work) → Puts a c → Puts a d → Puts a (if u then c else d)
  puts_if p a true c d x y = x
  puts_if p a false c d x y = y

  pub extended : (ns : List PlainNode) (w : Work) → Extends ks t b ns → Puts w (puts ns w)
  extended ns w x = record { opens = λ o. record { by = λ ys h. subst (λ l. Stands none b l) (sym (parts ys)) (o.by (sorts ns ++ ys) (x.by ys h)); feet = placed-both ks w.put_back ns o.feet x.feet }; held = refl; classes = refl }
    where
      parts : (ys : List Sort) → sorts (w.put_back ++ ns) ++ ys ≡ sorts w.put_back ++ (sorts ns ++ ys)
      parts ys = ap (λ l. l ++ ys) (sorts-append w.put_back ns) ∙ append_assoc (sorts w.put_back) (sorts ns) ys

  stays-put : {a c : Work} → Stays a c → Continues a c → Puts a c
  stays-put s x = same s.put_back s.held x.classes

  sends-put : (e : PlainSent) (w : Work) → Puts w (sends e w)
  sends-put e w = stays-put (sends-stays e w) (continues-sends e w)

  -- the steps of a column put nothing back
  pub column-puts : {p : Params} {law : RecordLaw p} {a c : Work} → ColumnStep p law a c → Puts a c
  column-puts x = stays-put (stays x) (column-continues x)

  pub put_out_text-puts : (p : Params) (body : List PlainNode) (w : Work) → Puts w (Columns.put_out_text p body w)
  put_out_text-puts p body w =
      joined p w (Columns.without_column_floats w) (Columns.put_out_text p body w) (same refl refl refl) (column-puts (put_out-step p (no_law p) (Columns.text_of p w.state body) (Columns.without_column_floats w)))

  pub ordinary-puts : (p : Params) (body : List PlainNode) (w : Work) → Puts w (Columns.ordinary p body w)
  ordinary-puts p body w =
      let a = Columns.put_out_text p body w in
      let b = Columns.all_float_columns p false a in
      joined p w a (Columns.ordinary p body w) (put_out_text-puts p body w)
      (column-puts (in_turn (float_columns-step p (no_law p) false (length a.state.floats.deferred) a) (place_next-step p (no_law p) [] b.state.floats.deferred b)))

-- ---- nodes that may be put back

extends-both : (ks : List ℕ) (t : Seen) (b : Bool) (ms ns : List PlainNode) → Extends ks t b ms → Extends ks t b ns → Extends ks t b (ms ++ ns)
extends-both ks t b ms ns x y = record { by = λ ys h. subst (Stands t b) (sym (ap (λ l. l ++ ys) (sorts-append ms ns) ∙ append_assoc (sorts ms) (sorts ns) ys)) (x.by (sorts ns ++ ys) (y.by ys h)); feet = placed-both ks ms ns x.feet y.feet }

-- the end of a page, after which a page begins
abbrev pub Begins : Seen → Type 0
Begins none = Unit {0}
Begins one = ⊥
Begins many = Unit {0}

blank-extends : (ks : List ℕ) (t : Seen) (b : Bool) → Begins t → Extends ks t b Output.blank_column
blank-extends ks none b k = record { by = λ ys h. (tt, (tt, h)); feet = (tt, (tt, tt)) }
blank-extends ks one b k = absurd k
blank-extends ks many b k = record { by = λ ys h. (tt, (tt, fewer none b ys h)); feet = (tt, (tt, tt)) }

pub goal-puts : (ks : List ℕ) (t : Seen) (b : Bool) → Begins t → (p : Params) (n : ℤ) (w : Work) → Puts ks t b w (Output.next_goal p n w)
goal-puts ks t b k p n w = puts_if ks t b p w (Output.is_int n Asked.hold_penalty) (Output.with_goal max_dimen w) (Output.goal_by p room w) (same ks t b refl refl refl) (puts_if ks t b p w (Output.is_crowded p room) (Output.leave_column w) (Output.with_goal room w) crowded (same ks t b refl refl refl))
  where
    room : ℤ
    room = column_room_of p w.state.floats

    told : Work
    told = sends (warned (warnings.Floats w.state.number)) w

    columns : (u : Bool) → Extends ks t b (if u then Output.blank_column ++ Output.blank_column else Output.blank_column)
    columns true = extends-both ks t b Output.blank_column Output.blank_column (blank-extends ks t b k) (blank-extends ks t b k)
    columns false = blank-extends ks t b k

    crowded : Puts ks t b w (Output.leave_column w)
    crowded = joined ks t b p w told (Output.leave_column w) (sends-put ks t b (warned (warnings.Floats w.state.number)) w) (extended ks t b (if w.state.two_columns && not w.state.first_column then Output.blank_column ++ Output.blank_column else Output.blank_column) told (columns (w.state.two_columns && not w.state.first_column)))

-- steady nodes may be put back if a page is not held and what follows is well formed after many boxes
steady-stands : (xs ys : List Sort) → AllByRecursion Steady xs → Stands many false ys → Stands many false (xs ++ ys)
steady-stands [] ys c h = h
steady-stands (light ∷ xs) ys c h = (tt, steady-stands xs ys c.1 h)
steady-stands (blank ∷ xs) ys c h = (tt, steady-stands xs ys c.1 h)
steady-stands (real ∷ xs) ys c h = (tt, steady-stands xs ys c.1 h)
steady-stands (k ∷ xs) ys c h = absurd c.0

pub steady-extends : (ks : List ℕ) (ns : List PlainNode) → AllByRecursion Steady (sorts ns) → AllPlaced ks ns → Extends ks many false ns
steady-extends ks ns c g = record { by = λ ys h. steady-stands (sorts ns) ys c h; feet = g }

again-extends : (ks : List ℕ) → Extends ks many false Clear.clear_again
again-extends ks = record { by = λ ys h. (tt, (tt, (tt, (tt, (tt, h))))); feet = (tt, (tt, (tt, (tt, (tt, tt))))) }

-- ---- floats and notes in the text, if the interline penalty forces no break

module _ (ks : List ℕ) (p : Params) (calm : int_le p.interlinepenalty eject_penalty ≡ false) where
  pub penalty-steady : (o : Option Glue) → AllByRecursion Steady (sorts (Text.penalty_nodes p.interlinepenalty o))
  penalty-steady None = (rw calm tt, tt)
  penalty-steady (Some g) = (tt, (rw calm tt, (tt, tt)))

  penalty-class : (o : Option Glue) → AllPlaced ks (Text.penalty_nodes p.interlinepenalty o)
  penalty-class None = (tt, tt)
  penalty-class (Some g) = (tt, (tt, (tt, tt)))

  pub between-steady : (nobreak : Bool) (ns : List PlainNode) → AllByRecursion Steady (sorts (Text.penalty_between p.interlinepenalty nobreak ns))
  between-steady true ns = (tt, tt)
  between-steady false ns = penalty-steady (Text.glue_at_end (last_or (plain (pen p.interlinepenalty)) (map (λ m. m.kind) ns)))

  between-class : (nobreak : Bool) (ns : List PlainNode) → AllPlaced ks (Text.penalty_between p.interlinepenalty nobreak ns)
  between-class true ns = (tt, tt)
  between-class false ns = penalty-class (Text.glue_at_end (last_or (plain (pen p.interlinepenalty)) (map (λ m. m.kind) ns)))

  interline-puts : (nobreak : Bool) (a w : Work) → Puts ks many false a w → Puts ks many false a (Text.puts_interline p nobreak w)
  interline-puts nobreak a w t = joined ks many false p a w (Text.puts_interline p nobreak w) t (extended ks many false (Text.penalty_between p.interlinepenalty nobreak w.put_back) w (steady-extends ks (Text.penalty_between p.interlinepenalty nobreak w.put_back) (between-steady nobreak w.put_back) (between-class nobreak w.put_back)))

  pub here-steady : (vert : Bool) (f : Float) → AllByRecursion Steady (sorts (Text.here_nodes p vert f))
  here-steady true f = (tt, (tt, (rw calm tt, (tt, (tt, tt)))))
  here-steady false f = (tt, (tt, (rw calm tt, (tt, tt))))

  here-class : (vert : Bool) (f : Float) → AllPlaced ks (Text.here_nodes p vert f)
  here-class true f = (tt, (tt, (tt, (tt, (tt, tt)))))
  here-class false f = (tt, (tt, (tt, (tt, tt))))

  goes-puts : (vert : Bool) (f : Float) (left : FloatLists) (w : Work) (place : Where) → Puts ks many false w (Text.float_goes p vert f left w place)
  goes-puts vert f left w places.Here =
      let a = FloatMoves.place_float p places.Here f left w in
      let b = Text.puts_interline p f.nobreak a in
      joined ks many false p w b (Text.float_goes p vert f left w places.Here) (interline-puts f.nobreak w a (column-puts ks many false (place_float-step p (no_law p) places.Here f left w tt))) (extended ks many false (Text.here_nodes p vert f) b (steady-extends ks (Text.here_nodes p vert f) (here-steady vert f) (here-class vert f)))
  goes-puts vert f left w places.Top = interline-puts f.nobreak w _ (column-puts ks many false (place_float-step p (no_law p) places.Top f left w tt))
  goes-puts vert f left w places.Bottom = interline-puts f.nobreak w _ (column-puts ks many false (place_float-step p (no_law p) places.Bottom f left w tt))
  goes-puts vert f left w place = interline-puts f.nobreak w _ (stays-put ks many false (defer-stays p f left w) (continues-defer p f left w))

  note-puts : (depth : ℤ) (m : Margin) (left : FloatLists) (w : Work) (at : Placed) → Puts ks many false w (Text.note_goes p depth m left w at)
  note-puts depth m left w at =
      let a = Text.with_note_bottom at.bottom (with_floats left w) in
      let b = Text.moved_warning m at a in
      let c = puts (Text.note_nodes depth m at) b in
      interline-puts m.nobreak w c
      (joined ks many false p w a c (same ks many false refl refl refl)
      (joined ks many false p a b c (puts_if ks many false p a at.moved (sends (warned (warnings.Moved m.name at.shift)) a) a (sends-put ks many false (warned (warnings.Moved m.name at.shift)) a) (same ks many false refl refl refl)) (extended ks many false (Text.note_nodes depth m at) b (steady-extends ks (Text.note_nodes depth m at) (tt, (tt, (tt, tt))) (tt, (tt, (tt, tt)))))))

  first-puts : (vert : Bool) (height depth page_height : ℤ) (es : List Entry) (w : Work) → Puts ks many false w (Text.first_goes p vert height depth page_height es w)
  first-puts vert height depth page_height (entries.Float f ∷ es) w = goes-puts vert f _ w _
  first-puts vert height depth page_height (entries.Left m ∷ []) w = note-puts depth m _ w _
  first-puts vert height depth page_height (entries.Left m ∷ e ∷ es) w = note-puts depth m _ w _
  first-puts vert height depth page_height (entries.Right m ∷ es) w = interline-puts false w w (same ks many false refl refl refl)
  first-puts vert height depth page_height [] w = interline-puts false w w (same ks many false refl refl refl)

  pub notes-steady : (ns : List Notes) → AllByRecursion Steady (sorts (Text.notes_nodes p ns))
  notes-steady [] = tt
  notes-steady (n ∷ ns) = (tt, notes-steady ns)

  with-class : (c : Class) (o : Option (List Leaf)) (ns : List Notes) → IsOnce ks c.number → BareAt c.number (content_of o) → AllPlaced ks (Text.notes_nodes p ns) → AllPlaced ks (Text.notes_nodes p (with_notes c o ns))
  with-class c None ns h k rest = rest
  with-class c (Some ls) ns h k rest = ((h, k), rest)

  notes-class : (cs : List Class) (bs : List Boxed) → AreAmong ks cs → BoxesBare bs → AllPlaced ks (Text.notes_nodes p (notes_in cs bs))
  notes-class [] bs h k = tt
  notes-class (c ∷ cs) bs h k = with-class c (box_content bs c.number) (notes_in cs bs) h.0 (content-bare c.number bs k) (notes-class cs bs h.1 k)

  -- a float or note is served: steady nodes are put back, and no page is held afterwards
  pub serve-puts : (vert : Bool) (body : List PlainNode) (w : Work) → AreAmong ks w.state.classes → BoxesBare w.state.boxes → Extends ks many false w.state.held_page → Extends ks many false (Text.without_firing_box body) → Opens ks many false w.put_back → Opens ks many false (Text.float_or_note p vert body w).put_back × ((Text.float_or_note p vert body w).state.held_page ≡ []) × ((Text.float_or_note p vert body w).state.classes ≡ w.state.classes)
  serve-puts vert body w among bare h k o =
      let notes = Text.notes_nodes p (footnotes w.state) in
      let ns = w.state.held_page ++ Text.without_firing_box body in
      let w0 : Work = record w { state = record w.state { held_page = []; boxes = Columns.emptied_boxes w.state.boxes } } in
      let a = Text.list_back p ns w in
      let x : Puts ks many false w0 a = extended ks many false (ns ++ notes) w0 (extends-both ks many false ns notes (extends-both ks many false w.state.held_page (Text.without_firing_box body) h k) (steady-extends ks notes (notes-steady (footnotes w.state)) (notes-class w.state.classes w.state.boxes among bare))) in
      let y : Puts ks many false a (Text.float_or_note p vert body w) = first-puts vert _ _ _ w.state.floats.current a in
      (y.opens (x.opens o), y.held, y.classes)

-- ---- a clear

clear_wide-puts : (ks : List ℕ) (p : Params) (w : Work) → Puts ks many false w (Clear.clear_wide p w)
clear_wide-puts ks p w = by_columns w.state.two_columns
  where
    a : Work
    a = with_floats (Clear.double_again p w.state.floats) w

    by_columns : (t : Bool) → Puts ks many false w (if not t then w else (if w.state.first_column then Pages.all_wide_pages p true a else puts (made blank_box ∷ Clear.clear_again) w))
    by_columns false = same ks many false refl refl refl
    by_columns true = puts_if ks many false p w w.state.first_column (Pages.all_wide_pages p true a) (puts (made blank_box ∷ Clear.clear_again) w) (joined ks many false p w a (Pages.all_wide_pages p true a) (same ks many false refl refl refl) (column-puts ks many false (all_wide_pages-step p (no_law p) true a))) (extended ks many false (made blank_box ∷ Clear.clear_again) w (record { by = λ ys h. (tt, (again-extends ks).by ys h); feet = (tt, (again-extends ks).feet) }))

clear_floats-puts : (ks : List ℕ) (p : Params) (body : List PlainNode) (w : Work) → Extends ks many false (Clear.cleared_front p body) → Puts ks many false w (Clear.clear_floats p body w)
clear_floats-puts ks p body w x =
    let z = puts (Clear.cleared_front p body) w in
    let a = with_floats (Clear.deferred_again w.state.floats) z in
    let b = Columns.all_float_columns p true a in
    let c = Clear.clear_wide p b in
    joined ks many false p w z (Clear.clear_rest c) (extended ks many false (Clear.cleared_front p body) w x)
    (joined ks many false p z a (Clear.clear_rest c) (same ks many false refl refl refl)
    (joined ks many false p a b (Clear.clear_rest c) (column-puts ks many false (float_columns-step p (no_law p) true (length a.state.floats.deferred) a))
    (joined ks many false p b c (Clear.clear_rest c) (clear_wide-puts ks p b) (puts_if ks many false p c (has_floats c.state.floats.deferred || has_floats c.state.floats.second) (puts Clear.clear_again c) c (extended ks many false Clear.clear_again c (again-extends ks)) (same ks many false refl refl refl)))))

pub clear_by-puts : (ks : List ℕ) (p : Params) (body : List PlainNode) (w : Work) (o : List Notes) → Extends ks many false (Clear.cleared_front p body) → Puts ks many false w (Clear.clear_by p body w o)
clear_by-puts ks p body w [] x = joined ks many false p w (Clear.without_notes w) (Clear.clear_floats p body (Clear.without_notes w)) (same ks many false refl refl refl) (clear_floats-puts ks p body (Clear.without_notes w) x)
clear_by-puts ks p body w (n ∷ notes) x =
    let a = Columns.put_out_text p (body ++ made (skip filling_glue) ∷ []) w in
    joined ks many false p w a (puts Clear.clear_again a) (put_out_text-puts ks many false p _ w) (extended ks many false Clear.clear_again a (again-extends ks))
