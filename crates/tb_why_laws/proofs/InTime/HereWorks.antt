-- A firing puts back boxes of floats in the text alone, and none in a foot.
use Rattle.std.proofs.Common.{refl, sym, subst, ℕ, ℤ, pos, Bool, true, false, List, [], ◌∷◌, ◌++◌, map, length, Option, Some, None}
use Rattle.std.specs.Prelude.{◌==◌, int_le, not, ◌-◌, ◌||◌, ◌&&◌, if◌then◌else◌}
use Rattle.std.specs.List.{AllByRecursion}
use Rattle.tb_scaled.specs.declared.Glue.{Glue}
use Rattle.tb_scaled.specs.Scaled.{eject_penalty, max_dimen}
use Rattle.tb_scaled.specs.Glue.{filling_glue}
use Rattle.tb_node.specs.declared.Float.{Float}
use Rattle.tb_node.specs.declared.Margin.{Margin}
use Rattle.tb_node.specs.declared.Where.{Where}
use Rattle.tb_node.specs.declared.Where.TheVariants as places
use Rattle.tb_node.specs.PlainNodes.{Leaf, plain, PlainNode, node_shape, made, blank_box, skip, pen}
use Rattle.tb_break.specs.Places.{last_or}
use Rattle.tb_break.specs.Split.{split_of}
use Rattle.tb_param.specs.declared.Params.{Params}
use Rattle.tb_insert.specs.declared.Class.{Class}
use Rattle.tb_builder.specs.FiredPages.{Boxed, box_content, Fired}
use Rattle.tb_float.specs.declared.Entry.{Entry}
use Rattle.tb_float.specs.declared.Entry.TheVariants as entries
use Rattle.tb_float.specs.Lists.{FloatLists, wide_waiting}
use Rattle.tb_float.specs.Rooms.{column_room_of}
use Rattle.tb_margin.specs.declared.Placed.{Placed}
use Rattle.tb_column.specs.Column.{Notes, standing_notes}
use Rattle.tb_sheet.specs.Asked.{clear_penalty, par_penalty, vert_penalty, hold_penalty}
use Rattle.tb_sheet.specs.Sheet.{PlainSent, warned}
use Rattle.tb_sheet.specs.declared.Warn.TheVariants as warnings
use Rattle.tb_output.specs.State.{State, Work, begun, puts, sends, with_floats, with_notes, notes_in, footnotes, has_floats}
use Rattle.tb_output.specs.FloatMoves
use Rattle.tb_output.specs.Pages
use Rattle.tb_output.specs.Columns
use Rattle.tb_output.specs.Text
use Rattle.tb_output.specs.Clear
use Rattle.tb_output.specs.Output
use Rattle.tb_output.proofs.StepLaws.RefusedSteps.{by-sends}
use Rattle.tb_output.proofs.StepLaws.FollowLemmas.{Follows, follows-put_out, follows-float_columns, follows-wide_pages, follows-next}
use Rattle.tb_output.proofs.StepLaws.ColumnSteps.{stays, no_law, place_float-step}
use Rattle.tb_why_laws.proofs.InTime.HereNodes.{FloatlessLeaves, AllHere, nodes-join, nodes-take, FloatlessContent, FloatlessBoxes, HereFired}

-- ---- the insertions of a page

-- they have no box of a float
abbrev pub FloatlessNotes : List Notes → Type 0
FloatlessNotes ns = AllByRecursion (λ (n : Notes). FloatlessLeaves n.inner) ns

box-content : (bs : List Boxed) (k : ℕ) → FloatlessBoxes bs → FloatlessContent (box_content bs k)
box-content [] k h = tt
box-content (b ∷ bs) k h = by_class (b.number == k) (box-content bs k h.1)
  where
    by_class : (t : Bool) → FloatlessContent (box_content bs k) → FloatlessContent (if t then b.content else box_content bs k)
    by_class true g = h.0
    by_class false g = g

one-class : (c : Class) (o : Option (List Leaf)) (ns : List Notes) → FloatlessContent o → FloatlessNotes ns → FloatlessNotes (with_notes c o ns)
one-class c None ns h k = k
one-class c (Some inner) ns h k = (h, k)

pub notes-floatless : (cs : List Class) (bs : List Boxed) → FloatlessBoxes bs → FloatlessNotes (notes_in cs bs)
notes-floatless [] bs h = tt
notes-floatless (c ∷ cs) bs h = one-class c (box_content bs c.number) (notes_in cs bs) (box-content bs c.number h) (notes-floatless cs bs h)

emptied-boxes : (bs : List Boxed) → FloatlessBoxes (Columns.emptied_boxes bs)
emptied-boxes [] = tt
emptied-boxes (b ∷ bs) = (tt, emptied-boxes bs)

notes-back : (p : Params) (ns : List Notes) → FloatlessNotes ns → AllHere (Text.notes_nodes p ns)
notes-back p [] h = tt
notes-back p (n ∷ ns) h = (h.0, notes-back p ns h.1)

-- ---- a firing at work

-- its boxes of floats are in the text
pub record Here (w : Work) : Type 0 where
  pub boxes : FloatlessBoxes w.state.boxes
  pub held : AllHere w.state.held_page
  pub back : AllHere w.put_back

either : (t : Bool) (b c : Work) → Here b → Here c → Here (if t then b else c)
either true b c x y = x
either false b c x y = y

puts-here : (ns : List PlainNode) (w : Work) → AllHere ns → Here w → Here (puts ns w)
puts-here ns w h k = record { boxes = k.boxes; held = k.held; back = nodes-join w.put_back ns k.back h }

sends-here : (e : PlainSent) (w : Work) → Here w → Here (sends e w)
sends-here e w k = by-sends Here e w k (record { boxes = k.boxes; held = k.held; back = k.back })

follows : (a b : Work) → Follows (λ f. Unit {0}) a b → Here a → Here b
follows a b x k = record { boxes = subst FloatlessBoxes (sym x.boxes) k.boxes; held = subst AllHere (sym x.page) k.held; back = subst AllHere (sym x.back) k.back }

-- other lists of floats
lists-here : (l : FloatLists) (w : Work) → Here w → Here (with_floats l w)
lists-here l w k = record { boxes = k.boxes; held = k.held; back = k.back }

interline-here : (p : Params) (nobreak : Bool) (w : Work) → Here w → Here (Text.puts_interline p nobreak w)
interline-here p nobreak w k = puts-here (Text.penalty_between p.interlinepenalty nobreak w.put_back) w (between nobreak) k
  where
    penalties : (n : ℤ) (o : Option Glue) → AllHere (Text.penalty_nodes n o)
    penalties n None = (tt, tt)
    penalties n (Some g) = (tt, (tt, (tt, tt)))

    between : (t : Bool) → AllHere (Text.penalty_between p.interlinepenalty t w.put_back)
    between true = (tt, tt)
    between false = penalties p.interlinepenalty (Text.glue_at_end (last_or (plain (pen p.interlinepenalty)) (map (λ (m : PlainNode). m.kind) w.put_back)))

-- ---- columns and pages

put_out_text-here : (p : Params) (body : List PlainNode) (w : Work) → Here w → Here (Columns.put_out_text p body w)
put_out_text-here p body w k =
    let a = Columns.without_column_floats w in
    follows a (Columns.put_out_text p body w) (follows-put_out (λ f. Unit {0}) p (Columns.text_of p w.state body) a) (record { boxes = emptied-boxes w.state.boxes; held = k.held; back = k.back })

columns-here : (p : Params) (clearing : Bool) (w : Work) → Here w → Here (Columns.all_float_columns p clearing w)
columns-here p clearing w k = follows w (Columns.all_float_columns p clearing w) (follows-float_columns (λ f. Unit {0}) p clearing (length w.state.floats.deferred) w) k

wide-here : (p : Params) (clearing : Bool) (w : Work) → Here w → Here (Pages.all_wide_pages p clearing w)
wide-here p clearing w k = follows w (Pages.all_wide_pages p clearing w) (follows-wide_pages (λ f. Unit {0}) p clearing (length (wide_waiting p w.state.floats)) w) k

ordinary-here : (p : Params) (body : List PlainNode) (w : Work) → Here w → Here (Columns.ordinary p body w)
ordinary-here p body w k =
    let a = Columns.put_out_text p body w in
    let b = Columns.all_float_columns p false a in
    follows b (Columns.ordinary p body w) (follows-next (λ f. Unit {0}) p [] b.state.floats.deferred b refl) (columns-here p false a (put_out_text-here p body w k))

clear-nodes : AllHere Clear.clear_again
clear-nodes = (tt, (tt, (tt, (tt, (tt, tt)))))

clear_wide-here : (p : Params) (w : Work) → Here w → Here (Clear.clear_wide p w)
clear_wide-here p w k =
    let a = with_floats (Clear.double_again p w.state.floats) w in
    either (not w.state.two_columns) w _ k
    (either w.state.first_column (Pages.all_wide_pages p true a) (puts (made blank_box ∷ Clear.clear_again) w) (wide-here p true a (lists-here (Clear.double_again p w.state.floats) w k)) (puts-here (made blank_box ∷ Clear.clear_again) w (tt, clear-nodes) k))

clear_floats-here : (p : Params) (body : List PlainNode) (w : Work) → AllHere body → Here w → Here (Clear.clear_floats p body w)
clear_floats-here p body w h k =
    let z = puts (Clear.cleared_front p body) w in
    let a = with_floats (Clear.deferred_again w.state.floats) z in
    let b = Columns.all_float_columns p true a in
    let c = Clear.clear_wide p b in
    let d = clear_wide-here p b (columns-here p true a (lists-here (Clear.deferred_again w.state.floats) z (puts-here (Clear.cleared_front p body) w (nodes-take (split_of (pos 0) p.splitmaxdepth (map node_shape body)).index body h) k))) in
    either (has_floats c.state.floats.deferred || has_floats c.state.floats.second) (puts Clear.clear_again c) c (puts-here Clear.clear_again c clear-nodes d) d

clear-here : (p : Params) (body : List PlainNode) (w : Work) (o : List Notes) → AllHere body → Here w → Here (Clear.clear_by p body w o)
clear-here p body w [] h k = clear_floats-here p body (Clear.without_notes w) h (record { boxes = emptied-boxes w.state.boxes; held = k.held; back = k.back })
clear-here p body w (n ∷ ns) h k = puts-here Clear.clear_again (Columns.put_out_text p (body ++ made (skip filling_glue) ∷ []) w) clear-nodes (put_out_text-here p (body ++ made (skip filling_glue) ∷ []) w k)

-- ---- floats and notes in the text

placed-here : (p : Params) (place : Where) (f : Float) (left : FloatLists) (w : Work) → Here w → Here (FloatMoves.place_float p place f left w)
placed-here p place f left w k =
    let s = stays (place_float-step p (no_law p) place f left w tt) in
    record { boxes = subst FloatlessBoxes (sym s.boxes) k.boxes; held = subst AllHere (sym s.held) k.held; back = subst AllHere (sym s.put_back) k.back }

defers-here : (p : Params) (f : Float) (left : FloatLists) (w : Work) → Here w → Here (Text.defer p f left w)
defers-here p f left w k =
    either (Text.only_here f) (sends (warned (warnings.Ht f.name)) (FloatMoves.place_float p places.Deferred (Text.with_top f) left w)) (FloatMoves.place_float p places.Deferred f left w)
    (sends-here (warned (warnings.Ht f.name)) (FloatMoves.place_float p places.Deferred (Text.with_top f) left w) (placed-here p places.Deferred (Text.with_top f) left w k)) (placed-here p places.Deferred f left w k)

stands-here : (p : Params) (vert : Bool) (f : Float) → AllHere (Text.here_nodes p vert f)
stands-here p true f = (tt, (refl, (tt, (tt, (tt, tt)))))
stands-here p false f = (tt, (refl, (tt, (tt, tt))))

goes-here : (p : Params) (vert : Bool) (f : Float) (left : FloatLists) (w : Work) (place : Where) → Here w → Here (Text.float_goes p vert f left w place)
goes-here p vert f left w places.Here k = puts-here (Text.here_nodes p vert f) _ (stands-here p vert f) (interline-here p f.nobreak _ (placed-here p places.Here f left w k))
goes-here p vert f left w places.Top k = interline-here p f.nobreak _ (placed-here p places.Top f left w k)
goes-here p vert f left w places.Bottom k = interline-here p f.nobreak _ (placed-here p places.Bottom f left w k)
goes-here p vert f left w places.Page k = interline-here p f.nobreak _ (defers-here p f left w k)
goes-here p vert f left w places.Double k = interline-here p f.nobreak _ (defers-here p f left w k)
goes-here p vert f left w places.Deferred k = interline-here p f.nobreak _ (defers-here p f left w k)

note-here : (p : Params) (depth : ℤ) (m : Margin) (left : FloatLists) (w : Work) (at : Placed) → Here w → Here (Text.note_goes p depth m left w at)
note-here p depth m left w at k =
    let a = Text.with_note_bottom at.bottom (with_floats left w) in
    let h : Here a = record { boxes = k.boxes; held = k.held; back = k.back } in
    interline-here p m.nobreak (puts (Text.note_nodes depth m at) (Text.moved_warning m at a))
    (puts-here (Text.note_nodes depth m at) (Text.moved_warning m at a) (tt, (tt, (tt, tt))) (either at.moved (sends (warned (warnings.Moved m.name at.shift)) a) a (sends-here (warned (warnings.Moved m.name at.shift)) a h) h))

first-here : (p : Params) (vert : Bool) (height depth page_height : ℤ) (es : List Entry) (w : Work) → Here w → Here (Text.first_goes p vert height depth page_height es w)
first-here p vert height depth page_height (entries.Float f ∷ es) w k = goes-here p vert f (record w.state.floats { current = es }) w _ k
first-here p vert height depth page_height (entries.Left m ∷ []) w k = note-here p depth m (record w.state.floats { current = [] }) w _ k
first-here p vert height depth page_height (entries.Left m ∷ n ∷ es) w k = note-here p depth m (record w.state.floats { current = es }) w _ k
first-here p vert height depth page_height (entries.Right m ∷ es) w k = interline-here p false w k
first-here p vert height depth page_height [] w k = interline-here p false w k

text-here : (p : Params) (vert : Bool) (body : List PlainNode) (w : Work) → AllHere body → Here w → Here (Text.float_or_note p vert body w)
text-here p vert body w h k =
    let ns = w.state.held_page ++ Text.without_firing_box body in
    let back = nodes-join ns (Text.notes_nodes p (footnotes w.state)) (nodes-join w.state.held_page (Text.without_firing_box body) k.held (nodes-take (length body - 2) body h)) (notes-back p (footnotes w.state) (notes-floatless w.state.classes w.state.boxes k.boxes)) in
    first-here p vert _ _ _ w.state.floats.current (Text.list_back p ns w) (record { boxes = emptied-boxes w.state.boxes; held = tt; back = nodes-join w.put_back (ns ++ Text.notes_nodes p (footnotes w.state)) k.back back })

-- ---- the firing

output-here : (p : Params) (f : Fired) (w : Work) → AllHere f.body → Here w → Here (Output.output_by p f w)
output-here p f w h k =
    either (int_le eject_penalty f.penalty) (Columns.ordinary p f.body w) _ (ordinary-here p f.body w k)
    (either (Output.is_int f.penalty clear_penalty) (Clear.clear p f.body w) _ (clear-here p f.body w (standing_notes (footnotes w.state)) h k)
    (either (Output.is_int f.penalty par_penalty) (Text.float_or_note p false f.body w) _ (text-here p false f.body w h k)
    (either (Output.is_int f.penalty vert_penalty) (Text.float_or_note p true f.body w) (Output.hold f.body w) (text-here p true f.body w h k) (record { boxes = k.boxes; held = h; back = k.back }))))

goal-here : (p : Params) (n : ℤ) (w : Work) → Here w → Here (Output.next_goal p n w)
goal-here p n w k =
    let room = column_room_of p w.state.floats in
    let two = w.state.two_columns && not w.state.first_column in
    either (Output.is_int n hold_penalty) (Output.with_goal max_dimen w) (Output.goal_by p room w) (goal max_dimen)
    (either (Output.is_crowded p room) (Output.leave_column w) (Output.with_goal room w)
    (puts-here (if two then Output.blank_column ++ Output.blank_column else Output.blank_column) (sends (warned (warnings.Floats w.state.number)) w) (blank two) (sends-here (warned (warnings.Floats w.state.number)) w k)) (goal room))
  where
    goal : (g : ℤ) → Here (Output.with_goal g w)
    goal g = record { boxes = k.boxes; held = k.held; back = k.back }

    blank : (t : Bool) → AllHere (if t then Output.blank_column ++ Output.blank_column else Output.blank_column)
    blank true = (tt, (tt, (tt, (tt, tt))))
    blank false = (tt, (tt, tt))

-- between two firings
pub record HereState (s : State) : Type 0 where
  pub waiting : AllHere s.waiting
  pub boxes : FloatlessBoxes s.boxes
  pub held : AllHere s.held_page

-- the firing of a page keeps it
pub out-here : (p : Params) (s : State) (f : Fired) → HereState s → HereFired f → HereState (Output.out p s f).state
unfolding Output.out
out-here p s f h g = all (Output.next_goal p f.penalty (Output.output_by p f (begun (Output.after_page s f)))) (goal-here p f.penalty _ (output-here p f (begun (Output.after_page s f)) g.body (record { boxes = g.boxes; held = h.held; back = tt })))
  where
    all : (c : Work) → Here c → HereState (Output.waiting_again f c).state
    all c k = record { waiting = nodes-join (f.held ++ c.put_back) f.rest (nodes-join f.held c.put_back g.held k.back) g.rest; boxes = k.boxes; held = k.held }
