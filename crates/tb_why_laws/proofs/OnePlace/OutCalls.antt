-- What a firing leaves to be called: it puts back no acts, and takes from the current list at most.
use Rattle.std.proofs.Common.{◌≡◌, refl, sym, ◌∙◌, ap, subst, ℕ, pos, ◌+◌, ◌≤◌, Bool, true, false, List, [], ◌∷◌, ◌++◌, take, drop, map, length, Option, Some, None, arith}
use Rattle.std.specs.Prelude.{ℤ, int_le, not, ◌-◌, ◌||◌, ◌&&◌, if◌then◌else◌}
use Rattle.tb_scaled.specs.declared.Glue.{Glue}
use Rattle.tb_scaled.specs.Scaled.{eject_penalty, max_dimen}
use Rattle.tb_scaled.specs.Glue.{filling_glue}
use Rattle.tb_node.specs.declared.Float.{Float}
use Rattle.tb_node.specs.declared.Margin.{Margin}
use Rattle.tb_node.specs.declared.Where.{Where}
use Rattle.tb_node.specs.declared.Where.TheVariants as places
use Rattle.tb_node.specs.PlainNodes.{PlainKind, plain, ins, act, PlainNode, node_shape, made, blank_box, skip, pen}
use Rattle.tb_node.proofs.Weights.{Weight}
use Rattle.tb_break.specs.Places.{last_or}
use Rattle.tb_break.specs.Split.{split_of}
use Rattle.tb_param.specs.declared.Params.{Params}
use Rattle.tb_builder.specs.FiredPages.{Fired}
use Rattle.tb_float.specs.declared.Entry.{Entry}
use Rattle.tb_float.specs.declared.Entry.TheVariants as entries
use Rattle.tb_float.specs.Lists.{FloatLists, wide_part, wide_waiting}
use Rattle.tb_float.specs.Rooms.{column_room_of}
use Rattle.tb_float.proofs.WaitingLemmas.{wide-waits}
use Rattle.tb_area.specs.Area.{current_place}
use Rattle.tb_margin.specs.declared.Placed.{Placed}
use Rattle.tb_column.specs.Column.{Notes, standing_notes}
use Rattle.tb_sheet.specs.Asked.{clear_penalty, par_penalty, vert_penalty, hold_penalty}
use Rattle.tb_sheet.specs.Sheet.{PlainSent, warned}
use Rattle.tb_sheet.specs.declared.Warn.TheVariants as warnings
use Rattle.tb_output.specs.State.{State, Work, begun, puts, sends, with_floats, footnotes, has_floats}
use Rattle.tb_output.specs.FloatMoves
use Rattle.tb_output.specs.Pages
use Rattle.tb_output.specs.Columns
use Rattle.tb_output.specs.Text
use Rattle.tb_output.specs.Clear
use Rattle.tb_output.specs.Output
use Rattle.tb_output.proofs.StepLaws.RefusedSteps.{by-sends}
use Rattle.tb_output.proofs.StepLaws.FollowLemmas.{Follows, joined-current, part-current, follows-put_out, follows-float_columns, follows-wide_pages, follows-next}
use Rattle.tb_output.proofs.StepLaws.ColumnSteps.{stays, no_law, place_float-step}
use Rattle.tb_laws.proofs.Closed.SortLemmas.{Steady, kind_sort}
use Rattle.tb_laws.proofs.Closed.PlaceLemmas.{AllSteady}
use Rattle.tb_laws.proofs.NothingLost.StateWeights.{entries_weight}
use Rattle.tb_laws.proofs.ClassesRise.PageLines.{kind_deeds, deeds, deeds-append, deeds-split, none-front}

-- ---- nodes without acts

-- steady nodes have none
pub steady-deeds : (ns : List PlainNode) → AllSteady ns → deeds ns ≡ []
steady-deeds [] h = refl
steady-deeds (n ∷ ns) h = by_kind n.line n.kind h.0 (steady-deeds ns h.1)
  where
    by_kind : (l : ℕ) (k : PlainKind) → Steady (kind_sort k) → deeds ns ≡ [] → kind_deeds k ++ deeds ns ≡ []
    by_kind l (plain m) h e = e
    by_kind l (ins i) h e = e
    by_kind l (act a) h e = absurd h

take-deeds : (k : ℕ) (ns : List PlainNode) → deeds ns ≡ [] → deeds (take k ns) ≡ []
take-deeds k ns e = none-front (deeds (take k ns)) (deeds (drop k ns)) (deeds-split k ns ∙ e)

both-deeds : (xs ys : List PlainNode) → deeds xs ≡ [] → deeds ys ≡ [] → deeds (xs ++ ys) ≡ []
both-deeds xs ys a b = deeds-append xs ys ∙ ap (λ l. l ++ deeds ys) a ∙ b

notes-deeds : (p : Params) (ns : List Notes) → deeds (Text.notes_nodes p ns) ≡ []
notes-deeds p [] = refl
notes-deeds p (n ∷ ns) = notes-deeds p ns

penalty-deeds : (n : ℤ) (o : Option Glue) → deeds (Text.penalty_nodes n o) ≡ []
penalty-deeds n None = refl
penalty-deeds n (Some g) = refl

between-deeds : (n : ℤ) (nobreak : Bool) (ns : List PlainNode) → deeds (Text.penalty_between n nobreak ns) ≡ []
between-deeds n true ns = refl
between-deeds n false ns = penalty-deeds n (Text.glue_at_end (last_or (plain (pen n)) (map (λ (m : PlainNode). m.kind) ns)))

here-deeds : (p : Params) (vert : Bool) (f : Float) → deeds (Text.here_nodes p vert f) ≡ []
here-deeds p true f = refl
here-deeds p false f = refl

-- ---- steps of a firing

-- no act is put back if none was before, and the current list has no more than before
pub record Brings (a b : Work) : Type 0 where
  pub quiet : deeds a.put_back ≡ [] → deeds b.put_back ≡ []
  pub current : (v : Weight) → entries_weight v b.state.floats.current ≤ entries_weight v a.state.floats.current

same : (a b : Work) → b.put_back ≡ a.put_back → b.state.floats.current ≡ a.state.floats.current → Brings a b
same a b e d = record { quiet = λ h. ap deeds e ∙ h; current = λ v. equal (entries_weight v a.state.floats.current) (entries_weight v b.state.floats.current) (ap (entries_weight v) d) }
  where
    equal : (x y : ℕ) → y ≡ x → y ≤ x
    equal x y e = omega arith

brings-then : (a b c : Work) → Brings a b → Brings b c → Brings a c
brings-then a b c x y = record { quiet = λ h. y.quiet (x.quiet h); current = λ v. down (entries_weight v a.state.floats.current) (entries_weight v b.state.floats.current) (entries_weight v c.state.floats.current) (x.current v) (y.current v) }
  where
    down : (x y z : ℕ) → y ≤ x → z ≤ y → z ≤ x
    down x y z d e = omega arith

either : (a : Work) (t : Bool) (b c : Work) → Brings a b → Brings a c → Brings a (if t then b else c)
either a true b c x y = x
either a false b c x y = y

puts-brings : (ns : List PlainNode) (w : Work) → deeds ns ≡ [] → Brings w (puts ns w)
puts-brings ns w e = record { quiet = λ h. both-deeds w.put_back ns h e; current = λ v. omega arith }

-- and then these nodes go back
then-puts : (a b : Work) (ns : List PlainNode) → deeds ns ≡ [] → Brings a b → Brings a (puts ns b)
then-puts a b ns e x = brings-then a b (puts ns b) x (puts-brings ns b e)

interline-brings : (p : Params) (nobreak : Bool) (a b : Work) → Brings a b → Brings a (Text.puts_interline p nobreak b)
interline-brings p nobreak a b x = then-puts a b (Text.penalty_between p.interlinepenalty nobreak b.put_back) (between-deeds p.interlinepenalty nobreak b.put_back) x

follows : (a b : Work) → Follows (λ f. Unit {0}) a b → Brings a b
follows a b x = same a b x.back x.current

-- ---- columns and pages

put_out_text-brings : (p : Params) (body : List PlainNode) (w : Work) → Brings w (Columns.put_out_text p body w)
put_out_text-brings p body w =
    let c = Columns.text_of p w.state body in
    let a = Columns.without_column_floats w in
    brings-then w a (Columns.put_out_text p body w) (same w a refl refl) (follows a (Columns.put_out_text p body w) (follows-put_out (λ f. Unit {0}) p c a))

columns-brings : (p : Params) (clearing : Bool) (w : Work) → Brings w (Columns.all_float_columns p clearing w)
columns-brings p clearing w = follows w (Columns.all_float_columns p clearing w) (follows-float_columns (λ f. Unit {0}) p clearing (length w.state.floats.deferred) w)

wide-brings : (p : Params) (clearing : Bool) (w : Work) → Brings w (Pages.all_wide_pages p clearing w)
wide-brings p clearing w = follows w (Pages.all_wide_pages p clearing w) (follows-wide_pages (λ f. Unit {0}) p clearing (length (wide_waiting p w.state.floats)) w)

ordinary-brings : (p : Params) (body : List PlainNode) (w : Work) → Brings w (Columns.ordinary p body w)
ordinary-brings p body w =
    let a = Columns.put_out_text p body w in
    let b = Columns.all_float_columns p false a in
    brings-then w a (Columns.ordinary p body w) (put_out_text-brings p body w)
    (brings-then a b (Columns.ordinary p body w) (columns-brings p false a) (follows b (Columns.ordinary p body w) (follows-next (λ f. Unit {0}) p [] b.state.floats.deferred b refl)))

-- ---- a clear

clear_wide-brings : (p : Params) (w : Work) → Brings w (Clear.clear_wide p w)
clear_wide-brings p w =
    let a = with_floats (Clear.double_again p w.state.floats) w in
    either w (not w.state.two_columns) w _ (same w w refl refl)
    (either w w.state.first_column (Pages.all_wide_pages p true a) (puts (made blank_box ∷ Clear.clear_again) w)
    (brings-then w a (Pages.all_wide_pages p true a) (same w a refl (part-current (wide_part p) (wide-waits p) (w.state.floats.double ++ wide_waiting p w.state.floats) (record w.state.floats { double = [] }))) (wide-brings p true a))
    (puts-brings (made blank_box ∷ Clear.clear_again) w refl))

clear_rest-brings : (w : Work) → Brings w (Clear.clear_rest w)
clear_rest-brings w = either w (has_floats w.state.floats.deferred || has_floats w.state.floats.second) (puts Clear.clear_again w) w (puts-brings Clear.clear_again w refl) (same w w refl refl)

clear_floats-brings : (p : Params) (body : List PlainNode) (w : Work) → deeds body ≡ [] → Brings w (Clear.clear_floats p body w)
clear_floats-brings p body w e =
    let z = puts (Clear.cleared_front p body) w in
    let a = with_floats (Clear.deferred_again w.state.floats) z in
    let b = Columns.all_float_columns p true a in
    let c = Clear.clear_wide p b in
    brings-then w z _ (puts-brings (Clear.cleared_front p body) w (take-deeds (split_of (pos 0) p.splitmaxdepth (map node_shape body)).index body e))
    (brings-then z a _ (same z a refl refl) (brings-then a b _ (columns-brings p true a) (brings-then b c _ (clear_wide-brings p b) (clear_rest-brings c))))

clear-brings : (p : Params) (body : List PlainNode) (w : Work) (o : List Notes) → deeds body ≡ [] → Brings w (Clear.clear_by p body w o)
clear-brings p body w [] e = brings-then w (Clear.without_notes w) _ (same w (Clear.without_notes w) refl refl) (clear_floats-brings p body (Clear.without_notes w) e)
clear-brings p body w (n ∷ ns) e = then-puts w (Columns.put_out_text p (body ++ made (skip filling_glue) ∷ []) w) Clear.clear_again refl (put_out_text-brings p (body ++ made (skip filling_glue) ∷ []) w)

-- ---- a float or a note

-- a float has gone, and these entries are left
pub record Leaves (es : List Entry) (a b : Work) : Type 0 where
  pub quiet : deeds a.put_back ≡ [] → deeds b.put_back ≡ []
  pub current : b.state.floats.current ≡ es

leaves-interline : (p : Params) (nobreak : Bool) (es : List Entry) (a b : Work) → Leaves es a b → Leaves es a (Text.puts_interline p nobreak b)
leaves-interline p nobreak es a b x = record { quiet = λ h. (interline-brings p nobreak b b (same b b refl refl)).quiet (x.quiet h); current = x.current }

placed-leaves : (p : Params) (place : Where) (f : Float) (left : FloatLists) (w : Work) → Leaves left.current w (FloatMoves.place_float p place f left w)
placed-leaves p place f left w = record { quiet = λ h. ap deeds (stays (place_float-step p (no_law p) place f left w tt)).put_back ∙ h; current = joined-current place f left }

sent-leaves : (es : List Entry) (a : Work) (e : PlainSent) (b : Work) → Leaves es a b → Leaves es a (sends e b)
sent-leaves es a e b x = by-sends (Leaves es a) e b x (record { quiet = x.quiet; current = x.current })

puts-leaves : (es : List Entry) (a : Work) (ns : List PlainNode) (b : Work) → deeds ns ≡ [] → Leaves es a b → Leaves es a (puts ns b)
puts-leaves es a ns b e x = record { quiet = λ h. both-deeds b.put_back ns (x.quiet h) e; current = x.current }

defer-leaves : (p : Params) (f : Float) (left : FloatLists) (w : Work) → Leaves left.current w (Text.defer p f left w)
defer-leaves p f left w = by_places (Text.only_here f)
  where
    by_places : (t : Bool) → Leaves left.current w (if t then sends (warned (warnings.Ht f.name)) (FloatMoves.place_float p places.Deferred (Text.with_top f) left w) else FloatMoves.place_float p places.Deferred f left w)
    by_places true = sent-leaves left.current w (warned (warnings.Ht f.name)) (FloatMoves.place_float p places.Deferred (Text.with_top f) left w) (placed-leaves p places.Deferred (Text.with_top f) left w)
    by_places false = placed-leaves p places.Deferred f left w

goes-leaves : (p : Params) (vert : Bool) (f : Float) (left : FloatLists) (w : Work) (place : Where) → Leaves left.current w (Text.float_goes p vert f left w place)
goes-leaves p vert f left w places.Here = puts-leaves left.current w (Text.here_nodes p vert f) _ (here-deeds p vert f) (leaves-interline p f.nobreak left.current w _ (placed-leaves p places.Here f left w))
goes-leaves p vert f left w places.Top = leaves-interline p f.nobreak left.current w _ (placed-leaves p places.Top f left w)
goes-leaves p vert f left w places.Bottom = leaves-interline p f.nobreak left.current w _ (placed-leaves p places.Bottom f left w)
goes-leaves p vert f left w places.Page = leaves-interline p f.nobreak left.current w _ (defer-leaves p f left w)
goes-leaves p vert f left w places.Double = leaves-interline p f.nobreak left.current w _ (defer-leaves p f left w)
goes-leaves p vert f left w places.Deferred = leaves-interline p f.nobreak left.current w _ (defer-leaves p f left w)

note-leaves : (p : Params) (depth : ℤ) (m : Margin) (left : FloatLists) (w : Work) (at : Placed) → Leaves left.current w (Text.note_goes p depth m left w at)
note-leaves p depth m left w at = leaves-interline p m.nobreak left.current w _ (puts-leaves left.current w (Text.note_nodes depth m at) _ refl (by_moved at.moved))
  where
    a : Work
    a = Text.with_note_bottom at.bottom (with_floats left w)

    by_moved : (t : Bool) → Leaves left.current w (if t then sends (warned (warnings.Moved m.name at.shift)) a else a)
    by_moved true = sent-leaves left.current w (warned (warnings.Moved m.name at.shift)) a (record { quiet = λ h. h; current = refl })
    by_moved false = record { quiet = λ h. h; current = refl }

-- what is left is no more than what was there
fewer : (es : List Entry) (a b : Work) → Leaves es a b → ((v : Weight) → entries_weight v es ≤ entries_weight v a.state.floats.current) → Brings a b
fewer es a b x h = record { quiet = x.quiet; current = λ v. subst (λ c. entries_weight v c ≤ entries_weight v a.state.floats.current) (sym x.current) (h v) }

first-brings : (p : Params) (vert : Bool) (height depth page_height : ℤ) (es : List Entry) (w : Work) → w.state.floats.current ≡ es → Brings w (Text.first_goes p vert height depth page_height es w)
first-brings p vert height depth page_height (entries.Float f ∷ es) w e = fewer es w _ (goes-leaves p vert f (record w.state.floats { current = es }) w _) (λ v. let k : entries_weight v w.state.floats.current ≡ v.float f.line + entries_weight v es = ap (entries_weight v) e in omega arith)
first-brings p vert height depth page_height (entries.Left m ∷ []) w e = fewer [] w _ (note-leaves p depth m (record w.state.floats { current = [] }) w _) (λ v. omega arith)
first-brings p vert height depth page_height (entries.Left m ∷ n ∷ es) w e =
    fewer es w _ (note-leaves p depth m (record w.state.floats { current = es }) w _) (λ v. let k : entries_weight v w.state.floats.current ≡ v.margin m.line + entries_weight v (n ∷ es) = ap (entries_weight v) e in let l : entries_weight v es ≤ entries_weight v (n ∷ es) = behind v n in omega arith)
  where
    behind : (v : Weight) (n : Entry) → entries_weight v es ≤ entries_weight v (n ∷ es)
    behind v (entries.Float f) = omega arith
    behind v (entries.Left m) = omega arith
    behind v (entries.Right m) = omega arith
first-brings p vert height depth page_height (entries.Right m ∷ es) w e = interline-brings p false w w (same w w refl refl)
first-brings p vert height depth page_height [] w e = interline-brings p false w w (same w w refl refl)

-- the list of the page goes back before it
back-brings : (p : Params) (ns : List PlainNode) (w : Work) → deeds ns ≡ [] → Brings w (Text.list_back p ns w)
back-brings p ns w e = record { quiet = λ h. both-deeds w.put_back (ns ++ Text.notes_nodes p (footnotes w.state)) h (both-deeds ns (Text.notes_nodes p (footnotes w.state)) e (notes-deeds p (footnotes w.state))); current = λ v. omega arith }

text-brings : (p : Params) (vert : Bool) (body : List PlainNode) (w : Work) → deeds w.state.held_page ≡ [] → deeds body ≡ [] → Brings w (Text.float_or_note p vert body w)
text-brings p vert body w h e =
    let ns = w.state.held_page ++ Text.without_firing_box body in
    brings-then w (Text.list_back p ns w) _ (back-brings p ns w (both-deeds w.state.held_page (Text.without_firing_box body) h (take-deeds (length body - 2) body e))) (first-brings p vert _ _ _ w.state.floats.current (Text.list_back p ns w) refl)

-- if the first is a float, those behind it are left
first-current : (p : Params) (vert : Bool) (height depth page_height : ℤ) (c : List Entry) (w : Work) (g : Float) (es : List Entry) → c ≡ entries.Float g ∷ es → (Text.first_goes p vert height depth page_height c w).state.floats.current ≡ es
first-current p vert height depth page_height c w g es e =
    subst (λ c. (Text.first_goes p vert height depth page_height c w).state.floats.current ≡ es) (sym e) (goes-leaves p vert g (record w.state.floats { current = es }) w (current_place p w.state.floats w.state.suppress page_height g)).current

text-current : (p : Params) (vert : Bool) (body : List PlainNode) (w : Work) (g : Float) (es : List Entry) → w.state.floats.current ≡ entries.Float g ∷ es → (Text.float_or_note p vert body w).state.floats.current ≡ es
text-current p vert body w g es e = first-current p vert _ _ _ w.state.floats.current (Text.list_back p (w.state.held_page ++ Text.without_firing_box body) w) g es e

-- ---- the firing

-- a firing for a float or a note
abbrev pub is_text : ℤ → Bool
is_text n = not (int_le eject_penalty n) && (not (Output.is_int n clear_penalty) && (Output.is_int n par_penalty || Output.is_int n vert_penalty))

output-brings : (p : Params) (f : Fired) (w : Work) → deeds w.state.held_page ≡ [] → deeds f.body ≡ [] → Brings w (Output.output_by p f w)
output-brings p f w h e =
    either w (int_le eject_penalty f.penalty) (Columns.ordinary p f.body w) _ (ordinary-brings p f.body w)
    (either w (Output.is_int f.penalty clear_penalty) (Clear.clear p f.body w) _ (clear-brings p f.body w (standing_notes (footnotes w.state)) e)
    (either w (Output.is_int f.penalty par_penalty) (Text.float_or_note p false f.body w) _ (text-brings p false f.body w h e)
    (either w (Output.is_int f.penalty vert_penalty) (Text.float_or_note p true f.body w) (Output.hold f.body w) (text-brings p true f.body w h e) (same w (Output.hold f.body w) refl refl))))

output-current : (p : Params) (f : Fired) (w : Work) (g : Float) (es : List Entry) → w.state.floats.current ≡ entries.Float g ∷ es → is_text f.penalty ≡ true → (Output.output_by p f w).state.floats.current ≡ es
output-current p f w g es e t = by_penalty (int_le eject_penalty f.penalty) (Output.is_int f.penalty clear_penalty) (Output.is_int f.penalty par_penalty) (Output.is_int f.penalty vert_penalty) t
  where
    by_penalty : (a b c d : Bool) → (not a && (not b && (c || d))) ≡ true → (if a then Columns.ordinary p f.body w else (if b then Clear.clear p f.body w else (if c then Text.float_or_note p false f.body w else (if d then Text.float_or_note p true f.body w else Output.hold f.body w)))).state.floats.current ≡ es
    by_penalty true b c d h = cc
    by_penalty false true c d h = cc
    by_penalty false false true d h = text-current p false f.body w g es e
    by_penalty false false false true h = text-current p true f.body w g es e
    by_penalty false false false false h = cc

-- the goal of the next page leaves the lists
goal-leaves : (p : Params) (n : ℤ) (w : Work) → Leaves w.state.floats.current w (Output.next_goal p n w)
goal-leaves p n w = by_hold (Output.is_int n hold_penalty) (Output.is_crowded p (column_room_of p w.state.floats)) (w.state.two_columns && not w.state.first_column)
  where
    blank : (t : Bool) → deeds (if t then Output.blank_column ++ Output.blank_column else Output.blank_column) ≡ []
    blank true = refl
    blank false = refl

    by_hold : (h c t : Bool) → Leaves w.state.floats.current w (if h then Output.with_goal max_dimen w else (if c then puts (if t then Output.blank_column ++ Output.blank_column else Output.blank_column) (sends (warned (warnings.Floats w.state.number)) w) else Output.with_goal (column_room_of p w.state.floats) w))
    by_hold true c t = record { quiet = λ h. h; current = refl }
    by_hold false true t = puts-leaves w.state.floats.current w _ _ (blank t) (sent-leaves w.state.floats.current w (warned (warnings.Floats w.state.number)) w (record { quiet = λ h. h; current = refl }))
    by_hold false false t = record { quiet = λ h. h; current = refl }

-- so the work as a whole
work-brings : (p : Params) (n : ℤ) (a b : Work) → Brings a b → Brings a (Output.next_goal p n b)
work-brings p n a b x = let y = goal-leaves p n b in record { quiet = λ h. y.quiet (x.quiet h); current = λ v. subst (λ c. entries_weight v c ≤ entries_weight v a.state.floats.current) (sym y.current) (x.current v) }

module _ (p : Params) (s : State) (f : Fired) where
  page-brings : deeds s.held_page ≡ [] → deeds f.body ≡ [] → Brings (begun (Output.after_page s f)) (Output.next_goal p f.penalty (Output.output_by p f (begun (Output.after_page s f))))
  page-brings h e = work-brings p f.penalty (begun (Output.after_page s f)) _ (output-brings p f (begun (Output.after_page s f)) h e)

  -- the current list of the state after the firing has no more than before
  pub out-current : deeds s.held_page ≡ [] → deeds f.body ≡ [] → (v : Weight) → entries_weight v (Output.out p s f).state.floats.current ≤ entries_weight v s.floats.current
  unfolding Output.out
  out-current h e v = (page-brings h e).current v

  -- after one for a float it has what came behind the float
  pub out-behind : (g : Float) (es : List Entry) → s.floats.current ≡ entries.Float g ∷ es → is_text f.penalty ≡ true → (Output.out p s f).state.floats.current ≡ es
  unfolding Output.out
  out-behind g es e t = (goal-leaves p f.penalty (Output.output_by p f (begun (Output.after_page s f)))).current ∙ output-current p f (begun (Output.after_page s f)) g es e t

  -- the acts that wait then are those behind the break
  pub out-deeds : deeds s.held_page ≡ [] → deeds f.body ≡ [] → deeds f.held ≡ [] → deeds (Output.out p s f).state.waiting ≡ deeds f.rest
  unfolding Output.out
  out-deeds h e held = all (Output.next_goal p f.penalty (Output.output_by p f (begun (Output.after_page s f)))).put_back ((page-brings h e).quiet refl)
    where
      all : (ns : List PlainNode) → deeds ns ≡ [] → deeds (f.held ++ ns ++ f.rest) ≡ deeds f.rest
      all ns k = deeds-append (f.held ++ ns) f.rest ∙ ap (λ l. l ++ deeds f.rest) (both-deeds f.held ns held k)
