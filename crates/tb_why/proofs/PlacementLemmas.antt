-- Each float that a firing places is told to go there, and no other: the placements that are told are those that are recorded.
use Rattle.std.proofs.Common.{◌≡◌, ℕ, zero, suc, pos, Bool, true, false, List, [], ◌∷◌, ◌++◌, append_assoc, append-nil, map, length, Some, None, refl, sym, ap, ◌∙◌}
use Rattle.std.specs.Prelude.{ℤ, ◌+◌, ◌+ℤ◌, ◌-ℤ◌, ◌||◌, not, Option, int_le, int_lt, if◌then◌else◌}
use Rattle.tb_scaled.specs.Scaled.{max_ℤ, eject_penalty}
use Rattle.tb_scaled.specs.Glue.{filling_glue}
use Rattle.tb_node.specs.declared.Float.{Float}
use Rattle.tb_node.specs.declared.Margin.{Margin}
use Rattle.tb_node.specs.declared.Where.{Where}
use Rattle.tb_node.specs.declared.Where.TheVariants as places
use Rattle.tb_node.specs.PlainNodes.{PlainNode, node_shape, skip, made}
use Rattle.tb_node.specs.Sums.{size_of, last_depth}
use Rattle.tb_param.specs.declared.Params.{Params}
use Rattle.tb_builder.specs.FiredPages.{Fired}
use Rattle.tb_float.specs.declared.Entry.{Entry}
use Rattle.tb_float.specs.declared.Entry.TheVariants as entries
use Rattle.tb_float.specs.declared.Part.{Part}
use Rattle.tb_float.specs.declared.Part.TheVariants as parts
use Rattle.tb_float.specs.declared.Suppress.{Suppress}
use Rattle.tb_float.specs.Lists.{FloatLists, has_class, with_floats_of, wide_part, wide_waiting}
use Rattle.tb_float.specs.Rooms.{column_height_of}
use Rattle.tb_told.specs.Tested.{all_hold}
use Rattle.tb_area.specs.Area.{AreaPlace, at_top, at_bottom, deferred, where_of, current_place, next_place, double_place, may_enter, top_or_bottom, bottom_or_deferred, text_minimum, next_separator, tries_top, fits_column}
use Rattle.tb_told.specs.declared.Told.{Told}
use Rattle.tb_told.specs.declared.Told.TheVariants.{Goes}
use Rattle.tb_told.specs.AreaTold.{told_bottom, told_areas, told_column, told_call, told_next, told_wide, place_told, enter_tests, here_tests, top_tests}
use Rattle.tb_told.proofs.AreaLemmas.{call_decides, next_decides, wide_decides}
use Rattle.tb_fpage.specs.declared.Wanted.{Wanted}
use Rattle.tb_fpage.specs.Company.{Choice, company, chosen_floats, left_floats}
use Rattle.tb_told.specs.declared.ToldColumn.{ToldColumn}
use Rattle.tb_told.specs.ColumnTold.{told_column as told_of_column}
use Rattle.tb_margin.specs.declared.Placed.{Placed}
use Rattle.tb_margin.specs.Margin.{placed_note}
use Rattle.tb_column.specs.Column.{PlainColumn, Notes, standing_notes, single_floats_column, wide_floats_column}
use Rattle.tb_sheet.specs.Sheet.{PlainSheet, PlainSent, warned, shipped, one, wide, pair_sheet}
use Rattle.tb_sheet.specs.declared.Warn.TheVariants as warnings
use Rattle.tb_output.specs.State.{State, Work, Recorded, placed, output, emptied, begun, footnotes, puts, sends, records_also, with_floats}
use Rattle.tb_output.specs.FloatMoves.{is_placed, place_float, still_deferred, place_waiting, place_next, place_double}
use Rattle.tb_output.specs.Pages.{ship_now, ship, wide_wanted, ship_wide, wide_pages, wide_pages_by, all_wide_pages, keep_left, left_or, without_double, with_deferred, fill_double, ship_pair, put_out_by, put_out}
use Rattle.tb_output.specs.Columns.{text_of, put_out_text, put_out_company, single_wanted, float_columns, float_columns_by, all_float_columns, fill_column, ordinary, without_column_floats}
use Rattle.tb_output.specs.Clear.{without_notes, cleared_front, deferred_again, double_again, clear_wide, clear_rest, clear_floats, clear_by, clear, clear_again}
use Rattle.tb_output.specs.Text.{without_firing_box, notes_height, list_back, puts_interline, only_here, with_top, defer, float_goes, note_goes, note_at, moved_warning, with_note_bottom, first_goes, float_or_note}
use Rattle.tb_sheet.specs.Asked.{clear_penalty, par_penalty, vert_penalty, hold_penalty}
use Rattle.tb_output.specs.Output.{is_int, hold, output_by, leave_column, next_goal, is_crowded, after_page, out}
use Rattle.tb_told.specs.declared.Spot.{Spot}
use Rattle.tb_told.specs.declared.Tale.{Tale}
use Rattle.tb_told.specs.declared.Tale.TheVariants.{PutOut, InColumn, Stands}
use Rattle.tb_told.specs.Tales.{decisions, has_width, column_tales, back_tales, tales, stands_tales, here_lines}
use Rattle.tb_why.specs.Firing
use Rattle.tb_told.specs.declared.Piece.{Piece}
use Rattle.tb_told.specs.declared.Piece.TheVariants.{Says, NextSent}
use Rattle.tb_why.specs.Firing.{spot_of, unless_over}
use Rattle.tb_why.specs.Placements.{placements_of, placement_if, placement_in, placements_told}

-- ---- lists

placements-append : (rs qs : List Recorded) → placements_of (rs ++ qs) ≡ placements_of rs ++ placements_of qs
placements-append [] qs = refl
placements-append (placed p f w l h ∷ rs) qs = ap (λ ps. record { float = f; place = w } ∷ ps) (placements-append rs qs)
placements-append (output c ∷ rs) qs = placements-append rs qs
placements-append (emptied l ∷ rs) qs = placements-append rs qs

told-append : (ps qs : List Piece) → placements_told (ps ++ qs) ≡ placements_told ps ++ placements_told qs
told-append [] qs = refl
told-append (Says t ∷ ps) qs = ap (λ xs. placement_in t ++ xs) (told-append ps qs) ∙ sym (append_assoc (placement_in t) (placements_told ps) (placements_told qs))
told-append (NextSent ∷ ps) qs = told-append ps qs

-- a step from one work to another tells of its placements
abbrev Tells : Work → Work → List Piece → Type 0
Tells w next ps = placements_of next.records ≡ placements_of w.records ++ placements_told ps

-- a step that records nothing, and of which nothing of placements is told
quiet : (w next : Work) (ps : List Piece) → next.records ≡ w.records → placements_told ps ≡ [] → Tells w next ps
quiet w next ps same none = ap placements_of same ∙ sym (ap (λ xs. placements_of w.records ++ xs) none ∙ append-nil (placements_of w.records))

-- one step after another
follows : (w v next : Work) (ps qs : List Piece) → Tells w v ps → Tells v next qs → Tells w next (ps ++ qs)
follows w v next ps qs x y =
    y ∙ ap (λ xs. xs ++ placements_told qs) x ∙ append_assoc (placements_of w.records) (placements_told ps) (placements_told qs)
    ∙ ap (λ xs. placements_of w.records ++ xs) (sym (told-append ps qs))

-- a step that comes before, and records nothing
behind : (w v next : Work) (ps : List Piece) → v.records ≡ w.records → Tells v next ps → Tells w next ps
behind w v next ps same x = x ∙ ap (λ rs. placements_of rs ++ placements_told ps) same

-- a step that comes after, and records nothing
before-quiet : (w v next : Work) (ps : List Piece) → next.records ≡ v.records → Tells w v ps → Tells w next ps
before-quiet w v next ps same x = ap placements_of same ∙ x

-- ---- what is told of a decision names one place

abbrev One : Float → List Told → Type 0
One f ts = placements_told (tales (decisions f ts)) ≡ placement_if f (place_told ts)

one_goes : (f : Float) (w : Where) → One f (Goes w ∷ [])
one_goes f w = append-nil (placement_if f w)

one_by : (f : Float) (b : Bool) (x y : List Told) → One f x → One f y → One f (if b then x else y)
one_by f true x y h k = h
one_by f false x y h k = k

one_bottom : (p : Params) (l : FloatLists) (s : Suppress) (r : ℤ) (f : Float) → One f (told_bottom p l s r f)
one_bottom p l s r f = append-nil _

one_areas : (p : Params) (l : FloatLists) (s : Suppress) (r : ℤ) (f : Float) → One f (told_areas p l s r f)
one_areas p l s r f =
    let above = r +ℤ next_separator p l.top in
    let low = if tries_top p l s f then above else r in
    one_by f (all_hold (top_tests p l s above f)) (Goes (where_of at_top) ∷ []) (told_bottom p l s low f) (one_goes f places.Top) (one_bottom p l s low f)

one_column : (p : Params) (l : FloatLists) (s : Suppress) (r : ℤ) (f : Float) → One f (told_column p l s r f)
one_column p l s r f =
    let inside = r +ℤ p.intextsep.width in
    let to = if f.places.h then inside else r in
    one_by f (all_hold (here_tests p l inside f)) (Goes places.Here ∷ []) (if has_class f.class l.bottom then told_bottom p l s r f else told_areas p l s to f) (one_goes f places.Here)
    (one_by f (has_class f.class l.bottom) (told_bottom p l s r f) (told_areas p l s to f) (one_bottom p l s r f) (one_areas p l s to f))

one_call : (p : Params) (l : FloatLists) (s : Suppress) (h : ℤ) (f : Float) → One f (told_call p l s h f)
one_call p l s h f =
    let r = max_ℤ h (text_minimum p l f) +ℤ f.height in
    one_by f (all_hold (enter_tests p l s l.deferred r f)) (told_column p l s r f) (Goes places.Deferred ∷ []) (one_column p l s r f) (one_goes f places.Deferred)

one_next : (p : Params) (l : FloatLists) (s : Suppress) (before : List Float) (f : Float) → One f (told_next p l s before f)
one_next p l s before f =
    let r = f.height +ℤ text_minimum p l f in
    one_by f f.wide [] _ refl (one_by f (all_hold (enter_tests p l s before r f)) (told_areas p l s r f) (Goes places.Deferred ∷ []) (one_areas p l s r f) (one_goes f places.Deferred))

one_wide : (p : Params) (l : FloatLists) (s : Suppress) (before : List Float) (f : Float) → One f (told_wide p l s before f)
one_wide p l s before f = one_by f f.wide _ [] (append-nil _) refl

-- nothing of a column of floats is told to go to a list
column_none : (at : Spot) (z : Wanted) (fs : List Float) → placements_told (tales (column_tales at z fs)) ≡ []
column_none at z fs = by_width (has_width z.wide fs)
  where
    all_none : (ts : List ToldColumn) → placements_told (tales (map (λ t. InColumn t) ts)) ≡ []
    all_none [] = refl
    all_none (t ∷ ts) = all_none ts

    by_width : (b : Bool) → placements_told (tales (if b then Rattle.tb_told.specs.declared.Tale.TheVariants.Begins at z ∷ map (λ t. InColumn t) (told_of_column z fs) else [])) ≡ []
    by_width true = all_none (told_of_column z fs)
    by_width false = refl

back_none : (place : Where) (fs : List Float) (ts : List Tale) → placements_told (tales ts) ≡ [] → placements_told (tales (back_tales place fs ++ ts)) ≡ []
back_none place [] ts h = h
back_none place (f ∷ fs) ts h = back_none place fs ts h

over_none : (b : Bool) (ps : List Piece) → placements_told ps ≡ [] → placements_told (if b then [] else ps) ≡ []
over_none true ps h = refl
over_none false ps h = h

-- ---- what is recorded

sends-records : (e : PlainSent) (w : Work) → (sends e w).records ≡ w.records
sends-records e w = by_refused w.refused
  where
    by_refused : (t : Bool) → (if t then w else record w { sent = w.sent ++ e ∷ [] }).records ≡ w.records
    by_refused true = refl
    by_refused false = refl

ship-records : (p : Params) (sheet : PlainSheet) (w : Work) → (ship p sheet w).records ≡ w.records
ship-records p sheet w = by_refused w.refused (int_lt p.maxpages (pos w.state.page))
  where
    by_refused : (t u : Bool) → (if t then w else (if u then record w { refused = true } else ship_now sheet w)).records ≡ w.records
    by_refused true u = refl
    by_refused false true = refl
    by_refused false false = sends-records (shipped w.state.number sheet) (record w { state = record w.state { page = w.state.page + 1; number = w.state.number + 1; dead_cycles = 0 } })

column-quiet : (c : PlainColumn) (w : Work) → placements_of (records_also (output c) w).records ≡ placements_of w.records
column-quiet c w = by_refused w.refused
  where
    by_refused : (t : Bool) → placements_of (if t then w else record w { records = w.records ++ output c ∷ [] }).records ≡ placements_of w.records
    by_refused true = refl
    by_refused false = placements-append w.records (output c ∷ []) ∙ append-nil (placements_of w.records)

-- ---- a float that waits goes to its place

placed-told : (p : Params) (place : Where) (f : Float) (left : FloatLists) (ts : List Told) (w : Work) → One f ts → place_told ts ≡ place →
    Tells w (place_float p place f left w) (unless_over w (tales (decisions f ts)))
placed-told p place f left ts w only is = by_place (is_placed place) w.refused ∙ ap (λ xs. placements_of w.records ++ xs) (sym (by_over w.refused))
  where
    r : Recorded
    r = placed p f place w.state.floats (column_height_of p w.state.floats)

    by_place : (b t : Bool) → placements_of (if b then (if t then w else record w { records = w.records ++ r ∷ [] }) else w).records ≡ placements_of w.records ++ (if t then [] else (if b then record { float = f; place = place } ∷ [] else []))
    by_place true true = sym (append-nil (placements_of w.records))
    by_place true false = placements-append w.records (r ∷ [])
    by_place false true = sym (append-nil (placements_of w.records))
    by_place false false = sym (append-nil (placements_of w.records))

    by_over : (t : Bool) → placements_told (if t then [] else tales (decisions f ts)) ≡ (if t then [] else placement_if f place)
    by_over true = refl
    by_over false = only ∙ ap (λ x. placement_if f x) is

waiting-told : (from : Part) (p : Params) (place : Where) (f : Float) (before rest : List Float) (ts : List Told) (w : Work) → One f ts → place_told ts ≡ place →
    Tells w (place_waiting from p place f before rest w) (unless_over w (tales (decisions f ts)))
waiting-told from p place f before rest ts w only is = by_place (is_placed place) refl
  where
    none : (b t : Bool) → b ≡ false → placements_told (if t then [] else tales (decisions f ts)) ≡ (if t then [] else (if b then record { float = f; place = place } ∷ [] else [])) → placements_told (if t then [] else tales (decisions f ts)) ≡ []
    none false true e h = h
    none false false e h = h
    none true t e h = cc

    by_over : (t : Bool) → placements_told (if t then [] else tales (decisions f ts)) ≡ (if t then [] else placement_if f place)
    by_over true = refl
    by_over false = only ∙ ap (λ x. placement_if f x) is

    by_place : (b : Bool) → is_placed place ≡ b → Tells w (if b then place_float p place f (with_floats_of from (before ++ rest) w.state.floats) w else w) (unless_over w (tales (decisions f ts)))
    by_place true e = placed-told p place f (with_floats_of from (before ++ rest) w.state.floats) ts w only is
    by_place false e = quiet w w (unless_over w (tales (decisions f ts))) refl (none (is_placed place) w.refused e (by_over w.refused))

next-told : (p : Params) (before fs : List Float) (w : Work) → Tells w (place_next p before fs w) (Firing.next_pieces p before fs w)
next-told p before [] w = quiet w w [] refl refl
next-told p before (f ∷ rest) w =
    let l = w.state.floats in
    let s = w.state.suppress in
    let place = next_place p l s before f in
    let v = place_waiting parts.Deferred p place f before rest w in
    follows w v (place_next p (still_deferred place f before) rest v) (unless_over w (tales (decisions f (told_next p l s before f)))) (Firing.next_pieces p (still_deferred place f before) rest v)
    (waiting-told parts.Deferred p place f before rest (told_next p l s before f) w (one_next p l s before f) (next_decides p l s before f))
    (next-told p (still_deferred place f before) rest v)

double-told : (from : Part) (p : Params) (before fs : List Float) (w : Work) → Tells w (place_double from p before fs w) (Firing.double_pieces from p before fs w)
double-told from p before [] w = quiet w w [] refl refl
double-told from p before (f ∷ rest) w =
    let l = w.state.floats in
    let s = w.state.suppress in
    let place = double_place p l s before f in
    let v = place_waiting from p place f before rest w in
    follows w v (place_double from p (still_deferred place f before) rest v) (unless_over w (tales (decisions f (told_wide p l s before f)))) (Firing.double_pieces from p (still_deferred place f before) rest v)
    (waiting-told from p place f before rest (told_wide p l s before f) w (one_wide p l s before f) (wide_decides p l s before f))
    (double-told from p (still_deferred place f before) rest v)

-- ---- pages

ship-told : (p : Params) (sheet : PlainSheet) (w : Work) → Tells w (ship p sheet w) (Firing.ship_pieces p w)
ship-told p sheet w = quiet w (ship p sheet w) (Firing.ship_pieces p w) (ship-records p sheet w) (over_none w.refused _ (by_limit (int_lt p.maxpages (pos w.state.page))))
  where
    by_limit : (b : Bool) → placements_told (if b then [] else NextSent ∷ []) ≡ []
    by_limit true = refl
    by_limit false = refl

wide-told : (p : Params) (clearing : Bool) (n : ℕ) (w : Work) → Tells w (wide_pages p clearing n w) (Firing.wide_pieces p clearing n w)
wide-told p clearing zero w = quiet w w [] refl refl
wide-told p clearing (suc n) w =
    let fs = wide_waiting p w.state.floats in
    let z = wide_wanted p clearing in
    follows w w (wide_pages_by (λ w'. wide_pages p clearing n w') p w (company z fs)) (unless_over w (tales (column_tales (spot_of w.state) z fs))) (Firing.wide_pieces_by (λ w'. Firing.wide_pieces p clearing n w') p w (company z fs))
    (quiet w w (unless_over w (tales (column_tales (spot_of w.state) z fs))) refl (over_none w.refused (tales (column_tales (spot_of w.state) z fs)) (column_none (spot_of w.state) z fs)))
    (by_company (λ v. wide-told p clearing n v) (company z fs))
  where
    by_company : ((v : Work) → Tells v (wide_pages p clearing n v) (Firing.wide_pieces p clearing n v)) → (o : Option (List Choice)) → Tells w (wide_pages_by (λ w'. wide_pages p clearing n w') p w o) (Firing.wide_pieces_by (λ w'. Firing.wide_pieces p clearing n w') p w o)
    by_company again None = quiet w w [] refl refl
    by_company again (Some cs) =
        let v = ship_wide p cs w in
        let c = wide_floats_column p p.textheight (chosen_floats cs) in
        follows w w (wide_pages p clearing n v) (unless_over w (Says PutOut ∷ [])) (Firing.ship_pieces p w ++ Firing.wide_pieces p clearing n v)
        (quiet w w (unless_over w (Says PutOut ∷ [])) refl (over_none w.refused (Says PutOut ∷ []) refl))
        (follows w v (wide_pages p clearing n v) (Firing.ship_pieces p w) (Firing.wide_pieces p clearing n v)
        (ship-told p (wide c) (with_floats (Rattle.tb_float.specs.Lists.with_wide_waiting p (left_floats cs) w.state.floats) w))
        (again v))

pair-told : (p : Params) (c : PlainColumn) (w : Work) → Tells w (ship_pair p c w) (Firing.pair_pieces p c w)
pair-told p c w =
    let sheet = pair_sheet p w.state.floats (left_or c w.state.left_column) c in
    let v = without_double (ship p sheet w) in
    let u = all_wide_pages p false v in
    follows w v (fill_double p u) (Firing.ship_pieces p w) (Firing.after_pair p v)
    (ship-told p sheet w)
    (follows v u (fill_double p u) (Firing.all_wide_pieces p false v) (Firing.fill_double_pieces p u)
    (wide-told p false (length (wide_waiting p v.state.floats)) v)
    (double-told (wide_part p) p [] (wide_waiting p u.state.floats) u))

put_by-told : (p : Params) (c : PlainColumn) (w : Work) → Tells w (put_out_by p c w) (Firing.put_out_pieces_by p c w)
put_by-told p c w = by_columns w.state.two_columns w.state.first_column
  where
    by_columns : (t u : Bool) → Tells w (if not t then ship p (one c) w else (if u then keep_left c w else ship_pair p c w)) (if not t then Firing.ship_pieces p w else (if u then [] else Firing.pair_pieces p c w))
    by_columns false u = ship-told p (one c) w
    by_columns true true = quiet w (keep_left c w) [] refl refl
    by_columns true false = pair-told p c w

put_out-told : (p : Params) (c : PlainColumn) (w : Work) → Tells w (put_out p c w) (Firing.put_out_pieces p c w)
put_out-told p c w =
    let v = records_also (output c) w in
    follows w w (put_out p c w) (unless_over w (Says PutOut ∷ [])) (Firing.put_out_pieces_by p c v)
    (quiet w w (unless_over w (Says PutOut ∷ [])) refl (over_none w.refused (Says PutOut ∷ []) refl))
    (put_by-told p c v ∙ ap (λ xs. xs ++ placements_told (Firing.put_out_pieces_by p c v)) (column-quiet c w))

-- ---- columns

text_column-told : (p : Params) (body : List PlainNode) (w : Work) → Tells w (put_out_text p body w) (Firing.text_pieces p body w)
text_column-told p body w =
    let c = text_of p w.state body in
    let stands = tales (stands_tales body) in
    follows w w (put_out_text p body w) (unless_over w stands) (Firing.put_out_pieces p c (without_column_floats w))
    (quiet w w (unless_over w stands) refl (over_none w.refused stands (stand_none (here_lines body))))
    (put_out-told p c (without_column_floats w))
  where
    stand_none : (ls : List ℕ) → placements_told (tales (map (λ l. Stands l) ls)) ≡ []
    stand_none [] = refl
    stand_none (l ∷ ls) = stand_none ls

columns-told : (p : Params) (clearing : Bool) (n : ℕ) (w : Work) → Tells w (float_columns p clearing n w) (Firing.float_pieces p clearing n w)
columns-told p clearing zero w = quiet w w [] refl refl
columns-told p clearing (suc n) w =
    let fs = w.state.floats.deferred in
    let z = single_wanted p w.state.floats clearing in
    follows w w (float_columns_by (λ w'. float_columns p clearing n w') p w (company z fs)) (unless_over w (tales (column_tales (spot_of w.state) z fs))) (Firing.float_pieces_by (λ w'. Firing.float_pieces p clearing n w') p w (company z fs))
    (quiet w w (unless_over w (tales (column_tales (spot_of w.state) z fs))) refl (over_none w.refused (tales (column_tales (spot_of w.state) z fs)) (column_none (spot_of w.state) z fs)))
    (by_company (λ v. columns-told p clearing n v) (company z fs))
  where
    by_company : ((v : Work) → Tells v (float_columns p clearing n v) (Firing.float_pieces p clearing n v)) → (o : Option (List Choice)) → Tells w (float_columns_by (λ w'. float_columns p clearing n w') p w o) (Firing.float_pieces_by (λ w'. Firing.float_pieces p clearing n w') p w o)
    by_company again None = quiet w w [] refl refl
    by_company again (Some cs) =
        let v = put_out_company p cs w in
        follows w v (float_columns p clearing n v) (Firing.company_pieces p cs w) (Firing.float_pieces p clearing n v)
        (put_out-told p (single_floats_column p (column_height_of p w.state.floats) (chosen_floats cs)) (with_deferred (left_floats cs) w))
        (again v)

ordinary-told : (p : Params) (body : List PlainNode) (w : Work) → Tells w (ordinary p body w) (Firing.ordinary_pieces p body w)
ordinary-told p body w =
    let v = put_out_text p body w in
    let u = all_float_columns p false v in
    follows w v (fill_column p u) (Firing.text_pieces p body w) (Firing.start_pieces p v) (text_column-told p body w)
    (follows v u (fill_column p u) (Firing.all_float_pieces p false v) (Firing.fill_pieces p u)
    (columns-told p false (length v.state.floats.deferred) v)
    (next-told p [] u.state.floats.deferred u))

-- ---- a clear

clear_wide-told : (p : Params) (w : Work) → Tells w (clear_wide p w) (Firing.clear_wide_pieces p w)
clear_wide-told p w = by_columns w.state.two_columns w.state.first_column
  where
    v : Work
    v = with_floats (double_again p w.state.floats) w

    by_columns : (t u : Bool) → Tells w (if not t then w else (if u then all_wide_pages p true v else puts (made Rattle.tb_node.specs.PlainNodes.blank_box ∷ clear_again) w))
        (if not t then [] else (if u then unless_over w (tales (back_tales places.Double w.state.floats.double)) ++ Firing.all_wide_pieces p true v else []))
    by_columns false u = quiet w w [] refl refl
    by_columns true true =
        follows w v (all_wide_pages p true v) (unless_over w (tales (back_tales places.Double w.state.floats.double))) (Firing.all_wide_pieces p true v)
        (quiet w v (unless_over w (tales (back_tales places.Double w.state.floats.double))) refl (over_none w.refused (tales (back_tales places.Double w.state.floats.double)) (ap (λ ts. placements_told (tales ts)) (sym (append-nil (back_tales places.Double w.state.floats.double))) ∙ back_none places.Double w.state.floats.double [] refl)))
        (wide-told p true (length (wide_waiting p v.state.floats)) v)
    by_columns true false = quiet w (puts (made Rattle.tb_node.specs.PlainNodes.blank_box ∷ clear_again) w) [] refl refl

rest-records : (w : Work) → (clear_rest w).records ≡ w.records
rest-records w = by_floats (Rattle.tb_output.specs.State.has_floats w.state.floats.deferred || Rattle.tb_output.specs.State.has_floats w.state.floats.second)
  where
    by_floats : (b : Bool) → (if b then puts clear_again w else w).records ≡ w.records
    by_floats true = refl
    by_floats false = refl

clear_floats-told : (p : Params) (body : List PlainNode) (w : Work) → Tells w (clear_floats p body w) (Firing.clear_floats_pieces p body w)
clear_floats-told p body w =
    let v = with_floats (deferred_again w.state.floats) (puts (cleared_front p body) w) in
    let u = all_float_columns p true v in
    let x = clear_wide p u in
    before-quiet w x (clear_rest x) (Firing.clear_floats_pieces p body w) (rest-records x)
    (follows w v x (unless_over w (tales (back_tales places.Top w.state.floats.top ++ back_tales places.Bottom w.state.floats.bottom))) (Firing.clear_columns_pieces p v)
    (quiet w v (unless_over w (tales (back_tales places.Top w.state.floats.top ++ back_tales places.Bottom w.state.floats.bottom))) refl (over_none w.refused (tales (back_tales places.Top w.state.floats.top ++ back_tales places.Bottom w.state.floats.bottom)) (back_none places.Top w.state.floats.top (back_tales places.Bottom w.state.floats.bottom)
    (ap (λ ts. placements_told (tales ts)) (sym (append-nil (back_tales places.Bottom w.state.floats.bottom))) ∙ back_none places.Bottom w.state.floats.bottom [] refl))))
    (follows v u x (Firing.all_float_pieces p true v) (Firing.clear_wide_pieces p u)
    (columns-told p true (length v.state.floats.deferred) v)
    (clear_wide-told p u)))

clear-told : (p : Params) (body : List PlainNode) (w : Work) → Tells w (clear p body w) (Firing.clear_pieces p body w)
clear-told p body w = by_notes (standing_notes (footnotes w.state))
  where
    by_notes : (ns : List Notes) → Tells w (clear_by p body w ns) (Firing.clear_pieces_by p body w ns)
    by_notes [] = clear_floats-told p body (without_notes w)
    by_notes (n ∷ ns) = text_column-told p (body ++ made (skip filling_glue) ∷ []) w

-- ---- floats and notes in the text

-- a decision at a call names a list of the column, or that the float waits
abbrev IsInColumn : Where → Type 0
IsInColumn places.Here = Unit {0}
IsInColumn places.Top = Unit {0}
IsInColumn places.Bottom = Unit {0}
IsInColumn places.Page = ⊥
IsInColumn places.Double = ⊥
IsInColumn places.Deferred = Unit {0}

area-in : (a : AreaPlace) → IsInColumn (where_of a)
area-in at_top = tt
area-in at_bottom = tt
area-in deferred = tt

current-in : (p : Params) (l : FloatLists) (s : Suppress) (h : ℤ) (f : Float) → IsInColumn (current_place p l s h f)
current-in p l s h f =
    let r = max_ℤ h (text_minimum p l f) +ℤ f.height in
    by_enter (may_enter p l s l.deferred r f) r (has_class f.class l.bottom) f.places.h (fits_column p l (r +ℤ p.intextsep.width))
  where
    by_enter : (b : Bool) (r : ℤ) (c d e : Bool) → IsInColumn (if b then (if c then where_of (bottom_or_deferred p l s r f) else (if d then (if e then places.Here else where_of (top_or_bottom p l s (r +ℤ p.intextsep.width) f)) else where_of (top_or_bottom p l s r f))) else places.Deferred)
    by_enter false r c d e = tt
    by_enter true r true d e = area-in (bottom_or_deferred p l s r f)
    by_enter true r false true true = tt
    by_enter true r false true false = area-in (top_or_bottom p l s (r +ℤ p.intextsep.width) f)
    by_enter true r false false e = area-in (top_or_bottom p l s r f)

defer-records : (p : Params) (f : Float) (left : FloatLists) (w : Work) → (defer p f left w).records ≡ w.records
defer-records p f left w = by_here (only_here f)
  where
    by_here : (b : Bool) → (if b then sends (warned (warnings.Ht f.name)) (place_float p places.Deferred (with_top f) left w) else place_float p places.Deferred f left w).records ≡ w.records
    by_here true = sends-records (warned (warnings.Ht f.name)) (place_float p places.Deferred (with_top f) left w)
    by_here false = refl

goes-told : (p : Params) (vert : Bool) (f : Float) (left : FloatLists) (ts : List Told) (w : Work) (place : Where) → IsInColumn place → One f ts → place_told ts ≡ place →
    Tells w (float_goes p vert f left w place) (unless_over w (tales (decisions f ts)))
goes-told p vert f left ts w places.Here ok only is = placed-told p places.Here f left ts w only is
goes-told p vert f left ts w places.Top ok only is = placed-told p places.Top f left ts w only is
goes-told p vert f left ts w places.Bottom ok only is = placed-told p places.Bottom f left ts w only is
goes-told p vert f left ts w places.Page ok only is = absurd ok
goes-told p vert f left ts w places.Double ok only is = absurd ok
goes-told p vert f left ts w places.Deferred ok only is =
    quiet w (float_goes p vert f left w places.Deferred) (unless_over w (tales (decisions f ts))) (defer-records p f left w) (over_none w.refused (tales (decisions f ts)) (only ∙ ap (λ x. placement_if f x) is))

note-records : (m : Margin) (at : Placed) (w : Work) → (moved_warning m at w).records ≡ w.records
note-records m at w = by_moved at.moved
  where
    by_moved : (b : Bool) → (if b then sends (warned (warnings.Moved m.name at.shift)) w else w).records ≡ w.records
    by_moved true = sends-records (warned (warnings.Moved m.name at.shift)) w
    by_moved false = refl

note-told : (p : Params) (height depth : ℤ) (m : Margin) (es : List Entry) (w : Work) →
    Tells w (note_at p height depth m (record w.state.floats { current = es }) w) (unless_over w (tales (Firing.note_tale p height m w.state ∷ [])))
note-told p height depth m es w =
    let at = placed_note p w.state.number w.state.two_columns w.state.first_column height w.state.note_bottom m in
    quiet w (note_goes p depth m (record w.state.floats { current = es }) w at) (unless_over w (tales (Firing.note_tale p height m w.state ∷ [])))
    (note-records m at (with_note_bottom at.bottom (with_floats (record w.state.floats { current = es }) w)))
    (over_none w.refused (tales (Firing.note_tale p height m w.state ∷ [])) refl)

first-told : (p : Params) (vert : Bool) (height depth page_height : ℤ) (es : List Entry) (w : Work) →
    Tells w (first_goes p vert height depth page_height es w) (unless_over w (tales (Firing.first_tales p height page_height es w.state)))
first-told p vert height depth page_height (entries.Float f ∷ es) w =
    let l = w.state.floats in
    let s = w.state.suppress in
    goes-told p vert f (record l { current = es }) (told_call p l s page_height f) w (current_place p l s page_height f)
    (current-in p l s page_height f) (one_call p l s page_height f) (call_decides p l s page_height f)
    ∙ ap (λ xs. placements_of w.records ++ xs) (by_over w.refused)
  where
    by_over : (t : Bool) → placements_told (if t then [] else tales (decisions f (told_call p w.state.floats w.state.suppress page_height f))) ≡ placements_told (if t then [] else tales (Firing.first_tales p height page_height (entries.Float f ∷ es) w.state))
    by_over true = refl
    by_over false = refl
first-told p vert height depth page_height (entries.Left m ∷ []) w = note-told p height depth m [] w
first-told p vert height depth page_height (entries.Left m ∷ e ∷ es) w = note-told p height depth m es w
first-told p vert height depth page_height (entries.Right m ∷ es) w = quiet w (puts_interline p false w) (unless_over w []) refl (over_none w.refused [] refl)
first-told p vert height depth page_height [] w = quiet w (puts_interline p false w) (unless_over w []) refl (over_none w.refused [] refl)

text_float-told : (p : Params) (vert : Bool) (body : List PlainNode) (w : Work) → Tells w (float_or_note p vert body w) (Firing.text_float_pieces p body w)
text_float-told p vert body w =
    let ns = w.state.held_page ++ without_firing_box body in
    let shapes = map node_shape ns in
    let depth = last_depth shapes in
    let height = size_of shapes -ℤ depth in
    first-told p vert height depth (height +ℤ depth +ℤ notes_height (footnotes w.state)) w.state.floats.current (list_back p ns w)

-- ---- the firing

output-told : (p : Params) (f : Fired) (w : Work) → Tells w (output_by p f w) (Firing.output_pieces p f w)
output-told p f w = by_penalty (int_le eject_penalty f.penalty) (is_int f.penalty clear_penalty) (is_int f.penalty par_penalty) (is_int f.penalty vert_penalty)
  where
    by_penalty : (a b c d : Bool) → Tells w
        (if a then ordinary p f.body w else (if b then clear p f.body w else (if c then float_or_note p false f.body w else (if d then float_or_note p true f.body w else hold f.body w))))
        (if a then Firing.ordinary_pieces p f.body w else (if b then Firing.clear_pieces p f.body w else (if c then Firing.text_float_pieces p f.body w else (if d then Firing.text_float_pieces p f.body w else []))))
    by_penalty true b c d = ordinary-told p f.body w
    by_penalty false true c d = clear-told p f.body w
    by_penalty false false true d = text_float-told p false f.body w
    by_penalty false false false true = text_float-told p true f.body w
    by_penalty false false false false = quiet w (hold f.body w) [] refl refl

goal-records : (p : Params) (n : ℤ) (w : Work) → (next_goal p n w).records ≡ w.records
goal-records p n w = by_hold (is_int n hold_penalty) (is_crowded p (Rattle.tb_float.specs.Rooms.column_room_of p w.state.floats))
  where
    by_hold : (a b : Bool) → (if a then Rattle.tb_output.specs.Output.with_goal Rattle.tb_scaled.specs.Scaled.max_dimen w else (if b then leave_column w else Rattle.tb_output.specs.Output.with_goal (Rattle.tb_float.specs.Rooms.column_room_of p w.state.floats) w)).records ≡ w.records
    by_hold true b = refl
    by_hold false true = sends-records (warned (warnings.Floats w.state.number)) w
    by_hold false false = refl

-- the placements that a firing records are those that are told, in their order
pub firing_places : (p : Params) (s : State) (f : Fired) → placements_of (out p s f).records ≡ placements_told (Firing.firing_pieces p s f)
unfolding out Firing.firing_pieces
firing_places p s f =
    let w = begun (after_page s f) in
    ap placements_of (goal-records p f.penalty (output_by p f w)) ∙ output-told p f w
