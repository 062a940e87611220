-- A firing puts no node back that sets the sides of marginal notes or takes one where that may not be, and puts no note among the current
-- floats, if no such node is on its page or on the held page.
use Rattle.std.proofs.Common.{◌≡◌, refl, sym, ◌∙◌, true≢false, ℕ, zero, suc, ℤ, Bool, true, false, List, [], ◌∷◌, ◌++◌, map, length, ◌+◌, ◌-◌, Option, Some, None}
use Rattle.std.specs.Prelude.{pos, ◌+ℤ◌, ◌-ℤ◌, not, ◌&&◌, ◌||◌, int_le, int_lt, if◌then◌else◌}
use Rattle.tb_scaled.specs.declared.Glue.{Glue}
use Rattle.tb_scaled.specs.Scaled.{eject_penalty, max_dimen}
use Rattle.tb_scaled.specs.Glue.{filling_glue}
use Rattle.tb_node.specs.PlainNodes.{PlainNode, node_shape, skip, made, blank_box}
use Rattle.tb_node.specs.Sums.{size_of, last_depth}
use Rattle.tb_node.specs.declared.Float.{Float}
use Rattle.tb_node.specs.declared.Margin.{Margin}
use Rattle.tb_node.specs.declared.Where.{Where}
use Rattle.tb_node.specs.declared.Where.TheVariants as places
use Rattle.tb_param.specs.declared.Params.{Params}
use Rattle.tb_float.specs.declared.Part.{Part}
use Rattle.tb_float.specs.declared.Part.TheVariants as parts
use Rattle.tb_float.specs.declared.Entry.{Entry}
use Rattle.tb_float.specs.declared.Entry.TheVariants as entries
use Rattle.tb_float.specs.Lists.{FloatLists, float_entries, wide_part, wide_waiting, with_wide_waiting, with_floats_of}
use Rattle.tb_float.specs.Rooms.{column_height_of, column_room_of}
use Rattle.tb_fpage.specs.Company.{Choice, company, chosen_floats, left_floats}
use Rattle.tb_area.specs.Area.{current_place, next_place, double_place}
use Rattle.tb_margin.specs.declared.Placed.{Placed}
use Rattle.tb_margin.specs.Margin.{placed_note}
use Rattle.tb_column.specs.Column.{Notes, PlainColumn, standing_notes, single_floats_column, wide_floats_column}
use Rattle.tb_sheet.specs.declared.Warn.TheVariants as warnings
use Rattle.tb_sheet.specs.Sheet.{PlainSheet, PlainSent, one, wide, shipped, warned, pair_sheet}
use Rattle.tb_sheet.specs.Asked.{clear_penalty, par_penalty, vert_penalty, hold_penalty}
use Rattle.tb_builder.specs.FiredPages.{Fired}
use Rattle.tb_output.specs.State.{State, Work, Recorded, begun, puts, sends, records_also, output, placed, footnotes, with_floats, has_floats}
use Rattle.tb_output.specs.FloatMoves.{is_placed, joined_to, still_deferred, place_float, place_waiting, place_next, place_double}
use Rattle.tb_output.specs.Pages.{ship_now, ship, wide_wanted, ship_wide, wide_pages_by, wide_pages, all_wide_pages, keep_left, left_or, without_double, ship_pair, put_out_by, put_out, with_deferred}
use Rattle.tb_output.specs.Columns.{text_of, without_column_floats, put_out_text, single_wanted, put_out_company, float_columns_by, float_columns, all_float_columns, fill_column, ordinary}
use Rattle.tb_output.specs.Clear.{clear_again, cleared_front, deferred_again, double_again, clear_wide, clear_rest, clear_floats, without_notes, clear_by, clear}
use Rattle.tb_output.specs.Text.{penalty_nodes, penalty_between, without_firing_box, notes_nodes, notes_height, list_back, here_nodes, puts_interline, only_here, with_top, defer, float_goes, note_nodes, moved_warning, with_note_bottom, note_goes, note_at, first_goes, float_or_note_in, float_or_note}
use Rattle.tb_output.specs.Output.{is_int, hold, output_by, with_goal, is_crowded, leave_column, goal_by, next_goal, after_page, out, blank_column}
use Rattle.tb_best.specs.Sides.{Sides, note_among, KeepSides, KeepCurrent}
use Rattle.tb_best.proofs.SteadyNodes.{steady-join, steady-take, FiredSteady}

-- floats are no notes
floats-no-notes : (fs : List Float) → note_among (float_entries fs) ≡ false
floats-no-notes [] = refl
floats-no-notes (f ∷ fs) = floats-no-notes fs

module _ (sides : Sides) where
  -- these nodes do not what may not be
  abbrev Steady : List PlainNode → Type 0
  Steady ns = KeepSides sides ns

  -- the current list has no note that may not be
  abbrev IsKept : FloatLists → Type 0
  IsKept l = KeepCurrent sides l.current

  -- so it is with the nodes that were put back or stand on the held page, and with the current floats
  pub record WorkSteady (w : Work) : Type 0 where
    pub back : Steady w.put_back
    pub held : Steady w.state.held_page
    pub current : IsKept w.state.floats

  -- in other lists it may change
  joined-kept : (place : Where) (f : Float) (l : FloatLists) → IsKept l → IsKept (joined_to place f l)
  joined-kept places.Here f l h = h
  joined-kept place f l h = h

  of-kept : (from : Part) (fs : List Float) (l : FloatLists) → IsKept l → IsKept (with_floats_of from fs l)
  of-kept parts.Current fs l h = λ e. absurd (true≢false (sym e ∙ floats-no-notes fs))
  of-kept from fs l h = h

  -- a change of works keeps it so
  abbrev Keeps : (Work → Work) → Type 0
  Keeps f = (w : Work) → WorkSteady w → WorkSteady (f w)

  either : (t : Bool) (x y : Work) → WorkSteady x → WorkSteady y → WorkSteady (if t then x else y)
  either true x y h k = h
  either false x y h k = k

  floats-keep : (l : FloatLists) → IsKept l → Keeps (λ w. with_floats l w)
  floats-keep l c w h = record { back = h.back; held = h.held; current = c }

  puts-keep : (ns : List PlainNode) → Steady ns → Keeps (λ w. puts ns w)
  puts-keep ns s w h = record { back = steady-join sides w.put_back ns h.back s; held = h.held; current = h.current }

  records-keep : (r : Recorded) → Keeps (λ w. records_also r w)
  records-keep r w h = either w.refused w (record w { records = w.records ++ r ∷ [] }) h (record { back = h.back; held = h.held; current = h.current })

  sends-keep : (e : PlainSent) → Keeps (λ w. sends e w)
  sends-keep e w h = either w.refused w (record w { sent = w.sent ++ e ∷ [] }) h (record { back = h.back; held = h.held; current = h.current })

  module _ (p : Params) where
    -- ---- pages

    ship-keep : (sheet : PlainSheet) → Keeps (λ w. ship p sheet w)
    ship-keep sheet w h =
        let next : Work = record w { state = record w.state { page = w.state.page + 1; number = w.state.number + 1; dead_cycles = 0 } } in
        either w.refused w (if int_lt p.maxpages (pos w.state.page) then record w { refused = true } else ship_now sheet w) h
        (either (int_lt p.maxpages (pos w.state.page)) (record w { refused = true }) (ship_now sheet w) (record { back = h.back; held = h.held; current = h.current })
        (sends-keep (shipped w.state.number sheet) next (record { back = h.back; held = h.held; current = h.current })))

    float-keep : (place : Where) (f : Float) (left : FloatLists) → IsKept left → Keeps (λ w. place_float p place f left w)
    float-keep place f left c w h =
        let r = placed p f place w.state.floats (column_height_of p w.state.floats) in
        floats-keep (joined_to place f left) (joined-kept place f left c) (if is_placed place then records_also r w else w) (either (is_placed place) (records_also r w) w (records-keep r w h) h)

    waiting-keep : (from : Part) (place : Where) (f : Float) (before rest : List Float) → Keeps (λ w. place_waiting from p place f before rest w)
    waiting-keep from place f before rest w h =
        let left = with_floats_of from (before ++ rest) w.state.floats in
        either (is_placed place) (place_float p place f left w) w (float-keep place f left (of-kept from (before ++ rest) w.state.floats h.current) w h) h

    next-keep : (fs before : List Float) → Keeps (λ w. place_next p before fs w)
    next-keep [] before w h = h
    next-keep (f ∷ fs) before w h =
        let place = next_place p w.state.floats w.state.suppress before f in
        next-keep fs (still_deferred place f before) (place_waiting parts.Deferred p place f before fs w) (waiting-keep parts.Deferred place f before fs w h)

    double-keep : (from : Part) (fs before : List Float) → Keeps (λ w. place_double from p before fs w)
    double-keep from [] before w h = h
    double-keep from (f ∷ fs) before w h =
        let place = double_place p w.state.floats w.state.suppress before f in
        double-keep from fs (still_deferred place f before) (place_waiting from p place f before fs w) (waiting-keep from place f before fs w h)

    ship-wide-keep : (cs : List Choice) → Keeps (λ w. ship_wide p cs w)
    ship-wide-keep cs w h =
        let l = with_wide_waiting p (left_floats cs) w.state.floats in
        ship-keep (wide (wide_floats_column p p.textheight (chosen_floats cs))) (with_floats l w) (floats-keep l (of-kept (wide_part p) (left_floats cs) w.state.floats h.current) w h)

    wide-by : (clearing : Bool) (n : ℕ) → Keeps (λ w. wide_pages p clearing n w) → (o : Option (List Choice)) → Keeps (λ w. wide_pages_by (λ v. wide_pages p clearing n v) p w o)
    wide-by clearing n ih None w h = h
    wide-by clearing n ih (Some cs) w h = ih (ship_wide p cs w) (ship-wide-keep cs w h)

    wide-keep : (clearing : Bool) (n : ℕ) → Keeps (λ w. wide_pages p clearing n w)
    wide-keep clearing zero w h = h
    wide-keep clearing (suc n) w h = wide-by clearing n (wide-keep clearing n) (company (wide_wanted p clearing) (wide_waiting p w.state.floats)) w h

    all-wide-keep : (clearing : Bool) → Keeps (λ w. all_wide_pages p clearing w)
    all-wide-keep clearing w h = wide-keep clearing (length (wide_waiting p w.state.floats)) w h

    pair-keep : (column : PlainColumn) → Keeps (λ w. ship_pair p column w)
    pair-keep column w h =
        let sent : Work = ship p (pair_sheet p w.state.floats (left_or column w.state.left_column) column) w in
        let k = ship-keep (pair_sheet p w.state.floats (left_or column w.state.left_column) column) w h in
        let pages : Work = all_wide_pages p false (without_double sent) in
        double-keep (wide_part p) (wide_waiting p pages.state.floats) [] pages (all-wide-keep false (without_double sent) (record { back = k.back; held = k.held; current = k.current }))

    out-by-keep : (column : PlainColumn) → Keeps (λ w. put_out_by p column w)
    out-by-keep column w h =
        either (not w.state.two_columns) (ship p (one column) w) (if w.state.first_column then keep_left column w else ship_pair p column w) (ship-keep (one column) w h)
        (either w.state.first_column (keep_left column w) (ship_pair p column w) (record { back = h.back; held = h.held; current = h.current }) (pair-keep column w h))

    put-out-keep : (column : PlainColumn) → Keeps (λ w. put_out p column w)
    put-out-keep column w h = let k = out-by-keep column (records_also (output column) w) (records-keep (output column) w h) in record { back = k.back; held = k.held; current = k.current }

    -- ---- columns

    text-keep : (body : List PlainNode) → Keeps (λ w. put_out_text p body w)
    text-keep body w h = put-out-keep (text_of p w.state body) (without_column_floats w) (record { back = h.back; held = h.held; current = h.current })

    columns-by : (clearing : Bool) (n : ℕ) → Keeps (λ w. float_columns p clearing n w) → (o : Option (List Choice)) → Keeps (λ w. float_columns_by (λ v. float_columns p clearing n v) p w o)
    columns-by clearing n ih None w h = h
    columns-by clearing n ih (Some cs) w h =
        ih (put_out_company p cs w) (put-out-keep (single_floats_column p (column_height_of p w.state.floats) (chosen_floats cs)) (with_deferred (left_floats cs) w) (record { back = h.back; held = h.held; current = h.current }))

    columns-keep : (clearing : Bool) (n : ℕ) → Keeps (λ w. float_columns p clearing n w)
    columns-keep clearing zero w h = h
    columns-keep clearing (suc n) w h = columns-by clearing n (columns-keep clearing n) (company (single_wanted p w.state.floats clearing) w.state.floats.deferred) w h

    all-columns-keep : (clearing : Bool) → Keeps (λ w. all_float_columns p clearing w)
    all-columns-keep clearing w h = columns-keep clearing (length w.state.floats.deferred) w h

    fill-keep : Keeps (λ w. fill_column p w)
    fill-keep w h = next-keep w.state.floats.deferred [] w h

    ordinary-keep : (body : List PlainNode) → Keeps (λ w. ordinary p body w)
    ordinary-keep body w h = fill-keep (all_float_columns p false (put_out_text p body w)) (all-columns-keep false (put_out_text p body w) (text-keep body w h))

    -- ---- a clear

    clear-wide-keep : Keeps (λ w. clear_wide p w)
    clear-wide-keep w h =
        let l = double_again p w.state.floats in
        let kept = of-kept (wide_part p) (w.state.floats.double ++ wide_waiting p w.state.floats) (record w.state.floats { double = [] }) h.current in
        let ns = made blank_box ∷ clear_again in
        either (not w.state.two_columns) w (if w.state.first_column then all_wide_pages p true (with_floats l w) else puts ns w) h
        (either w.state.first_column (all_wide_pages p true (with_floats l w)) (puts ns w) (all-wide-keep true (with_floats l w) (floats-keep l kept w h)) (puts-keep ns refl w h))

    clear-rest-keep : Keeps (λ w. clear_rest w)
    clear-rest-keep w h = either (has_floats w.state.floats.deferred || has_floats w.state.floats.second) (puts clear_again w) w (puts-keep clear_again refl w h) h

    clear-floats-keep : (body : List PlainNode) → Steady body → Keeps (λ w. clear_floats p body w)
    clear-floats-keep body s w h =
        let front = puts-keep (cleared_front p body) (steady-take sides _ body s) w h in
        let v : Work = with_floats (deferred_again w.state.floats) (puts (cleared_front p body) w) in
        clear-rest-keep (clear_wide p (all_float_columns p true v)) (clear-wide-keep (all_float_columns p true v) (all-columns-keep true v (floats-keep (deferred_again w.state.floats) front.current (puts (cleared_front p body) w) front)))

    clear-by-keep : (body : List PlainNode) → Steady body → (ns : List Notes) → Keeps (λ w. clear_by p body w ns)
    clear-by-keep body s [] w h = clear-floats-keep body s (without_notes w) (record { back = h.back; held = h.held; current = h.current })
    clear-by-keep body s (n ∷ ns) w h = let all = body ++ made (skip filling_glue) ∷ [] in puts-keep clear_again refl (put_out_text p all w) (text-keep all w h)

    -- ---- a float or note

    penalty-steady : (n : ℤ) (o : Option Glue) → Steady (penalty_nodes n o)
    penalty-steady n None = refl
    penalty-steady n (Some g) = refl

    between-steady : (n : ℤ) (nobreak : Bool) (ns : List PlainNode) → Steady (penalty_between n nobreak ns)
    between-steady n true ns = refl
    between-steady n false ns = penalty-steady n _

    interline-keep : (nobreak : Bool) → Keeps (λ w. puts_interline p nobreak w)
    interline-keep nobreak w h = puts-keep (penalty_between p.interlinepenalty nobreak w.put_back) (between-steady p.interlinepenalty nobreak w.put_back) w h

    defer-keep : (f : Float) (left : FloatLists) → IsKept left → Keeps (λ w. defer p f left w)
    defer-keep f left c w h =
        let e = warned (warnings.Ht f.name) in
        either (only_here f) (sends e (place_float p places.Deferred (with_top f) left w)) (place_float p places.Deferred f left w)
        (sends-keep e (place_float p places.Deferred (with_top f) left w) (float-keep places.Deferred (with_top f) left c w h)) (float-keep places.Deferred f left c w h)

    here-steady : (vert : Bool) (f : Float) → Steady (here_nodes p vert f)
    here-steady true f = refl
    here-steady false f = refl

    goes-keep : (vert : Bool) (f : Float) (left : FloatLists) (place : Where) → IsKept left → Keeps (λ w. float_goes p vert f left w place)
    goes-keep vert f left places.Here c w h =
        puts-keep (here_nodes p vert f) (here-steady vert f) (puts_interline p f.nobreak (place_float p places.Here f left w)) (interline-keep f.nobreak (place_float p places.Here f left w) (float-keep places.Here f left c w h))
    goes-keep vert f left places.Top c w h = interline-keep f.nobreak (place_float p places.Top f left w) (float-keep places.Top f left c w h)
    goes-keep vert f left places.Bottom c w h = interline-keep f.nobreak (place_float p places.Bottom f left w) (float-keep places.Bottom f left c w h)
    goes-keep vert f left places.Page c w h = interline-keep f.nobreak (defer p f left w) (defer-keep f left c w h)
    goes-keep vert f left places.Double c w h = interline-keep f.nobreak (defer p f left w) (defer-keep f left c w h)
    goes-keep vert f left places.Deferred c w h = interline-keep f.nobreak (defer p f left w) (defer-keep f left c w h)

    moved-keep : (n : Margin) (at : Placed) → Keeps (λ w. moved_warning n at w)
    moved-keep n at w h = let e = warned (warnings.Moved n.name at.shift) in either at.moved (sends e w) w (sends-keep e w h) h

    note-keep : (depth : ℤ) (n : Margin) (left : FloatLists) (at : Placed) → IsKept left → Keeps (λ w. note_goes p depth n left w at)
    note-keep depth n left at c w h =
        let v : Work = with_note_bottom at.bottom (with_floats left w) in
        let moved = moved-keep n at v (record { back = h.back; held = h.held; current = c }) in
        interline-keep n.nobreak (puts (note_nodes depth n at) (moved_warning n at v)) (puts-keep (note_nodes depth n at) refl (moved_warning n at v) moved)

    note-at-keep : (height depth : ℤ) (n : Margin) (left : FloatLists) → IsKept left → Keeps (λ w. note_at p height depth n left w)
    note-at-keep height depth n left c w h = note-keep depth n left (placed_note p w.state.number w.state.two_columns w.state.first_column height w.state.note_bottom n) c w h

    first-keep : (vert : Bool) (height depth high : ℤ) (es : List Entry) → KeepCurrent sides es → Keeps (λ w. first_goes p vert height depth high es w)
    first-keep vert height depth high [] c w h = interline-keep false w h
    first-keep vert height depth high (entries.Float f ∷ fs) c w h = goes-keep vert f (record w.state.floats { current = fs }) (current_place p w.state.floats w.state.suppress high f) c w h
    first-keep vert height depth high (entries.Left n ∷ []) c w h = note-at-keep height depth n (record w.state.floats { current = [] }) (λ _. c refl) w h
    first-keep vert height depth high (entries.Left n ∷ e ∷ fs) c w h = note-at-keep height depth n (record w.state.floats { current = fs }) (λ _. c refl) w h
    first-keep vert height depth high (entries.Right n ∷ fs) c w h = interline-keep false w h

    notes-steady : (ns : List Notes) → Steady (notes_nodes p ns)
    notes-steady [] = refl
    notes-steady (n ∷ ns) = notes-steady ns

    float-note-keep : (vert : Bool) (ns : List PlainNode) → Steady ns → Keeps (λ w. float_or_note_in p vert ns w)
    float-note-keep vert ns s w h =
        let shapes = map node_shape ns in
        let depth = last_depth shapes in
        let height = size_of shapes -ℤ depth in
        first-keep vert height depth (height +ℤ depth +ℤ notes_height (footnotes w.state)) w.state.floats.current h.current (list_back p ns w)
        (record { back = steady-join sides w.put_back (ns ++ notes_nodes p (footnotes w.state)) h.back (steady-join sides ns (notes_nodes p (footnotes w.state)) s (notes-steady (footnotes w.state))); held = refl; current = h.current })

    -- ---- a firing

    held-keep : (vert : Bool) (body : List PlainNode) → Steady body → Keeps (λ w. float_or_note p vert body w)
    held-keep vert body s w h =
        float-note-keep vert (w.state.held_page ++ without_firing_box body) (steady-join sides w.state.held_page (without_firing_box body) h.held (steady-take sides (length body - 2) body s)) w h

    penalty-keep : (f : Fired) → Steady f.body → Keeps (λ w. output_by p f w)
    penalty-keep f s w h =
        either (int_le eject_penalty f.penalty) (ordinary p f.body w) _ (ordinary-keep f.body w h)
        (either (is_int f.penalty clear_penalty) (clear p f.body w) _ (clear-by-keep f.body s (standing_notes (footnotes w.state)) w h)
        (either (is_int f.penalty par_penalty) (float_or_note p false f.body w) _ (held-keep false f.body s w h)
        (either (is_int f.penalty vert_penalty) (float_or_note p true f.body w) (hold f.body w) (held-keep true f.body s w h) (record { back = h.back; held = s; current = h.current }))))

    blank-steady : (t : Bool) → Steady (if t then blank_column ++ blank_column else blank_column)
    blank-steady true = refl
    blank-steady false = refl

    leave-keep : Keeps (λ w. leave_column w)
    leave-keep w h =
        let e = warned (warnings.Floats w.state.number) in
        let second = w.state.two_columns && not w.state.first_column in
        puts-keep (if second then blank_column ++ blank_column else blank_column) (blank-steady second) (sends e w) (sends-keep e w h)

    goal-keep : (n : ℤ) → Keeps (λ w. next_goal p n w)
    goal-keep n w h =
        let room = column_room_of p w.state.floats in
        either (is_int n hold_penalty) (with_goal max_dimen w) (goal_by p room w) (record { back = h.back; held = h.held; current = h.current })
        (either (is_crowded p room) (leave_column w) (with_goal room w) (leave-keep w h) (record { back = h.back; held = h.held; current = h.current }))

    -- what waits, what is held, and the current floats after a firing
    pub record StateSteady (s : State) : Type 0 where
      pub waiting : Steady s.waiting
      pub held : Steady s.held_page
      pub current : IsKept s.floats

    pub out-steady : (s : State) (f : Fired) → FiredSteady sides f → Steady s.held_page → IsKept s.floats → StateSteady (out p s f).state
    unfolding out
    out-steady s f h k c =
        let w : Work = begun (after_page s f) in
        let x = goal-keep f.penalty (output_by p f w) (penalty-keep f h.body w (record { back = refl; held = k; current = c })) in
        let back = (next_goal p f.penalty (output_by p f w)).put_back in
        record { waiting = steady-join sides (f.held ++ back) f.rest (steady-join sides f.held back h.held x.back) h.rest; held = x.held; current = x.current }
