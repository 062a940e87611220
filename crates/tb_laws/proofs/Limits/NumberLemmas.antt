-- No area holds more floats without the mark `!` than its number, at any step of a firing.
use Rattle.std.proofs.Common.{◌≡◌, refl, sym, ap, subst, ℕ, ℤ, zero, suc, pos, ◌+◌, ◌≤◌, Bool, true, false, List, [], ◌∷◌, ◌++◌, length, Option, Some, None, arith}
use Rattle.std.specs.Prelude.{◌≤ℤ◌, ◌<ℤ◌, ◌||◌, int_lt, int_le, not, if◌then◌else◌}
use Rattle.std.specs.List.{AllByRecursion}
use Rattle.std.proofs.lemmas.Int.{ints}
use Rattle.tb_break.proofs.EachLemmas.{all-push}
use Rattle.tb_node.specs.declared.Float.{Float}
use Rattle.tb_node.specs.declared.Margin.{Margin}
use Rattle.tb_node.specs.declared.Where.{Where}
use Rattle.tb_node.specs.declared.Where.TheVariants as places
use Rattle.tb_node.specs.PlainNodes.{PlainNode, made, blank_box, skip}
use Rattle.tb_scaled.specs.Glue.{filling_glue}
use Rattle.tb_scaled.specs.Scaled.{eject_penalty, max_dimen}
use Rattle.tb_param.specs.declared.Params.{Params}
use Rattle.tb_builder.specs.FiredPages.{Fired}
use Rattle.tb_float.specs.declared.Entry.{Entry}
use Rattle.tb_float.specs.declared.Entry.TheVariants as entries
use Rattle.tb_float.specs.declared.Part.{Part}
use Rattle.tb_float.specs.declared.Part.TheVariants as parts
use Rattle.tb_float.specs.Lists.{FloatLists, IsWaiting, with_floats_of, wide_part, wide_waiting, with_wide_waiting}
use Rattle.tb_float.specs.Rooms.{column_height_of, column_room_of}
use Rattle.tb_float.proofs.WaitingLemmas.{wide-waits}
use Rattle.tb_fpage.specs.Company.{Choice, company, left_floats}
use Rattle.tb_area.specs.Area.{current_place, next_place, double_place}
use Rattle.tb_area.specs.Laws.{KeepsLimits}
use Rattle.tb_area.proofs.LawLemmas.{current-laws, next-laws, double-laws}
use Rattle.tb_margin.specs.declared.Placed.{Placed}
use Rattle.tb_column.specs.Column.{PlainColumn, Notes, standing_notes}
use Rattle.tb_sheet.specs.Asked
use Rattle.tb_sheet.specs.Sheet.{PlainSheet, PlainSent, warned, shipped, one, pair_sheet}
use Rattle.tb_sheet.specs.declared.Warn.TheVariants as warnings
use Rattle.tb_output.specs.State.{State, Work, Recorded, placed, output, emptied, begun, puts, sends, records_also, with_floats, footnotes, has_floats}
use Rattle.tb_output.specs.FloatMoves
use Rattle.tb_output.specs.Pages
use Rattle.tb_output.specs.Columns
use Rattle.tb_output.specs.Text
use Rattle.tb_output.specs.Clear
use Rattle.tb_output.specs.Output
use Rattle.tb_laws.specs.AreaNumbers.{unmarked, HoldsNumbers}

-- a float was placed where its areas hold no more than their numbers, before and after; nothing is asked of other records
abbrev pub IsNumbered : Recorded → Type 0
IsNumbered (placed p f place l height) = HoldsNumbers p l × HoldsNumbers p (FloatMoves.joined_to place f l)
IsNumbered (output c) = Unit {0}
IsNumbered (emptied l) = Unit {0}

-- ---- lists

unmarked-le : (fs : List Float) → unmarked fs ≤ length fs
unmarked-le [] = omega arith
unmarked-le (f ∷ fs) = by_mark f.bang (unmarked-le fs)
  where
    by_mark : (t : Bool) → unmarked fs ≤ length fs → (if t then 0 else 1) + unmarked fs ≤ suc (length fs)
    by_mark true h = omega (arith, h)
    by_mark false h = omega (arith, h)

abbrev one_more : Float → ℕ
one_more f = if f.bang then 0 else 1

unmarked-more : (fs : List Float) (f : Float) → unmarked (fs ++ f ∷ []) ≡ unmarked fs + one_more f
unmarked-more [] f = omega arith
unmarked-more (g ∷ fs) f = let e = unmarked-more fs f in omega (arith, e)

-- one more float, with the mark or where fewer are than may be
more-holds : (n : ℤ) (u v : ℕ) (f : Float) → pos u ≤ℤ n → u ≤ v → (f.bang ≡ false → pos v <ℤ n) → pos (u + one_more f) ≤ℤ n
more-holds n u v f h le k = by_mark f.bang refl
  where
    by_mark : (t : Bool) → f.bang ≡ t → pos (u + (if t then 0 else 1)) ≤ℤ n
    by_mark true e = grind (arith, ints, h)
    by_mark false e = let b = k e in grind (arith, ints, le, b)

none-holds : (n : ℤ) (u v : ℕ) → pos u ≤ℤ n → v ≤ u → pos v ≤ℤ n
none-holds n u v h le = grind (arith, ints, h, le)

-- these areas are as before
pub record SameSpaces (l m : FloatLists) : Type 0 where
  pub here : m.here ≡ l.here
  pub top : m.top ≡ l.top
  pub bottom : m.bottom ≡ l.bottom
  pub double : m.double ≡ l.double

same-spaces : (l : FloatLists) → SameSpaces l l
same-spaces l = record { here = refl; top = refl; bottom = refl; double = refl }

module _ (p : Params) where
  abbrev pub Holds : FloatLists → Type 0
  Holds l = HoldsNumbers p l

  same-holds : (l m : FloatLists) → SameSpaces l m → Holds l → Holds m
  same-holds l m s h = record {
    top = subst (λ fs. pos (unmarked fs) ≤ℤ p.topnumber) (sym s.top) h.top;
    bottom = subst (λ fs. pos (unmarked fs) ≤ℤ p.bottomnumber) (sym s.bottom) h.bottom;
    double = subst (λ fs. pos (unmarked fs) ≤ℤ p.dbltopnumber) (sym s.double) h.double;
    text = subst (λ n. pos n ≤ℤ p.totalnumber) (λ i. unmarked (sym s.here i) + unmarked (sym s.top i) + unmarked (sym s.bottom i)) h.text;
  }

  -- a float joins the list of its place
  joined-holds : (f : Float) (place : Where) (l : FloatLists) → Holds l → (f.bang ≡ false → KeepsLimits p l f place) → Holds (FloatMoves.joined_to place f l)
  joined-holds f places.Here l h k = record {
    top = h.top;
    bottom = h.bottom;
    double = h.double;
    text =
        (let more = more-holds p.totalnumber (unmarked l.here + unmarked l.top + unmarked l.bottom) (length l.here + length l.top + length l.bottom) f h.text (let a = unmarked-le l.here in let b = unmarked-le l.top in let c = unmarked-le l.bottom in omega (arith, a, b, c)) k in
        let e = unmarked-more l.here f in
        none-holds p.totalnumber _ _ more (omega (arith, e)));
  }
  joined-holds f places.Top l h k = record {
    top =
        (let more = more-holds p.topnumber (unmarked l.top) (length l.top) f h.top (unmarked-le l.top) (λ b. (k b).1) in
        let e = unmarked-more l.top f in
        none-holds p.topnumber _ _ more (omega (arith, e)));
    bottom = h.bottom;
    double = h.double;
    text =
        (let more = more-holds p.totalnumber (unmarked l.here + unmarked l.top + unmarked l.bottom) (length l.here + length l.top + length l.bottom) f h.text (let a = unmarked-le l.here in let b = unmarked-le l.top in let c = unmarked-le l.bottom in omega (arith, a, b, c)) (λ b. (k b).0) in
        let e = unmarked-more l.top f in
        none-holds p.totalnumber _ _ more (omega (arith, e)));
  }
  joined-holds f places.Bottom l h k = record {
    top = h.top;
    bottom =
        (let more = more-holds p.bottomnumber (unmarked l.bottom) (length l.bottom) f h.bottom (unmarked-le l.bottom) (λ b. (k b).1) in
        let e = unmarked-more l.bottom f in
        none-holds p.bottomnumber _ _ more (omega (arith, e)));
    double = h.double;
    text =
        (let more = more-holds p.totalnumber (unmarked l.here + unmarked l.top + unmarked l.bottom) (length l.here + length l.top + length l.bottom) f h.text (let a = unmarked-le l.here in let b = unmarked-le l.top in let c = unmarked-le l.bottom in omega (arith, a, b, c)) (λ b. (k b).0) in
        let e = unmarked-more l.bottom f in
        none-holds p.totalnumber _ _ more (omega (arith, e)));
  }
  joined-holds f places.Page l h k = h
  joined-holds f places.Double l h k = record {
    top = h.top;
    bottom = h.bottom;
    double =
        (let more = more-holds p.dbltopnumber (unmarked l.double) (length l.double) f h.double (unmarked-le l.double) (λ b. (k b).0) in
        let e = unmarked-more l.double f in
        none-holds p.dbltopnumber _ _ more (omega (arith, e)));
    text = h.text;
  }
  joined-holds f places.Deferred l h k = record { top = h.top; bottom = h.bottom; double = h.double; text = h.text }

  same-joined : (f : Float) (place : Where) (l m : FloatLists) → SameSpaces l m → SameSpaces (FloatMoves.joined_to place f l) (FloatMoves.joined_to place f m)
  same-joined f places.Here l m s = record { here = ap (λ fs. fs ++ f ∷ []) s.here; top = s.top; bottom = s.bottom; double = s.double }
  same-joined f places.Top l m s = record { here = s.here; top = ap (λ fs. fs ++ f ∷ []) s.top; bottom = s.bottom; double = s.double }
  same-joined f places.Bottom l m s = record { here = s.here; top = s.top; bottom = ap (λ fs. fs ++ f ∷ []) s.bottom; double = s.double }
  same-joined f places.Page l m s = s
  same-joined f places.Double l m s = record { here = s.here; top = s.top; bottom = s.bottom; double = ap (λ fs. fs ++ f ∷ []) s.double }
  same-joined f places.Deferred l m s = record { here = s.here; top = s.top; bottom = s.bottom; double = s.double }

  -- other floats wait
  waiting-same : (from : Part) → IsWaiting from → (fs : List Float) (l : FloatLists) → SameSpaces l (with_floats_of from fs l)
  waiting-same parts.Deferred i fs l = record { here = refl; top = refl; bottom = refl; double = refl }
  waiting-same parts.Second i fs l = record { here = refl; top = refl; bottom = refl; double = refl }
  waiting-same from i fs l = absurd i

  wide-same : (fs : List Float) (l : FloatLists) → SameSpaces l (with_wide_waiting p fs l)
  wide-same fs l = waiting-same (wide_part p) (wide-waits p) fs l

  -- ---- a work

  -- the lists hold no more, and so did those of each record
  pub record Numbered (w : Work) : Type 0 where
    pub lists : Holds w.state.floats
    pub records : AllByRecursion IsNumbered w.records

  numbered_if : (t : Bool) (a b : Work) → Numbered a → Numbered b → Numbered (if t then a else b)
  numbered_if true a b x y = x
  numbered_if false a b x y = y

  sends-numbered : (e : PlainSent) (w : Work) → Numbered w → Numbered (sends e w)
  sends-numbered e w h = numbered_if w.refused w (record w { sent = w.sent ++ e ∷ [] }) h (record { lists = h.lists; records = h.records })

  also-numbered : (r : Recorded) (w : Work) → IsNumbered r → Numbered w → Numbered (records_also r w)
  also-numbered r w k h = numbered_if w.refused w (record w { records = w.records ++ r ∷ [] }) h (record { lists = h.lists; records = all-push IsNumbered w.records r h.records k })

  ship-numbered : (sheet : PlainSheet) (w : Work) → Numbered w → Numbered (Pages.ship p sheet w)
  ship-numbered sheet w h =
      let next = record w { state = record w.state { page = w.state.page + 1; number = w.state.number + 1; dead_cycles = 0 } } in
      let now : Numbered next = record { lists = h.lists; records = h.records } in
      numbered_if w.refused w (if int_lt p.maxpages (pos w.state.page) then record w { refused = true } else Pages.ship_now sheet w) h
      (numbered_if (int_lt p.maxpages (pos w.state.page)) (record w { refused = true }) (Pages.ship_now sheet w) (record { lists = h.lists; records = h.records }) (sends-numbered (shipped w.state.number sheet) next now))

  -- ---- floats

  pub place_float-numbered : (place : Where) (f : Float) (left : FloatLists) (w : Work) → SameSpaces w.state.floats left → (f.bang ≡ false → KeepsLimits p w.state.floats f place) → Numbered w → Numbered (FloatMoves.place_float p place f left w)
  place_float-numbered place f left w s k h =
      let l = w.state.floats in
      let r = placed p f place l (column_height_of p l) in
      let after : Holds (FloatMoves.joined_to place f l) = joined-holds f place l h.lists k in
      let both : Numbered (if FloatMoves.is_placed place then records_also r w else w) = numbered_if (FloatMoves.is_placed place) (records_also r w) w (also-numbered r w (h.lists, after) h) h in
      record { lists = same-holds (FloatMoves.joined_to place f l) (FloatMoves.joined_to place f left) (same-joined f place l left s) after; records = both.records }

  place_waiting-numbered : (from : Part) → IsWaiting from → (place : Where) (f : Float) (before rest : List Float) (w : Work) → (f.bang ≡ false → KeepsLimits p w.state.floats f place) → Numbered w → Numbered (FloatMoves.place_waiting from p place f before rest w)
  place_waiting-numbered from i place f before rest w k h =
      let l = with_floats_of from (before ++ rest) w.state.floats in
      numbered_if (FloatMoves.is_placed place) (FloatMoves.place_float p place f l w) w (place_float-numbered place f l w (waiting-same from i (before ++ rest) w.state.floats) k h) h

  pub place_next-numbered : (before fs : List Float) (w : Work) → Numbered w → Numbered (FloatMoves.place_next p before fs w)
  place_next-numbered before [] w h = h
  place_next-numbered before (f ∷ rest) w h =
      let place = next_place p w.state.floats w.state.suppress before f in
      place_next-numbered (FloatMoves.still_deferred place f before) rest (FloatMoves.place_waiting parts.Deferred p place f before rest w)
      (place_waiting-numbered parts.Deferred tt place f before rest w (next-laws p w.state.floats w.state.suppress before f).limits h)

  pub place_double-numbered : (from : Part) → IsWaiting from → (before fs : List Float) (w : Work) → Numbered w → Numbered (FloatMoves.place_double from p before fs w)
  place_double-numbered from i before [] w h = h
  place_double-numbered from i before (f ∷ rest) w h =
      let place = double_place p w.state.floats w.state.suppress before f in
      place_double-numbered from i (FloatMoves.still_deferred place f before) rest (FloatMoves.place_waiting from p place f before rest w)
      (place_waiting-numbered from i place f before rest w (double-laws p w.state.floats w.state.suppress before f).limits h)

  -- ---- pages and columns

  -- with lists of the same areas
  with-numbered : (l : FloatLists) (w : Work) → SameSpaces w.state.floats l → Numbered w → Numbered (with_floats l w)
  with-numbered l w s h = record { lists = same-holds w.state.floats l s h.lists; records = h.records }

  ship_wide-numbered : (cs : List Choice) (w : Work) → Numbered w → Numbered (Pages.ship_wide p cs w)
  ship_wide-numbered cs w h = ship-numbered _ _ (with-numbered (with_wide_waiting p (left_floats cs) w.state.floats) w (wide-same (left_floats cs) w.state.floats) h)

  wide_by-numbered : (again : Work → Work) → ((w : Work) → Numbered w → Numbered (again w)) → (w : Work) (o : Option (List Choice)) → Numbered w → Numbered (Pages.wide_pages_by again p w o)
  wide_by-numbered again k w None h = h
  wide_by-numbered again k w (Some cs) h = k (Pages.ship_wide p cs w) (ship_wide-numbered cs w h)

  pub wide_pages-numbered : (clearing : Bool) (n : ℕ) (w : Work) → Numbered w → Numbered (Pages.wide_pages p clearing n w)
  wide_pages-numbered clearing zero w h = h
  wide_pages-numbered clearing (suc n) w h = wide_by-numbered (λ w'. Pages.wide_pages p clearing n w') (λ w' k. wide_pages-numbered clearing n w' k) w (company (Pages.wide_wanted p clearing) (wide_waiting p w.state.floats)) h

  all_wide_pages-numbered : (clearing : Bool) (w : Work) → Numbered w → Numbered (Pages.all_wide_pages p clearing w)
  all_wide_pages-numbered clearing w h = wide_pages-numbered clearing (length (wide_waiting p w.state.floats)) w h

  -- an area that is emptied holds none
  without_double-numbered : (w : Work) → Numbered w → Numbered (Pages.without_double w)
  without_double-numbered w h = record {
    lists = record { top = h.lists.top; bottom = h.lists.bottom; double = none-holds p.dbltopnumber _ 0 h.lists.double (omega arith); text = h.lists.text };
    records = h.records;
  }

  ship_pair-numbered : (c : PlainColumn) (w : Work) → Numbered w → Numbered (Pages.ship_pair p c w)
  ship_pair-numbered c w h =
      let a = Pages.ship p (pair_sheet p w.state.floats (Pages.left_or c w.state.left_column) c) w in
      let b = Pages.without_double a in
      let d = Pages.all_wide_pages p false b in
      place_double-numbered (wide_part p) (wide-waits p) [] (wide_waiting p d.state.floats) d (all_wide_pages-numbered false b (without_double-numbered a (ship-numbered _ w h)))

  put_out_by-numbered : (c : PlainColumn) (w : Work) → Numbered w → Numbered (Pages.put_out_by p c w)
  put_out_by-numbered c w h = by_columns w.state.two_columns
    where
      by_columns : (t : Bool) → Numbered (if not t then Pages.ship p (one c) w else (if w.state.first_column then Pages.keep_left c w else Pages.ship_pair p c w))
      by_columns false = ship-numbered (one c) w h
      by_columns true = numbered_if w.state.first_column (Pages.keep_left c w) (Pages.ship_pair p c w) (record { lists = h.lists; records = h.records }) (ship_pair-numbered c w h)

  pub put_out-numbered : (c : PlainColumn) (w : Work) → Numbered w → Numbered (Pages.put_out p c w)
  put_out-numbered c w h =
      let a = records_also (output c) w in
      let b : Numbered (Pages.put_out_by p c a) = put_out_by-numbered c a (also-numbered (output c) w tt h) in
      record { lists = b.lists; records = b.records }

  company-numbered : (cs : List Choice) (w : Work) → Numbered w → Numbered (Columns.put_out_company p cs w)
  company-numbered cs w h = put_out-numbered _ _ (with-numbered (record w.state.floats { deferred = left_floats cs }) w (record { here = refl; top = refl; bottom = refl; double = refl }) h)

  columns_by-numbered : (again : Work → Work) → ((w : Work) → Numbered w → Numbered (again w)) → (w : Work) (o : Option (List Choice)) → Numbered w → Numbered (Columns.float_columns_by again p w o)
  columns_by-numbered again k w None h = h
  columns_by-numbered again k w (Some cs) h = k (Columns.put_out_company p cs w) (company-numbered cs w h)

  pub float_columns-numbered : (clearing : Bool) (n : ℕ) (w : Work) → Numbered w → Numbered (Columns.float_columns p clearing n w)
  float_columns-numbered clearing zero w h = h
  float_columns-numbered clearing (suc n) w h =
      columns_by-numbered (λ w'. Columns.float_columns p clearing n w') (λ w' k. float_columns-numbered clearing n w' k) w (company (Columns.single_wanted p w.state.floats clearing) w.state.floats.deferred) h

  without-numbered : (w : Work) → Numbered w → Numbered (Columns.without_column_floats w)
  without-numbered w h = record {
    lists = record {
      top = none-holds p.topnumber _ 0 h.lists.top (omega arith);
      bottom = none-holds p.bottomnumber _ 0 h.lists.bottom (omega arith);
      double = h.lists.double;
      text = none-holds p.totalnumber _ 0 h.lists.text (omega arith);
    };
    records = h.records;
  }

  put_out_text-numbered : (body : List PlainNode) (w : Work) → Numbered w → Numbered (Columns.put_out_text p body w)
  put_out_text-numbered body w h = put_out-numbered _ (Columns.without_column_floats w) (without-numbered w h)

  ordinary-numbered : (body : List PlainNode) (w : Work) → Numbered w → Numbered (Columns.ordinary p body w)
  ordinary-numbered body w h =
      let a = Columns.put_out_text p body w in
      let b = Columns.all_float_columns p false a in
      place_next-numbered [] b.state.floats.deferred b (float_columns-numbered false (length a.state.floats.deferred) a (put_out_text-numbered body w h))

  -- ---- floats and notes in the text

  puts-numbered : (ns : List PlainNode) (w : Work) → Numbered w → Numbered (puts ns w)
  puts-numbered ns w h = record { lists = h.lists; records = h.records }

  defer-numbered : (f : Float) (left : FloatLists) (w : Work) → SameSpaces w.state.floats left → Numbered w → Numbered (Text.defer p f left w)
  defer-numbered f left w s h =
      let a = FloatMoves.place_float p places.Deferred (Text.with_top f) left w in
      numbered_if (Text.only_here f) (sends (warned (warnings.Ht f.name)) a) (FloatMoves.place_float p places.Deferred f left w)
      (sends-numbered (warned (warnings.Ht f.name)) a (place_float-numbered places.Deferred (Text.with_top f) left w s (λ b. tt) h)) (place_float-numbered places.Deferred f left w s (λ b. tt) h)

  float_goes-numbered : (vert : Bool) (f : Float) (left : FloatLists) (w : Work) (place : Where) → SameSpaces w.state.floats left → (f.bang ≡ false → KeepsLimits p w.state.floats f place) → Numbered w → Numbered (Text.float_goes p vert f left w place)
  float_goes-numbered vert f left w places.Here s k h = puts-numbered _ _ (puts-numbered _ _ (place_float-numbered places.Here f left w s k h))
  float_goes-numbered vert f left w places.Top s k h = puts-numbered _ _ (place_float-numbered places.Top f left w s k h)
  float_goes-numbered vert f left w places.Bottom s k h = puts-numbered _ _ (place_float-numbered places.Bottom f left w s k h)
  float_goes-numbered vert f left w place s k h = puts-numbered _ _ (defer-numbered f left w s h)

  note_goes-numbered : (depth : ℤ) (m : Margin) (left : FloatLists) (w : Work) (at : Placed) → SameSpaces w.state.floats left → Numbered w → Numbered (Text.note_goes p depth m left w at)
  note_goes-numbered depth m left w at s h =
      let a = Text.with_note_bottom at.bottom (with_floats left w) in
      let b = with-numbered left w s h in
      let now : Numbered a = record { lists = b.lists; records = b.records } in
      puts-numbered _ _ (puts-numbered _ _ (numbered_if at.moved (sends (warned (warnings.Moved m.name at.shift)) a) a (sends-numbered (warned (warnings.Moved m.name at.shift)) a now) now))

  current-same : (es : List Entry) (l : FloatLists) → SameSpaces l (record l { current = es })
  current-same es l = record { here = refl; top = refl; bottom = refl; double = refl }

  first_goes-numbered : (vert : Bool) (height depth page_height : ℤ) (es : List Entry) (w : Work) → Numbered w → Numbered (Text.first_goes p vert height depth page_height es w)
  first_goes-numbered vert height depth page_height (entries.Float f ∷ es) w h =
      float_goes-numbered vert f (record w.state.floats { current = es }) w (current_place p w.state.floats w.state.suppress page_height f) (current-same es w.state.floats) (current-laws p w.state.floats w.state.suppress page_height f).limits h
  first_goes-numbered vert height depth page_height (entries.Left m ∷ []) w h = note_goes-numbered depth m _ w _ (current-same [] w.state.floats) h
  first_goes-numbered vert height depth page_height (entries.Left m ∷ e ∷ es) w h = note_goes-numbered depth m _ w _ (current-same es w.state.floats) h
  first_goes-numbered vert height depth page_height (entries.Right m ∷ es) w h = puts-numbered _ w h
  first_goes-numbered vert height depth page_height [] w h = puts-numbered _ w h

  float_or_note-numbered : (vert : Bool) (body : List PlainNode) (w : Work) → Numbered w → Numbered (Text.float_or_note p vert body w)
  float_or_note-numbered vert body w h =
      first_goes-numbered vert _ _ _ w.state.floats.current (Text.list_back p (w.state.held_page ++ Text.without_firing_box body) w) (record { lists = h.lists; records = h.records })

  -- ---- a clear

  -- the floats of an area that wait again are in no area
  double_again-holds : (l : FloatLists) → Holds l → Holds (Clear.double_again p l)
  double_again-holds l h =
      let m = record l { double = [] } in
      same-holds m (Clear.double_again p l) (wide-same (l.double ++ wide_waiting p l) m) (record { top = h.top; bottom = h.bottom; double = none-holds p.dbltopnumber _ 0 h.double (omega arith); text = h.text })

  deferred_again-holds : (l : FloatLists) → Holds l → Holds (Clear.deferred_again l)
  deferred_again-holds l h = record {
    top = none-holds p.topnumber _ 0 h.top (omega arith);
    bottom = none-holds p.bottomnumber _ 0 h.bottom (omega arith);
    double = h.double;
    text = none-holds p.totalnumber _ _ h.text (omega arith);
  }

  clear_wide-numbered : (w : Work) → Numbered w → Numbered (Clear.clear_wide p w)
  clear_wide-numbered w h = by_number w.state.two_columns
    where
      a : Work
      a = with_floats (Clear.double_again p w.state.floats) w

      by_number : (t : Bool) → Numbered (if not t then w else (if w.state.first_column then Pages.all_wide_pages p true a else puts (made blank_box ∷ Clear.clear_again) w))
      by_number false = h
      by_number true =
          numbered_if w.state.first_column (Pages.all_wide_pages p true a) (puts (made blank_box ∷ Clear.clear_again) w)
          (all_wide_pages-numbered true a (record { lists = double_again-holds w.state.floats h.lists; records = h.records })) (puts-numbered _ w h)

  clear_floats-numbered : (body : List PlainNode) (w : Work) → Numbered w → Numbered (Clear.clear_floats p body w)
  clear_floats-numbered body w h =
      let a = with_floats (Clear.deferred_again w.state.floats) (puts (Clear.cleared_front p body) w) in
      let b = Columns.all_float_columns p true a in
      let c = Clear.clear_wide p b in
      let d : Numbered c = clear_wide-numbered b (float_columns-numbered true (length a.state.floats.deferred) a (record { lists = deferred_again-holds w.state.floats h.lists; records = h.records })) in
      numbered_if (has_floats c.state.floats.deferred || has_floats c.state.floats.second) (puts Clear.clear_again c) c (puts-numbered _ c d) d

  clear_by-numbered : (body : List PlainNode) (w : Work) (notes : List Notes) → Numbered w → Numbered (Clear.clear_by p body w notes)
  clear_by-numbered body w [] h = clear_floats-numbered body (Clear.without_notes w) (record { lists = h.lists; records = h.records })
  clear_by-numbered body w (n ∷ notes) h = puts-numbered _ _ (put_out_text-numbered (body ++ made (skip filling_glue) ∷ []) w h)

  -- ---- a firing

  output_by-numbered : (f : Fired) (w : Work) → Numbered w → Numbered (Output.output_by p f w)
  output_by-numbered f w h =
      numbered_if (int_le eject_penalty f.penalty) (Columns.ordinary p f.body w) _ (ordinary-numbered f.body w h)
      (numbered_if (Output.is_int f.penalty Asked.clear_penalty) (Clear.clear p f.body w) _ (clear_by-numbered f.body w (standing_notes (footnotes w.state)) h)
      (numbered_if (Output.is_int f.penalty Asked.par_penalty) (Text.float_or_note p false f.body w) _ (float_or_note-numbered false f.body w h)
      (numbered_if (Output.is_int f.penalty Asked.vert_penalty) (Text.float_or_note p true f.body w) (Output.hold f.body w) (float_or_note-numbered true f.body w h) (record { lists = h.lists; records = h.records }))))

  next_goal-numbered : (n : ℤ) (w : Work) → Numbered w → Numbered (Output.next_goal p n w)
  next_goal-numbered n w h =
      let room = column_room_of p w.state.floats in
      let told = sends (warned (warnings.Floats w.state.number)) w in
      numbered_if (Output.is_int n Asked.hold_penalty) (Output.with_goal max_dimen w) (Output.goal_by p room w) (record { lists = h.lists; records = h.records })
      (numbered_if (Output.is_crowded p room) (Output.leave_column w) (Output.with_goal room w) (puts-numbered _ told (sends-numbered (warned (warnings.Floats w.state.number)) w h)) (record { lists = h.lists; records = h.records }))

  -- a firing leaves lists that hold no more, and records such lists alone
  pub out-numbered : (s : State) (f : Fired) → Holds s.floats → Numbered (Output.out p s f)
  unfolding Output.out
  out-numbered s f h =
      let start = begun (Output.after_page s f) in
      let w : Numbered (Output.next_goal p f.penalty (Output.output_by p f start)) = next_goal-numbered f.penalty (Output.output_by p f start) (output_by-numbered f start (record { lists = h; records = tt })) in
      record { lists = w.lists; records = w.records }
