-- What is shown of a firing is in order, and the stories fit the state after it.
use Rattle.std.proofs.Common.{◌≡◌, refl, sym, ◌∙◌, ap, subst, ℕ, ℤ, ◌+ℤ◌, ◌-ℤ◌, Bool, true, false, List, [], ◌∷◌, ◌++◌, map, if◌then◌else◌, append_assoc, append-nil}
use Rattle.std.specs.Prelude.{⊤, ◌&&◌, ◌||◌, not, int_le}
use Rattle.std.specs.List.{AllByRecursion}
use Rattle.tb_break.proofs.EachLemmas.{all-join, all-map}
use Rattle.tb_scaled.specs.Scaled.{max_dimen, eject_penalty}
use Rattle.tb_node.specs.declared.Float.{Float}
use Rattle.tb_node.specs.declared.Margin.{Margin}
use Rattle.tb_node.specs.declared.Where.{Where}
use Rattle.tb_node.specs.declared.Where.TheVariants as places
use Rattle.tb_node.specs.PlainNodes.{node_shape}
use Rattle.tb_node.specs.Sums.{size_of, last_depth}
use Rattle.tb_param.specs.declared.Params.{Params}
use Rattle.tb_builder.specs.FiredPages.{Fired}
use Rattle.tb_float.specs.declared.Entry.{Entry}
use Rattle.tb_float.specs.declared.Entry.TheVariants as entries
use Rattle.tb_float.specs.Lists.{FloatLists}
use Rattle.tb_float.specs.Rooms.{column_height_of, column_room_of}
use Rattle.tb_area.specs.Area.{current_place}
use Rattle.tb_margin.specs.declared.Placed.{Placed}
use Rattle.tb_margin.specs.Margin.{placed_note}
use Rattle.tb_sheet.specs.Sheet.{PlainSent, warned, shipped}
use Rattle.tb_sheet.specs.declared.Warn.{Warn}
use Rattle.tb_sheet.specs.declared.Warn.TheVariants as warnings
use Rattle.tb_sheet.specs.Asked.{clear_penalty, par_penalty, vert_penalty, hold_penalty}
use Rattle.tb_told.specs.declared.Piece.{Piece}
use Rattle.tb_told.specs.declared.Tale.{Tale}
use Rattle.tb_told.specs.Tales.{tales}
use Rattle.tb_column.specs.Column.{standing_notes}
use Rattle.tb_output.specs.State.{State, Work, placed, begun, sends, records_also, with_floats, footnotes}
use Rattle.tb_output.specs.FloatMoves.{joined_to, is_placed, place_float}
use Rattle.tb_output.specs.Columns.{ordinary}
use Rattle.tb_output.specs.Text.{puts_interline, list_back, only_here, with_top, defer, float_goes, note_goes, moved_warning, with_note_bottom, first_goes, float_or_note, without_firing_box, notes_height}
use Rattle.tb_output.specs.Clear.{clear}
use Rattle.tb_output.specs.Output.{is_int, hold, output_by, with_goal, is_crowded, leave_column, goal_by, next_goal, after_page, out}
use Rattle.tb_output.proofs.StepLaws.RefusedSteps.{by-records, by-sends}
use Rattle.tb_output.proofs.StepLaws.Moves.{of_text}
use Rattle.tb_story.specs.Summary.{SummaryView}
use Rattle.tb_why.specs.Firing.{ordinary_pieces, clear_pieces, text_tales, text_float_pieces, output_pieces, firing_pieces, all_sent, woven}
use Rattle.tb_why.specs.WhyRun.{Shown, all_shown}
use Rattle.tb_why.specs.SummaryLaws.{IsOrderly}
use Rattle.tb_why_laws.proofs.OnePlace.Once.{Once}
use Rattle.tb_why_laws.proofs.OnePlace.OutCalls.{is_text}
use Rattle.tb_why_laws.proofs.InOrder.FitLemmas.{Fits}
use Rattle.tb_why_laws.proofs.InOrder.DecisionLemmas.{Tells, after_tales}
use Rattle.tb_why_laws.proofs.InOrder.ShowLemmas.{Shows, then-order}
use Rattle.tb_why_laws.proofs.InOrder.StandLemmas.{Waits, IsInArea, FitState, Stand}
use Rattle.tb_why_laws.proofs.InOrder.ClearTales.{ordinary-shown, clear-shown}
use Rattle.tb_why_laws.proofs.InOrder.CallTales.{first-told}

-- ---- warnings

abbrev pub IsWarned : PlainSent → Type 0
IsWarned (warned w) = ⊤
IsWarned (shipped page sheet) = ⊥

-- warnings alone are sent
pub record Warns (a b : Work) : Type 0 where
  pub also : List PlainSent
  pub whole : b.sent ≡ a.sent ++ also
  pub warnings : AllByRecursion IsWarned also

pub warns-none : (a b : Work) → b.sent ≡ a.sent → Warns a b
warns-none a b e = record { also = []; whole = e ∙ sym (append-nil a.sent); warnings = tt }

pub warns-then : (a b c : Work) → Warns a b → Warns b c → Warns a c
warns-then a b c x y = record { also = x.also ++ y.also; whole = y.whole ∙ ap (λ es. es ++ y.also) x.whole ∙ append_assoc a.sent x.also y.also; warnings = all-join IsWarned x.also y.also x.warnings y.warnings }

pub warns-if : (a : Work) (t : Bool) (b c : Work) → Warns a b → Warns a c → Warns a (if t then b else c)
warns-if a true b c h k = h
warns-if a false b c h k = k

pub warns-one : (e : Warn) (w : Work) → Warns w (sends (warned e) w)
warns-one e w = by-sends (λ c. Warns w c) (warned e) w (warns-none w w refl) (record { also = warned e ∷ []; whole = refl; warnings = (tt, tt) })

module _ (p : Params) where
  pub warns-placed : (place : Where) (f : Float) (left : FloatLists) (w : Work) → Warns w (place_float p place f left w)
  warns-placed place f left w = by_placed (is_placed place)
    where
      by_placed : (t : Bool) → Warns w (with_floats (joined_to place f left) (if t then records_also (placed p f place w.state.floats (column_height_of p w.state.floats)) w else w))
      by_placed true = by-records (λ c. Warns w (with_floats (joined_to place f left) c)) (placed p f place w.state.floats (column_height_of p w.state.floats)) w (warns-none w (with_floats (joined_to place f left) w) refl) (warns-none w (with_floats (joined_to place f left) (record w { records = w.records ++ placed p f place w.state.floats (column_height_of p w.state.floats) ∷ [] })) refl)
      by_placed false = warns-none w (with_floats (joined_to place f left) w) refl

  pub warns-defer : (f : Float) (left : FloatLists) (w : Work) → Warns w (defer p f left w)
  warns-defer f left w =
      let a = place_float p places.Deferred (with_top f) left w in
      warns-if w (only_here f) (sends (warned (warnings.Ht f.name)) a) (place_float p places.Deferred f left w)
      (warns-then w a (sends (warned (warnings.Ht f.name)) a) (warns-placed places.Deferred (with_top f) left w) (warns-one (warnings.Ht f.name) a)) (warns-placed places.Deferred f left w)

  -- what goes back sends nothing
  pub warns-back : (a b c : Work) → c.sent ≡ b.sent → Warns a b → Warns a c
  warns-back a b c e x = record { also = x.also; whole = e ∙ x.whole; warnings = x.warnings }

  pub warns-goes : (vert : Bool) (f : Float) (left : FloatLists) (w : Work) (place : Where) → Warns w (float_goes p vert f left w place)
  warns-goes vert f left w places.Here = warns-back w (place_float p places.Here f left w) (float_goes p vert f left w places.Here) refl (warns-placed places.Here f left w)
  warns-goes vert f left w places.Top = warns-back w (place_float p places.Top f left w) (float_goes p vert f left w places.Top) refl (warns-placed places.Top f left w)
  warns-goes vert f left w places.Bottom = warns-back w (place_float p places.Bottom f left w) (float_goes p vert f left w places.Bottom) refl (warns-placed places.Bottom f left w)
  warns-goes vert f left w places.Page = warns-back w (defer p f left w) (float_goes p vert f left w places.Page) refl (warns-defer f left w)
  warns-goes vert f left w places.Double = warns-back w (defer p f left w) (float_goes p vert f left w places.Double) refl (warns-defer f left w)
  warns-goes vert f left w places.Deferred = warns-back w (defer p f left w) (float_goes p vert f left w places.Deferred) refl (warns-defer f left w)

  pub warns-note : (depth : ℤ) (m : Margin) (left : FloatLists) (w : Work) (at : Placed) → Warns w (note_goes p depth m left w at)
  warns-note depth m left w at =
      let b = with_note_bottom at.bottom (with_floats left w) in
      warns-back w (moved_warning m at b) (note_goes p depth m left w at) refl
      (warns-if w at.moved (sends (warned (warnings.Moved m.name at.shift)) b) b (warns-then w b (sends (warned (warnings.Moved m.name at.shift)) b) (warns-none w b refl) (warns-one (warnings.Moved m.name at.shift) b)) (warns-none w b refl))

  pub warns-first : (vert : Bool) (height depth page_height : ℤ) (es : List Entry) (w : Work) → Warns w (first_goes p vert height depth page_height es w)
  warns-first vert height depth page_height (entries.Float f ∷ es) w = warns-goes vert f (record w.state.floats { current = es }) w (current_place p w.state.floats w.state.suppress page_height f)
  warns-first vert height depth page_height (entries.Left m ∷ []) w = warns-note depth m (record w.state.floats { current = [] }) w (placed_note p w.state.number w.state.two_columns w.state.first_column height w.state.note_bottom m)
  warns-first vert height depth page_height (entries.Left m ∷ e ∷ es) w = warns-note depth m (record w.state.floats { current = es }) w (placed_note p w.state.number w.state.two_columns w.state.first_column height w.state.note_bottom m)
  warns-first vert height depth page_height (entries.Right m ∷ es) w = warns-none w (puts_interline p false w) refl
  warns-first vert height depth page_height [] w = warns-none w (puts_interline p false w) refl

  pub warns-goal : (n : ℤ) (w : Work) → Warns w (next_goal p n w)
  warns-goal n w =
      let room = column_room_of p w.state.floats in
      let b = sends (warned (warnings.Floats w.state.number)) w in
      warns-if w (is_int n hold_penalty) (with_goal max_dimen w) (goal_by p room w) (warns-none w (with_goal max_dimen w) refl)
      (warns-if w (is_crowded p room) (leave_column w) (with_goal room w) (warns-back w b (leave_column w) refl (warns-one (warnings.Floats w.state.number) w)) (warns-none w (with_goal room w) refl))

-- warnings are in order, and change nothing
pub warned-order : (es : List PlainSent) → AllByRecursion IsWarned es → (later : List Shown) (m : SummaryView) → IsOrderly later m → IsOrderly (all_shown (all_sent es) ++ later) m
warned-order [] a later m h = h
warned-order (warned e ∷ es) a later m h = (tt, warned-order es a.1 later m h)
warned-order (shipped page sheet ∷ es) a later m h = absurd a.0

-- ---- a whole firing

-- what is shown of a firing is in order from a summary on, and this is so of the summary after it
pub record Ends (ps : List Piece) (es : List PlainSent) (m : SummaryView) (After : SummaryView → Type 0) : Type 0 where
  pub now : SummaryView
  pub after : After now
  pub order : (later : List Shown) → IsOrderly later now → IsOrderly (all_shown (woven ps es) ++ later) m

from-shows : (a b : Work) (ps : List Piece) (m : SummaryView) (P : SummaryView → Type 0) (es ws : List PlainSent) → a.sent ≡ [] → es ≡ b.sent ++ ws → AllByRecursion IsWarned ws → Shows a b ps m P → Ends ps es m P
from-shows a b ps m P es ws e is w x = record {
  now = x.now;
  after = x.after;
  order = λ later h.
      subst (λ us. IsOrderly (all_shown (woven ps us) ++ later) m) (sym (is ∙ ap (λ us. us ++ ws) (x.whole ∙ ap (λ us. us ++ x.sent) e)))
      (subst (λ qs. IsOrderly (all_shown (woven qs (x.sent ++ ws)) ++ later) m) (append-nil ps) (x.order [] ws later (warned-order ws w later x.now h)));
}

from-tells : (ts : List Tale) (m : SummaryView) (P : SummaryView → Type 0) (ws : List PlainSent) → AllByRecursion IsWarned ws → Tells ts m P → Ends (tales ts) ws m P
from-tells ts m P ws w x = record {
  now = after_tales ts m;
  after = x.after;
  order = λ later h.
      subst (λ qs. IsOrderly (all_shown (woven qs ws) ++ later) m) (append-nil (tales ts)) (then-order ts m x.order [] ws later (warned-order ws w later (after_tales ts m) h));
}

module _ (p : Params) (K : ℕ → Type 0) (n : ℤ) where
  -- the goal of the next page changes no list
  goal-fits : (w : Work) (m : SummaryView) → FitState p K w.state m → FitState p K (next_goal p n w).state m
  goal-fits w m h = by_tests (is_int n hold_penalty) (is_crowded p (column_room_of p w.state.floats))
    where
      by_tests : (a b : Bool) → FitState p K (if a then with_goal max_dimen w else (if b then leave_column w else with_goal (column_room_of p w.state.floats) w)).state m
      by_tests true b = h
      by_tests false true = by-sends (λ c. FitState p K c.state m) (warned (warnings.Floats w.state.number)) w h h
      by_tests false false = h

  goal-goes : (w : Work) → (next_goal p n w).refused ≡ w.refused
  goal-goes w = by_tests (is_int n hold_penalty) (is_crowded p (column_room_of p w.state.floats))
    where
      by_tests : (a b : Bool) → (if a then with_goal max_dimen w else (if b then leave_column w else with_goal (column_room_of p w.state.floats) w)).refused ≡ w.refused
      by_tests true b = refl
      by_tests false true = by-sends (λ c. c.refused ≡ w.refused) (warned (warnings.Floats w.state.number)) w refl refl
      by_tests false false = refl

  -- what is shown up to a work, with the goal of the next page
  abbrev Ended : Work → List Piece → SummaryView → Type 0
  Ended b ps m = Ends ps (next_goal p n b).sent m (λ k. (next_goal p n b).refused ≡ false → FitState p K (next_goal p n b).state k)

  ended-shows : (a b : Work) (ps : List Piece) (m : SummaryView) → a.sent ≡ [] → Shows a b ps m (Stand p K b) → Ended b ps m
  ended-shows a b ps m e x =
      let g = warns-goal p n b in
      let y = from-shows a b ps m (Stand p K b) (next_goal p n b).sent g.also e g.whole g.warnings x in
      record { now = y.now; after = λ r. goal-fits b y.now (y.after (sym (goal-goes b) ∙ r)); order = y.order }

  ended-tells : (a b : Work) (ts : List Tale) (m : SummaryView) → a.sent ≡ [] → Warns a b → Tells ts m (λ k. FitState p K b.state k) → Ended b (tales ts) m
  ended-tells a b ts m e v x =
      let g = warns-then a b (next_goal p n b) v (warns-goal p n b) in
      let y = from-tells ts m (λ k. FitState p K b.state k) g.also g.warnings x in
      record { now = y.now; after = λ r. goal-fits b y.now y.after; order = λ later h. subst (λ us. IsOrderly (all_shown (woven (tales ts) us) ++ later) m) (sym (g.whole ∙ ap (λ us. us ++ g.also) e)) (y.order later h) }

-- what is shown of a firing is in order: the stories fit the state before it, and at the call of a float it has no story yet and
-- does not wait
pub firing-ends : (p : Params) (Before K : ℕ → Type 0) (s : State) (f : Fired) → Once (of_text f.body) (begun (after_page s f)) → ((n : ℕ) → Before n → K n)
    → (is_text f.penalty ≡ true → (g : Float) (es : List Entry) → s.floats.current ≡ entries.Float g ∷ es → ((n : ℕ) → Before n → n ≡ g.line → ⊥) × K g.line × (Waits s g.line → ⊥))
    → (m : SummaryView) → FitState p Before s m → Ends (firing_pieces p s f) (out p s f).sent m (λ n. (out p s f).refused ≡ false → FitState p K (out p s f).state n)
unfolding out firing_pieces
firing-ends p Before K s f once known new m a = ended
  where
    stand : Stand p K (begun (after_page s f)) m
    stand r =
        all-map (Fits (Waits s) (IsInArea s) (Waits s) Before m.sheets) (Fits (Waits s) (IsInArea s) (Waits s) K m.sheets)
        (λ x y. record { back = y.back; now = y.now; waiting = y.waiting; reason = y.reason; known = known x.float.line y.known }) m.stories a

    text-ends : (vert : Bool) → is_text f.penalty ≡ true → Ended p K f.penalty (float_or_note p vert f.body (begun (after_page s f))) (text_float_pieces p f.body (begun (after_page s f))) m
    text-ends vert e =
        let w = begun (after_page s f) in
        let ns = w.state.held_page ++ without_firing_box f.body in
        let shapes = map node_shape ns in
        let depth = last_depth shapes in
        let height = size_of shapes -ℤ depth in
        let high = height +ℤ depth +ℤ notes_height (footnotes w.state) in
        let v = list_back p ns w in
        ended-tells p K f.penalty w (float_or_note p vert f.body w) (text_tales p ns w) m refl
        (warns-then w v (float_or_note p vert f.body w) (warns-none w v refl) (warns-first p vert height depth high w.state.floats.current v))
        (first-told p K Before vert height depth high w.state.floats.current v known (λ g es i. new e g es i) m a)

    is-text : (t c x y : Bool) → t ≡ false → c ≡ false → (x || y) ≡ true → (not t && (not c && (x || y))) ≡ true
    is-text true c x y e d i = cc
    is-text false true x y e d i = cc
    is-text false false x y e d i = i

    by_penalty : (t c x y : Bool) → (t ≡ false → c ≡ false → (x || y) ≡ true → is_text f.penalty ≡ true)
        → Ended p K f.penalty (if t then ordinary p f.body (begun (after_page s f)) else (if c then clear p f.body (begun (after_page s f)) else (if x then float_or_note p false f.body (begun (after_page s f)) else (if y then float_or_note p true f.body (begun (after_page s f)) else hold f.body (begun (after_page s f))))))
        (if t then ordinary_pieces p f.body (begun (after_page s f)) else (if c then clear_pieces p f.body (begun (after_page s f)) else (if x then text_float_pieces p f.body (begun (after_page s f)) else (if y then text_float_pieces p f.body (begun (after_page s f)) else [])))) m
    by_penalty true c x y i = let w = begun (after_page s f) in ended-shows p K f.penalty w (ordinary p f.body w) (ordinary_pieces p f.body w) m refl (ordinary-shown p K f.body w once m stand)
    by_penalty false true x y i = let w = begun (after_page s f) in ended-shows p K f.penalty w (clear p f.body w) (clear_pieces p f.body w) m refl (clear-shown p K f.body w (standing_notes (footnotes w.state)) refl once m stand)
    by_penalty false false true y i = text-ends false (i refl refl refl)
    by_penalty false false false true i = text-ends true (i refl refl refl)
    by_penalty false false false false i = let w = begun (after_page s f) in ended-tells p K f.penalty w (hold f.body w) [] m refl (warns-none w (hold f.body w) refl) (record { order = tt; after = stand refl })

    ended : Ended p K f.penalty (output_by p f (begun (after_page s f))) (output_pieces p f (begun (after_page s f))) m
    ended =
        let t = int_le eject_penalty f.penalty in
        let c = is_int f.penalty clear_penalty in
        let x = is_int f.penalty par_penalty in
        let y = is_int f.penalty vert_penalty in
        by_penalty t c x y (λ e d i. is-text t c x y e d i)
