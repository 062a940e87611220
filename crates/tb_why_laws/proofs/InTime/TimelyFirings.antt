-- In one column what is shown of a firing comes in time.
use Rattle.std.proofs.Common.{◌≡◌, refl, sym, ◌∙◌, ap, subst, inl, inr, ◌⊎◌, ℕ, ℤ, ◌+◌, ◌+ℤ◌, ◌-ℤ◌, Bool, true, false, List, [], ◌∷◌, ◌++◌, map, if◌then◌else◌, append-nil}
use Rattle.std.specs.Prelude.{int_le}
use Rattle.std.specs.List.{AllByRecursion}
use Rattle.tb_scaled.specs.Scaled.{max_dimen, eject_penalty}
use Rattle.tb_node.specs.declared.Float.{Float}
use Rattle.tb_node.specs.declared.Margin.{Margin}
use Rattle.tb_node.specs.declared.Where.{Where}
use Rattle.tb_node.specs.declared.Where.TheVariants as places
use Rattle.tb_node.specs.PlainNodes.{node_shape}
use Rattle.tb_node.specs.Sums.{size_of, last_depth}
use Rattle.tb_param.specs.declared.Params.{Params}
use Rattle.tb_builder.specs.FiredPages.{Fired}
use Rattle.tb_float.specs.declared.Entry.{Entry}
use Rattle.tb_float.specs.declared.Entry.TheVariants as entries
use Rattle.tb_float.specs.Lists.{FloatLists}
use Rattle.tb_float.specs.Rooms.{column_height_of, column_room_of}
use Rattle.tb_area.specs.Area.{current_place}
use Rattle.tb_margin.specs.declared.Placed.{Placed}
use Rattle.tb_margin.specs.Margin.{placed_note}
use Rattle.tb_sheet.specs.Sheet.{PlainSent, warned, shipped}
use Rattle.tb_sheet.specs.declared.Warn.TheVariants as warnings
use Rattle.tb_sheet.specs.Asked.{clear_penalty, par_penalty, vert_penalty, hold_penalty}
use Rattle.tb_told.specs.declared.Piece.{Piece}
use Rattle.tb_told.specs.declared.Tale.{Tale}
use Rattle.tb_told.specs.AreaTold.{told_call}
use Rattle.tb_told.specs.Tales.{tales}
use Rattle.tb_told.proofs.AreaLemmas.{call_decides}
use Rattle.tb_column.specs.Column.{standing_notes}
use Rattle.tb_output.specs.State.{State, Work, placed, begun, sends, records_also, with_floats, footnotes}
use Rattle.tb_output.specs.FloatMoves.{is_placed, place_float}
use Rattle.tb_output.specs.Columns.{ordinary}
use Rattle.tb_output.specs.Text.{list_back, only_here, with_top, defer, float_goes, note_goes, with_note_bottom, first_goes, float_or_note, without_firing_box, notes_height}
use Rattle.tb_output.specs.Clear.{clear}
use Rattle.tb_output.specs.Output.{is_int, hold, output_by, with_goal, is_crowded, leave_column, next_goal, after_page, out}
use Rattle.tb_output.proofs.StepLaws.RefusedSteps.{by-sends}
use Rattle.tb_output.proofs.StepLaws.FollowLemmas.{records-state}
use Rattle.tb_story.specs.Story.{is_deferred}
use Rattle.tb_story.specs.Summary.{SummaryView}
use Rattle.tb_why.specs.Firing.{spot_of, ordinary_pieces, clear_pieces, first_tales, text_tales, text_float_pieces, output_pieces, firing_pieces, all_sent, woven}
use Rattle.tb_why.specs.WhyRun.{Shown, all_shown}
use Rattle.tb_laws.specs.Laws.{float_lines}
use Rattle.tb_laws.proofs.ClassesRise.RisingLists.{IsAmong}
use Rattle.tb_why_laws.proofs.InOrder.DecisionLemmas.{after_tales}
use Rattle.tb_why_laws.proofs.InOrder.PlacingLemmas.{either-list}
use Rattle.tb_why_laws.proofs.InOrder.FiringTales.{IsWarned, Warns, warns-none, warns-then, warns-first, warns-goal}
use Rattle.tb_why_laws.proofs.InTime.HereNodes.{AllHere}
use Rattle.tb_why_laws.proofs.InTime.HereWorks.{Here, notes-floatless}
use Rattle.tb_why_laws.proofs.InTime.DueStories.{DueIn, TellsTimely, timely-none, timely-more, call-timely}
use Rattle.tb_why_laws.proofs.InTime.TimelyShows.{AreTimely, Punctual, Times, times-none, then-timely}
use Rattle.tb_why_laws.proofs.InTime.TimelyPages.{IsInColumn, ordinary-timely, clear-timely}

-- warnings come in time, and change nothing
warned-timely : (es : List PlainSent) → AllByRecursion IsWarned es → (later : List Shown) (m : SummaryView) → AreTimely later m → AreTimely (all_shown (all_sent es) ++ later) m
warned-timely [] a later m h = h
warned-timely (warned e ∷ es) a later m h = (tt, warned-timely es a.1 later m h)
warned-timely (shipped page sheet ∷ es) a later m h = absurd a.0

-- ---- a float or a note in the text

module _ (p : Params) (vert : Bool) where
  -- a float joins the column that is made if it goes to the top or bottom
  goes-lists : (f : Float) (left : FloatLists) (w : Work) (place : Where) (n : ℕ) → IsInColumn (float_goes p vert f left w place).state.floats n → IsInColumn left n ⊎ ((n ≡ f.line) × (is_deferred place ≡ false))
  goes-lists f left w places.Here n i = inl i
  goes-lists f left w places.Top n (inr i) = inl (inr i)
  goes-lists f left w places.Top n (inl i) = by_list (either-list n left.top (f ∷ []) i)
    where
      by_list : IsAmong n (float_lines left.top) ⊎ IsAmong n (f.line ∷ []) → IsInColumn left n ⊎ ((n ≡ f.line) × (is_deferred places.Top ≡ false))
      by_list (inl j) = inl (inl j)
      by_list (inr (inl e)) = inr (sym e, refl)
      by_list (inr (inr j)) = absurd j
  goes-lists f left w places.Bottom n (inl i) = inl (inl i)
  goes-lists f left w places.Bottom n (inr i) = by_list (either-list n left.bottom (f ∷ []) i)
    where
      by_list : IsAmong n (float_lines left.bottom) ⊎ IsAmong n (f.line ∷ []) → IsInColumn left n ⊎ ((n ≡ f.line) × (is_deferred places.Bottom ≡ false))
      by_list (inl j) = inl (inr j)
      by_list (inr (inl e)) = inr (sym e, refl)
      by_list (inr (inr j)) = absurd j
  goes-lists f left w place n i = inl (by_places (only_here f) i)
    where
      warned-lists : (g : Float) (n : ℕ) → IsInColumn (sends (warned (warnings.Ht f.name)) (place_float p places.Deferred g left w)).state.floats n → IsInColumn left n
      warned-lists g n = by-sends (λ c. IsInColumn c.state.floats n → IsInColumn left n) (warned (warnings.Ht f.name)) (place_float p places.Deferred g left w) (λ i. i) (λ i. i)

      by_places : (t : Bool) → IsInColumn (if t then sends (warned (warnings.Ht f.name)) (place_float p places.Deferred (with_top f) left w) else place_float p places.Deferred f left w).state.floats n → IsInColumn left n
      by_places true i = warned-lists (with_top f) n i
      by_places false i = i

  -- a note leaves the lists
  note-lists : (depth : ℤ) (m : Margin) (left : FloatLists) (w : Work) (at : Placed) → (note_goes p depth m left w at).state.floats ≡ left
  note-lists depth m left w at = by_moved at.moved
    where
      a : Work
      a = with_note_bottom at.bottom (with_floats left w)

      by_moved : (t : Bool) → (if t then sends (warned (warnings.Moved m.name at.shift)) a else a).state.floats ≡ left
      by_moved true = by-sends (λ c. c.state.floats ≡ left) (warned (warnings.Moved m.name at.shift)) a refl refl
      by_moved false = refl

  -- the page that is made is the same
  placed-page : (place : Where) (f : Float) (left : FloatLists) (w : Work) → (place_float p place f left w).state.number ≡ w.state.number
  placed-page place f left w = by_placed (is_placed place)
    where
      by_placed : (t : Bool) → (if t then records_also (placed p f place w.state.floats (column_height_of p w.state.floats)) w else w).state.number ≡ w.state.number
      by_placed true = ap (λ (s : State). s.number) (records-state (placed p f place w.state.floats (column_height_of p w.state.floats)) w)
      by_placed false = refl

  defer-page : (f : Float) (left : FloatLists) (w : Work) → (defer p f left w).state.number ≡ w.state.number
  defer-page f left w = by_places (only_here f)
    where
      by_places : (t : Bool) → (if t then sends (warned (warnings.Ht f.name)) (place_float p places.Deferred (with_top f) left w) else place_float p places.Deferred f left w).state.number ≡ w.state.number
      by_places true = let e = placed-page places.Deferred (with_top f) left w in by-sends (λ c. c.state.number ≡ w.state.number) (warned (warnings.Ht f.name)) (place_float p places.Deferred (with_top f) left w) e e
      by_places false = placed-page places.Deferred f left w

  goes-page : (f : Float) (left : FloatLists) (w : Work) (place : Where) → (float_goes p vert f left w place).state.number ≡ w.state.number
  goes-page f left w places.Here = placed-page places.Here f left w
  goes-page f left w places.Top = placed-page places.Top f left w
  goes-page f left w places.Bottom = placed-page places.Bottom f left w
  goes-page f left w places.Page = defer-page f left w
  goes-page f left w places.Double = defer-page f left w
  goes-page f left w places.Deferred = defer-page f left w

  note-page : (depth : ℤ) (m : Margin) (left : FloatLists) (w : Work) (at : Placed) → (note_goes p depth m left w at).state.number ≡ w.state.number
  note-page depth m left w at = by_moved at.moved
    where
      a : Work
      a = with_note_bottom at.bottom (with_floats left w)

      by_moved : (t : Bool) → (if t then sends (warned (warnings.Moved m.name at.shift)) a else a).state.number ≡ w.state.number
      by_moved true = by-sends (λ c. c.state.number ≡ w.state.number) (warned (warnings.Moved m.name at.shift)) a refl refl
      by_moved false = refl

  pub first-page : (height depth page_height : ℤ) (es : List Entry) (v : Work) → (first_goes p vert height depth page_height es v).state.number ≡ v.state.number
  first-page height depth page_height (entries.Float f ∷ es) v = goes-page f (record v.state.floats { current = es }) v (current_place p v.state.floats v.state.suppress page_height f)
  first-page height depth page_height (entries.Left m ∷ []) v = note-page depth m (record v.state.floats { current = [] }) v (placed_note p v.state.number v.state.two_columns v.state.first_column height v.state.note_bottom m)
  first-page height depth page_height (entries.Left m ∷ n ∷ es) v = note-page depth m (record v.state.floats { current = es }) v (placed_note p v.state.number v.state.two_columns v.state.first_column height v.state.note_bottom m)
  first-page height depth page_height (entries.Right m ∷ es) v = refl
  first-page height depth page_height [] v = refl

  -- the first float or note of the current list
  first-timely : (height depth page_height : ℤ) (es : List Entry) (v : Work) (m : SummaryView) → v.state.number ≡ m.sheets + 1 → DueIn (IsInColumn v.state.floats) m → TellsTimely (first_tales p height page_height es v.state) m (IsInColumn (first_goes p vert height depth page_height es v).state.floats)
  first-timely height depth page_height (entries.Float f ∷ es) v m e a =
      let place = current_place p v.state.floats v.state.suppress page_height f in
      let left = record v.state.floats { current = es } in
      let ts = told_call p v.state.floats v.state.suppress page_height f in
      call-timely (IsInColumn v.state.floats) (IsInColumn (float_goes p vert f left v place).state.floats) (spot_of v.state) f page_height ts
      (λ n i. subst (λ x. IsInColumn v.state.floats n ⊎ ((n ≡ f.line) × (is_deferred x ≡ false))) (sym (call_decides p v.state.floats v.state.suppress page_height f)) (goes-lists f left v place n i)) m e a
  first-timely height depth page_height (entries.Left m ∷ []) v s e a =
      let left = record v.state.floats { current = [] } in
      subst (λ l. TellsTimely (first_tales p height page_height (entries.Left m ∷ []) v.state) s (IsInColumn l)) (sym (note-lists depth m left v (placed_note p v.state.number v.state.two_columns v.state.first_column height v.state.note_bottom m)))
      (timely-more _ [] s (IsInColumn left) tt refl (timely-none (IsInColumn left) s a))
  first-timely height depth page_height (entries.Left m ∷ n ∷ es) v s e a =
      let left = record v.state.floats { current = es } in
      subst (λ l. TellsTimely (first_tales p height page_height (entries.Left m ∷ n ∷ es) v.state) s (IsInColumn l)) (sym (note-lists depth m left v (placed_note p v.state.number v.state.two_columns v.state.first_column height v.state.note_bottom m)))
      (timely-more _ [] s (IsInColumn left) tt refl (timely-none (IsInColumn left) s a))
  first-timely height depth page_height (entries.Right m ∷ es) v s e a = timely-none (IsInColumn v.state.floats) s a
  first-timely height depth page_height [] v s e a = timely-none (IsInColumn v.state.floats) s a

-- ---- a whole firing

-- what is shown of a firing comes in time from a summary on, and this is so of the summary after it
pub record Comes (ps : List Piece) (es : List PlainSent) (m : SummaryView) (After : SummaryView → Type 0) : Type 0 where
  pub now : SummaryView
  pub after : After now
  pub order : (later : List Shown) → AreTimely later now → AreTimely (all_shown (woven ps es) ++ later) m

from-times : (a b : Work) (ps : List Piece) (m : SummaryView) (P : SummaryView → Type 0) (es ws : List PlainSent) → a.sent ≡ [] → es ≡ b.sent ++ ws → AllByRecursion IsWarned ws → Times a b ps m P → Comes ps es m P
from-times a b ps m P es ws e is w x = record {
  now = x.now;
  after = x.after;
  order = λ later h.
      subst (λ us. AreTimely (all_shown (woven ps us) ++ later) m) (sym (is ∙ ap (λ us. us ++ ws) (x.whole ∙ ap (λ us. us ++ x.sent) e)))
      (subst (λ qs. AreTimely (all_shown (woven qs (x.sent ++ ws)) ++ later) m) (append-nil ps) (x.order [] ws later (warned-timely ws w later x.now h)));
}

module _ (p : Params) (n : ℤ) where
  -- the goal of the next page leaves the lists, the number of the page and the page limit
  record SameCourse (a b : Work) : Type 0 where
    floats : b.state.floats ≡ a.state.floats
    page : b.state.number ≡ a.state.number
    refused : b.refused ≡ a.refused

  goal-same : (w : Work) → SameCourse w (next_goal p n w)
  goal-same w = by_tests (is_int n hold_penalty) (is_crowded p (column_room_of p w.state.floats))
    where
      told : SameCourse w (sends (warned (warnings.Floats w.state.number)) w)
      told = by-sends (λ c. SameCourse w c) (warned (warnings.Floats w.state.number)) w (record { floats = refl; page = refl; refused = refl }) (record { floats = refl; page = refl; refused = refl })

      by_tests : (a b : Bool) → SameCourse w (if a then with_goal max_dimen w else (if b then leave_column w else with_goal (column_room_of p w.state.floats) w))
      by_tests true b = record { floats = refl; page = refl; refused = refl }
      by_tests false true = record { floats = told.floats; page = told.page; refused = told.refused }
      by_tests false false = record { floats = refl; page = refl; refused = refl }

  abbrev pub PunctualAt : Work → SummaryView → Type 0
  PunctualAt w m = Punctual (IsInColumn w.state.floats) w m

  goal-punctual : (w : Work) (m : SummaryView) → PunctualAt w m → PunctualAt (next_goal p n w) m
  goal-punctual w m h r =
      let s = goal-same w in
      let x = h (sym s.refused ∙ r) in
      (s.page ∙ x.0, subst (λ l. DueIn (IsInColumn l) m) (sym s.floats) x.1)

  -- what is shown up to a work, with the goal of the next page
  abbrev Ended : Work → List Piece → SummaryView → Type 0
  Ended b ps m = Comes ps (next_goal p n b).sent m (PunctualAt (next_goal p n b))

  ended-if : (m : SummaryView) (t : Bool) (b c : Work) (ps qs : List Piece) → Ended b ps m → Ended c qs m → Ended (if t then b else c) (if t then ps else qs) m
  ended-if m true b c ps qs h k = h
  ended-if m false b c ps qs h k = k

  ended-times : (a b : Work) (ps : List Piece) (m : SummaryView) → a.sent ≡ [] → Times a b ps m (PunctualAt b) → Ended b ps m
  ended-times a b ps m e x =
      let g = warns-goal p n b in
      let y = from-times a b ps m (PunctualAt b) (next_goal p n b).sent g.also e g.whole g.warnings x in
      record { now = y.now; after = goal-punctual b y.now y.after; order = y.order }

  ended-tells : (a b : Work) (ts : List Tale) (m : SummaryView) → a.sent ≡ [] → Warns a b → b.state.number ≡ m.sheets + 1 → TellsTimely ts m (IsInColumn b.state.floats) → Ended b (tales ts) m
  ended-tells a b ts m e v page x =
      let g = warns-then a b (next_goal p n b) v (warns-goal p n b) in
      record {
        now = after_tales ts m;
        after = goal-punctual b (after_tales ts m) (λ r. (page ∙ ap (λ k. k + 1) (sym x.sheets), x.due));
        order = λ later h.
            subst (λ us. AreTimely (all_shown (woven (tales ts) us) ++ later) m) (sym (g.whole ∙ ap (λ us. us ++ g.also) e))
            (subst (λ qs. AreTimely (all_shown (woven qs g.also) ++ later) m) (append-nil (tales ts)) (then-timely ts m x.order [] g.also later (warned-timely g.also g.warnings later (after_tales ts m) h)));
      }

-- what is shown of a firing in one column comes in time, if it did so before
pub firing-comes : (p : Params) (s : State) (f : Fired) → AllHere f.body → Here (begun (after_page s f)) → s.two_columns ≡ false → (m : SummaryView) → s.number ≡ m.sheets + 1 → DueIn (IsInColumn s.floats) m
    → Comes (firing_pieces p s f) (out p s f).sent m (λ k. (out p s f).refused ≡ false → ((out p s f).state.number ≡ k.sheets + 1) × DueIn (IsInColumn (out p s f).state.floats) k)
unfolding out firing_pieces
firing-comes p s f body here two m e a = ended
  where
    w : Work
    w = begun (after_page s f)

    text-ends : (vert : Bool) → Ended p f.penalty (float_or_note p vert f.body (begun (after_page s f))) (text_float_pieces p f.body (begun (after_page s f))) m
    text-ends vert =
        let w = begun (after_page s f) in
        let ns = w.state.held_page ++ without_firing_box f.body in
        let shapes = map node_shape ns in
        let depth = last_depth shapes in
        let height = size_of shapes -ℤ depth in
        let high = height +ℤ depth +ℤ notes_height (footnotes w.state) in
        let v = list_back p ns w in
        ended-tells p f.penalty w (float_or_note p vert f.body w) (text_tales p ns w) m refl
        (warns-then w v (float_or_note p vert f.body w) (warns-none w v refl) (warns-first p vert height depth high w.state.floats.current v))
        (first-page p vert height depth high w.state.floats.current v ∙ e)
        (first-timely p vert height depth high w.state.floats.current v m e a)

    ended : Ended p f.penalty (output_by p f (begun (after_page s f))) (output_pieces p f (begun (after_page s f))) m
    ended =
        let w = begun (after_page s f) in
        ended-if p f.penalty m (int_le eject_penalty f.penalty) (ordinary p f.body w) _ (ordinary_pieces p f.body w) _ (ended-times p f.penalty w (ordinary p f.body w) (ordinary_pieces p f.body w) m refl (ordinary-timely p f.body body w (notes-floatless s.classes f.boxes here.boxes) two m (λ r. (e, a))))
        (ended-if p f.penalty m (is_int f.penalty clear_penalty) (clear p f.body w) _ (clear_pieces p f.body w) _ (ended-times p f.penalty w (clear p f.body w) (clear_pieces p f.body w) m refl (clear-timely p f.body body w (standing_notes (footnotes w.state)) (notes-floatless s.classes f.boxes here.boxes) two m (λ r. (e, a))))
        (ended-if p f.penalty m (is_int f.penalty par_penalty) (float_or_note p false f.body w) _ (text_float_pieces p f.body w) _ (text-ends false)
        (ended-if p f.penalty m (is_int f.penalty vert_penalty) (float_or_note p true f.body w) (hold f.body w) (text_float_pieces p f.body w) [] (text-ends true)
        (ended-times p f.penalty w (hold f.body w) [] m refl (times-none w (hold f.body w) m (Punctual (IsInColumn s.floats) (hold f.body w)) refl (λ r. (e, a)))))))
