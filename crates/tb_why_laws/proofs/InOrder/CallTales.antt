-- What is told of a float or note in the text is in order: its story begins, and its decision gives it a reason or a place.
use Rattle.std.proofs.Common.{◌≡◌, refl, sym, ◌∙◌, ap, subst, inl, inr, ◌⊎◌, ℕ, ℤ, ◌+ℤ◌, Bool, true, false, List, [], ◌∷◌, ◌++◌, None, if◌then◌else◌}
use Rattle.std.specs.Prelude.{◌&&◌}
use Rattle.std.specs.List.{AllByRecursion}
use Rattle.tb_break.proofs.EachLemmas.{all-map, all-push}
use Rattle.tb_scaled.specs.Scaled.{max_ℤ}
use Rattle.tb_node.specs.declared.Float.{Float}
use Rattle.tb_node.specs.declared.Margin.{Margin}
use Rattle.tb_node.specs.declared.Where.{Where}
use Rattle.tb_node.specs.declared.Where.TheVariants as places
use Rattle.tb_param.specs.declared.Params.{Params}
use Rattle.tb_float.specs.declared.Entry.{Entry}
use Rattle.tb_float.specs.declared.Entry.TheVariants as entries
use Rattle.tb_float.specs.declared.Suppress.{Suppress}
use Rattle.tb_float.specs.Lists.{FloatLists, has_class}
use Rattle.tb_float.specs.Rooms.{column_height_of}
use Rattle.tb_area.specs.Area.{AreaPlace, at_top, at_bottom, deferred, where_of, current_place, may_enter, by_class, here_or_area, fits_column, text_minimum, top_or_bottom, bottom_or_deferred}
use Rattle.tb_margin.specs.declared.Placed.{Placed}
use Rattle.tb_margin.specs.Margin.{placed_note}
use Rattle.tb_sheet.specs.Sheet.{warned}
use Rattle.tb_sheet.specs.declared.Warn.TheVariants as warnings
use Rattle.tb_told.specs.declared.Spot.{Spot}
use Rattle.tb_told.specs.AreaTold.{told_call, place_told}
use Rattle.tb_told.proofs.AreaLemmas.{call_decides}
use Rattle.tb_told.specs.declared.Tale.TheVariants.{Calls}
use Rattle.tb_told.specs.Tales.{decisions}
use Rattle.tb_output.specs.State.{Work, placed, sends, with_floats}
use Rattle.tb_output.specs.FloatMoves.{joined_to, place_float}
use Rattle.tb_output.specs.Text.{only_here, with_top, defer, float_goes, note_goes, with_note_bottom, first_goes}
use Rattle.tb_output.proofs.StepLaws.RefusedSteps.{by-records, by-sends}
use Rattle.tb_story.specs.declared.Kept.{Kept}
use Rattle.tb_story.specs.Story.{StoryView, is_open, is_story_of, is_deferred, waits, begun, kept_back, placed_at}
use Rattle.tb_story.specs.Summary.{SummaryView, after_tale}
use Rattle.tb_why.specs.Firing.{spot_of, first_tales}
use Rattle.tb_why.specs.SummaryLaws.{counted_to, IsCurrent}
use Rattle.tb_why.proofs.LandingLemmas.{line_of}
use Rattle.tb_laws.specs.Laws.{float_lines}
use Rattle.tb_laws.proofs.ClassesRise.RisingLists.{IsAmong, among-front, among-back}
use Rattle.tb_why_laws.proofs.OnePlace.WaitingLines.{waiting_lines}
use Rattle.tb_why_laws.proofs.OnePlace.OnceLists.{among-parts}
use Rattle.tb_why_laws.proofs.InOrder.FitLemmas.{Fits, AllFit, both-true, right-true, true-not-false, to_now, either_now, changed, of_line}
use Rattle.tb_why_laws.proofs.InOrder.DecisionLemmas.{after_tales, Tells, Leads, Moves, decision, call-leads}
use Rattle.tb_why_laws.proofs.InOrder.PlacingLemmas.{lines-append, either-list, in-first, in-second, joins-area}
use Rattle.tb_why_laws.proofs.InOrder.StandLemmas.{Waits, IsInArea, FitState, moved_to}

-- ---- a story that has just begun

-- the story of a float that is being decided
record IsNew (line : ℕ) (K : ℕ → Type 0) (s : StoryView) : Type 0 where
  of : s.float.line ≡ line
  open_yet : is_open s ≡ true
  kept : is_deferred s.place ≡ true

module _ (K : ℕ → Type 0) (N W : ℕ → Type 0) (line : ℕ) where
  -- a story is new, or it fits and is of another float
  abbrev Either : ℕ → StoryView → Type 0
  Either n s = (Fits W N W K n s × (s.float.line ≡ line → ⊥)) ⊎ IsNew line K s

  abbrev AllEither : List StoryView → ℕ → Type 0
  AllEither ss n = AllByRecursion (Either n) ss

  either-current : (n : ℕ) (s : StoryView) → Either n s → IsCurrent n line s
  either-current n s (inl x) e = absurd (x.1 (line_of line s e))
  either-current n s (inr x) e = to_now (waits s) n s.put (both-true (is_open s) (is_deferred s.place) x.open_yet x.kept)

  -- the decision of a float whose story is new
  module _ (w : Where) (N' W' : ℕ → Type 0) (fewer : (n : ℕ) → W' n → W n ⊎ (n ≡ line)) (more : (n : ℕ) → W n → W' n) (now : (n : ℕ) → N' n → N n ⊎ (n ≡ line)) (known : K line)
      (gone : is_deferred w ≡ false → W' line → ⊥) (there : is_deferred w ≡ true → W' line) where
    -- the others fit as before
    others-fit : (n : ℕ) (s : StoryView) → is_story_of line s ≡ false → Either n s → Fits W' N' W' K n s
    others-fit n s e (inl x) = record {
      back = λ o i. by_back o (fewer s.float.line i);
      now = λ o i. by_now o (now s.float.line i);
      waiting = λ i. more s.float.line (x.0.waiting i);
      reason = x.0.reason;
      known = x.0.known;
    }
      where
        by_back : is_open s ≡ true → W s.float.line ⊎ (s.float.line ≡ line) → is_deferred s.place ≡ true
        by_back o (inl i) = x.0.back o i
        by_back o (inr i) = absurd (x.1 i)

        by_now : is_open s ≡ true → N s.float.line ⊎ (s.float.line ≡ line) → counted_to n s ≡ n
        by_now o (inl i) = x.0.now o i
        by_now o (inr i) = absurd (x.1 i)
    others-fit n s e (inr x) = absurd (true-not-false (is_story_of line s) (of_line line s x.open_yet x.of) e)

    placed-fits : is_deferred w ≡ false → (n : ℕ) (s : StoryView) → is_story_of line s ≡ true → Either n s → Fits W' N' W' K n (placed_at w n s)
    placed-fits d n s e (inl x) = absurd (x.1 (line_of line s e))
    placed-fits d n s e (inr x) = record {
      back = λ o i. absurd (gone d (subst W' x.of i));
      now = λ o i. either_now (is_open s && is_deferred w) n;
      waiting = λ i. absurd (true-not-false (is_deferred w) (right-true (is_open s) (is_deferred w) i) d);
      reason = λ i. absurd (true-not-false (is_deferred w) (right-true (is_open s) (is_deferred w) i) d);
      known = subst K (sym x.of) known;
    }

    kept-fits : is_deferred w ≡ true → (k : Kept) (n : ℕ) (s : StoryView) → is_story_of line s ≡ true → Either n s → Fits W' N' W' K n (kept_back k s)
    kept-fits d k n s e (inl x) = absurd (x.1 (line_of line s e))
    kept-fits d k n s e (inr x) = record {
      back = λ o i. refl;
      now = λ o i. to_now (is_open s && true) n s.put (both-true (is_open s) true o refl);
      waiting = λ i. subst W' (sym x.of) (there d);
      reason = λ i. refl;
      known = subst K (sym x.of) known;
    }

    decides-new : Moves true line w AllEither (λ ss n. AllFit W' N' W' K n ss)
    decides-new = record {
      current = λ ss n a. all-map (Either n) (IsCurrent n line) (λ s x. either-current n s x) ss a;
      placed = λ d ss n a. changed line (placed_at w n) (Either n) (Fits W' N' W' K n) (λ s e x. placed-fits d n s e x) (λ s e x. others-fit n s e x) ss a;
      kept = λ d k ss n a. changed line (kept_back k) (Either n) (Fits W' N' W' K n) (λ s e x. kept-fits d k n s e x) (λ s e x. others-fit n s e x) ss a;
      stays = λ d e. cc;
    }

-- the call of a float, and its decision
call-tells : (K N W N' W' : ℕ → Type 0) (f : Float) (w : Where) (at : Spot) (h : ℤ) (p : Params) (l : FloatLists) (s : Suppress) → place_told (told_call p l s h f) ≡ w → ((n : ℕ) → W' n → W n ⊎ (n ≡ f.line)) → ((n : ℕ) → W n → W' n) → ((n : ℕ) → N' n → N n ⊎ (n ≡ f.line)) → K f.line
    → (is_deferred w ≡ false → W' f.line → ⊥) → (is_deferred w ≡ true → W' f.line) → (m : SummaryView) → AllByRecursion (λ s. Fits W N W K m.sheets s × (s.float.line ≡ f.line → ⊥)) m.stories
    → Tells (Calls at f h ∷ decisions f (told_call p l s h f)) m (λ m. AllFit W' N' W' K m.sheets m.stories)
call-tells K N W N' W' f w at h p l s is fewer more now known gone there m a =
    let b = after_tale (Calls at f h) m in
    let x = decision true f w (AllEither K N W f.line) (λ ss n. AllFit W' N' W' K n ss) (decides-new K N W f.line w N' W' fewer more now known gone there) false (told_call p l s h f)
    (subst (Leads false (told_call p l s h f)) is (call-leads p l s h f)) b (λ e d. cc)
    (all-push (Either K N W f.line m.sheets) m.stories (begun f at.page None m.sheets) (all-map (λ s. Fits W N W K m.sheets s × (s.float.line ≡ f.line → ⊥)) (Either K N W f.line m.sheets) (λ s y. inl y) m.stories a) (inr (record { of = refl; open_yet = refl; kept = refl }))) in
    record { order = (tt, x.order); after = x.after }

-- ---- where a float goes at its call

-- a place to which a call leads
abbrev IsCall : Where → Type 0
IsCall places.Here = Unit {0}
IsCall places.Top = Unit {0}
IsCall places.Bottom = Unit {0}
IsCall places.Page = ⊥
IsCall places.Double = ⊥
IsCall places.Deferred = Unit {0}

call_if : (b : Bool) (x y : Where) → IsCall x → IsCall y → IsCall (if b then x else y)
call_if true x y h k = h
call_if false x y h k = k

area_call : (a : AreaPlace) → IsCall (where_of a)
area_call at_top = tt
area_call at_bottom = tt
area_call deferred = tt

current-call : (p : Params) (l : FloatLists) (s : Suppress) (h : ℤ) (f : Float) → IsCall (current_place p l s h f)
current-call p l s h f =
    let r = max_ℤ h (text_minimum p l f) +ℤ f.height in
    let inside = r +ℤ p.intextsep.width in
    call_if (may_enter p l s l.deferred r f) (by_class p l s r f) places.Deferred
    (call_if (has_class f.class l.bottom) (where_of (bottom_or_deferred p l s r f)) (here_or_area p l s r f) (area_call (bottom_or_deferred p l s r f))
    (call_if f.places.h (if fits_column p l inside then places.Here else where_of (top_or_bottom p l s inside f)) (where_of (top_or_bottom p l s r f))
    (call_if (fits_column p l inside) places.Here (where_of (top_or_bottom p l s inside f)) tt (area_call (top_or_bottom p l s inside f))) (area_call (top_or_bottom p l s r f)))) tt

module _ (p : Params) (K : ℕ → Type 0) where
  -- ---- the work

  fit-moved : (place : Where) (f : Float) (left : FloatLists) (w : Work) (m : SummaryView) → FitState p K (record w.state { floats = joined_to place f left }) m → FitState p K (moved_to p K place f left w).state m
  fit-moved place f left w m h = by-records (λ c. FitState p K (with_floats (joined_to place f left) c).state m) (placed p f place w.state.floats (column_height_of p w.state.floats)) w h h

  -- a float that waits may go to the top from now on
  same-waiting : (f g : Float) (l : FloatLists) → g.line ≡ f.line → waiting_lines (joined_to places.Deferred f l) ≡ waiting_lines (joined_to places.Deferred g l)
  same-waiting f g l e =
      ap (λ ls. ls ++ float_lines l.second) (lines-append l.deferred (f ∷ []) ∙ ap (λ n. float_lines l.deferred ++ n ∷ []) (sym e) ∙ sym (lines-append l.deferred (g ∷ [])))

  fit-deferred : (f : Float) (left : FloatLists) (w : Work) (m : SummaryView) → FitState p K (record w.state { floats = joined_to places.Deferred f left }) m → FitState p K (defer p f left w).state m
  fit-deferred f left w m h = by_places (only_here f)
    where
      with-top : FitState p K (with_floats (joined_to places.Deferred (with_top f) left) w).state m
      with-top = subst (λ ls. AllFit (λ n. IsAmong n ls) (IsInArea (record w.state { floats = left })) (λ n. IsAmong n ls) K m.sheets m.stories) (same-waiting f (with_top f) left refl) h

      by_places : (t : Bool) → FitState p K (if t then sends (warned (warnings.Ht f.name)) (place_float p places.Deferred (with_top f) left w) else place_float p places.Deferred f left w).state m
      by_places true = by-sends (λ c. FitState p K c.state m) (warned (warnings.Ht f.name)) (place_float p places.Deferred (with_top f) left w) with-top with-top
      by_places false = h

  fit-goes : (vert : Bool) (place : Where) → IsCall place → (f : Float) (left : FloatLists) (w : Work) (m : SummaryView) → FitState p K (record w.state { floats = joined_to place f left }) m → FitState p K (float_goes p vert f left w place).state m
  fit-goes vert places.Here c f left w m h = fit-moved places.Here f left w m h
  fit-goes vert places.Top c f left w m h = fit-moved places.Top f left w m h
  fit-goes vert places.Bottom c f left w m h = fit-moved places.Bottom f left w m h
  fit-goes vert places.Deferred c f left w m h = fit-deferred f left w m h
  fit-goes vert places.Page c f left w m h = absurd c
  fit-goes vert places.Double c f left w m h = absurd c

  -- what is known of the floats before the call of one
  module _ (Before : ℕ → Type 0) (f : Float) (es : List Entry) (w : Work) (known : (n : ℕ) → Before n → K n) (new : (n : ℕ) → Before n → n ≡ f.line → ⊥) (this : K f.line) (apart : Waits w.state f.line → ⊥) where
    others : (m : SummaryView) → FitState p Before w.state m → AllByRecursion (λ s. Fits (Waits w.state) (IsInArea w.state) (Waits w.state) K m.sheets s × (s.float.line ≡ f.line → ⊥)) m.stories
    others m h =
        all-map (Fits (Waits w.state) (IsInArea w.state) (Waits w.state) Before m.sheets) (λ s. Fits (Waits w.state) (IsInArea w.state) (Waits w.state) K m.sheets s × (s.float.line ≡ f.line → ⊥))
        (λ s x. (record { back = x.back; now = x.now; waiting = x.waiting; reason = x.reason; known = known s.float.line x.known }, λ e. new s.float.line x.known e)) m.stories h

    -- the call at each place
    called : (place : Where) → IsCall place → (at : Spot) (h : ℤ) → place_told (told_call p w.state.floats w.state.suppress h f) ≡ place → (m : SummaryView) → FitState p Before w.state m
        → Tells (Calls at f h ∷ decisions f (told_call p w.state.floats w.state.suppress h f)) m (FitState p K (record w.state { floats = joined_to place f (record w.state.floats { current = es }) }))
    called places.Here c at h is m a =
        call-tells K (IsInArea w.state) (Waits w.state) (IsInArea w.state) (Waits w.state) f places.Here at h p w.state.floats w.state.suppress is (λ n i. inl i) (λ n i. i) (λ n i. inl i) this (λ d i. apart i) (λ d. cc) m (others m a)
    called places.Top c at h is m a =
        let s = record w.state { floats = joined_to places.Top f (record w.state.floats { current = es }) } in
        call-tells K (IsInArea w.state) (Waits w.state) (IsInArea s) (Waits w.state) f places.Top at h p w.state.floats w.state.suppress is (λ n i. inl i) (λ n i. i) (λ n i. joins-area places.Top f (record w.state { floats = record w.state.floats { current = es } }) n i) this (λ d i. apart i) (λ d. cc) m (others m a)
    called places.Bottom c at h is m a =
        let s = record w.state { floats = joined_to places.Bottom f (record w.state.floats { current = es }) } in
        call-tells K (IsInArea w.state) (Waits w.state) (IsInArea s) (Waits w.state) f places.Bottom at h p w.state.floats w.state.suppress is (λ n i. inl i) (λ n i. i) (λ n i. joins-area places.Bottom f (record w.state { floats = record w.state.floats { current = es } }) n i) this (λ d i. apart i) (λ d. cc) m (others m a)
    called places.Deferred c at h is m a =
        let s = record w.state { floats = joined_to places.Deferred f (record w.state.floats { current = es }) } in
        call-tells K (IsInArea w.state) (Waits w.state) (IsInArea w.state) (Waits s) f places.Deferred at h p w.state.floats w.state.suppress is fewer more (λ n i. inl i) this (λ d. cc) (λ d. among-front f.line (float_lines (w.state.floats.deferred ++ f ∷ [])) (float_lines w.state.floats.second) (in-second f.line w.state.floats.deferred (f ∷ []) (inl refl))) m (others m a)
      where
        more : (n : ℕ) → Waits w.state n → IsAmong n (float_lines (w.state.floats.deferred ++ f ∷ []) ++ float_lines w.state.floats.second)
        more n i = by_list (among-parts n (float_lines w.state.floats.deferred) (float_lines w.state.floats.second) i)
          where
            by_list : IsAmong n (float_lines w.state.floats.deferred) ⊎ IsAmong n (float_lines w.state.floats.second) → IsAmong n (float_lines (w.state.floats.deferred ++ f ∷ []) ++ float_lines w.state.floats.second)
            by_list (inl j) = among-front n (float_lines (w.state.floats.deferred ++ f ∷ [])) (float_lines w.state.floats.second) (in-first n w.state.floats.deferred (f ∷ []) j)
            by_list (inr j) = among-back n (float_lines (w.state.floats.deferred ++ f ∷ [])) (float_lines w.state.floats.second) j

        fewer : (n : ℕ) → IsAmong n (float_lines (w.state.floats.deferred ++ f ∷ []) ++ float_lines w.state.floats.second) → Waits w.state n ⊎ (n ≡ f.line)
        fewer n i = by_list (among-parts n (float_lines (w.state.floats.deferred ++ f ∷ [])) (float_lines w.state.floats.second) i)
          where
            by_front : IsAmong n (float_lines w.state.floats.deferred) ⊎ IsAmong n (float_lines (f ∷ [])) → Waits w.state n ⊎ (n ≡ f.line)
            by_front (inl j) = inl (among-front n (float_lines w.state.floats.deferred) (float_lines w.state.floats.second) j)
            by_front (inr (inl e)) = inr (sym e)
            by_front (inr (inr j)) = absurd j

            by_list : IsAmong n (float_lines (w.state.floats.deferred ++ f ∷ [])) ⊎ IsAmong n (float_lines w.state.floats.second) → Waits w.state n ⊎ (n ≡ f.line)
            by_list (inl j) = by_front (either-list n w.state.floats.deferred (f ∷ []) j)
            by_list (inr j) = inl (among-back n (float_lines w.state.floats.deferred) (float_lines w.state.floats.second) j)
    called places.Page c at h is m a = absurd c
    called places.Double c at h is m a = absurd c

  -- ---- the first of the current list

  fit-note : (depth : ℤ) (n : Margin) (left : FloatLists) (w : Work) (at : Placed) (m : SummaryView) → FitState p K (record w.state { floats = left }) m → FitState p K (note_goes p depth n left w at).state m
  fit-note depth n left w at m h = by_moved at.moved
    where
      by_moved : (t : Bool) → FitState p K (if t then sends (warned (warnings.Moved n.name at.shift)) (with_note_bottom at.bottom (with_floats left w)) else with_note_bottom at.bottom (with_floats left w)).state m
      by_moved true = by-sends (λ c. FitState p K c.state m) (warned (warnings.Moved n.name at.shift)) (with_note_bottom at.bottom (with_floats left w)) h h
      by_moved false = h

  -- the float or note that is served, if one is: of a float it is not called yet, and does not wait
  pub first-told : (Before : ℕ → Type 0) (vert : Bool) (height depth page_height : ℤ) (es : List Entry) (w : Work) → ((n : ℕ) → Before n → K n)
      → ((g : Float) (fs : List Entry) → es ≡ entries.Float g ∷ fs → ((n : ℕ) → Before n → n ≡ g.line → ⊥) × K g.line × (Waits w.state g.line → ⊥)) → (m : SummaryView) → FitState p Before w.state m
      → Tells (first_tales p height page_height es w.state) m (λ n. FitState p K (first_goes p vert height depth page_height es w).state n)
  first-told Before vert height depth page_height es w known called-new m a = by_first es called-new
    where
      now : FitState p K w.state m
      now =
          all-map (Fits (Waits w.state) (IsInArea w.state) (Waits w.state) Before m.sheets) (Fits (Waits w.state) (IsInArea w.state) (Waits w.state) K m.sheets)
          (λ s x. record { back = x.back; now = x.now; waiting = x.waiting; reason = x.reason; known = known s.float.line x.known }) m.stories a

      by_first : (es : List Entry) → ((g : Float) (fs : List Entry) → es ≡ entries.Float g ∷ fs → ((n : ℕ) → Before n → n ≡ g.line → ⊥) × K g.line × (Waits w.state g.line → ⊥))
          → Tells (first_tales p height page_height es w.state) m (λ n. FitState p K (first_goes p vert height depth page_height es w).state n)
      by_first (entries.Float f ∷ fs) h =
          let c = h f fs refl in
          let place = current_place p w.state.floats w.state.suppress page_height f in
          let x = called Before f fs w known c.0 c.1 c.2 place (current-call p w.state.floats w.state.suppress page_height f) (spot_of w.state) page_height (call_decides p w.state.floats w.state.suppress page_height f) m a in
          record { order = x.order; after = fit-goes vert place (current-call p w.state.floats w.state.suppress page_height f) f (record w.state.floats { current = fs }) w (after_tales (Calls (spot_of w.state) f page_height ∷ decisions f (told_call p w.state.floats w.state.suppress page_height f)) m) x.after }
      by_first (entries.Left n ∷ []) h = record { order = (tt, tt); after = fit-note depth n (record w.state.floats { current = [] }) w (placed_note p w.state.number w.state.two_columns w.state.first_column height w.state.note_bottom n) m now }
      by_first (entries.Left n ∷ e ∷ fs) h = record { order = (tt, tt); after = fit-note depth n (record w.state.floats { current = fs }) w (placed_note p w.state.number w.state.two_columns w.state.first_column height w.state.note_bottom n) m now }
      by_first (entries.Right n ∷ fs) h = record { order = tt; after = now }
      by_first [] h = record { order = tt; after = now }
