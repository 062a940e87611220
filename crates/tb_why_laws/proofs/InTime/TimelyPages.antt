-- In one column the floats of each page that is put out were placed since the sheet before it.
use Rattle.std.proofs.Common.{◌≡◌, refl, sym, ◌∙◌, ap, subst, inl, inr, ◌⊎◌, ℕ, zero, suc, ◌+◌, Bool, true, false, List, [], ◌∷◌, ◌++◌, length, append-nil, Option, Some, None, if◌then◌else◌}
use Rattle.std.specs.Prelude.{not, ◌||◌}
use Rattle.std.specs.List.{AllByRecursion}
use Rattle.tb_break.proofs.EachLemmas.{all-map}
use Rattle.tb_scaled.specs.Glue.{filling_glue}
use Rattle.tb_node.specs.declared.Float.{Float}
use Rattle.tb_node.specs.declared.Where.{Where}
use Rattle.tb_node.specs.declared.Where.TheVariants as places
use Rattle.tb_node.specs.PlainNodes.{PlainNode, made, skip}
use Rattle.tb_param.specs.declared.Params.{Params}
use Rattle.tb_float.specs.declared.Part.TheVariants as parts
use Rattle.tb_float.specs.Lists.{FloatLists}
use Rattle.tb_float.specs.Rooms.{column_height_of}
use Rattle.tb_area.specs.Area.{AreaPlace, at_top, at_bottom, deferred, where_of, next_area_place}
use Rattle.tb_fpage.specs.Company.{Choice, company, chosen_floats, left_floats}
use Rattle.tb_column.specs.Column.{PlainColumn, Notes, standing_notes, enlarged_of, single_floats_column}
use Rattle.tb_sheet.specs.Sheet.{PlainSheet, one}
use Rattle.tb_told.specs.declared.Piece.{Piece}
use Rattle.tb_told.specs.declared.Piece.TheVariants.{Says}
use Rattle.tb_told.specs.declared.Told.{Told}
use Rattle.tb_told.specs.declared.Tale.{Tale}
use Rattle.tb_told.specs.declared.Tale.TheVariants.{PutOut}
use Rattle.tb_told.specs.AreaTold.{told_next, place_told}
use Rattle.tb_told.specs.ColumnTold.{taken_floats}
use Rattle.tb_told.specs.Tales.{tales, decisions, column_tales, back_tales, here_lines, stands_tales}
use Rattle.tb_told.proofs.AreaLemmas.{next_decides}
use Rattle.tb_output.specs.State.{State, Work, Recorded, placed, output, puts, records_also, with_floats, footnotes, has_floats}
use Rattle.tb_output.specs.FloatMoves.{joined_to, still_deferred, place_waiting, place_next}
use Rattle.tb_output.specs.Pages.{ship, with_deferred, after_column, keep_left, ship_pair, put_out}
use Rattle.tb_output.specs.Columns.{text_of, without_column_floats, put_out_text, put_out_company, single_wanted, float_columns, float_columns_by, all_float_columns, fill_column, ordinary}
use Rattle.tb_output.specs.Clear.{clear_again, cleared_front, deferred_again, clear_wide, clear_rest, clear_floats, without_notes, clear_by}
use Rattle.tb_output.proofs.StepLaws.RefusedSteps.{by-records, by-ship, by-any-ship}
use Rattle.tb_output.proofs.StepLaws.FollowLemmas.{records-state}
use Rattle.tb_output.proofs.StepLaws.ColumnSteps.{no_law, put_out-step, stays}
use Rattle.tb_story.specs.Story.{StoryView, is_deferred}
use Rattle.tb_story.specs.Summary.{SummaryView, after_page}
use Rattle.tb_why.specs.Firing.{spot_of, unless_over, ship_pieces, pair_pieces, put_out_pieces_by, put_out_pieces, text_pieces, company_pieces, float_pieces_by, float_pieces, all_float_pieces, next_pieces, fill_pieces, start_pieces, clear_floats_pieces, ordinary_pieces, clear_wide_pieces, clear_columns_pieces, clear_pieces_by}
use Rattle.tb_why.specs.SummaryLaws.{HasFloat}
use Rattle.tb_laws.specs.Laws.{float_lines}
use Rattle.tb_laws.proofs.ClassesRise.RisingLists.{IsAmong}
use Rattle.tb_laws.proofs.Closed.SparedLists.{all_columns-spares}
use Rattle.tb_why_laws.proofs.InOrder.FitLemmas.{NoLine}
use Rattle.tb_why_laws.proofs.InOrder.PlacingLemmas.{either-list}
use Rattle.tb_why_laws.proofs.InTime.HereNodes.{FloatlessLeaves, AllHere, nodes-join}
use Rattle.tb_laws.proofs.StepLaws.StandingNotes.{standing-have}
use Rattle.tb_why_laws.proofs.InTime.HereWorks.{FloatlessNotes}
use Rattle.tb_why_laws.proofs.InTime.HereColumns.{text-has, floats-has}
use Rattle.tb_why_laws.proofs.InTime.DueStories.{IsDue, DueIn, AllDue, fewer-due, none-due, TellsTimely, decision-timely, company-timely, back-timely, timely-none, stands-timely}
use Rattle.tb_why_laws.proofs.InTime.TimelyShows.{IsPlacedFor, Punctual, Leaving, stopped, Times, times-then, times-none, times-behind, times-before, times-tales, times-output, times-page}

-- the line is of a float at the top or bottom of the column that is made
abbrev pub IsInColumn : FloatLists → ℕ → Type 0
IsInColumn l n = IsAmong n (float_lines l.top) ⊎ IsAmong n (float_lines l.bottom)

-- there is none
abbrev pub Bare : FloatLists → Type 0
Bare l = (l.top ≡ []) × (l.bottom ≡ [])

pub bare-lines : (l : FloatLists) → Bare l → (n : ℕ) → IsInColumn l n → NoLine n
bare-lines l b n (inl i) = subst (λ fs. IsAmong n (float_lines fs)) b.0 i
bare-lines l b n (inr i) = subst (λ fs. IsAmong n (float_lines fs)) b.1 i

-- fewer lines are asked of
pub fewer-punctual : (N M : ℕ → Type 0) → ((n : ℕ) → M n → N n) → (w : Work) (m : SummaryView) → Punctual N w m → Punctual M w m
fewer-punctual N M h w m x r = let y = x r in (y.0, fewer-due N M h m.sheets m.stories y.1)

module _ (p : Params) where
  -- ---- a column is put out

  ships-on : (sheet : PlainSheet) (w : Work) → (ship p sheet w).refused ≡ false → w.refused ≡ false → (ship p sheet w).state.number ≡ w.state.number + 1
  ships-on sheet w = by-ship (λ c. c.refused ≡ false → w.refused ≡ false → c.state.number ≡ w.state.number + 1) p sheet w (λ r q z. absurd (stopped w.refused r z)) (λ r q z. cc) (λ r e q z. refl)

  records-refuse : (r : Recorded) (w : Work) → (records_also r w).refused ≡ w.refused
  records-refuse r w = by-records (λ c. c.refused ≡ w.refused) r w refl refl

  records-send : (r : Recorded) (w : Work) → (records_also r w).sent ≡ w.sent
  records-send r w = by-records (λ c. c.sent ≡ w.sent) r w refl refl

  -- its page is sent, with floats that were placed since the sheet before
  leaving-timely : (N : ℕ → Type 0) (c : PlainColumn) → ((n : ℕ) (place : Where) → HasFloat n place c.nodes → N n) → (v : Work) (m : SummaryView) → Leaving N v m → Times v (ship p (one c) v) (ship_pieces p v) m (Punctual NoLine (ship p (one c) v))
  leaving-timely N c holds v m x =
      times-page p (one c) v m (Punctual NoLine (ship p (one c) v)) (λ r q. absurd (stopped (ship p (one c) v).refused r q))
      (λ r q e. let y = x r in (placed_for y.before (sym y.page) m.stories y.due, λ z. (ships-on (one c) v q r ∙ ap (λ n. n + 1) (y.page ∙ sym y.sheets), none-due NoLine (λ n i. i) m.sheets (after_page v.state.number (one c) m).stories)))
    where
      placed_for : (before : ℕ) → before + 1 ≡ v.state.number → (ss : List StoryView) → AllDue N before ss → AllByRecursion (IsPlacedFor v.state.number (one c)) ss
      placed_for before e ss a = all-map (IsDue N before) (IsPlacedFor v.state.number (one c)) (λ s d o place i. ap (λ n. n + 1) (d o (holds s.float.line place i)) ∙ e) ss a

  pub put-timely : (N : ℕ → Type 0) (c : PlainColumn) → ((n : ℕ) (place : Where) → HasFloat n place c.nodes → N n) → (w : Work) → w.state.two_columns ≡ false → (m : SummaryView) → Punctual N w m → Times w (put_out p c w) (put_out_pieces p c w) m (Punctual NoLine (put_out p c w))
  put-timely N c holds w two m h =
      times-then w w (put_out p c w) (unless_over w (Says PutOut ∷ [])) (put_out_pieces_by p c (records_also (output c) w)) m (Leaving N w) (Punctual NoLine (put_out p c w)) (times-output w m N h)
      (λ k x. times-behind w (records_also (output c) w) (put_out p c w) (put_out_pieces_by p c (records_also (output c) w)) k (Punctual NoLine (put_out p c w)) (records-send (output c) w)
      (by_two (records_also (output c) w) (records_also (output c) w).state.two_columns (ap (λ (s : State). s.two_columns) (records-state (output c) w) ∙ two) k (recorded k x)))
    where
      recorded : (k : SummaryView) → Leaving N w k → Leaving N (records_also (output c) w) k
      recorded k x r = let y = x (sym (records-refuse (output c) w) ∙ r) in record { before = y.before; sheets = y.sheets; page = ap (λ (s : State). s.number) (records-state (output c) w) ∙ y.page; due = y.due }

      by_two : (v : Work) (b : Bool) → b ≡ false → (k : SummaryView) → Leaving N v k
          → Times v (after_column (if not b then ship p (one c) v else (if v.state.first_column then keep_left c v else ship_pair p c v))) (if not b then ship_pieces p v else (if v.state.first_column then [] else pair_pieces p c v)) k
          (Punctual NoLine (after_column (if not b then ship p (one c) v else (if v.state.first_column then keep_left c v else ship_pair p c v))))
      by_two v true e k x = cc
      by_two v false e k x = times-before v (ship p (one c) v) (after_column (ship p (one c) v)) (ship_pieces p v) k (Punctual NoLine (ship p (one c) v)) (Punctual NoLine (after_column (ship p (one c) v))) refl (λ n y. y) (leaving-timely N c holds v k x)

  -- the lists of floats stay
  put-floats : (c : PlainColumn) (w : Work) → w.state.two_columns ≡ false → (put_out p c w).state.floats ≡ w.state.floats
  put-floats c w two = by_two (records_also (output c) w) (records_also (output c) w).state.two_columns (ap (λ (s : State). s.two_columns) (records-state (output c) w) ∙ two) ∙ ap (λ (s : State). s.floats) (records-state (output c) w)
    where
      by_two : (v : Work) (b : Bool) → b ≡ false → (after_column (if not b then ship p (one c) v else (if v.state.first_column then keep_left c v else ship_pair p c v))).state.floats ≡ v.state.floats
      by_two v true e = cc
      by_two v false e = by-any-ship (λ x. x.state.floats ≡ v.state.floats) p (one c) v refl refl refl

  pub put-two : (c : PlainColumn) (w : Work) → (put_out p c w).state.two_columns ≡ w.state.two_columns
  put-two c w = (stays (put_out-step p (no_law p) c w)).columns

  -- ---- text

  -- a text column is put out
  pub text-timely : (body : List PlainNode) → AllHere body → (w : Work) → FloatlessNotes (footnotes w.state) → w.state.two_columns ≡ false → (m : SummaryView) → Punctual (IsInColumn w.state.floats) w m → Times w (put_out_text p body w) (text_pieces p body w) m (Punctual NoLine (put_out_text p body w))
  text-timely body here w notes two m h =
      times-then w w (put_out_text p body w) (unless_over w (tales (stands_tales body))) (put_out_pieces p c (without_column_floats w)) m (Punctual M w) (Punctual NoLine (put_out_text p body w))
      (times-tales w (stands_tales body) m (IsInColumn w.state.floats) M h (λ r a. stands-timely (IsInColumn w.state.floats) M (here_lines body) (λ n i. i) m a))
      (λ k x. times-behind w (without_column_floats w) (put_out_text p body w) (put_out_pieces p c (without_column_floats w)) k (Punctual NoLine (put_out_text p body w)) refl (put-timely M c (λ n place i. other n (text-has n place p w.state.floats body (standing_notes (footnotes w.state)) (enlarged_of w.state.shrink (footnotes w.state)) here (standing-have (λ (c : Notes). FloatlessLeaves c.inner) (footnotes w.state) notes) i)) (without_column_floats w) two k x))
    where
      c : PlainColumn
      c = text_of p w.state body

      M : ℕ → Type 0
      M n = IsInColumn w.state.floats n ⊎ IsAmong n (here_lines body)

      other : (n : ℕ) → IsAmong n (here_lines body) ⊎ IsInColumn w.state.floats n → IsInColumn w.state.floats n ⊎ IsAmong n (here_lines body)
      other n (inl i) = inr i
      other n (inr i) = inl i

  pub text-bare : (body : List PlainNode) (w : Work) → w.state.two_columns ≡ false → Bare (put_out_text p body w).state.floats
  text-bare body w two = subst Bare (sym (put-floats (text_of p w.state body) (without_column_floats w) two)) (refl, refl)

  -- ---- columns of floats

  float-timely : (clearing : Bool) (n : ℕ) (w : Work) → w.state.two_columns ≡ false → (m : SummaryView) → Punctual NoLine w m → Times w (float_columns p clearing n w) (float_pieces p clearing n w) m (Punctual NoLine (float_columns p clearing n w))
  float-timely clearing zero w two m h = times-none w w m (Punctual NoLine w) refl h
  float-timely clearing (suc n) w two m h = by_company (λ v t k x. float-timely clearing n v t k x) (company (single_wanted p w.state.floats clearing) w.state.floats.deferred) refl
    where
      ts : List Tale
      ts = column_tales (spot_of w.state) (single_wanted p w.state.floats clearing) w.state.floats.deferred

      taken : (o : Option (List Choice)) → company (single_wanted p w.state.floats clearing) w.state.floats.deferred ≡ o → (k : ℕ) → IsAmong k (float_lines (taken_floats o)) → NoLine k ⊎ IsAmong k (float_lines (taken_floats (company (single_wanted p w.state.floats clearing) w.state.floats.deferred)))
      taken o e k i = inr (subst (λ x. IsAmong k (float_lines (taken_floats x))) (sym e) i)

      by_company : ((v : Work) → v.state.two_columns ≡ false → (k : SummaryView) → Punctual NoLine v k → Times v (float_columns p clearing n v) (float_pieces p clearing n v) k (Punctual NoLine (float_columns p clearing n v)))
          → (o : Option (List Choice)) → company (single_wanted p w.state.floats clearing) w.state.floats.deferred ≡ o
          → Times w (float_columns_by (λ v. float_columns p clearing n v) p w o) (unless_over w (tales (column_tales (spot_of w.state) (single_wanted p w.state.floats clearing) w.state.floats.deferred)) ++ float_pieces_by (λ v. float_pieces p clearing n v) p w o) m (Punctual NoLine (float_columns_by (λ v. float_columns p clearing n v) p w o))
      by_company again None e =
          times-then w w w (unless_over w (tales ts)) [] m (Punctual NoLine w) (Punctual NoLine w)
          (times-tales w ts m NoLine NoLine h (λ r a. company-timely NoLine NoLine (spot_of w.state) (single_wanted p w.state.floats clearing) w.state.floats.deferred (λ k i. inl i) m a)) (λ k x. times-none w w k (Punctual NoLine w) refl x)
      by_company again (Some cs) e =
          let c = single_floats_column p (column_height_of p w.state.floats) (chosen_floats cs) in
          let v = with_deferred (left_floats cs) w in
          let u = put_out_company p cs w in
          let M = λ (k : ℕ). IsAmong k (float_lines (chosen_floats cs)) in
          times-then w w (float_columns p clearing n u) (unless_over w (tales ts)) (company_pieces p cs w ++ float_pieces p clearing n u) m (Punctual M w) (Punctual NoLine (float_columns p clearing n u))
          (times-tales w ts m NoLine M h (λ r a. company-timely NoLine M (spot_of w.state) (single_wanted p w.state.floats clearing) w.state.floats.deferred (taken (Some cs) e) m a))
          (λ k x. times-then w u (float_columns p clearing n u) (company_pieces p cs w) (float_pieces p clearing n u) k (Punctual NoLine u) (Punctual NoLine (float_columns p clearing n u))
          (times-behind w v u (company_pieces p cs w) k (Punctual NoLine u) refl (put-timely M c (λ l place i. floats-has l place p (column_height_of p w.state.floats) (chosen_floats cs) i) v two k x))
          (λ l y. again u (put-two c v ∙ two) l y))

  pub columns-timely : (clearing : Bool) (w : Work) → w.state.two_columns ≡ false → (m : SummaryView) → Punctual NoLine w m → Times w (all_float_columns p clearing w) (all_float_pieces p clearing w) m (Punctual NoLine (all_float_columns p clearing w))
  columns-timely clearing w two m h = float-timely clearing (length w.state.floats.deferred) w two m h

  pub columns-two : (clearing : Bool) (w : Work) → w.state.two_columns ≡ false → (all_float_columns p clearing w).state.two_columns ≡ false
  columns-two clearing w two = (all_columns-spares p clearing w).columns ∙ two

  pub columns-bare : (clearing : Bool) (w : Work) → Bare w.state.floats → Bare (all_float_columns p clearing w).state.floats
  columns-bare clearing w b = let s = all_columns-spares p clearing w in (s.top ∙ b.0, s.bottom ∙ b.1)

  -- ---- the next column

  -- a float is tried, and goes to an area or stays
  module _ (f : Float) (before rest : List Float) (w : Work) (ts : List Told) (m : SummaryView) (h : Punctual (IsInColumn w.state.floats) w m) where
    -- the lists with the float in an area
    abbrev joined : Where → FloatLists
    joined place = joined_to place f (record w.state.floats { deferred = before ++ rest })

    abbrev moved : Where → Work
    moved place = with_floats (joined place) (records_also (placed p f place w.state.floats (column_height_of p w.state.floats)) w)

    area-timely : (place : Where) → ((n : ℕ) → IsInColumn (joined place) n → IsInColumn w.state.floats n ⊎ (n ≡ f.line)) → is_deferred place ≡ false → place_told ts ≡ place → Times w (moved place) (unless_over w (tales (decisions f ts))) m (Punctual (IsInColumn (joined place)) (moved place))
    area-timely place more area is =
        let r = placed p f place w.state.floats (column_height_of p w.state.floats) in
        times-before w w (moved place) (unless_over w (tales (decisions f ts))) m (Punctual (IsInColumn (joined place)) w) (Punctual (IsInColumn (joined place)) (moved place)) (records-send r w)
        (λ k x q. let y = x (sym (records-refuse r w) ∙ q) in (ap (λ (s : State). s.number) (records-state r w) ∙ y.0, y.1))
        (times-tales w (decisions f ts) m (IsInColumn w.state.floats) (IsInColumn (joined place)) h (λ q a. decision-timely (IsInColumn w.state.floats) (IsInColumn (joined place)) f ts (λ n i. by_more n (more n i)) m a))
      where
        by_more : (n : ℕ) → IsInColumn w.state.floats n ⊎ (n ≡ f.line) → IsInColumn w.state.floats n ⊎ ((n ≡ f.line) × (is_deferred (place_told ts) ≡ false))
        by_more n (inl i) = inl i
        by_more n (inr e) = inr (e, ap is_deferred is ∙ area)

    top-more : (n : ℕ) → IsInColumn (joined places.Top) n → IsInColumn w.state.floats n ⊎ (n ≡ f.line)
    top-more n (inr i) = inl (inr i)
    top-more n (inl i) = by_list (either-list n w.state.floats.top (f ∷ []) i)
      where
        by_list : IsAmong n (float_lines w.state.floats.top) ⊎ IsAmong n (f.line ∷ []) → IsInColumn w.state.floats n ⊎ (n ≡ f.line)
        by_list (inl j) = inl (inl j)
        by_list (inr (inl e)) = inr (sym e)
        by_list (inr (inr j)) = absurd j

    bottom-more : (n : ℕ) → IsInColumn (joined places.Bottom) n → IsInColumn w.state.floats n ⊎ (n ≡ f.line)
    bottom-more n (inl i) = inl (inl i)
    bottom-more n (inr i) = by_list (either-list n w.state.floats.bottom (f ∷ []) i)
      where
        by_list : IsAmong n (float_lines w.state.floats.bottom) ⊎ IsAmong n (f.line ∷ []) → IsInColumn w.state.floats n ⊎ (n ≡ f.line)
        by_list (inl j) = inl (inr j)
        by_list (inr (inl e)) = inr (sym e)
        by_list (inr (inr j)) = absurd j

    tried : (a : AreaPlace) → place_told ts ≡ where_of a
        → Times w (place_waiting parts.Deferred p (where_of a) f before rest w) (unless_over w (tales (decisions f ts))) m (Punctual (IsInColumn (place_waiting parts.Deferred p (where_of a) f before rest w).state.floats) (place_waiting parts.Deferred p (where_of a) f before rest w))
    tried at_top is = area-timely places.Top top-more refl is
    tried at_bottom is = area-timely places.Bottom bottom-more refl is
    tried deferred is = times-tales w (decisions f ts) m (IsInColumn w.state.floats) (IsInColumn w.state.floats) h (λ q a. decision-timely (IsInColumn w.state.floats) (IsInColumn w.state.floats) f ts (λ n i. inl i) m a)

  -- each float that waits is tried
  next-timely : (before fs : List Float) (w : Work) (m : SummaryView) → Punctual (IsInColumn w.state.floats) w m → Times w (place_next p before fs w) (next_pieces p before fs w) m (Punctual (IsInColumn (place_next p before fs w).state.floats) (place_next p before fs w))
  next-timely before [] w m h = times-none w w m (Punctual (IsInColumn w.state.floats) w) refl h
  next-timely before (f ∷ rest) w m h =
      let a = next_area_place p w.state.floats w.state.suppress before f in
      let ts = told_next p w.state.floats w.state.suppress before f in
      let v = place_waiting parts.Deferred p (where_of a) f before rest w in
      let u = place_next p (still_deferred (where_of a) f before) rest v in
      times-then w v u (unless_over w (tales (decisions f ts))) (next_pieces p (still_deferred (where_of a) f before) rest v) m (Punctual (IsInColumn v.state.floats) v) (Punctual (IsInColumn u.state.floats) u)
      (tried f before rest w ts m h a (next_decides p w.state.floats w.state.suppress before f)) (λ k x. next-timely (still_deferred (where_of a) f before) rest v k x)

  pub fill-timely : (w : Work) (m : SummaryView) → Punctual (IsInColumn w.state.floats) w m → Times w (fill_column p w) (fill_pieces p w) m (Punctual (IsInColumn (fill_column p w).state.floats) (fill_column p w))
  fill-timely w m h = next-timely [] w.state.floats.deferred w m h

  -- ---- an ordinary page

  pub ordinary-timely : (body : List PlainNode) → AllHere body → (w : Work) → FloatlessNotes (footnotes w.state) → w.state.two_columns ≡ false → (m : SummaryView) → Punctual (IsInColumn w.state.floats) w m → Times w (ordinary p body w) (ordinary_pieces p body w) m (Punctual (IsInColumn (ordinary p body w).state.floats) (ordinary p body w))
  ordinary-timely body here w notes two m h =
      let a = put_out_text p body w in
      let b = all_float_columns p false a in
      let a_two = put-two (text_of p w.state body) (without_column_floats w) ∙ two in
      let bare = columns-bare false a (text-bare body w two) in
      times-then w a (ordinary p body w) (text_pieces p body w) (start_pieces p a) m (Punctual NoLine a) (Punctual (IsInColumn (ordinary p body w).state.floats) (ordinary p body w)) (text-timely body here w notes two m h)
      (λ k x. times-then a b (ordinary p body w) (all_float_pieces p false a) (fill_pieces p b) k (Punctual NoLine b) (Punctual (IsInColumn (ordinary p body w).state.floats) (ordinary p body w)) (columns-timely false a a_two k x)
      (λ l y. fill-timely b l (fewer-punctual NoLine (IsInColumn b.state.floats) (bare-lines b.state.floats bare) b l y)))

  -- ---- a clear

  -- a further clear may go back
  rest-timely : (b : Work) → Bare b.state.floats → (m : SummaryView) → Punctual NoLine b m → Times b (clear_rest b) [] m (Punctual (IsInColumn (clear_rest b).state.floats) (clear_rest b))
  rest-timely b bare m h = by_floats (has_floats b.state.floats.deferred || has_floats b.state.floats.second)
    where
      by_floats : (t : Bool) → Times b (if t then puts clear_again b else b) [] m (Punctual (IsInColumn (if t then puts clear_again b else b).state.floats) (if t then puts clear_again b else b))
      by_floats true = times-none b (puts clear_again b) m (Punctual (IsInColumn b.state.floats) (puts clear_again b)) refl (fewer-punctual NoLine (IsInColumn b.state.floats) (bare-lines b.state.floats bare) b m h)
      by_floats false = times-none b b m (Punctual (IsInColumn b.state.floats) b) refl (fewer-punctual NoLine (IsInColumn b.state.floats) (bare-lines b.state.floats bare) b m h)

  -- no page of wide floats follows in one column
  wide-timely : (b : Work) → b.state.two_columns ≡ false → Bare b.state.floats → (m : SummaryView) → Punctual NoLine b m → Times b (clear_rest (clear_wide p b)) (clear_wide_pieces p b) m (Punctual (IsInColumn (clear_rest (clear_wide p b)).state.floats) (clear_rest (clear_wide p b)))
  wide-timely b two bare m h = by_two b.state.two_columns two _ _
    where
      by_two : (t : Bool) → t ≡ false → (c : Work) (ps : List Piece) → Times b (clear_rest (if not t then b else c)) (if not t then [] else ps) m (Punctual (IsInColumn (clear_rest (if not t then b else c)).state.floats) (clear_rest (if not t then b else c)))
      by_two true e c ps = cc
      by_two false e c ps = rest-timely b bare m h

  floats-timely : (body : List PlainNode) (w : Work) → w.state.two_columns ≡ false → (m : SummaryView) → Punctual (IsInColumn w.state.floats) w m → Times w (clear_floats p body w) (clear_floats_pieces p body w) m (Punctual (IsInColumn (clear_floats p body w).state.floats) (clear_floats p body w))
  floats-timely body w two m h =
      let l = w.state.floats in
      let a = with_floats (deferred_again l) (puts (cleared_front p body) w) in
      let b = all_float_columns p true a in
      let c = clear_rest (clear_wide p b) in
      let ts = back_tales places.Top l.top ++ back_tales places.Bottom l.bottom in
      times-then w w c (unless_over w (tales ts)) (clear_columns_pieces p a) m (Punctual NoLine w) (Punctual (IsInColumn c.state.floats) c)
      (times-tales w ts m (IsInColumn l) NoLine h (λ r x. taken_back l m (fewer-due (IsInColumn l) NoLine (λ n i. absurd i) m.sheets m.stories x)))
      (λ k x. times-behind w a c (clear_columns_pieces p a) k (Punctual (IsInColumn c.state.floats) c) refl
      (times-then a b c (all_float_pieces p true a) (clear_wide_pieces p b) k (Punctual NoLine b) (Punctual (IsInColumn c.state.floats) c) (columns-timely true a two k x) (λ n y. wide-timely b (columns-two true a two) (columns-bare true a (refl, refl)) n y)))
    where
      bottom_back : (l : FloatLists) (n : SummaryView) → DueIn NoLine n → TellsTimely (back_tales places.Bottom l.bottom) n NoLine
      bottom_back l n y = subst (λ us. TellsTimely us n NoLine) (append-nil (back_tales places.Bottom l.bottom)) (back-timely NoLine places.Bottom l.bottom [] n y (λ k e z. timely-none NoLine k z))

      taken_back : (l : FloatLists) (n : SummaryView) → DueIn NoLine n → TellsTimely (back_tales places.Top l.top ++ back_tales places.Bottom l.bottom) n NoLine
      taken_back l n y = back-timely NoLine places.Top l.top (back_tales places.Bottom l.bottom) n y (λ k e z. bottom_back l k z)

  pub clear-timely : (body : List PlainNode) → AllHere body → (w : Work) (o : List Notes) → FloatlessNotes (footnotes w.state) → w.state.two_columns ≡ false → (m : SummaryView) → Punctual (IsInColumn w.state.floats) w m
      → Times w (clear_by p body w o) (clear_pieces_by p body w o) m (Punctual (IsInColumn (clear_by p body w o).state.floats) (clear_by p body w o))
  clear-timely body here w [] notes two m h =
      let v = without_notes w in
      times-behind w v (clear_floats p body v) (clear_floats_pieces p body v) m (Punctual (IsInColumn (clear_floats p body v).state.floats) (clear_floats p body v)) refl (floats-timely body v two m h)
  clear-timely body here w (n ∷ ns) notes two m h =
      let text = body ++ made (skip filling_glue) ∷ [] in
      let u = put_out_text p text w in
      times-before w u (puts clear_again u) (text_pieces p text w) m (Punctual NoLine u) (Punctual (IsInColumn u.state.floats) (puts clear_again u)) refl
      (λ k x. fewer-punctual NoLine (IsInColumn u.state.floats) (bare-lines u.state.floats (text-bare text w two)) u k x) (text-timely text (nodes-join body (made (skip filling_glue) ∷ []) here (tt, tt)) w notes two m h)
