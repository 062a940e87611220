-- What is told of columns of floats, of an ordinary firing and of a clear is in order.
use Rattle.std.proofs.Common.{◌≡◌, refl, sym, subst, inl, inr, ◌⊎◌, ℕ, zero, suc, Bool, true, false, List, [], ◌∷◌, ◌++◌, length, Option, Some, None, if◌then◌else◌, append-nil}
use Rattle.std.specs.Prelude.{◌&&◌, ◌||◌, not}
use Rattle.tb_scaled.specs.Glue.{filling_glue}
use Rattle.tb_node.specs.declared.Float.{Float}
use Rattle.tb_node.specs.declared.Where.{Where}
use Rattle.tb_node.specs.declared.Where.TheVariants as places
use Rattle.tb_node.specs.PlainNodes.{PlainNode, skip, made, blank_box}
use Rattle.tb_param.specs.declared.Params.{Params}
use Rattle.tb_float.specs.declared.Part.{Part}
use Rattle.tb_float.specs.declared.Part.TheVariants as parts
use Rattle.tb_float.specs.Lists.{IsWaiting, with_floats_of, wide_part, wide_waiting, with_wide_waiting}
use Rattle.tb_float.proofs.WaitingLemmas.{wide-waits}
use Rattle.tb_float.specs.Rooms.{column_height_of}
use Rattle.tb_fpage.specs.Company.{Choice, company, chosen_floats, left_floats}
use Rattle.tb_column.specs.Column.{Notes, standing_notes, single_floats_column}
use Rattle.tb_sheet.specs.Sheet.{one, pair_sheet}
use Rattle.tb_told.specs.declared.Tale.TheVariants.{Back}
use Rattle.tb_told.specs.Tales.{tales, column_tales, back_tales}
use Rattle.tb_output.specs.State.{State, Work, output, puts, with_floats, footnotes, has_floats}
use Rattle.tb_output.specs.Pages.{with_deferred, left_or, without_double, all_wide_pages}
use Rattle.tb_output.specs.Columns.{put_out_text, put_out_company, single_wanted, float_columns, float_columns_by, all_float_columns, fill_column, ordinary}
use Rattle.tb_output.specs.Clear.{clear_again, cleared_front, deferred_again, double_again, clear_wide, clear_rest, clear_floats, without_notes, clear_by}
use Rattle.tb_output.proofs.StepLaws.RefusedSteps.{by-records, by-any-ship}
use Rattle.tb_output.proofs.StepLaws.Moves.{Hand, nothing, of_text, of_column, ColumnMove, takes_company, records_column, ships_column, keeps_left, ships_pair, ends_column, ships_wide, drops_notes, places_double, fills_text, keeps_front, gathers, gathers_wide, Moves, holds-on}
use Rattle.tb_output.proofs.StepLaws.FiringTree.{put_out-moves, put_out_text-moves, all_columns-moves}
use Rattle.tb_story.specs.Summary.{SummaryView, by_clear, after_tale}
use Rattle.tb_why.specs.Firing.{spot_of, unless_over, all_wide_pieces, text_pieces, company_pieces, float_pieces_by, float_pieces, all_float_pieces, fill_pieces, start_pieces, ordinary_pieces, clear_wide_pieces, clear_columns_pieces, clear_floats_pieces, clear_pieces_by}
use Rattle.tb_laws.specs.Laws.{float_lines}
use Rattle.tb_laws.proofs.ClassesRise.RisingLists.{IsAmong, among-front, among-back}
use Rattle.tb_why_laws.proofs.OnePlace.Once.{Once}
use Rattle.tb_why_laws.proofs.OnePlace.OnceMoves.{column-once, columns-once, page-once, pages-once}
use Rattle.tb_why_laws.proofs.OnePlace.OnceLists.{among-parts}
use Rattle.tb_why_laws.proofs.InOrder.FitLemmas.{AllFit, weaker, keeps-back, placed-current}
use Rattle.tb_why_laws.proofs.InOrder.DecisionLemmas.{Tells, tells-then, after_tales}
use Rattle.tb_why_laws.proofs.InOrder.ShowLemmas.{Shows, shows-then, shows-none, shows-behind, shows-before, shows-tales}
use Rattle.tb_why_laws.proofs.InOrder.PlacingLemmas.{either-list, in-first, in-second, others, waits-there, waits-so, waits-in, waits-of}
use Rattle.tb_why_laws.proofs.InOrder.StandLemmas.{Waits, IsInArea, FitState, Stand, stand-stopped, next-shown}
use Rattle.tb_why_laws.proofs.InOrder.PageTales.{Bare, Empty, none-told, some-told, same-part, empty-placed, wide-shown, put_out-shown, text-shown}

-- ---- no float comes to the top or bottom while columns of floats are put out

bare-moves : {p : Params} {h : Hand} {a : Work} {i : Hand} {b : Work} → ColumnMove p h a i b → Bare a.state.floats → Bare b.state.floats
bare-moves (takes_company clearing cs w e) k = k
bare-moves (records_column c w) k = by-records (λ e. Bare e.state.floats) (output c) w k k
bare-moves {p = p} (ships_column c w t) k = by-any-ship (λ e. Bare e.state.floats) p (one c) w k k k
bare-moves (keeps_left c w t f) k = k
bare-moves {p = p} (ships_pair c w t f) k = by-any-ship (λ e. Bare (without_double e).state.floats) p (pair_sheet p w.state.floats (left_or c w.state.left_column) c) w k k k
bare-moves (ends_column w) k = k
bare-moves {p = p} (ships_wide clearing cs w e) k =
    by-any-ship (λ e. Bare e.state.floats) p _ (with_floats (with_wide_waiting p (left_floats cs) w.state.floats) w) (same (wide_part p) (wide-waits p)) (same (wide_part p) (wide-waits p)) (same (wide_part p) (wide-waits p))
  where
    same : (from : Part) → IsWaiting from → Bare (with_floats_of from (left_floats cs) w.state.floats)
    same parts.Deferred q = k
    same parts.Second q = k
    same from q = absurd q
bare-moves {p = p} (places_double f before rest w two e i) k = same (wide_part p) (wide-waits p)
  where
    same : (from : Part) → IsWaiting from → Bare (Rattle.tb_output.specs.FloatMoves.joined_to places.Double f (with_floats_of from (before ++ rest) w.state.floats))
    same parts.Deferred q = k
    same parts.Second q = k
    same from q = absurd q

pub bare-after : {p : Params} {h i : Hand} {a b : Work} → Moves (ColumnMove p) h a i b → Bare a.state.floats → Bare b.state.floats
bare-after {p} x k = holds-on (λ h w. Bare w.state.floats) (λ h i a b m. bare-moves m) x k

module _ (p : Params) (K : ℕ → Type 0) where
  -- ---- columns of floats

  float-shown : (clearing : Bool) (n : ℕ) (w : Work) → Once nothing w → Bare w.state.floats → (m : SummaryView) → Stand p K w m → Shows w (float_columns p clearing n w) (float_pieces p clearing n w) m (Stand p K (float_columns p clearing n w))
  float-shown clearing zero w once b m h = shows-none w w m (Stand p K w) refl h
  float-shown clearing (suc n) w once b m h = by_company (λ v a b m h. float-shown clearing n v a b m h) (company (single_wanted p w.state.floats clearing) w.state.floats.deferred) refl
    where
      by_company : ((v : Work) → Once nothing v → Bare v.state.floats → (m : SummaryView) → Stand p K v m → Shows v (float_columns p clearing n v) (float_pieces p clearing n v) m (Stand p K (float_columns p clearing n v)))
          → (o : Option (List Choice)) → company (single_wanted p w.state.floats clearing) w.state.floats.deferred ≡ o
          → Shows w (float_columns_by (λ v. float_columns p clearing n v) p w o) (unless_over w (tales (column_tales (spot_of w.state) (single_wanted p w.state.floats clearing) w.state.floats.deferred)) ++ float_pieces_by (λ v. float_pieces p clearing n v) p w o) m (Stand p K (float_columns_by (λ v. float_columns p clearing n v) p w o))
      by_company again None i =
          shows-then w w w (unless_over w (tales (column_tales (spot_of w.state) (single_wanted p w.state.floats clearing) w.state.floats.deferred))) [] m (Stand p K w) (Stand p K w)
          (none-told p K parts.Deferred tt w (single_wanted p w.state.floats clearing) once i m h) (λ n x. shows-none w w n (Stand p K w) refl x)
      by_company again (Some cs) i =
          let c = single_floats_column p (column_height_of p w.state.floats) (chosen_floats cs) in
          let v = with_deferred (left_floats cs) w in
          let u = put_out_company p cs w in
          let taken : Once (of_column c) v = column-once {p = p} (takes_company clearing cs w i) once in
          shows-then w v (float_columns p clearing n u) (unless_over w (tales (column_tales (spot_of w.state) (single_wanted p w.state.floats clearing) w.state.floats.deferred))) (company_pieces p cs w ++ float_pieces p clearing n u) m (Stand p K v) (Stand p K (float_columns p clearing n u))
          (shows-before w w v (unless_over w (tales (column_tales (spot_of w.state) (single_wanted p w.state.floats clearing) w.state.floats.deferred))) m _ (Stand p K v) refl (λ n x. x)
          (some-told p K parts.Deferred tt w (single_wanted p w.state.floats clearing) once cs i m h))
          (λ a x. shows-then v u (float_columns p clearing n u) (company_pieces p cs w) (float_pieces p clearing n u) a (Stand p K u) (Stand p K (float_columns p clearing n u))
          (put_out-shown p K c v taken b a x)
          (λ e y. again u (columns-once (put_out-moves p c v) taken) (bare-after (put_out-moves p c v) b) e y))

  all_float-shown : (clearing : Bool) (w : Work) → Once nothing w → Bare w.state.floats → (m : SummaryView) → Stand p K w m → Shows w (all_float_columns p clearing w) (all_float_pieces p clearing w) m (Stand p K (all_float_columns p clearing w))
  all_float-shown clearing w once b m h = float-shown clearing (length w.state.floats.deferred) w once b m h

  -- ---- an ordinary firing

  text-bare : (body : List PlainNode) (w : Work) → Bare (put_out_text p body w).state.floats
  text-bare body w = bare-after (put_out-moves p _ (Rattle.tb_output.specs.Columns.without_column_floats w)) (refl, refl)

  pub ordinary-shown : (body : List PlainNode) (w : Work) → Once (of_text body) w → (m : SummaryView) → Stand p K w m → Shows w (ordinary p body w) (ordinary_pieces p body w) m (Stand p K (ordinary p body w))
  ordinary-shown body w once m h =
      let a = put_out_text p body w in
      let b = all_float_columns p false a in
      let after : Once nothing a = pages-once (put_out_text-moves p body w) once in
      shows-then w a (ordinary p body w) (text_pieces p body w) (start_pieces p a) m (Stand p K a) (Stand p K (ordinary p body w))
      (text-shown p K body w once m h)
      (λ n x. shows-then a b (fill_column p b) (all_float_pieces p false a) (fill_pieces p b) n (Stand p K b) (Stand p K (fill_column p b))
      (all_float-shown false a after (text-bare body w) n x)
      (λ k y. next-shown p K [] b.state.floats.deferred b (columns-once (all_columns-moves p false a) after) refl k y))

  -- ---- floats are taken back

  module _ (N D : ℕ → Type 0) where
    -- each of them was placed since the last sheet, and is one of those that wait from now on
    backs-tell : (place : Where) (gs : List Float) (B : ℕ → Type 0) → ((n : ℕ) → IsAmong n (float_lines gs) → N n × D n) → (m : SummaryView) → AllFit B N D K m.sheets m.stories
        → Tells (back_tales place gs) m (λ m. AllFit (λ n. B n ⊎ IsAmong n (float_lines gs)) N D K m.sheets m.stories)
    backs-tell place [] B at m a = record { order = tt; after = weaker K B N D (λ n. B n ⊎ ⊥) N D (λ n i. only n i) (λ n i. i) (λ n i. i) m.sheets m.stories a }
      where
        only : (n : ℕ) → B n ⊎ ⊥ → B n
        only n (inl i) = i
        only n (inr i) = absurd i
    backs-tell place (g ∷ gs) B at m a =
        let C : ℕ → Type 0 = (λ n. B n ⊎ (n ≡ g.line)) in
        let x = backs-tell place gs C (λ n i. at n (inr i)) (after_tale (Back g place) m) (keeps-back K B N D C g.line (by_clear g) (at g.line (inl refl)).1 (λ n i. i) m.sheets m.stories a) in
        let l = after_tales (back_tales place gs) (after_tale (Back g place) m) in
        record {
          order = ((placed-current K B N D g.line m.sheets (at g.line (inl refl)).0 m.stories a, tt), x.order);
          after = weaker K (λ n. C n ⊎ IsAmong n (float_lines gs)) N D (λ n. B n ⊎ IsAmong n (float_lines (g ∷ gs))) N D (λ n i. shift n i) (λ n i. i) (λ n i. i) l.sheets l.stories x.after;
        }
      where
        shift : (n : ℕ) → B n ⊎ IsAmong n (float_lines (g ∷ gs)) → (B n ⊎ (n ≡ g.line)) ⊎ IsAmong n (float_lines gs)
        shift n (inl i) = inl (inl i)
        shift n (inr (inl e)) = inl (inr (sym e))
        shift n (inr (inr i)) = inr i

  -- the floats of the areas are taken back
  areas-back : (w : Work) (m : SummaryView) → Stand p K w m → Shows w (with_floats (deferred_again w.state.floats) w) (unless_over w (tales (back_tales places.Top w.state.floats.top ++ back_tales places.Bottom w.state.floats.bottom))) m (Stand p K (with_floats (deferred_again w.state.floats) w))
  areas-back w m h =
      let l = w.state.floats in
      let a = with_floats (deferred_again w.state.floats) w in
      let ts = back_tales places.Top w.state.floats.top ++ back_tales places.Bottom w.state.floats.bottom in
      shows-before w w a (unless_over w (tales ts)) m (Stand p K a) (Stand p K a) refl (λ n x. x)
      (shows-tales w ts m (Stand p K a) (λ r. stand-stopped p K a m r) (λ r. let x = told (h r) in record { order = x.order; after = λ q. x.after }))
    where
      a : State
      a = (with_floats (deferred_again w.state.floats) w).state

      above : List ℕ
      above = if w.state.two_columns && w.state.first_column then float_lines w.state.floats.double else []

      -- what waited waits still
      more : (n : ℕ) → Waits w.state n → Waits a n
      more n i = by_list (among-parts n (float_lines w.state.floats.deferred) (float_lines w.state.floats.second) i)
        where
          by_list : IsAmong n (float_lines w.state.floats.deferred) ⊎ IsAmong n (float_lines w.state.floats.second) → Waits a n
          by_list (inl j) = among-front n (float_lines a.floats.deferred) (float_lines a.floats.second) (in-second n (w.state.floats.top ++ w.state.floats.bottom) w.state.floats.deferred j)
          by_list (inr j) = among-back n (float_lines a.floats.deferred) (float_lines a.floats.second) j

      areas : (n : ℕ) → IsAmong n (float_lines (w.state.floats.top ++ w.state.floats.bottom)) → Waits a n
      areas n i = among-front n (float_lines a.floats.deferred) (float_lines a.floats.second) (in-first n (w.state.floats.top ++ w.state.floats.bottom) w.state.floats.deferred i)

      of_top : (n : ℕ) → IsAmong n (float_lines w.state.floats.top) → IsInArea w.state n × Waits a n
      of_top n i = (among-front n (float_lines w.state.floats.top) (float_lines w.state.floats.bottom ++ above) i, areas n (in-first n w.state.floats.top w.state.floats.bottom i))

      of_bottom : (n : ℕ) → IsAmong n (float_lines w.state.floats.bottom) → IsInArea w.state n × Waits a n
      of_bottom n i =
          (among-back n (float_lines w.state.floats.top) (float_lines w.state.floats.bottom ++ above) (among-front n (float_lines w.state.floats.bottom) above i), areas n (in-second n w.state.floats.top w.state.floats.bottom i))

      -- each that waits now waited, or was in an area
      fewer : (n : ℕ) → Waits a n → (Waits w.state n ⊎ IsAmong n (float_lines w.state.floats.top)) ⊎ IsAmong n (float_lines w.state.floats.bottom)
      fewer n i = by_list (among-parts n (float_lines a.floats.deferred) (float_lines a.floats.second) i)
        where
          by_area : IsAmong n (float_lines w.state.floats.top) ⊎ IsAmong n (float_lines w.state.floats.bottom) → (Waits w.state n ⊎ IsAmong n (float_lines w.state.floats.top)) ⊎ IsAmong n (float_lines w.state.floats.bottom)
          by_area (inl j) = inl (inr j)
          by_area (inr j) = inr j

          by_front : IsAmong n (float_lines (w.state.floats.top ++ w.state.floats.bottom)) ⊎ IsAmong n (float_lines w.state.floats.deferred) → (Waits w.state n ⊎ IsAmong n (float_lines w.state.floats.top)) ⊎ IsAmong n (float_lines w.state.floats.bottom)
          by_front (inl j) = by_area (either-list n w.state.floats.top w.state.floats.bottom j)
          by_front (inr j) = inl (inl (among-front n (float_lines w.state.floats.deferred) (float_lines w.state.floats.second) j))

          by_list : IsAmong n (float_lines a.floats.deferred) ⊎ IsAmong n (float_lines a.floats.second) → (Waits w.state n ⊎ IsAmong n (float_lines w.state.floats.top)) ⊎ IsAmong n (float_lines w.state.floats.bottom)
          by_list (inl j) = by_front (either-list n (w.state.floats.top ++ w.state.floats.bottom) w.state.floats.deferred j)
          by_list (inr j) = inl (inl (among-back n (float_lines w.state.floats.deferred) (float_lines w.state.floats.second) j))

      in-area : (n : ℕ) → IsInArea a n → IsInArea w.state n
      in-area n i = among-back n (float_lines w.state.floats.top) (float_lines w.state.floats.bottom ++ above) (among-back n (float_lines w.state.floats.bottom) above i)

      told : FitState p K w.state m → Tells (back_tales places.Top w.state.floats.top ++ back_tales places.Bottom w.state.floats.bottom) m (FitState p K a)
      told f =
          let x = tells-then (back_tales places.Top w.state.floats.top) (back_tales places.Bottom w.state.floats.bottom) m (λ m. AllFit (λ n. Waits w.state n ⊎ IsAmong n (float_lines w.state.floats.top)) (IsInArea w.state) (Waits a) K m.sheets m.stories)
          (λ m. AllFit (λ n. (Waits w.state n ⊎ IsAmong n (float_lines w.state.floats.top)) ⊎ IsAmong n (float_lines w.state.floats.bottom)) (IsInArea w.state) (Waits a) K m.sheets m.stories)
          (backs-tell (IsInArea w.state) (Waits a) places.Top w.state.floats.top (Waits w.state) of_top m (weaker K (Waits w.state) (IsInArea w.state) (Waits w.state) (Waits w.state) (IsInArea w.state) (Waits a) (λ n i. i) (λ n i. i) more m.sheets m.stories f))
          (λ n y. backs-tell (IsInArea w.state) (Waits a) places.Bottom w.state.floats.bottom (λ n. Waits w.state n ⊎ IsAmong n (float_lines w.state.floats.top)) of_bottom n y) in
          let l = after_tales (back_tales places.Top w.state.floats.top ++ back_tales places.Bottom w.state.floats.bottom) m in
          record {
            order = x.order;
            after = weaker K (λ n. (Waits w.state n ⊎ IsAmong n (float_lines w.state.floats.top)) ⊎ IsAmong n (float_lines w.state.floats.bottom)) (IsInArea w.state) (Waits a) (Waits a) (IsInArea a) (Waits a) fewer in-area (λ n i. i) l.sheets l.stories x.after;
          }

  -- the floats above both columns are taken back
  module _ (w : Work) (two : w.state.two_columns ≡ true) (first : w.state.first_column ≡ true) (bare : Bare w.state.floats) where
    same-others : (from : Part) → IsWaiting from → others from (record w.state.floats { double = [] }) ≡ others from w.state.floats
    same-others parts.Deferred q = refl
    same-others parts.Second q = refl
    same-others from q = absurd q

    waits-again : (n : ℕ) → IsAmong n (float_lines (w.state.floats.double ++ wide_waiting p w.state.floats)) ⊎ IsAmong n (others (wide_part p) w.state.floats) → Waits (with_floats (double_again p w.state.floats) w).state n
    waits-again n (inl i) = waits-so (wide_part p) (wide-waits p) (w.state.floats.double ++ wide_waiting p w.state.floats) (record w.state.floats { double = [] }) n (inl i)
    waits-again n (inr i) = waits-so (wide_part p) (wide-waits p) (w.state.floats.double ++ wide_waiting p w.state.floats) (record w.state.floats { double = [] }) n (inr (subst (IsAmong n) (sym (same-others (wide_part p) (wide-waits p))) i))

    double-more : (n : ℕ) → Waits w.state n → Waits (with_floats (double_again p w.state.floats) w).state n
    double-more n i = by_list (waits-in (wide_part p) (wide-waits p) w.state.floats n i)
      where
        by_list : IsAmong n (float_lines (wide_waiting p w.state.floats)) ⊎ IsAmong n (others (wide_part p) w.state.floats) → Waits (with_floats (double_again p w.state.floats) w).state n
        by_list (inl j) = waits-again n (inl (in-second n w.state.floats.double (wide_waiting p w.state.floats) j))
        by_list (inr j) = waits-again n (inr j)

    of_double : (n : ℕ) → IsAmong n (float_lines w.state.floats.double) → IsInArea w.state n × Waits (with_floats (double_again p w.state.floats) w).state n
    of_double n i = (
      among-back n (float_lines w.state.floats.top) (float_lines w.state.floats.bottom ++ (if w.state.two_columns && w.state.first_column then float_lines w.state.floats.double else []))
          (among-back n (float_lines w.state.floats.bottom) (if w.state.two_columns && w.state.first_column then float_lines w.state.floats.double else []) (before-first w.state.two_columns w.state.first_column two first)),
      waits-again n (inl (in-first n w.state.floats.double (wide_waiting p w.state.floats) i)),
    )
      where
        before-first : (t f : Bool) → t ≡ true → f ≡ true → IsAmong n (if t && f then float_lines w.state.floats.double else [])
        before-first true true e d = i
        before-first true false e d = cc
        before-first false f e d = cc

    double-fewer : (n : ℕ) → Waits (with_floats (double_again p w.state.floats) w).state n → Waits w.state n ⊎ IsAmong n (float_lines w.state.floats.double)
    double-fewer n i = by_list (waits-there (wide_part p) (wide-waits p) (w.state.floats.double ++ wide_waiting p w.state.floats) (record w.state.floats { double = [] }) n i)
      where
        by_front : IsAmong n (float_lines w.state.floats.double) ⊎ IsAmong n (float_lines (wide_waiting p w.state.floats)) → Waits w.state n ⊎ IsAmong n (float_lines w.state.floats.double)
        by_front (inl j) = inr j
        by_front (inr j) = inl (waits-of (wide_part p) (wide-waits p) w.state.floats n (inl j))

        by_list : IsAmong n (float_lines (w.state.floats.double ++ wide_waiting p w.state.floats)) ⊎ IsAmong n (others (wide_part p) (record w.state.floats { double = [] })) → Waits w.state n ⊎ IsAmong n (float_lines w.state.floats.double)
        by_list (inl j) = by_front (either-list n w.state.floats.double (wide_waiting p w.state.floats) j)
        by_list (inr j) = inl (waits-of (wide_part p) (wide-waits p) w.state.floats n (inr (subst (IsAmong n) (same-others (wide_part p) (wide-waits p)) j)))

    again-empty : Empty (with_floats (double_again p w.state.floats) w).state.floats
    again-empty = same-part p K (wide_part p) (wide-waits p) (w.state.floats.double ++ wide_waiting p w.state.floats) (record w.state.floats { double = [] }) (bare.0, bare.1, refl)

    none-now : (n : ℕ) → IsInArea (with_floats (double_again p w.state.floats) w).state n → IsInArea w.state n
    none-now n i =
        absurd (subst (IsAmong n) (empty-placed p K (wide_part p) (wide-waits p) (w.state.floats.double ++ wide_waiting p w.state.floats) (record w.state { floats = record w.state.floats { double = [] } }) (bare.0, bare.1, refl)) i)

    double-back : (m : SummaryView) → Stand p K w m → Shows w (with_floats (double_again p w.state.floats) w) (unless_over w (tales (back_tales places.Double w.state.floats.double))) m (Stand p K (with_floats (double_again p w.state.floats) w))
    double-back m h =
        let a = with_floats (double_again p w.state.floats) w in
        let ts = back_tales places.Double w.state.floats.double in
        shows-before w w a (unless_over w (tales ts)) m (Stand p K a) (Stand p K a) refl (λ n x. x)
        (shows-tales w ts m (Stand p K a) (λ r. stand-stopped p K a m r) (λ r. let x = told (h r) in record { order = x.order; after = λ q. x.after }))
      where
        told : FitState p K w.state m → Tells (back_tales places.Double w.state.floats.double) m (FitState p K (with_floats (double_again p w.state.floats) w).state)
        told f =
            let a = (with_floats (double_again p w.state.floats) w).state in
            let x = backs-tell (IsInArea w.state) (Waits a) places.Double w.state.floats.double (Waits w.state) of_double m (weaker K (Waits w.state) (IsInArea w.state) (Waits w.state) (Waits w.state) (IsInArea w.state) (Waits a) (λ n i. i) (λ n i. i) double-more m.sheets m.stories f) in
            let l = after_tales (back_tales places.Double w.state.floats.double) m in
            record {
              order = x.order;
              after = weaker K (λ n. Waits w.state n ⊎ IsAmong n (float_lines w.state.floats.double)) (IsInArea w.state) (Waits a) (Waits a) (IsInArea a) (Waits a) double-fewer none-now (λ n i. i) l.sheets l.stories x.after;
            }

  -- ---- a clear

  clear_wide-shown : (w : Work) → Once nothing w → Bare w.state.floats → (m : SummaryView) → Stand p K w m → Shows w (clear_wide p w) (clear_wide_pieces p w) m (Stand p K (clear_wide p w))
  clear_wide-shown w once b m h = by_columns w.state.two_columns w.state.first_column refl refl
    where
      by_columns : (two first : Bool) → w.state.two_columns ≡ two → w.state.first_column ≡ first
          → Shows w (if not two then w else (if first then all_wide_pages p true (with_floats (double_again p w.state.floats) w) else puts (made blank_box ∷ clear_again) w))
          (if not two then [] else (if first then unless_over w (tales (back_tales places.Double w.state.floats.double)) ++ all_wide_pieces p true (with_floats (double_again p w.state.floats) w) else [])) m
          (Stand p K (if not two then w else (if first then all_wide_pages p true (with_floats (double_again p w.state.floats) w) else puts (made blank_box ∷ clear_again) w)))
      by_columns false first t f = shows-none w w m (Stand p K w) refl h
      by_columns true false t f = shows-none w (puts (made blank_box ∷ clear_again) w) m (Stand p K (puts (made blank_box ∷ clear_again) w)) refl h
      by_columns true true t f =
          let a = with_floats (double_again p w.state.floats) w in
          shows-then w a (all_wide_pages p true a) (unless_over w (tales (back_tales places.Double w.state.floats.double))) (all_wide_pieces p true a) m (Stand p K a) (Stand p K (all_wide_pages p true a))
          (double-back w t f b m h)
          (λ n x. wide-shown p K true (length (wide_waiting p a.state.floats)) a (page-once {p = p} (gathers_wide w t f) once) (again-empty w t f b) n x)

  rest-shown : (w : Work) (m : SummaryView) → Stand p K w m → Shows w (clear_rest w) [] m (Stand p K (clear_rest w))
  rest-shown w m h = by_floats (has_floats w.state.floats.deferred || has_floats w.state.floats.second)
    where
      by_floats : (t : Bool) → Shows w (if t then puts clear_again w else w) [] m (Stand p K (if t then puts clear_again w else w))
      by_floats true = shows-none w (puts clear_again w) m (Stand p K (puts clear_again w)) refl h
      by_floats false = shows-none w w m (Stand p K w) refl h

  clear_floats-shown : (body : List PlainNode) (w : Work) → Once (of_text body) w → (m : SummaryView) → Stand p K w m → Shows w (clear_floats p body w) (clear_floats_pieces p body w) m (Stand p K (clear_floats p body w))
  clear_floats-shown body w once m h =
      let z = puts (cleared_front p body) w in
      let a = with_floats (deferred_again w.state.floats) z in
      let b = all_float_columns p true a in
      let c = clear_wide p b in
      let front : Once nothing z = page-once {p = p} (keeps_front body w) once in
      let all : Once nothing a = page-once {p = p} (gathers z) front in
      let ts = back_tales places.Top w.state.floats.top ++ back_tales places.Bottom w.state.floats.bottom in
      shows-then w a (clear_rest c) (unless_over w (tales ts)) (clear_columns_pieces p a) m (Stand p K a) (Stand p K (clear_rest c))
      (shows-behind w z a (unless_over w (tales ts)) m (Stand p K a) refl (areas-back z m h))
      (λ n x. shows-then a b (clear_rest c) (all_float_pieces p true a) (clear_wide_pieces p b) n (Stand p K b) (Stand p K (clear_rest c))
      (all_float-shown true a all (refl, refl) n x)
      (λ k y. subst (λ ps. Shows b (clear_rest c) ps k (Stand p K (clear_rest c))) (append-nil (clear_wide_pieces p b))
      (shows-then b c (clear_rest c) (clear_wide_pieces p b) [] k (Stand p K c) (Stand p K (clear_rest c))
      (clear_wide-shown b (columns-once (all_columns-moves p true a) all) (bare-after (all_columns-moves p true a) (refl, refl)) k y)
      (λ o v. rest-shown c o v))))

  pub clear-shown : (body : List PlainNode) (w : Work) (notes : List Notes) → standing_notes (footnotes w.state) ≡ notes → Once (of_text body) w → (m : SummaryView) → Stand p K w m → Shows w (clear_by p body w notes) (clear_pieces_by p body w notes) m (Stand p K (clear_by p body w notes))
  clear-shown body w [] e once m h =
      let v = without_notes w in
      shows-behind w v (clear_floats p body v) (clear_floats_pieces p body v) m (Stand p K (clear_floats p body v)) refl (clear_floats-shown body v (page-once {p = p} (drops_notes body w e) once) m h)
  clear-shown body w (n ∷ ns) e once m h =
      let text = body ++ made (skip filling_glue) ∷ [] in
      let b = put_out_text p text w in
      shows-before w b (puts clear_again b) (text_pieces p text w) m (Stand p K b) (Stand p K (puts clear_again b)) refl (λ n x. x) (text-shown p K text w (page-once {p = p} (fills_text body w) once) m h)
