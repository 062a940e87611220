-- What is told of pages and columns that are put out is in order.
use Rattle.std.proofs.Common.{◌≡◌, refl, sym, ◌∙◌, ap, subst, inl, inr, ◌⊎◌, ℕ, zero, suc, Bool, true, false, List, [], ◌∷◌, ◌++◌, map, length, Option, Some, None, if◌then◌else◌}
use Rattle.std.specs.Prelude.{◌&&◌, not}
use Rattle.std.specs.List.{AllByRecursion}
use Rattle.tb_break.proofs.EachLemmas.{all-map}
use Rattle.tb_node.specs.declared.Float.{Float}
use Rattle.tb_node.specs.declared.Where.{Where}
use Rattle.tb_node.specs.PlainNodes.{PlainNode}
use Rattle.tb_param.specs.declared.Params.{Params}
use Rattle.tb_float.specs.declared.Part.{Part}
use Rattle.tb_float.specs.declared.Part.TheVariants as parts
use Rattle.tb_float.specs.Lists.{FloatLists, IsWaiting, floats_of, with_floats_of, wide_part, wide_waiting, with_wide_waiting}
use Rattle.tb_float.proofs.WaitingLemmas.{wide-waits}
use Rattle.tb_fpage.specs.declared.Wanted.{Wanted}
use Rattle.tb_fpage.specs.Company.{Choice, company, chosen_floats, left_floats}
use Rattle.tb_column.specs.Column.{PlainColumn, wide_floats_column}
use Rattle.tb_sheet.specs.Sheet.{PlainSheet, shipped, one, wide, pair_sheet}
use Rattle.tb_told.specs.declared.Piece.TheVariants.{Says}
use Rattle.tb_told.specs.declared.Tale.TheVariants.{PutOut, Stands}
use Rattle.tb_told.specs.ColumnTold.{taken_floats}
use Rattle.tb_told.specs.Tales.{tales, column_tales, here_lines, stands_tales}
use Rattle.tb_output.specs.State.{State, Work, output, records_also, with_floats}
use Rattle.tb_output.specs.Pages.{ship, wide_wanted, ship_wide, wide_pages, wide_pages_by, all_wide_pages, keep_left, left_or, without_double, fill_double, ship_pair, put_out_by, put_out}
use Rattle.tb_output.specs.Columns.{text_of, without_column_floats, put_out_text}
use Rattle.tb_output.proofs.StepLaws.RefusedSteps.{by-records, by-any-ship}
use Rattle.tb_output.proofs.StepLaws.Moves.{nothing, of_text, of_column, ships_column, ships_pair, ships_wide, records_column, takes_text}
use Rattle.tb_output.proofs.StepLaws.FiringTree.{all_wide-moves, two-kept}
use Rattle.tb_story.specs.Summary.{SummaryView, after_tale, after_page}
use Rattle.tb_why.specs.Firing.{spot_of, unless_over, ship_pieces, wide_pieces_by, wide_pieces, all_wide_pieces, fill_double_pieces, after_pair, pair_pieces, put_out_pieces_by, put_out_pieces, text_pieces}
use Rattle.tb_why.specs.SummaryLaws.{HoldsFloat}
use Rattle.tb_laws.specs.Laws.{float_lines}
use Rattle.tb_laws.proofs.ClassesRise.RisingLists.{IsAmong, among-back}
use Rattle.tb_why_laws.proofs.OnePlace.WaitingLines.{waiting_lines}
use Rattle.tb_why_laws.proofs.OnePlace.Once.{Once}
use Rattle.tb_why_laws.proofs.OnePlace.OnceMoves.{column-once, columns-once, page-once}
use Rattle.tb_why_laws.proofs.OnePlace.OnceLists.{stands-apart, sent-apart, company-apart, company-parts}
use Rattle.tb_why_laws.proofs.InOrder.FitLemmas.{AllFit, NoLine, true-not-false, weaker, are-placed, are-not-on, have-reasons, puts-out, stands, lands}
use Rattle.tb_why_laws.proofs.InOrder.DecisionLemmas.{Tells}
use Rattle.tb_why_laws.proofs.InOrder.ColumnTales.{TakesOut, column-told}
use Rattle.tb_why_laws.proofs.InOrder.ShowLemmas.{Shows, shows-then, shows-none, shows-behind, shows-before, shows-tales, shows-page}
use Rattle.tb_why_laws.proofs.InOrder.PlacingLemmas.{area_lines, all-lines, others, waits-there, waits-so, waits-in, waits-of}
use Rattle.tb_why_laws.proofs.InOrder.StandLemmas.{Waits, IsInArea, FitState, Stand, stand-stopped, stand-shipped, records-send, double-shown}

-- no float is at the top or bottom
abbrev pub Bare : FloatLists → Type 0
Bare l = (l.top ≡ []) × (l.bottom ≡ [])

-- nor above both columns
abbrev pub Empty : FloatLists → Type 0
Empty l = (l.top ≡ []) × (l.bottom ≡ []) × (l.double ≡ [])

none-double : (b : Bool) (fs : List Float) → fs ≡ [] → (if b then float_lines fs else []) ≡ []
none-double true fs e = ap float_lines e
none-double false fs e = refl

-- then no line is in the areas
none-placed : (s : State) → Bare s.floats → (if s.two_columns && s.first_column then float_lines s.floats.double else []) ≡ [] → area_lines s ≡ []
none-placed s b d i = float_lines (b.0 i) ++ (float_lines (b.1 i) ++ d i)

-- the floats of a list in which floats wait
all-wait : (from : Part) → IsWaiting from → (s : State) → AllByRecursion (λ (f : Float). Waits s f.line) (floats_of from s.floats)
all-wait from q s =
    all-map (λ (f : Float). IsAmong f.line (float_lines (floats_of from s.floats))) (λ (f : Float). Waits s f.line) (λ f i. waits-of from q s.floats f.line (inl i)) (floats_of from s.floats) (all-lines (floats_of from s.floats))

module _ (p : Params) (K : ℕ → Type 0) where
  -- the stories fit a state just behind a column that was put out
  abbrev FitPut : State → SummaryView → Type 0
  FitPut s m = AllFit (Waits s) NoLine (Waits s) K m.sheets m.stories

  -- then they fit the state, if nothing is in its areas
  fit-put : (s : State) (m : SummaryView) → area_lines s ≡ [] → FitPut s m → FitState p K s m
  fit-put s m e a = weaker K (Waits s) NoLine (Waits s) (Waits s) (IsInArea s) (Waits s) (λ n i. i) (λ n i. subst (IsAmong n) e i) (λ n i. i) m.sheets m.stories a

  -- a column is put out
  output-by : (V N : ℕ → Type 0) (w : Work) (m : SummaryView) → (w.refused ≡ false → AllFit V N V K m.sheets m.stories) → Shows w w (unless_over w (Says PutOut ∷ [])) m (λ n. w.refused ≡ false → AllFit V NoLine V K n.sheets n.stories)
  output-by V N w m h =
      shows-tales w (PutOut ∷ []) m (λ n. w.refused ≡ false → AllFit V NoLine V K n.sheets n.stories) (λ r q. absurd (true-not-false w.refused r q))
      (λ r. record { order = (have-reasons K V N V m.sheets m.stories (h r), tt); after = λ q. puts-out K V N V m.sheets m.stories (h r) })

  ship-floats : (sheet : PlainSheet) (w : Work) → (ship p sheet w).state.floats ≡ w.state.floats
  ship-floats sheet w = by-any-ship (λ c. c.state.floats ≡ w.state.floats) p sheet w refl refl refl

  -- a page is sent on which no float is that waits: the lists are as they were when it was made
  page-shown : (sheet : PlainSheet) (w : Work) (m : SummaryView) (P : SummaryView → Type 0) → ((ship p sheet w).refused ≡ true → P m) → (w.refused ≡ false → FitPut w.state m)
      → (w.refused ≡ false → (ship p sheet w).refused ≡ false → (ship p sheet w).sent ≡ w.sent ++ shipped w.state.number sheet ∷ [] → (line : ℕ) (place : Where) → HoldsFloat line place sheet → Waits w.state line → ⊥)
      → ((n : SummaryView) → FitPut w.state n → P n) → Shows w (ship p sheet w) (ship_pieces p w) m P
  page-shown sheet w m P stop fit apart after =
      shows-page p sheet w m P stop
      (λ r q e. (are-not-on K (Waits w.state) NoLine (Waits w.state) (λ line place. HoldsFloat line place sheet) m.sheets (apart r q e) m.stories (fit r), after (after_page w.state.number sheet m) (lands K (Waits w.state) NoLine (Waits w.state) w.state.number sheet m.sheets m.stories (fit r))))

  -- ---- companies

  module _ (from : Part) (q : IsWaiting from) (w : Work) (z : Wanted) (once : Once nothing w) where
    -- what waits once a company has left the list
    abbrev Left : List Choice → ℕ → Type 0
    Left cs n = IsAmong n (waiting_lines (with_floats_of from (left_floats cs) w.state.floats))

    takes-out : (cs : List Choice) → w.refused ≡ false → company z (floats_of from w.state.floats) ≡ Some cs → TakesOut K (IsInArea w.state) (Waits w.state) (chosen_floats cs) (Left cs)
    takes-out cs r e = record {
      fewer = λ n i. fewer n (waits-there from q (left_floats cs) w.state.floats n i);
      most = λ n i. most n (waits-in from q w.state.floats n i);
      taken = λ n i. waits-of from q w.state.floats n (inl ((company-parts z (floats_of from w.state.floats) cs e n).1 i));
      apart = λ n i j. company-apart nothing w once r from q z cs e n i j;
    }
      where
        fewer : (n : ℕ) → IsAmong n (float_lines (left_floats cs)) ⊎ IsAmong n (others from w.state.floats) → Waits w.state n
        fewer n (inl i) = waits-of from q w.state.floats n (inl ((company-parts z (floats_of from w.state.floats) cs e n).2 i))
        fewer n (inr i) = waits-of from q w.state.floats n (inr i)

        by_choice : (n : ℕ) → IsAmong n (float_lines (chosen_floats cs)) ⊎ IsAmong n (float_lines (left_floats cs)) → Left cs n ⊎ IsAmong n (float_lines (chosen_floats cs))
        by_choice n (inl i) = inr i
        by_choice n (inr i) = inl (waits-so from q (left_floats cs) w.state.floats n (inl i))

        most : (n : ℕ) → IsAmong n (float_lines (floats_of from w.state.floats)) ⊎ IsAmong n (others from w.state.floats) → Left cs n ⊎ IsAmong n (float_lines (chosen_floats cs))
        most n (inl i) = by_choice n ((company-parts z (floats_of from w.state.floats) cs e n).0 i)
        most n (inr i) = inl (waits-so from q (left_floats cs) w.state.floats n (inr i))

    -- a column is looked for, and there is none
    pub none-told : company z (floats_of from w.state.floats) ≡ None → (m : SummaryView) → Stand p K w m → Shows w w (unless_over w (tales (column_tales (spot_of w.state) z (floats_of from w.state.floats)))) m (Stand p K w)
    none-told e m h =
        let fs = floats_of from w.state.floats in
        shows-tales w (column_tales (spot_of w.state) z fs) m (Stand p K w) (λ r. stand-stopped p K w m r)
        (λ r. let x = column-told K (IsInArea w.state) (Waits w.state) (spot_of w.state) z fs (Waits w.state) (all-wait from q w.state) (subst (λ o. TakesOut K (IsInArea w.state) (Waits w.state) (taken_floats o) (Waits w.state)) (sym e) (record { fewer = λ n i. i; most = λ n i. inl i; taken = λ n i. absurd i; apart = λ n i. absurd i })) m (h r) in
        record { order = x.order; after = λ q. x.after })

    -- a column is looked for, and there is one
    pub some-told : (cs : List Choice) → company z (floats_of from w.state.floats) ≡ Some cs → (m : SummaryView) → Stand p K w m
        → Shows w w (unless_over w (tales (column_tales (spot_of w.state) z (floats_of from w.state.floats)))) m (λ m. w.refused ≡ false → AllFit (Left cs) (IsInArea w.state) (Left cs) K m.sheets m.stories)
    some-told cs e m h =
        let fs = floats_of from w.state.floats in
        shows-tales w (column_tales (spot_of w.state) z fs) m (λ m. w.refused ≡ false → AllFit (Left cs) (IsInArea w.state) (Left cs) K m.sheets m.stories) (λ r k. absurd (true-not-false w.refused r k))
        (λ r. let x = column-told K (IsInArea w.state) (Waits w.state) (spot_of w.state) z fs (Left cs) (all-wait from q w.state) (subst (λ o. TakesOut K (IsInArea w.state) (Waits w.state) (taken_floats o) (Left cs)) (sym e) (takes-out cs r e)) m (h r) in
        record { order = x.order; after = λ k. x.after })

  -- ---- pages of wide floats

  pub same-part : (from : Part) → IsWaiting from → (gs : List Float) (l : FloatLists) → Empty l → Empty (with_floats_of from gs l)
  same-part parts.Deferred q gs l e = e
  same-part parts.Second q gs l e = e
  same-part from q gs l e = absurd q

  wide-empty : (cs : List Choice) (w : Work) → Empty w.state.floats → Empty (ship_wide p cs w).state.floats
  wide-empty cs w e =
      let v = with_floats (with_wide_waiting p (left_floats cs) w.state.floats) w in
      let k = same-part (wide_part p) (wide-waits p) (left_floats cs) w.state.floats e in
      by-any-ship (λ c. Empty c.state.floats) p (wide (wide_floats_column p p.textheight (chosen_floats cs))) v k k k

  -- with nothing in the areas nothing is in them, whatever waits
  pub empty-placed : (from : Part) → IsWaiting from → (gs : List Float) (s : State) → Empty s.floats → area_lines (record s { floats = with_floats_of from gs s.floats }) ≡ []
  empty-placed parts.Deferred q gs s e = none-placed s (e.0, e.1) (none-double (s.two_columns && s.first_column) s.floats.double e.2)
  empty-placed parts.Second q gs s e = none-placed s (e.0, e.1) (none-double (s.two_columns && s.first_column) s.floats.double e.2)
  empty-placed from q gs s e = absurd q

  pub wide-shown : (clearing : Bool) (n : ℕ) (w : Work) → Once nothing w → Empty w.state.floats → (m : SummaryView) → Stand p K w m → Shows w (wide_pages p clearing n w) (wide_pieces p clearing n w) m (Stand p K (wide_pages p clearing n w))
  wide-shown clearing zero w once e m h = shows-none w w m (Stand p K w) refl h
  wide-shown clearing (suc n) w once e m h = by_company (λ v a b m h. wide-shown clearing n v a b m h) (company z (wide_waiting p w.state.floats)) refl
    where
      z : Wanted
      z = wide_wanted p clearing

      by_company : ((v : Work) → Once nothing v → Empty v.state.floats → (m : SummaryView) → Stand p K v m → Shows v (wide_pages p clearing n v) (wide_pieces p clearing n v) m (Stand p K (wide_pages p clearing n v)))
          → (o : Option (List Choice)) → company (wide_wanted p clearing) (wide_waiting p w.state.floats) ≡ o
          → Shows w (wide_pages_by (λ v. wide_pages p clearing n v) p w o) (unless_over w (tales (column_tales (spot_of w.state) (wide_wanted p clearing) (wide_waiting p w.state.floats))) ++ wide_pieces_by (λ v. wide_pieces p clearing n v) p w o) m (Stand p K (wide_pages_by (λ v. wide_pages p clearing n v) p w o))
      by_company again None i =
          shows-then w w w (unless_over w (tales (column_tales (spot_of w.state) (wide_wanted p clearing) (wide_waiting p w.state.floats)))) [] m (Stand p K w) (Stand p K w)
          (none-told (wide_part p) (wide-waits p) w (wide_wanted p clearing) once i m h) (λ n x. shows-none w w n (Stand p K w) refl x)
      by_company again (Some cs) i =
          let v = with_floats (with_wide_waiting p (left_floats cs) w.state.floats) w in
          let sheet = wide (wide_floats_column p p.textheight (chosen_floats cs)) in
          let u = ship_wide p cs w in
          let V = Left (wide_part p) (wide-waits p) w (wide_wanted p clearing) once cs in
          let sent : Once nothing u = column-once {p = p} (ships_wide clearing cs w i) once in
          shows-then w w (wide_pages p clearing n u) (unless_over w (tales (column_tales (spot_of w.state) (wide_wanted p clearing) (wide_waiting p w.state.floats)))) (unless_over w (Says PutOut ∷ []) ++ (ship_pieces p w ++ wide_pieces p clearing n u)) m
          (λ m. w.refused ≡ false → AllFit V (IsInArea w.state) V K m.sheets m.stories) (Stand p K (wide_pages p clearing n u))
          (some-told (wide_part p) (wide-waits p) w (wide_wanted p clearing) once cs i m h)
          (λ a x. shows-then w w (wide_pages p clearing n u) (unless_over w (Says PutOut ∷ [])) (ship_pieces p w ++ wide_pieces p clearing n u) a (λ m. w.refused ≡ false → AllFit V NoLine V K m.sheets m.stories) (Stand p K (wide_pages p clearing n u))
          (output-by V (IsInArea w.state) w a x)
          (λ b y. shows-then w u (wide_pages p clearing n u) (ship_pieces p w) (wide_pieces p clearing n u) b (Stand p K u) (Stand p K (wide_pages p clearing n u))
          (shows-behind w v u (ship_pieces p w) b (Stand p K u) refl
          (page-shown sheet v b (Stand p K u) (λ r. stand-stopped p K u b r) y
          (λ r q e line place f g. sent-apart nothing u sent q w.sent w.state.number sheet e line place f (subst (λ l. IsAmong line (waiting_lines l)) (sym (ship-floats sheet v)) g))
          (λ c z. stand-shipped p K sheet v c (λ r. fit-put v.state c (empty-placed (wide_part p) (wide-waits p) (left_floats cs) w.state e) z))))
          (λ c z. again u sent (wide-empty cs w e) c z)))

  -- ---- a column is put out

  pair-empty : (sheet : PlainSheet) (w : Work) → Bare w.state.floats → Empty (without_double (ship p sheet w)).state.floats
  pair-empty sheet w b = by-any-ship (λ c. Empty (without_double c).state.floats) p sheet w (b.0, b.1, refl) (b.0, b.1, refl) (b.0, b.1, refl)

  ship-two : (sheet : PlainSheet) (w : Work) → (ship p sheet w).state.two_columns ≡ w.state.two_columns
  ship-two sheet w = by-any-ship (λ c. c.state.two_columns ≡ w.state.two_columns) p sheet w refl refl refl

  pair-stands : (sheet : PlainSheet) (w : Work) (m : SummaryView) → Bare w.state.floats → (w.refused ≡ false → FitPut w.state m) → Stand p K (without_double (ship p sheet w)) m
  pair-stands sheet w m b fit =
      let h : Stand p K (without_double w) m = (λ r. fit-put (without_double w).state m (none-placed (without_double w).state b (none-double (w.state.two_columns && true) [] refl)) (fit r)) in
      by-any-ship (λ c. Stand p K (without_double c) m) p sheet w h (λ r. absurd (true-not-false true refl r)) h

  -- the page of two columns, the pages of wide floats, and the space above the next two columns
  pair-shown : (c : PlainColumn) (w : Work) → Once (of_column c) w → w.state.two_columns ≡ true → w.state.first_column ≡ false → Bare w.state.floats → (m : SummaryView) → (w.refused ≡ false → FitPut w.state m)
      → Shows w (ship_pair p c w) (pair_pieces p c w) m (Stand p K (ship_pair p c w))
  pair-shown c w once two second b m fit =
      let sheet = pair_sheet p w.state.floats (left_or c w.state.left_column) c in
      let u = without_double (ship p sheet w) in
      let v = all_wide_pages p false u in
      let sent : Once nothing u = column-once {p = p} (ships_pair c w two second) once in
      shows-then w u (ship_pair p c w) (ship_pieces p w) (after_pair p u) m (Stand p K u) (Stand p K (ship_pair p c w))
      (shows-before w (ship p sheet w) u (ship_pieces p w) m (Stand p K u) (Stand p K u) refl (λ n x. x)
      (page-shown sheet w m (Stand p K u) (λ r. stand-stopped p K u m r) fit
      (λ r q e line place f g. sent-apart nothing u sent q w.sent w.state.number sheet e line place f (subst (λ l. IsAmong line (waiting_lines l)) (sym (ship-floats sheet w)) g))
      (λ n x. pair-stands sheet w n b (λ r. x))))
      (λ n x. shows-then u v (fill_double p v) (all_wide_pieces p false u) (fill_double_pieces p v) n (Stand p K v) (Stand p K (fill_double p v))
      (wide-shown false (length (wide_waiting p u.state.floats)) u sent (pair-empty sheet w b) n x)
      (λ a y. double-shown p K [] (wide_waiting p v.state.floats) v (columns-once (all_wide-moves p false u) sent) (two-kept (all_wide-moves p false u) ∙ ship-two sheet w ∙ two) refl a y))

  one-column : (two first : Bool) (ls : List ℕ) → two ≡ false → (if two && first then ls else []) ≡ []
  one-column true first ls e = cc
  one-column false first ls e = refl

  second-column : (two : Bool) (ls : List ℕ) → (if two && false then ls else []) ≡ []
  second-column true ls = refl
  second-column false ls = refl

  -- a column is put out: as a page, as the first of two, or as the second
  by-columns-shown : (c : PlainColumn) (a : Work) → Once (of_column c) a → Bare a.state.floats → (m : SummaryView) → (a.refused ≡ false → FitPut a.state m) → Shows a (put_out_by p c a) (put_out_pieces_by p c a) m (Stand p K (put_out_by p c a))
  by-columns-shown c a once b m fit = by_columns a.state.two_columns a.state.first_column refl refl
    where
      by_columns : (two first : Bool) → a.state.two_columns ≡ two → a.state.first_column ≡ first
          → Shows a (if not two then ship p (one c) a else (if first then keep_left c a else ship_pair p c a)) (if not two then ship_pieces p a else (if first then [] else pair_pieces p c a)) m (Stand p K (if not two then ship p (one c) a else (if first then keep_left c a else ship_pair p c a)))
      by_columns false first t f =
          page-shown (one c) a m (Stand p K (ship p (one c) a)) (λ r. stand-stopped p K (ship p (one c) a) m r) fit
          (λ r q e line place g i. sent-apart nothing (ship p (one c) a) (column-once {p = p} (ships_column c a t) once) q a.sent a.state.number (one c) e line place g (subst (λ l. IsAmong line (waiting_lines l)) (sym (ship-floats (one c) a)) i))
          (λ n x. stand-shipped p K (one c) a n (λ r. fit-put a.state n (none-placed a.state b (one-column a.state.two_columns a.state.first_column (float_lines a.state.floats.double) t)) x))
      by_columns true true t f =
          shows-none a (keep_left c a) m (Stand p K (keep_left c a)) refl (λ r. fit-put (keep_left c a).state m (none-placed (keep_left c a).state b (second-column a.state.two_columns (float_lines a.state.floats.double))) (fit r))
      by_columns true false t f = pair-shown c a once t f b m fit

  pub put_out-shown : (c : PlainColumn) (w : Work) → Once (of_column c) w → Bare w.state.floats → (m : SummaryView) → Stand p K w m → Shows w (put_out p c w) (put_out_pieces p c w) m (Stand p K (put_out p c w))
  put_out-shown c w once b m h =
      let a = records_also (output c) w in
      shows-then w a (put_out p c w) (unless_over w (Says PutOut ∷ [])) (put_out_pieces_by p c a) m (λ n. a.refused ≡ false → FitPut a.state n) (Stand p K (put_out p c w))
      (shows-before w w a (unless_over w (Says PutOut ∷ [])) m (λ n. w.refused ≡ false → FitPut w.state n) (λ n. a.refused ≡ false → FitPut a.state n) (records-send p K (output c) w) (λ n x. by-records (λ e. e.refused ≡ false → FitPut e.state n) (output c) w x x)
      (output-by (Waits w.state) (IsInArea w.state) w m h))
      (λ n x. shows-before a (put_out_by p c a) (put_out p c w) (put_out_pieces_by p c a) n (Stand p K (put_out_by p c a)) (Stand p K (put_out p c w)) refl (λ o y. y)
      (by-columns-shown c a (column-once {p = p} (records_column c w) once) (by-records (λ e. Bare e.state.floats) (output c) w b b) n x))

  -- ---- text columns

  stands-tell : (w : Work) (ls : List ℕ) → ((n : ℕ) → IsAmong n ls → Waits w.state n → ⊥) → (m : SummaryView) → FitState p K w.state m → Tells (map (λ l. Stands l) ls) m (FitState p K w.state)
  stands-tell w [] apart m a = record { order = tt; after = a }
  stands-tell w (l ∷ ls) apart m a =
      let x = stands-tell w ls (λ n i. apart n (inr i)) (after_tale (Stands l) m) (stands K (Waits w.state) (IsInArea w.state) (Waits w.state) l m.sheets m.stories a) in
      record { order = (are-placed K (Waits w.state) (IsInArea w.state) (Waits w.state) l m.sheets (apart l (inl refl)) m.stories a, x.order); after = x.after }

  -- a text column is put out
  pub text-shown : (body : List PlainNode) (w : Work) → Once (of_text body) w → (m : SummaryView) → Stand p K w m → Shows w (put_out_text p body w) (text_pieces p body w) m (Stand p K (put_out_text p body w))
  text-shown body w once m h =
      let c = text_of p w.state body in
      let v = without_column_floats w in
      shows-then w v (put_out_text p body w) (unless_over w (tales (stands_tales body))) (put_out_pieces p c v) m (Stand p K v) (Stand p K (put_out_text p body w))
      (shows-before w w v (unless_over w (tales (stands_tales body))) m (Stand p K w) (Stand p K v) refl (λ n x r. weaker K (Waits w.state) (IsInArea w.state) (Waits w.state) (Waits w.state) (IsInArea v.state) (Waits w.state) (λ k i. i) (λ k i. above k i) (λ k i. i) n.sheets n.stories (x r))
      (shows-tales w (stands_tales body) m (Stand p K w) (λ r. stand-stopped p K w m r) (λ r. let x = stands-tell w (here_lines body) (stands-apart body w once r) m (h r) in record { order = x.order; after = λ q. x.after })))
      (λ n x. put_out-shown c v (page-once {p = p} (takes_text body w) once) (refl, refl) n x)
    where
      above : (k : ℕ) → IsInArea (without_column_floats w).state k → IsInArea w.state k
      above k i =
          among-back k (float_lines w.state.floats.top) (float_lines w.state.floats.bottom ++ (if w.state.two_columns && w.state.first_column then float_lines w.state.floats.double else []))
          (among-back k (float_lines w.state.floats.bottom) (if w.state.two_columns && w.state.first_column then float_lines w.state.floats.double else []) i)
