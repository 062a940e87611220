-- A run keeps the order of a class: from firing to firing, if the lists are empty at each change of columns.
use Rattle.std.proofs.Common.{◌≡◌, refl, sym, ◌∙◌, ap, subst, ℕ, ◌<◌, ◌⊎◌, inl, inr, Bool, true, false, List, [], ◌∷◌, ◌++◌, map, take, Option, None, append_assoc, append-nil}
use Rattle.std.specs.Prelude.{ℤ, int_le, ◌&&◌, if◌then◌else◌}
use Rattle.std.specs.List.{AllByRecursion}
use Rattle.std.proofs.lemmas.Bool.{and_parts, true≢false}
use Rattle.tb_break.proofs.EachLemmas.{all-front, all-back, all-join, all-map}
use Rattle.tb_scaled.specs.Scaled.{eject_penalty}
use Rattle.tb_node.specs.declared.Act.{Act}
use Rattle.tb_node.specs.PlainNodes.{PlainNode}
use Rattle.tb_param.specs.declared.Params.{Params}
use Rattle.tb_param.specs.Release.{has_second}
use Rattle.tb_param.specs.declared.SetPlace.{SetPlace}
use Rattle.tb_param.specs.declared.SetPlace.TheVariants as set_places
use Rattle.tb_param.specs.Changes.{set_place}
use Rattle.tb_break.specs.PageTop.{pruned_nodes}
use Rattle.tb_insert.specs.Account.{Frozen, labelled}
use Rattle.tb_builder.specs.Reach.{Reached}
use Rattle.tb_builder.specs.FiredPages.{Fired, page_break, from_break, penalty_at, fired_by, frozen_for, held_insertions}
use Rattle.tb_builder.proofs.FiredPages.PageWeights.{acted_weight, labelled-class}
use Rattle.tb_builder.proofs.Cutting.CutLemmas.{acted_of, CutAt, AllIns, held-ins}
use Rattle.tb_float.specs.declared.Entry.{Entry}
use Rattle.tb_float.specs.declared.Entry.TheVariants as entries
use Rattle.tb_float.specs.Lists.{FloatLists, floats_among, no_floats}
use Rattle.tb_column.specs.Column.{PlainColumn}
use Rattle.tb_output.specs.State.{State, Work, Recorded, emptied}
use Rattle.tb_output.specs.Act.{lists_with_taken, taken_float, taken_head, lists_with_head, with_head, set_records}
use Rattle.tb_output.specs.Output
use Rattle.tb_output.proofs.KeptParams.{out-keeps-params}
use Rattle.tb_laws.proofs.DeadCycles.ValidPenalties.{interline-calm}
use Rattle.tb_sheet.specs.Asked
use Rattle.tb_laws.proofs.NothingLost.StateWeights.{ColumnsFit, class_numbers, first-left}
use Rattle.tb_laws.proofs.NothingLost.WorkWeights.{Careful}
use Rattle.tb_laws.proofs.StepLaws.BreakSorts.{at-clear}
use Rattle.tb_laws.proofs.Closed.SortLemmas.{Seen, BreakStands, PageStands, pen_sort, page-careful}
use Rattle.tb_laws.proofs.ClassesRise.RisingLists.{IsAmong, IsMissing, IsAbove, Rises, rises-front, rises-more, rises-without}
use Rattle.tb_laws.proofs.ClassesRise.ClassLines.{FloatKind, Side, alike, narrow, wider, waits, PartedBy, Parted, IsReleased, is_new, is_of, line_if, class_lines, float_lines, left_lines, sent_lines, floats-append}
use Rattle.tb_laws.proofs.ClassesRise.RecordLines.{record_lines, placed-more, IsLate, late-more, IsCarried, carried-more}
use Rattle.tb_laws.proofs.StepLaws.QuietLemmas.{AreQuiet, quiet-lines}
use Rattle.tb_laws.proofs.ClassesRise.FloatlessFeet.{BoxesFloatless}
use Rattle.tb_laws.proofs.ClassesRise.PageLines.{deeds, act_lines, acts_lines, take_lines}
use Rattle.tb_laws.proofs.ClassesRise.FiringLines.{all-done, FiredLines, fired-lines, all-taken}
use Rattle.tb_laws.proofs.ClassesRise.SpreadLemmas.{IsBehind, later_lines, IsUnseen, unseen-quiet}
use Rattle.tb_laws.proofs.ClassesRise.ClassOrder.{with-second, IsInText, AreInText, ahead_lines, order_lines, Order}
use Rattle.tb_laws.proofs.ClassesRise.TakenOrder.{first-of}
use Rattle.tb_laws.proofs.ClassesRise.FiringOrder.{AreLight}
use Rattle.tb_laws.proofs.Closed.ClosingStates.{Closing}
use Rattle.tb_laws.proofs.DeadCycles.CycleBreaks.{true-false}
use Rattle.tb_laws.proofs.NothingLost.ClosingRuns.{page-after, closed-page, fired_closes, steps-close}
use Rattle.tb_node.specs.declared.Float.{Float}
use Rattle.tb_laws.proofs.ClassesRise.OutOrder.{IsOnSide, Suits, InOrder, FiresInOrder, out-order}
use Rattle.tb_steps.specs.Run.{Run, Step, ends, goes_on, ask_for}
use Rattle.tb_steps.proofs.RunTree.{ActMove, PageMoves, fired_at, served_at, WholePage, StepIs, RunIs, takes_float, takes_note, sets_flag, changes_columns, sets_number, takes_title, sets_parameter, shows_try, does_act, rests, moves, fires_on, is_done, runs_out, starts_too_full, ends_so, goes_on_so}
use Rattle.tb_steps.proofs.RunFolds.{PageLaw, page-holds}
use Rattle.tb_sheet.specs.declared.Warn.{Warn}
use Rattle.tb_items.specs.RunEvents.{RunEvent, sent}
use Rattle.tb_laws.specs.Laws.{IsEmptied, EndsDone}
use Rattle.tb_laws.proofs.NothingLost.RunWeights.{After, whole-adds, weighs, Kept, page_of, cut, cut_feet, cut_stands}
use Rattle.tb_float.proofs.SlotLemmas.{floats_among-append}
use Rattle.tb_laws.proofs.ClassesRise.FloatlessNodes.{events_lines, events-lines-append, sent-events-lines, warnings-lines, nothing_weighs, floats_count, nothing-fits, no-floats}
use Rattle.tb_output.proofs.Acts.HeadLemmas.{IsForHead, head-room}

-- ---- a clear

-- no page is held at a clear
clear-frees : (b : Bool) (s : Seen) (rest : List PlainNode) (q : ℤ) → int_le eject_penalty q ≡ false → Output.is_int q Asked.clear_penalty ≡ true → BreakStands b s rest (pen_sort q) → b ≡ false
clear-frees b s rest q h k r = at-clear (b ≡ false) (BreakStands b s rest) q h k (λ r. r.1) r

-- ---- acts

-- the floats in the text, when quiet records are added
text_quietly : (k : FloatKind) (rs more : List Recorded) (before : List ℕ) (l : FloatLists) (column : Option PlainColumn) (text : List ℕ) → AreQuiet more → AreInText k rs before l column text → AreInText k (rs ++ more) before l column text
text_quietly k rs more before l column text q h = all-map (IsInText k rs (float_lines k l.top) (float_lines k l.here) (ahead_lines k before l column)) (IsInText k (rs ++ more) (float_lines k l.top) (float_lines k l.here) (ahead_lines k before l column)) (λ n x. record {
  placed = placed-more k n rs more x.placed;
  missing = subst (IsMissing n) (sym (quiet-lines k rs more q)) x.missing;
  apart = x.apart;
  held = either n x.held;
}) text h
  where
    either : (n : ℕ) → IsLate k n rs ⊎ (IsAmong n (float_lines k l.here) × IsAbove (ahead_lines k before l column) n) → IsLate k n (rs ++ more) ⊎ (IsAmong n (float_lines k l.here) × IsAbove (ahead_lines k before l column) n)
    either n (inl late) = inl (late-more k n rs more late)
    either n (inr fresh) = inr fresh

module _ (k : FloatKind) (Known : ℕ → Type 0) (text before : List ℕ) where
  -- quiet records are added
  order-quietly : (takes : List ℕ) (rs more : List Recorded) (l : FloatLists) (two first : Bool) (column : Option PlainColumn) → AreQuiet more → Order k Known text takes before rs l two first column → Order k Known text takes before (rs ++ more) l two first column
  order-quietly takes rs more l two first column q h = record {
    order = rises-more Known (λ n. IsCarried k n rs) (λ n. IsCarried k n (rs ++ more)) (λ n x. carried-more k n rs more x) (order_lines k takes before l column) h.order;
    rising = h.rising;
    held = text_quietly k rs more before l column text q h.held;
    bottom = h.bottom;
    deferred = h.deferred;
    parted = h.parted;
    later = h.later;
    unseen = unseen-quiet k rs more q (later_lines k takes l) h.unseen;
    known = subst (AllByRecursion Known) (sym (quiet-lines k rs more q)) h.known;
    columns = h.columns;
    single = h.single;
  }

  -- a float or note is taken, and the lines that are not placed yet are as before
  taken : (takes also : List ℕ) (rs : List Recorded) (l : FloatLists) (two first : Bool) (column : Option PlainColumn) (es : List Entry) → later_lines k takes l ≡ float_lines k (floats_among es) ++ also → Parted k (record l { current = es })
      → Order k Known text takes before rs l two first column → Order k Known text also before rs (record l { current = es }) two first column
  taken takes also rs l two first column es e parted h = record {
    order = subst (λ y. Rises Known (λ n. IsCarried k n rs) (before ++ (float_lines k l.double ++ (left_lines k column ++ (float_lines k (l.top ++ l.bottom ++ waits l) ++ y))))) e h.order;
    rising = h.rising;
    held = h.held;
    bottom = h.bottom;
    deferred = h.deferred;
    parted = parted;
    later = subst (AllByRecursion (IsAbove text)) e h.later;
    unseen = subst (AllByRecursion (IsUnseen k rs)) e h.unseen;
    known = h.known;
    columns = h.columns;
    single = h.single;
  }

  -- a change of columns drops a left column, if nothing is above the columns
  changed : (takes : List ℕ) (rs : List Recorded) (l : FloatLists) (two first now : Bool) (column : Option PlainColumn) → l.double ≡ [] → Order k Known text takes before rs l two first column → Order k Known text takes before rs l now true None
  changed takes rs l two first now column d h = record {
    order = subst (Rises Known (λ n. IsCarried k n rs)) (append_assoc before (float_lines k l.double) rest)
        (rises-without Known (λ n. IsCarried k n rs) (before ++ float_lines k l.double) (left_lines k column) rest
        (subst (Rises Known (λ n. IsCarried k n rs)) (sym (append_assoc before (float_lines k l.double) (left_lines k column ++ rest))) h.order));
    rising = h.rising;
    held = all-map (IsInText k rs (float_lines k l.top) (float_lines k l.here) (ahead_lines k before l column)) (IsInText k rs (float_lines k l.top) (float_lines k l.here) (ahead_lines k before l None)) (λ n x. record { placed = x.placed; missing = x.missing; apart = x.apart; held = either n x.held }) text h.held;
    bottom = h.bottom;
    deferred = h.deferred;
    parted = h.parted;
    later = h.later;
    unseen = h.unseen;
    known = h.known;
    columns = fits now;
    single = λ e. d;
  }
    where
      rest : List ℕ
      rest = float_lines k (l.top ++ l.bottom ++ waits l) ++ later_lines k takes l

      fits : (t : Bool) → ColumnsFit t true None
      fits true = tt
      fits false = tt

      without : (n : ℕ) → IsAbove (ahead_lines k before l column) n → IsAbove (ahead_lines k before l None) n
      without n a =
          let b = all-back (λ x. x < n) before (float_lines k l.double ++ (left_lines k column ++ float_lines k l.top)) a in
          all-join (λ x. x < n) before (float_lines k l.double ++ float_lines k l.top) (all-front (λ x. x < n) before (float_lines k l.double ++ (left_lines k column ++ float_lines k l.top)) a)
          (all-join (λ x. x < n) (float_lines k l.double) (float_lines k l.top) (all-front (λ x. x < n) (float_lines k l.double) (left_lines k column ++ float_lines k l.top) b)
          (all-back (λ x. x < n) (left_lines k column) (float_lines k l.top) (all-back (λ x. x < n) (float_lines k l.double) (left_lines k column ++ float_lines k l.top) b)))

      either : (n : ℕ) → IsLate k n rs ⊎ (IsAmong n (float_lines k l.here) × IsAbove (ahead_lines k before l column) n) → IsLate k n rs ⊎ (IsAmong n (float_lines k l.here) × IsAbove (ahead_lines k before l None) n)
      either n (inl late) = inl late
      either n (inr fresh) = inr (fresh.0, without n fresh.1)

-- a float of the kind goes to the list of its side
stays-first : (r w : Bool) (d : Side) → r ≡ is_new d → (r && w) ≡ false → IsOnSide d w → d ≡ wider → ⊥
stays-first r w alike e n o q = cc
stays-first r w narrow e n o q = cc
stays-first true true wider e n o q = cc
stays-first true false wider e n o q = cc
stays-first false w wider e n o q = cc

goes-second : (r w : Bool) (d : Side) → r ≡ is_new d → (r && w) ≡ true → IsOnSide d w → d ≡ wider
goes-second r w wider e n o = refl
goes-second true true narrow e n o = cc
goes-second true false narrow e n o = cc
goes-second false w narrow e n o = cc
goes-second true w alike e n o = cc
goes-second false w alike e n o = cc

-- a line that is tested
no-line : (t : Bool) (n : ℕ) → (t ≡ true → ⊥) → line_if t n ≡ []
no-line true n h = absurd (h refl)
no-line false n h = refl

-- if all kinds but wide ones of release 2014 may be taken last
parted-more : (k : FloatKind) (l : FloatLists) (es : List Entry) (d : Side) → (d ≡ wider → float_lines k (floats_among es) ≡ float_lines k (floats_among l.current)) → PartedBy d k l → PartedBy d k (record l { current = es })
parted-more k l es alike e x = x
parted-more k l es narrow e x = x
parted-more k l es wider e x = (e refl ∙ x.0, x.1)

module _ (k : FloatKind) (Known : ℕ → Type 0) (p : Params) (r : IsReleased k p) (text past : List ℕ) where
  -- the class in order in a state, if these lines are still to be taken
  abbrev StateOrder : List ℕ → List Recorded → State → Type 0
  StateOrder takes rs s = Order k Known text takes past rs s.floats s.two_columns s.first_column s.left_column

  -- a wide float goes to the second list
  module _ (takes : List ℕ) (rs : List Recorded) (l : FloatLists) (two first : Bool) (column : Option PlainColumn) (f g : Float) (class : g.class ≡ f.class) (line : g.line ≡ f.line) (h : Order k Known text (line_if (is_of k f.class f.line) f.line ++ takes) past rs l two first column) (side : is_of k f.class f.line ≡ true → k.side ≡ wider) (new : has_second p ≡ true) where
    abbrev this : List ℕ
    this = line_if (is_of k f.class f.line) f.line

    abbrev m : FloatLists
    m = record l { second = l.second ++ g ∷ [] }

    this_is : line_if (is_of k g.class g.line) g.line ≡ line_if (is_of k f.class f.line) f.line
    this_is i = line_if (is_of k (class i) (line i)) (line i)

    none-this : (k.side ≡ wider → ⊥) → line_if (is_of k f.class f.line) f.line ≡ []
    none-this n = no-line (is_of k f.class f.line) f.line (λ e. n (side e))

    second_lines : float_lines k (l.second ++ g ∷ []) ≡ float_lines k l.second ++ line_if (is_of k f.class f.line) f.line
    second_lines = floats-append k l.second (g ∷ []) ∙ ap (λ y. float_lines k l.second ++ y) (append-nil (line_if (is_of k g.class g.line) g.line) ∙ this_is)

    waits_lines : float_lines k (l.top ++ l.bottom ++ (l.deferred ++ (l.second ++ g ∷ []))) ≡ float_lines k (l.top ++ l.bottom ++ waits l) ++ line_if (is_of k f.class f.line) f.line
    waits_lines =
        with-second k (record l { second = l.second ++ g ∷ [] }) ∙ ap (λ y. float_lines k (l.top ++ l.bottom ++ l.deferred) ++ y) second_lines
        ∙ sym (append_assoc (float_lines k (l.top ++ l.bottom ++ l.deferred)) (float_lines k l.second) (line_if (is_of k f.class f.line) f.line)) ∙ ap (λ y. y ++ line_if (is_of k f.class f.line) f.line) (sym (with-second k l))

    past_current : (d : Side) → k.side ≡ d → PartedBy d k l → float_lines k (floats_among l.current) ++ line_if (is_of k f.class f.line) f.line ≡ line_if (is_of k f.class f.line) f.line ++ float_lines k (floats_among l.current)
    past_current alike q x = ap (λ y. float_lines k (floats_among l.current) ++ y) (none-this (λ e. differ (sym q ∙ e))) ∙ append-nil (float_lines k (floats_among l.current)) ∙ ap (λ y. y ++ float_lines k (floats_among l.current)) (sym (none-this (λ e. differ (sym q ∙ e))))
      where
        differ : alike ≡ wider → ⊥
        differ e = cc
    past_current narrow q x = ap (λ y. float_lines k (floats_among l.current) ++ y) (none-this (λ e. differ (sym q ∙ e))) ∙ append-nil (float_lines k (floats_among l.current)) ∙ ap (λ y. y ++ float_lines k (floats_among l.current)) (sym (none-this (λ e. differ (sym q ∙ e))))
      where
        differ : narrow ≡ wider → ⊥
        differ e = cc
    past_current wider q x = ap (λ y. y ++ line_if (is_of k f.class f.line) f.line) x.0 ∙ sym (append-nil (line_if (is_of k f.class f.line) f.line)) ∙ ap (λ y. line_if (is_of k f.class f.line) f.line ++ y) (sym x.0)

    parted_now : (d : Side) → k.side ≡ d → has_second p ≡ is_new d → PartedBy d k l → PartedBy d k (record l { second = l.second ++ g ∷ [] })
    parted_now alike q e x = true-false (has_second p) new e
    parted_now narrow q e x = (x.0, second_lines ∙ (λ i. x.1 i ++ none-this (λ z. differ (sym q ∙ z)) i))
      where
        differ : narrow ≡ wider → ⊥
        differ e = cc
    parted_now wider q e x = x

    later_is : later_lines k (line_if (is_of k f.class f.line) f.line ++ takes) l ≡ line_if (is_of k f.class f.line) f.line ++ (float_lines k (floats_among l.current) ++ takes)
    later_is =
        sym (append_assoc (float_lines k (floats_among l.current)) (line_if (is_of k f.class f.line) f.line) takes) ∙ ap (λ y. y ++ takes) (past_current k.side refl h.parted)
        ∙ append_assoc (line_if (is_of k f.class f.line) f.line) (float_lines k (floats_among l.current)) takes

    g_behind : IsBehind k text g
    g_behind e = first-of (IsAbove text) (is_of k g.class g.line) g.line (float_lines k (floats_among l.current) ++ takes) (subst (AllByRecursion (IsAbove text)) (later_is ∙ ap (λ y. y ++ (float_lines k (floats_among l.current) ++ takes)) (sym this_is)) h.later) e

    taken_second : Order k Known text takes past rs (record l { second = l.second ++ g ∷ [] }) two first column
    taken_second = record {
      order = subst (λ y. Rises Known (λ n. IsCarried k n rs) (past ++ (float_lines k l.double ++ (left_lines k column ++ y))))
          (ap (λ y. float_lines k (l.top ++ l.bottom ++ waits l) ++ y) later_is ∙ sym (append_assoc (float_lines k (l.top ++ l.bottom ++ waits l)) (line_if (is_of k f.class f.line) f.line) (float_lines k (floats_among l.current) ++ takes)) ∙ ap (λ y. y ++ (float_lines k (floats_among l.current) ++ takes)) (sym waits_lines)) h.order;
      rising = h.rising;
      held = h.held;
      bottom = h.bottom;
      deferred = all-join (IsBehind k text) l.deferred (l.second ++ g ∷ []) (all-front (IsBehind k text) l.deferred l.second h.deferred) (all-join (IsBehind k text) l.second (g ∷ []) (all-back (IsBehind k text) l.deferred l.second h.deferred) (g_behind, tt));
      parted = parted_now k.side refl r h.parted;
      later = all-back (IsAbove text) (line_if (is_of k f.class f.line) f.line) (float_lines k (floats_among l.current) ++ takes) (subst (AllByRecursion (IsAbove text)) later_is h.later);
      unseen = all-back (IsUnseen k rs) (line_if (is_of k f.class f.line) f.line) (float_lines k (floats_among l.current) ++ takes) (subst (AllByRecursion (IsUnseen k rs)) later_is h.unseen);
      known = h.known;
      columns = h.columns;
      single = h.single;
    }

  -- a title is taken above the first of two columns, while no list holds a float
  parted-title : (f : Float) (d : Side) → (is_of k f.class f.line ≡ true → IsOnSide d true) → PartedBy d k no_floats → PartedBy d k (lists_with_head f no_floats)
  parted-title f alike o x = x
  parted-title f narrow o x = (ap (λ l. l ++ []) (no-line (is_of k f.class f.line) f.line (λ t. true≢false (o t))), x.1)
  parted-title f wider o x = x

  titled-first : (takes : List ℕ) (rs : List Recorded) (f : Float) → (is_of k f.class f.line ≡ true → IsOnSide k.side true) → Order k Known text (line_if (is_of k f.class f.line) f.line ++ takes) past rs no_floats true true None
      → Order k Known text takes past rs (lists_with_head f no_floats) true true None
  titled-first takes rs f o h = record {
    order = subst (λ y. Rises Known (λ n. IsCarried k n rs) (past ++ (y ++ takes))) (sym (append-nil (line_if (is_of k f.class f.line) f.line))) h.order;
    rising = h.rising;
    held = all-map (IsInText k rs [] [] (ahead_lines k past no_floats None)) (IsInText k rs [] [] (ahead_lines k past (lists_with_head f no_floats) None)) (λ n x. record { placed = x.placed; missing = x.missing; apart = x.apart; held = late n x.held }) text h.held;
    bottom = tt;
    deferred = tt;
    parted = parted-title f k.side o h.parted;
    later = all-back (IsAbove text) (line_if (is_of k f.class f.line) f.line) takes h.later;
    unseen = all-back (IsUnseen k rs) (line_if (is_of k f.class f.line) f.line) takes h.unseen;
    known = h.known;
    columns = tt;
    single = λ e. absurd (true≢false e);
  }
    where
      late : (n : ℕ) → IsLate k n rs ⊎ (⊥ × IsAbove (ahead_lines k past no_floats None) n) → IsLate k n rs ⊎ (⊥ × IsAbove (ahead_lines k past (lists_with_head f no_floats) None) n)
      late n (inl x) = inl x
      late n (inr x) = absurd x.0

  titled : (takes : List ℕ) (rs : List Recorded) (s : State) (f : Float) → IsForHead s → (is_of k f.class f.line ≡ true → IsOnSide k.side true) → StateOrder (line_if (is_of k f.class f.line) f.line ++ takes) rs s → StateOrder takes rs (with_head p s f)
  titled takes rs s f is o h =
      let none = first-left true s.left_column (subst (λ t. ColumnsFit t true s.left_column) is.two (subst (λ t. ColumnsFit s.two_columns t s.left_column) is.first h.columns)) in
      subst (λ l. Order k Known text takes past rs (lists_with_head f l) s.two_columns s.first_column s.left_column) (sym is.floats)
      (subst (λ t. Order k Known text takes past rs (lists_with_head f no_floats) t s.first_column s.left_column) (sym is.two)
      (subst (λ t. Order k Known text takes past rs (lists_with_head f no_floats) true t s.left_column) (sym is.first)
      (subst (λ o. Order k Known text takes past rs (lists_with_head f no_floats) true true o) (sym none)
      (titled-first takes rs f o
      (subst (λ c. Order k Known text (line_if (is_of k f.class f.line) f.line ++ takes) past rs no_floats true true c) none
      (subst (λ t. Order k Known text (line_if (is_of k f.class f.line) f.line ++ takes) past rs no_floats true t s.left_column) is.first
      (subst (λ t. Order k Known text (line_if (is_of k f.class f.line) f.line ++ takes) past rs no_floats t s.first_column s.left_column) is.two
      (subst (λ l. Order k Known text (line_if (is_of k f.class f.line) f.line ++ takes) past rs l s.two_columns s.first_column s.left_column) is.floats h))))))))

  act-order : (takes : List ℕ) (ds : List Act) (rs : List Recorded) {s t : State} {a : Act} {ws : List Warn} {more : List Recorded} → ActMove p s a t ws more → StateOrder (act_lines k a ++ takes) rs s → Suits k s.two_columns (a ∷ ds) → AllByRecursion IsEmptied more → StateOrder takes (rs ++ more) t × Suits k t.two_columns ds
  act-order takes ds rs (takes_float {s = s} f room) h u m =
      (subst (λ x. StateOrder takes x (record s { floats = lists_with_taken p (taken_float p s f) s.floats })) (sym (append-nil rs)) (by_list (has_second p && (f.wide && s.two_columns)) refl), u.1)
    where
      more : float_lines k (floats_among (s.floats.current ++ entries.Float (taken_float p s f) ∷ [])) ≡ float_lines k (floats_among s.floats.current) ++ line_if (is_of k f.class f.line) f.line
      more = ap (float_lines k) (floats_among-append s.floats.current (entries.Float (taken_float p s f) ∷ [])) ∙ floats-append k (floats_among s.floats.current) (taken_float p s f ∷ []) ∙ ap (λ l. float_lines k (floats_among s.floats.current) ++ l) (append-nil (line_if (is_of k f.class f.line) f.line))

      by_list : (t : Bool) → (has_second p && (f.wide && s.two_columns)) ≡ t → Order k Known text takes past rs (if t then record s.floats { second = s.floats.second ++ taken_float p s f ∷ [] } else record s.floats { current = s.floats.current ++ entries.Float (taken_float p s f) ∷ [] }) s.two_columns s.first_column s.left_column
      by_list true q = taken_second takes rs s.floats s.two_columns s.first_column s.left_column f (taken_float p s f) refl refl h (λ z. goes-second (has_second p) (f.wide && s.two_columns) k.side r q (u.0 z)) (and_parts (has_second p) (f.wide && s.two_columns) q).0
      by_list false q =
          taken k Known text past (line_if (is_of k f.class f.line) f.line ++ takes) takes rs s.floats s.two_columns s.first_column s.left_column (s.floats.current ++ entries.Float (taken_float p s f) ∷ [])
          (sym (append_assoc (float_lines k (floats_among s.floats.current)) (line_if (is_of k f.class f.line) f.line) takes) ∙ ap (λ l. l ++ takes) (sym more))
          (parted-more k s.floats (s.floats.current ++ entries.Float (taken_float p s f) ∷ []) k.side
          (λ w. more ∙ ap (λ y. float_lines k (floats_among s.floats.current) ++ y) (no-line (is_of k f.class f.line) f.line (λ z. stays-first (has_second p) (f.wide && s.two_columns) k.side r q (u.0 z) w)) ∙ append-nil (float_lines k (floats_among s.floats.current))) h.parted) h
  act-order takes ds rs (takes_note {s = s} m room) h u e = (
    subst (λ x. StateOrder takes x (record s { floats = record s.floats { current = s.floats.current ++ entries.Left m ∷ entries.Right m ∷ [] } })) (sym (append-nil rs))
        (taken k Known text past takes takes rs s.floats s.two_columns s.first_column s.left_column (s.floats.current ++ entries.Left m ∷ entries.Right m ∷ [])
        (ap (λ l. float_lines k l ++ takes) (sym (floats_among-append s.floats.current (entries.Left m ∷ entries.Right m ∷ []) ∙ append-nil (floats_among s.floats.current))))
        (parted-more k s.floats (s.floats.current ++ entries.Left m ∷ entries.Right m ∷ []) k.side (λ w. ap (float_lines k) (floats_among-append s.floats.current (entries.Left m ∷ entries.Right m ∷ []) ∙ append-nil (floats_among s.floats.current))) h.parted) h),
    u,
  )
  act-order takes ds rs (sets_flag {s = s} area) h u m = (subst (λ x. StateOrder takes x s) (sym (append-nil rs)) h, u)
  act-order takes ds rs (sets_number {s = s} n) h u m = (subst (λ x. StateOrder takes x s) (sym (append-nil rs)) h, u)
  act-order takes ds rs (sets_parameter {s = s} c) h u m = (by_place (set_place c.field), u)
    where
      by_place : (x : SetPlace) → Order k Known text takes past (rs ++ set_records x s.floats) s.floats s.two_columns s.first_column s.left_column
      by_place set_places.AfterClear = order-quietly k Known text past takes rs (emptied s.floats ∷ []) s.floats s.two_columns s.first_column s.left_column (tt, tt) h
      by_place x = subst (λ x. StateOrder takes x s) (sym (append-nil rs)) h
  act-order takes ds rs (takes_title {s = s} f room) h u m = (subst (λ x. StateOrder takes x (with_head p s (taken_head p f))) (sym (append-nil rs)) (titled takes rs s (taken_head p f) (head-room p s room) u.0 h), u.1)
  act-order takes ds rs (changes_columns {s = s} two) h u m = (
    order-quietly k Known text past takes rs (emptied s.floats ∷ []) s.floats two true None (tt, tt)
        (changed k Known text past takes rs s.floats s.two_columns s.first_column two s.left_column (ap (λ (l : FloatLists). l.double) m.0) h),
    u,
  )

-- an act keeps the release
act-released : (k : FloatKind) {s t : State} {a : Act} {ws : List Warn} {rs : List Recorded} → ActMove s.params s a t ws rs → IsReleased k s.params → IsReleased k t.params
act-released k (takes_float f room) r = r
act-released k m r = r

module _ (k : FloatKind) (Known : ℕ → Type 0) (text past : List ℕ) where
  -- the class in order in a state of the release, if these lines are still to be taken
  abbrev NowOrder : List ℕ → List Recorded → State → Type 0
  NowOrder takes rs s = Order k Known text takes past rs s.floats s.two_columns s.first_column s.left_column

  -- the acts that are reached take the floats that were to be taken
  page-order : (takes : List ℕ) (all : List Act) (rs : List Recorded) {reached qs : List Reached} {s t : State} {es : List RunEvent} {more : List Recorded} → PageMoves reached s es more qs t → AllByRecursion IsEmptied more
      → IsReleased k s.params → NowOrder (acts_lines k (acted_of reached) ++ takes) rs s → Suits k s.two_columns (acted_of reached ++ all)
      → IsReleased k t.params × NowOrder (acts_lines k (acted_of qs) ++ takes) (rs ++ more) t × Suits k t.two_columns (acted_of qs ++ all)
  page-order takes all rs (rests {rs = qs} {s = s}) e r h u = (r, subst (λ x. NowOrder (acts_lines k (acted_of qs) ++ takes) x s) (sym (append-nil rs)) h, u)
  page-order takes all rs (moves (shows_try line b least qs) x) e r h u = page-order takes all rs x e r h u
  page-order takes all rs (moves {ls = ls} {u = t} {more = later} (does_act {s = s} {records = more} a qs m) x) e r h u =
      let y = act-order k Known s.params r text past (acts_lines k (acted_of qs) ++ takes) (acted_of qs ++ all) rs m (subst (λ y. NowOrder y rs s) (append_assoc (act_lines k a) (acts_lines k (acted_of qs)) takes) h) u (all-front IsEmptied more later e) in
      let z = page-order takes all (rs ++ more) x (all-back IsEmptied more later e) (act-released k m r) y.0 y.1 in
      (z.0, subst (λ l. NowOrder (acts_lines k (acted_of ls) ++ takes) l t) (append_assoc rs more later) z.1, z.2)

-- what is reached ships nothing
abbrev lineless : FloatKind → PageLaw
lineless k = record {
  shows = record { holds = λ es rs. events_lines k es ≡ []; none = refl; both = λ es fs rs qs a b. events-lines-append k es fs ∙ (λ i. a i ++ b i) };
  holds = λ rs s. Unit {0};
  tries = λ line b least rs s h. (refl, tt);
  acts = λ s t a ws records rs m h. (warnings-lines k ws, tt);
}

page-lines : (k : FloatKind) {rs qs : List Reached} {s t : State} {es : List RunEvent} {records : List Recorded} → PageMoves rs s es records qs t → events_lines k es ≡ []
page-lines k x = (page-holds (lineless k) x tt).0

-- ---- a page and its firing

-- the lines of what a run ships rise, and all columns have lines that are known
pub record RunOrder (k : FloatKind) (Known : ℕ → Type 0) (shipped : List ℕ) (rs : List Recorded) : Type 0 where
  pub order : Rises Known (λ n. IsCarried k n rs) shipped
  pub known : AllByRecursion Known (record_lines k rs)

abbrev pub StepOrder : FloatKind → (ℕ → Type 0) → List ℕ → List Recorded → Step → Type 0
StepOrder k Known past old (goes_on es rs t) = AllByRecursion IsEmptied rs → InOrder k Known (past ++ events_lines k es) (old ++ rs) t
StepOrder k Known past old (ends es rs e) = EndsDone e → AllByRecursion IsEmptied rs → RunOrder k Known (past ++ events_lines k es) (old ++ rs)

module _ (k : FloatKind) (Known : ℕ → Type 0) (past : List ℕ) (old : List Recorded) (s : State) (kept : Kept s) (closing : Closing s) (released : IsReleased k s.params) (h : InOrder k Known past old s) where
  page_cut : CutAt [] (pruned_nodes (ask_for s).top_skip s.waiting) (page_of s)
  page_cut = cut nothing_weighs s kept

  stands : PageStands kept.placed.held (page_break (page_of s)).place (page_of s)
  stands = cut_stands nothing_weighs s kept

  -- the state after the acts of the page
  module _ (t : State) (after : After nothing_weighs (acted_weight nothing_weighs (page_of s).reached) s t) (z : Frozen) where
    abbrev fired : Fired
    fired = fired_by (labelled z (take (page_break (page_of s)).place (page_of s).passed)) t.boxes (page_of s)

    insertions : AllIns (class_numbers s.classes) (held_insertions (labelled z (take (page_break (page_of s)).place (page_of s).passed)))
    insertions = held-ins (class_numbers s.classes) (labelled z (take (page_break (page_of s)).place (page_of s).passed)) (labelled-class (class_numbers s.classes) z [] [] (take (page_break (page_of s)).place (page_of s).passed) tt (cut_feet nothing_weighs s kept).0)

    lines : FiredLines k s.waiting (page_of s) (fired_by (labelled z (take (page_break (page_of s)).place (page_of s).passed)) t.boxes (page_of s))
    lines = fired-lines k (ask_for s).top_skip s.waiting (page_of s) page_cut h.early h.feet (class_numbers s.classes) z t.boxes (subst (BoxesFloatless k) (sym after.boxes) h.boxes) insertions

    free : kept.placed.held ≡ false → t.held_page ≡ []
    free e = after.held ∙ kept.placed.free e

    careful : Careful floats_count t.held_page (fired_by (labelled z (take (page_break (page_of s)).place (page_of s).passed)) t.boxes (page_of s))
    careful = page-careful floats_count kept.placed.held (labelled z (take (page_break (page_of s)).place (page_of s).passed)) t.boxes (page_of s) t.held_page free stands

    cleared_free : int_le eject_penalty (penalty_at (from_break (page_of s))) ≡ false → Output.is_int (penalty_at (from_break (page_of s))) Asked.clear_penalty ≡ true → class_lines k t.held_page ≡ []
    cleared_free x y = ap (class_lines k) (free (clear-frees kept.placed.held _ _ (penalty_at (from_break (page_of s))) x y stands.rest))

    fires-in-order : (rs : List Recorded) → Order k Known (class_lines k s.held_page ++ class_lines k s.waiting) (take_lines k (fired_by (labelled z (take (page_break (page_of s)).place (page_of s).passed)) t.boxes (page_of s)).rest) past rs t.floats t.two_columns t.first_column t.left_column
        → Suits k t.two_columns (deeds (fired_by (labelled z (take (page_break (page_of s)).place (page_of s).passed)) t.boxes (page_of s)).rest) → FiresInOrder k Known past rs t (fired_by (labelled z (take (page_break (page_of s)).place (page_of s).passed)) t.boxes (page_of s))
    fires-in-order rs o suits =
        let f = fired_by (labelled z (take (page_break (page_of s)).place (page_of s).passed)) t.boxes (page_of s) in
        record {
          ordered = subst (λ x. Order k Known x (take_lines k f.rest) past rs t.floats t.two_columns t.first_column t.left_column) (ap (λ ns. class_lines k ns ++ class_lines k s.waiting) (sym after.held) ∙ ap (λ l. class_lines k t.held_page ++ l) lines.text) o;
          held = subst (AreLight k) (sym after.held) h.held;
          boxes = lines.boxes;
          pairs = after.sound.entries;
          body = record { takes = lines.body_takes; does = lines.body_does; feet = lines.body_feet; endless = lines.body };
          early = lines.rest;
          ended = lines.ended;
          serving = λ x y. no-floats k f.body (careful.list x y);
          holding = λ x y. no-floats k t.held_page (careful.page x y);
          clearing = cleared_free;
          again = record { takes = lines.held_takes; does = lines.held_does; feet = lines.held; endless = lines.held_endless };
          again_lines = lines.held_text;
          rest_feet = lines.feet;
          suits = suits;
        }

  module _ {t : State} {es : List RunEvent} {rs : List Recorded} (x : WholePage s es rs t) where
    after_acts : After nothing_weighs (acted_weight nothing_weighs (page_of s).reached) s t
    after_acts = whole-adds nothing_weighs s kept (nothing-fits s.left_column (acted_of (page_of s).reached)) x

    ordered : AllByRecursion IsEmptied rs → (takes : List ℕ) (all : List Act) → take_lines k s.waiting ≡ acts_lines k (acted_of (page_of s).reached) ++ takes → deeds s.waiting ≡ acted_of (page_of s).reached ++ all
        → IsReleased k t.params × Order k Known (class_lines k s.held_page ++ class_lines k s.waiting) takes past (old ++ rs) t.floats t.two_columns t.first_column t.left_column × Suits k t.two_columns all
    ordered e takes all same deeds_same =
        page-order k Known (class_lines k s.held_page ++ class_lines k s.waiting) past takes all old x e released
        (subst (λ x. Order k Known (class_lines k s.held_page ++ class_lines k s.waiting) x past old s.floats s.two_columns s.first_column s.left_column) same h.ordered) (subst (Suits k s.two_columns) deeds_same h.suits)

    in_order : (served_at s t).refused ≡ false → AllByRecursion IsEmptied rs → InOrder k Known (past ++ sent_lines k (served_at s t).sent) ((old ++ rs) ++ (served_at s t).records) (served_at s t).state
    in_order r e =
        let z = frozen_for (ask_for s) t.classes t.boxes in
        let y = ordered e _ _ (lines t after_acts z).takes (lines t after_acts z).does in
        out-order k Known past (old ++ rs) t.params y.0 (interline-calm t.params after_acts.ranges) t (fired_at s t)
        (fires-in-order t after_acts z (old ++ rs) y.1 y.2) r
        (fired_closes s kept closing t (page-after s kept closing x) (closed-page s kept closing x) z).1

    goes : (c : Work) → (AllByRecursion IsEmptied rs → InOrder k Known (past ++ sent_lines k c.sent) ((old ++ rs) ++ c.records) c.state) → AllByRecursion IsEmptied (rs ++ c.records) → InOrder k Known (past ++ events_lines k (es ++ map sent c.sent)) (old ++ (rs ++ c.records)) c.state
    goes c i e =
        subst (λ x. InOrder k Known (past ++ x) (old ++ (rs ++ c.records)) c.state) (sym (events-lines-append k es (map sent c.sent) ∙ ap (λ l. l ++ events_lines k (map sent c.sent)) (page-lines k x) ∙ sent-events-lines k c.sent))
        (subst (λ x. InOrder k Known (past ++ sent_lines k c.sent) x c.state) (append_assoc old rs c.records) (i (all-front IsEmptied rs c.records e)))

    done_order : (page_of s).fires ≡ false → AllByRecursion IsEmptied (rs ++ emptied t.floats ∷ []) → RunOrder k Known (past ++ events_lines k es) (old ++ (rs ++ emptied t.floats ∷ []))
    done_order u e =
        let y = ordered (all-front IsEmptied rs (emptied t.floats ∷ []) e) [] (deeds (page_of s).beyond) (all-taken k (ask_for s).top_skip s.waiting (page_of s) page_cut h.early h.feet (page_cut.ended u)) (all-done k (ask_for s).top_skip s.waiting (page_of s) page_cut h.early h.feet) in
        let o = order-quietly k Known (class_lines k s.held_page ++ class_lines k s.waiting) past [] (old ++ rs) (emptied t.floats ∷ []) t.floats t.two_columns t.first_column t.left_column (tt, tt) y.1 in
        subst (λ x. RunOrder k Known (past ++ events_lines k es) x) (append_assoc old rs (emptied t.floats ∷ []))
        (subst (λ x. RunOrder k Known x ((old ++ rs) ++ emptied t.floats ∷ [])) (sym (append-nil past) ∙ ap (λ l. past ++ l) (sym (page-lines k x))) (record { order = rises-front Known _ past _ o.order; known = o.known }))

  -- a step keeps the class in order, and at the end all is in order that has shipped
  step-order : {x : Step} → StepIs s x → StepOrder k Known past old x
  step-order (fires_on {t = t} x f r) = goes x (served_at s t) (in_order x r)
  step-order (is_done x u) = λ d e. done_order x u e
  step-order x = λ d e. absurd d

-- ---- a run

-- a step keeps the release
page-released : (k : FloatKind) {rs qs : List Reached} {s t : State} {es : List RunEvent} {records : List Recorded} → PageMoves rs s es records qs t → IsReleased k s.params → IsReleased k t.params
page-released k rests r = r
page-released k (moves (shows_try line b least qs) x) r = page-released k x r
page-released k (moves (does_act a qs m) x) r = page-released k x (act-released k m r)

step-released : (k : FloatKind) {s t : State} {es : List RunEvent} {rs : List Recorded} → StepIs s (goes_on es rs t) → IsReleased k s.params → IsReleased k t.params
step-released k {s = s} (fires_on {t = t} x f u) r = subst (IsReleased k) (sym (out-keeps-params t.params t (fired_at s t))) (page-released k x r)

-- a run that is done and records empty lists alone has shipped the class in order
pub run-order : (k : FloatKind) (Known : ℕ → Type 0) (past : List ℕ) (old : List Recorded) {s : State} {r : Run} → RunIs s r → Kept s → Closing s → IsReleased k s.params → InOrder k Known past old s
    → EndsDone r.end → AllByRecursion IsEmptied r.records → RunOrder k Known (past ++ events_lines k r.events) (old ++ r.records)
run-order k Known past old (runs_out s) kept closing released h d m = absurd d
run-order k Known past old (starts_too_full s) kept closing released h d m = absurd d
run-order k Known past old (ends_so {s = s} x) kept closing released h d m = step-order k Known past old s kept closing released h x d m
run-order k Known past old (goes_on_so {s = s} {t = t} {es = es} {rs = rs} {r = r} x y) kept closing released h d m =
    let w = weighs nothing_weighs s kept (nothing-fits s.left_column (acted_of (page_of s).reached)) x in
    let c = steps-close s kept closing x in
    let o = step-order k Known past old s kept closing released h x in
    subst (λ l. RunOrder k Known (past ++ events_lines k (es ++ r.events)) l) (append_assoc old rs r.records)
    (subst (λ l. RunOrder k Known l ((old ++ rs) ++ r.records)) (append_assoc past (events_lines k es) (events_lines k r.events) ∙ ap (λ l. past ++ l) (sym (events-lines-append k es r.events)))
    (run-order k Known (past ++ events_lines k es) (old ++ rs) y w.0 c.1 (step-released k x released) (o (all-front IsEmptied rs r.records m)) d (all-back IsEmptied rs r.records m)))
