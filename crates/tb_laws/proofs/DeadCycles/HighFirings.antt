-- Each firing lowers what is left of the firings without a page, or ships a page, if the top skip is higher than a page.
use Rattle.std.proofs.Common.{◌≡◌, refl, sym, ◌∙◌, ap, subst, ℕ, zero, suc, ◌+◌, ◌*◌, ◌≤◌, inl, inr, ◌⊎◌, Bool, true, false, List, [], ◌∷◌, ◌++◌, length, arith}
use Rattle.std.specs.Prelude.{int_le}
use Rattle.std.specs.List.{AllByRecursion}
use Rattle.tb_scaled.specs.Scaled.{eject_penalty}
use Rattle.tb_scaled.specs.Glue.{filling_glue}
use Rattle.tb_node.specs.PlainNodes.{PlainNode, made, skip}
use Rattle.tb_param.specs.declared.Params.{Params}
use Rattle.tb_builder.specs.FiredPages.{Fired}
use Rattle.tb_column.specs.Column.{Notes, standing_notes}
use Rattle.tb_output.specs.State.{State, Work, begun, footnotes}
use Rattle.tb_output.specs.Columns
use Rattle.tb_output.specs.Clear
use Rattle.tb_output.specs.Text
use Rattle.tb_output.specs.Output
use Rattle.tb_sheet.specs.Asked
use Rattle.tb_laws.proofs.Closed.Sorts.{Sort, hold, serve, clear, pen_sort, sorts}
use Rattle.tb_laws.proofs.DeadCycles.AgainLemmas.{Again, Idle, left_after}
use Rattle.tb_laws.proofs.DeadCycles.WaitCosts.{sort_cost, wait_cost}
use Rattle.tb_laws.proofs.DeadCycles.SpacedLemmas.{Spaced, spaced-both, free-alone}
use Rattle.tb_output.proofs.StepLaws.FollowLemmas.{waiting_floats}
use Rattle.tb_laws.proofs.DeadCycles.ColumnOutcomes.{IsKept, last-out, first-out, last-ships, first-kept}
use Rattle.tb_laws.proofs.DeadCycles.ClearOutcomes.{NoneWait, Fits, How, ClearOut}
use Rattle.tb_laws.proofs.DeadCycles.ServeOutcomes.{way_floats}
use Rattle.tb_laws.proofs.DeadCycles.CycleStates.{any, phase_cost, PhaseHolds, FloatsFit, GoalOut, goal-out}
use Rattle.tb_laws.proofs.DeadCycles.CycleFirings.{none-again, cost-of, hold-quiet, serve-quiet, out-fit, o-fits, o-region, o-way, o-cost}
use Rattle.tb_laws.proofs.DeadCycles.CycleBreaks.{FiresWell, QuietOut, after, true-false, clear-no-hold, output-cases, ordinary-again}
use Rattle.tb_laws.proofs.DeadCycles.CycleClears.{left-of, cost, q-out, n-region, n-cost, n-fits, q-least}
use Rattle.tb_laws.proofs.DeadCycles.CycleVoids.{bit, half_nodes, rest_nodes, c, v-back, v-cost, v-region, v-fits, v-cycles, v-least, is_second, paused}
use Rattle.tb_laws.proofs.DeadCycles.RaiseCounts.{box_raises}
use Rattle.tb_laws.proofs.DeadCycles.RaiseFirings.{Drops}
use Rattle.tb_laws.proofs.DeadCycles.EndedLemmas.{Ended}
use Rattle.tb_laws.proofs.DeadCycles.CycleEnds.{half-spaced, rest-spaced, out-ended, out-spaced}
use Rattle.tb_laws.proofs.DeadCycles.HighStates.{Stage, loose, guarded, cleared, right, last, stage_cost, Guarded, StageHolds, phase_of, phase-holds, BoundedHigh, spaced-back, finish-high, shipped-high}

-- what is known of the page that fires: all that is known of any, how the clears after it are spaced if it is a clear, and that a page that is guarded breaks at a clear without footnotes only if it is raised
pub record FiresHigh (p : Params) (s : State) (total n : ℕ) (stage : Stage) (f : Fired) : Type 0 where
  pub well : FiresWell p s total n any (phase_of stage) f
  pub behind : Output.is_int f.penalty Asked.clear_penalty ≡ true → Spaced false f.rest
  pub guard : stage ≡ guarded → Output.is_int f.penalty Asked.clear_penalty ≡ true → standing_notes (footnotes (record s { boxes = f.boxes })) ≡ [] → box_raises f.boxes ≡ 0 → ⊥

-- a stage at which a first column, or the only one, is made
abbrev IsFirst : State → Type 0
IsFirst s = (s.two_columns ≡ false) ⊎ (s.first_column ≡ true)

first-cost : (p : Params) (s : State) (n : ℕ) (x : Stage) → StageHolds p s n x → IsFirst s → 2 ≤ stage_cost x
first-cost p s n right h (inl t) = true-false s.two_columns h.columns t
first-cost p s n right h (inr t) = true-false s.first_column t h.first
first-cost p s n last h (inl t) = true-false s.two_columns h.0.columns t
first-cost p s n last h (inr t) = true-false s.first_column t h.0.first
first-cost p s n x h i = omega arith

module _ (p : Params) (m : ℕ) (s : State) (total a : ℕ) (stage : Stage) (f : Fired) (calm : int_le p.interlinepenalty eject_penalty ≡ false)
    (holds : StageHolds p s a stage) (floats : FloatsFit p s)
    (weight : total + 2 * way_floats s.floats ≤ m + 3 * a)
    (bound : s.dead_cycles + total + 2 * way_floats s.floats + stage_cost stage ≤ m + 3 + 3 * a)
    (fires : FiresHigh p s total a stage f) where
  abbrev w0 : Work
  w0 = begun (Output.after_page s f)

  abbrev Result : Work → Type 0
  Result w = w.refused ≡ false → BoundedHigh p m (Output.waiting_again f (Output.next_goal p f.penalty w)).state

  -- the bound is kept, or the page drops what raises it, and it is kept with four more
  abbrev pub Keeps : Work → Type 0
  Keeps w = BoundedHigh p m w.state ⊎ (Drops s f × BoundedHigh p (m + 4) w.state)

  abbrev Lowered : Work → Type 0
  Lowered w = w.refused ≡ false → Keeps (Output.waiting_again f (Output.next_goal p f.penalty w))

  -- ---- what holds of the work of any firing, with a bound that is met in any case

  abbrev big : ℕ
  big = s.dead_cycles + total + 2 * way_floats s.floats + 4

  at : PhaseHolds s (phase_of stage)
  at = phase-holds p s a stage holds

  big-weight : total + 2 * way_floats s.floats + 2 ≤ big + 2 * a
  big-weight = sums s.dead_cycles total (way_floats s.floats)
    where
      sums : (d t y : ℕ) → t + 2 * y + 2 ≤ d + t + 2 * y + 4 + 2 * a
      sums d t y = omega arith

  big-bound : s.dead_cycles + total + 2 * way_floats s.floats + 2 + phase_cost (phase_of stage) ≤ big + 3 + 2 * a
  big-bound = sums s.dead_cycles total (way_floats s.floats) (phase_cost (phase_of stage)) (most stage)
    where
      most : (x : Stage) → phase_cost (phase_of x) ≤ 2
      most loose = omega arith
      most x = omega arith

      sums : (d t y h : ℕ) → h ≤ 2 → d + t + 2 * y + 2 + h ≤ d + t + 2 * y + 4 + 3 + 2 * a
      sums d t y h i = omega arith

  well : FiresWell p s total a any (phase_of stage) f
  well = fires.well

  -- ---- a page before a float or note, and the float or note

  quiet : (w : Work) → int_le eject_penalty f.penalty ≡ false → a ≡ 0 → (x : Sort) → pen_sort f.penalty ≡ x → sort_cost x ≡ 1 → QuietOut p s w → Result w
  quiet w h z x e one q r = by_stage stage refl holds
    where
      paid : wait_cost f.rest + sort_cost x ≤ total
      paid = cost-of p big s total a any (phase_of stage) f calm tt at floats big-weight big-bound well x e

      sums : (b r y y' o : ℕ) → b ≡ 0 → r + o ≤ total → o ≡ 1 → y ≤ y' → total + 2 * y' ≤ m + 3 * a → a ≡ 0 → b + r + 2 * y ≤ m + 3 * 0
      sums b r y y' o i j k l n q = omega arith

      sums-with : (b r y y' o d d' u v : ℕ) → b ≡ 0 → r + o ≤ total → o ≡ 1 → y ≤ y' → d ≡ d' + 1 → u ≤ v → d' + total + 2 * y' + v ≤ m + 3 + 3 * a → a ≡ 0 → d + (b + r) + 2 * y + u ≤ m + 3 + 3 * 0
      sums-with b r y y' o d d' u v i j k l n q t c = omega arith

      go : (t : Stage) → StageHolds p (after p m f well.held w) 0 t → (t ≡ last → 1 ≤ 0) → stage_cost t ≤ stage_cost stage → BoundedHigh p m (after p m f well.held w)
      go t g i l = finish-high p m f well.held w 0 t (λ bs i. tt) g i q.fits
          (sums (wait_cost w.put_back) (wait_cost f.rest) (way_floats w.state.floats) (way_floats s.floats) (sort_cost x) q.back paid one q.way weight z)
          (sums-with (wait_cost w.put_back) (wait_cost f.rest) (way_floats w.state.floats) (way_floats s.floats) (sort_cost x) w.state.dead_cycles s.dead_cycles (stage_cost t) (stage_cost stage) q.back paid one q.way q.cycles l bound z)

      goals : GoalOut p f.penalty w (Output.next_goal p f.penalty w)
      goals = goal-out p f.penalty w

      by_stage : (t : Stage) → t ≡ stage → StageHolds p s a t → BoundedHigh p m (after p m f well.held w)
      by_stage loose i k = go cleared refl (λ e. cc) (subst (λ (t : Stage). 2 ≤ stage_cost t) i (omega arith))
      by_stage guarded i k = go cleared refl (λ e. cc) (subst (λ (t : Stage). 2 ≤ stage_cost t) i (omega arith))
      by_stage cleared i k = go cleared refl (λ e. cc) (subst (λ (t : Stage). 2 ≤ stage_cost t) i (omega arith))
      by_stage right i k = go right (record { columns = goals.columns ∙ q.columns ∙ k.columns; first = goals.first ∙ q.first ∙ k.first }) (λ e. cc) (subst (λ (t : Stage). 1 ≤ stage_cost t) i (omega arith))
      by_stage last i k = true-false (int_le eject_penalty f.penalty) (well.ending (ap phase_of (sym i))) h

  at-hold : int_le eject_penalty f.penalty ≡ false → pen_sort f.penalty ≡ hold → Result (Output.hold f.body w0)
  at-hold h e = quiet (Output.hold f.body w0) h (none-again p big s total a any (phase_of stage) f calm tt at floats big-weight big-bound well (inl e)) hold e refl (hold-quiet p big s total a any (phase_of stage) f calm tt at floats big-weight big-bound well)

  at-serve : (vert : Bool) → int_le eject_penalty f.penalty ≡ false → pen_sort f.penalty ≡ serve → Result (Text.float_or_note p vert f.body w0)
  at-serve vert h e = quiet (Text.float_or_note p vert f.body w0) h (none-again p big s total a any (phase_of stage) f calm tt at floats big-weight big-bound well (inr e)) serve e refl (serve-quiet p big s total a any (phase_of stage) f calm tt at floats big-weight big-bound well vert)

  -- ---- a page is out, or the first of two columns is kept

  module _ (w : Work) (again : ℕ) (region : (bs : List PlainNode) → AllByRecursion Idle (sorts bs) → Again again (sorts w.put_back ++ (sorts bs ++ sorts f.rest))) (fits : FloatsFit p w.state)
      (paid : wait_cost w.put_back + wait_cost f.rest + 2 * way_floats w.state.floats + 3 * a ≤ total + 2 * way_floats s.floats + 3 * again) where
    by-weight : wait_cost w.put_back + wait_cost f.rest + 2 * way_floats w.state.floats ≤ m + 3 * again
    by-weight = sums (wait_cost w.put_back + wait_cost f.rest) (way_floats w.state.floats) (way_floats s.floats) paid weight
      where
        sums : (b y y' : ℕ) → b + 2 * y + 3 * a ≤ total + 2 * y' + 3 * again → total + 2 * y' ≤ m + 3 * a → b + 2 * y ≤ m + 3 * again
        sums b y y' h i = omega arith

    out-by : w.state.dead_cycles ≡ 0 → BoundedHigh p m (after p m f well.held w)
    out-by d = shipped-high p m f well.held w again region fits d by-weight

    lower-by : (t : Stage) → StageHolds p (after p m f well.held w) again t → (t ≡ last → 1 ≤ again) → w.state.dead_cycles ≡ s.dead_cycles + 1 → stage_cost t + 1 ≤ stage_cost stage → BoundedHigh p m (after p m f well.held w)
    lower-by t h i d l = finish-high p m f well.held w again t region h i fits by-weight (sums (wait_cost w.put_back + wait_cost f.rest) (way_floats w.state.floats) (way_floats s.floats) w.state.dead_cycles s.dead_cycles (stage_cost t) (stage_cost stage) paid d l bound)
      where
        sums : (b y y' d d' u v : ℕ) → b + 2 * y + 3 * a ≤ total + 2 * y' + 3 * again → d ≡ d' + 1 → u + 1 ≤ v → d' + total + 2 * y' + v ≤ m + 3 + 3 * a → d + b + 2 * y + u ≤ m + 3 + 3 * again
        sums b y y' d d' u v h i j k = omega arith

    kept-by : s.two_columns ≡ true → s.first_column ≡ true → w.state.two_columns ≡ s.two_columns → w.state.first_column ≡ false → w.state.dead_cycles ≡ s.dead_cycles + 1 → BoundedHigh p m (after p m f well.held w)
    kept-by t c columns first d =
        let g : GoalOut p f.penalty w (Output.next_goal p f.penalty w) = goal-out p f.penalty w in
        lower-by right (record { columns = g.columns ∙ columns ∙ t; first = g.first ∙ first }) (λ e. cc) d (first-cost p s a stage holds (inr c))

  -- ---- an ordinary firing

  abbrev o : Work
  o = Columns.ordinary p f.body w0

  module _ (ordinary : int_le eject_penalty f.penalty ≡ true) where
    o-again : (bs : List PlainNode) → AllByRecursion Idle (sorts bs) → Again a (sorts o.put_back ++ (sorts bs ++ sorts f.rest))
    o-again = o-region p big s total a any (phase_of stage) f calm tt at floats big-weight big-bound well (ordinary-again a f.rest f.penalty ordinary well.region)

    o-fit : FloatsFit p o.state
    o-fit = o-fits p big s total a any (phase_of stage) f calm tt at floats big-weight big-bound well

    o-free : wait_cost o.put_back ≡ 0
    o-free = o-cost p big s total a any (phase_of stage) f calm tt at floats big-weight big-bound well

    o-paid : wait_cost o.put_back + wait_cost f.rest + 2 * way_floats o.state.floats + 3 * a ≤ total + 2 * way_floats s.floats + 3 * a
    o-paid = sums (wait_cost o.put_back) (wait_cost f.rest) (way_floats o.state.floats) (way_floats s.floats) (sort_cost (pen_sort f.penalty)) o-free well.cost (o-way p big s total a any (phase_of stage) f calm tt at floats big-weight big-bound well 0 0 (zeros (waiting_floats o.state.floats) (waiting_floats s.floats) (out-fit p big s total a any (phase_of stage) f calm tt at floats big-weight big-bound well).floats))
      where
        zeros : (x y : ℕ) → x ≤ y → x + 0 ≤ y + 0
        zeros x y h = omega arith

        sums : (b r y y' x : ℕ) → b ≡ 0 → r + x ≤ total → y + 0 ≤ y' + 0 → b + r + 2 * y + 3 * a ≤ total + 2 * y' + 3 * a
        sums b r y y' x h i j = omega arith

    shipped-column : (s.two_columns ≡ false) ⊎ (s.first_column ≡ false) → Result o
    shipped-column l r = out-by o a o-again o-fit o-paid ((last-out (Fits p) p f.body w0 l).cycles r)

    first-column : s.two_columns ≡ true → s.first_column ≡ true → Result o
    first-column t c r = by_out ((first-out (Fits p) p f.body w0 t c).by r)
      where
        by_out : ((o.state.dead_cycles ≡ 0) × (waiting_floats o.state.floats + 1 ≤ waiting_floats s.floats)) ⊎ ((o.state.first_column ≡ false) × (o.state.floats.double ≡ s.floats.double) × (waiting_floats o.state.floats + (length s.floats.top + length s.floats.bottom) ≤ waiting_floats s.floats) × (o.state.dead_cycles ≡ s.dead_cycles + 1)) → BoundedHigh p m (after p m f well.held o)
        by_out (inl x) = out-by o a o-again o-fit o-paid x.0
        by_out (inr x) = kept-by o a o-again o-fit o-paid t c (out-fit p big s total a any (phase_of stage) f calm tt at floats big-weight big-bound well).columns x.0 x.3

    at-ordinary : Result (Columns.ordinary p f.body w0)
    at-ordinary = by_columns s.two_columns s.first_column refl refl
      where
        by_columns : (t c : Bool) → s.two_columns ≡ t → s.first_column ≡ c → Result (Columns.ordinary p f.body w0)
        by_columns false c i j = shipped-column (inl i)
        by_columns true true i j = first-column i j
        by_columns true false i j = shipped-column (inr j)

  -- ---- a clear

  module _ (special : int_le eject_penalty f.penalty ≡ false) (clears : Output.is_int f.penalty Asked.clear_penalty ≡ true) where
    abbrev d : ℕ
    d = left_after a clear

    f-cost : wait_cost f.rest + 3 ≤ total
    f-cost = cost p big s total a any (phase_of stage) f calm tt at floats big-weight big-bound well special clears

    f-spaced : Spaced false f.rest
    f-spaced = fires.behind clears

    most : a ≤ d + 1
    most = by_left (left-of a)
      where
        by_left : (a ≡ 0) ⊎ (a ≡ d + 1) → a ≤ d + 1
        by_left (inl e) = omega arith
        by_left (inr e) = omega arith

    -- with footnotes

    abbrev q : Work
    q = Columns.put_out_text p (f.body ++ made (skip filling_glue) ∷ []) w0

    abbrev n : Notes → List Notes → Work
    n head notes = Clear.clear_by p f.body w0 (head ∷ notes)

    with-notes : (head : Notes) (notes : List Notes) → standing_notes (footnotes w0.state) ≡ head ∷ notes → Result (Clear.clear_by p f.body w0 (head ∷ notes))
    with-notes head notes e r = by_columns s.two_columns s.first_column refl refl
      where
        region : (bs : List PlainNode) → AllByRecursion Idle (sorts bs) → Again (suc d) (sorts (n head notes).put_back ++ (sorts bs ++ sorts f.rest))
        region = n-region p big s total a any (phase_of stage) f calm tt at floats big-weight big-bound well special clears

        fits : FloatsFit p (n head notes).state
        fits = n-fits p big s total a any (phase_of stage) f calm tt at floats big-weight big-bound well special clears head notes

        paid : wait_cost (n head notes).put_back + wait_cost f.rest + 2 * way_floats (n head notes).state.floats + 3 * a ≤ total + 2 * way_floats s.floats + 3 * suc d
        paid = sums (wait_cost (n head notes).put_back) (wait_cost f.rest) (way_floats (n head notes).state.floats) (way_floats s.floats) (n-cost p big s total a any (phase_of stage) f calm tt at floats big-weight big-bound well special clears) f-cost (q-least p big s total a any (phase_of stage) f calm tt at floats big-weight big-bound well special clears) most
          where
            sums : (b r y y' : ℕ) → b ≡ 3 → r + 3 ≤ total → y ≤ y' → a ≤ d + 1 → b + r + 2 * y + 3 * a ≤ total + 2 * y' + 3 * suc d
            sums b r y y' h i j k = omega arith

        shipped : (s.two_columns ≡ false) ⊎ (s.first_column ≡ false) → BoundedHigh p m (after p m f well.held (n head notes))
        shipped l = out-by (n head notes) (suc d) region fits paid (last-ships (Fits p) p (Columns.text_of p w0.state (f.body ++ made (skip filling_glue) ∷ [])) (Columns.without_column_floats w0) l r)

        kept : s.two_columns ≡ true → s.first_column ≡ true → BoundedHigh p m (after p m f well.held (n head notes))
        kept t c =
            let k : IsKept (Fits p) p (Columns.without_column_floats w0) q = first-kept (Fits p) p (Columns.text_of p w0.state (f.body ++ made (skip filling_glue) ∷ [])) (Columns.without_column_floats w0) t c in
            kept-by (n head notes) (suc d) region fits paid t c (q-out p big s total a any (phase_of stage) f calm tt at floats big-weight big-bound well special clears).columns k.first k.cycles

        by_columns : (t c : Bool) → s.two_columns ≡ t → s.first_column ≡ c → BoundedHigh p m (after p m f well.held (n head notes))
        by_columns false c i j = shipped (inl i)
        by_columns true true i j = kept i j
        by_columns true false i j = shipped (inr j)

    -- without footnotes

    module _ (void : standing_notes (footnotes (record s { boxes = f.boxes })) ≡ []) where
      abbrev v : Work
      v = Clear.clear_floats p f.body (Clear.without_notes w0)

      abbrev v-done : State
      v-done = after p m f well.held (Clear.clear_floats p f.body (Clear.without_notes w0))

      abbrev k : ClearOut (Fits p) p f.body (Clear.without_notes w0) (Clear.clear_floats p f.body (Clear.without_notes w0))
      k = c p big s total a any (phase_of stage) f calm tt at floats big-weight big-bound well special clears void

      abbrev again : ℕ
      again = d + bit k.half + bit k.rest

      region : (bs : List PlainNode) → AllByRecursion Idle (sorts bs) → Again again (sorts v.put_back ++ (sorts bs ++ sorts f.rest))
      region = v-region p big s total a any (phase_of stage) f calm tt at floats big-weight big-bound well special clears void

      fits : FloatsFit p v.state
      fits = v-fits p big s total a any (phase_of stage) f calm tt at floats big-weight big-bound well special clears void

      spaced : Spaced false v-done.waiting
      spaced =
          spaced-back p m f well.held v
          (subst (Spaced false) (sym (v-back p big s total a any (phase_of stage) f calm tt at floats big-weight big-bound well special clears void))
          (spaced-both false (Clear.cleared_front p f.body) (half_nodes k.half ++ rest_nodes k.rest) (free-alone false (Clear.cleared_front p f.body) (well.blank clears void).3) (spaced-both false (half_nodes k.half) (rest_nodes k.rest) (half-spaced k.half) (rest-spaced k.rest)))) f-spaced

      least : way_floats v.state.floats ≤ way_floats s.floats
      least = v-least p big s total a any (phase_of stage) f calm tt at floats big-weight big-bound well special clears void

      back : wait_cost v.put_back ≡ 3 * bit k.half + 3 * bit k.rest
      back = v-cost p big s total a any (phase_of stage) f calm tt at floats big-weight big-bound well special clears void

      paid : wait_cost v.put_back + wait_cost f.rest + 2 * way_floats v.state.floats + 3 * a ≤ total + 2 * way_floats s.floats + 3 * again
      paid = sums (wait_cost v.put_back) (wait_cost f.rest) (way_floats v.state.floats) (way_floats s.floats) (bit k.half) (bit k.rest) back f-cost least most
        where
          sums : (b r y y' h t : ℕ) → b ≡ 3 * h + 3 * t → r + 3 ≤ total → y ≤ y' → a ≤ d + 1 → b + r + 2 * y + 3 * a ≤ total + 2 * y' + 3 * (d + h + t)
          sums b r y y' h t i j l n = omega arith

      shipped : v.state.dead_cycles ≡ 0 → BoundedHigh p m v-done
      shipped e = out-by v again region fits paid e

      lowered : (t : Stage) → StageHolds p v-done again t → (t ≡ last → 1 ≤ again) → v.state.dead_cycles ≡ s.dead_cycles + 1 → stage_cost t + 1 ≤ stage_cost stage → BoundedHigh p m v-done
      lowered t h i e l = lower-by v again region fits paid t h i e l

      -- a clear of an item pays for any stage
      item-paid : a ≡ 0 → (t : Stage) → StageHolds p v-done again t → (t ≡ last → 1 ≤ again) → v.state.dead_cycles ≡ s.dead_cycles + 1 → stage_cost t ≤ 2 → BoundedHigh p m v-done
      item-paid z t h i e l = finish-high p m f well.held v again t region h i fits
          (by-weight v again region fits paid)
          (sums (wait_cost v.put_back) (wait_cost f.rest) (way_floats v.state.floats) (way_floats s.floats) (bit k.half) (bit k.rest) v.state.dead_cycles s.dead_cycles (stage_cost t) (stage_cost stage) back f-cost least e l bound z)
        where
          sums : (b r y y' h t d1 d0 u w : ℕ) → b ≡ 3 * h + 3 * t → r + 3 ≤ total → y ≤ y' → d1 ≡ d0 + 1 → u ≤ 2 → d0 + total + 2 * y' + w ≤ m + 3 + 3 * a → a ≡ 0 → d1 + (b + r) + 2 * y + u ≤ m + 3 + 3 * (d + h + t)
          sums b r y y' h t d1 d0 u w i j l n o x z = omega arith

      cycles : v.refused ≡ false → (v.state.dead_cycles ≡ s.dead_cycles + 1) ⊎ (v.state.dead_cycles ≡ 0)
      cycles = v-cycles p big s total a any (phase_of stage) f calm tt at floats big-weight big-bound well special clears void

      v-goal : GoalOut p f.penalty v (Output.next_goal p f.penalty v)
      v-goal = goal-out p f.penalty v

      -- the lists are empty: the page that begins is guarded
      is-guarded : NoneWait v.state.floats → Guarded p v-done
      is-guarded n = record { goal = (v-goal.quiet (clear-no-hold f.penalty clears) n.top n.bottom n.double).1; spaced = spaced }

      emptied : box_raises f.boxes ≡ 0 → v.refused ≡ false → k.half ≡ false → k.rest ≡ false → NoneWait v.state.floats → IsFirst s → BoundedHigh p m v-done
      emptied none r i j n o = by_cycles (cycles r)
        where
          none-later : a ≡ 0 → again ≡ 0
          none-later z = sums (bit k.half) (bit k.rest) (ap bit i) (ap bit j) (ap (λ x. left_after x clear) z)
            where
              sums : (h t : ℕ) → h ≡ 0 → t ≡ 0 → d ≡ 0 → d + h + t ≡ 0
              sums h t i j k = omega arith

          by_stage : v.state.dead_cycles ≡ s.dead_cycles + 1 → a ≡ d + 1 → (t : Stage) → t ≡ stage → StageHolds p s a t → BoundedHigh p m v-done
          by_stage e l loose g h = lowered guarded (is-guarded n) (λ x. cc) e (subst (λ (t : Stage). 3 ≤ stage_cost t) g (omega arith))
          by_stage e l guarded g h = absurd (fires.guard (sym g) clears void none)
          by_stage e l cleared g h = absurd (never a d h l)
            where
              never : (x y : ℕ) → x ≡ 0 → x ≡ y + 1 → ⊥
              never x y h i = omega arith
          by_stage e l right g h = absurd (low (first-cost p s a right h o))
            where
              low : 2 ≤ 1 → ⊥
              low h = omega arith
          by_stage e l last g h = absurd (low (first-cost p s a last h o))
            where
              low : 2 ≤ 0 → ⊥
              low h = omega arith

          by_left : v.state.dead_cycles ≡ s.dead_cycles + 1 → (a ≡ 0) ⊎ (a ≡ d + 1) → BoundedHigh p m v-done
          by_left e (inl z) = item-paid z cleared (none-later z) (λ x. cc) e (omega arith)
          by_left e (inr l) = by_stage e l stage refl holds

          by_cycles : (v.state.dead_cycles ≡ s.dead_cycles + 1) ⊎ (v.state.dead_cycles ≡ 0) → BoundedHigh p m v-done
          by_cycles (inl e) = by_left e (left-of a)
          by_cycles (inr e) = shipped e

      -- a second column is left blank, and ends with the next firing
      module _ (none : box_raises f.boxes ≡ 0) (half : k.half ≡ true) (two : s.two_columns ≡ true) (first : v.state.first_column ≡ false) (top : v.state.floats.top ≡ []) (bottom : v.state.floats.bottom ≡ []) (double : v.state.floats.double ≡ s.floats.double) (fewer : s.first_column ≡ true → waiting_floats v.state.floats + 1 ≤ waiting_floats s.floats) where
        some-later : 1 ≤ again
        some-later = sums (bit k.half) (bit k.rest) (ap bit half)
          where
            sums : (h t : ℕ) → h ≡ 1 → 1 ≤ d + h + t
            sums h t i = omega arith

        is-last : StageHolds p v-done again last
        is-last = (is_second p big s total a any (phase_of stage) f calm tt at floats big-weight big-bound well special clears void none half two first top bottom double fewer, paused p big s total a any (phase_of stage) f calm tt at floats big-weight big-bound well special clears void none half two first top bottom double fewer)

        stage-paid : 1 ≤ stage_cost stage
        stage-paid = by_stage stage refl
          where
            by_stage : (t : Stage) → t ≡ stage → 1 ≤ stage_cost t
            by_stage last g = true-false (int_le eject_penalty f.penalty) (well.ending (ap phase_of (sym g))) special
            by_stage t g = omega arith

        blanked : v.refused ≡ false → BoundedHigh p m v-done
        blanked r = by_cycles (cycles r)
          where
            by_cycles : (v.state.dead_cycles ≡ s.dead_cycles + 1) ⊎ (v.state.dead_cycles ≡ 0) → BoundedHigh p m v-done
            by_cycles (inl e) = lowered last is-last (λ x. some-later) e stage-paid
            by_cycles (inr e) = shipped e

      at-void : box_raises f.boxes ≡ 0 → Result (Clear.clear_floats p f.body (Clear.without_notes w0))
      at-void none r = by_how k.how
        where
          by_how : How (Fits p) p (Clear.without_notes w0) v k.half k.rest → BoundedHigh p m v-done
          by_how (inl h) = emptied none r h.0 h.1 h.2 h.3
          by_how (inr (inl h)) = blanked none h.0 h.1 h.2 h.3 h.4 h.5 h.6 r
          by_how (inr (inr h)) = shipped (h.0 r)

      -- with four firings more nothing need be known of it
      at-dropped : v.refused ≡ false → BoundedHigh p (m + 4) (Output.waiting_again f (Output.next_goal p f.penalty v)).state
      at-dropped r = finish-high p (m + 4) f well.held v again loose region tt (λ e. cc) fits
          (more (wait_cost v.put_back + wait_cost f.rest + 2 * way_floats v.state.floats) again (by-weight v again region fits paid))
          (sums (wait_cost v.put_back + wait_cost f.rest) (way_floats v.state.floats) (way_floats s.floats) again v.state.dead_cycles s.dead_cycles (stage_cost stage) paid (one-more v.state.dead_cycles s.dead_cycles (cycles r)) bound)
        where
          more : (x g : ℕ) → x ≤ m + 3 * g → x ≤ m + 4 + 3 * g
          more x g h = omega arith

          one-more : (x y : ℕ) → (x ≡ y + 1) ⊎ (x ≡ 0) → x ≤ y + 1
          one-more x y (inl e) = omega arith
          one-more x y (inr e) = omega arith

          sums : (b y y' g d1 d0 u : ℕ) → b + 2 * y + 3 * a ≤ total + 2 * y' + 3 * g → d1 ≤ d0 + 1 → d0 + total + 2 * y' + u ≤ m + 3 + 3 * a → d1 + b + 2 * y + 3 ≤ m + 4 + 3 + 3 * g
          sums b y y' g d1 d0 u h i j = omega arith

    at-clear : Lowered (Clear.clear p f.body w0)
    at-clear = by_notes (standing_notes (footnotes (record s { boxes = f.boxes }))) refl
      where
        by_notes : (x : List Notes) → standing_notes (footnotes (record s { boxes = f.boxes })) ≡ x → Lowered (Clear.clear_by p f.body w0 x)
        by_notes [] e r = by_raise (box_raises f.boxes) refl
          where
            by_raise : (n : ℕ) → box_raises f.boxes ≡ n → Keeps (Output.waiting_again f (Output.next_goal p f.penalty (Clear.clear_floats p f.body (Clear.without_notes w0))))
            by_raise zero z = inl (at-void e z r)
            by_raise (suc n) z = inr ((special, clears, e, omega (arith, z)), at-dropped e r)
        by_notes (head ∷ notes) e r = inl (with-notes head notes e r)

  -- ---- every firing

  outputs : Lowered (Output.output_by p f w0)
  outputs = output-cases p f w0 Lowered well.regular (λ e r. inl (at-ordinary e r)) (λ e k. at-clear e k) (λ vert e x r. inl (at-serve vert e x r)) (λ e x r. inl (at-hold e x r))

  -- a firing keeps the bound
  pub out-high : (Output.out p s f).refused ≡ false → Keeps (Output.out p s f)
  unfolding Output.out
  out-high r = outputs (sym (goal-out p f.penalty (Output.output_by p f w0)).refused ∙ r)

  -- each clear that waits comes after a flat box again
  pub high-ended : Ended false f.rest → Ended false (Output.out p s f).state.waiting
  high-ended r = out-ended p big s total a any (phase_of stage) f calm tt at floats big-weight big-bound well r

  -- and after a node that lasts at the top of a page
  pub high-spaced : Spaced true f.rest → Spaced true (Output.out p s f).state.waiting
  high-spaced r = out-spaced p big s total a any (phase_of stage) f calm tt at floats big-weight big-bound well r fires.behind
