-- Each firing lowers what is left of the firings without a page, or ships a page.
use Rattle.std.proofs.Common.{◌≡◌, refl, sym, ◌∙◌, ap, subst, ℕ, ◌+◌, ◌*◌, ◌≤◌, inl, inr, ◌⊎◌, Bool, true, false, List, [], ◌++◌, length, arith}
use Rattle.std.specs.Prelude.{int_le, if◌then◌else◌}
use Rattle.std.specs.List.{AllByRecursion}
use Rattle.tb_scaled.specs.Scaled.{eject_penalty}
use Rattle.tb_node.specs.declared.Float.{Float}
use Rattle.tb_node.specs.PlainNodes.{PlainNode}
use Rattle.tb_param.specs.declared.Params.{Params}
use Rattle.tb_builder.specs.FiredPages.{Fired}
use Rattle.tb_laws.proofs.PageBreaks.FittingFired.{Fitted}
use Rattle.tb_param.specs.Release.{has_second}
use Rattle.tb_float.specs.declared.Part.TheVariants as parts
use Rattle.tb_float.specs.Lists.{FloatLists, wide_part}
use Rattle.tb_output.specs.State.{State, Work, begun, notes_in}
use Rattle.tb_output.specs.Columns
use Rattle.tb_output.specs.Text
use Rattle.tb_output.specs.Output
use Rattle.tb_sheet.specs.Asked
use Rattle.tb_laws.proofs.Closed.Sorts.{Sort, hold, serve, pen_sort, sorts}
use Rattle.tb_laws.proofs.DeadCycles.AgainLemmas.{Again, Idle, BreakAgain, again-idle}
use Rattle.tb_laws.proofs.DeadCycles.WaitCosts.{sort_cost, wait_cost}
use Rattle.tb_output.proofs.StepLaws.FollowLemmas.{waiting_floats}
use Rattle.tb_laws.proofs.DeadCycles.ColumnOutcomes.{TextOut, LastOut, ordinary-out, last-out, first-out}
use Rattle.tb_laws.proofs.DeadCycles.ClearOutcomes.{NoneWait, Fits, Single, Wide}
use Rattle.tb_laws.proofs.StepLaws.WideLemmas.{KeepsDouble, ordinary-double}
use Rattle.tb_laws.proofs.StepLaws.SideLemmas.{Sides, narrow-lists, wide-second, none-second}
use Rattle.tb_laws.proofs.StepLaws.SideSteps.{ordinary-sides}
use Rattle.tb_laws.proofs.DeadCycles.ServeOutcomes.{NarrowWait, AllCurrent, current_floats, way_floats, Served, served}
use Rattle.tb_laws.proofs.DeadCycles.CycleStates.{Kind, any, doubled, once, topped, ready, halted, clean, single, closed, credit, IsSecond, Holds, Phase, starting, second, ending, phase_cost, PhaseHolds, FloatsFit, Bounded, GoalOut, goal-out}
use Rattle.tb_laws.proofs.DeadCycles.CycleBreaks.{ordinary-again, FiresWell, fits-same, after, finish, finish-shipped, none-count, none-left, true-false, notes-emptied, no-hold, no-clear, some-or-none, QuietOut}

module _ (p : Params) (m : ℕ) (s : State) (total a : ℕ) (kind : Kind) (phase : Phase) (f : Fired) (calm : int_le p.interlinepenalty eject_penalty ≡ false)
    (holds : Holds p s a kind) (at : PhaseHolds s phase) (floats : FloatsFit p s)
    (weight : total + 2 * way_floats s.floats + credit kind ≤ m + 2 * a)
    (bound : s.dead_cycles + total + 2 * way_floats s.floats + credit kind + phase_cost phase ≤ m + 3 + 2 * a)
    (well : FiresWell p s total a kind phase f) where
  abbrev w0 : Work
  w0 = begun (Output.after_page s f)

  abbrev Result : Work → Type 0
  Result w = w.refused ≡ false → Bounded p m (Output.waiting_again f (Output.next_goal p f.penalty w)).state

  -- ---- a page before a float or note, and the float or note

  pub none-again : pen_sort f.penalty ≡ hold ⊎ pen_sort f.penalty ≡ serve → a ≡ 0
  none-again (inl e) = subst (λ (x : Sort). BreakAgain a f.rest x) e well.region
  none-again (inr e) = subst (λ (x : Sort). BreakAgain a f.rest x) e well.region

  pub cost-of : (x : Sort) → pen_sort f.penalty ≡ x → wait_cost f.rest + sort_cost x ≤ total
  cost-of x e = subst (λ (y : Sort). wait_cost f.rest + sort_cost y ≤ total) e well.cost

  -- the phase goes on if no column is put out
  same-phase : int_le eject_penalty f.penalty ≡ false → (t : State) → t.two_columns ≡ s.two_columns → t.first_column ≡ s.first_column → PhaseHolds t phase
  same-phase h t c d = by_phase phase at well.ending
    where
      by_phase : (x : Phase) → PhaseHolds s x → (x ≡ ending → int_le eject_penalty f.penalty ≡ true) → PhaseHolds t x
      by_phase starting k e = tt
      by_phase second k e = record { columns = c ∙ k.columns; first = d ∙ k.first }
      by_phase ending k e = true-false (int_le eject_penalty f.penalty) (e refl) h

  quiet-bounded : (w : Work) → int_le eject_penalty f.penalty ≡ false → a ≡ 0 → (x : Sort) → pen_sort f.penalty ≡ x → sort_cost x ≡ 1 → QuietOut p s w → Result w
  quiet-bounded w h z x e one q r =
      let g = goal-out p f.penalty w in
      finish p m f well.held w 0 closed phase (λ bs i. tt) refl (same-phase h (after p m f well.held w) (g.columns ∙ q.columns) (g.first ∙ q.first)) (λ e. true-false (int_le eject_penalty f.penalty) (well.ending e) h) q.fits
      (sums (wait_cost w.put_back) (wait_cost f.rest) (way_floats w.state.floats) (way_floats s.floats) (credit kind) (sort_cost x) q.back (cost-of x e) one q.way (ap (λ n. m + 2 * n) z) weight)
      (sums-with (wait_cost w.put_back) (wait_cost f.rest) (way_floats w.state.floats) (way_floats s.floats) (credit kind) (sort_cost x) w.state.dead_cycles s.dead_cycles (phase_cost phase) q.back (cost-of x e) one q.way (ap (λ n. m + 3 + 2 * n) z) q.cycles bound)
    where
      sums : (b r y y' c o : ℕ) → b ≡ 0 → r + o ≤ total → o ≡ 1 → y ≤ y' → m + 2 * a ≡ m + 2 * 0 → total + 2 * y' + c ≤ m + 2 * a → b + r + 2 * y + 0 ≤ m + 2 * 0
      sums b r y y' c o i j k l n q = omega arith

      sums-with : (b r y y' c o d d' h : ℕ) → b ≡ 0 → r + o ≤ total → o ≡ 1 → y ≤ y' → m + 3 + 2 * a ≡ m + 3 + 2 * 0 → d ≡ d' + 1 → d' + total + 2 * y' + c + h ≤ m + 3 + 2 * a → d + (b + r) + 2 * y + 0 + h ≤ m + 3 + 2 * 0
      sums-with b r y y' c o d d' h i j k l n q t = omega arith

  begun-fits : (t : State) → t.floats ≡ s.floats → t.two_columns ≡ s.two_columns → FloatsFit p t
  begun-fits t e c = fits-same p s t e c floats

  pub hold-quiet : QuietOut p s (Output.hold f.body w0)
  hold-quiet = record { back = refl; columns = refl; first = refl; way = omega arith; cycles = refl; fits = begun-fits (Output.hold f.body w0).state refl refl }

  pub serve-quiet : (vert : Bool) → QuietOut p s (Text.float_or_note p vert f.body w0)
  serve-quiet vert =
      let x : Served (Fits p) (record w0 { state = record w0.state { held_page = []; boxes = Columns.emptied_boxes w0.state.boxes } }) (Text.float_or_note p vert f.body w0) = served (Fits p) (λ f h. h) p calm vert f.body w0 well.body in
      let y : Served Single (record w0 { state = record w0.state { held_page = []; boxes = Columns.emptied_boxes w0.state.boxes } }) (Text.float_or_note p vert f.body w0) = served Single (λ f h. h) p calm vert f.body w0 well.body in
      record {
        back = x.cost;
        columns = x.columns;
        first = x.first;
        way = x.floats;
        cycles = x.cycles;
        fits = record {
          fit = (x.all floats.fit floats.current).0;
          current = (x.all floats.fit floats.current).1;
          single = λ k. let z = floats.single (sym x.columns ∙ k) in y.all z.0 z.1;
          double = record { wide = subst (AllByRecursion Wide) (sym x.double) floats.double.wide; none = λ k. x.double ∙ floats.double.none (sym x.columns ∙ k) };
          sides = by_release (has_second p) refl;
          narrow = λ k. (moved k).1;
        };
      }
    where
      b : Work
      b = Text.float_or_note p vert f.body w0

      z : Served Single (record w0 { state = record w0.state { held_page = []; boxes = Columns.emptied_boxes w0.state.boxes } }) (Text.float_or_note p vert f.body w0)
      z = served Single (λ f h. h) p calm vert f.body w0 well.body

      moved : has_second p ≡ true → NarrowWait Single b.state.floats × AllCurrent Single b.state.floats.current
      moved r = let n = narrow-lists p s.floats floats.sides r in z.narrow (record { top = n.top; bottom = n.bottom; deferred = n.deferred }) (floats.narrow r)

      by_release : (t : Bool) → has_second p ≡ t → Sides (if t then parts.Second else parts.Deferred) b.state.floats
      by_release true r = let n : NarrowWait Single b.state.floats × AllCurrent Single b.state.floats.current = moved r in (record { top = n.0.top; bottom = n.0.bottom; deferred = n.0.deferred }, subst (AllByRecursion Wide) (sym z.second) (wide-second p s.floats floats.sides))
      by_release false r = z.second ∙ none-second p s.floats floats.sides r

  pub at-hold : int_le eject_penalty f.penalty ≡ false → pen_sort f.penalty ≡ hold → Result (Output.hold f.body w0)
  at-hold h e = quiet-bounded (Output.hold f.body w0) h (none-again (inl e)) hold e refl hold-quiet

  pub at-serve : (vert : Bool) → int_le eject_penalty f.penalty ≡ false → pen_sort f.penalty ≡ serve → Result (Text.float_or_note p vert f.body w0)
  at-serve vert h e = quiet-bounded (Text.float_or_note p vert f.body w0) h (none-again (inr e)) serve e refl (serve-quiet vert)

  -- ---- an ordinary firing

  pub text-fits : (w : Work) → TextOut (Fits p) p w0 w → TextOut Single p w0 w → KeepsDouble w0 w → Sides (wide_part p) w.state.floats → FloatsFit p w.state
  text-fits w x y z sides = record {
    fit = x.all floats.fit;
    current = subst (AllCurrent (Fits p)) (sym x.current) floats.current;
    single = λ k. let c = floats.single (sym x.columns ∙ k) in (y.all c.0, subst (AllCurrent Single) (sym x.current) c.1);
    double = z.by (record { wide = floats.double.wide; none = floats.double.none });
    sides = sides;
    narrow = λ k. subst (AllCurrent Single) (sym x.current) (floats.narrow k);
  }

  abbrev o : Work
  o = Columns.ordinary p f.body w0

  abbrev done : State
  done = after p m f well.held (Columns.ordinary p f.body w0)

  abbrev ordinary-goal : GoalOut p f.penalty (Columns.ordinary p f.body w0) (Output.next_goal p f.penalty (Columns.ordinary p f.body w0))
  ordinary-goal = goal-out p f.penalty (Columns.ordinary p f.body w0)

  pub out-fit : TextOut (Fits p) p w0 o
  out-fit = ordinary-out (Fits p) p f.body w0

  pub o-fits : FloatsFit p o.state
  o-fits = text-fits o out-fit (ordinary-out Single p f.body w0) (ordinary-double p f.body w0) (ordinary-sides p f.body w0 (record { wide = floats.double.wide; none = floats.double.none }) floats.sides)

  -- what is put back is nothing, so the clears that are to come are in the rest
  pub o-region : Again a (sorts f.rest) → (bs : List PlainNode) → AllByRecursion Idle (sorts bs) → Again a (sorts o.put_back ++ (sorts bs ++ sorts f.rest))
  o-region h bs i = subst (λ (ns : List PlainNode). Again a (sorts ns ++ (sorts bs ++ sorts f.rest))) (sym out-fit.back) (again-idle a (sorts bs) (sorts f.rest) i h)

  pub o-way : (x y : ℕ) → waiting_floats o.state.floats + x ≤ waiting_floats s.floats + y → way_floats o.state.floats + x ≤ way_floats s.floats + y
  o-way x y h = sums (waiting_floats o.state.floats) (waiting_floats s.floats) (current_floats o.state.floats.current) (current_floats s.floats.current) (ap current_floats out-fit.current) h
    where
      sums : (b d e g : ℕ) → e ≡ g → b + x ≤ d + y → b + e + x ≤ d + g + y
      sums b d e g i j = omega arith

  pub o-cost : wait_cost o.put_back ≡ 0
  o-cost = ap wait_cost out-fit.back

  -- if the page is out: what is known afterwards, and how the floats and the credit changed
  out-by : Again a (sorts f.rest) → (k : Kind) → Holds p done a k → o.state.dead_cycles ≡ 0 → 2 * way_floats o.state.floats + credit k ≤ 2 * way_floats s.floats + credit kind → Bounded p m done
  out-by r k h d c = finish-shipped p m f well.held o a k (o-region r) h o-fits d (sums (wait_cost o.put_back) (wait_cost f.rest) (way_floats o.state.floats) (way_floats s.floats) (credit k) (credit kind) (sort_cost (pen_sort f.penalty)) o-cost well.cost c weight)
    where
      sums : (b r y y' c c' x : ℕ) → b ≡ 0 → r + x ≤ total → 2 * y + c ≤ 2 * y' + c' → total + 2 * y' + c' ≤ m + 2 * a → b + r + 2 * y + c ≤ m + 2 * a
      sums b r y y' c c' x i j k l = omega arith

  any-by : Again a (sorts f.rest) → o.state.dead_cycles ≡ 0 → waiting_floats o.state.floats + 1 ≤ waiting_floats s.floats → Bounded p m done
  any-by r d h = out-by r any tt d (sums (way_floats o.state.floats) (way_floats s.floats) (credit kind) (o-way 1 0 (sum-of (waiting_floats o.state.floats) (waiting_floats s.floats) h)))
    where
      sum-of : (x y : ℕ) → x + 1 ≤ y → x + 1 ≤ y + 0
      sum-of x y h = omega arith

      sums : (x y c : ℕ) → x + 1 ≤ y + 0 → 2 * x + 2 ≤ 2 * y + c
      sums x y c h = omega arith

  least : (k : Kind) (c : ℕ) → credit k ≡ c → waiting_floats o.state.floats ≤ waiting_floats s.floats → (j : Kind) → credit j ≤ c → k ≡ kind → 2 * way_floats o.state.floats + credit j ≤ 2 * way_floats s.floats + credit kind
  least k c e h j l is = sums (way_floats o.state.floats) (way_floats s.floats) (credit j) (credit kind) c (o-way 0 0 (sum-of (waiting_floats o.state.floats) (waiting_floats s.floats) h)) l (sym (ap credit is) ∙ e)
    where
      sum-of : (x y : ℕ) → x ≤ y → x + 0 ≤ y + 0
      sum-of x y h = omega arith

      sums : (x y c d n : ℕ) → x + 0 ≤ y + 0 → c ≤ n → d ≡ n → 2 * x + c ≤ 2 * y + d
      sums x y c d n h i j = omega arith

  -- ---- in one column

  one-column : int_le eject_penalty f.penalty ≡ true → s.two_columns ≡ false → Result o
  one-column h t r =
      let l : LastOut (Fits p) p w0 o = last-out (Fits p) p f.body w0 (inl t) in
      out-by (ordinary-again a f.rest f.penalty h well.region) single (ordinary-goal.columns ∙ out-fit.columns ∙ t) (l.cycles r)
      (sums (way_floats o.state.floats) (way_floats s.floats) (credit kind) (o-way 0 0 (sum-of (waiting_floats o.state.floats) (waiting_floats s.floats) out-fit.floats)))
    where
      sum-of : (x y : ℕ) → x ≤ y → x + 0 ≤ y + 0
      sum-of x y h = omega arith

      sums : (x y c : ℕ) → x + 0 ≤ y + 0 → 2 * x + 0 ≤ 2 * y + c
      sums x y c h = omega arith

  -- ---- the second column

  -- after the blank column of a clear the lists decide what is known
  behind-blank : int_le eject_penalty f.penalty ≡ true → kind ≡ once → o.state.first_column ≡ true → waiting_floats o.state.floats ≤ waiting_floats s.floats → o.state.dead_cycles ≡ 0 → Bounded p m done
  behind-blank h is first fewer d = by_double (some-or-none o.state.floats.double)
    where
      r : Again a (sorts f.rest)
      r = ordinary-again a f.rest f.penalty h well.region

      one : (j : Kind) → credit j ≤ 1 → 2 * way_floats o.state.floats + credit j ≤ 2 * way_floats s.floats + credit kind
      one j l = least once 1 refl fewer j l (sym is)

      first_done : done.first_column ≡ true
      first_done = ordinary-goal.first ∙ first

      by_areas : o.state.floats.double ≡ [] → (1 ≤ length o.state.floats.top) ⊎ (o.state.floats.top ≡ []) → (1 ≤ length o.state.floats.bottom) ⊎ (o.state.floats.bottom ≡ []) → Bounded p m done
      by_areas e (inl t) b = out-by r topped (first_done, subst (λ (l : FloatLists). 1 ≤ length l.top + length l.bottom) (sym ordinary-goal.floats) (more-left (length o.state.floats.top) (length o.state.floats.bottom) t)) d (one topped (omega arith))
        where
          more-left : (x y : ℕ) → 1 ≤ x → 1 ≤ x + y
          more-left x y h = omega arith
      by_areas e (inr t) (inl b) = out-by r topped (first_done, subst (λ (l : FloatLists). 1 ≤ length l.top + length l.bottom) (sym ordinary-goal.floats) (more-right (length o.state.floats.top) (length o.state.floats.bottom) b)) d (one topped (omega arith))
        where
          more-right : (x y : ℕ) → 1 ≤ y → 1 ≤ x + y
          more-right x y h = omega arith
      by_areas e (inr t) (inr b) =
          let q = ordinary-goal.quiet (no-hold f.penalty h) t b e in
          let z = well.once is in
          let waits : done.waiting ≡ f.rest = ap (λ ns. (f.held ++ ns) ++ f.rest) (ordinary-goal.back ∙ ap (λ ns. ns ++ ordinary-goal.blanks) out-fit.back ∙ q.0) ∙ ap (λ ns. (ns ++ []) ++ f.rest) z.1 in
          out-by r ready (
            first_done,
            record {
              goal = q.1;
              void = ap (λ bs. notes_in done.classes bs) (ordinary-goal.boxes ∙ out-fit.boxes) ∙ notes-emptied done.classes w0.state.boxes;
              rest = z.2.0;
              fit = subst (Fitted Asked.clear_penalty z.2.0) (sym waits) z.2.1;
            },
          ) d (one ready (omega arith))

      by_double : (1 ≤ length o.state.floats.double) ⊎ (o.state.floats.double ≡ []) → Bounded p m done
      by_double (inl e) = out-by r doubled (subst (λ (l : FloatLists). 1 ≤ length l.double) (sym ordinary-goal.floats) e) d (one doubled (omega arith))
      by_double (inr e) = by_areas e (some-or-none o.state.floats.top) (some-or-none o.state.floats.bottom)

  second-column : int_le eject_penalty f.penalty ≡ true → s.two_columns ≡ true → s.first_column ≡ false → Result o
  second-column h t c r = by_fewer l.fewer
    where
      l : LastOut (Fits p) p w0 o
      l = last-out (Fits p) p f.body w0 (inr c)

      z : Again a (sorts f.rest)
      z = ordinary-again a f.rest f.penalty h well.region

      d : o.state.dead_cycles ≡ 0
      d = l.cycles r

      fewer-by : (n x y : ℕ) → 1 ≤ n → x + n ≤ y → x + 1 ≤ y
      fewer-by n x y h k = omega arith

      double-of : (x y t d : ℕ) → 1 ≤ d → x + (t + d) ≤ y → x + 1 ≤ y
      double-of x y t d h k = omega arith

      by_kind : (k : Kind) → k ≡ kind → Holds p s a k → (o.state.first_column ≡ true) → (waiting_floats o.state.floats + (length s.floats.top + length s.floats.bottom + length s.floats.double) ≤ waiting_floats s.floats) → Bounded p m done
      by_kind any e i first n = out-by z any tt d (least any 2 refl out-fit.floats any (omega arith) e)
      by_kind doubled e i first n = any-by z d (double-of (waiting_floats o.state.floats) (waiting_floats s.floats) (length s.floats.top + length s.floats.bottom) (length s.floats.double) i n)
      by_kind once e i first n = behind-blank h (sym e) first out-fit.floats d
      by_kind topped e i first n = true-false s.first_column i.0 c
      by_kind ready e i first n = true-false s.first_column i.0 c
      by_kind halted e i first n = any-by z d (double-of (waiting_floats o.state.floats) (waiting_floats s.floats) (length s.floats.top + length s.floats.bottom) (length s.floats.double) i.2 n)
      by_kind clean e i first n = out-by z clean (subst NoneWait (sym ordinary-goal.floats) (none-left o.state.floats (subst (λ (x : ℕ). waiting_floats o.state.floats ≤ x) (none-count s.floats i) out-fit.floats))) d (least clean 0 refl out-fit.floats clean (omega arith) e)
      by_kind single e i first n = true-false s.two_columns t i
      by_kind closed e i first n = out-by z closed i d (least closed 0 refl out-fit.floats closed (omega arith) e)

      by_fewer : (waiting_floats o.state.floats + 1 ≤ waiting_floats s.floats) ⊎ ((s.two_columns ≡ true → o.state.first_column ≡ true) × (waiting_floats o.state.floats + (length s.floats.top + length s.floats.bottom) ≤ waiting_floats s.floats) × (s.two_columns ≡ true → waiting_floats o.state.floats + (length s.floats.top + length s.floats.bottom + length s.floats.double) ≤ waiting_floats s.floats)) → Bounded p m done
      by_fewer (inl n) = any-by z d n
      by_fewer (inr n) = by_kind kind refl holds (n.0 t) (n.2 t)

  -- ---- the first of two columns

  -- if the column is kept: the phase goes on from the first to the second
  kept-by : Again a (sorts f.rest) → s.two_columns ≡ true → s.first_column ≡ true → o.state.first_column ≡ false → (k : Kind) → Holds p done a k → o.state.dead_cycles ≡ s.dead_cycles + 1 → 2 * way_floats o.state.floats + credit k ≤ 2 * way_floats s.floats + credit kind → Bounded p m done
  kept-by r t c first k h d l = by_phase phase refl at
    where
      is_second : IsSecond done
      is_second = record { columns = ordinary-goal.columns ∙ out-fit.columns ∙ t; first = ordinary-goal.first ∙ first }

      sums : (b r y y' c c' x : ℕ) → b ≡ 0 → r + x ≤ total → 2 * y + c ≤ 2 * y' + c' → total + 2 * y' + c' ≤ m + 2 * a → b + r + 2 * y + c ≤ m + 2 * a
      sums b r y y' c c' x i j k l = omega arith

      sums-with : (b r y y' c c' x d d' : ℕ) → b ≡ 0 → r + x ≤ total → 2 * y + c ≤ 2 * y' + c' → d ≡ d' + 1 → d' + total + 2 * y' + c' + 2 ≤ m + 3 + 2 * a → d + (b + r) + 2 * y + c + 1 ≤ m + 3 + 2 * a
      sums-with b r y y' c c' x d d' i j k n q = omega arith

      by_phase : (x : Phase) → x ≡ phase → PhaseHolds s x → Bounded p m done
      by_phase starting e i = finish p m f well.held o a k second (o-region r) h is_second (λ e. cc) o-fits
          (sums (wait_cost o.put_back) (wait_cost f.rest) (way_floats o.state.floats) (way_floats s.floats) (credit k) (credit kind) (sort_cost (pen_sort f.penalty)) o-cost well.cost l weight)
          (sums-with (wait_cost o.put_back) (wait_cost f.rest) (way_floats o.state.floats) (way_floats s.floats) (credit k) (credit kind) (sort_cost (pen_sort f.penalty)) o.state.dead_cycles s.dead_cycles o-cost well.cost l d (subst (λ (y : Phase). s.dead_cycles + total + 2 * way_floats s.floats + credit kind + phase_cost y ≤ m + 3 + 2 * a) (sym e) bound))
      by_phase second e i = true-false s.first_column c i.first
      by_phase ending e i = true-false s.first_column c i.0.first

  first-column : int_le eject_penalty f.penalty ≡ true → s.two_columns ≡ true → s.first_column ≡ true → Result o
  first-column h t c r = by_out ((first-out (Fits p) p f.body w0 t c).by r)
    where
      z : Again a (sorts f.rest)
      z = ordinary-again a f.rest f.penalty h well.region

      one-less : (x y n : ℕ) → 1 ≤ n → x + n ≤ y → x + 1 ≤ y
      one-less x y n h k = omega arith

      two-less : (x y c : ℕ) → x + 1 ≤ y + 0 → 2 * x + 2 ≤ 2 * y + c
      two-less x y c h = omega arith

      plus-zero : (x y : ℕ) → x + 1 ≤ y → x + 1 ≤ y + 0
      plus-zero x y h = omega arith

      by_kind : (k : Kind) → k ≡ kind → Holds p s a k → o.state.first_column ≡ false → o.state.floats.double ≡ s.floats.double → waiting_floats o.state.floats + (length s.floats.top + length s.floats.bottom) ≤ waiting_floats s.floats → o.state.dead_cycles ≡ s.dead_cycles + 1 → Bounded p m done
      by_kind any e i first double n d = kept-by z t c first any tt d (least any 2 refl out-fit.floats any (omega arith) e)
      by_kind doubled e i first double n d = kept-by z t c first doubled (subst (λ (fs : List Float). 1 ≤ length fs) (sym (ap (λ (l : FloatLists). l.double) ordinary-goal.floats ∙ double)) i) d (least doubled 1 refl out-fit.floats doubled (omega arith) e)
      by_kind once e i first double n d = true-false s.first_column c i.0.first
      by_kind topped e i first double n d = kept-by z t c first any tt d (two-less (way_floats o.state.floats) (way_floats s.floats) (credit kind) (o-way 1 0 (plus-zero (waiting_floats o.state.floats) (waiting_floats s.floats) (one-less (waiting_floats o.state.floats) (waiting_floats s.floats) (length s.floats.top + length s.floats.bottom) i.1 n))))
      by_kind ready e i first double n d = true-false (Output.is_int f.penalty Asked.clear_penalty) (well.ready (sym e)).0 (no-clear f.penalty h)
      by_kind halted e i first double n d = true-false s.first_column c i.0.first
      by_kind clean e i first double n d = kept-by z t c first clean (subst NoneWait (sym ordinary-goal.floats) (none-left o.state.floats (subst (λ (x : ℕ). waiting_floats o.state.floats ≤ x) (none-count s.floats i) out-fit.floats))) d (least clean 0 refl out-fit.floats clean (omega arith) e)
      by_kind single e i first double n d = true-false s.two_columns t i
      by_kind closed e i first double n d = kept-by z t c first closed i d (least closed 0 refl out-fit.floats closed (omega arith) e)

      by_out : ((o.state.dead_cycles ≡ 0) × (waiting_floats o.state.floats + 1 ≤ waiting_floats s.floats)) ⊎ ((o.state.first_column ≡ false) × (o.state.floats.double ≡ s.floats.double) × (waiting_floats o.state.floats + (length s.floats.top + length s.floats.bottom) ≤ waiting_floats s.floats) × (o.state.dead_cycles ≡ s.dead_cycles + 1)) → Bounded p m done
      by_out (inl x) = any-by z x.0 x.1
      by_out (inr x) = by_kind kind refl holds x.0 x.1 x.2 x.3

  pub at-ordinary : int_le eject_penalty f.penalty ≡ true → Result (Columns.ordinary p f.body w0)
  at-ordinary h = by_columns s.two_columns s.first_column refl refl
    where
      by_columns : (t c : Bool) → s.two_columns ≡ t → s.first_column ≡ c → Result (Columns.ordinary p f.body w0)
      by_columns false c i j = one-column h i
      by_columns true true i j = first-column h i j
      by_columns true false i j = second-column h i j
