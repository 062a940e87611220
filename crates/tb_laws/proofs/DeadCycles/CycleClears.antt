-- A clear lowers what is left of the firings without a page, or ships a page.
use Rattle.std.proofs.Common.{◌≡◌, refl, sym, ◌∙◌, ap, subst, ℕ, zero, suc, ◌+◌, ◌*◌, ◌≤◌, inl, inr, ◌⊎◌, Bool, true, false, List, [], ◌∷◌, ◌++◌, length, arith}
use Rattle.std.specs.Prelude.{int_le}
use Rattle.std.specs.List.{AllByRecursion}
use Rattle.tb_scaled.specs.Scaled.{eject_penalty}
use Rattle.tb_scaled.specs.Glue.{filling_glue}
use Rattle.tb_node.specs.PlainNodes.{PlainNode, made, skip}
use Rattle.tb_param.specs.declared.Params.{Params}
use Rattle.tb_builder.specs.FiredPages.{Fired}
use Rattle.tb_float.specs.Lists.{FloatLists}
use Rattle.tb_column.specs.Column.{Notes, PlainColumn, standing_notes}
use Rattle.tb_output.specs.State.{State, Work, begun, puts, footnotes}
use Rattle.tb_output.specs.Columns
use Rattle.tb_output.specs.Clear
use Rattle.tb_output.specs.Output
use Rattle.tb_sheet.specs.Asked
use Rattle.tb_laws.proofs.Closed.Sorts.{Sort, clear, pen_sort, sorts}
use Rattle.tb_laws.proofs.DeadCycles.AgainLemmas.{Again, Idle, BreakAgain, left_after, again-idle, again-clear}
use Rattle.tb_laws.proofs.DeadCycles.WaitCosts.{sort_cost, wait_cost}
use Rattle.tb_output.proofs.StepLaws.FollowLemmas.{waiting_floats, follows-same}
use Rattle.tb_laws.proofs.DeadCycles.ColumnOutcomes.{IsKept, IsPaired, TextOut, last-ships, first-kept, second-pairs, text-out, text-follows}
use Rattle.tb_laws.proofs.DeadCycles.ClearOutcomes.{NoneWait, Fits, Single}
use Rattle.tb_laws.proofs.StepLaws.WideLemmas.{KeepsDouble, text_out-double}
use Rattle.tb_laws.proofs.StepLaws.SideSteps.{text_out-sides}
use Rattle.tb_laws.proofs.DeadCycles.ServeOutcomes.{current_floats, way_floats}
use Rattle.tb_laws.proofs.DeadCycles.CycleStates.{Kind, any, doubled, once, topped, ready, halted, clean, single, closed, credit, Holds, Phase, starting, second, ending, phase_cost, PhaseHolds, FloatsFit, Bounded, GoalOut, goal-out}
use Rattle.tb_laws.proofs.DeadCycles.CycleFirings.{text-fits}
use Rattle.tb_laws.proofs.DeadCycles.CycleBreaks.{clear-sort, FiresWell, after, finish, finish-shipped, none-count, none-left, true-false}

-- a clear of an item, or one of the routine, of which there is one fewer then
pub left-of : (a : ℕ) → (a ≡ 0) ⊎ (a ≡ left_after a clear + 1)
left-of zero = inl refl
left-of (suc a) = inr (omega arith)

module _ (p : Params) (m : ℕ) (s : State) (total a : ℕ) (kind : Kind) (phase : Phase) (f : Fired) (calm : int_le p.interlinepenalty eject_penalty ≡ false)
    (holds : Holds p s a kind) (at : PhaseHolds s phase) (floats : FloatsFit p s)
    (weight : total + 2 * way_floats s.floats + credit kind ≤ m + 2 * a)
    (bound : s.dead_cycles + total + 2 * way_floats s.floats + credit kind + phase_cost phase ≤ m + 3 + 2 * a)
    (well : FiresWell p s total a kind phase f)
    (special : int_le eject_penalty f.penalty ≡ false) (clears : Output.is_int f.penalty Asked.clear_penalty ≡ true) where
  abbrev w0 : Work
  w0 = begun (Output.after_page s f)

  abbrev Result : Work → Type 0
  Result w = w.refused ≡ false → Bounded p m (Output.waiting_again f (Output.next_goal p f.penalty w)).state

  -- the clears that are to come after this one
  abbrev d : ℕ
  d = left_after a clear

  pub is-clear : pen_sort f.penalty ≡ clear
  is-clear = clear-sort f.penalty special clears

  pub region : Again d (sorts f.rest)
  region = subst (λ (x : Sort). BreakAgain a f.rest x) is-clear well.region

  pub cost : wait_cost f.rest + 3 ≤ total
  cost = subst (λ (x : Sort). wait_cost f.rest + sort_cost x ≤ total) is-clear well.cost

  pub at-most-one : a ≤ d + 1
  at-most-one = by_left (left-of a)
    where
      by_left : (a ≡ 0) ⊎ (a ≡ d + 1) → a ≤ d + 1
      by_left (inl e) = omega arith
      by_left (inr e) = omega arith

  pub not-once : kind ≡ once → {X : Type 0} → X
  not-once e = true-false (int_le eject_penalty f.penalty) (well.once e).0 special

  pub not-halted : kind ≡ halted → {X : Type 0} → X
  not-halted e = true-false (int_le eject_penalty f.penalty) (well.halted e) special

  -- ---- with footnotes: a column is put out, and the clear comes again

  abbrev q : Work
  q = Columns.put_out_text p (f.body ++ made (skip filling_glue) ∷ []) w0

  abbrev n : Work
  n = puts Clear.clear_again (Columns.put_out_text p (f.body ++ made (skip filling_glue) ∷ []) w0)

  pub q-out : TextOut (Fits p) p w0 q
  q-out = text-out (Fits p) p (f.body ++ made (skip filling_glue) ∷ []) w0 q (follows-same (Fits p) q)

  pub n-region : (bs : List PlainNode) → AllByRecursion Idle (sorts bs) → Again (suc d) (sorts n.put_back ++ (sorts bs ++ sorts f.rest))
  n-region bs i = subst (λ (ns : List PlainNode). Again (suc d) (sorts (ns ++ Clear.clear_again) ++ (sorts bs ++ sorts f.rest))) (sym q-out.back) (again-clear d (sorts bs ++ sorts f.rest) (again-idle d (sorts bs) (sorts f.rest) i region))

  pub n-cost : wait_cost n.put_back ≡ 3
  n-cost = ap (λ ns. wait_cost (ns ++ Clear.clear_again)) q-out.back

  q-way : (x y : ℕ) → waiting_floats q.state.floats + x ≤ waiting_floats s.floats + y → way_floats q.state.floats + x ≤ way_floats s.floats + y
  q-way x y h = sums (waiting_floats q.state.floats) (waiting_floats s.floats) (current_floats q.state.floats.current) (current_floats s.floats.current) (ap current_floats q-out.current) h
    where
      sums : (b d e g : ℕ) → e ≡ g → b + x ≤ d + y → b + e + x ≤ d + g + y
      sums b d e g i j = omega arith

  pub n-fits : (head : Notes) (notes : List Notes) → FloatsFit p n.state
  n-fits head notes =
      let x : KeepsDouble w0 q = text_out-double p (f.body ++ made (skip filling_glue) ∷ []) w0 in
      text-fits p m s total a kind phase f calm holds at floats weight bound well q q-out (text-out Single p (f.body ++ made (skip filling_glue) ∷ []) w0 q (follows-same Single q)) (record { by = x.by; columns = x.columns }) (text_out-sides p (f.body ++ made (skip filling_glue) ∷ []) w0 (record { wide = floats.double.wide; none = floats.double.none }) floats.sides)

  abbrev n-done : State
  n-done = after p m f well.held n

  abbrev n-goal : GoalOut p f.penalty n (Output.next_goal p f.penalty n)
  n-goal = goal-out p f.penalty n

  -- how the floats and the credit may change
  abbrev NoteSums : ℕ → Type 0
  NoteSums c = 2 * way_floats n.state.floats + c + 2 * a ≤ 2 * way_floats s.floats + credit kind + 2 * suc d

  n-weight : (c : ℕ) → NoteSums c → wait_cost n.put_back + wait_cost f.rest + 2 * way_floats n.state.floats + c ≤ m + 2 * suc d
  n-weight c h = sums (wait_cost n.put_back) (wait_cost f.rest) (way_floats n.state.floats) (way_floats s.floats) (credit kind) n-cost cost h weight
    where
      sums : (b r y y' k : ℕ) → b ≡ 3 → r + 3 ≤ total → 2 * y + c + 2 * a ≤ 2 * y' + k + 2 * suc d → total + 2 * y' + k ≤ m + 2 * a → b + r + 2 * y + c ≤ m + 2 * suc d
      sums b r y y' k i j l o = omega arith

  n-shipped : (head : Notes) (notes : List Notes) → n.state.dead_cycles ≡ 0 → (k : Kind) → Holds p n-done (suc d) k → NoteSums (credit k) → Bounded p m n-done
  n-shipped head notes e k h l = finish-shipped p m f well.held n (suc d) k n-region h (n-fits head notes) e (n-weight (credit k) l)

  n-kept : (head : Notes) (notes : List Notes) → s.two_columns ≡ true → s.first_column ≡ true → n.state.first_column ≡ false → n.state.dead_cycles ≡ s.dead_cycles + 1 → (k : Kind) → Holds p n-done (suc d) k → NoteSums (credit k) → Bounded p m n-done
  n-kept head notes t c first e k h l = by_phase phase refl at
    where
      sums : (b r y y' c k d' e' : ℕ) → b ≡ 3 → r + 3 ≤ total → 2 * y + c + 2 * a ≤ 2 * y' + k + 2 * suc d → d' ≡ e' + 1 → e' + total + 2 * y' + k + 2 ≤ m + 3 + 2 * a → d' + (b + r) + 2 * y + c + 1 ≤ m + 3 + 2 * suc d
      sums b r y y' c k d' e' i j l o u = omega arith

      by_phase : (x : Phase) → x ≡ phase → PhaseHolds s x → Bounded p m n-done
      by_phase starting g i = finish p m f well.held n (suc d) k second n-region h (record { columns = n-goal.columns ∙ q-out.columns ∙ t; first = n-goal.first ∙ first }) (λ e. cc) (n-fits head notes) (n-weight (credit k) l)
          (sums (wait_cost n.put_back) (wait_cost f.rest) (way_floats n.state.floats) (way_floats s.floats) (credit k) (credit kind) n.state.dead_cycles s.dead_cycles n-cost cost l e (subst (λ (y : Phase). s.dead_cycles + total + 2 * way_floats s.floats + credit kind + phase_cost y ≤ m + 3 + 2 * a) (sym g) bound))
      by_phase second g i = true-false s.first_column c i.first
      by_phase ending g i = true-false s.first_column c i.0.first

  pub q-least : way_floats q.state.floats ≤ way_floats s.floats
  q-least = sums (way_floats q.state.floats) (way_floats s.floats) (q-way 0 0 (zeros (waiting_floats q.state.floats) (waiting_floats s.floats) q-out.floats))
    where
      zeros : (x y : ℕ) → x ≤ y → x + 0 ≤ y + 0
      zeros x y h = omega arith

      sums : (x y : ℕ) → x + 0 ≤ y + 0 → x ≤ y
      sums x y h = omega arith

  -- a clear of an item leaves room for anything
  item-sums : a ≡ 0 → NoteSums 2
  item-sums e = sums (way_floats n.state.floats) (way_floats s.floats) (credit kind) a q-least e
    where
      sums : (x y k a : ℕ) → x ≤ y → a ≡ 0 → 2 * x + 2 + 2 * a ≤ 2 * y + k + 2 * suc d
      sums x y k a h i = omega arith

  same-sums : (k : Kind) → k ≡ kind → a ≡ d + 1 → NoteSums (credit k)
  same-sums k e h = sums (way_floats n.state.floats) (way_floats s.floats) (credit k) (credit kind) q-least h (ap credit e)
    where
      sums : (x y c k : ℕ) → x ≤ y → a ≡ d + 1 → c ≡ k → 2 * x + c + 2 * a ≤ 2 * y + k + 2 * suc d
      sums x y c k h i j = omega arith

  fewer-sums : waiting_floats q.state.floats + 1 ≤ waiting_floats s.floats → NoteSums 2
  fewer-sums h = sums (way_floats n.state.floats) (way_floats s.floats) (credit kind) (q-way 1 0 (zeros (waiting_floats q.state.floats) (waiting_floats s.floats) h)) at-most-one
    where
      zeros : (x y : ℕ) → x + 1 ≤ y → x + 1 ≤ y + 0
      zeros x y h = omega arith

      sums : (x y k : ℕ) → x + 1 ≤ y + 0 → a ≤ d + 1 → 2 * x + 2 + 2 * a ≤ 2 * y + k + 2 * suc d
      sums x y k h i = omega arith

  n-clean : NoneWait s.floats → NoneWait n-done.floats
  n-clean i = subst NoneWait (sym n-goal.floats) (none-left q.state.floats (subst (λ (x : ℕ). waiting_floats q.state.floats ≤ x) (none-count s.floats i) q-out.floats))

  -- the floats of the areas go with the column
  q-taken : waiting_floats (Columns.without_column_floats w0).state.floats + (length s.floats.top + length s.floats.bottom) ≡ waiting_floats s.floats
  q-taken = text-follows (Fits p) p w0

  abbrev column : PlainColumn
  column = Columns.text_of p w0.state (f.body ++ made (skip filling_glue) ∷ [])

  one-fewer : (x y z t : ℕ) → 1 ≤ t → x ≤ z → z + t ≡ y → x + 1 ≤ y
  one-fewer x y z t h i j = omega arith

  void-not : (head : Notes) (notes : List Notes) → standing_notes (footnotes w0.state) ≡ head ∷ notes → {X : Type 0} → kind ≡ ready → X
  void-not head notes e i = let no : head ∷ notes ≡ [] = sym e ∙ (well.ready i).1 in cc

  notes-second : (head : Notes) (notes : List Notes) → standing_notes (footnotes w0.state) ≡ head ∷ notes → s.two_columns ≡ true → s.first_column ≡ false → n.refused ≡ false → Bounded p m n-done
  notes-second head notes e t c r = by_left (left-of a)
    where
      dead : n.state.dead_cycles ≡ 0
      dead = last-ships (Fits p) p column (Columns.without_column_floats w0) (inr c) r

      paired : IsPaired (Fits p) p (Columns.without_column_floats w0) q
      paired = second-pairs (Fits p) p column (Columns.without_column_floats w0) t c

      with_double : 1 ≤ length s.floats.double → waiting_floats q.state.floats + 1 ≤ waiting_floats s.floats
      with_double h = sums (waiting_floats q.state.floats) (waiting_floats s.floats) (waiting_floats (Columns.without_column_floats w0).state.floats) (length s.floats.double) (length s.floats.top + length s.floats.bottom) h paired.floats q-taken
        where
          sums : (x y z d t : ℕ) → 1 ≤ d → x + d ≤ z → z + t ≡ y → x + 1 ≤ y
          sums x y z d t h i j = omega arith

      by_kind : a ≡ d + 1 → (k : Kind) → k ≡ kind → Holds p s a k → Bounded p m n-done
      by_kind l any g i = n-shipped head notes dead any tt (same-sums any g l)
      by_kind l doubled g i = n-shipped head notes dead any tt (fewer-sums (with_double i))
      by_kind l once g i = not-once (sym g)
      by_kind l topped g i = true-false s.first_column i.0 c
      by_kind l ready g i = true-false s.first_column i.0 c
      by_kind l halted g i = not-halted (sym g)
      by_kind l clean g i = n-shipped head notes dead clean (n-clean i) (same-sums clean g l)
      by_kind l single g i = true-false s.two_columns t i
      by_kind l closed g i = let no : ⊥ = omega (arith, i, l) in absurd no

      by_left : (a ≡ 0) ⊎ (a ≡ d + 1) → Bounded p m n-done
      by_left (inl z) = n-shipped head notes dead any tt (item-sums z)
      by_left (inr l) = by_kind l kind refl holds

  notes-first : (head : Notes) (notes : List Notes) → standing_notes (footnotes w0.state) ≡ head ∷ notes → s.two_columns ≡ true → s.first_column ≡ true → Bounded p m n-done
  notes-first head notes e t c = by_left (left-of a)
    where
      kept : IsKept (Fits p) p (Columns.without_column_floats w0) q
      kept = first-kept (Fits p) p column (Columns.without_column_floats w0) t c

      go : (k : Kind) → Holds p n-done (suc d) k → NoteSums (credit k) → Bounded p m n-done
      go k h l = n-kept head notes t c kept.first kept.cycles k h l

      by_kind : a ≡ d + 1 → (k : Kind) → k ≡ kind → Holds p s a k → Bounded p m n-done
      by_kind l any g i = go any tt (same-sums any g l)
      by_kind l doubled g i = go doubled (subst (λ (x : FloatLists). 1 ≤ length x.double) (sym (n-goal.floats ∙ kept.floats)) i) (same-sums doubled g l)
      by_kind l once g i = not-once (sym g)
      by_kind l topped g i = go any tt (fewer-sums (one-fewer (waiting_floats q.state.floats) (waiting_floats s.floats) (waiting_floats (Columns.without_column_floats w0).state.floats) (length s.floats.top + length s.floats.bottom) i.1 (same (waiting_floats q.state.floats) (waiting_floats (Columns.without_column_floats w0).state.floats) (ap waiting_floats kept.floats)) q-taken))
        where
          same : (x y : ℕ) → x ≡ y → x ≤ y
          same x y h = omega arith
      by_kind l ready g i = void-not head notes e (sym g)
      by_kind l halted g i = not-halted (sym g)
      by_kind l clean g i = go clean (n-clean i) (same-sums clean g l)
      by_kind l single g i = true-false s.two_columns t i
      by_kind l closed g i = let no : ⊥ = omega (arith, i, l) in absurd no

      by_left : (a ≡ 0) ⊎ (a ≡ d + 1) → Bounded p m n-done
      by_left (inl z) = go any tt (item-sums z)
      by_left (inr l) = by_kind l kind refl holds

  notes-one : (head : Notes) (notes : List Notes) → s.two_columns ≡ false → n.refused ≡ false → Bounded p m n-done
  notes-one head notes t r = n-shipped head notes (last-ships (Fits p) p column (Columns.without_column_floats w0) (inl t) r) single (n-goal.columns ∙ q-out.columns ∙ t) (sums (way_floats n.state.floats) (way_floats s.floats) (credit kind) q-least at-most-one)
    where
      sums : (x y k : ℕ) → x ≤ y → a ≤ d + 1 → 2 * x + 0 + 2 * a ≤ 2 * y + k + 2 * suc d
      sums x y k h i = omega arith

  pub with-notes : (head : Notes) (notes : List Notes) → standing_notes (footnotes w0.state) ≡ head ∷ notes → Result (Clear.clear_by p f.body w0 (head ∷ notes))
  with-notes head notes e r = by_columns s.two_columns s.first_column refl refl
    where
      by_columns : (t c : Bool) → s.two_columns ≡ t → s.first_column ≡ c → Bounded p m n-done
      by_columns false c i j = notes-one head notes i r
      by_columns true true i j = notes-first head notes e i j
      by_columns true false i j = notes-second head notes e i j r
