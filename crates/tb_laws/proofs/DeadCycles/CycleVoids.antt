-- A clear without footnotes lowers what is left of the firings without a page, or ships a page.
use Rattle.std.proofs.Common.{◌≡◌, refl, sym, ◌∙◌, ap, subst, ℕ, zero, suc, ◌+◌, ◌*◌, ◌≤◌, inl, inr, ◌⊎◌, Bool, true, false, List, [], ◌∷◌, ◌++◌, length, arith, append_assoc}
use Rattle.std.specs.Prelude.{int_le, if◌then◌else◌}
use Rattle.std.specs.List.{AllByRecursion}
use Rattle.std.proofs.lemmas.List.{append_assoc, append-nil}
use Rattle.std.proofs.lemmas.Bool.{or_parts, or_from}
use Rattle.tb_scaled.specs.Scaled.{eject_penalty}
use Rattle.tb_node.specs.PlainNodes.{PlainNode, made, blank_box, whatsit, pen}
use Rattle.tb_param.specs.declared.Params.{Params}
use Rattle.tb_builder.specs.FiredPages.{Fired}
use Rattle.tb_laws.proofs.PageBreaks.FittingFired.{Fitted}
use Rattle.tb_laws.proofs.PageBreaks.PausedPages.{Paused}
use Rattle.tb_float.specs.Lists.{FloatLists}
use Rattle.tb_column.specs.Column.{Notes, standing_notes}
use Rattle.tb_output.specs.State.{State, Work, begun, footnotes, has_floats}
use Rattle.tb_output.specs.Clear
use Rattle.tb_output.specs.Output
use Rattle.tb_sheet.specs.Asked
use Rattle.tb_laws.proofs.Closed.Sorts.{Sort, clear, sorts}
use Rattle.tb_laws.proofs.Closed.SortLemmas.{sorts-append}
use Rattle.tb_laws.proofs.Closed.ClearedLists.{no-float}
use Rattle.tb_laws.proofs.DeadCycles.AgainLemmas.{Again, Idle, left_after, again-idle, again-clear}
use Rattle.tb_laws.proofs.DeadCycles.WaitCosts.{wait_cost, cost-append}
use Rattle.tb_output.proofs.StepLaws.FollowLemmas.{waiting_floats}
use Rattle.tb_laws.proofs.DeadCycles.ClearOutcomes.{NoneWait, Fits, Single, WaitsWell, How, ClearOut, halves, more, gathered, gathered-count, halved-state, clear-all}
use Rattle.tb_laws.proofs.DeadCycles.ClearCases.{clear-out}
use Rattle.tb_laws.proofs.StepLaws.WideLemmas.{KeepsDouble, clear_floats-double}
use Rattle.tb_laws.proofs.StepLaws.SideLemmas.{narrow-lists, wide-second, none-second}
use Rattle.tb_laws.proofs.StepLaws.SideSteps.{clear_floats-sides}
use Rattle.tb_laws.proofs.DeadCycles.ServeOutcomes.{AllCurrent, current_floats, way_floats}
use Rattle.tb_laws.proofs.DeadCycles.CycleStates.{Kind, any, doubled, once, topped, ready, halted, clean, single, closed, credit, IsSecond, Holds, Phase, starting, second, ending, phase_cost, PhaseHolds, FloatsFit, Bounded, GoalOut, goal-out}
use Rattle.tb_laws.proofs.DeadCycles.CycleFirings.{at-ordinary, at-serve, at-hold}
use Rattle.tb_laws.proofs.DeadCycles.CycleBreaks.{FiresWell, after, waits, finish, finish-shipped, none-count, none-left, true-false, clear-no-hold, some-or-none, output-cases}
use Rattle.tb_laws.proofs.DeadCycles.RaiseCounts.{box_raises}
use Rattle.tb_laws.proofs.DeadCycles.RaiseFirings.{Drops}
use Rattle.tb_laws.proofs.DeadCycles.CycleClears.{left-of, region, cost, at-most-one, not-once, not-halted, with-notes}

-- ---- what is put back after the front

abbrev pub bit : Bool → ℕ
bit true = 1
bit false = 0

bit-most : (t : Bool) → bit t ≤ 1
bit-most true = omega arith
bit-most false = omega arith

abbrev pub half_nodes : Bool → List PlainNode
half_nodes t = if t then made blank_box ∷ Clear.clear_again else []

abbrev pub rest_nodes : Bool → List PlainNode
rest_nodes t = if t then Clear.clear_again else []

halved-back : (r h : Bool) (w : Work) → (more r (halves h w)).put_back ≡ w.put_back ++ (half_nodes h ++ rest_nodes r)
halved-back true true w = append_assoc w.put_back (made blank_box ∷ Clear.clear_again) Clear.clear_again
halved-back true false w = refl
halved-back false true w = refl
halved-back false false w = sym (append-nil w.put_back)

back-cost : (r h : Bool) → wait_cost (half_nodes h ++ rest_nodes r) ≡ 3 * bit h + 3 * bit r
back-cost true true = refl
back-cost true false = refl
back-cost false true = refl
back-cost false false = refl

back-again : (r h : Bool) (n : ℕ) (ys : List Sort) → Again n ys → Again (n + bit h + bit r) (sorts (half_nodes h ++ rest_nodes r) ++ ys)
back-again true true n ys a =
    let h : Again (suc (suc n)) (sorts (half_nodes true ++ rest_nodes true) ++ ys) = (tt, again-clear (suc n) (sorts Clear.clear_again ++ ys) (again-clear n ys a)) in
    let e : suc (suc n) ≡ n + 1 + 1 = omega arith in
    subst (λ (k : ℕ). Again k (sorts (half_nodes true ++ rest_nodes true) ++ ys)) e h
back-again true false n ys a =
    let h : Again (suc n) (sorts (half_nodes false ++ rest_nodes true) ++ ys) = again-clear n ys a in
    let e : suc n ≡ n + 0 + 1 = omega arith in
    subst (λ (k : ℕ). Again k (sorts (half_nodes false ++ rest_nodes true) ++ ys)) e h
back-again false true n ys a =
    let h : Again (suc n) (sorts (half_nodes true ++ rest_nodes false) ++ ys) = (tt, again-clear n ys a) in
    let e : suc n ≡ n + 1 + 0 = omega arith in
    subst (λ (k : ℕ). Again k (sorts (half_nodes true ++ rest_nodes false) ++ ys)) e h
back-again false false n ys a = let e : n ≡ n + 0 + 0 = omega arith in subst (λ (k : ℕ). Again k ys) e a

module _ (p : Params) (m : ℕ) (s : State) (total a : ℕ) (kind : Kind) (phase : Phase) (f : Fired) (calm : int_le p.interlinepenalty eject_penalty ≡ false)
    (holds : Holds p s a kind) (at : PhaseHolds s phase) (floats : FloatsFit p s)
    (weight : total + 2 * way_floats s.floats + credit kind ≤ m + 2 * a)
    (bound : s.dead_cycles + total + 2 * way_floats s.floats + credit kind + phase_cost phase ≤ m + 3 + 2 * a)
    (well : FiresWell p s total a kind phase f)
    (special : int_le eject_penalty f.penalty ≡ false) (clears : Output.is_int f.penalty Asked.clear_penalty ≡ true) (void : standing_notes (footnotes (record s { boxes = f.boxes })) ≡ []) where
  abbrev w0 : Work
  w0 = Clear.without_notes (begun (Output.after_page s f))

  abbrev v : Work
  v = Clear.clear_floats p f.body w0

  abbrev v-done : State
  v-done = after p m f well.held v

  abbrev d : ℕ
  d = left_after a clear

  abbrev front : List PlainNode
  front = Clear.cleared_front p f.body

  good : WaitsWell p w0.state
  good = record { fit = floats.fit; wide = floats.double.wide; second = wide-second p s.floats floats.sides; none = none-second p s.floats floats.sides; narrow = narrow-lists p s.floats floats.sides; single = λ k. ((floats.single k).0, floats.double.none k) }

  pub c : ClearOut (Fits p) p f.body w0 v
  c = clear-out p f.body w0 good

  abbrev later : ℕ
  later = d + bit c.half + bit c.rest

  pub v-back : v.put_back ≡ front ++ (half_nodes c.half ++ rest_nodes c.rest)
  v-back = c.follows.back ∙ halved-back c.rest c.half (gathered p f.body w0)

  pub v-cost : wait_cost v.put_back ≡ 3 * bit c.half + 3 * bit c.rest
  v-cost =
      let z = well.blank clears void in
      let e : wait_cost (front ++ (half_nodes c.half ++ rest_nodes c.rest)) ≡ wait_cost front + wait_cost (half_nodes c.half ++ rest_nodes c.rest) = cost-append front (half_nodes c.half ++ rest_nodes c.rest) in
      sums (wait_cost v.put_back) (wait_cost (front ++ (half_nodes c.half ++ rest_nodes c.rest))) (wait_cost front) (wait_cost (half_nodes c.half ++ rest_nodes c.rest)) (3 * bit c.half + 3 * bit c.rest) (ap wait_cost v-back) e z.3 (back-cost c.rest c.half)
    where
      sums : (v b x y n : ℕ) → v ≡ b → b ≡ x + y → x ≡ 0 → y ≡ n → v ≡ n
      sums v b x y n h i j k = omega arith

  pub v-region : (bs : List PlainNode) → AllByRecursion Idle (sorts bs) → Again later (sorts v.put_back ++ (sorts bs ++ sorts f.rest))
  v-region bs i =
      let z = well.blank clears void in
      let r : Again d (sorts f.rest) = region p m s total a kind phase f calm holds at floats weight bound well special clears in
      let y : Again later (sorts (half_nodes c.half ++ rest_nodes c.rest) ++ (sorts bs ++ sorts f.rest)) = back-again c.rest c.half d (sorts bs ++ sorts f.rest) (again-idle d (sorts bs) (sorts f.rest) i r) in
      subst (λ (ns : List PlainNode). Again later (sorts ns ++ (sorts bs ++ sorts f.rest))) (sym v-back)
      (subst (λ (xs : List Sort). Again later (xs ++ (sorts bs ++ sorts f.rest))) (sym (sorts-append front (half_nodes c.half ++ rest_nodes c.rest)))
      (subst (Again later) (sym (append_assoc (sorts front) (sorts (half_nodes c.half ++ rest_nodes c.rest)) (sorts bs ++ sorts f.rest)))
      (again-idle later (sorts front) (sorts (half_nodes c.half ++ rest_nodes c.rest) ++ (sorts bs ++ sorts f.rest)) z.2 y)))

  -- ---- the floats

  v-floats : waiting_floats v.state.floats ≤ waiting_floats s.floats
  v-floats = sums (waiting_floats v.state.floats) (waiting_floats (more c.rest (halves c.half (gathered p f.body w0))).state.floats) (waiting_floats (gathered p f.body w0).state.floats) (waiting_floats s.floats) c.follows.floats (ap (λ (t : State). waiting_floats t.floats) (halved-state (Fits p) p c.rest c.half (gathered p f.body w0))) (gathered-count (Fits p) p f.body w0)
    where
      sums : (v b g s : ℕ) → v ≤ b → b ≡ g → g ≡ s → v ≤ s
      sums v b g s h i j = omega arith

  v-current : v.state.floats.current ≡ s.floats.current
  v-current = c.follows.current ∙ ap (λ (t : State). t.floats.current) (halved-state (Fits p) p c.rest c.half (gathered p f.body w0))

  v-columns : v.state.two_columns ≡ s.two_columns
  v-columns = c.follows.columns ∙ ap (λ (t : State). t.two_columns) (halved-state (Fits p) p c.rest c.half (gathered p f.body w0))

  v-way : (x y : ℕ) → waiting_floats v.state.floats + x ≤ waiting_floats s.floats + y → way_floats v.state.floats + x ≤ way_floats s.floats + y
  v-way x y h = sums (waiting_floats v.state.floats) (waiting_floats s.floats) (current_floats v.state.floats.current) (current_floats s.floats.current) (ap current_floats v-current) h
    where
      sums : (b d e g : ℕ) → e ≡ g → b + x ≤ d + y → b + e + x ≤ d + g + y
      sums b d e g i j = omega arith

  pub v-fits : FloatsFit p v.state
  v-fits =
      let x : KeepsDouble w0 v = clear_floats-double p f.body w0 in
      record {
        fit = clear-all (Fits p) p f.body w0 floats.fit;
        current = subst (AllCurrent (Fits p)) (sym v-current) floats.current;
        single = λ k. let y = floats.single (sym v-columns ∙ k) in (clear-all Single p f.body w0 y.0, subst (AllCurrent Single) (sym v-current) y.1);
        double = x.by (record { wide = floats.double.wide; none = floats.double.none });
        sides = clear_floats-sides p f.body w0 (record { wide = floats.double.wide; none = floats.double.none }) floats.sides;
        narrow = λ k. subst (AllCurrent Single) (sym v-current) (floats.narrow k);
      }

  -- the dead cycles rise by one, or a page is out
  pub v-cycles : v.refused ≡ false → (v.state.dead_cycles ≡ s.dead_cycles + 1) ⊎ (v.state.dead_cycles ≡ 0)
  v-cycles r = by_cycles (c.follows.cycles r)
    where
      e : (more c.rest (halves c.half (gathered p f.body w0))).state.dead_cycles ≡ s.dead_cycles + 1
      e = ap (λ (t : State). t.dead_cycles) (halved-state (Fits p) p c.rest c.half (gathered p f.body w0))

      by_cycles : (v.state.dead_cycles ≡ (more c.rest (halves c.half (gathered p f.body w0))).state.dead_cycles) ⊎ (v.state.dead_cycles ≡ 0) → (v.state.dead_cycles ≡ s.dead_cycles + 1) ⊎ (v.state.dead_cycles ≡ 0)
      by_cycles (inl h) = inl (h ∙ e)
      by_cycles (inr h) = inr h

  abbrev v-goal : GoalOut p f.penalty v (Output.next_goal p f.penalty v)
  v-goal = goal-out p f.penalty v

  -- how the floats, the clears that are to come and the credit may change
  abbrev Sums : ℕ → Type 0
  Sums k = 2 * way_floats v.state.floats + k + 2 * a + (3 * bit c.half + 3 * bit c.rest) ≤ 2 * way_floats s.floats + credit kind + 2 * later + 3

  v-weight : (k : ℕ) → Sums k → wait_cost v.put_back + wait_cost f.rest + 2 * way_floats v.state.floats + k ≤ m + 2 * later
  v-weight k h = sums (wait_cost v.put_back) (wait_cost f.rest) (way_floats v.state.floats) (way_floats s.floats) (credit kind) (3 * bit c.half + 3 * bit c.rest) later v-cost (cost p m s total a kind phase f calm holds at floats weight bound well special clears) h weight
    where
      sums : (b r y y' j n l : ℕ) → b ≡ n → r + 3 ≤ total → 2 * y + k + 2 * a + n ≤ 2 * y' + j + 2 * l + 3 → total + 2 * y' + j ≤ m + 2 * a → b + r + 2 * y + k ≤ m + 2 * l
      sums b r y y' j n l h i o q = omega arith

  v-shipped : v.state.dead_cycles ≡ 0 → (k : Kind) → Holds p v-done later k → Sums (credit k) → Bounded p m v-done
  v-shipped e k h l = finish-shipped p m f well.held v later k v-region h v-fits e (v-weight (credit k) l)

  -- without a page the phase and these sums together fall by one
  v-quiet : (j : Phase) → PhaseHolds v-done j → (j ≡ ending → 1 ≤ later) → v.state.dead_cycles ≡ s.dead_cycles + 1 → (k : Kind) → Holds p v-done later k → Sums (credit k) → 2 * way_floats v.state.floats + credit k + 2 * a + (3 * bit c.half + 3 * bit c.rest) + phase_cost j + 1 ≤ 2 * way_floats s.floats + credit kind + 2 * later + 3 + phase_cost phase → Bounded p m v-done
  v-quiet j g y e k h l u = finish p m f well.held v later k j v-region h g y v-fits (v-weight (credit k) l) (sums (wait_cost v.put_back) (wait_cost f.rest) (way_floats v.state.floats) (way_floats s.floats) (credit k) (credit kind) (3 * bit c.half + 3 * bit c.rest) later v.state.dead_cycles s.dead_cycles (phase_cost j) (phase_cost phase) v-cost (cost p m s total a kind phase f calm holds at floats weight bound well special clears) u e bound)
    where
      sums : (b r y y' k i n l x x' q q' : ℕ) → b ≡ n → r + 3 ≤ total → 2 * y + k + 2 * a + n + q + 1 ≤ 2 * y' + i + 2 * l + 3 + q' → x ≡ x' + 1 → x' + total + 2 * y' + i + q' ≤ m + 3 + 2 * a → x + (b + r) + 2 * y + k + q ≤ m + 3 + 2 * l
      sums b r y y' k i n l x x' q q' h1 h2 h3 h4 h5 = omega arith

  -- ---- the cases

  plus-zero : (n x y : ℕ) → x + n ≤ y → x + n ≤ y + 0
  plus-zero n x y h = omega arith

  pub v-least : way_floats v.state.floats ≤ way_floats s.floats
  v-least = sums (way_floats v.state.floats) (way_floats s.floats) (v-way 0 0 (zeros (waiting_floats v.state.floats) (waiting_floats s.floats) v-floats))
    where
      zeros : (x y : ℕ) → x ≤ y → x + 0 ≤ y + 0
      zeros x y h = omega arith

      sums : (x y : ℕ) → x + 0 ≤ y + 0 → x ≤ y
      sums x y h = omega arith

  most : a ≤ d + 1
  most = at-most-one p m s total a kind phase f calm holds at floats weight bound well special clears

  -- a clear does not end the second column
  not-ending : 1 ≤ phase_cost phase
  not-ending = by_phase phase well.ending
    where
      by_phase : (x : Phase) → (x ≡ ending → int_le eject_penalty f.penalty ≡ true) → 1 ≤ phase_cost x
      by_phase ending e = true-false (int_le eject_penalty f.penalty) (e refl) special
      by_phase x e = omega arith

  -- a page and a float are out
  out-sums : (h r : Bool) → waiting_floats v.state.floats + 1 ≤ waiting_floats s.floats → (h ≡ true → waiting_floats v.state.floats + 2 ≤ waiting_floats s.floats) → 2 * way_floats v.state.floats + 2 + 2 * a + (3 * bit h + 3 * bit r) ≤ 2 * way_floats s.floats + credit kind + 2 * (d + bit h + bit r) + 3
  out-sums true r n o = sums (way_floats v.state.floats) (way_floats s.floats) (credit kind) (bit r) (v-way 2 0 (plus-zero 2 (waiting_floats v.state.floats) (waiting_floats s.floats) (o refl))) most (bit-most r)
    where
      sums : (x y k t : ℕ) → x + 2 ≤ y + 0 → a ≤ d + 1 → t ≤ 1 → 2 * x + 2 + 2 * a + (3 * 1 + 3 * t) ≤ 2 * y + k + 2 * (d + 1 + t) + 3
      sums x y k t h i j = omega arith
  out-sums false r n o = sums (way_floats v.state.floats) (way_floats s.floats) (credit kind) (bit r) (v-way 1 0 (plus-zero 1 (waiting_floats v.state.floats) (waiting_floats s.floats) n)) most (bit-most r)
    where
      sums : (x y k t : ℕ) → x + 1 ≤ y + 0 → a ≤ d + 1 → t ≤ 1 → 2 * x + 2 + 2 * a + (3 * 0 + 3 * t) ≤ 2 * y + k + 2 * (d + 0 + t) + 3
      sums x y k t h i j = omega arith

  -- the lists are empty
  empty-sums : (h r : Bool) → h ≡ false → r ≡ false → 2 * way_floats v.state.floats + 0 + 2 * a + (3 * bit h + 3 * bit r) + 1 ≤ 2 * way_floats s.floats + credit kind + 2 * (d + bit h + bit r) + 3
  empty-sums true r i j = true-false true refl i
  empty-sums false true i j = true-false true refl j
  empty-sums false false i j = sums (way_floats v.state.floats) (way_floats s.floats) (credit kind) v-least most
    where
      sums : (x y k : ℕ) → x ≤ y → a ≤ d + 1 → 2 * x + 0 + 2 * a + (3 * 0 + 3 * 0) + 1 ≤ 2 * y + k + 2 * (d + 0 + 0) + 3
      sums x y k h i = omega arith

  is-starting : (s.two_columns ≡ false) ⊎ (s.first_column ≡ true) → phase ≡ starting
  is-starting o = by_phase phase refl at o
    where
      by_phase : (x : Phase) → x ≡ phase → PhaseHolds s x → (s.two_columns ≡ false) ⊎ (s.first_column ≡ true) → phase ≡ starting
      by_phase starting e g o = sym e
      by_phase second e g (inl t) = true-false s.two_columns g.columns t
      by_phase second e g (inr t) = true-false s.first_column t g.first
      by_phase ending e g (inl t) = true-false s.two_columns g.0.columns t
      by_phase ending e g (inr t) = true-false s.first_column t g.0.first

  emptied : v.refused ≡ false → c.half ≡ false → c.rest ≡ false → NoneWait v.state.floats → (s.two_columns ≡ false) ⊎ (s.first_column ≡ true) → Bounded p m v-done
  emptied r i j none o = by_cycles (v-cycles r)
    where
      e : 2 * way_floats v.state.floats + 0 + 2 * a + (3 * bit c.half + 3 * bit c.rest) + 1 ≤ 2 * way_floats s.floats + credit kind + 2 * later + 3
      e = empty-sums c.half c.rest i j

      less : (x y : ℕ) → x + 1 ≤ y → x ≤ y
      less x y h = omega arith

      known : NoneWait v-done.floats
      known = subst NoneWait (sym v-goal.floats) none

      sums : (x y h : ℕ) → x + 1 ≤ y → h ≡ 2 → x + 2 + 1 ≤ y + h
      sums x y h i j = omega arith

      by_cycles : (v.state.dead_cycles ≡ s.dead_cycles + 1) ⊎ (v.state.dead_cycles ≡ 0) → Bounded p m v-done
      by_cycles (inl x) = v-quiet starting tt (λ e. cc) x clean known (less (2 * way_floats v.state.floats + 0 + 2 * a + (3 * bit c.half + 3 * bit c.rest)) (2 * way_floats s.floats + credit kind + 2 * later + 3) e) (sums (2 * way_floats v.state.floats + 0 + 2 * a + (3 * bit c.half + 3 * bit c.rest)) (2 * way_floats s.floats + credit kind + 2 * later + 3) (phase_cost phase) e (ap phase_cost (is-starting o)))
      by_cycles (inr x) = v-shipped x clean known (less (2 * way_floats v.state.floats + 0 + 2 * a + (3 * bit c.half + 3 * bit c.rest)) (2 * way_floats s.floats + credit kind + 2 * later + 3) e)

  -- ---- a second column is left blank

  module _ (none : box_raises f.boxes ≡ 0) (half : c.half ≡ true) (two : s.two_columns ≡ true) (first : v.state.first_column ≡ false) (top : v.state.floats.top ≡ []) (bottom : v.state.floats.bottom ≡ []) (double : v.state.floats.double ≡ s.floats.double) (fewer : s.first_column ≡ true → waiting_floats v.state.floats + 1 ≤ waiting_floats s.floats) where
    -- what comes after the blank column and its clear
    abbrev tail : List PlainNode
    tail = (rest_nodes c.rest ++ v-goal.blanks) ++ f.rest

    waiting : v-done.waiting ≡ front ++ (made blank_box ∷ Clear.clear_again ++ tail)
    waiting =
        waits p m f well.held v
        ∙ ap (λ ns. ns ++ ((v.put_back ++ v-goal.blanks) ++ f.rest)) ((well.blank clears void).0 none)
        ∙ ap (λ ns. (ns ++ v-goal.blanks) ++ f.rest) (v-back ∙ ap (λ t. front ++ (half_nodes t ++ rest_nodes c.rest)) half)
        ∙ ap (λ ns. ns ++ f.rest) (append_assoc front (half_nodes true ++ rest_nodes c.rest) v-goal.blanks)
        ∙ append_assoc front ((half_nodes true ++ rest_nodes c.rest) ++ v-goal.blanks) f.rest
        ∙ ap (λ ns. front ++ (ns ++ f.rest)) (append_assoc (half_nodes true) (rest_nodes c.rest) v-goal.blanks)
        ∙ ap (λ ns. front ++ ns) (append_assoc (half_nodes true) (rest_nodes c.rest ++ v-goal.blanks) f.rest)

    pub is_second : IsSecond v-done
    is_second = record { columns = v-goal.columns ∙ v-columns ∙ two; first = v-goal.first ∙ first }

    pub paused : Paused v-done.waiting
    paused = subst Paused (sym waiting) ((well.blank clears void).1 tail).1

    once-holds : v.state.floats.double ≡ [] → Holds p v-done later once
    once-holds e = (
      is_second,
      paused,
      record {
        goal = (v-goal.quiet (clear-no-hold f.penalty clears) top bottom e).1;
        rest = tail;
        fit = subst (Fitted eject_penalty (made whatsit ∷ made blank_box ∷ made (pen Asked.clear_penalty) ∷ tail)) (sym waiting) ((well.blank clears void).1 tail).0;
      },
    )

    -- what is known then, and its credit
    data Left : Type 0 where
      above : 1 ≤ length v.state.floats.double → Left
      nothing : v.state.floats.double ≡ [] → c.rest ≡ false → Left
      deferred : v.state.floats.double ≡ [] → c.rest ≡ true → Left

    abbrev kind_left : Left → Kind
    kind_left (above h) = halted
    kind_left (nothing e r) = clean
    kind_left (deferred e r) = once

    left-holds : (l : Left) → Holds p v-done later (kind_left l)
    left-holds (above h) = (is_second, paused, subst (λ (x : FloatLists). 1 ≤ length x.double) (sym v-goal.floats) h)
    left-holds (nothing e r) = subst NoneWait (sym v-goal.floats) (record { top = top; bottom = bottom; deferred = no-float v.state.floats.deferred (or_parts (has_floats v.state.floats.deferred) (has_floats v.state.floats.second) (c.left ∙ r)).0; double = e; second = no-float v.state.floats.second (or_parts (has_floats v.state.floats.deferred) (has_floats v.state.floats.second) (c.left ∙ r)).1 })
    left-holds (deferred e r) = once-holds e

    is-left : Left
    is-left = by_double (some-or-none v.state.floats.double) c.rest refl
      where
        by_double : (1 ≤ length v.state.floats.double) ⊎ (v.state.floats.double ≡ []) → (t : Bool) → c.rest ≡ t → Left
        by_double (inl h) t r = above h
        by_double (inr e) true r = deferred e r
        by_double (inr e) false r = nothing e r

    left-most : (l : Left) → credit (kind_left l) + bit c.rest ≤ 2
    left-most (above h) = let k : bit c.rest ≤ 1 = bit-most c.rest in omega arith
    left-most l = let k : bit c.rest ≤ 1 = bit-most c.rest in omega arith

    not-above : {X : Type 0} → 1 ≤ length v.state.floats.double → s.floats.double ≡ [] → X
    not-above h e = let k : length v.state.floats.double ≡ 0 = ap length (double ∙ e) in absurd (no (length v.state.floats.double) h k)
      where
        no : (x : ℕ) → 1 ≤ x → x ≡ 0 → ⊥
        no x h k = omega arith

    none-above : {X : Type 0} → 1 ≤ length s.floats.double → v.state.floats.double ≡ [] → X
    none-above h e = let k : length s.floats.double ≡ 0 = ap length (sym double ∙ e) in absurd (no (length s.floats.double) h k)
      where
        no : (x : ℕ) → 1 ≤ x → x ≡ 0 → ⊥
        no x h k = omega arith

    none-deferred : {X : Type 0} → NoneWait s.floats → c.rest ≡ true → X
    none-deferred i r =
        let n : NoneWait v.state.floats = none-left v.state.floats (subst (λ (x : ℕ). waiting_floats v.state.floats ≤ x) (none-count s.floats i) v-floats) in
        true-false c.rest r (sym c.left ∙ or_from (has_floats v.state.floats.deferred) (has_floats v.state.floats.second) (ap has_floats n.deferred) (ap has_floats n.second))

    -- at a second column the credit pays for it
    left-paid : s.first_column ≡ false → a ≡ d + 1 → (l : Left) → credit (kind_left l) + bit c.rest ≤ credit kind
    left-paid g e l = by_kind kind refl holds l
      where
        by_kind : (k : Kind) → k ≡ kind → Holds p s a k → (l : Left) → credit (kind_left l) + bit c.rest ≤ credit k
        by_kind any i h l = left-most l
        by_kind doubled i h (above x) = let k : bit c.rest ≤ 1 = bit-most c.rest in omega arith
        by_kind doubled i h (nothing x r) = none-above h x
        by_kind doubled i h (deferred x r) = none-above h x
        by_kind once i h l = not-once p m s total a kind phase f calm holds at floats weight bound well special clears (sym i)
        by_kind topped i h l = true-false s.first_column h.0 g
        by_kind ready i h l = true-false s.first_column h.0 g
        by_kind halted i h l = not-halted p m s total a kind phase f calm holds at floats weight bound well special clears (sym i)
        by_kind clean i h (above x) = not-above x h.double
        by_kind clean i h (nothing x r) = let k : bit c.rest ≡ 0 = ap bit r in omega arith
        by_kind clean i h (deferred x r) = none-deferred h r
        by_kind single i h l = true-false s.two_columns two h
        by_kind closed i h l = absurd (no a d h e)
          where
            no : (x y : ℕ) → x ≡ 0 → x ≡ y + 1 → ⊥
            no x y h k = omega arith

    -- the floats, the credit and the phase pay for it in each case
    left-sums : (l : Left) → Sums (credit (kind_left l)) × (2 * way_floats v.state.floats + credit (kind_left l) + 2 * a + (3 * bit c.half + 3 * bit c.rest) + 0 + 1 ≤ 2 * way_floats s.floats + credit kind + 2 * later + 3 + phase_cost phase)
    left-sums l = by_column s.first_column refl (left-of a)
      where
        one : bit c.half ≡ 1
        one = ap bit half

        at-first : (x y k j t h q : ℕ) → h ≡ 1 → x + 1 ≤ y + 0 → a ≤ d + 1 → k + t ≤ 2 → q ≡ 2 → (2 * x + k + 2 * a + (3 * h + 3 * t) ≤ 2 * y + j + 2 * (d + h + t) + 3) × (2 * x + k + 2 * a + (3 * h + 3 * t) + 0 + 1 ≤ 2 * y + j + 2 * (d + h + t) + 3 + q)
        at-first x y k j t h q h1 h2 h3 h4 h5 = (omega arith, omega arith)

        at-item : (x y k j t h q : ℕ) → h ≡ 1 → x ≤ y → a ≡ 0 → k + t ≤ 2 → 1 ≤ q → (2 * x + k + 2 * a + (3 * h + 3 * t) ≤ 2 * y + j + 2 * (d + h + t) + 3) × (2 * x + k + 2 * a + (3 * h + 3 * t) + 0 + 1 ≤ 2 * y + j + 2 * (d + h + t) + 3 + q)
        at-item x y k j t h q h1 h2 h3 h4 h5 = (omega arith, omega arith)

        at-again : (x y k j t h q : ℕ) → h ≡ 1 → x ≤ y → a ≡ d + 1 → k + t ≤ j → 1 ≤ q → (2 * x + k + 2 * a + (3 * h + 3 * t) ≤ 2 * y + j + 2 * (d + h + t) + 3) × (2 * x + k + 2 * a + (3 * h + 3 * t) + 0 + 1 ≤ 2 * y + j + 2 * (d + h + t) + 3 + q)
        at-again x y k j t h q h1 h2 h3 h4 h5 = (omega arith, omega arith)

        by_column : (g : Bool) → s.first_column ≡ g → (a ≡ 0) ⊎ (a ≡ d + 1) → Sums (credit (kind_left l)) × (2 * way_floats v.state.floats + credit (kind_left l) + 2 * a + (3 * bit c.half + 3 * bit c.rest) + 0 + 1 ≤ 2 * way_floats s.floats + credit kind + 2 * later + 3 + phase_cost phase)
        by_column true g z = at-first (way_floats v.state.floats) (way_floats s.floats) (credit (kind_left l)) (credit kind) (bit c.rest) (bit c.half) (phase_cost phase) one (v-way 1 0 (plus-zero 1 (waiting_floats v.state.floats) (waiting_floats s.floats) (fewer g))) most (left-most l) (ap phase_cost (is-starting (inr g)))
        by_column false g (inl z) = at-item (way_floats v.state.floats) (way_floats s.floats) (credit (kind_left l)) (credit kind) (bit c.rest) (bit c.half) (phase_cost phase) one v-least z (left-most l) not-ending
        by_column false g (inr z) = at-again (way_floats v.state.floats) (way_floats s.floats) (credit (kind_left l)) (credit kind) (bit c.rest) (bit c.half) (phase_cost phase) one v-least z (left-paid g z l) not-ending

    some-later : (x y z : ℕ) → y ≡ 1 → 1 ≤ x + y + z
    some-later x y z h = omega arith

    blanked : v.refused ≡ false → Bounded p m v-done
    blanked r = by_cycles (v-cycles r)
      where
        by_cycles : (v.state.dead_cycles ≡ s.dead_cycles + 1) ⊎ (v.state.dead_cycles ≡ 0) → Bounded p m v-done
        by_cycles (inl x) = v-quiet ending (is_second, paused) (λ e. some-later (d) (bit c.half) (bit c.rest) (ap bit half)) x (kind_left is-left) (left-holds is-left) (left-sums is-left).0 (left-sums is-left).1
        by_cycles (inr x) = v-shipped x (kind_left is-left) (left-holds is-left) (left-sums is-left).0

  -- a clear without footnotes whose page is not raised
  pub at-void : box_raises f.boxes ≡ 0 → v.refused ≡ false → Bounded p m (Output.waiting_again f (Output.next_goal p f.penalty (Clear.clear_floats p f.body w0))).state
  at-void none r = by_how c.how
    where
      by_how : How (Fits p) p w0 v c.half c.rest → Bounded p m v-done
      by_how (inl h) = emptied r h.0 h.1 h.2 h.3
      by_how (inr (inl h)) = blanked none h.0 h.1 h.2 h.3 h.4 h.5 h.6 r
      by_how (inr (inr h)) = v-shipped (h.0 r) any tt (out-sums c.half c.rest h.1 h.2)

  -- with four firings more nothing need be known of it
  pub at-dropped : v.refused ≡ false → Bounded p (m + 4) (Output.waiting_again f (Output.next_goal p f.penalty (Clear.clear_floats p f.body w0))).state
  at-dropped r = by_how c.how
    where
      paid : wait_cost v.put_back + wait_cost f.rest + 2 * way_floats v.state.floats + 2 ≤ m + 4 + 2 * later
      paid = sums (wait_cost v.put_back) (wait_cost f.rest) (way_floats v.state.floats) (way_floats s.floats) (credit kind) (bit c.half) (bit c.rest) v-cost (cost p m s total a kind phase f calm holds at floats weight bound well special clears) v-least most weight (bit-most c.half) (bit-most c.rest)
        where
          sums : (b r y y' k h t : ℕ) → b ≡ 3 * h + 3 * t → r + 3 ≤ total → y ≤ y' → a ≤ d + 1 → total + 2 * y' + k ≤ m + 2 * a → h ≤ 1 → t ≤ 1 → b + r + 2 * y + 2 ≤ m + 4 + 2 * (d + h + t)
          sums b r y y' k h t i1 i2 i3 i4 i5 i6 i7 = omega arith

      shipped : v.state.dead_cycles ≡ 0 → Bounded p (m + 4) v-done
      shipped e = finish-shipped p (m + 4) f well.held v later any v-region tt v-fits e paid

      -- in this phase
      quiet : (j : Phase) → PhaseHolds v-done j → (j ≡ ending → 1 ≤ later) → bit c.half + phase_cost j ≤ 2 → v.state.dead_cycles ≡ s.dead_cycles + 1 → Bounded p (m + 4) v-done
      quiet j g y l e = finish p (m + 4) f well.held v later any j v-region tt g y v-fits paid (sums (wait_cost v.put_back) (wait_cost f.rest) (way_floats v.state.floats) (way_floats s.floats) (credit kind) (bit c.half) (bit c.rest) v.state.dead_cycles s.dead_cycles (phase_cost j) (phase_cost phase) v-cost (cost p m s total a kind phase f calm holds at floats weight bound well special clears) v-least most bound not-ending l (bit-most c.rest) e)
        where
          sums : (b r y y' k h t x x' q q' : ℕ) → b ≡ 3 * h + 3 * t → r + 3 ≤ total → y ≤ y' → a ≤ d + 1 → x' + total + 2 * y' + k + q' ≤ m + 3 + 2 * a → 1 ≤ q' → h + q ≤ 2 → t ≤ 1 → x ≡ x' + 1 → x + (b + r) + 2 * y + 2 + q ≤ m + 4 + 3 + 2 * (d + h + t)
          sums b r y y' k h t x x' q q' i1 i2 i3 i4 i5 i6 i7 i8 i9 = omega arith

      by_cycles : (j : Phase) → PhaseHolds v-done j → (j ≡ ending → 1 ≤ later) → bit c.half + phase_cost j ≤ 2 → (v.state.dead_cycles ≡ s.dead_cycles + 1) ⊎ (v.state.dead_cycles ≡ 0) → Bounded p (m + 4) v-done
      by_cycles j g y l (inl e) = quiet j g y l e
      by_cycles j g y l (inr e) = shipped e

      by_how : How (Fits p) p w0 v c.half c.rest → Bounded p (m + 4) v-done
      by_how (inl h) = let z : bit c.half ≡ 0 = ap bit h.0 in by_cycles starting tt (λ e. cc) (omega arith) (v-cycles r)
      by_how (inr (inl h)) = let z : bit c.half ≡ 1 = ap bit h.0 in by_cycles second (record { columns = v-goal.columns ∙ v-columns ∙ h.1; first = v-goal.first ∙ h.2 }) (λ e. cc) (omega arith) (v-cycles r)
      by_how (inr (inr h)) = shipped (h.0 r)

-- ---- every firing

module _ (p : Params) (m : ℕ) (s : State) (total a : ℕ) (kind : Kind) (phase : Phase) (f : Fired) (calm : int_le p.interlinepenalty eject_penalty ≡ false)
    (holds : Holds p s a kind) (at : PhaseHolds s phase) (floats : FloatsFit p s)
    (weight : total + 2 * way_floats s.floats + credit kind ≤ m + 2 * a)
    (bound : s.dead_cycles + total + 2 * way_floats s.floats + credit kind + phase_cost phase ≤ m + 3 + 2 * a)
    (well : FiresWell p s total a kind phase f) where
  abbrev started : Work
  started = begun (Output.after_page s f)

  -- the bound is kept, or the page drops what raises it, and it is kept with four more
  abbrev pub Keeps : Work → Type 0
  Keeps w = Bounded p m w.state ⊎ (Drops s f × Bounded p (m + 4) w.state)

  abbrev Result : Work → Type 0
  Result w = w.refused ≡ false → Keeps (Output.waiting_again f (Output.next_goal p f.penalty w))

  at-clear : int_le eject_penalty f.penalty ≡ false → Output.is_int f.penalty Asked.clear_penalty ≡ true → Result (Clear.clear p f.body started)
  at-clear h k = by_notes (standing_notes (footnotes (record s { boxes = f.boxes }))) refl
    where
      by_notes : (o : List Notes) → standing_notes (footnotes (record s { boxes = f.boxes })) ≡ o → Result (Clear.clear_by p f.body started o)
      by_notes [] e r = by_raise (box_raises f.boxes) refl
        where
          by_raise : (n : ℕ) → box_raises f.boxes ≡ n → Keeps (Output.waiting_again f (Output.next_goal p f.penalty (Clear.clear_floats p f.body (Clear.without_notes started))))
          by_raise zero z = inl (at-void p m s total a kind phase f calm holds at floats weight bound well h k e z r)
          by_raise (suc n) z = inr ((h, k, e, omega (arith, z)), at-dropped p m s total a kind phase f calm holds at floats weight bound well h k e r)
      by_notes (head ∷ notes) e r = inl (with-notes p m s total a kind phase f calm holds at floats weight bound well h k head notes e r)

  outputs : Result (Output.output_by p f started)
  outputs =
      output-cases p f started Result well.regular
      (λ e r. inl (at-ordinary p m s total a kind phase f calm holds at floats weight bound well e r))
      (λ e k. at-clear e k)
      (λ vert e x r. inl (at-serve p m s total a kind phase f calm holds at floats weight bound well vert e x r))
      (λ e x r. inl (at-hold p m s total a kind phase f calm holds at floats weight bound well e x r))

  -- a firing keeps the bound
  pub out-bounded : (Output.out p s f).refused ≡ false → Keeps (Output.out p s f)
  unfolding Output.out
  out-bounded r = outputs (sym (goal-out p f.penalty (Output.output_by p f started)).refused ∙ r)
