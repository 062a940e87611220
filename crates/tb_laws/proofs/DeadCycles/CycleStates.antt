-- How many firings without a page a state can still bring, if the top skip is no higher than a page.
use Rattle.std.proofs.Common.{◌≡◌, refl, sym, ◌∙◌, ℕ, ℤ, ◌+◌, ◌*◌, ◌≤◌, Bool, true, false, List, [], ◌∷◌, ◌++◌, length, arith}
use Rattle.std.specs.Prelude.{int_lt, ◌&&◌, not, if◌then◌else◌}
use Rattle.std.specs.List.{AllByRecursion}
use Rattle.std.proofs.lemmas.Int.{ints}
use Rattle.std.proofs.lemmas.List.{append-nil}
use Rattle.std.proofs.lemmas.Bool.{and_right}
use Rattle.tb_scaled.specs.Scaled.{eject_penalty, max_dimen}
use Rattle.tb_node.specs.PlainNodes.{PlainNode, made, blank_box, whatsit, pen}
use Rattle.tb_param.specs.declared.Params.{Params}
use Rattle.tb_param.specs.Release.{has_second}
use Rattle.tb_float.specs.Lists.{FloatLists, wide_part}
use Rattle.tb_float.specs.Rooms.{column_room_of}
use Rattle.tb_sheet.specs.Sheet.{warned}
use Rattle.tb_sheet.specs.declared.Warn.TheVariants as warnings
use Rattle.tb_laws.proofs.PageBreaks.FittingFired.{Fitted}
use Rattle.tb_laws.proofs.PageBreaks.PausedPages.{Paused}
use Rattle.tb_output.specs.State.{State, Work, footnotes}
use Rattle.tb_output.specs.Output
use Rattle.tb_sheet.specs.Asked
use Rattle.tb_laws.proofs.Closed.Sorts.{sorts}
use Rattle.tb_laws.proofs.DeadCycles.AgainLemmas.{Again, Idle}
use Rattle.tb_laws.proofs.DeadCycles.WaitCosts.{wait_cost}
use Rattle.tb_output.proofs.StepLaws.FollowLemmas.{AllWait}
use Rattle.tb_laws.proofs.DeadCycles.ClearOutcomes.{NoneWait, Fits, Single}
use Rattle.tb_laws.proofs.StepLaws.WideLemmas.{DoubleFits}
use Rattle.tb_laws.proofs.StepLaws.SideLemmas.{Sides}
use Rattle.tb_laws.proofs.DeadCycles.ServeOutcomes.{AllCurrent, way_floats}

-- what is known while clears of the routine are to come: nothing; the double list is not empty; a blank column ends next, and after it comes a clear; a float is in an area of a first column; the clear comes next; a blank column ends next, and the double list is not empty; no float waits; there is one column; no such clear is to come
pub data Kind : Type 0 where
  any : Kind
  doubled : Kind
  once : Kind
  topped : Kind
  ready : Kind
  halted : Kind
  clean : Kind
  single : Kind
  closed : Kind

-- how often a clear may still put back two, before a float goes
abbrev pub credit : Kind → ℕ
credit any = 2
credit doubled = 1
credit once = 1
credit topped = 0
credit ready = 0
credit halted = 0
credit clean = 0
credit single = 0
credit closed = 0

-- the next page fits up to the end of a blank column, and a clear comes after it
pub record Once (p : Params) (s : State) : Type 0 where
  pub goal : s.goal ≡ p.textheight
  pub rest : List PlainNode
  pub fit : Fitted eject_penalty (made whatsit ∷ made blank_box ∷ made (pen Asked.clear_penalty) ∷ rest) s.waiting

-- the next page fits up to a clear, and there are no footnotes
pub record Ready (p : Params) (s : State) : Type 0 where
  pub goal : s.goal ≡ p.textheight
  pub void : footnotes s ≡ []
  pub rest : List PlainNode
  pub fit : Fitted Asked.clear_penalty rest s.waiting

-- the column that is made next is the second of two
pub record IsSecond (s : State) : Type 0 where
  pub columns : s.two_columns ≡ true
  pub first : s.first_column ≡ false

abbrev pub Holds : Params → State → ℕ → Kind → Type 0
Holds p s n any = Unit {0}
Holds p s n doubled = 1 ≤ length s.floats.double
Holds p s n once = IsSecond s × Paused s.waiting × Once p s
Holds p s n topped = (s.first_column ≡ true) × (1 ≤ length s.floats.top + length s.floats.bottom)
Holds p s n ready = (s.first_column ≡ true) × Ready p s
Holds p s n halted = IsSecond s × Paused s.waiting × (1 ≤ length s.floats.double)
Holds p s n clean = NoneWait s.floats
Holds p s n single = s.two_columns ≡ false
Holds p s n closed = n ≡ 0

-- a first column, or any; a second one; a second one that ends with the next firing
pub data Phase : Type 0 where
  starting : Phase
  second : Phase
  ending : Phase

abbrev pub phase_cost : Phase → ℕ
phase_cost starting = 2
phase_cost second = 1
phase_cost ending = 0

abbrev pub PhaseHolds : State → Phase → Type 0
PhaseHolds s starting = Unit {0}
PhaseHolds s second = IsSecond s
PhaseHolds s ending = IsSecond s × Paused s.waiting

-- what is known of the floats: none is higher than a page, in one column all are single, and the double ones are wide
pub record FloatsFit (p : Params) (s : State) : Type 0 where
  pub fit : AllWait (Fits p) s.floats
  pub current : AllCurrent (Fits p) s.floats.current
  pub single : s.two_columns ≡ false → AllWait Single s.floats × AllCurrent Single s.floats.current
  pub double : DoubleFits s
  pub sides : Sides (wide_part p) s.floats
  pub narrow : has_second p ≡ true → AllCurrent Single s.floats.current

-- the potential: what waits, the floats and the credit, less two for each clear of the routine, are bounded; and so are these with the dead cycles and the phase
pub record Bounded (p : Params) (m : ℕ) (s : State) : Type 0 where
  pub again : ℕ
  pub kind : Kind
  pub phase : Phase
  pub region : Again again (sorts s.waiting)
  pub holds : Holds p s again kind
  pub at : PhaseHolds s phase
  pub coming : phase ≡ ending → 1 ≤ again
  pub floats : FloatsFit p s
  pub weight : wait_cost s.waiting + 2 * way_floats s.floats + credit kind ≤ m + 2 * again
  pub bound : s.dead_cycles + wait_cost s.waiting + 2 * way_floats s.floats + credit kind + phase_cost phase ≤ m + 3 + 2 * again

-- ---- the goal of the next page

pub record GoalOut (p : Params) (n : ℤ) (a b : Work) : Type 0 where
  pub refused : b.refused ≡ a.refused
  pub floats : b.state.floats ≡ a.state.floats
  pub columns : b.state.two_columns ≡ a.state.two_columns
  pub first : b.state.first_column ≡ a.state.first_column
  pub cycles : b.state.dead_cycles ≡ a.state.dead_cycles
  pub boxes : b.state.boxes ≡ a.state.boxes
  pub blanks : List PlainNode
  pub back : b.put_back ≡ a.put_back ++ blanks
  pub idle : AllByRecursion Idle (sorts blanks)
  pub cost : wait_cost blanks ≡ 0
  pub quiet : Output.is_int n Asked.hold_penalty ≡ false → a.state.floats.top ≡ [] → a.state.floats.bottom ≡ [] → a.state.floats.double ≡ [] → (blanks ≡ []) × (b.state.goal ≡ p.textheight)

-- if no area has a float, all of the page is left, and that is enough
full-room : (p : Params) (l : FloatLists) → l.top ≡ [] → l.bottom ≡ [] → l.double ≡ [] → column_room_of p l ≡ p.textheight
full-room p l a b c = at l.top l.bottom l.double a b c
  where
    at : (t u d : _) → t ≡ [] → u ≡ [] → d ≡ [] → column_room_of p (record l { top = t; bottom = u; double = d }) ≡ p.textheight
    at [] [] [] a b c = grind (arith, ints)
    at (x ∷ t) u d a b c = cc
    at [] (x ∷ u) d a b c = cc
    at [] [] (x ∷ d) a b c = cc

not-crowded : (p : Params) (r : ℤ) → r ≡ p.textheight → Output.is_crowded p r ≡ false
not-crowded p r e = and_right _ (int_lt r p.textheight) (grind (arith, ints, e))

pub goal-out : (p : Params) (n : ℤ) (w : Work) → GoalOut p n w (Output.next_goal p n w)
goal-out p n w = by_hold (Output.is_int n Asked.hold_penalty) refl
  where
    room : ℤ
    room = column_room_of p w.state.floats

    told : Bool → Work
    told t = if t then w else record w { sent = w.sent ++ warned (warnings.Floats w.state.number) ∷ [] }

    held : Output.is_int n Asked.hold_penalty ≡ true → GoalOut p n w (Output.with_goal max_dimen w)
    held h = record { refused = refl; floats = refl; columns = refl; first = refl; cycles = refl; boxes = refl; blanks = []; back = sym (append-nil w.put_back); idle = tt; cost = refl; quiet = λ k. let no : ⊥ = grind (arith, h, k) in absurd no }

    roomy : GoalOut p n w (Output.with_goal (column_room_of p w.state.floats) w)
    roomy = record { refused = refl; floats = refl; columns = refl; first = refl; cycles = refl; boxes = refl; blanks = []; back = sym (append-nil w.put_back); idle = tt; cost = refl; quiet = λ k a b c. (refl, full-room p w.state.floats a b c) }

    crowded : Output.is_crowded p (column_room_of p w.state.floats) ≡ true → GoalOut p n w (Output.leave_column w)
    crowded h = by_columns (w.state.two_columns && not w.state.first_column) w.refused
      where
        never : {X : Type 0} → w.state.floats.top ≡ [] → w.state.floats.bottom ≡ [] → w.state.floats.double ≡ [] → X
        never a b c = let no : true ≡ false = sym h ∙ not-crowded p (column_room_of p w.state.floats) (full-room p w.state.floats a b c) in cc

        by_columns : (t u : Bool) → GoalOut p n w (record (if u then w else record w { sent = w.sent ++ warned (warnings.Floats w.state.number) ∷ [] }) { put_back = (if u then w else record w { sent = w.sent ++ warned (warnings.Floats w.state.number) ∷ [] }).put_back ++ (if t then Output.blank_column ++ Output.blank_column else Output.blank_column) })
        by_columns true true = record { refused = refl; floats = refl; columns = refl; first = refl; cycles = refl; boxes = refl; blanks = Output.blank_column ++ Output.blank_column; back = refl; idle = (tt, (tt, (tt, (tt, tt)))); cost = refl; quiet = λ k a b c. never a b c }
        by_columns false true = record { refused = refl; floats = refl; columns = refl; first = refl; cycles = refl; boxes = refl; blanks = Output.blank_column; back = refl; idle = (tt, (tt, tt)); cost = refl; quiet = λ k a b c. never a b c }
        by_columns true false = record { refused = refl; floats = refl; columns = refl; first = refl; cycles = refl; boxes = refl; blanks = Output.blank_column ++ Output.blank_column; back = refl; idle = (tt, (tt, (tt, (tt, tt)))); cost = refl; quiet = λ k a b c. never a b c }
        by_columns false false = record { refused = refl; floats = refl; columns = refl; first = refl; cycles = refl; boxes = refl; blanks = Output.blank_column; back = refl; idle = (tt, (tt, tt)); cost = refl; quiet = λ k a b c. never a b c }

    by_crowd : (t : Bool) → Output.is_crowded p (column_room_of p w.state.floats) ≡ t → GoalOut p n w (if t then Output.leave_column w else Output.with_goal (column_room_of p w.state.floats) w)
    by_crowd true e = crowded e
    by_crowd false e = roomy

    by_hold : (t : Bool) → Output.is_int n Asked.hold_penalty ≡ t → GoalOut p n w (if t then Output.with_goal max_dimen w else Output.goal_by p (column_room_of p w.state.floats) w)
    by_hold true e = held e
    by_hold false e = by_crowd (Output.is_crowded p (column_room_of p w.state.floats)) refl
