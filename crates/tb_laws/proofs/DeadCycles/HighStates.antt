-- How many firings without a page a state can still bring, if the top skip is higher than a page.
use Rattle.std.proofs.Common.{◌≡◌, sym, ap, subst, ℕ, ◌+◌, ◌*◌, ◌≤◌, Bool, false, List, ◌++◌, arith}
use Rattle.std.specs.List.{AllByRecursion}
use Rattle.tb_node.specs.PlainNodes.{PlainNode}
use Rattle.tb_param.specs.declared.Params.{Params}
use Rattle.tb_builder.specs.FiredPages.{Fired}
use Rattle.tb_laws.proofs.PageBreaks.PausedPages.{Paused}
use Rattle.tb_output.specs.State.{State, Work}
use Rattle.tb_laws.proofs.Closed.Sorts.{sorts}
use Rattle.tb_laws.proofs.DeadCycles.AgainLemmas.{Again, Idle}
use Rattle.tb_laws.proofs.DeadCycles.WaitCosts.{wait_cost, cost-append, ins-free, AllInserted}
use Rattle.tb_laws.proofs.DeadCycles.SpacedLemmas.{Spaced, spaced-both, free-spaced, free-alone}
use Rattle.tb_laws.proofs.DeadCycles.ServeOutcomes.{way_floats}
use Rattle.tb_laws.proofs.DeadCycles.CycleStates.{IsSecond, Phase, starting, second, ending, PhaseHolds, FloatsFit}
use Rattle.tb_laws.proofs.DeadCycles.CycleBreaks.{fits-same, after, goal, waits, wait-total, after-region}

-- nothing is known; the next page does not break at a clear without footnotes; no clear of the routine is to come; the column that is made next is a second one; it is one that ends with the next firing
pub data Stage : Type 0 where
  loose : Stage
  guarded : Stage
  cleared : Stage
  right : Stage
  last : Stage

-- each firing without a page lowers this or what waits
abbrev pub stage_cost : Stage → ℕ
stage_cost loose = 3
stage_cost guarded = 2
stage_cost cleared = 2
stage_cost right = 1
stage_cost last = 0

-- the page is as high as it can be, and before each clear that waits is a node that lasts at its top
pub record Guarded (p : Params) (s : State) : Type 0 where
  pub goal : s.goal ≡ p.textheight
  pub spaced : Spaced false s.waiting

abbrev pub StageHolds : Params → State → ℕ → Stage → Type 0
StageHolds p s n loose = Unit {0}
StageHolds p s n guarded = Guarded p s
StageHolds p s n cleared = n ≡ 0
StageHolds p s n right = IsSecond s
StageHolds p s n last = IsSecond s × Paused s.waiting

-- the phase of a stage
abbrev pub phase_of : Stage → Phase
phase_of loose = starting
phase_of guarded = starting
phase_of cleared = starting
phase_of right = second
phase_of last = ending

pub phase-holds : (p : Params) (s : State) (n : ℕ) (x : Stage) → StageHolds p s n x → PhaseHolds s (phase_of x)
phase-holds p s n right h = h
phase-holds p s n last h = h
phase-holds p s n x h = tt

-- the potential: what waits and the floats, less all that clears of the routine cost, are bounded; and so are these with the dead cycles and the stage
pub record BoundedHigh (p : Params) (m : ℕ) (s : State) : Type 0 where
  pub again : ℕ
  pub stage : Stage
  pub region : Again again (sorts s.waiting)
  pub holds : StageHolds p s again stage
  pub coming : stage ≡ last → 1 ≤ again
  pub floats : FloatsFit p s
  pub weight : wait_cost s.waiting + 2 * way_floats s.floats ≤ m + 3 * again
  pub bound : s.dead_cycles + wait_cost s.waiting + 2 * way_floats s.floats + stage_cost stage ≤ m + 3 + 3 * again

module _ (p : Params) (m : ℕ) (f : Fired) (held : AllInserted f.held) (w : Work) where
  -- what is put back without a clear, and what is put back with clears
  pub spaced-free : (b : Bool) → wait_cost w.put_back ≡ 0 → Spaced b f.rest → Spaced b (after p m f held w).waiting
  spaced-free b e s =
      subst (Spaced b) (sym (waits p m f held w))
      (free-spaced b f.held ((w.put_back ++ (goal p m f held w).blanks) ++ f.rest) (ins-free f.held held)
      (free-spaced b (w.put_back ++ (goal p m f held w).blanks) f.rest (sums (wait_cost (w.put_back ++ (goal p m f held w).blanks)) (wait_cost w.put_back) (wait_cost (goal p m f held w).blanks) (cost-append w.put_back (goal p m f held w).blanks) e (goal p m f held w).cost) s))
    where
      sums : (x y z : ℕ) → x ≡ y + z → y ≡ 0 → z ≡ 0 → x ≡ 0
      sums x y z h i j = omega arith

  pub spaced-back : Spaced false w.put_back → Spaced false f.rest → Spaced false (after p m f held w).waiting
  spaced-back e s =
      subst (Spaced false) (sym (waits p m f held w))
      (free-spaced false f.held ((w.put_back ++ (goal p m f held w).blanks) ++ f.rest) (ins-free f.held held)
      (spaced-both false (w.put_back ++ (goal p m f held w).blanks) f.rest (spaced-both false w.put_back (goal p m f held w).blanks e (free-alone false (goal p m f held w).blanks (goal p m f held w).cost)) s))

  -- what is known after the output routine is known after the goal is set
  pub finish-high : (again : ℕ) (stage : Stage)
      → ((bs : List PlainNode) → AllByRecursion Idle (sorts bs) → Again again (sorts w.put_back ++ (sorts bs ++ sorts f.rest)))
      → StageHolds p (after p m f held w) again stage → (stage ≡ last → 1 ≤ again) → FloatsFit p w.state
      → wait_cost w.put_back + wait_cost f.rest + 2 * way_floats w.state.floats ≤ m + 3 * again
      → w.state.dead_cycles + (wait_cost w.put_back + wait_cost f.rest) + 2 * way_floats w.state.floats + stage_cost stage ≤ m + 3 + 3 * again
      → BoundedHigh p m (after p m f held w)
  finish-high again stage region holds coming floats weight bound = record {
    again = again;
    stage = stage;
    region = after-region p m f held w again region;
    holds = holds;
    coming = coming;
    floats = fits-same p w.state (after p m f held w) (goal p m f held w).floats (goal p m f held w).columns floats;
    weight = sums (wait_cost (after p m f held w).waiting) (wait_cost w.put_back + wait_cost f.rest) (way_floats (after p m f held w).floats) (way_floats w.state.floats) (m + 3 * again) (wait-total p m f held w) (ap way_floats (goal p m f held w).floats) weight;
    bound = sums-with (wait_cost (after p m f held w).waiting) (wait_cost w.put_back + wait_cost f.rest) (way_floats (after p m f held w).floats) (way_floats w.state.floats) (m + 3 + 3 * again) (after p m f held w).dead_cycles w.state.dead_cycles (stage_cost stage) (wait-total p m f held w) (ap way_floats (goal p m f held w).floats) (goal p m f held w).cycles bound;
  }
    where
      sums : (a b x y r : ℕ) → a ≡ b → x ≡ y → b + 2 * y ≤ r → a + 2 * x ≤ r
      sums a b x y r i j k = omega arith

      sums-with : (a b x y r d e h : ℕ) → a ≡ b → x ≡ y → d ≡ e → e + b + 2 * y + h ≤ r → d + a + 2 * x + h ≤ r
      sums-with a b x y r d e h i j k l = omega arith

  -- after a page the dead cycles are none
  pub shipped-high : (again : ℕ)
      → ((bs : List PlainNode) → AllByRecursion Idle (sorts bs) → Again again (sorts w.put_back ++ (sorts bs ++ sorts f.rest)))
      → FloatsFit p w.state → w.state.dead_cycles ≡ 0
      → wait_cost w.put_back + wait_cost f.rest + 2 * way_floats w.state.floats ≤ m + 3 * again
      → BoundedHigh p m (after p m f held w)
  shipped-high again region floats dead weight = finish-high again loose region tt (λ e. cc) floats weight (sums w.state.dead_cycles (wait_cost w.put_back + wait_cost f.rest) (way_floats w.state.floats) again dead weight)
    where
      sums : (d b y a : ℕ) → d ≡ 0 → b + 2 * y ≤ m + 3 * a → d + b + 2 * y + 3 ≤ m + 3 + 3 * a
      sums d b y a h k = omega arith
