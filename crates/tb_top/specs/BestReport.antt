-- What the mode best writes: the page breaks that make the demerits of a galley least, and the report of its run with them.
use Rattle.std.specs.Prelude.{◌≡◌, ◌⊎◌, ℕ, List, ◌++◌, Option, Some, None}
use Rattle.std.specs.Io.KnownBytes.{Keeps, Appends}
use Rattle.tb_io.specs.Sink.{AppendsPrefix}
use Rattle.tb_galley.specs.declared.Galley.{Galley}
use Rattle.tb_plans.specs.Plans.{with_breaks}
use Rattle.tb_steps.specs.Run.{Run, run_of}
use Rattle.tb_best.specs.BestOf.{RatedPlan, best_of}
use Rattle.tb_best.specs.BestLines.{best_lines}
use Rattle.tb_top.specs.declared.PageFault.{PageFault}
use Rattle.tb_top.specs.declared.PageFault.TheVariants as faults
use Rattle.tb_top.specs.declared.chosen_pages.BestPagesFault.{BestPagesFault}
use Rattle.tb_top.specs.declared.chosen_pages.BestPagesFault.TheVariants as refused
use Rattle.tb_top.specs.Pages.{end_fault, IsNoCycleFault}
use Rattle.tb_top.specs.Report.{report}

-- the run of a galley with the breaks of a plan
abbrev pub run_with : Galley → RatedPlan → Run
run_with g w = run_of (with_breaks g w.plan)

-- the lines of the best plan, and the report of the run with a plan
abbrev pub best_report : Galley → RatedPlan → List ℕ
best_report g w = best_lines g ++ report (run_with g w)

-- the best plan of a galley whose run ends well; with it the run ends like this
pub record IsBestRun (g : Galley) (fault : Option PageFault) (w : RatedPlan) : Type 0 where
  pub greedy : end_fault (run_of g).end ≡ None
  pub best : best_of g ≡ Some w
  pub ended : end_fault (run_with g w).end ≡ fault

-- the run ends well with the best plan, and all of its text was written
pub record WritesBest (g : Galley) (old new : Option (List ℕ)) : Type 0 where
  pub plan : RatedPlan
  pub run : IsBestRun g None plan
  pub written : Appends old new (best_report g plan)

-- the run was refused without breaks, or with those of the best plan, and nothing was written
pub record StopsBest (g : Galley) (old new : Option (List ℕ)) (f : PageFault) : Type 0 where
  pub ended : (end_fault (run_of g).end ≡ Some f) ⊎ ((w : RatedPlan) × IsBestRun g (Some f) w)
  pub kept : Keeps old new

-- a prefix of the text was written
pub record CutsBest (g : Galley) (old new : Option (List ℕ)) : Type 0 where
  pub plan : RatedPlan
  pub run : IsBestRun g None plan
  pub written : AppendsPrefix old new (best_report g plan)

-- what holds after each refusal
abbrev pub RefusesBest : Galley → Option (List ℕ) → Option (List ℕ) → BestPagesFault → Type 0
RefusesBest g old new (refused.Pages (faults.PoolFull line live)) = StopsBest g old new (faults.PoolFull line live)
RefusesBest g old new (refused.Pages (faults.DeadCycles n)) = StopsBest g old new (faults.DeadCycles n)
RefusesBest g old new (refused.Pages (faults.PageLimit n)) = StopsBest g old new (faults.PageLimit n)
RefusesBest g old new (refused.Pages (faults.NodeLimit n)) = StopsBest g old new (faults.NodeLimit n)
RefusesBest g old new (refused.Pages faults.WriteFault) = CutsBest g old new
RefusesBest g old new (refused.Pages faults.Memory) = Keeps old new ⊎ CutsBest g old new
RefusesBest g old new refused.Choices = (end_fault (run_of g).end ≡ None) × Keeps old new

-- a refusal that is not for the dead cycles
abbrev pub IsNoCycleRefusal : BestPagesFault → Type 0
IsNoCycleRefusal (refused.Pages f) = IsNoCycleFault f
IsNoCycleRefusal refused.Choices = Unit {0}

-- the search gave up, or there was no memory for it
abbrev pub IsNoPlan : BestPagesFault → Type 0
IsNoPlan f = (f ≡ refused.Choices) ⊎ (f ≡ refused.Pages faults.Memory)
