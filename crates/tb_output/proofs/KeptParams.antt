-- A firing keeps the parameters that hold.
use Rattle.std.proofs.Common.{◌≡◌}
use Rattle.tb_param.specs.declared.Params.{Params}
use Rattle.tb_builder.specs.FiredPages.{Fired}
use Rattle.tb_output.specs.State.{State}
use Rattle.tb_output.specs.Output.{out}
use Rattle.tb_output.specs.Firing.{page_work}
use Rattle.tb_output.proofs.StepLaws.ColumnSteps.{no_law}
use Rattle.tb_output.proofs.StepLaws.FiringSteps.{page_work-step}
use Rattle.tb_output.proofs.StepLaws.WorkSteps.{continues}

page-keeps-params : (p : Params) (s : State) (f : Fired) → (page_work p s f).state.params ≡ s.params
page-keeps-params p s f = (continues (page_work-step p (no_law p) s f)).params

-- the parameters after a firing are those before it
pub out-keeps-params : (p : Params) (s : State) (f : Fired) → (out p s f).state.params ≡ s.params
unfolding out page_work
out-keeps-params p s f = page-keeps-params p s f
