-- A turn that goes on is the step of a run with more nodes behind.
use Rattle.std.proofs.Common.{◌≡◌, sym, ◌∙◌, ap, subst, Bool, true, false, List, [], ◌++◌, refl}
use Rattle.tb_node.specs.PlainNodes.{PlainNode}
use Rattle.tb_builder.specs.FiredPages.{reach_of}
use Rattle.tb_output.specs.State.{State, Recorded}
use Rattle.tb_items.specs.RunEvents.{RunEvent}
use Rattle.tb_steps.specs.Run.{done, ends, goes_on, step, ask_for}
use Rattle.tb_rate.specs.declared.PlacePenalty.{PlacePenalty}
use Rattle.tb_best.specs.PlanDemerits.{reach_in, unlimited_step, step_demerits}
use Rattle.tb_best.specs.ItemsAhead.{state_with}
use Rattle.tb_best.proofs.FiredMore.{begun-more}
use Rattle.tb_best.proofs.StepMore.{step_with, asked-more, step-more, demerits-more}
use Rattle.tb_best.proofs.Paths.{IsOver, step-over, IsDone, step-undone}
use Rattle.tb_best.proofs.RatedPlans.{goes-on, ends-well}

fires-by : (s t : State) (es : List RunEvent) (rs : List Recorded) (f : Bool) → (reach_in s).fires ≡ f → unlimited_step s ≡ goes_on es rs t → f ≡ true
fires-by s t es rs true e h = refl
fires-by s t es rs false e h = absurd (subst IsOver h (step-over s e))

-- a page that is filled fires
pub fires-here : (s t : State) (es : List RunEvent) (rs : List Recorded) → unlimited_step s ≡ goes_on es rs t → (reach_in s).fires ≡ true
fires-here s t es rs h = fires-by s t es rs (reach_in s).fires refl h

module _ (s t : State) (es : List RunEvent) (rs : List Recorded) (more : List PlainNode) (h : step s ≡ goes_on es rs t) where
  alone : unlimited_step s ≡ goes_on es rs t
  alone = goes-on s t es rs h

  fires : (reach_in s).fires ≡ true
  fires = fires-here s t es rs alone

  -- with more nodes behind the page fires
  pub turn-fires : (reach_in (state_with more s)).fires ≡ true
  turn-fires =
      ap (λ a. (reach_of a s.classes s.boxes [] (s.waiting ++ more)).fires) (asked-more s more fires)
      ∙ ap (λ w. w.fires) (begun-more (ask_for s) s.classes s.boxes s.waiting more fires) ∙ fires

  -- the run goes on with these nodes behind
  pub turn-goes-on : unlimited_step (state_with more s) ≡ goes_on es rs (state_with more t)
  turn-goes-on = step-more s more fires ∙ ap (step_with more) alone

  -- and the demerits are the same
  pub turn-demerits : (places : List PlacePenalty) → step_demerits places (state_with more s) (goes_on es rs (state_with more t)) ≡ step_demerits places s (goes_on es rs t)
  turn-demerits places = subst (λ x. step_demerits places (state_with more s) (step_with more x) ≡ step_demerits places s x) alone (demerits-more places s more fires)

quiet-by : (s : State) (es : List RunEvent) (rs : List Recorded) (left : List PlainNode) (f : Bool) → (reach_in s).fires ≡ f → unlimited_step s ≡ ends es rs (done left) → f ≡ false
quiet-by s es rs left true e h = absurd (step-undone s e (subst IsDone (sym h) tt))
quiet-by s es rs left false e h = refl

-- where the run ends well no page fires
pub end-quiet : (s : State) (es : List RunEvent) (rs : List Recorded) (left : List PlainNode) → step s ≡ ends es rs (done left) → (reach_in s).fires ≡ false
end-quiet s es rs left h = quiet-by s es rs left (reach_in s).fires refl (ends-well s es rs left h)
