-- The lists of a page that was shipped are closed: the state after it stays as it was.
use Rattle.std.proofs.Common.{◌≡◌, refl, sym, subst, ◌∙◌, ap, false, ◌++◌, ℤ, List, Option}
use Rattle.std.specs.Global.{Box}
use Rattle.tb_output.specs.State.{State}
use Rattle.tb_items.specs.declared.items_left.ItemsLeft.{ItemsLeft}
use Rattle.tb_items.specs.ItemsLeft.{nodes_left, AreItemsLeft}
use Rattle.tb_run.specs.declared.routine.Routine.{Routine}
use Rattle.tb_run.specs.Routine.{state_of, IsReady}
use Rattle.tb_run.specs.ServedStates.{IsServed}
use Rattle.tb_steps.specs.Run.{goes_on}
use Rattle.tb_rate.specs.declared.PlacePenalty.{PlacePenalty}
use Rattle.tb_best.specs.PlanDemerits.{unlimited_step, step_demerits}
use Rattle.tb_search.specs.declared.branch.Branch.{Branch}
use Rattle.tb_search.specs.Branches.{shown, IsBranch}
use Rattle.tb_search.specs.FilledBranches.{HasFired}

-- a branch that shows the same, with the same ahead
pub fired-copied : (places : List PlacePenalty) (d : ℤ) (b c e : Branch) → IsBranch e → shown e ≡ shown c → e.ahead ≡ c.ahead → e.plain ≡ c.plain
    → HasFired places d b c → HasFired places d b e
fired-copied places d b c e branch state ahead plain h = record {
  events = h.events;
  records = h.records;
  fires = h.fires;
  step = subst (λ s. unlimited_step (shown b) ≡ goes_on h.events h.records s) (sym state) h.step;
  demerits = subst (λ s. d ≡ step_demerits places (shown b) (goes_on h.events h.records s)) (sym state) h.demerits;
  low = h.low;
  high = h.high;
  branch = branch;
  ahead = ahead ∙ h.ahead;
  classes = ap (λ (s : State). s.classes) state ∙ h.classes;
  plain = plain ∙ h.plain;
}

-- a routine that shows the same, over other lists
pub fired-closed : (places : List PlacePenalty) (d : ℤ) (b : Branch) (r : Box Routine) (o : Option ItemsLeft) (q : Box Routine) → IsReady q.value → state_of q.value ≡ state_of r.value → q.value.left ≡ r.value.left
    → HasFired places d b (record { routine = r; ahead = o; plain = false }) → HasFired places d b (record { routine = q; ahead = o; plain = false })
fired-closed places d b r o q ready state left h =
    let branch : IsBranch (record { routine = q; ahead = o; plain = false }) = record {
      ready = ready;
      none = left ∙ h.branch.none;
      items = subst (λ (s : State). AreItemsLeft s.classes o) (sym state) h.branch.items;
      served = subst (λ (s : State). IsServed (s.waiting ++ nodes_left o) s) (sym state) h.branch.served;
      few = h.branch.few;
    } in
    fired-copied places d b (record { routine = r; ahead = o; plain = false }) (record { routine = q; ahead = o; plain = false }) branch state refl refl h
