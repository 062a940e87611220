-- A page that fired and was served in a routine: it is the step of the definition.
use Rattle.std.proofs.Common.{◌≡◌, refl, sym, subst, ◌∙◌, ap, inl, ℕ, pos, ℤ, ◌≤ℤ◌, Bool, true, false, List, [], ◌∷◌, ◌++◌, map, true≢false, arith}
use Rattle.std.specs.Prelude.{◌<ℤ◌, int_lt, pred, IfSome, if◌then◌else◌}
use Rattle.std.proofs.lemmas.Int.{ints}
use Rattle.tb_pool.specs.Lists.{Lists}
use Rattle.tb_node.specs.declared.Node.{Node}
use Rattle.tb_node.specs.PlainNodes.{PlainNode}
use Rattle.tb_builder.specs.declared.Page.{Page}
use Rattle.tb_builder.specs.FiredPages.{Fired, Boxed}
use Rattle.tb_output.specs.declared.RunFault.{RunFault}
use Rattle.tb_output.specs.declared.RunFault.TheVariants as faults
use Rattle.tb_output.specs.State.{State, Recorded, Work}
use Rattle.tb_output.specs.Output.{out}
use Rattle.tb_output.specs.Machine.{MachineView, state_shown}
use Rattle.tb_items.specs.declared.happenings.Happening.{Happening}
use Rattle.tb_items.specs.Happenings.{events_of, noted}
use Rattle.tb_items.specs.RunEvents.{RunEvent, offered, sent}
use Rattle.tb_items.proofs.HappenedLemmas.{events-append}
use Rattle.tb_steps.specs.Run.{dead_cycles, page_limit, Progress, Step, ends, goes_on, step_events, step, ask_for}
use Rattle.tb_run.specs.declared.routine.Routine.{Routine}
use Rattle.tb_run.specs.Routine.{held_in, state_of}
use Rattle.tb_run.specs.FilledPages.{sent_happenings, progress_in, fired_whole, IsFiring}
use Rattle.tb_run.specs.UnlimitedPages.{HasGoneOn, HasSent, IsRefusedBy}
use Rattle.tb_run.proofs.Turns.HappenedLemmas.{sent-events}
use Rattle.tb_run.proofs.Turns.TurnLemmas.{firing-events, step-is}
use Rattle.tb_rate.specs.Rating.{IsTried}
use Rattle.tb_rate.specs.Tries.{last_champion}
use Rattle.tb_rate.proofs.TriedLemmas.{AreTried, step-tried, last-tried}
use Rattle.tb_best.specs.PlanDemerits.{reach_in, unlimited_firing, unlimited_fire, unlimited_progress, unlimited_step}
use Rattle.tb_search.specs.FilledBranches.{IsRefusal, IsRefused}
use Rattle.tb_search.proofs.EndLemmas.{dead-end, limit-end}

then-step : (t : Bool) (x y : Step) → t ≡ true → (if t then x else y) ≡ x
then-step true x y e = refl
then-step false x y e = absurd (true≢false (sym e))

else-step : (t : Bool) (x y : Step) → t ≡ false → (if t then x else y) ≡ y
else-step true x y e = absurd (true≢false e)
else-step false x y e = refl

below-test : (n : ℕ) (z : ℤ) → pos n <ℤ z → int_lt (pos n) z ≡ true
below-test n z h = grind (arith, ints, h)

not-below : (n : ℕ) (z : ℤ) → z ≤ℤ pos n → int_lt (pos n) z ≡ false
not-below n z h = grind (arith, ints, h)

-- if the places that were tried are wanted, all events are noted
pub all-noted : (es : List RunEvent) → noted true es ≡ es
all-noted [] = refl
all-noted (offered t ∷ es) = ap (λ fs. offered t ∷ fs) (all-noted es)
all-noted (sent e ∷ es) = ap (λ fs. sent e ∷ fs) (all-noted es)

-- the firing of a page in this state, after these events and records, if it is allowed
abbrev firing_from : List RunEvent → List Recorded → State → Fired → Step
firing_from es rs t f = if int_lt (pos t.dead_cycles) t.params.maxdeadcycles then unlimited_firing es rs (out t.params t f) else ends es rs (dead_cycles t.dead_cycles)

-- what waits and what is in boxes is of no account to it
from-same : (es : List RunEvent) (rs : List Recorded) (store : Lists Node) (bs cs : List Boxed) (ns ms : List PlainNode) (m : MachineView) (f : Fired)
    → firing_from es rs (state_shown store bs ns m) f ≡ firing_from es rs (state_shown store cs ms m) f
unfolding out
from-same es rs store bs cs ns ms m f = refl

module _ (r q : Routine) (page : Page) (hs : List Happening) (h : IsFiring true r page q hs) where
  abbrev s : State
  s = state_of r

  abbrev so_far : Progress
  so_far = progress_in s

  abbrev w : Work
  w = out q.machine.params (state_of q) (fired_whole q page)

  -- all events and records of the step
  abbrev pub events_now : List RunEvent
  events_now = so_far.events ++ map sent w.sent

  abbrev pub records_now : List Recorded
  records_now = so_far.records ++ w.records

  unlimited-is : unlimited_step s ≡ firing_from so_far.events so_far.records (state_of q) (fired_whole q page)
  unfolding unlimited_step
  unlimited-is =
      ap (unlimited_progress (ask_for s) (reach_in s) so_far) h.fires.none
      ∙ then-step (reach_in s).fires (unlimited_fire (ask_for s) (reach_in s) so_far) _ h.fires.fires
      ∙ (λ i. firing_from so_far.events so_far.records (sym h.filled.state i) (sym h.fires.fired i))
      ∙ from-same so_far.events so_far.records q.store s.boxes (held_in q).boxes s.waiting (held_in q).waiting q.machine (fired_whole q page)

  -- the firing was allowed
  allowed : pos q.machine.dead_cycles <ℤ q.machine.params.maxdeadcycles → unlimited_step s ≡ unlimited_firing so_far.events so_far.records w
  allowed alive = unlimited-is ∙ then-step (int_lt (pos q.machine.dead_cycles) q.machine.params.maxdeadcycles) (unlimited_firing so_far.events so_far.records w) _ (below-test q.machine.dead_cycles q.machine.params.maxdeadcycles alive)

  -- ---- the run does not go on

  refused-step : (f : RunFault) → IsRefusedBy f page q → IsRefusal (unlimited_step s)
  refused-step (faults.DeadCycles n) k =
      subst IsRefusal (sym (unlimited-is ∙ else-step (int_lt (pos q.machine.dead_cycles) q.machine.params.maxdeadcycles) (unlimited_firing so_far.events so_far.records w) _ (not-below q.machine.dead_cycles q.machine.params.maxdeadcycles k)))
      (dead-end so_far.events so_far.records q.machine.dead_cycles)
  refused-step (faults.PageLimit n) k =
      subst IsRefusal (sym (allowed k.0 ∙ then-step w.refused (ends events_now records_now (page_limit (pred w.state.page))) _ k.1))
      (limit-end events_now records_now (pred w.state.page))
  refused-step faults.Memory k = absurd k

  pub refused-so : (f : RunFault) → IsRefusedBy f page q → IsRefused s
  refused-so f k = record { step = refused-step f k; later = inl h.fires.fires }

  -- ---- it goes on

  module _ (d : Routine) (g : HasGoneOn page q d) where
    pub goes-step : unlimited_step s ≡ goes_on events_now records_now (state_of d)
    goes-step =
        allowed g.alive
        ∙ else-step w.refused (ends events_now records_now (page_limit (pred w.state.page))) (goes_on events_now records_now w.state) g.done
        ∙ ap (goes_on events_now records_now) (sym g.state)

    -- the events of the step, whatever the limit on nodes is
    events-same : step_events (step s) ≡ events_now
    events-same =
        ap step_events (step-is true r q page hs h)
        ∙ firing-events so_far.events so_far.records (state_of q) (fired_whole q page)
        ∙ ap (λ t. so_far.events ++ map sent (if t then w.sent else [])) (below-test q.machine.dead_cycles q.machine.params.maxdeadcycles g.alive)

    module _ (new : List Happening) (k : HasSent page q d hs new) where
      pub events-are : events_of d.store new ≡ events_now
      events-are =
          ap (events_of d.store) k.grown
          ∙ events-append d.store hs (sent_happenings k.sent)
          ∙ (λ i. (h.filled.events d.store ∙ all-noted so_far.events) i ++ (sent-events d.store k.sent ∙ ap (map sent) k.shown) i)

      -- the place at which the page broke is as the page builder tries it
      pub broke-tried : IfSome (last_champion (events_of d.store new)) IsTried
      broke-tried = subst (λ es. IfSome (last_champion es) IsTried) (sym events-are) (last-tried events_now (subst AreTried events-same (step-tried s)))
