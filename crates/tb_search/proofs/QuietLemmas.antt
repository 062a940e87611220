-- A page that was filled and does not fire, and what becomes of it with more nodes behind.
use Rattle.std.proofs.Common.{◌≡◌, ◌≢◌, refl, sym, subst, ◌∙◌, ap, inl, inr, ◌⊎◌, ℕ, Bool, true, false, List, [], ◌∷◌, ◌++◌, Option, None, Some, true≢false}
use Rattle.std.specs.Prelude.{if◌then◌else◌}
use Rattle.tb_node.specs.PlainNodes.{PlainNode}
use Rattle.tb_output.specs.declared.RunFault.{RunFault}
use Rattle.tb_output.specs.declared.RunFault.TheVariants as faults
use Rattle.tb_output.specs.State.{State, emptied}
use Rattle.tb_items.specs.declared.happenings.Happening.{Happening}
use Rattle.tb_steps.specs.Run.{done, pool_full, Progress, Step, ends, goes_on, fire, after_progress, step, ask_for}
use Rattle.tb_run.specs.declared.routine.Routine.{Routine}
use Rattle.tb_run.specs.declared.routine.Ending.{Ending}
use Rattle.tb_run.specs.declared.routine.Ending.TheVariants as endings
use Rattle.tb_run.specs.Routine.{state_of, IsEnd, IsFaultEnd, EndsAs}
use Rattle.tb_run.specs.FilledPages.{progress_in, IsFilledLast}
use Rattle.tb_best.specs.PlanDemerits.{reach_in, unlimited_fire, unlimited_progress, unlimited_step}
use Rattle.tb_best.specs.ItemsAhead.{state_with}
use Rattle.tb_best.proofs.StepMore.{step_with, step-more}
use Rattle.tb_items.specs.ItemsLeft.{kern_last}
use Rattle.tb_search.specs.FilledBranches.{IsRefusal, IsQuiet, IsFull, IsRefused}
use Rattle.tb_search.proofs.EndLemmas.{IsWell, full-end}
use Rattle.tb_search.proofs.FullPools.{full-on}

-- ---- more nodes behind

refusal-with : (more : List PlainNode) (x : Step) → IsRefusal x → IsRefusal (step_with more x)
refusal-with more (ends es rs e) h = h
refusal-with more (goes_on es rs t) h = h

-- if a page fires, the run is refused whatever comes behind
pub refused-more : (s : State) → (reach_in s).fires ≡ true → IsRefusal (unlimited_step s) → (more : List PlainNode) → IsRefusal (unlimited_step (state_with more s))
refused-more s fires h more = subst IsRefusal (sym (step-more s more fires)) (refusal-with more (unlimited_step s) h)

-- the same at a full pool
pub full-refused : (s : State) → IsFull s → (reach_in s).fires ≡ true → IsRefused s
full-refused s h fires = record { step = h.step; later = inl fires }

-- ---- no page fired

else-step : (t : Bool) (x y : Step) → t ≡ false → (if t then x else y) ≡ y
else-step true x y e = absurd (true≢false e)
else-step false x y e = refl

module _ (r q : Routine) (e : Ending) (hs : List Happening) (h : IsFilledLast true r e q hs) where
  abbrev s : State
  s = state_of r

  abbrev so_far : Progress
  so_far = progress_in s

  -- the step where no page fires and the pool was not full, and where it was full
  abbrev over : Step
  over = ends so_far.events (so_far.records ++ emptied so_far.state.floats ∷ []) (done (reach_in s).passed)

  abbrev full : ℕ × ℕ → Step
  full x = ends so_far.events so_far.records (pool_full x.0 x.1)

  over-step : so_far.fault ≡ None → step s ≡ over
  unfolding step
  over-step none = ap (after_progress (ask_for s) (reach_in s) so_far) none ∙ else-step (reach_in s).fires (fire (ask_for s) (reach_in s) so_far) over (h.none none)

  over-unlimited : so_far.fault ≡ None → unlimited_step s ≡ over
  unfolding unlimited_step
  over-unlimited none = ap (unlimited_progress (ask_for s) (reach_in s) so_far) none ∙ else-step (reach_in s).fires (unlimited_fire (ask_for s) (reach_in s) so_far) over (h.none none)

  full-step : (x : ℕ × ℕ) → so_far.fault ≡ Some x → step s ≡ full x
  unfolding step
  full-step x some = ap (after_progress (ask_for s) (reach_in s) so_far) some

  full-unlimited : (x : ℕ × ℕ) → so_far.fault ≡ Some x → unlimited_step s ≡ full x
  unfolding unlimited_step
  full-unlimited x some = ap (unlimited_progress (ask_for s) (reach_in s) so_far) some

  -- the run ended well
  pub is-quiet : e ≡ endings.Done → IsQuiet s
  is-quiet done_so = by so_far.fault refl
    where
      by : (o : Option (ℕ × ℕ)) → so_far.fault ≡ o → IsQuiet s
      by None none = record {
        events = so_far.events;
        records = so_far.records ++ emptied so_far.state.floats ∷ [];
        left = (reach_in s).passed;
        quiet = h.none none;
        step = over-unlimited none;
      }
      by (Some x) some = absurd (subst IsWell (sym (subst (λ y. EndsAs q (Some y) (full x)) done_so (subst (EndsAs q (Some e)) (full-step x some) h.ended))) tt)

  no-fault : (f : RunFault) (left : List PlainNode) → IsFaultEnd f (done left) → ⊥
  no-fault (faults.DeadCycles n) left k = subst IsWell k tt
  no-fault (faults.PageLimit n) left k = subst IsWell k tt
  no-fault faults.Memory left k = k

  no-end : (x : Ending) (left : List PlainNode) → x ≢ endings.Done → IsEnd q x (done left) → ⊥
  no-end endings.Done left other k = other refl
  no-end (endings.PoolFull line live) left other k = subst IsWell k tt
  no-end (endings.Fault f) left other k = no-fault f left k
  no-end (endings.NodeLimit n) left other k = subst IsWell k tt

  module _ (other : e ≢ endings.Done) where
    -- it ended at a full pool
    found-full : (x : ℕ × ℕ) → so_far.fault ≡ Some x → IsRefusal (unlimited_step s)
    found-full x some = subst IsRefusal (sym (full-unlimited x some)) (full-end so_far.events so_far.records x.0 x.1)

    not-over : so_far.fault ≡ None → ⊥
    not-over none = no-end e (reach_in s).passed other (subst (EndsAs q (Some e)) (over-step none) h.ended)

    -- behind a kern more may come
    pub is-full : kern_last false s.waiting ≡ true → IsFull s
    is-full kern = by so_far.fault refl
      where
        by : (o : Option (ℕ × ℕ)) → so_far.fault ≡ o → IsFull s
        by None none = absurd (not-over none)
        by (Some x) some = record { step = found-full x some; kern = kern }

    -- else it is so whatever comes behind
    pub is-refused : kern_last false s.waiting ≡ false → IsRefused s
    is-refused last = by so_far.fault refl
      where
        by : (o : Option (ℕ × ℕ)) → so_far.fault ≡ o → IsRefused s
        by None none = absurd (not-over none)
        by (Some x) some = record { step = found-full x some; later = by_firing (reach_in s).fires refl }
          where
            by_firing : (t : Bool) → (reach_in s).fires ≡ t → ((reach_in s).fires ≡ true) ⊎ ((more : List PlainNode) → IsRefusal (unlimited_step (state_with more s)))
            by_firing true fires = inl fires
            by_firing false quiet = inr (λ more. full-on x s more last quiet some)
