-- Each firing that goes on lowers what is left of the firings, so the fuel of a run without the limit on nodes is never used up.
use Rattle.std.proofs.Common.{◌≡◌, refl, ◌∙◌, ap, ℕ, zero, suc, ◌<◌, ◌≤◌, ℤ, Bool, true, false, List, ◌++◌, map, Option, Some, arith}
use Rattle.std.specs.Prelude.{pred, if◌then◌else◌}
use Rattle.tb_scaled.specs.Scaled.{awful_bad}
use Rattle.tb_output.specs.State.{State, Work, Recorded}
use Rattle.tb_items.specs.RunEvents.{RunEvent, sent}
use Rattle.tb_steps.specs.Run.{page_limit, Progress, Step, ends, goes_on, firings_left, ask_for}
use Rattle.tb_steps.proofs.RunTree.{PageIs, page-is, page_of, served_at, Fires, WholePage, StepIs, whole-is, is_whole, is_cut, fires_on, meets_page_limit, meets_full_pool}
use Rattle.tb_laws.proofs.Defined.FuelLemmas.{Turns, steps-turn}
use Rattle.tb_rate.specs.declared.PlacePenalty.{PlacePenalty}
use Rattle.tb_rate.specs.RatedRun.{demerits_after, more_demerits}
use Rattle.tb_best.specs.PlanDemerits.{unlimited_firing, unlimited_progress, unlimited_step, step_demerits, unlimited_demerits_from}
use Rattle.tb_best.proofs.Paths.{no-amount, more-some}

-- ---- a step

module _ (s : State) where
  firing-is : {es : List RunEvent} {rs : List Recorded} {t : State} → WholePage s es rs t → Fires s t → StepIs s (unlimited_firing es rs (served_at s t))
  firing-is {es = es} {rs = rs} {t = t} x f = by_refused w.refused refl
    where
      w : Work
      w = served_at s t

      by_refused : (u : Bool) → w.refused ≡ u → StepIs s (if u then ends (es ++ map sent w.sent) (rs ++ w.records) (page_limit (pred w.state.page)) else goes_on (es ++ map sent w.sent) (rs ++ w.records) w.state)
      by_refused true r = meets_page_limit x f r
      by_refused false r = fires_on x f r

  unlimited-by : {q : Progress} → PageIs (page_of s).reached s q → StepIs s (unlimited_progress (ask_for s) (page_of s) q q.fault)
  unlimited-by (is_whole x) = whole-is s unlimited_firing x (firing-is x)
  unlimited-by (is_cut x e) = meets_full_pool x e

  -- what a step is made of if the number of nodes is not tested
  pub unlimited-is : StepIs s (unlimited_step s)
  unfolding unlimited_step
  unlimited-is = unlimited-by (page-is (page_of s).reached awful_bad s)

-- a step that goes on lowers what is left of the firings
pub step-turns : (s : State) → 1 ≤ s.page → Turns s (unlimited_step s)
step-turns s h = steps-turn (unlimited-is s) h

-- ---- the fuel

later-enough : (s : State) (f g : State → Option ℤ) (r d : ℤ) (x : Step) → Turns s x
    → ((t : State) (e : ℤ) → 1 ≤ t.page → firings_left t < firings_left s → f t ≡ Some e → g t ≡ Some e) → demerits_after f r x ≡ Some d → demerits_after g r x ≡ Some d
later-enough s f g r d (ends es rs e) turns is h = h
later-enough s f g r d (goes_on es rs t) turns is h = let parts = more-some r (f t) d h in ap (more_demerits r) (is t parts.0 turns.0 turns.1 parts.1) ∙ ap Some parts.2

in-fuel : (a b m : ℕ) → a < b → b < suc m → a < m
in-fuel a b m h k = omega (arith, h, k)

-- with more fuel than firings are left the demerits are those with any fuel with which the run ends well
pub enough-fuel : (places : List PlacePenalty) (k m : ℕ) (s : State) (d : ℤ) → 1 ≤ s.page → firings_left s < m → unlimited_demerits_from places k s ≡ Some d → unlimited_demerits_from places m s ≡ Some d
unfolding unlimited_demerits_from
enough-fuel places zero m s d one more h = absurd (no-amount h)
enough-fuel places (suc k) zero s d one more h = let no : ⊥ = omega (arith, more) in absurd no
enough-fuel places (suc k) (suc m) s d one more h =
    later-enough s (λ t. unlimited_demerits_from places k t) (λ t. unlimited_demerits_from places m t) (step_demerits places s (unlimited_step s)) d (unlimited_step s) (step-turns s one)
    (λ t e i less x. enough-fuel places k m t e i (in-fuel (firings_left t) (firings_left s) m less more) x) h
