-- The run from a state by its first step.
use Rattle.std.proofs.Common.{◌≡◌, refl, ◌∙◌, ap, ℕ, suc, ◌+◌, ◌≤◌, List, ◌++◌, append_assoc, arith}
use Rattle.tb_param.specs.declared.Params.{Params}
use Rattle.tb_sheet.specs.Sheet.{PlainSent}
use Rattle.tb_plain.specs.Run.{MakeupEvent, MakeupRun, MakeupState, MakeupEnd, ends, goes_on, makeup_step, step_tries, step_events, makeup_from, steps_left, run_after, run_by}
use Rattle.tb_plain.proofs.StepLemmas.{steps_agree}
use Rattle.tb_makeup.specs.Makeup.{run_at}

-- one step of a run with steps enough
first-step : (p : Params) (k : ℕ) (s : MakeupState) → makeup_from p (suc k) s ≡ run_by (λ s'. makeup_from p k s') (step_tries p s) (makeup_step p s)
unfolding makeup_from
first-step p k s = refl

pub run-ends : (p : Params) (s : MakeupState) (es : List PlainSent) (e : MakeupEnd) → makeup_step p s ≡ ends es e → run_at p s ≡ record { events = step_events (step_tries p s) es; end = e }
run-ends p s es e h = first-step p (steps_left p s) s ∙ ap (run_by (λ s'. makeup_from p (steps_left p s) s') (step_tries p s)) h

pub run-goes : (p : Params) (s t : MakeupState) (es : List PlainSent) → 1 ≤ s.number → 1 ≤ t.number → makeup_step p s ≡ goes_on es t → run_at p s ≡ run_after (step_events (step_tries p s) es) (run_at p t)
run-goes p s t es n m h =
    steps_agree p (suc (steps_left p s)) (suc (suc (steps_left p s + steps_left p t))) s n (omega arith) (omega arith)
    ∙ first-step p (suc (steps_left p s + steps_left p t)) s
    ∙ ap (run_by (λ s'. makeup_from p (suc (steps_left p s + steps_left p t)) s') (step_tries p s)) h
    ∙ ap (run_after (step_events (step_tries p s) es)) (steps_agree p (suc (steps_left p s + steps_left p t)) (suc (steps_left p t)) t m (omega arith) (omega arith))

pub run-append : (es fs : List MakeupEvent) (r : MakeupRun) → run_after (es ++ fs) r ≡ run_after es (run_after fs r)
run-append es fs r = λ i. record { events = append_assoc es fs r.events i; end = r.end }
