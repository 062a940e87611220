-- What a run sends, step by step: the places that it tries are left out.
use Rattle.std.proofs.Common.{◌≡◌, refl, sym, subst, ◌∙◌, ap, List, [], ◌∷◌, ◌++◌, map}
use Rattle.tb_builder.specs.declared.Try.{Try}
use Rattle.tb_sheet.specs.Sheet.{PlainSent}
use Rattle.tb_plain.specs.Run.{MakeupEvent, offers, sends, MakeupEnd, MakeupRun, MakeupState, MakeupStep, ends, goes_on, sent_among, sent_of, step_events, run_by}

pub among-append : (es fs : List MakeupEvent) → sent_among (es ++ fs) ≡ sent_among es ++ sent_among fs
among-append [] fs = refl
among-append (offers t ∷ es) fs = among-append es fs
among-append (sends e ∷ es) fs = ap (λ xs. e ∷ xs) (among-append es fs)

among-sends : (es : List PlainSent) → sent_among (map (λ e. sends e) es) ≡ es
among-sends [] = refl
among-sends (e ∷ es) = ap (λ xs. e ∷ xs) (among-sends es)

-- a step sends what it ships
pub among-step : (ts : List Try) (es : List PlainSent) → sent_among (step_events ts es) ≡ es
among-step [] es = among-sends es
among-step (t ∷ ts) es = among-step ts es

-- a property of what a run sends and of its end, by its first step
abbrev pub StepBy : (List PlainSent → MakeupEnd → Type 0) → (MakeupState → MakeupRun) → MakeupStep → Type 0
StepBy Q later (ends es e) = Q es e
StepBy Q later (goes_on es s) = Q (es ++ sent_of (later s)) (later s).end

pub run-sends : (Q : List PlainSent → MakeupEnd → Type 0) (later : MakeupState → MakeupRun) (ts : List Try) (x : MakeupStep) → StepBy Q later x → Q (sent_of (run_by later ts x)) (run_by later ts x).end
run-sends Q later ts (ends es e) h = subst (λ l. Q l e) (sym (among-step ts es)) h
run-sends Q later ts (goes_on es s) h = subst (λ l. Q l (later s).end) (sym (among-append (step_events ts es) (later s).events ∙ ap (λ l. l ++ sent_of (later s)) (among-step ts es))) h
