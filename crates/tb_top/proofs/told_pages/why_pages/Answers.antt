use Rattle.std.proofs.Common.{ap, sym, subst}
use Rattle.std.proofs.lemmas.Result.{err_from_is_err_and, IfErr-weaker, IfOk-weaker}
use Rattle.std.specs.Prelude.{IsTrue}
use Rattle.tb_param.specs.Ranges.{are_params}
use Rattle.tb_output.specs.State.{State}
use Rattle.tb_run.proofs.ServedAgain.GalleyRuns.{galley-classes}
use Rattle.tb_items.proofs.GalleyItems.{galley-items}
use Rattle.tb_items.proofs.GalleyNodeLemmas.{galley-nodes}
use Rattle.tb_steps.proofs.RunParams.{params-runnable}
use Rattle.tb_laws.proofs.Limits.LimitedRuns.{run-within}
use Rattle.tb_top.specs.WhyReport.{why_report}
use Rattle.tb_top.proofs.Written.FirstRuns.{none-yet}
use Rattle.tb_top.proofs.Ends.CycleAnswers.{text-not-for-cycles}
use Rattle.tb_top.proofs.Why.WhyOutcomes.{why-laws, explains-galley, refuses-galley}
use Rattle.tb_top.proofs.told_pages.why_pages.Goals as goal

pub new-requires-clause-params : goal.new-requires-clause-params
new-requires-clause-params g c = params-runnable c.args.galley.now.params c.requires.valid.params

pub new-requires-clause-items : goal.new-requires-clause-items
new-requires-clause-items g c = galley-items c.args.galley.now c.requires.valid

pub new-requires-clause-classes : goal.new-requires-clause-classes
new-requires-clause-classes g c = galley-classes c.args.galley.now (params-runnable c.args.galley.now.params c.requires.valid.params) c.requires.valid

pub new-requires-clause-nodes : goal.new-requires-clause-nodes
new-requires-clause-nodes g c = galley-nodes c.args.galley.now (params-runnable c.args.galley.now.params c.requires.valid.params).foot c.requires.valid

-- ---- the routine's run is the galley's

pub run_on-requires-clause-params : goal.run_on-requires-clause-params
run_on-requires-clause-params g c = subst (λ p. IsTrue (are_params p)) (sym c.in_ok-routine.ensures.params) c.requires.valid.params

pub run_on-requires-clause-page : goal.run_on-requires-clause-page
run_on-requires-clause-page g c = ap (λ (s : State). s.page) c.in_ok-routine.ensures.state

pub run_on-requires-clause-cycles : goal.run_on-requires-clause-cycles
run_on-requires-clause-cycles g c = ap (λ (s : State). s.dead_cycles) c.in_ok-routine.ensures.state

pub returns-clause-done : goal.returns-clause-done
returns-clause-done g c =
    IfOk-weaker c.run_on.result _ _ (λ t h. explains-galley c.args.galley.now c.in_ok-routine.routine c.in_ok-routine.ensures.state _ _ t h) c.run_on.ensures.done

pub returns-clause-refused : goal.returns-clause-refused
returns-clause-refused g c =
    IfErr-weaker c.run_on.result _ _ (λ e h. refuses-galley c.args.galley.now c.in_ok-routine.routine c.in_ok-routine.ensures.state _ _ e h) c.run_on.ensures.refused

pub returns-clause-laws : goal.returns-clause-laws
returns-clause-laws g c = IfOk-weaker c.run_on.result _ _ (λ t h. why-laws c.args.galley.now c.requires.valid _ _ _ t h) (returns-clause-done g c)

pub returns-clause-limits : goal.returns-clause-limits
returns-clause-limits g c = run-within c.args.galley.now

pub returns-clause-cycles : goal.returns-clause-cycles
returns-clause-cycles g c = λ room. IfErr-weaker c.run_on.result _ _ (text-not-for-cycles c.args.galley.now c.requires.valid room _ _ _) (returns-clause-refused g c)

-- ---- there was no memory for the routine

pub returns-in_err-routine-clause-refused : goal.returns-in_err-routine-clause-refused
returns-in_err-routine-clause-refused g c =
    let p = err_from_is_err_and c.from_residual.result c.from_residual.ensures.1 in
    rw (p.1, p.2) (none-yet (g.K.Sink.held c.args.out.now) (why_report c.args.galley.now))

pub returns-in_err-routine-clause-limits : goal.returns-in_err-routine-clause-limits
returns-in_err-routine-clause-limits g c = run-within c.args.galley.now

pub returns-in_err-routine-clause-cycles : goal.returns-in_err-routine-clause-cycles
returns-in_err-routine-clause-cycles g c = λ room. IfErr-weaker c.from_residual.result _ _ (text-not-for-cycles c.args.galley.now c.requires.valid room _ _ _) (returns-in_err-routine-clause-refused g c)
