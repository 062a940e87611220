use Rattle.std.proofs.Common.{ap, sym, subst}
use Rattle.std.proofs.lemmas.Result.{err_from_is_err_and}
use Rattle.std.specs.Prelude.{IsTrue, IfOk, IfErr}
use Rattle.tb_param.specs.Ranges.{are_params}
use Rattle.tb_output.specs.State.{State}
use Rattle.tb_steps.specs.Run.{run_of}
use Rattle.tb_top.specs.Pages.{Paginates, Refuses, view_text}
use Rattle.tb_top.proofs.Written.FirstRuns.{runs-galley, none-yet}
use Rattle.tb_steps.proofs.RunParams.{params-runnable}
use Rattle.tb_top.proofs.pages.paginate_runnable.Goals as goal

pub new-requires-clause-params : goal.new-requires-clause-params
new-requires-clause-params g c = params-runnable c.args.galley.now.params c.requires.params

pub new-requires-clause-items : goal.new-requires-clause-items
new-requires-clause-items g c = c.requires.items

pub new-requires-clause-classes : goal.new-requires-clause-classes
new-requires-clause-classes g c = c.requires.classes

pub new-requires-clause-nodes : goal.new-requires-clause-nodes
new-requires-clause-nodes g c = c.requires.nodes

pub run_on-requires-clause-params : goal.run_on-requires-clause-params
run_on-requires-clause-params g c = subst (λ p. IsTrue (are_params p)) (sym c.in_ok-routine.ensures.params) c.requires.params

pub run_on-requires-clause-page : goal.run_on-requires-clause-page
run_on-requires-clause-page g c = ap (λ (s : State). s.page) c.in_ok-routine.ensures.state

pub run_on-requires-clause-cycles : goal.run_on-requires-clause-cycles
run_on-requires-clause-cycles g c = ap (λ (s : State). s.dead_cycles) c.in_ok-routine.ensures.state

pub returns-clause-done : goal.returns-clause-done
returns-clause-done g c =
    let is = runs-galley c.args.galley.now c.in_ok-routine.routine c.in_ok-routine.ensures.state in
    subst (λ r. IfOk c.run_on.result (Paginates c.args.view r (g.K.Sink.held c.args.out.now) (g.K.Sink.held c.run_on.new.out))) is c.run_on.ensures.done

pub returns-clause-refused : goal.returns-clause-refused
returns-clause-refused g c =
    let is = runs-galley c.args.galley.now c.in_ok-routine.routine c.in_ok-routine.ensures.state in
    subst (λ r. IfErr c.run_on.result (Refuses c.args.view r (g.K.Sink.held c.args.out.now) (g.K.Sink.held c.run_on.new.out))) is c.run_on.ensures.refused

-- there was no memory for the routine
pub returns-in_err-routine-clause-refused : goal.returns-in_err-routine-clause-refused
returns-in_err-routine-clause-refused g c =
    let p = err_from_is_err_and c.from_residual.result c.from_residual.ensures.1 in
    rw (p.1, p.2) (none-yet (g.K.Sink.held c.args.out.now) (view_text c.args.view (run_of c.args.galley.now)))
