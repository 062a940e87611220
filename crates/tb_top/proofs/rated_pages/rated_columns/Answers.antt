use Rattle.std.proofs.Common.{sym, ◌∙◌, ap, subst, ◌++◌, None, Err, arith}
use Rattle.std.specs.List.{AllByRecursion}
use Rattle.std.specs.Prelude.{IsTrue}
use Rattle.tb_param.specs.Ranges.{are_params}
use Rattle.std.proofs.lemmas.Result.{err_from_is_err_and}
use Rattle.tb_output.specs.State.{State}
use Rattle.tb_run.specs.Routine.{state_of}
use Rattle.tb_steps.proofs.RunParams.{params-runnable}
use Rattle.tb_rate.specs.Places.{place_penalties, IsMildPlace}
use Rattle.tb_rate.specs.RatedRun.{rated_of_state}
use Rattle.tb_best.specs.BestLines.{broken_columns}
use Rattle.tb_top.specs.BestText.{shown_columns}
use Rattle.tb_top.proofs.Rated.RatedOutcomes.{rates-galley, refuses-galley, columns-are, stops-unseen}
use Rattle.tb_top.proofs.rated_pages.rated_columns.Goals as goal

pub new-requires-clause-params : goal.new-requires-clause-params
new-requires-clause-params c = params-runnable c.args.galley.now.params c.requires.params

pub new-requires-clause-items : goal.new-requires-clause-items
new-requires-clause-items c = c.requires.items

pub new-requires-clause-classes : goal.new-requires-clause-classes
new-requires-clause-classes c = c.requires.classes

pub new-requires-clause-nodes : goal.new-requires-clause-nodes
new-requires-clause-nodes c = c.requires.nodes

pub run_on-requires-clause-ranges : goal.run_on-requires-clause-ranges
run_on-requires-clause-ranges c = subst (λ p. IsTrue (are_params p)) (sym c.in_ok-routine.ensures.params) c.requires.params

pub run_on-requires-clause-mild : goal.run_on-requires-clause-mild
run_on-requires-clause-mild c = subst (AllByRecursion IsMildPlace) (sym (c.as_slice-2.ensures.value ∙ c.in_ok-places.ensures.places)) c.in_ok-places.ensures.mild

pub run_on-requires-clause-page : goal.run_on-requires-clause-page
run_on-requires-clause-page c = ap (λ (s : State). s.page) c.in_ok-routine.ensures.state

pub run_on-requires-clause-cycles : goal.run_on-requires-clause-cycles
run_on-requires-clause-cycles c = ap (λ (s : State). s.dead_cycles) c.in_ok-routine.ensures.state

pub returns-clause-columns : goal.returns-clause-columns
returns-clause-columns c =
    let r = c.in_ok-routine.routine in
    let placed = c.as_slice-2.ensures.value ∙ c.in_ok-places.ensures.places ∙ ap place_penalties c.as_slice.ensures in
    c.in_ok-run_on.ensures.columns
    ∙ ap (λ cs. shown_columns cs ++ broken_columns None (rated_of_state c.as_slice-2.result.now (state_of r))) c.new-columns.ensures.items
    ∙ columns-are c.args.galley.now (state_of r) c.in_ok-routine.ensures.state _ placed None None

pub returns-clause-done : goal.returns-clause-done
returns-clause-done c =
    let r = c.in_ok-routine.routine in
    let placed = c.as_slice-2.ensures.value ∙ c.in_ok-places.ensures.places ∙ ap place_penalties c.as_slice.ensures in
    (rates-galley c.args.galley.now (state_of r) c.in_ok-routine.ensures.state _ placed _ _ _ c.in_ok-run_on.ensures.done).ended

pub returns-in_err-run_on-clause-refused : goal.returns-in_err-run_on-clause-refused
returns-in_err-run_on-clause-refused c =
    let r = c.in_ok-routine.routine in
    let placed = c.as_slice-2.ensures.value ∙ c.in_ok-places.ensures.places ∙ ap place_penalties c.as_slice.ensures in
    let p = err_from_is_err_and c.from_residual-in_err-run_on.result c.from_residual-in_err-run_on.ensures.1 in
    rw (p.1, p.2)
    (stops-unseen _ _ _ _ c.in_err-run_on.field-0.0 (λ is. let rose = c.in_err-run_on.ensures.cause (ap Err is) in grind (arith, rose))
    (refuses-galley c.args.galley.now (state_of r) c.in_ok-routine.ensures.state _ placed _ _ _ c.in_err-run_on.ensures.refused))
