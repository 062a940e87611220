use Rattle.std.proofs.Common.{ap, sym, subst}
use Rattle.std.proofs.lemmas.Result.{err_from_is_err_and, IfOk-weaker}
use Rattle.std.specs.Prelude.{IsTrue, IfOk, IfErr}
use Rattle.tb_param.specs.Ranges.{are_params}
use Rattle.tb_plain.specs.Run.{MakeupState, makeup_of}
use Rattle.tb_top.specs.MakeupPages.{MakesPages, RefusesPages, makeup_text}
use Rattle.tb_top.proofs.Plain.MakeupClosing.{ended-done}
use Rattle.tb_top.proofs.Plain.MakeupOnce.{makes-up-once}
use Rattle.tb_top.proofs.Plain.MakeupStarts.{makeup-params, makeup-items, makeup-nodes, makeup-room, runs-galley}
use Rattle.tb_top.proofs.Written.FirstRuns.{none-yet}
use Rattle.tb_top.proofs.makeup_pages.paginate_plain.Goals as goal

pub new-requires-clause-params : goal.new-requires-clause-params
new-requires-clause-params g c = makeup-params c.args.galley.now.params c.requires.valid.params

pub new-requires-clause-items : goal.new-requires-clause-items
new-requires-clause-items g c = makeup-items c.args.galley.now c.requires.valid c.requires.suited

pub new-requires-clause-nodes : goal.new-requires-clause-nodes
new-requires-clause-nodes g c = makeup-nodes c.args.galley.now c.requires.valid c.requires.suited

pub new-requires-clause-few : goal.new-requires-clause-few
new-requires-clause-few g c = makeup-room c.args.galley.now c.requires.valid c.requires.suited

-- ---- the run of the page makeup is the galley's

pub run_on-requires-clause-params : goal.run_on-requires-clause-params
run_on-requires-clause-params g c = subst (λ p. IsTrue (are_params p)) (sym c.in_ok-makeup.ensures.params) c.requires.valid.params

pub run_on-requires-clause-page : goal.run_on-requires-clause-page
run_on-requires-clause-page g c = ap (λ (s : MakeupState). s.number) c.in_ok-makeup.ensures.state

pub returns-clause-done : goal.returns-clause-done
returns-clause-done g c =
    let is = runs-galley c.args.galley.now c.in_ok-makeup.makeup c.in_ok-makeup.ensures.state c.in_ok-makeup.ensures.params in
    subst (λ r. IfOk c.run_on.result (MakesPages c.args.view r (g.K.Sink.held c.args.out.now) (g.K.Sink.held c.run_on.new.out))) is c.run_on.ensures.done

pub returns-clause-refused : goal.returns-clause-refused
returns-clause-refused g c =
    let is = runs-galley c.args.galley.now c.in_ok-makeup.makeup c.in_ok-makeup.ensures.state c.in_ok-makeup.ensures.params in
    subst (λ r. IfErr c.run_on.result (RefusesPages c.args.view r (g.K.Sink.held c.args.out.now) (g.K.Sink.held c.run_on.new.out))) is c.run_on.ensures.refused

pub returns-clause-laws : goal.returns-clause-laws
returns-clause-laws g c = IfOk-weaker c.run_on.result _ _ (λ u h. makes-up-once c.args.galley.now c.requires.valid c.requires.suited (ended-done (makeup_of c.args.galley.now).end h.ended)) (returns-clause-done g c)

-- there was no memory for it
pub returns-in_err-makeup-clause-refused : goal.returns-in_err-makeup-clause-refused
returns-in_err-makeup-clause-refused g c =
    let p = err_from_is_err_and c.from_residual.result c.from_residual.ensures.1 in
    rw (p.1, p.2) (none-yet (g.K.Sink.held c.args.out.now) (makeup_text c.args.view (makeup_of c.args.galley.now)))
