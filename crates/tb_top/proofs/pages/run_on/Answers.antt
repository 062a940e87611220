use Rattle.std.proofs.Common.{◌∙◌, ap, sym, subst, ◌≡◌, ◌<◌, ◌++◌, Option, Some, arith}
use Rattle.std.proofs.lemmas.Result.{err_from_is_err_and, IfErr-weaker, IfOk-weaker, IfErr-at_err}
use Rattle.std.proofs.lemmas.Option.{MatchOption-at_none}
use Rattle.tb_output.specs.State.{State}
use Rattle.tb_run.specs.declared.routine.Routine.{Routine}
use Rattle.tb_steps.specs.Run.{held_count, firings_left}
use Rattle.tb_items.specs.Happenings.{events_of, ArePages}
use Rattle.tb_run.specs.Routine.{state_of, over_limit, AreHappened}
use Rattle.std.specs.Io.KnownBytes.{Appends, append_known}
use Rattle.tb_io.specs.Sink.{AppendsPrefix}
use Rattle.tb_report.specs.RunTotals.{AreCounts}
use Rattle.tb_run.specs.declared.routine.Ending.{Ending}
use Rattle.tb_top.specs.Kept.{Grows, Keeps}
use Rattle.tb_top.specs.Pages.{view_text}
use Rattle.tb_top.specs.PagesWritten.{run_on}
use Rattle.tb_top.specs.Report.{all_lines, traced_lines}
use Rattle.tb_top.specs.Views.{is_traced, viewed, with_events}
use Rattle.tb_top.proofs.Written.KeptLemmas.{grows-nothing, grows-on, keeps-grows, keeps-appends, first-kept, front-written, none-written}
use Rattle.tb_top.proofs.Written.GoingLemmas.{header, more-shown, prefix-now, refuses-cut, failed-at, silent-shown}
use Rattle.tb_top.proofs.Written.FinishLemmas.{ClosesAt, ends-well, stops-with, start-closing, start-going, start-tally, turn-cut, turn-closing, turn-going, turn-counts, turn-tally, limit-ready, few-wait, stops-cause, stops-shown}
use Rattle.tb_top.proofs.Written.FirstRuns.{none-yet}
use Rattle.tb_top.proofs.Written.TurnLemmas.{ShowsStep, shows-step, turn-fewer}
use Rattle.tb_steps.proofs.RunParams.{AreFewFirings, few-firings}
use Rattle.tb_top.proofs.pages.run_on.Given.{Over}
use Rattle.tb_top.proofs.pages.run_on.Goals.{In_ok-put, In-Some, In_ok-ending, In_ok-send}
use Rattle.tb_top.proofs.pages.run_on.Goals as goal

pub returns-in_err-put-clause-refused : goal.returns-in_err-put-clause-refused
returns-in_err-put-clause-refused g c =
    let p = err_from_is_err_and c.from_residual.result c.from_residual.ensures.1 in
    rw (p.1, p.2) (none-yet (g.K.Sink.held c.args.out.now) (view_text c.args.view (run_on c.args.routine.now)))

-- the header is kept
begun : (g : Over) (c : In_ok-put g) → Appends (g.K.Sink.held c.args.out.now) (append_known (g.K.Sink.held c.args.out.now) (viewed c.args.view c.put.new.out.items)) (viewed c.args.view header)
begun g c =
    let held = g.K.Sink.held c.args.out.now in
    let is : c.put.new.out.items ≡ header = c.in_ok-put.ensures ∙ ap (λ t. t ++ header) c.new-kept.ensures.items in
    subst (λ ls. Appends held (append_known held (viewed c.args.view ls)) (viewed c.args.view header)) (sym is) (first-kept held (viewed c.args.view header))

-- ---- more nodes wait at the start than may be

-- the limit is that of the routine whose nodes were counted
over : (r q : Routine) (o : Option Ending) → o ≡ over_limit r.machine.params (held_count (state_of r)) → q ≡ record r { most = q.most } → o ≡ over_limit (state_of q).params (held_count (state_of q))
over r q o limit same = limit ∙ ap (λ (s : State). over_limit s.params (held_count s)) (sym (ap state_of same))

-- nothing but the end of the run is left
ends-at-start : (g : Over) (c : In-Some g) → Appends (g.K.Sink.held c.args.out.now) (append_known (g.K.Sink.held c.args.out.now) (viewed c.args.view c.put.new.out.items)) (viewed c.args.view header)
    → ClosesAt c.args.view c.node_limit.new.self c.in-Some.ending (g.K.Sink.held c.args.out.now) (append_known (g.K.Sink.held c.args.out.now) (viewed c.args.view c.put.new.out.items)) c.new-totals.result (run_on c.args.routine.now)
ends-at-start g c first = start-closing c.args.view (state_of c.args.routine.now) c.node_limit.new.self _ _ c.new-totals.result c.node_limit.result (ap state_of c.node_limit.ensures.same) c.requires.page first c.new-totals.ensures (over c.args.routine.now c.node_limit.new.self c.node_limit.result c.node_limit.ensures.limit c.node_limit.ensures.same) c.in-Some.ending c.in-Some.is

pub returns-in-Some-clause-done : goal.returns-in-Some-clause-done
returns-in-Some-clause-done g c =
    let w = goal.at.returns-in-Some-clause-done g c in
    let closing = ends-at-start g w.In-Some (begun g w.In_ok-put) in
    IfOk-weaker c.finish.result _ _ (λ u h. ends-well c.args.view c.node_limit.new.self c.new-totals.result (run_on c.args.routine.now) _ _ _ c.put.new.out.items c.in-Some.ending closing.end u closing.is closing.closing h) c.finish.ensures.done

pub returns-in-Some-clause-refused : goal.returns-in-Some-clause-refused
returns-in-Some-clause-refused g c =
    let w = goal.at.returns-in-Some-clause-refused g c in
    let closing = ends-at-start g w.In-Some (begun g w.In_ok-put) in
    IfErr-weaker c.finish.result _ _ (λ f h. stops-with c.args.view c.node_limit.new.self c.new-totals.result (run_on c.args.routine.now) _ _ _ c.put.new.out.items c.in-Some.ending closing.end _ _ f closing.is (grows-nothing (g.K.Sink.held c.args.out.now)) closing.closing h) c.finish.ensures.refused

pub firing-init : goal.firing-init
firing-init g c =
    let first = begun g (goal.at.firing-init g c).In_ok-put in
    let is = ap state_of c.node_limit.ensures.same in
    let more = over c.args.routine.now c.node_limit.new.self c.node_limit.result c.node_limit.ensures.limit c.node_limit.ensures.same in
    record {
      ready = limit-ready c.args.routine.now c.node_limit.new.self c.node_limit.result c.requires.ready c.node_limit.ensures.same c.node_limit.ensures.bounded c.node_limit.ensures.within c.in_default.is;
      going = start-going c.args.view (state_of c.args.routine.now) c.node_limit.new.self _ _ c.new-totals.result c.node_limit.result is c.requires.page first c.new-totals.ensures more c.in_default.is;
      grown = grows-nothing (g.K.Sink.held c.args.out.now);
      tally = start-tally c.args.view (state_of c.args.routine.now) c.node_limit.new.self _ _ c.new-totals.result c.node_limit.result is c.requires.page first c.new-totals.ensures more c.requires.cycles (subst (λ (s : State). AreFewFirings s.params) (sym is) (few-firings c.args.routine.now.machine.params c.requires.params));
      later = omega arith;
    }

pub returns-in_err-ending-clause-refused : goal.returns-in_err-ending-clause-refused
returns-in_err-ending-clause-refused g c =
    let p = err_from_is_err_and c.from_residual-in_err-ending.result c.from_residual-in_err-ending.ensures.1 in
    let front = prefix-now c.args.view (state_of c.firing.routine) _ _ c.firing.totals (run_on c.args.routine.now) c.firing.invariant.going in
    rw (p.1, p.2) (none-written _ _ (viewed c.args.view c.firing.kept.items) (view_text c.args.view (run_on c.args.routine.now)) c.firing.invariant.grown front)

-- ---- a turn

pub send-requires-clause-pages : goal.send-requires-clause-pages
send-requires-clause-pages g c = subst (λ hs. ArePages c.turn.new.self.store hs) (sym c.deref.ensures.value) c.in_ok-ending.ensures.pages

-- it is the next step of the run
turn : (g : Over) (c : In_ok-ending g) → ShowsStep (is_traced c.args.view) (state_of c.firing.routine) c.turn.new.self c.turn.new.happened.items c.in_ok-ending.ending
turn g c = shows-step c.is_traced.result (is_traced c.args.view) c.firing.routine c.turn.new.self c.turn.new.happened.items c.in_ok-ending.ending c.is_traced.ensures c.in_ok-ending.ensures.turned

pub send-requires-clause-room : goal.send-requires-clause-room
send-requires-clause-room g c =
    let shows = turn g (goal.at.send-requires-clause-room g c).In_ok-ending in
    subst (λ hs. AreCounts (with_events (events_of c.turn.new.self.store hs) c.firing.totals)) (sym c.deref.ensures.value)
    (turn-counts c.args.view (state_of c.firing.routine) _ _ c.firing.totals (run_on c.args.routine.now) c.firing.invariant.going c.turn.new.self c.turn.new.happened.items c.in_ok-ending.ending shows c.firing.invariant.tally (few-wait c.firing.routine c.firing.invariant.ready) c.in_ok-ending.ensures.pages)

pub returns-in_err-send-clause-refused : goal.returns-in_err-send-clause-refused
returns-in_err-send-clause-refused g c =
    let shows = turn g (goal.at.returns-in_err-send-clause-refused g c).In_ok-ending in
    let p = err_from_is_err_and c.from_residual-in_err-send.result c.from_residual-in_err-send.ensures.1 in
    let part = subst (λ hs. AppendsPrefix (g.K.Sink.held c.firing.out) (g.K.Sink.held c.send.new.out) (viewed c.args.view (c.firing.kept.items ++ all_lines traced_lines (events_of c.turn.new.self.store hs)))) c.deref.ensures.value c.in_err-send.ensures.shown.part in
    let lines = all_lines traced_lines (events_of c.turn.new.self.store c.turn.new.happened.items) in
    let whole = turn-cut c.args.view (state_of c.firing.routine) _ _ c.firing.totals (run_on c.args.routine.now) c.firing.invariant.going c.turn.new.self c.turn.new.happened.items c.in_ok-ending.ending shows _ (more-shown c.args.view (g.K.Sink.held c.firing.out) c.firing.kept.items lines) in
    rw (p.1, p.2) (refuses-cut c.args.view (run_on c.args.routine.now) _ _ c.in_err-send.field-0.0 (front-written _ _ _ _ (view_text c.args.view (run_on c.args.routine.now)) c.firing.invariant.grown part whole))

pub returns-in_err-send-clause-cause : goal.returns-in_err-send-clause-cause
returns-in_err-send-clause-cause g c = λ is.
    let failed = failed-at c.from_residual-in_err-send.result c.in_err-send.field-0.0 c.from_residual-in_err-send.ensures.1 is in
    let rose = (c.in_err-send.ensures.shown.cause failed).0 in
    let start = c.firing.invariant.later in
    omega (arith, start, rose)

pub returns-in_err-send-clause-silent : goal.returns-in_err-send-clause-silent
returns-in_err-send-clause-silent g c = λ silent is.
    let failed = failed-at c.from_residual-in_err-send.result c.in_err-send.field-0.0 c.from_residual-in_err-send.ensures.1 is in
    silent-shown c.args.view silent (c.in_err-send.ensures.shown.cause failed).1

-- what it sent is shown or kept, and counted
shown : (g : Over) (c : In_ok-send g) → Appends (append_known (g.K.Sink.held c.firing.out) (viewed c.args.view c.firing.kept.items)) (append_known (g.K.Sink.held c.send.new.out) (viewed c.args.view c.send.new.kept.items)) (viewed c.args.view (all_lines traced_lines (events_of c.turn.new.self.store c.turn.new.happened.items)))
shown g c = keeps-appends _ _ _ _ _ (subst (λ hs. Keeps (g.K.Sink.held c.firing.out) (g.K.Sink.held c.send.new.out) (viewed c.args.view c.firing.kept.items) (viewed c.args.view c.send.new.kept.items) (viewed c.args.view (all_lines traced_lines (events_of c.turn.new.self.store hs)))) c.deref.ensures.value c.in_ok-send.ensures.shown.whole)

grown : (g : Over) (c : In_ok-send g) → Grows (g.K.Sink.held c.args.out.now) (g.K.Sink.held c.send.new.out)
grown g c = grows-on _ _ _ c.firing.invariant.grown (keeps-grows _ _ _ _ _ c.in_ok-send.ensures.shown.whole)

counted : (g : Over) (c : In_ok-send g) → c.send.new.totals ≡ with_events (events_of c.turn.new.self.store c.turn.new.happened.items) c.firing.totals
counted g c = c.in_ok-send.ensures.counted ∙ ap (λ hs. with_events (events_of c.turn.new.self.store hs) c.firing.totals) c.deref.ensures.value

-- ---- the turn was the last

-- nothing but the end of the run is left
ends-here : (g : Over) (c : In_ok-send g) → ShowsStep (is_traced c.args.view) (state_of c.firing.routine) c.turn.new.self c.turn.new.happened.items c.in_ok-ending.ending → (ending : Ending) → c.in_ok-ending.ending ≡ Some ending
    → ClosesAt c.args.view c.turn.new.self ending (g.K.Sink.held c.args.out.now) (append_known (g.K.Sink.held c.send.new.out) (viewed c.args.view c.send.new.kept.items)) c.send.new.totals (run_on c.args.routine.now)
ends-here g c shows ending some = turn-closing c.args.view (state_of c.firing.routine) _ _ c.firing.totals (run_on c.args.routine.now) c.firing.invariant.going c.turn.new.self c.turn.new.happened.items c.in_ok-ending.ending shows _ c.send.new.totals ending some (shown g c) (counted g c)

pub returns-in-Some-ending-clause-done : goal.returns-in-Some-ending-clause-done
returns-in-Some-ending-clause-done g c =
    let w = goal.at.returns-in-Some-ending-clause-done g c in
    let closing = ends-here g w.In_ok-send (turn g w.In_ok-ending) c.in-Some-ending.ending c.in-Some-ending.is in
    IfOk-weaker c.finish-in-Some-ending.result _ _ (λ u h. ends-well c.args.view c.turn.new.self c.send.new.totals (run_on c.args.routine.now) _ _ _ c.send.new.kept.items c.in-Some-ending.ending closing.end u closing.is closing.closing h) c.finish-in-Some-ending.ensures.done

pub returns-in-Some-ending-clause-refused : goal.returns-in-Some-ending-clause-refused
returns-in-Some-ending-clause-refused g c =
    let w = goal.at.returns-in-Some-ending-clause-refused g c in
    let closing = ends-here g w.In_ok-send (turn g w.In_ok-ending) c.in-Some-ending.ending c.in-Some-ending.is in
    IfErr-weaker c.finish-in-Some-ending.result _ _ (λ f h. stops-with c.args.view c.turn.new.self c.send.new.totals (run_on c.args.routine.now) _ _ _ c.send.new.kept.items c.in-Some-ending.ending closing.end _ _ f closing.is (grown g w.In_ok-send) closing.closing h) c.finish-in-Some-ending.ensures.refused

pub done_with-requires-clause-ready : goal.done_with-requires-clause-ready
done_with-requires-clause-ready g c = MatchOption-at_none _ _ c.in_default-ending.is c.in_ok-ending.ensures.ready

pub done_with-requires-clause-lists : goal.done_with-requires-clause-lists
done_with-requires-clause-lists g c = subst (AreHappened c.turn.new.self) (sym c.deref-in-firing.ensures.value) (MatchOption-at_none _ _ c.in_default-ending.is c.in_ok-ending.ensures.lists)

pub firing-smaller : goal.firing-smaller
firing-smaller g c =
    let shows = turn g (goal.at.firing-smaller g c).In_ok-ending in
    let fewer = turn-fewer (state_of c.firing.routine) c.turn.new.self c.firing.invariant.going.page (is_traced c.args.view) c.turn.new.happened.items c.in_ok-ending.ending shows c.in_default-ending.is in
    subst (λ s. firings_left s < firings_left (state_of c.firing.routine)) (sym c.done_with.ensures.state) fewer

pub firing-preserved : goal.firing-preserved
firing-preserved g c =
    let w = goal.at.firing-preserved g c in
    let shows = turn g w.In_ok-ending in
    let start = c.firing.invariant.later in
    let later = c.in_ok-send.ensures.shown.later in
    record {
      ready = c.done_with.ensures.ready;
      going = turn-going c.args.view (state_of c.firing.routine) _ _ c.firing.totals (run_on c.args.routine.now) c.firing.invariant.going c.turn.new.self c.turn.new.happened.items c.in_ok-ending.ending shows _ c.send.new.totals (state_of c.done_with.new.self) c.done_with.ensures.state c.in_default-ending.is (shown g w.In_ok-send) (counted g w.In_ok-send);
      grown = grown g w.In_ok-send;
      tally = turn-tally c.args.view (state_of c.firing.routine) _ _ c.firing.totals (run_on c.args.routine.now) c.firing.invariant.going c.turn.new.self c.turn.new.happened.items c.in_ok-ending.ending shows c.firing.invariant.tally (few-wait c.firing.routine c.firing.invariant.ready) c.in_ok-ending.ensures.pages c.send.new.totals (state_of c.done_with.new.self) c.done_with.ensures.state c.in_default-ending.is (counted g w.In_ok-send);
      later = omega (arith, start, later);
    }

pub returns-in-Some-clause-cause : goal.returns-in-Some-clause-cause
returns-in-Some-clause-cause g c = λ is. stops-cause c.args.view c.node_limit.new.self c.new-totals.result c.in-Some.ending c.put.new.out.items _ _ _ _ _ (omega arith) (IfErr-at_err _ is c.finish.ensures.refused)

pub returns-in-Some-clause-silent : goal.returns-in-Some-clause-silent
returns-in-Some-clause-silent g c = λ silent is. stops-shown c.args.view c.node_limit.new.self c.new-totals.result c.in-Some.ending c.put.new.out.items _ _ _ _ silent (IfErr-at_err _ is c.finish.ensures.refused)

pub returns-in-Some-ending-clause-cause : goal.returns-in-Some-ending-clause-cause
returns-in-Some-ending-clause-cause g c = λ is.
    let start = c.firing.invariant.later in
    let later = c.in_ok-send.ensures.shown.later in
    stops-cause c.args.view c.turn.new.self c.send.new.totals c.in-Some-ending.ending c.send.new.kept.items _ _ _ _ _ (omega (arith, start, later)) (IfErr-at_err _ is c.finish-in-Some-ending.ensures.refused)

pub returns-in-Some-ending-clause-silent : goal.returns-in-Some-ending-clause-silent
returns-in-Some-ending-clause-silent g c = λ silent is. stops-shown c.args.view c.turn.new.self c.send.new.totals c.in-Some-ending.ending c.send.new.kept.items _ _ _ _ silent (IfErr-at_err _ is c.finish-in-Some-ending.ensures.refused)
