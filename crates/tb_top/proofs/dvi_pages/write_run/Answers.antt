use Rattle.std.proofs.Common.{◌∙◌, refl, ap, sym, subst, ◌≡◌, ◌<◌, ◌++◌, false, Some, arith}
use Rattle.std.proofs.lemmas.Result.{err_from_is_err_and, IfErr-weaker, IfOk-weaker}
use Rattle.std.specs.Io.KnownBytes.{Appends, append_known}
use Rattle.tb_output.specs.State.{State}
use Rattle.tb_run.specs.declared.routine.Routine.{Routine}
use Rattle.tb_run.specs.declared.routine.Ending.{Ending}
use Rattle.tb_steps.specs.Run.{run_of, held_count, firings_left}
use Rattle.tb_items.specs.Happenings.{events_of}
use Rattle.tb_run.specs.Routine.{IsReady, state_of, over_limit}
use Rattle.tb_dvi.specs.File.{preamble}
use Rattle.tb_laws.specs.DviFiles.{galley_file}
use Rattle.tb_laws.specs.DviPages.{event_pages}
use Rattle.tb_top.specs.DviWritten.{HoldsPages, FailsAmong}
use Rattle.tb_top.specs.Kept.{Grows}
use Rattle.tb_top.proofs.Written.KeptLemmas.{grows-nothing, grows-on, first-kept, none-written}
use Rattle.tb_top.proofs.DviFiles.DviGoing.{ClosesAt, refuses-among, going-short, start-closing, start-going, turn-fails, turn-closing, turn-going, ends-well, stops-with}
use Rattle.tb_steps.proofs.RunParams.{height-fits}
use Rattle.tb_top.proofs.Written.TurnLemmas.{ShowsStep, shows-step, turn-fewer}
use Rattle.tb_top.proofs.Written.FinishLemmas.{limit-ready}
use Rattle.tb_top.proofs.Written.FirstRuns.{none-yet}
use Rattle.tb_param.specs.declared.Params.{Params}
use Rattle.tb_steps.specs.Runnable.{AreRunnable}
use Rattle.tb_top.proofs.dvi_pages.write_run.Given.{Over}
use Rattle.tb_top.proofs.dvi_pages.write_run.Goals.{In_ok-kept, In-Some, In_ok-ending, In_ok-send}
use Rattle.tb_top.proofs.dvi_pages.write_run.Goals as goal

pub returns-in_err-kept-clause-refused : goal.returns-in_err-kept-clause-refused
returns-in_err-kept-clause-refused g c =
    let p = err_from_is_err_and c.from_residual.result c.from_residual.ensures.1 in
    rw (p.1, p.2) (none-yet (g.K.Sink.held c.args.out.now) (galley_file c.args.galley.now))

-- the preamble is kept
begun : (g : Over) (c : In_ok-kept g) → Appends (g.K.Sink.held c.args.out.now) (append_known (g.K.Sink.held c.args.out.now) c.in_ok-kept.kept.items) preamble
begun g c =
    let held = g.K.Sink.held c.args.out.now in
    subst (λ ls. Appends held (append_known held ls) preamble) (sym c.in_ok-kept.ensures) (first-kept held preamble)

-- a run's parameters are in their ranges
runs : (p : Params) (r : Routine) → IsReady r → r.machine.params ≡ p → AreRunnable p
runs p r ready is = subst AreRunnable is ready.settled.params

pub finish-requires-in-Some-ending-clause-height : goal.finish-requires-in-Some-ending-clause-height
finish-requires-in-Some-ending-clause-height g c = height-fits c.args.galley.now.params (runs c.args.galley.now.params c.args.routine.now c.requires.ready c.requires.params)

-- ---- more nodes wait at the start than may be

-- nothing but the end of the file is left
ends-at-start : (g : Over) (c : In-Some g) → Appends (g.K.Sink.held c.args.out.now) (append_known (g.K.Sink.held c.args.out.now) c.in_ok-kept.kept.items) preamble → ClosesAt c.node_limit.new.self c.in-Some.ending (g.K.Sink.held c.args.out.now) (append_known (g.K.Sink.held c.args.out.now) c.in_ok-kept.kept.items) c.new-progress.result (run_of c.args.galley.now)
ends-at-start g c whole = start-closing c.args.galley.now c.node_limit.new.self _ _ c.new-progress.result c.node_limit.result (ap state_of c.node_limit.ensures.same ∙ c.requires.state) c.new-progress.ensures.value whole (c.node_limit.ensures.limit ∙ ap (λ (s : State). over_limit s.params (held_count s)) (sym (ap state_of c.node_limit.ensures.same))) c.in-Some.ending c.in-Some.is

pub returns-in-Some-clause-done : goal.returns-in-Some-clause-done
returns-in-Some-clause-done g c =
    let w = goal.at.returns-in-Some-clause-done g c in
    let closing = ends-at-start g w.In-Some (begun g w.In_ok-kept) in
    IfOk-weaker c.finish.result _ _ (λ u h. ends-well c.args.galley.now _ (g.K.Sink.held c.args.out.now) c.in_ok-kept.kept.items c.new-progress.result c.node_limit.new.self c.in-Some.ending closing _ h) c.finish.ensures.done

pub returns-in-Some-clause-refused : goal.returns-in-Some-clause-refused
returns-in-Some-clause-refused g c =
    let w = goal.at.returns-in-Some-clause-refused g c in
    let closing = ends-at-start g w.In-Some (begun g w.In_ok-kept) in
    IfErr-weaker c.finish.result _ _ (λ e h. stops-with c.args.galley.now _ (g.K.Sink.held c.args.out.now) c.in_ok-kept.kept.items c.new-progress.result c.node_limit.new.self c.in-Some.ending closing _ (grows-nothing (g.K.Sink.held c.args.out.now)) e h) c.finish.ensures.refused

pub firing-init : goal.firing-init
firing-init g c =
    let whole = begun g (goal.at.firing-init g c).In_ok-kept in
    let is = ap state_of c.node_limit.ensures.same ∙ c.requires.state in
    let over = c.node_limit.ensures.limit ∙ ap (λ (s : State). over_limit s.params (held_count s)) (sym (ap state_of c.node_limit.ensures.same)) in
    record {
      ready = limit-ready c.args.routine.now c.node_limit.new.self c.node_limit.result c.requires.ready c.node_limit.ensures.same c.node_limit.ensures.bounded c.node_limit.ensures.within c.in_default.is;
      in_file = c.new-progress.ensures.in_file;
      going = start-going c.args.galley.now c.node_limit.new.self _ _ c.new-progress.result c.node_limit.result is c.new-progress.ensures.value whole over c.in_default.is;
      grown = grows-nothing (g.K.Sink.held c.args.out.now);
      later = omega arith;
    }

pub returns-in_err-ending-clause-refused : goal.returns-in_err-ending-clause-refused
returns-in_err-ending-clause-refused g c =
    let p = err_from_is_err_and c.from_residual-in_err-ending.result c.from_residual-in_err-ending.ensures.1 in
    let front = going-short c.args.galley.now _ _ c.firing.progress (state_of c.firing.routine) c.firing.invariant.going in
    rw (p.1, p.2) (none-written _ _ c.firing.kept.items (galley_file c.args.galley.now) c.firing.invariant.grown front)

-- ---- a turn

-- it is the next step of the run
turn : (g : Over) (c : In_ok-ending g) → ShowsStep false (state_of c.firing.routine) c.turn.new.self c.turn.new.happened.items c.in_ok-ending.ending
turn g c = shows-step false false c.firing.routine c.turn.new.self c.turn.new.happened.items c.in_ok-ending.ending refl c.in_ok-ending.ensures.turned

pub returns-in_err-send-clause-refused : goal.returns-in_err-send-clause-refused
returns-in_err-send-clause-refused g c =
    let going = c.firing.invariant.going in
    let shows = turn g (goal.at.returns-in_err-send-clause-refused g c).In_ok-ending in
    let p = err_from_is_err_and c.from_residual-in_err-send.result c.from_residual-in_err-send.ensures.1 in
    let failed = subst (λ hs. FailsAmong c.in_err-send.field-0.0 (g.K.Sink.held c.args.out.now) (g.K.Sink.held c.send.new.out) (going.written ++ event_pages (events_of c.turn.new.self.store hs))) c.deref.ensures.value
    (c.in_err-send.ensures.sent (g.K.Sink.held c.args.out.now) going.written c.firing.invariant.grown going.holds) in
    rw (p.1, p.2)
    (refuses-among c.args.galley.now _ c.in_err-send.field-0.0 _ _ _ c.in_err-send.ensures.cause
    (turn-fails (state_of c.firing.routine) _ _ c.firing.progress (run_of c.args.galley.now) going c.turn.new.self c.turn.new.happened.items c.in_ok-ending.ending false shows c.in_err-send.field-0.0 _ failed))

-- its pages are written or kept
holds : (g : Over) (c : In_ok-send g) → HoldsPages (g.K.Sink.held c.args.out.now) (append_known (g.K.Sink.held c.send.new.out) c.send.new.kept.items) c.send.new.progress (c.firing.invariant.going.written ++ event_pages (events_of c.turn.new.self.store c.turn.new.happened.items))
holds g c =
    let going = c.firing.invariant.going in
    subst (λ hs. HoldsPages (g.K.Sink.held c.args.out.now) (append_known (g.K.Sink.held c.send.new.out) c.send.new.kept.items) c.send.new.progress (going.written ++ event_pages (events_of c.turn.new.self.store hs))) c.deref.ensures.value
    (c.in_ok-send.ensures.sent (g.K.Sink.held c.args.out.now) going.written c.firing.invariant.grown going.holds)

grown : (g : Over) (c : In_ok-send g) → Grows (g.K.Sink.held c.args.out.now) (g.K.Sink.held c.send.new.out)
grown g c = grows-on _ _ _ c.firing.invariant.grown c.in_ok-send.ensures.grown

-- nothing but the end of the file is left
ends-here : (g : Over) (c : In_ok-send g) → ShowsStep false (state_of c.firing.routine) c.turn.new.self c.turn.new.happened.items c.in_ok-ending.ending → (ending : Ending) → c.in_ok-ending.ending ≡ Some ending
    → ClosesAt c.turn.new.self ending (g.K.Sink.held c.args.out.now) (append_known (g.K.Sink.held c.send.new.out) c.send.new.kept.items) c.send.new.progress (run_of c.args.galley.now)
ends-here g c shows ending some = turn-closing (state_of c.firing.routine) _ _ c.firing.progress (run_of c.args.galley.now) c.firing.invariant.going c.turn.new.self c.turn.new.happened.items c.in_ok-ending.ending false shows _ c.send.new.progress (holds g c) ending some

pub returns-in-Some-ending-clause-done : goal.returns-in-Some-ending-clause-done
returns-in-Some-ending-clause-done g c =
    let w = goal.at.returns-in-Some-ending-clause-done g c in
    let closing = ends-here g w.In_ok-send (turn g w.In_ok-ending) c.in-Some-ending.ending c.in-Some-ending.is in
    IfOk-weaker c.finish-in-Some-ending.result _ _ (λ u h. ends-well c.args.galley.now _ (g.K.Sink.held c.send.new.out) c.send.new.kept.items c.send.new.progress c.turn.new.self c.in-Some-ending.ending closing _ h) c.finish-in-Some-ending.ensures.done

pub returns-in-Some-ending-clause-refused : goal.returns-in-Some-ending-clause-refused
returns-in-Some-ending-clause-refused g c =
    let w = goal.at.returns-in-Some-ending-clause-refused g c in
    let closing = ends-here g w.In_ok-send (turn g w.In_ok-ending) c.in-Some-ending.ending c.in-Some-ending.is in
    IfErr-weaker c.finish-in-Some-ending.result _ _ (λ e h. stops-with c.args.galley.now _ (g.K.Sink.held c.send.new.out) c.send.new.kept.items c.send.new.progress c.turn.new.self c.in-Some-ending.ending closing _ (grown g w.In_ok-send) e h) c.finish-in-Some-ending.ensures.refused

pub firing-smaller : goal.firing-smaller
firing-smaller g c =
    let shows = turn g (goal.at.firing-smaller g c).In_ok-ending in
    let fewer = turn-fewer (state_of c.firing.routine) c.turn.new.self c.firing.invariant.going.page false c.turn.new.happened.items c.in_ok-ending.ending shows c.in_default-ending.is in
    subst (λ s. firings_left s < firings_left (state_of c.firing.routine)) (sym c.done_with.ensures.state) fewer

pub firing-preserved : goal.firing-preserved
firing-preserved g c =
    let w = goal.at.firing-preserved g c in
    let start = c.firing.invariant.later in
    let later = c.in_ok-send.ensures.later in
    record {
      ready = c.done_with.ensures.ready;
      in_file = c.in_ok-send.ensures.in_file;
      going = turn-going (state_of c.firing.routine) _ _ c.firing.progress (run_of c.args.galley.now) c.firing.invariant.going c.turn.new.self c.turn.new.happened.items c.in_ok-ending.ending false (turn g w.In_ok-ending) _ c.send.new.progress (holds g w.In_ok-send) (state_of c.done_with.new.self) c.done_with.ensures.state c.in_default-ending.is;
      grown = grown g w.In_ok-send;
      later = omega (arith, start, later);
    }
