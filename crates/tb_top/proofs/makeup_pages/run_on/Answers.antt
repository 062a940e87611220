use Rattle.std.proofs.Common.{◌∙◌, refl, ap, sym, subst, ◌≡◌, ◌<◌, ◌++◌, Some, arith}
use Rattle.std.proofs.lemmas.Result.{err_from_is_err_and, IfErr-weaker, IfOk-weaker, IfErr-at_err}
use Rattle.std.proofs.lemmas.Option.{MatchOption-at_none}
use Rattle.std.specs.Io.KnownBytes.{Appends, append_known}
use Rattle.tb_io.specs.Sink.{AppendsPrefix}
use Rattle.tb_param.specs.declared.Params.{Params}
use Rattle.tb_report.specs.RunTotals.{AreCounts}
use Rattle.tb_builder.specs.Contents.{Contents, box_count}
use Rattle.tb_items.specs.Happenings.{events_of, noted, ArePages}
use Rattle.tb_plain.specs.declared.Plain.{Plain}
use Rattle.tb_makeup.specs.declared.makeup.MakeupEnding.{MakeupEnding}
use Rattle.tb_makeup.specs.Makeup.{state_of, end_of, turns_left, GoesTo, AreHappened, run_events}
use Rattle.tb_top.specs.Kept.{Grows, Keeps}
use Rattle.tb_top.specs.MakeupPages.{makeup_text}
use Rattle.tb_top.specs.MakeupWritten.{run_on}
use Rattle.tb_top.specs.Report.{all_lines, traced_lines}
use Rattle.tb_top.specs.Views.{is_traced, viewed, with_events}
use Rattle.tb_top.proofs.Written.KeptLemmas.{grows-nothing, grows-on, keeps-grows, keeps-appends, first-kept, front-written, none-written}
use Rattle.tb_top.proofs.Written.GoingLemmas.{header, more-shown}
use Rattle.tb_top.proofs.Written.FirstRuns.{none-yet}
use Rattle.tb_top.proofs.Plain.MakeupClosing.{refuses-cut, ends-well, stops-with, stops-cause, stops-shown}
use Rattle.tb_top.proofs.Plain.MakeupGoing.{Closing, prefix-now, start-closing, start-going, turn-cut, turn-closing, turn-fewer, turn-counts, turn-going}
use Rattle.tb_top.proofs.Plain.MakeupTotals.{makeup-few}
use Rattle.tb_steps.proofs.RunParams.{few-firings}
use Rattle.tb_top.proofs.makeup_pages.run_on.Goals.{In_ok-put, In-Some, In_ok-ending, In_ok-send}
use Rattle.tb_top.proofs.makeup_pages.run_on.Given.{Over}
use Rattle.tb_top.proofs.makeup_pages.run_on.Goals as goal

pub node_limit-requires-clause-sound : goal.node_limit-requires-clause-sound
node_limit-requires-clause-sound g c = c.requires.ready.sound

pub node_limit-requires-clause-few : goal.node_limit-requires-clause-few
node_limit-requires-clause-few g c = let few = c.requires.ready.nodes.few in omega (arith, few)

pub node_limit-requires-clause-void : goal.node_limit-requires-clause-void
node_limit-requires-clause-void g c = ap (λ (h : Contents). box_count h.boxes) c.requires.ready.holds

pub returns-in_err-put-clause-refused : goal.returns-in_err-put-clause-refused
returns-in_err-put-clause-refused g c =
    let p = err_from_is_err_and c.from_residual.result c.from_residual.ensures.1 in
    rw (p.1, p.2) (none-yet (g.K.Sink.held c.args.out.now) (makeup_text c.args.view (run_on c.args.makeup.now)))

-- the header is kept
begun : (g : Over) (c : In_ok-put g) → Appends (g.K.Sink.held c.args.out.now) (append_known (g.K.Sink.held c.args.out.now) (viewed c.args.view c.put.new.out.items)) (viewed c.args.view header)
begun g c =
    let held = g.K.Sink.held c.args.out.now in
    let is : c.put.new.out.items ≡ header = c.in_ok-put.ensures ∙ ap (λ t. t ++ header) c.new-kept.ensures.items in
    subst (λ ls. Appends held (append_known held (viewed c.args.view ls)) (viewed c.args.view header)) (sym is) (first-kept held (viewed c.args.view header))

-- ---- more nodes wait at the start than may be

-- nothing but the end of the run is left
ends-at-start : (g : Over) (c : In-Some g) → Appends (g.K.Sink.held c.args.out.now) (append_known (g.K.Sink.held c.args.out.now) (viewed c.args.view c.put.new.out.items)) (viewed c.args.view header)
    → Closing c.args.view (end_of c.in-Some.ending) (g.K.Sink.held c.args.out.now) (append_known (g.K.Sink.held c.args.out.now) (viewed c.args.view c.put.new.out.items)) c.new-totals.result (run_on c.args.makeup.now)
ends-at-start g c first = start-closing c.args.view c.args.makeup.now _ _ c.new-totals.result c.node_limit.result c.requires.ready.limit first c.new-totals.ensures c.node_limit.ensures c.in-Some.ending c.in-Some.is

pub returns-in-Some-clause-done : goal.returns-in-Some-clause-done
returns-in-Some-clause-done g c =
    let w = goal.at.returns-in-Some-clause-done g c in
    let closing = ends-at-start g w.In-Some (begun g w.In_ok-put) in
    IfOk-weaker c.finish.result _ _ (λ u h. ends-well c.args.view c.new-totals.result (run_on c.args.makeup.now) _ _ _ c.put.new.out.items c.in-Some.ending u closing h) c.finish.ensures.done

pub returns-in-Some-clause-refused : goal.returns-in-Some-clause-refused
returns-in-Some-clause-refused g c =
    let w = goal.at.returns-in-Some-clause-refused g c in
    let closing = ends-at-start g w.In-Some (begun g w.In_ok-put) in
    IfErr-weaker c.finish.result _ _ (λ f h. stops-with c.args.view c.new-totals.result (run_on c.args.makeup.now) _ _ _ c.put.new.out.items c.in-Some.ending _ _ f (grows-nothing (g.K.Sink.held c.args.out.now)) closing h) c.finish.ensures.refused

pub returns-in-Some-clause-cause : goal.returns-in-Some-clause-cause
returns-in-Some-clause-cause g c = λ is. stops-cause c.args.view c.new-totals.result c.in-Some.ending c.put.new.out.items _ _ _ _ _ (omega arith) (IfErr-at_err _ is c.finish.ensures.refused)

pub returns-in-Some-clause-silent : goal.returns-in-Some-clause-silent
returns-in-Some-clause-silent g c = λ silent is. stops-shown c.args.view c.new-totals.result c.in-Some.ending c.put.new.out.items _ _ _ _ silent (IfErr-at_err _ is c.finish.ensures.refused)

pub page-init : goal.page-init
page-init g c = record {
  ready = c.requires.ready;
  params = refl;
  going = start-going c.args.view c.args.makeup.now _ _ c.new-totals.result c.node_limit.result c.requires.ready.limit (begun g (goal.at.page-init g c).In_ok-put) c.new-totals.ensures c.node_limit.ensures c.in_default.is;
  grown = grows-nothing (g.K.Sink.held c.args.out.now);
  later = omega arith;
}

-- ---- a turn

pub returns-in_err-ending-clause-refused : goal.returns-in_err-ending-clause-refused
returns-in_err-ending-clause-refused g c =
    let p = err_from_is_err_and c.from_residual-in_err-ending.result c.from_residual-in_err-ending.ensures.1 in
    let front = prefix-now c.args.makeup.now.plain.params c.args.view (state_of c.page.makeup) _ _ c.page.totals (run_on c.args.makeup.now) c.page.invariant.going in
    rw (p.1, p.2) (none-written _ _ (viewed c.args.view c.page.kept.items) (makeup_text c.args.view (run_on c.args.makeup.now)) c.page.invariant.grown front)

pub send-requires-clause-pages : goal.send-requires-clause-pages
send-requires-clause-pages g c = subst (λ hs. ArePages c.turn.new.self.store hs) (sym c.deref.ensures.value) c.in_ok-ending.ensures.pages

-- what the makeup goes on to, by the galley's parameters
goes : (g : Over) (c : In_ok-ending g) → GoesTo c.turn.new.self c.in_ok-ending.ending c.args.makeup.now.plain.params c.in_ok-ending.ensures.turned.es (state_of c.page.makeup)
goes g c = subst (λ (p : Params). GoesTo c.turn.new.self c.in_ok-ending.ending p c.in_ok-ending.ensures.turned.es (state_of c.page.makeup)) c.page.invariant.params c.in_ok-ending.ensures.turned.goes

-- what happened is what the view shows of it
notes : (g : Over) (c : In_ok-ending g) → events_of c.turn.new.self.store c.turn.new.happened.items ≡ noted (is_traced c.args.view) (run_events c.in_ok-ending.ensures.turned.es)
notes g c = subst (λ b. events_of c.turn.new.self.store c.turn.new.happened.items ≡ noted b (run_events c.in_ok-ending.ensures.turned.es)) c.is_traced.ensures c.in_ok-ending.ensures.turned.events

pub send-requires-clause-room : goal.send-requires-clause-room
send-requires-clause-room g c =
    let turned = c.in_ok-ending.ensures.turned in
    let p = c.args.makeup.now.plain.params in
    subst (λ hs. AreCounts (with_events (events_of c.turn.new.self.store hs) c.page.totals)) (sym c.deref.ensures.value)
    (turn-counts p c.args.view (state_of c.page.makeup) _ _ c.page.totals (run_on c.args.makeup.now) c.page.invariant.going c.turn.new.self c.turn.new.happened.items c.in_ok-ending.ending turned.es (notes g (goal.at.send-requires-clause-room g c).In_ok-ending) (goes g (goal.at.send-requires-clause-room g c).In_ok-ending) c.in_ok-ending.ensures.pages
    (few-firings p c.requires.params).pages (makeup-few c.args.makeup.now.plain.params (state_of c.args.makeup.now) c.requires.page))

pub returns-in_err-send-clause-refused : goal.returns-in_err-send-clause-refused
returns-in_err-send-clause-refused g c =
    let turned = c.in_ok-ending.ensures.turned in
    let p = err_from_is_err_and c.from_residual-in_err-send.result c.from_residual-in_err-send.ensures.1 in
    let part = subst (λ hs. AppendsPrefix (g.K.Sink.held c.page.out) (g.K.Sink.held c.send.new.out) (viewed c.args.view (c.page.kept.items ++ all_lines traced_lines (events_of c.turn.new.self.store hs)))) c.deref.ensures.value c.in_err-send.ensures.shown.part in
    let lines = all_lines traced_lines (events_of c.turn.new.self.store c.turn.new.happened.items) in
    let whole = turn-cut c.args.makeup.now.plain.params c.args.view (state_of c.page.makeup) _ _ c.page.totals (run_on c.args.makeup.now) c.page.invariant.going c.turn.new.self c.turn.new.happened.items c.in_ok-ending.ending turned.es (notes g (goal.at.returns-in_err-send-clause-refused g c).In_ok-ending) (goes g (goal.at.returns-in_err-send-clause-refused g c).In_ok-ending) _ (more-shown c.args.view (g.K.Sink.held c.page.out) c.page.kept.items lines) in
    rw (p.1, p.2) (refuses-cut c.args.view (run_on c.args.makeup.now) _ _ c.in_err-send.field-0.0 (front-written _ _ _ _ (makeup_text c.args.view (run_on c.args.makeup.now)) c.page.invariant.grown part whole))

-- what a turn sent is shown or kept, and counted
shown : (g : Over) (c : In_ok-send g) → Appends (append_known (g.K.Sink.held c.page.out) (viewed c.args.view c.page.kept.items)) (append_known (g.K.Sink.held c.send.new.out) (viewed c.args.view c.send.new.kept.items)) (viewed c.args.view (all_lines traced_lines (events_of c.turn.new.self.store c.turn.new.happened.items)))
shown g c = keeps-appends _ _ _ _ _ (subst (λ hs. Keeps (g.K.Sink.held c.page.out) (g.K.Sink.held c.send.new.out) (viewed c.args.view c.page.kept.items) (viewed c.args.view c.send.new.kept.items) (viewed c.args.view (all_lines traced_lines (events_of c.turn.new.self.store hs)))) c.deref.ensures.value c.in_ok-send.ensures.shown.whole)

grown : (g : Over) (c : In_ok-send g) → Grows (g.K.Sink.held c.args.out.now) (g.K.Sink.held c.send.new.out)
grown g c = grows-on _ _ _ c.page.invariant.grown (keeps-grows _ _ _ _ _ c.in_ok-send.ensures.shown.whole)

counted : (g : Over) (c : In_ok-send g) → c.send.new.totals ≡ with_events (events_of c.turn.new.self.store c.turn.new.happened.items) c.page.totals
counted g c = c.in_ok-send.ensures.counted ∙ ap (λ hs. with_events (events_of c.turn.new.self.store hs) c.page.totals) c.deref.ensures.value

-- ---- the turn was the last

-- nothing but the end of the run is left
ends-here : (g : Over) (c : In_ok-send g) → GoesTo c.turn.new.self c.in_ok-ending.ending c.args.makeup.now.plain.params c.in_ok-ending.ensures.turned.es (state_of c.page.makeup) → events_of c.turn.new.self.store c.turn.new.happened.items ≡ noted (is_traced c.args.view) (run_events c.in_ok-ending.ensures.turned.es)
    → (e : MakeupEnding) → c.in_ok-ending.ending ≡ Some e
    → Closing c.args.view (end_of e) (g.K.Sink.held c.args.out.now) (append_known (g.K.Sink.held c.send.new.out) (viewed c.args.view c.send.new.kept.items)) c.send.new.totals (run_on c.args.makeup.now)
ends-here g c to seen e some =
    let turned = c.in_ok-ending.ensures.turned in
    turn-closing c.args.makeup.now.plain.params c.args.view (state_of c.page.makeup) _ _ c.page.totals (run_on c.args.makeup.now) c.page.invariant.going c.turn.new.self c.turn.new.happened.items c.in_ok-ending.ending turned.es seen to _ c.send.new.totals e some (shown g c) (counted g c)

pub returns-in-Some-ending-clause-done : goal.returns-in-Some-ending-clause-done
returns-in-Some-ending-clause-done g c =
    let w = goal.at.returns-in-Some-ending-clause-done g c in
    let closing = ends-here g w.In_ok-send (goes g w.In_ok-ending) (notes g w.In_ok-ending) c.in-Some-ending.ending c.in-Some-ending.is in
    IfOk-weaker c.finish-in-Some-ending.result _ _ (λ u h. ends-well c.args.view c.send.new.totals (run_on c.args.makeup.now) _ _ _ c.send.new.kept.items c.in-Some-ending.ending u closing h) c.finish-in-Some-ending.ensures.done

pub returns-in-Some-ending-clause-refused : goal.returns-in-Some-ending-clause-refused
returns-in-Some-ending-clause-refused g c =
    let w = goal.at.returns-in-Some-ending-clause-refused g c in
    let closing = ends-here g w.In_ok-send (goes g w.In_ok-ending) (notes g w.In_ok-ending) c.in-Some-ending.ending c.in-Some-ending.is in
    IfErr-weaker c.finish-in-Some-ending.result _ _ (λ f h. stops-with c.args.view c.send.new.totals (run_on c.args.makeup.now) _ _ _ c.send.new.kept.items c.in-Some-ending.ending _ _ f (grown g w.In_ok-send) closing h) c.finish-in-Some-ending.ensures.refused

pub returns-in-Some-ending-clause-cause : goal.returns-in-Some-ending-clause-cause
returns-in-Some-ending-clause-cause g c = λ is.
    let start = c.page.invariant.later in
    let later = c.in_ok-send.ensures.shown.later in
    stops-cause c.args.view c.send.new.totals c.in-Some-ending.ending c.send.new.kept.items _ _ _ _ _ (omega (arith, start, later)) (IfErr-at_err _ is c.finish-in-Some-ending.ensures.refused)

pub returns-in-Some-ending-clause-silent : goal.returns-in-Some-ending-clause-silent
returns-in-Some-ending-clause-silent g c = λ silent is. stops-shown c.args.view c.send.new.totals c.in-Some-ending.ending c.send.new.kept.items _ _ _ _ silent (IfErr-at_err _ is c.finish-in-Some-ending.ensures.refused)

pub done_with-requires-clause-ready : goal.done_with-requires-clause-ready
done_with-requires-clause-ready g c = MatchOption-at_none _ _ c.in_default-ending.is c.in_ok-ending.ensures.ready

pub done_with-requires-clause-lists : goal.done_with-requires-clause-lists
done_with-requires-clause-lists g c = subst (AreHappened c.turn.new.self) (sym c.deref-in-page.ensures.value) (MatchOption-at_none _ _ c.in_default-ending.is c.in_ok-ending.ensures.lists)

pub page-smaller : goal.page-smaller
page-smaller g c =
    let turned = c.in_ok-ending.ensures.turned in
    let fewer = turn-fewer c.args.makeup.now.plain.params c.args.view (state_of c.page.makeup) _ _ c.page.totals (run_on c.args.makeup.now) c.page.invariant.going c.turn.new.self c.turn.new.happened.items c.in_ok-ending.ending turned.es (notes g (goal.at.page-smaller g c).In_ok-ending) (goes g (goal.at.page-smaller g c).In_ok-ending) c.in_default-ending.is in
    subst (λ s. turns_left c.args.makeup.now.plain.params s < turns_left c.args.makeup.now.plain.params (state_of c.page.makeup)) (sym c.done_with.ensures.state) fewer

pub page-preserved : goal.page-preserved
page-preserved g c =
    let turned = c.in_ok-ending.ensures.turned in
    let w = goal.at.page-preserved g c in
    let start = c.page.invariant.later in
    let later = c.in_ok-send.ensures.shown.later in
    record {
      ready = c.done_with.ensures.ready;
      params = ap (λ (m : Plain). m.params) c.done_with.ensures.plain ∙ c.in_ok-ending.ensures.params ∙ c.page.invariant.params;
      going = turn-going c.args.makeup.now.plain.params c.args.view (state_of c.page.makeup) _ _ c.page.totals (run_on c.args.makeup.now) c.page.invariant.going c.turn.new.self c.turn.new.happened.items c.in_ok-ending.ending turned.es (notes g w.In_ok-ending) (goes g w.In_ok-ending) c.in_ok-ending.ensures.pages _ c.send.new.totals (state_of c.done_with.new.self) c.done_with.ensures.state c.in_default-ending.is (shown g w.In_ok-send) (counted g w.In_ok-send);
      grown = grown g w.In_ok-send;
      later = omega (arith, start, later);
    }
