use Rattle.std.proofs.Common.{◌∙◌, ap, sym, subst, ◌≡◌, ◌<◌, ◌^◌, ◌++◌, true, refl, Option, None, Some, arith}
use Rattle.std.proofs.lemmas.Result.{err_from_is_err_and, IfErr-weaker, IfOk-weaker, IfErr-at_err}
use Rattle.std.proofs.lemmas.Option.{MatchOption-at_none}
use Rattle.std.specs.Io.KnownBytes.{Appends, append_known}
use Rattle.tb_io.specs.Sink.{AppendsPrefix}
use Rattle.tb_output.specs.State.{State}
use Rattle.tb_report.specs.RunTotals.{AreCounts}
use Rattle.tb_items.specs.Happenings.{events_of, ArePages}
use Rattle.tb_run.specs.declared.routine.Routine.{Routine}
use Rattle.tb_run.specs.declared.routine.Ending.{Ending}
use Rattle.tb_run.specs.Routine.{state_of, over_limit, AreHappened}
use Rattle.tb_steps.specs.Run.{held_count, firings_left}
use Rattle.tb_steps.proofs.RunParams.{AreFewFirings, few-firings}
use Rattle.tb_why.specs.WhyRun.{step_shown}
use Rattle.tb_why.specs.ShownLines.{all_shown_lines}
use Rattle.tb_why.specs.ShownOf.{all_shown_of}
use Rattle.tb_why.specs.Summary.{summed}
use Rattle.tb_why.specs.SummaryLaws.{sheets_of}
use Rattle.tb_top.specs.declared.View.TheVariants as views
use Rattle.tb_top.specs.Kept.{Grows, Keeps}
use Rattle.tb_top.specs.PagesWritten.{run_on}
use Rattle.tb_top.specs.Views.{with_events}
use Rattle.tb_top.specs.WhyReport.{why_text}
use Rattle.tb_top.proofs.Written.KeptLemmas.{grows-nothing, grows-on, keeps-grows, keeps-appends, first-kept, front-written, none-written}
use Rattle.tb_top.proofs.Written.GoingLemmas.{header, more-shown, refuses-text, failed-at}
use Rattle.tb_top.proofs.Written.FinishLemmas.{ClosesAt, start-closing, start-going, start-tally, turn-closing, turn-going, turn-counts, turn-tally, limit-ready, few-wait, stops-cause}
use Rattle.tb_top.proofs.Written.FirstRuns.{none-yet}
use Rattle.tb_top.proofs.Written.TurnLemmas.{ShowsStep, shows-step, turn-fewer}
use Rattle.tb_top.proofs.Why.WhyGoing.{why-now}
use Rattle.tb_top.proofs.Why.WhyTurns.{WhyClosesAt, start-goes, start-closes, turn-cut, turn-goes, turn-closes, ends-why, stops-why, sheets-first, turn-sheets, sheets-next}
use Rattle.tb_top.proofs.told_pages.run_on.Given.{Over}
use Rattle.tb_top.proofs.told_pages.run_on.Goals.{In_ok-put, In-Some, In_ok-ending, In_ok-send}
use Rattle.tb_top.proofs.told_pages.run_on.Goals as goal

pub returns-in_err-put-clause-refused : goal.returns-in_err-put-clause-refused
returns-in_err-put-clause-refused g c =
    let p = err_from_is_err_and c.from_residual.result c.from_residual.ensures.1 in
    rw (p.1, p.2) (none-yet (g.K.Sink.held c.args.out.now) (why_text (state_of c.args.routine.now)))

-- the header is kept
begun : (g : Over) (c : In_ok-put g) → Appends (g.K.Sink.held c.args.out.now) (append_known (g.K.Sink.held c.args.out.now) c.put.new.out.items) header
begun g c =
    let held = g.K.Sink.held c.args.out.now in
    let is : c.put.new.out.items ≡ header = c.in_ok-put.ensures ∙ ap (λ t. t ++ header) c.new-kept.ensures.items in
    subst (λ ls. Appends held (append_known held ls) header) (sym is) (first-kept held header)

-- ---- more nodes wait at the start than may be

-- the limit is that of the routine whose nodes were counted
over : (r q : Routine) (o : Option Ending) → o ≡ over_limit r.machine.params (held_count (state_of r)) → q ≡ record r { most = q.most } → o ≡ over_limit (state_of q).params (held_count (state_of q))
over r q o limit same = limit ∙ ap (λ (s : State). over_limit s.params (held_count s)) (sym (ap state_of same))

-- nothing but the end of the run is left
module _ (g : Over) (c : In-Some g) where
  more : c.node_limit.result ≡ over_limit (state_of c.node_limit.new.self).params (held_count (state_of c.node_limit.new.self))
  more = over c.args.routine.now c.node_limit.new.self c.node_limit.result c.node_limit.ensures.limit c.node_limit.ensures.same

  ends-at-start : ClosesAt views.Trace c.node_limit.new.self c.in-Some.ending None None c.new-totals.result (run_on c.args.routine.now)
  ends-at-start = start-closing views.Trace (state_of c.args.routine.now) c.node_limit.new.self None None c.new-totals.result c.node_limit.result (ap state_of c.node_limit.ensures.same) c.requires.page tt c.new-totals.ensures more c.in-Some.ending c.in-Some.is

  told-at-start : Appends (g.K.Sink.held c.args.out.now) (append_known (g.K.Sink.held c.args.out.now) c.put.new.out.items) header
      → WhyClosesAt c.node_limit.new.self c.in-Some.ending (g.K.Sink.held c.args.out.now) (append_known (g.K.Sink.held c.args.out.now) c.put.new.out.items) c.new-summary.result (run_on c.args.routine.now).events (why_text (state_of c.args.routine.now))
  told-at-start first = start-closes (state_of c.args.routine.now) c.node_limit.new.self _ _ c.new-summary.result c.node_limit.result (ap state_of c.node_limit.ensures.same) first c.new-summary.ensures more c.in-Some.ending c.in-Some.is

pub returns-in-Some-clause-done : goal.returns-in-Some-clause-done
returns-in-Some-clause-done g c =
    let w = goal.at.returns-in-Some-clause-done g c in
    IfOk-weaker c.sum_up.result _ _ (λ u h. ends-why c.node_limit.new.self c.new-totals.result c.new-summary.result c.in-Some.ending _ _ _ c.put.new.out.items (run_on c.args.routine.now) (why_text (state_of c.args.routine.now)) (ends-at-start g w.In-Some) (told-at-start g w.In-Some (begun g w.In_ok-put)) u h) c.sum_up.ensures.done

pub returns-in-Some-clause-refused : goal.returns-in-Some-clause-refused
returns-in-Some-clause-refused g c =
    let w = goal.at.returns-in-Some-clause-refused g c in
    IfErr-weaker c.sum_up.result _ _ (λ f h. stops-why c.node_limit.new.self c.new-totals.result c.new-summary.result c.in-Some.ending _ _ _ c.put.new.out.items (run_on c.args.routine.now) (why_text (state_of c.args.routine.now)) (ends-at-start g w.In-Some) (told-at-start g w.In-Some (begun g w.In_ok-put)) _ _ f (grows-nothing (g.K.Sink.held c.args.out.now)) h) c.sum_up.ensures.refused

pub returns-in-Some-clause-cause : goal.returns-in-Some-clause-cause
returns-in-Some-clause-cause g c = λ is. stops-cause views.Trace c.node_limit.new.self c.new-totals.result c.in-Some.ending _ _ _ _ _ _ (omega arith) (IfErr-at_err _ is c.sum_up.ensures.refused)

pub firing-init : goal.firing-init
firing-init g c =
    let first = begun g (goal.at.firing-init g c).In_ok-put in
    let is = ap state_of c.node_limit.ensures.same in
    let p = c.args.routine.now.machine.params in
    let s = state_of c.args.routine.now in
    let more = over c.args.routine.now c.node_limit.new.self c.node_limit.result c.node_limit.ensures.limit c.node_limit.ensures.same in
    record {
      ready = limit-ready c.args.routine.now c.node_limit.new.self c.node_limit.result c.requires.ready c.node_limit.ensures.same c.node_limit.ensures.bounded c.node_limit.ensures.within c.in_default.is;
      going = start-going views.Trace s c.node_limit.new.self None None c.new-totals.result c.node_limit.result is c.requires.page tt c.new-totals.ensures more c.in_default.is;
      told = start-goes s c.node_limit.new.self _ _ c.new-summary.result c.node_limit.result is first c.new-summary.ensures more c.in_default.is;
      grown = grows-nothing (g.K.Sink.held c.args.out.now);
      tally = start-tally views.Trace s c.node_limit.new.self None None c.new-totals.result c.node_limit.result is c.requires.page tt c.new-totals.ensures more c.requires.cycles (subst (λ (t : State). AreFewFirings t.params) (sym is) (few-firings p c.requires.params));
      sheets = sheets-first s (state_of c.node_limit.new.self) c.new-summary.result (few-firings p c.requires.params) c.requires.page c.requires.cycles is c.new-summary.ensures;
      later = omega arith;
    }

pub returns-in_err-ending-clause-refused : goal.returns-in_err-ending-clause-refused
returns-in_err-ending-clause-refused g c =
    let p = err_from_is_err_and c.from_residual-in_err-ending.result c.from_residual-in_err-ending.ensures.1 in
    let front = why-now _ _ (g.K.Sink.held c.firing.out) _ _ _ (state_of c.firing.routine) c.firing.invariant.told in
    rw (p.1, p.2) (none-written _ _ c.firing.kept.items _ c.firing.invariant.grown front)

-- ---- a turn

-- it is the next step of the run
turn : (g : Over) (c : In_ok-ending g) → ShowsStep true (state_of c.firing.routine) c.told_turn.new.routine c.told_turn.new.happened.items c.in_ok-ending.ending
turn g c = shows-step true true c.firing.routine c.told_turn.new.routine c.told_turn.new.happened.items c.in_ok-ending.ending refl c.in_ok-ending.ensures.turned

-- what is shown is that of the step
told : (g : Over) (c : In_ok-ending g) → all_shown_of c.told_turn.new.routine.store c.told_turn.new.shown.items ≡ step_shown (state_of c.firing.routine)
told g c = c.in_ok-ending.ensures.shown

pub count_happened-requires-clause-pages : goal.count_happened-requires-clause-pages
count_happened-requires-clause-pages g c = subst (λ hs. ArePages c.told_turn.new.routine.store hs) (sym c.deref.ensures.value) c.in_ok-ending.ensures.pages

pub count_happened-requires-clause-room : goal.count_happened-requires-clause-room
count_happened-requires-clause-room g c =
    let shows = turn g (goal.at.count_happened-requires-clause-room g c).In_ok-ending in
    subst (λ hs. AreCounts (with_events (events_of c.told_turn.new.routine.store hs) c.firing.totals)) (sym c.deref.ensures.value)
    (turn-counts views.Trace (state_of c.firing.routine) None None c.firing.totals (run_on c.args.routine.now) c.firing.invariant.going c.told_turn.new.routine c.told_turn.new.happened.items c.in_ok-ending.ending shows c.firing.invariant.tally (few-wait c.firing.routine c.firing.invariant.ready) c.in_ok-ending.ensures.pages)

pub send-requires-clause-few : goal.send-requires-clause-few
send-requires-clause-few g c =
    let w = (goal.at.send-requires-clause-few g c).In_ok-ending in
    let few = turn-sheets (state_of c.firing.routine) c.firing.summary c.firing.invariant.tally.few c.firing.invariant.sheets _ (told g w) in
    subst (λ ys. sheets_of c.firing.summary.sheets (all_shown_of c.told_turn.new.routine.store ys) < 2 ^ 63) (sym c.deref-in-firing.ensures.value) few

pub returns-in_err-send-clause-refused : goal.returns-in_err-send-clause-refused
returns-in_err-send-clause-refused g c =
    let w = (goal.at.returns-in_err-send-clause-refused g c).In_ok-ending in
    let q = c.told_turn.new.routine in
    let failed = err_from_is_err_and c.from_residual-in_err-send.result c.from_residual-in_err-send.ensures.1 in
    let xs = all_shown_of q.store c.told_turn.new.shown.items in
    let kept = c.firing.kept.items in
    let part = subst (λ ys. AppendsPrefix (g.K.Sink.held c.firing.out) (g.K.Sink.held c.send.new.out) (kept ++ all_shown_lines (all_shown_of q.store ys))) c.deref-in-firing.ensures.value c.in_err-send.ensures.shown.part in
    let whole = turn-cut (state_of c.firing.routine) _ _ _ _ _ _ c.firing.invariant.told c.firing.invariant.going.page q c.told_turn.new.happened.items c.in_ok-ending.ending (turn g w) xs (told g w) (more-shown views.Trace (g.K.Sink.held c.firing.out) kept (all_shown_lines xs)) in
    rw (failed.1, failed.2) (refuses-text _ _ _ _ c.in_err-send.field-0.0 (front-written _ _ _ _ (why_text (state_of c.args.routine.now)) c.firing.invariant.grown part whole))

pub returns-in_err-send-clause-cause : goal.returns-in_err-send-clause-cause
returns-in_err-send-clause-cause g c = λ is.
    let failed = failed-at c.from_residual-in_err-send.result c.in_err-send.field-0.0 c.from_residual-in_err-send.ensures.1 is in
    let rose = (c.in_err-send.ensures.shown.cause failed).0 in
    let start = c.firing.invariant.later in
    omega (arith, start, rose)

-- what is shown is written or kept, counted and summed up
module _ (g : Over) (c : In_ok-send g) where
  written : Appends (append_known (g.K.Sink.held c.firing.out) c.firing.kept.items) (append_known (g.K.Sink.held c.send.new.out) c.send.new.kept.items) (all_shown_lines (all_shown_of c.told_turn.new.routine.store c.told_turn.new.shown.items))
  written =
      keeps-appends _ _ _ _ _
      (subst (λ ys. Keeps (g.K.Sink.held c.firing.out) (g.K.Sink.held c.send.new.out) c.firing.kept.items c.send.new.kept.items (all_shown_lines (all_shown_of c.told_turn.new.routine.store ys))) c.deref-in-firing.ensures.value c.in_ok-send.ensures.shown.whole)

  grown : Grows (g.K.Sink.held c.args.out.now) (g.K.Sink.held c.send.new.out)
  grown = grows-on _ _ _ c.firing.invariant.grown (keeps-grows _ _ _ _ _ c.in_ok-send.ensures.shown.whole)

  counted : c.count_happened.new.totals ≡ with_events (events_of c.told_turn.new.routine.store c.told_turn.new.happened.items) c.firing.totals
  counted = c.count_happened.ensures ∙ ap (λ hs. with_events (events_of c.told_turn.new.routine.store hs) c.firing.totals) c.deref.ensures.value

  sum : c.send.new.summary ≡ summed (all_shown_of c.told_turn.new.routine.store c.told_turn.new.shown.items) c.firing.summary
  sum = c.in_ok-send.ensures.summed ∙ ap (λ ys. summed (all_shown_of c.told_turn.new.routine.store ys) c.firing.summary) c.deref-in-firing.ensures.value

  -- ---- the turn was the last

  -- nothing but the end of the run is left
  module _ (ending : Ending) where
    abbrev step-is : Type 0
    step-is = ShowsStep true (state_of c.firing.routine) c.told_turn.new.routine c.told_turn.new.happened.items c.in_ok-ending.ending

    ends-here : step-is → c.in_ok-ending.ending ≡ Some ending → ClosesAt views.Trace c.told_turn.new.routine ending None None c.count_happened.new.totals (run_on c.args.routine.now)
    ends-here shows some = turn-closing views.Trace (state_of c.firing.routine) None None c.firing.totals (run_on c.args.routine.now) c.firing.invariant.going c.told_turn.new.routine c.told_turn.new.happened.items c.in_ok-ending.ending shows None c.count_happened.new.totals ending some tt counted

    told-here : step-is → all_shown_of c.told_turn.new.routine.store c.told_turn.new.shown.items ≡ step_shown (state_of c.firing.routine) → c.in_ok-ending.ending ≡ Some ending
        → WhyClosesAt c.told_turn.new.routine ending (g.K.Sink.held c.args.out.now) (append_known (g.K.Sink.held c.send.new.out) c.send.new.kept.items) c.send.new.summary (run_on c.args.routine.now).events (why_text (state_of c.args.routine.now))
    told-here shows is some = turn-closes (state_of c.firing.routine) _ _ _ _ _ _ c.firing.invariant.told c.firing.invariant.going.page c.told_turn.new.routine c.told_turn.new.happened.items c.in_ok-ending.ending shows _ is c.send.new.summary ending sum some written

pub returns-in-Some-ending-clause-done : goal.returns-in-Some-ending-clause-done
returns-in-Some-ending-clause-done g c =
    let w = goal.at.returns-in-Some-ending-clause-done g c in
    let shows = turn g w.In_ok-ending in
    let e = c.in-Some-ending.ending in
    IfOk-weaker c.sum_up-in-Some-ending.result _ _
    (λ u h. ends-why c.told_turn.new.routine c.count_happened.new.totals c.send.new.summary e _ _ _ c.send.new.kept.items (run_on c.args.routine.now) (why_text (state_of c.args.routine.now)) (ends-here g w.In_ok-send e shows c.in-Some-ending.is) (told-here g w.In_ok-send e shows (told g w.In_ok-ending) c.in-Some-ending.is) u h)
    c.sum_up-in-Some-ending.ensures.done

pub returns-in-Some-ending-clause-refused : goal.returns-in-Some-ending-clause-refused
returns-in-Some-ending-clause-refused g c =
    let w = goal.at.returns-in-Some-ending-clause-refused g c in
    let shows = turn g w.In_ok-ending in
    let e = c.in-Some-ending.ending in
    IfErr-weaker c.sum_up-in-Some-ending.result _ _
    (λ f h. stops-why c.told_turn.new.routine c.count_happened.new.totals c.send.new.summary e _ _ _ c.send.new.kept.items (run_on c.args.routine.now) (why_text (state_of c.args.routine.now)) (ends-here g w.In_ok-send e shows c.in-Some-ending.is) (told-here g w.In_ok-send e shows (told g w.In_ok-ending) c.in-Some-ending.is) _ _ f (grown g w.In_ok-send) h)
    c.sum_up-in-Some-ending.ensures.refused

pub returns-in-Some-ending-clause-cause : goal.returns-in-Some-ending-clause-cause
returns-in-Some-ending-clause-cause g c = λ is.
    let start = c.firing.invariant.later in
    let later = c.in_ok-send.ensures.shown.later in
    stops-cause views.Trace c.told_turn.new.routine c.count_happened.new.totals c.in-Some-ending.ending _ _ _ _ _ _ (omega (arith, start, later)) (IfErr-at_err _ is c.sum_up-in-Some-ending.ensures.refused)

-- ---- the turn was not the last

pub done_with-requires-clause-ready : goal.done_with-requires-clause-ready
done_with-requires-clause-ready g c = MatchOption-at_none _ _ c.in_default-ending.is c.in_ok-ending.ensures.ready

pub done_with-requires-clause-lists : goal.done_with-requires-clause-lists
done_with-requires-clause-lists g c = subst (AreHappened c.told_turn.new.routine) (sym c.deref-in-firing-2.ensures.value) (MatchOption-at_none _ _ c.in_default-ending.is c.in_ok-ending.ensures.lists)

pub firing-smaller : goal.firing-smaller
firing-smaller g c =
    let shows = turn g (goal.at.firing-smaller g c).In_ok-ending in
    let fewer = turn-fewer (state_of c.firing.routine) c.told_turn.new.routine c.firing.invariant.going.page true c.told_turn.new.happened.items c.in_ok-ending.ending shows c.in_default-ending.is in
    subst (λ s. firings_left s < firings_left (state_of c.firing.routine)) (sym c.done_with.ensures.state) fewer

pub firing-preserved : goal.firing-preserved
firing-preserved g c =
    let w = goal.at.firing-preserved g c in
    let s = state_of c.firing.routine in
    let q = c.told_turn.new.routine in
    let hs = c.told_turn.new.happened.items in
    let o = c.in_ok-ending.ending in
    let after = state_of c.done_with.new.self in
    let shows = turn g w.In_ok-ending in
    let fewer = subst (λ u. firings_left u < firings_left s) (sym c.done_with.ensures.state) (turn-fewer s q c.firing.invariant.going.page true hs o shows c.in_default-ending.is) in
    let start = c.firing.invariant.later in
    let later = c.in_ok-send.ensures.shown.later in
    record {
      ready = c.done_with.ensures.ready;
      going = turn-going views.Trace s None None c.firing.totals (run_on c.args.routine.now) c.firing.invariant.going q hs o shows None c.count_happened.new.totals after c.done_with.ensures.state c.in_default-ending.is tt (counted g w.In_ok-send);
      told = turn-goes s _ _ _ _ _ _ c.firing.invariant.told c.firing.invariant.going.page q hs o shows _ (told g w.In_ok-ending) c.send.new.summary after c.done_with.ensures.state (sum g w.In_ok-send) c.in_default-ending.is (written g w.In_ok-send);
      grown = grown g w.In_ok-send;
      tally = turn-tally views.Trace s None None c.firing.totals (run_on c.args.routine.now) c.firing.invariant.going q hs o shows c.firing.invariant.tally (few-wait c.firing.routine c.firing.invariant.ready) c.in_ok-ending.ensures.pages c.count_happened.new.totals after c.done_with.ensures.state c.in_default-ending.is (counted g w.In_ok-send);
      sheets = sheets-next s c.firing.summary c.firing.invariant.tally.few c.firing.invariant.sheets _ (told g w.In_ok-ending) c.send.new.summary after (sum g w.In_ok-send) fewer;
      later = omega (arith, start, later);
    }
