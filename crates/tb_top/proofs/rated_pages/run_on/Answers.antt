use Rattle.std.proofs.Common.{◌∙◌, ◌++◌, ap, sym, subst, ◌≡◌, ◌<◌, ◌+◌, pos, true, refl, Option, FitsSigned, rules, None, arith}
use Rattle.std.proofs.lemmas.Result.{err_from_is_err_and, IfErr-weaker, IfOk-weaker, IfErr-at_err}
use Rattle.std.specs.Prelude.{IfSome}
use Rattle.std.specs.Int.{w128}
use Rattle.std.proofs.lemmas.Int.{to_z-of_z}
use Rattle.std.specs.Io.KnownBytes.{Appends}
use Rattle.tb_io.specs.Sink.{AppendsPrefix}
use Rattle.tb_output.specs.State.{State}
use Rattle.tb_report.specs.RunTotals.{AreCounts}
use Rattle.tb_items.specs.Happenings.{events_of, ArePages}
use Rattle.tb_run.specs.declared.routine.Routine.{Routine}
use Rattle.tb_run.specs.declared.routine.Ending.{Ending}
use Rattle.tb_run.specs.Routine.{state_of, over_limit}
use Rattle.tb_steps.specs.Run.{held_count, firings_left, run_of_state}
use Rattle.tb_rate.specs.Rating.{IsTried}
use Rattle.tb_rate.specs.RatedRun.{demerits_of_state}
use Rattle.tb_rate.specs.Tries.{last_champion}
use Rattle.tb_steps.proofs.RunParams.{AreFewFirings, few-firings}
use Rattle.tb_top.specs.declared.View.TheVariants as views
use Rattle.tb_top.specs.RatedReport.{rated_text}
use Rattle.tb_top.specs.Views.{with_events}
use Rattle.tb_top.proofs.Written.GoingLemmas.{refuses-text}
use Rattle.tb_top.proofs.Written.FinishLemmas.{ClosesAt, start-closing, start-going, start-tally, turn-closing, turn-going, turn-counts, turn-tally, limit-ready, few-wait}
use Rattle.tb_top.proofs.Written.TurnLemmas.{ShowsStep, shows-step, turn-fewer}
use Rattle.tb_top.proofs.Rated.RatedGoing.{turn_lines, RatedGoing, rated-first, rated-now}
use Rattle.tb_io.proofs.Appended.{prefix_whole}
use Rattle.tb_top.specs.RatedPages.{IsGreedy}
use Rattle.tb_top.specs.BestText.{shown_columns, turn_columns}
use Rattle.tb_top.proofs.Rated.RatedColumns.{columns-start, columns-limited, columns-go, columns-end}
use Rattle.tb_top.proofs.Rated.RatedTurns.{greedy-none, greedy-sum, IsSum, RatedClosesAt, start-goes, start-closes, rating_now, break-tried, sum-first, sum-next, sum-high, turn-cut, turn-goes, turn-closes, ends-rated, stops-rated, stops-cause}
use Rattle.tb_top.proofs.rated_pages.run_on.Given.{Over}
use Rattle.tb_top.proofs.rated_pages.run_on.Goals.{In-Some, In_ok-ending, In_ok-send}
use Rattle.tb_top.proofs.rated_pages.run_on.Goals as goal

pub returns-in_err-show-clause-refused : goal.returns-in_err-show-clause-refused
returns-in_err-show-clause-refused g c =
    let p = err_from_is_err_and c.from_residual.result c.from_residual.ensures.1 in
    rw (p.1, p.2) (refuses-text _ _ _ _ c.in_err-show.field-0.0 (rated-first c.args.places.now (state_of c.args.routine.now) _ _ c.in_err-show.ensures.part))

-- ---- more nodes wait at the start than may be

-- the limit is that of the routine whose nodes were counted
over : (r q : Routine) (o : Option Ending) → o ≡ over_limit r.machine.params (held_count (state_of r)) → q ≡ record r { most = q.most } → o ≡ over_limit (state_of q).params (held_count (state_of q))
over r q o limit same = limit ∙ ap (λ (s : State). over_limit s.params (held_count s)) (sym (ap state_of same))

-- the state is the first one still
module _ (g : Over) (c : In-Some g) where
  more : c.node_limit.result ≡ over_limit (state_of c.node_limit.new.self).params (held_count (state_of c.node_limit.new.self))
  more = over c.args.routine.now c.node_limit.new.self c.node_limit.result c.node_limit.ensures.limit c.node_limit.ensures.same

  -- nothing but the end of the run is left
  ends-at-start : ClosesAt views.Trace c.node_limit.new.self c.in-Some.ending None None c.new-totals.result (run_of_state (state_of c.args.routine.now))
  ends-at-start = start-closing views.Trace (state_of c.args.routine.now) c.node_limit.new.self None None c.new-totals.result c.node_limit.result (ap state_of c.node_limit.ensures.same) c.requires.page tt c.new-totals.ensures more c.in-Some.ending c.in-Some.is

  rated-at-start : RatedClosesAt c.args.places.now c.node_limit.new.self c.in-Some.ending (g.K.Sink.held c.args.out.now) (g.K.Sink.held c.show.new.out) (pos 0) (run_of_state (state_of c.args.routine.now)).events
      (demerits_of_state c.args.places.now (state_of c.args.routine.now)) (rated_text c.args.places.now (state_of c.args.routine.now))
  rated-at-start =
      start-closes c.args.places.now (state_of c.args.routine.now) c.node_limit.new.self _ _ c.node_limit.result (ap state_of c.node_limit.ensures.same) c.in_ok-show.ensures.whole more c.in-Some.ending c.in-Some.is

pub returns-in-Some-clause-done : goal.returns-in-Some-clause-done
returns-in-Some-clause-done g c =
    let w = (goal.at.returns-in-Some-clause-done g c).In-Some in
    IfOk-weaker c.finish.result _ _ (λ u h. ends-rated c.args.places.now c.node_limit.new.self c.new-totals.result (pos 0) c.in-Some.ending _ _ _ (run_of_state (state_of c.args.routine.now)) _ _ (ends-at-start g w) (rated-at-start g w) u h) c.finish.ensures.done

pub returns-in-Some-clause-refused : goal.returns-in-Some-clause-refused
returns-in-Some-clause-refused g c =
    let w = (goal.at.returns-in-Some-clause-refused g c).In-Some in
    IfErr-weaker c.finish.result _ _ (λ f h. stops-rated c.args.places.now c.node_limit.new.self c.new-totals.result (pos 0) c.in-Some.ending _ _ _ (run_of_state (state_of c.args.routine.now)) _ _ (ends-at-start g w) (rated-at-start g w) _ _ f h) c.finish.ensures.refused

pub returns-in-Some-clause-cause : goal.returns-in-Some-clause-cause
returns-in-Some-clause-cause g c = λ is. stops-cause c.node_limit.new.self c.new-totals.result (pos 0) c.in-Some.ending _ _ _ _ _ c.in_ok-show.ensures.later (IfErr-at_err _ is c.finish.ensures.refused)

pub returns-in-Some-clause-range : goal.returns-in-Some-clause-range
returns-in-Some-clause-range g c = IfOk-weaker c.finish.result _ _ (λ u h. subst IsGreedy (sym h.demerits) greedy-none) c.finish.ensures.done

pub returns-in-Some-clause-columns : goal.returns-in-Some-clause-columns
returns-in-Some-clause-columns g c =
    let w = (goal.at.returns-in-Some-clause-columns g c).In-Some in
    IfOk-weaker c.finish.result _ _
    (λ u h. sym (columns-limited c.args.places.now (state_of c.args.routine.now) c.node_limit.new.self (ap state_of c.node_limit.ensures.same) (shown_columns c.args.columns.now.items) c.node_limit.result (more g w) c.in-Some.ending c.in-Some.is))
    c.finish.ensures.done

pub firing-init : goal.firing-init
firing-init g c =
    let first = state_of c.args.routine.now in
    let is = ap state_of c.node_limit.ensures.same in
    let more = over c.args.routine.now c.node_limit.new.self c.node_limit.result c.node_limit.ensures.limit c.node_limit.ensures.same in
    let few = subst (λ (s : State). AreFewFirings s.params) (sym is) (few-firings c.args.routine.now.machine.params c.requires.ranges) in
    record {
      ready = limit-ready c.args.routine.now c.node_limit.new.self c.node_limit.result c.requires.ready c.node_limit.ensures.same c.node_limit.ensures.bounded c.node_limit.ensures.within c.in_default.is;
      going = start-going views.Trace first c.node_limit.new.self None None c.new-totals.result c.node_limit.result is c.requires.page tt c.new-totals.ensures more c.in_default.is;
      tally = start-tally views.Trace first c.node_limit.new.self None None c.new-totals.result c.node_limit.result is c.requires.page tt c.new-totals.ensures more c.requires.cycles few;
      rated = start-goes c.args.places.now first c.node_limit.new.self _ _ c.node_limit.result is c.in_ok-show.ensures.whole more c.in_default.is;
      columns = columns-start c.args.places.now first c.node_limit.new.self is (shown_columns c.args.columns.now.items) c.node_limit.result more c.in_default.is;
      sum = sum-first (state_of c.node_limit.new.self) few (ap (λ (s : State). s.page) is ∙ c.requires.page) (ap (λ (s : State). s.dead_cycles) is ∙ c.requires.cycles);
      later = c.in_ok-show.ensures.later;
    }

pub returns-in_err-ending-clause-refused : goal.returns-in_err-ending-clause-refused
returns-in_err-ending-clause-refused g c =
    let p = err_from_is_err_and c.from_residual-in_err-ending.result c.from_residual-in_err-ending.ensures.1 in
    rw (p.1, p.2) (rated-now c.args.places.now _ _ (g.K.Sink.held c.firing.out) _ _ _ _ (state_of c.firing.routine) c.firing.invariant.rated)

-- ---- a turn

pub send-requires-clause-pages : goal.send-requires-clause-pages
send-requires-clause-pages g c = subst (λ hs. ArePages c.turn.new.self.store hs) (sym c.deref-in-firing.ensures.value) c.in_ok-ending.ensures.pages

-- it is the next step of the run
turn : (g : Over) (c : In_ok-ending g) → ShowsStep true (state_of c.firing.routine) c.turn.new.self c.turn.new.happened.items c.in_ok-ending.ending
turn g c = shows-step true true c.firing.routine c.turn.new.self c.turn.new.happened.items c.in_ok-ending.ending refl c.in_ok-ending.ensures.turned

pub rating_of-rating-requires-clause-tried : goal.rating_of-rating-requires-clause-tried
rating_of-rating-requires-clause-tried g c =
    let shows = turn g (goal.at.rating_of-rating-requires-clause-tried g c).In_ok-ending in
    subst (λ hs. IfSome (last_champion (events_of c.turn.new.self.store hs)) IsTried) (sym c.deref.ensures.value)
    (break-tried c.args.places.now (state_of c.firing.routine) c.turn.new.self c.turn.new.happened.items c.in_ok-ending.ending shows)

pub send-requires-clause-room : goal.send-requires-clause-room
send-requires-clause-room g c =
    let shows = turn g (goal.at.send-requires-clause-room g c).In_ok-ending in
    subst (λ hs. AreCounts (with_events (events_of c.turn.new.self.store hs) c.firing.totals)) (sym c.deref-in-firing.ensures.value)
    (turn-counts views.Trace (state_of c.firing.routine) None None c.firing.totals (run_of_state (state_of c.args.routine.now)) c.firing.invariant.going c.turn.new.self c.turn.new.happened.items c.in_ok-ending.ending shows c.firing.invariant.tally (few-wait c.firing.routine c.firing.invariant.ready) c.in_ok-ending.ensures.pages)

pub returns-in_err-send-clause-refused : goal.returns-in_err-send-clause-refused
returns-in_err-send-clause-refused g c =
    let s = state_of c.firing.routine in
    let q = c.turn.new.self in
    let shows = turn g (goal.at.returns-in_err-send-clause-refused g c).In_ok-ending in
    let failed = err_from_is_err_and c.from_residual-in_err-send.result c.from_residual-in_err-send.ensures.1 in
    let value = c.rating_of-rating.ensures.value ∙ ap (λ hs. rating_now c.args.places.now s q c.in_ok-ending.ending (events_of q.store hs)) c.deref.ensures.value in
    let part = subst (λ hs. AppendsPrefix (g.K.Sink.held c.firing.out) (g.K.Sink.held c.send.new.out) (turn_lines (events_of q.store hs) c.rating_of-rating.result)) c.deref-in-firing.ensures.value c.in_err-send.ensures.shown.part in
    rw (failed.1, failed.2)
    (refuses-text _ _ _ _ c.in_err-send.field-0.0
    (turn-cut c.args.places.now s _ _ _ _ _ _ _ c.firing.invariant.rated c.firing.invariant.going.page q c.turn.new.happened.items c.in_ok-ending.ending shows c.rating_of-rating.result value part))

-- ---- the turn was the last

pub returns-in-Some-ending-clause-done : goal.returns-in-Some-ending-clause-done
returns-in-Some-ending-clause-done g c =
    let s = state_of c.firing.routine in
    let q = c.turn.new.self in
    let run = run_of_state (state_of c.args.routine.now) in
    let shows = turn g (goal.at.returns-in-Some-ending-clause-done g c).In_ok-ending in
    let value = c.rating_of-rating.ensures.value ∙ ap (λ hs. rating_now c.args.places.now s q c.in_ok-ending.ending (events_of q.store hs)) c.deref.ensures.value in
    let shown = subst (λ hs. Appends (g.K.Sink.held c.firing.out) (g.K.Sink.held c.send.new.out) (turn_lines (events_of q.store hs) c.rating_of-rating.result)) c.deref-in-firing.ensures.value c.in_ok-send.ensures.shown.whole in
    let counted = c.in_ok-send.ensures.counted ∙ ap (λ hs. with_events (events_of q.store hs) c.firing.totals) c.deref-in-firing.ensures.value in
    let closing = turn-closing views.Trace s None None c.firing.totals run c.firing.invariant.going q c.turn.new.happened.items c.in_ok-ending.ending shows None c.send.new.totals c.in-Some-ending.ending c.in-Some-ending.is tt counted in
    let rated = turn-closes c.args.places.now s _ _ _ _ _ _ _ c.firing.invariant.rated c.firing.invariant.going.page q c.turn.new.happened.items c.in_ok-ending.ending shows c.rating_of-rating.result value c.in-Some-ending.ending c.in-Some-ending.is shown in
    IfOk-weaker c.finish-in-Some-ending.result _ _ (λ u h. ends-rated c.args.places.now q c.send.new.totals _ c.in-Some-ending.ending _ _ _ run _ _ closing rated u h) c.finish-in-Some-ending.ensures.done

pub returns-in-Some-ending-clause-refused : goal.returns-in-Some-ending-clause-refused
returns-in-Some-ending-clause-refused g c =
    let s = state_of c.firing.routine in
    let q = c.turn.new.self in
    let run = run_of_state (state_of c.args.routine.now) in
    let shows = turn g (goal.at.returns-in-Some-ending-clause-refused g c).In_ok-ending in
    let value = c.rating_of-rating.ensures.value ∙ ap (λ hs. rating_now c.args.places.now s q c.in_ok-ending.ending (events_of q.store hs)) c.deref.ensures.value in
    let shown = subst (λ hs. Appends (g.K.Sink.held c.firing.out) (g.K.Sink.held c.send.new.out) (turn_lines (events_of q.store hs) c.rating_of-rating.result)) c.deref-in-firing.ensures.value c.in_ok-send.ensures.shown.whole in
    let counted = c.in_ok-send.ensures.counted ∙ ap (λ hs. with_events (events_of q.store hs) c.firing.totals) c.deref-in-firing.ensures.value in
    let closing = turn-closing views.Trace s None None c.firing.totals run c.firing.invariant.going q c.turn.new.happened.items c.in_ok-ending.ending shows None c.send.new.totals c.in-Some-ending.ending c.in-Some-ending.is tt counted in
    let rated = turn-closes c.args.places.now s _ _ _ _ _ _ _ c.firing.invariant.rated c.firing.invariant.going.page q c.turn.new.happened.items c.in_ok-ending.ending shows c.rating_of-rating.result value c.in-Some-ending.ending c.in-Some-ending.is shown in
    IfErr-weaker c.finish-in-Some-ending.result _ _ (λ f h. stops-rated c.args.places.now q c.send.new.totals _ c.in-Some-ending.ending _ _ _ run _ _ closing rated _ _ f h) c.finish-in-Some-ending.ensures.refused

pub returns-in-Some-ending-clause-range : goal.returns-in-Some-ending-clause-range
returns-in-Some-ending-clause-range g c =
    IfOk-weaker c.finish-in-Some-ending.result _ _ (λ u h. subst IsGreedy (sym h.demerits) (greedy-sum _ (state_of c.firing.routine) c.firing.invariant.sum)) c.finish-in-Some-ending.ensures.done

pub returns-in-Some-ending-clause-columns : goal.returns-in-Some-ending-clause-columns
returns-in-Some-ending-clause-columns g c =
    let shows = turn g (goal.at.returns-in-Some-ending-clause-columns g c).In_ok-ending in
    IfOk-weaker c.finish-in-Some-ending.result _ _
    (λ u h. sym (columns-end c.args.places.now (state_of c.firing.routine) c.turn.new.self c.turn.new.happened.items c.in_ok-ending.ending shows _ _ c.firing.invariant.columns c.in-Some-ending.ending c.in-Some-ending.is))
    c.finish-in-Some-ending.ensures.done

-- ---- the turn was not the last

pub returns-in_err-note_column-clause-refused : goal.returns-in_err-note_column-clause-refused
returns-in_err-note_column-clause-refused g c =
    let s = state_of c.firing.routine in
    let q = c.turn.new.self in
    let shows = turn g (goal.at.returns-in_err-note_column-clause-refused g c).In_ok-ending in
    let failed = err_from_is_err_and c.from_residual-in_err-note_column.result c.from_residual-in_err-note_column.ensures.1 in
    let value = c.rating_of-rating.ensures.value ∙ ap (λ hs. rating_now c.args.places.now s q c.in_ok-ending.ending (events_of q.store hs)) c.deref.ensures.value in
    let shown = subst (λ hs. Appends (g.K.Sink.held c.firing.out) (g.K.Sink.held c.send.new.out) (turn_lines (events_of q.store hs) c.rating_of-rating.result)) c.deref-in-firing.ensures.value c.in_ok-send.ensures.shown.whole in
    rw (failed.1, failed.2)
    (turn-cut c.args.places.now s _ _ _ _ _ _ _ c.firing.invariant.rated c.firing.invariant.going.page q c.turn.new.happened.items c.in_ok-ending.ending shows c.rating_of-rating.result value
    (prefix_whole (g.K.Sink.held c.firing.out) (g.K.Sink.held c.send.new.out) _ shown))

pub demerits_with-demerits-requires-clause-high : goal.demerits_with-demerits-requires-clause-high
demerits_with-demerits-requires-clause-high g c = sum-high _ (state_of c.firing.routine) c.firing.invariant.sum

pub firing-smaller : goal.firing-smaller
firing-smaller g c =
    let shows = turn g (goal.at.firing-smaller g c).In_ok-ending in
    let fewer = turn-fewer (state_of c.firing.routine) c.turn.new.self c.firing.invariant.going.page true c.turn.new.happened.items c.in_ok-ending.ending shows c.in_default-ending.is in
    subst (λ s. firings_left s < firings_left (state_of c.firing.routine)) (sym c.done_with.ensures.state) fewer

pub firing-preserved : goal.firing-preserved
firing-preserved g c =
    let s = state_of c.firing.routine in
    let q = c.turn.new.self in
    let hs = c.turn.new.happened.items in
    let o = c.in_ok-ending.ending in
    let after = state_of c.done_with.new.self in
    let run = run_of_state (state_of c.args.routine.now) in
    let shows = turn g (goal.at.firing-preserved g c).In_ok-ending in
    let value = c.rating_of-rating.ensures.value ∙ ap (λ hs. rating_now c.args.places.now s q c.in_ok-ending.ending (events_of q.store hs)) c.deref.ensures.value in
    let shown = subst (λ hs. Appends (g.K.Sink.held c.firing.out) (g.K.Sink.held c.send.new.out) (turn_lines (events_of q.store hs) c.rating_of-rating.result)) c.deref-in-firing.ensures.value c.in_ok-send.ensures.shown.whole in
    let counted = c.in_ok-send.ensures.counted ∙ ap (λ hs. with_events (events_of q.store hs) c.firing.totals) c.deref-in-firing.ensures.value in
    let fewer = subst (λ x. firings_left x < firings_left s) (sym c.done_with.ensures.state) (turn-fewer s q c.firing.invariant.going.page true hs o shows c.in_default-ending.is) in
    let start = c.firing.invariant.later in
    let later = c.in_ok-send.ensures.shown.later in
    let fits : FitsSigned w128 c.demerits_with-demerits.result = search rules in
    let same = c.demerits_with-demerits.ensures in
    simp to_z-of_z (record {
      ready = c.done_with.ensures.ready;
      going = turn-going views.Trace s None None c.firing.totals run c.firing.invariant.going q hs o shows None c.send.new.totals after c.done_with.ensures.state c.in_default-ending.is tt counted;
      tally = turn-tally views.Trace s None None c.firing.totals run c.firing.invariant.going q hs o shows c.firing.invariant.tally (few-wait c.firing.routine c.firing.invariant.ready) c.in_ok-ending.ensures.pages c.send.new.totals after c.done_with.ensures.state c.in_default-ending.is counted;
      rated = subst (λ d. RatedGoing c.args.places.now after (g.K.Sink.held c.args.out.now) (g.K.Sink.held c.send.new.out) d run.events (demerits_of_state c.args.places.now (state_of c.args.routine.now)) (rated_text c.args.places.now (state_of c.args.routine.now))) (sym same)
          (turn-goes c.args.places.now s _ _ _ _ _ _ _ c.firing.invariant.rated c.firing.invariant.going.page q hs o shows c.rating_of-rating.result value after c.done_with.ensures.state c.in_default-ending.is shown);
      columns = columns-go c.args.places.now s q hs o shows _ _ c.firing.invariant.columns c.rating_of-rating.result value after c.done_with.ensures.state c.in_default-ending.is (shown_columns c.note_column.new.columns.items) c.firing.invariant.going.page
          (c.in_ok-note_column.ensures q.store ∙ ap (λ hs. shown_columns c.firing.columns.items ++ turn_columns (events_of q.store hs) c.rating_of-rating.result) c.deref-in-firing-2.ensures.value);
      sum = subst (λ d. IsSum d after) (sym same) (sum-next _ s after c.firing.invariant.sum fewer c.rating_of-rating.result c.rating_of-rating.ensures.range);
      later = omega (arith, start, later);
    })
