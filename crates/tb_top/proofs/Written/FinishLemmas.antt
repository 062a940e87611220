-- The end of a run of the routine, and the parameters that it asks for.
use Rattle.std.proofs.Common.{◌≡◌, refl, sym, subst, ◌∙◌, ap, ℕ, ◌<◌, ◌≤◌, inl, inr, pos, ◌≤ℤ◌, Bool, true, false, List, [], ◌++◌, length, Option, None, Some, arith}
use Rattle.tb_io.specs.Faults.{Rose}
use Rattle.std.specs.Prelude.{int_lt, if◌then◌else◌, IfNone}
use Rattle.std.specs.Io.KnownBytes.{Appends, append_known}
use Rattle.tb_io.specs.Sink.{AppendsPrefix}
use Rattle.std.proofs.lemmas.Option.{MatchOption-at_none}
use Rattle.tb_builder.proofs.Ranges.PageableLemmas.{length_counted}
use Rattle.tb_param.specs.declared.Params.{Params}
use Rattle.tb_report.specs.RunTotals.{no_totals, AreCounts}
use Rattle.tb_report.specs.declared.Totals.{Totals}
use Rattle.tb_output.specs.declared.RunFault.{RunFault}
use Rattle.tb_output.specs.declared.RunFault.TheVariants as refused
use Rattle.tb_node.specs.PlainNodes.{PlainNode}
use Rattle.tb_output.specs.State.{State}
use Rattle.tb_items.specs.declared.happenings.Happening.{Happening}
use Rattle.tb_run.specs.declared.routine.Routine.{Routine}
use Rattle.tb_run.specs.declared.routine.Ending.{Ending}
use Rattle.tb_run.specs.declared.routine.Ending.TheVariants as endings
use Rattle.tb_steps.specs.Run.{Run, End, done, pool_full, dead_cycles, page_limit, node_limit, held_count, Step, ends, goes_on, step, run_of_state, firings_left, step_events}
use Rattle.tb_items.specs.Happenings.{events_of, ArePages}
use Rattle.tb_run.specs.Routine.{held_in, state_of, IsFaultEnd, IsEnd, EndsAs, over_limit, IsReady, IsBounded}
use Rattle.tb_run.proofs.Turns.TurnLemmas.{within-limit}
use Rattle.tb_top.specs.declared.View.{View}
use Rattle.tb_top.specs.declared.View.TheVariants as views
use Rattle.tb_top.specs.declared.PageFault.{PageFault}
use Rattle.tb_top.specs.declared.PageFault.TheVariants as faults
use Rattle.tb_top.specs.Report.{all_lines, traced_lines, closing_lines}
use Rattle.tb_top.specs.Pages.{view_text, end_fault, Paginates, EndsWith, Refuses}
use Rattle.tb_top.specs.PagesWritten.{write_fault, last_lines, IsFaultRefusal, IsRefusalOf, EndsWell, StopsWith}
use Rattle.tb_top.specs.Kept.{Grows}
use Rattle.tb_top.specs.Views.{viewed, is_traced, with_events, IsShown, FailsToShow}
use Rattle.tb_laws.specs.DviPages.{sent_among}
use Rattle.tb_top.proofs.Written.EventCounts.{SendsBy, step-sends}
use Rattle.tb_top.proofs.Written.TallyLemmas.{IsTally, AreFewNodes, tally-first, tally-counts, tally-next, step-few}
use Rattle.tb_steps.proofs.RunParams.{AreFewFirings}
use Rattle.tb_top.proofs.Written.TurnLemmas.{ShowsStep, turn-fewer}
use Rattle.tb_top.proofs.Written.GoingLemmas.{Going, Closing, header, turn_lines, noted-lines, noted-events, begins, begins-over, goes, closes, cut-short, done-well, done-cut, closing-front, refused-end, refuses-cut, failed-write, silent-shown, viewed-append, more-shown}
use Rattle.tb_top.proofs.Written.KeptLemmas.{more-written, all-written, front-written}

-- ---- the end

module _ (v : View) (r : Routine) (t : Totals) (whole : Run) (old mid new : Option (List ℕ)) where
  refused-at : (e d : End) (f g : PageFault) → e ≡ d → f ≡ g → end_fault d ≡ Some g → closing_lines d whole.events ≡ [] → new ≡ mid → Closing v e old mid t whole → EndsWith v whole old new g
  refused-at e d f g is same fault none kept c = refused-end v old mid new t whole d g (subst (λ x. Closing v x old mid t whole) is c) fault none kept

  by-fault : (x : RunFault) (e : End) (f : PageFault) → IsFaultEnd x e → IsFaultRefusal x f → new ≡ mid → Closing v e old mid t whole → Refuses v whole old new f
  by-fault (refused.DeadCycles n) e f is h kept c = rw h (refused-at e (dead_cycles n) f (faults.DeadCycles n) is h refl refl kept c)
  by-fault (refused.PageLimit n) e f is h kept c = rw h (refused-at e (page_limit n) f (faults.PageLimit n) is h refl refl kept c)
  by-fault refused.Memory e f is h kept c = absurd is

  by-ending : (ending : Ending) (e : End) (f : PageFault) → IsEnd r ending e → IsRefusalOf ending f → new ≡ mid → Closing v e old mid t whole → Refuses v whole old new f
  by-ending endings.Done e f is h kept c = absurd h
  by-ending (endings.PoolFull line live) e f is h kept c = rw h (refused-at e (pool_full line live) f (faults.PoolFull line live) is h refl refl kept c)
  by-ending (endings.Fault x) e f is h kept c = by-fault x e f is h kept c
  by-ending (endings.NodeLimit n) e f is h kept c = rw h (refused-at e (node_limit n) f (faults.NodeLimit n) is h refl refl kept c)

-- a text is kept, and out would hold full if it were written
module _ (v : View) (r : Routine) (t : Totals) (whole : Run) (old held new : Option (List ℕ)) (kept : List ℕ) where
  abbrev full : Option (List ℕ)
  full = append_known held (viewed v kept)

  at-done : (e : End) (left : List PlainNode) → e ≡ done left → Closing v e old full t whole → Closing v (done left) old full t whole
  at-done e left is c = subst (λ x. Closing v x old full t whole) is c

  closing-written : (e : End) → Appends held new (viewed v kept) → Closing v e old full t whole → Closing v e old new t whole
  closing-written e a c = record { written = c.written; appended = all-written old held new (viewed v kept) (viewed v c.written) c.appended a; text = c.text; end = c.end; totals = c.totals }

  pub ends-well : (ending : Ending) (e : End) (u : Totals) → IsEnd r ending e → Closing v e old (append_known held (viewed v kept)) t whole → EndsWell v r t ending kept held new u → Paginates v whole old new u
  ends-well ending e u is c h =
      let left : e ≡ done (held_in r).page = subst (λ x. IsEnd r x e) h.ending is in
      done-well v old full new t whole (held_in r).page u (at-done e (held_in r).page left c) h.totals
      (more-written held new (viewed v kept) (viewed v (last_lines r t)) (subst (Appends held new) (viewed-append v kept (last_lines r t)) h.written))

  pub stops-with : (ending : Ending) (e : End) (before now : ℕ) (f : PageFault) → IsEnd r ending e → Grows old held → Closing v e old (append_known held (viewed v kept)) t whole → StopsWith v r t ending kept held new before now f → Refuses v whole old new f
  stops-with ending e before now f is grown c (inl h) =
      rw h.is (refuses-cut v whole old new h.fault (front-written old held new (viewed v kept) (view_text v whole) grown h.part (closing-front v old full new t whole e c)))
  stops-with ending e before now f is grown c (inr (inl h)) = by-ending v r t whole old new new ending e f is h.0 refl (closing-written e h.1 c)
  stops-with ending e before now f is grown c (inr (inr h)) =
      let left : e ≡ done (held_in r).page = subst (λ x. IsEnd r x e) h.0 is in
      let all = viewed v (kept ++ last_lines r t) in
      let cut = done-cut v old full (append_known held all) t whole (held_in r).page (at-done e (held_in r).page left c) (more-shown v held kept (last_lines r t)) in
      rw h.1.is (refuses-cut v whole old new h.1.fault (front-written old held new all (view_text v whole) grown h.1.part cut))

-- ---- a refusal for a failed write

no-write : (e : Ending) → IsRefusalOf e faults.WriteFault → ⊥
no-write endings.Done h = h
no-write (endings.Fault (refused.DeadCycles n)) h = cc
no-write e h = cc

-- what failed is the sink, at a view that shows something
fails-so : (v : View) (old new : Option (List ℕ)) (before now : ℕ) (text : List ℕ) → FailsToShow write_fault v old new before now text faults.WriteFault → Rose before now × IsShown v
fails-so v old new before now text h = h.cause (failed-write h.fault h.is)

module _ (v : View) (r : Routine) (t : Totals) (e : Ending) (kept : List ℕ) (old new : Option (List ℕ)) (before now : ℕ) where
  stops-so : StopsWith v r t e kept old new before now faults.WriteFault → Rose before now × IsShown v
  stops-so (inl h) = fails-so v old new before now kept h
  stops-so (inr (inl h)) = absurd (no-write e h.0)
  stops-so (inr (inr h)) = fails-so v old new before now (kept ++ last_lines r t) h.1

  -- it comes only if the sink's faults rose
  pub stops-cause : (start : ℕ) → start ≤ before → StopsWith v r t e kept old new before now faults.WriteFault → Rose start now
  stops-cause start le h = let rose = (stops-so h).0 in omega (arith, rose)

  -- and never at a silent view
  pub stops-shown : v ≡ views.Silent → StopsWith v r t e kept old new before now faults.WriteFault → ⊥
  stops-shown silent h = silent-shown v silent (stops-so h).1

-- the run ends as this ending says, and its last lines are left
pub record ClosesAt (v : View) (r : Routine) (ending : Ending) (old now : Option (List ℕ)) (t : Totals) (whole : Run) : Type 0 where
  pub end : End
  pub is : IsEnd r ending end
  pub closing : Closing v end old now t whole

-- ---- the first state

pub over-some : (p : Params) (n : ℕ) (e : Ending) (t : Bool) → int_lt p.maxnodes (pos n) ≡ t → (if t then Some (endings.NodeLimit n) else None) ≡ Some e → (int_lt p.maxnodes (pos n) ≡ true) × (e ≡ endings.NodeLimit n)
over-some p n e true h k = (h, cc)
over-some p n e false h k = cc

pub over-none : (p : Params) (n : ℕ) (t : Bool) → int_lt p.maxnodes (pos n) ≡ t → (if t then Some (endings.NodeLimit n) else None) ≡ None → int_lt p.maxnodes (pos n) ≡ false
over-none p n true h k = cc
over-none p n false h k = h

-- a run from its first state, which the routine shows
module _ (v : View) (first : State) (r : Routine) (old now : Option (List ℕ)) (t : Totals) (o : Option Ending) (is : state_of r ≡ first) (page : first.page ≡ 1) (a : Appends old now (viewed v header)) (nothing : t ≡ no_totals) (over : o ≡ over_limit (state_of r).params (held_count (state_of r))) where
  abbrev p : Params
  p = (state_of r).params

  pub start-closing : (ending : Ending) → o ≡ Some ending → ClosesAt v r ending old now t (run_of_state first)
  start-closing ending some =
      let k = over-some p (held_count (state_of r)) ending (int_lt p.maxnodes (pos (held_count (state_of r)))) refl (sym over ∙ some) in
      record {
        end = node_limit (held_count (state_of r));
        is = rw (k.1) refl;
        closing = subst (λ x. Closing v (node_limit (held_count (state_of r))) old now x (run_of_state first)) (sym nothing) (begins-over v first (state_of r) old now is page a (k.0));
      }

  pub start-going : o ≡ None → Going v (state_of r) old now t (run_of_state first)
  start-going none = subst (λ x. Going v (state_of r) old now x (run_of_state first)) (sym nothing) (begins v first (state_of r) old now is page a (over-none p (held_count (state_of r)) (int_lt p.maxnodes (pos (held_count (state_of r)))) refl (sym over ∙ none)))

  pub start-tally : first.dead_cycles ≡ 0 → AreFewFirings (state_of r).params → IsTally t (state_of r)
  start-tally cycles few = subst (λ x. IsTally x (state_of r)) (sym nothing) (tally-first (state_of r) few (ap (λ (s : State). s.page) is ∙ page) (ap (λ (s : State). s.dead_cycles) is ∙ cycles))

-- ---- a turn

-- a step with what shows it: the routine after it, what happened, and how the run ended
module _ (v : View) (s : State) (old now : Option (List ℕ)) (t : Totals) (whole : Run) (going : Going v s old now t whole) (q : Routine) (hs : List Happening) (o : Option Ending) (shows : ShowsStep (is_traced v) s q hs o) where
  lines-are : all_lines traced_lines (events_of q.store hs) ≡ turn_lines v (step_events (step s))
  lines-are = ap (all_lines traced_lines) shows.events ∙ noted-lines v (step_events (step s))

  totals-are : with_events (events_of q.store hs) t ≡ with_events (step_events (step s)) t
  totals-are = ap (λ es. with_events es t) shows.events ∙ noted-events (is_traced v) (step_events (step s)) t

  -- writing what happened was cut short
  pub turn-cut : (mid : Option (List ℕ)) → AppendsPrefix now mid (viewed v (all_lines traced_lines (events_of q.store hs))) → AppendsPrefix old mid (view_text v whole)
  turn-cut mid b = cut-short v old now mid t whole s (step s) going refl (subst (λ ls. AppendsPrefix now mid (viewed v ls)) lines-are b)

  closes-by-step : (mid : Option (List ℕ)) (ending : Ending) (st : Step) → step s ≡ st → EndsAs q (Some ending) st → Appends now mid (viewed v (turn_lines v (step_events st))) → ClosesAt v q ending old mid (with_events (step_events st) t) whole
  closes-by-step mid ending (goes_on es rs u) is h b = absurd h
  closes-by-step mid ending (ends es rs e) is h b = record { end = e; is = h; closing = closes v old now mid t whole s e es rs going is b }

  pub turn-closing : (mid : Option (List ℕ)) (u : Totals) (ending : Ending) → o ≡ Some ending → Appends now mid (viewed v (all_lines traced_lines (events_of q.store hs))) → u ≡ with_events (events_of q.store hs) t → ClosesAt v q ending old mid u whole
  turn-closing mid u ending some b counted =
      subst (λ x. ClosesAt v q ending old mid x whole) (sym (counted ∙ totals-are))
      (closes-by-step mid ending (step s) refl (subst (λ x. EndsAs q x (step s)) some shows.ended) (subst (λ ls. Appends now mid (viewed v ls)) lines-are b))

  goes-by-step : (mid : Option (List ℕ)) (st : Step) → step s ≡ st → EndsAs q None st → Appends now mid (viewed v (turn_lines v (step_events st))) → Going v (state_of q) old mid (with_events (step_events st) t) whole
  goes-by-step mid (ends es rs e) is h b = absurd h
  goes-by-step mid (goes_on es rs u) is h b = subst (λ x. Going v x old mid (with_events es t) whole) (sym h) (goes v old now mid t whole s u es rs going is b)

  -- the lists of what was sent were closed since
  pub turn-going : (mid : Option (List ℕ)) (u : Totals) (after : State) → after ≡ state_of q → o ≡ None → Appends now mid (viewed v (all_lines traced_lines (events_of q.store hs))) → u ≡ with_events (events_of q.store hs) t → Going v after old mid u whole
  turn-going mid u after same none b counted =
      subst (λ x. Going v x old mid u whole) (sym same)
      (subst (λ x. Going v (state_of q) old mid x whole) (sym (counted ∙ totals-are))
      (goes-by-step mid (step s) refl (subst (λ x. EndsAs q x (step s)) none shows.ended) (subst (λ ls. Appends now mid (viewed v ls)) lines-are b)))

  -- ---- what is counted

  module _ (tally : IsTally t s) (waiting : length s.waiting ≤ 4194304) (pages : ArePages q.store hs) where
    nodes : AreFewNodes (sent_among (step_events (step s)))
    nodes = step-few q.store hs (is_traced v) (step_events (step s)) pages shows.events

    counts-by-step : (st : Step) → SendsBy s st → AreFewNodes (sent_among (step_events st)) → AreCounts (with_events (step_events st) t)
    counts-by-step (ends es rs e) h ns = tally-counts t s es tally h waiting ns
    counts-by-step (goes_on es rs u) h ns = tally-counts t s es tally h.0 waiting ns

    pub turn-counts : AreCounts (with_events (events_of q.store hs) t)
    turn-counts = subst AreCounts (sym totals-are) (counts-by-step (step s) (step-sends s) nodes)

    tally-by-step : (st : Step) → SendsBy s st → AreFewNodes (sent_among (step_events st)) → EndsAs q None st → firings_left (state_of q) < firings_left s → IsTally (with_events (step_events st) t) (state_of q)
    tally-by-step (ends es rs e) h ns k fewer = absurd k
    tally-by-step (goes_on es rs u) h ns k fewer = tally-next t s es tally h.0 waiting ns (state_of q) (h.1 ∙ ap (λ (x : State). x.page) (sym k)) (ap (λ (x : State). x.params.maxpages) k ∙ h.2) fewer

    pub turn-tally : (u : Totals) (after : State) → after ≡ state_of q → o ≡ None → u ≡ with_events (events_of q.store hs) t → IsTally u after
    turn-tally u after same none counted =
        subst (IsTally u) (sym same)
        (subst (λ x. IsTally x (state_of q)) (sym (counted ∙ totals-are))
        (tally-by-step (step s) (step-sends s) nodes (subst (λ x. EndsAs q x (step s)) none shows.ended) (turn-fewer s q going.page (is_traced v) hs o shows none)))

-- a routine that is ready has not too many nodes that wait
pub few-wait : (r : Routine) → IsReady r → length (state_of r).waiting ≤ 4194304
few-wait r ready =
    let a = length_counted (state_of r).waiting in
    let b = ready.settled.bounded.held in
    let c = ready.settled.bounded.few in
    omega (arith, a, b, c)

-- if no limit is passed, the routine is ready still
pub limit-ready : (r q : Routine) (o : Option Ending) → IsReady r → q ≡ record r { most = q.most } → IsBounded 8388608 q → IfNone o (pos q.most ≤ℤ r.machine.params.maxnodes) → o ≡ None → IsReady q
limit-ready r q o ready same bounded within none =
    subst IsReady (sym same) (again (subst (IsBounded 4194304) same (record { held = bounded.held; few = within-limit q.most r.machine.params.maxnodes (MatchOption-at_none _ _ none within) ready.settled.params.maxnodes.high })))
  where
    again : IsBounded 4194304 (record r { most = q.most }) → IsReady (record r { most = q.most })
    again k =
        let old = ready.settled in
        record {
          settled = record {
            whole = record { builder = old.whole.builder; machine = old.whole.machine; fault = old.whole.fault; apart = old.whole.apart; items = old.whole.items };
            params = old.params;
            classes = old.classes;
            between = old.between;
            served = old.served;
            bounded = k;
            ends = old.ends;
          };
          events = ready.events;
        }
