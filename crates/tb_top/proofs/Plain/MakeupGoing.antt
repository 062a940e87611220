-- A run of the page makeup that goes on: what was written, what was shipped, and what is left.
use Rattle.std.proofs.Common.{◌≡◌, refl, sym, subst, ◌∙◌, ap, ℕ, ℤ, ◌<◌, ◌≤◌, pos, Bool, true, false, List, [], ◌∷◌, ◌++◌, length, length-append, append_assoc, append-nil, Option, Some, None, arith}
use Rattle.std.specs.Prelude.{nat_abs, int_lt, if◌then◌else◌}
use Rattle.std.specs.Io.KnownBytes.{Appends}
use Rattle.std.proofs.lemmas.List.{map-append}
use Rattle.tb_io.specs.Sink.{AppendsPrefix}
use Rattle.std.proofs.KnownBytes.{Appends-trans}
use Rattle.tb_io.proofs.Appended.{prefix_whole, prefix_longer, prefix_on}
use Rattle.tb_param.specs.declared.Params.{Params}
use Rattle.tb_builder.specs.Contents.{node_count}
use Rattle.tb_report.specs.declared.Totals.{Totals}
use Rattle.tb_report.specs.Lines.{sent_lines}
use Rattle.tb_report.specs.RunTotals.{no_totals, AreCounts}
use Rattle.tb_items.specs.declared.happenings.Happening.{Happening}
use Rattle.tb_items.specs.Happenings.{events_of, noted, ArePages}
use Rattle.tb_plain.specs.Run.{MakeupEvent, offers, sends, sent_among, sent_of, MakeupState, MakeupRun, MakeupEnd, node_limit, run_after}
use Rattle.tb_plain.proofs.SentLemmas.{among-append}
use Rattle.tb_plain.specs.Report.{all_lines as page_lines, closing_lines, makeup_report}
use Rattle.tb_makeup.specs.declared.makeup.Makeup.{Makeup}
use Rattle.tb_makeup.specs.declared.makeup.MakeupEnding.{MakeupEnding}
use Rattle.tb_makeup.specs.declared.makeup.MakeupEnding.TheVariants as endings
use Rattle.tb_makeup.specs.Makeup.{held_in, state_of, run_at, over_limit, end_of, turns_left, GoesTo, run_event, run_events}
use Rattle.tb_makeup.proofs.Filled.RunLemmas.{run-append}
use Rattle.tb_top.specs.declared.View.{View}
use Rattle.tb_top.specs.declared.View.TheVariants as views
use Rattle.tb_top.specs.MakeupTrace.{makeup_trace}
use Rattle.tb_top.specs.MakeupPages.{makeup_text}
use Rattle.tb_top.specs.MakeupWritten.{run_on}
use Rattle.tb_top.specs.Report.{event_lines, traced_lines, all_lines}
use Rattle.tb_top.specs.Views.{viewed, is_traced, with_events}
use Rattle.tb_top.proofs.Written.GoingLemmas.{header, event_text, viewed-append, lines-append, noted-lines, noted-events}
use Rattle.tb_top.proofs.Written.TallyLemmas.{AreFewNodes}
use Rattle.tb_top.proofs.Plain.MakeupTotals.{with_all, with-events, all-append, few-append, few-sent, few-counts}

-- ---- lines

-- the lines of events in what a view shows
abbrev pub shown_lines : View → List MakeupEvent → List ℕ
shown_lines v es = all_lines (event_text v) (run_events es)

-- those of a report are the lines of what is sent
sent-shown : (es : List MakeupEvent) → all_lines event_lines (run_events es) ≡ page_lines (sent_among es)
sent-shown [] = refl
sent-shown (offers t ∷ es) = sent-shown es
sent-shown (sends e ∷ es) = ap (λ ls. sent_lines e ++ ls) (sent-shown es)

shown-append : (v : View) (es rest : List MakeupEvent) → shown_lines v (es ++ rest) ≡ shown_lines v es ++ shown_lines v rest
shown-append v es rest = ap (all_lines (event_text v)) (map-append run_event es rest) ∙ lines-append v (run_events es) (run_events rest)

pub view-text : (v : View) (r : MakeupRun) → makeup_text v r ≡ viewed v ((header ++ shown_lines v r.events) ++ closing_lines r.end (sent_of r))
unfolding makeup_report makeup_trace
view-text views.Report r = ap (λ ls. (header ++ ls) ++ closing_lines r.end (sent_of r)) (sym (sent-shown r.events))
view-text v r = refl

-- the text of a run with these events first
text-from : (v : View) (r : MakeupRun) (es rest : List MakeupEvent) → r.events ≡ es ++ rest → makeup_text v r ≡ viewed v (header ++ shown_lines v es) ++ viewed v (shown_lines v rest ++ closing_lines r.end (sent_of r))
text-from v r es rest is =
    let last = closing_lines r.end (sent_of r) in
    view-text v r
    ∙ ap (viewed v)
    (ap (λ xs. (header ++ shown_lines v xs) ++ last) is ∙ ap (λ ls. (header ++ ls) ++ last) (shown-append v es rest) ∙ ap (λ ls. ls ++ last) (sym (append_assoc header (shown_lines v es) (shown_lines v rest))) ∙ append_assoc (header ++ shown_lines v es) (shown_lines v rest) last)
    ∙ viewed-append v (header ++ shown_lines v es) (shown_lines v rest ++ last)

-- ---- a run that goes on, and one that ends

pub record Going (p : Params) (v : View) (s : MakeupState) (old now : Option (List ℕ)) (t : Totals) (whole : MakeupRun) : Type 0 where
  pub events : List MakeupEvent
  pub appended : Appends old now (viewed v (header ++ shown_lines v events))
  pub run : whole ≡ run_after events (run_at p s)
  pub totals : t ≡ with_all (sent_among events) no_totals
  pub nodes : AreFewNodes (sent_among events)

pub record Closing (v : View) (e : MakeupEnd) (old now : Option (List ℕ)) (t : Totals) (whole : MakeupRun) : Type 0 where
  pub events : List MakeupEvent
  pub appended : Appends old now (viewed v (header ++ shown_lines v events))
  pub run : whole ≡ record { events = events; end = e }
  pub totals : t ≡ with_all (sent_among events) no_totals

-- nothing was written of this turn
pub prefix-now : (p : Params) (v : View) (s : MakeupState) (old now : Option (List ℕ)) (t : Totals) (whole : MakeupRun) → Going p v s old now t whole → AppendsPrefix old now (makeup_text v whole)
prefix-now p v s old now t whole g =
    let rest = (run_at p s).events in
    subst (AppendsPrefix old now) (sym (text-from v whole g.events rest (ap (λ (r : MakeupRun). r.events) g.run)))
    (prefix_longer old now (viewed v (header ++ shown_lines v g.events)) (viewed v (shown_lines v rest ++ closing_lines whole.end (sent_of whole))) (prefix_whole old now (viewed v (header ++ shown_lines v g.events)) g.appended))

-- ---- the beginning

-- the run of a state, by the ending of too many nodes
abbrev StartsAs : Params → MakeupState → Option MakeupEnding → MakeupRun → Type 0
StartsAs p s None r = r ≡ run_at p s
StartsAs p s (Some e) r = r ≡ record { events = []; end = end_of e }

starts-by : (p : Params) (s : MakeupState) (t : Bool) → StartsAs p s (if t then Some (endings.NodeLimit (node_count s.waiting)) else None) (if t then (let r : MakeupRun = record { events = []; end = node_limit (node_count s.waiting) } in r) else run_at p s)
starts-by p s true = refl
starts-by p s false = refl

module _ (v : View) (r : Makeup) (old now : Option (List ℕ)) (t : Totals) (o : Option MakeupEnding) (limit : r.limit ≡ r.plain.params.maxnodes) (a : Appends old now (viewed v header)) (nothing : t ≡ no_totals) (over : o ≡ over_limit r.limit (node_count (held_in r).waiting)) where
  starts : StartsAs r.plain.params (state_of r) o (run_on r)
  starts =
      let same : over_limit r.plain.params.maxnodes (node_count (state_of r).waiting) ≡ o = ap (λ (m : ℤ). over_limit m (node_count (state_of r).waiting)) (sym limit) ∙ sym over in
      subst (λ x. StartsAs r.plain.params (state_of r) x (run_on r)) same (starts-by r.plain.params (state_of r) (int_lt r.plain.params.maxnodes (pos (node_count (state_of r).waiting))))

  begun : Appends old now (viewed v (header ++ []))
  begun = subst (λ ls. Appends old now (viewed v ls)) (sym (append-nil header)) a

  -- too many nodes wait at the start
  pub start-closing : (e : MakeupEnding) → o ≡ Some e → Closing v (end_of e) old now t (run_on r)
  start-closing e some = record { events = []; appended = begun; run = subst (λ x. StartsAs r.plain.params (state_of r) x (run_on r)) some starts; totals = nothing }

  -- the run goes on from its first state
  pub start-going : o ≡ None → Going r.plain.params v (state_of r) old now t (run_on r)
  start-going none = record { events = []; appended = begun; run = subst (λ x. StartsAs r.plain.params (state_of r) x (run_on r)) none starts; totals = nothing; nodes = tt }

-- ---- a turn

-- what the run shows after a turn
rest-of : (p : Params) (s : MakeupState) (q : Makeup) (es : List MakeupEvent) (o : Option MakeupEnding) → GoesTo q o p es s → (rest : List MakeupEvent) × ((run_at p s).events ≡ es ++ rest)
rest-of p s q es None h = ((run_at p (state_of q)).events, ap (λ (r : MakeupRun). r.events) h.0)
rest-of p s q es (Some e) h = ([], ap (λ (r : MakeupRun). r.events) h ∙ sym (append-nil es))

-- a turn with what shows it: the makeup after it, what happened, and how the run ended
module _ (p : Params) (v : View) (s : MakeupState) (old now : Option (List ℕ)) (t : Totals) (whole : MakeupRun) (going : Going p v s old now t whole) (q : Makeup) (hs : List Happening) (o : Option MakeupEnding) (es : List MakeupEvent)
    (events : events_of q.store hs ≡ noted (is_traced v) (run_events es)) (goes : GoesTo q o p es s) where
  lines-are : all_lines traced_lines (events_of q.store hs) ≡ shown_lines v es
  lines-are = ap (all_lines traced_lines) events ∙ noted-lines v (run_events es)

  totals-are : with_events (events_of q.store hs) t ≡ with_all (sent_among (going.events ++ es)) no_totals
  totals-are =
      ap (λ xs. with_events xs t) events
      ∙ noted-events (is_traced v) (run_events es) t
      ∙ with-events es t
      ∙ ap (with_all (sent_among es)) going.totals
      ∙ sym (all-append (sent_among going.events) (sent_among es) no_totals)
      ∙ ap (λ xs. with_all xs no_totals) (sym (among-append going.events es))

  appended-are : (mid : Option (List ℕ)) → Appends now mid (viewed v (all_lines traced_lines (events_of q.store hs))) → Appends old mid (viewed v (header ++ shown_lines v (going.events ++ es)))
  appended-are mid b =
      let first = header ++ shown_lines v going.events in
      let text : header ++ shown_lines v (going.events ++ es) ≡ first ++ shown_lines v es = ap (λ ls. header ++ ls) (shown-append v going.events es) ∙ sym (append_assoc header (shown_lines v going.events) (shown_lines v es)) in
      subst (Appends old mid) (sym (ap (viewed v) text ∙ viewed-append v first (shown_lines v es)))
      (Appends-trans old now mid (viewed v first) (viewed v (shown_lines v es)) going.appended (subst (λ ls. Appends now mid (viewed v ls)) lines-are b))

  events-are : (rest : List MakeupEvent) → (run_at p s).events ≡ es ++ rest → whole.events ≡ going.events ++ (es ++ rest)
  events-are rest is = ap (λ (r : MakeupRun). r.events) going.run ∙ ap (λ xs. going.events ++ xs) is

  -- writing what happened was cut short
  pub turn-cut : (mid : Option (List ℕ)) → AppendsPrefix now mid (viewed v (all_lines traced_lines (events_of q.store hs))) → AppendsPrefix old mid (makeup_text v whole)
  turn-cut mid b =
      let r = rest-of p s q es o goes in
      let first = header ++ shown_lines v going.events in
      let last = closing_lines whole.end (sent_of whole) in
      let group : shown_lines v (es ++ r.0) ++ last ≡ shown_lines v es ++ (shown_lines v r.0 ++ last) = ap (λ ls. ls ++ last) (shown-append v es r.0) ∙ append_assoc (shown_lines v es) (shown_lines v r.0) last in
      let text : makeup_text v whole ≡ viewed v first ++ (viewed v (shown_lines v es) ++ viewed v (shown_lines v r.0 ++ last)) = text-from v whole going.events (es ++ r.0) (events-are r.0 r.1) ∙ ap (λ ls. viewed v first ++ ls) (ap (viewed v) group ∙ viewed-append v (shown_lines v es) (shown_lines v r.0 ++ last)) in
      prefix_on old now mid (makeup_text v whole) (viewed v first) (viewed v (shown_lines v es)) (viewed v (shown_lines v r.0 ++ last)) going.appended (subst (λ ls. AppendsPrefix now mid (viewed v ls)) lines-are b) text

  pub turn-closing : (mid : Option (List ℕ)) (u : Totals) (e : MakeupEnding) → o ≡ Some e → Appends now mid (viewed v (all_lines traced_lines (events_of q.store hs))) → u ≡ with_events (events_of q.store hs) t → Closing v (end_of e) old mid u whole
  turn-closing mid u e some b counted =
      let ended : run_at p s ≡ record { events = es; end = end_of e } = subst (λ x. GoesTo q x p es s) some goes in
      record { events = going.events ++ es; appended = appended-are mid b; run = going.run ∙ ap (run_after going.events) ended; totals = counted ∙ totals-are }

  pub turn-fewer : o ≡ None → turns_left p (state_of q) < turns_left p s
  turn-fewer none = let h : GoesTo q None p es s = subst (λ x. GoesTo q x p es s) none goes in h.1

  module _ (pages : ArePages q.store hs) where
    nodes-are : AreFewNodes (sent_among (going.events ++ es))
    nodes-are = subst AreFewNodes (sym (among-append going.events es)) (few-append (sent_among going.events) (sent_among es) going.nodes (few-sent q.store hs (is_traced v) es pages events))

    -- what is counted stays in range
    pub turn-counts : nat_abs p.maxpages ≤ 1000000 → length (sent_of whole) ≤ nat_abs p.maxpages → AreCounts (with_events (events_of q.store hs) t)
    turn-counts few all =
        let r = rest-of p s q es o goes in
        let a : length (sent_of whole) ≡ length (sent_among (going.events ++ (es ++ r.0))) = ap (λ xs. length (sent_among xs)) (events-are r.0 r.1) in
        let b = ap length (among-append going.events (es ++ r.0)) ∙ length-append (sent_among going.events) (sent_among (es ++ r.0)) in
        let c = ap length (among-append es r.0) ∙ length-append (sent_among es) (sent_among r.0) in
        let d = ap length (among-append going.events es) ∙ length-append (sent_among going.events) (sent_among es) in
        subst AreCounts (sym totals-are) (few-counts (sent_among (going.events ++ es)) nodes-are (omega (arith, a, b, c, d, few, all)))

    -- the lists of what was sent were closed since
    pub turn-going : (mid : Option (List ℕ)) (u : Totals) (after : MakeupState) → after ≡ state_of q → o ≡ None → Appends now mid (viewed v (all_lines traced_lines (events_of q.store hs))) → u ≡ with_events (events_of q.store hs) t → Going p v after old mid u whole
    turn-going mid u after same none b counted =
        let h : GoesTo q None p es s = subst (λ x. GoesTo q x p es s) none goes in
        subst (λ x. Going p v x old mid u whole) (sym same) (record {
          events = going.events ++ es;
          appended = appended-are mid b;
          run = going.run ∙ ap (run_after going.events) h.0 ∙ sym (run-append going.events es (run_at p (state_of q)));
          totals = counted ∙ totals-are;
          nodes = nodes-are;
        })
