-- A run that goes on: what was written, what was shipped, and what is left.
use Rattle.std.proofs.Common.{◌≡◌, refl, sym, subst, ◌∙◌, ap, ℕ, zero, suc, ◌+◌, ◌<◌, ◌≤◌, pos, Bool, true, false, List, [], ◌∷◌, ◌++◌, codes, Option, Some, append_assoc, append-nil, add-zero, zero-add, arith}
use Rattle.std.specs.Prelude.{int_lt, if◌then◌else◌, Result, Err, IsErrAnd}
use Rattle.std.specs.Io.KnownBytes.{Appends, append_known}
use Rattle.tb_io.specs.declared.sink.SinkFault.{SinkFault}
use Rattle.tb_io.specs.declared.sink.SinkFault.TheVariants as outputs
use Rattle.tb_io.specs.Sink.{AppendsPrefix}
use Rattle.std.proofs.KnownBytes.{Appends-trans}
use Rattle.tb_io.proofs.Appended.{prefix_whole, prefix_longer, prefix_on}
use Rattle.tb_node.specs.PlainNodes.{PlainNode}
use Rattle.tb_sheet.specs.Sheet.{PlainSent, warned, shipped}
use Rattle.tb_report.specs.declared.Totals.{Totals}
use Rattle.tb_report.specs.Lines.{end_lines}
use Rattle.tb_report.specs.RunTotals.{is_item_box, is_float_box, count_kinds, sheet_nodes, no_totals, with_sent}
use Rattle.tb_output.specs.State.{State, Recorded}
use Rattle.tb_top.specs.declared.View.{View}
use Rattle.tb_top.specs.declared.View.TheVariants as views
use Rattle.tb_top.specs.declared.PageFault.{PageFault}
use Rattle.tb_top.specs.declared.PageFault.TheVariants as faults
use Rattle.tb_steps.specs.Run.{Run, End, done, node_limit, Step, ends, goes_on, held_count, step, run_by, run_from, firings_left, run_of_state, step_events}
use Rattle.tb_items.specs.RunEvents.{RunEvent, offered, sent}
use Rattle.tb_laws.specs.Totals.{totals_of}
use Rattle.tb_top.specs.Report.{event_lines, traced_lines, all_lines, closing_lines, report, trace}
use Rattle.tb_top.specs.Pages.{view_text, end_fault, Paginates, EndsWith, Refuses, RefusesText}
use Rattle.tb_items.specs.Happenings.{noted}
use Rattle.tb_top.specs.PagesWritten.{write_fault}
use Rattle.tb_top.specs.Views.{viewed, is_traced, with_events, IsShown}
use Rattle.tb_laws.proofs.Defined.FuelLemmas.{Turns, step-turns}
use Rattle.tb_top.proofs.Written.KeptLemmas.{more-kept}

-- ---- totals

abbrev pub joined : Totals → Totals → Totals
joined t u = record { pages = t.pages + u.pages; boxes = t.boxes + u.boxes; floats = t.floats + u.floats; warnings = t.warnings + u.warnings }

joined-nothing : (t : Totals) → joined t no_totals ≡ t
joined-nothing t = λ i. record { pages = add-zero t.pages i; boxes = add-zero t.boxes i; floats = add-zero t.floats i; warnings = add-zero t.warnings i }

nothing-joined : (t : Totals) → joined no_totals t ≡ t
nothing-joined t = λ i. record { pages = zero-add t.pages i; boxes = zero-add t.boxes i; floats = zero-add t.floats i; warnings = zero-add t.warnings i }

past : (a b c : ℕ) → a + (b + c) ≡ (a + c) + b
past a b c = omega arith

joined-sent : (e : PlainSent) (t u : Totals) → joined t (with_sent e u) ≡ joined (with_sent e t) u
joined-sent (warned w) t u = λ i. record { pages = t.pages + u.pages; boxes = t.boxes + u.boxes; floats = t.floats + u.floats; warnings = past t.warnings u.warnings 1 i }
joined-sent (shipped page sheet) t u = λ i. record {
  pages = past t.pages u.pages 1 i;
  boxes = past t.boxes u.boxes (count_kinds is_item_box (sheet_nodes sheet)) i;
  floats = past t.floats u.floats (count_kinds is_float_box (sheet_nodes sheet)) i;
  warnings = t.warnings + u.warnings;
}

-- the totals of events, after those so far
joined-events : (es rest : List RunEvent) (t : Totals) → joined t (totals_of (es ++ rest)) ≡ joined (with_events es t) (totals_of rest)
joined-events [] rest t = refl
joined-events (offered a ∷ es) rest t = joined-events es rest t
joined-events (sent e ∷ es) rest t = joined-sent e t (totals_of (es ++ rest)) ∙ joined-events es rest (with_sent e t)

-- ---- lines

-- the lines of an event in what a view shows
abbrev pub event_text : View → RunEvent → List ℕ
event_text views.Report e = event_lines e
event_text views.Trace e = traced_lines e
event_text views.Silent e = event_lines e

pub lines-append : (v : View) (es rest : List RunEvent) → all_lines (event_text v) (es ++ rest) ≡ all_lines (event_text v) es ++ all_lines (event_text v) rest
lines-append v [] rest = refl
lines-append v (e ∷ es) rest = ap (λ ls. event_text v e ++ ls) (lines-append v es rest) ∙ sym (append_assoc (event_text v e) (all_lines (event_text v) es) (all_lines (event_text v) rest))

-- the lines of what a view notes are what it shows
pub noted-lines : (v : View) (es : List RunEvent) → all_lines traced_lines (noted (is_traced v) es) ≡ all_lines (event_text v) es
noted-lines views.Report [] = refl
noted-lines views.Report (offered t ∷ es) = noted-lines views.Report es
noted-lines views.Report (sent e ∷ es) = ap (λ ls. traced_lines (sent e) ++ ls) (noted-lines views.Report es)
noted-lines views.Trace [] = refl
noted-lines views.Trace (offered t ∷ es) = ap (λ ls. traced_lines (offered t) ++ ls) (noted-lines views.Trace es)
noted-lines views.Trace (sent e ∷ es) = ap (λ ls. traced_lines (sent e) ++ ls) (noted-lines views.Trace es)
noted-lines views.Silent [] = refl
noted-lines views.Silent (offered t ∷ es) = noted-lines views.Silent es
noted-lines views.Silent (sent e ∷ es) = ap (λ ls. traced_lines (sent e) ++ ls) (noted-lines views.Silent es)

-- what is noted counts as much
pub noted-events : (wanted : Bool) (es : List RunEvent) (t : Totals) → with_events (noted wanted es) t ≡ with_events es t
noted-events wanted [] t = refl
noted-events true (offered a ∷ es) t = noted-events true es t
noted-events false (offered a ∷ es) t = noted-events false es t
noted-events wanted (sent e ∷ es) t = noted-events wanted es (with_sent e t)

pub viewed-append : (v : View) (a b : List ℕ) → viewed v (a ++ b) ≡ viewed v a ++ viewed v b
viewed-append views.Report a b = refl
viewed-append v a b = refl

-- a text is kept, and the sink would hold more if more were kept
pub more-shown : (v : View) (held : Option (List ℕ)) (kept more : List ℕ) → AppendsPrefix (append_known held (viewed v kept)) (append_known held (viewed v (kept ++ more))) (viewed v more)
more-shown v held kept more =
    let all = append_known held (viewed v (kept ++ more)) in
    prefix_whole (append_known held (viewed v kept)) all (viewed v more)
    (subst (λ x. Appends (append_known held (viewed v kept)) (append_known held x) (viewed v more)) (sym (viewed-append v kept more)) (more-kept held (viewed v kept) (viewed v more)))

-- ---- the run from here

-- the lines of a part of the run, if the whole run has these events
abbrev pub tail_lines : View → List RunEvent → Run → List ℕ
tail_lines v all r = all_lines (event_text v) r.events ++ closing_lines r.end all

abbrev pub header : List ℕ
header = codes "report 1\n"

-- the whole text, also if the view shows nothing
abbrev pub whole_text : View → Run → List ℕ
whole_text v r = header ++ tail_lines v r.events r

viewed-whole : (v : View) (r : Run) → viewed v (whole_text v r) ≡ view_text v r
unfolding report trace
viewed-whole views.Report r = sym (append_assoc header (all_lines event_lines r.events) (closing_lines r.end r.events))
viewed-whole views.Trace r = sym (append_assoc header (all_lines traced_lines r.events) (closing_lines r.end r.events))
viewed-whole views.Silent r = refl

pub record Going (v : View) (s : State) (old now : Option (List ℕ)) (t : Totals) (whole : Run) : Type 0 where
  pub page : 1 ≤ s.page
  pub written : List ℕ
  pub fuel : ℕ
  pub appended : Appends old now (viewed v written)
  pub enough : firings_left s < fuel
  pub text : whole_text v whole ≡ written ++ tail_lines v whole.events (run_from fuel s)
  pub end : whole.end ≡ (run_from fuel s).end
  pub totals : totals_of whole.events ≡ joined t (totals_of (run_from fuel s).events)

-- the run ends so, and its last lines are left
pub record Closing (v : View) (e : End) (old now : Option (List ℕ)) (t : Totals) (whole : Run) : Type 0 where
  pub written : List ℕ
  pub appended : Appends old now (viewed v written)
  pub text : whole_text v whole ≡ written ++ closing_lines e whole.events
  pub end : whole.end ≡ e
  pub totals : totals_of whole.events ≡ t

-- a step that goes on, and one that ends
pub record Steps (s s' : State) (es : List RunEvent) : Type 0 where
  pub page : 1 ≤ s'.page
  pub fewer : firings_left s' < firings_left s
  pub later : (fuel : ℕ) → ((run_from (suc fuel) s).events ≡ es ++ (run_from fuel s').events) × ((run_from (suc fuel) s).end ≡ (run_from fuel s').end)

pub record Stops (s : State) (e : End) (es : List RunEvent) : Type 0 where
  pub later : (fuel : ℕ) → ((run_from (suc fuel) s).events ≡ es) × ((run_from (suc fuel) s).end ≡ e)

run-on : (s s' : State) (fuel : ℕ) (es : List RunEvent) (rs : List Recorded) → step s ≡ goes_on es rs s'
    → ((run_from (suc fuel) s).events ≡ es ++ (run_from fuel s').events) × ((run_from (suc fuel) s).end ≡ (run_from fuel s').end)
unfolding run_from
run-on s s' fuel es rs e = (ap (λ st. (run_by (λ u. run_from fuel u) st).events) e, ap (λ st. (run_by (λ u. run_from fuel u) st).end) e)

run-last : (s : State) (fuel : ℕ) (es : List RunEvent) (rs : List Recorded) (e : End) → step s ≡ ends es rs e → ((run_from (suc fuel) s).events ≡ es) × ((run_from (suc fuel) s).end ≡ e)
unfolding run_from
run-last s fuel es rs e k = (ap (λ st. (run_by (λ u. run_from fuel u) st).events) k, ap (λ st. (run_by (λ u. run_from fuel u) st).end) k)

pub steps : (s s' : State) (es : List RunEvent) (rs : List Recorded) → step s ≡ goes_on es rs s' → 1 ≤ s.page → Steps s s' es
steps s s' es rs is page =
    let turns = subst (Turns s) is (step-turns s page) in
    record { page = turns.0; fewer = turns.1; later = λ fuel. run-on s s' fuel es rs is }

pub stops : (s : State) (e : End) (es : List RunEvent) (rs : List Recorded) → step s ≡ ends es rs e → Stops s e es
stops s e es rs is = record { later = λ fuel. run-last s fuel es rs e is }

-- ---- one turn further

-- the lines of a step in what a view shows
abbrev pub turn_lines : View → List RunEvent → List ℕ
turn_lines v es = all_lines (event_text v) es

tail-on : (v : View) (all : List RunEvent) (r r' : Run) (es : List RunEvent) → r.events ≡ es ++ r'.events → r.end ≡ r'.end → tail_lines v all r ≡ turn_lines v es ++ tail_lines v all r'
tail-on v all r r' es e f =
    (λ i. all_lines (event_text v) (e i) ++ closing_lines (f i) all)
    ∙ ap (λ ls. ls ++ closing_lines r'.end all) (lines-append v es r'.events)
    ∙ append_assoc (turn_lines v es) (all_lines (event_text v) r'.events) (closing_lines r'.end all)

tail-last : (v : View) (all : List RunEvent) (r : Run) (es : List RunEvent) (e : End) → r.events ≡ es → r.end ≡ e → tail_lines v all r ≡ turn_lines v es ++ closing_lines e all
tail-last v all r es e a b = λ i. all_lines (event_text v) (a i) ++ closing_lines (b i) all

module _ (v : View) (old now new : Option (List ℕ)) (t : Totals) (whole : Run) where
  appended-on : (written more : List ℕ) → Appends old now (viewed v written) → Appends now new (viewed v more) → Appends old new (viewed v (written ++ more))
  appended-on written more a b = subst (Appends old new) (sym (viewed-append v written more)) (Appends-trans old now new (viewed v written) (viewed v more) a b)

  goes-by : (s s' : State) (es : List RunEvent) (written : List ℕ) (fuel : ℕ) → Appends old now (viewed v written) → firings_left s < fuel → whole_text v whole ≡ written ++ tail_lines v whole.events (run_from fuel s)
      → whole.end ≡ (run_from fuel s).end → totals_of whole.events ≡ joined t (totals_of (run_from fuel s).events) → Steps s s' es → Appends now new (viewed v (turn_lines v es))
      → Going v s' old new (with_events es t) whole
  goes-by s s' es written zero a enough text end totals st b = absurd (omega arith)
  goes-by s s' es written (suc fuel) a enough text end totals st b =
      let fewer = st.fewer in
      record {
        page = st.page;
        written = written ++ turn_lines v es;
        fuel = fuel;
        appended = appended-on written (turn_lines v es) a b;
        enough = omega arith;
        text = text ∙ ap (λ ls. written ++ ls) (tail-on v whole.events (run_from (suc fuel) s) (run_from fuel s') es (st.later fuel).0 (st.later fuel).1) ∙ sym (append_assoc written (turn_lines v es) (tail_lines v whole.events (run_from fuel s')));
        end = end ∙ (st.later fuel).1;
        totals = totals ∙ ap (λ xs. joined t (totals_of xs)) (st.later fuel).0 ∙ joined-events es (run_from fuel s').events t;
      }

  pub goes : (s s' : State) (es : List RunEvent) (rs : List Recorded) → Going v s old now t whole → step s ≡ goes_on es rs s' → Appends now new (viewed v (turn_lines v es)) → Going v s' old new (with_events es t) whole
  goes s s' es rs g is b = goes-by s s' es g.written g.fuel g.appended g.enough g.text g.end g.totals (steps s s' es rs is g.page) b

  closes-by : (s : State) (e : End) (es : List RunEvent) (written : List ℕ) (fuel : ℕ) → Appends old now (viewed v written) → firings_left s < fuel → whole_text v whole ≡ written ++ tail_lines v whole.events (run_from fuel s)
      → whole.end ≡ (run_from fuel s).end → totals_of whole.events ≡ joined t (totals_of (run_from fuel s).events) → Stops s e es → Appends now new (viewed v (turn_lines v es))
      → Closing v e old new (with_events es t) whole
  closes-by s e es written zero a enough text end totals st b = absurd (omega arith)
  closes-by s e es written (suc fuel) a enough text end totals st b = record {
    written = written ++ turn_lines v es;
    appended = appended-on written (turn_lines v es) a b;
    text = text ∙ ap (λ ls. written ++ ls) (tail-last v whole.events (run_from (suc fuel) s) es e (st.later fuel).0 (st.later fuel).1) ∙ sym (append_assoc written (turn_lines v es) (closing_lines e whole.events));
    end = end ∙ (st.later fuel).1;
    totals = totals ∙ ap (λ xs. joined t (totals_of xs)) ((st.later fuel).0 ∙ sym (append-nil es)) ∙ joined-events es [] t ∙ joined-nothing (with_events es t);
  }

  pub closes : (s : State) (e : End) (es : List RunEvent) (rs : List Recorded) → Going v s old now t whole → step s ≡ ends es rs e → Appends now new (viewed v (turn_lines v es)) → Closing v e old new (with_events es t) whole
  closes s e es rs g is b = closes-by s e es g.written g.fuel g.appended g.enough g.text g.end g.totals (stops s e es rs is) b

  -- ---- a run that is cut off while a turn is written

  cut-on : (written more rest : List ℕ) → whole_text v whole ≡ written ++ (more ++ rest) → Appends old now (viewed v written) → AppendsPrefix now new (viewed v more) → AppendsPrefix old new (view_text v whole)
  cut-on written more rest text a b =
      prefix_on old now new (view_text v whole) (viewed v written) (viewed v more) (viewed v rest) a b
      (sym (viewed-whole v whole) ∙ ap (viewed v) text ∙ viewed-append v written (more ++ rest) ∙ ap (λ ls. viewed v written ++ ls) (viewed-append v more rest))

  cut-next : (s s' : State) (es : List RunEvent) (written : List ℕ) (fuel : ℕ) → firings_left s < fuel → whole_text v whole ≡ written ++ tail_lines v whole.events (run_from fuel s) → Steps s s' es
      → (rest : List ℕ) × (whole_text v whole ≡ written ++ (turn_lines v es ++ rest))
  cut-next s s' es written zero enough text st = absurd (omega arith)
  cut-next s s' es written (suc fuel) enough text st = (tail_lines v whole.events (run_from fuel s'), text ∙ ap (λ ls. written ++ ls) (tail-on v whole.events (run_from (suc fuel) s) (run_from fuel s') es (st.later fuel).0 (st.later fuel).1))

  cut-last : (s : State) (e : End) (es : List RunEvent) (written : List ℕ) (fuel : ℕ) → firings_left s < fuel → whole_text v whole ≡ written ++ tail_lines v whole.events (run_from fuel s) → Stops s e es
      → (rest : List ℕ) × (whole_text v whole ≡ written ++ (turn_lines v es ++ rest))
  cut-last s e es written zero enough text st = absurd (omega arith)
  cut-last s e es written (suc fuel) enough text st = (closing_lines e whole.events, text ∙ ap (λ ls. written ++ ls) (tail-last v whole.events (run_from (suc fuel) s) es e (st.later fuel).0 (st.later fuel).1))

  pub cut-short : (s : State) (st : Step) → Going v s old now t whole → step s ≡ st → AppendsPrefix now new (viewed v (turn_lines v (step_events st))) → AppendsPrefix old new (view_text v whole)
  cut-short s (goes_on es rs s') g is b = let c = cut-next s s' es g.written g.fuel g.enough g.text (steps s s' es rs is g.page) in cut-on g.written (turn_lines v es) c.0 c.1 g.appended b
  cut-short s (ends es rs e) g is b = let c = cut-last s e es g.written g.fuel g.enough g.text (stops s e es rs is) in cut-on g.written (turn_lines v es) c.0 c.1 g.appended b

-- nothing was written of this turn
pub prefix-now : (v : View) (s : State) (old now : Option (List ℕ)) (t : Totals) (whole : Run) → Going v s old now t whole → AppendsPrefix old now (view_text v whole)
prefix-now v s old now t whole g =
    subst (AppendsPrefix old now) (sym (viewed-append v g.written (tail_lines v whole.events (run_from g.fuel s))) ∙ sym (ap (viewed v) g.text) ∙ viewed-whole v whole)
    (prefix_longer old now (viewed v g.written) (viewed v (tail_lines v whole.events (run_from g.fuel s))) (prefix_whole old now (viewed v g.written) g.appended))

-- ---- the beginning

begins-by : (v : View) (s : State) (old now : Option (List ℕ)) (t : Bool) → int_lt s.params.maxnodes (pos (held_count s)) ≡ t → 1 ≤ s.page → Appends old now (viewed v header)
    → (let whole : Run = (if t then record { events = []; records = []; end = node_limit (held_count s) } else run_from (suc (firings_left s)) s) in
    (t ≡ false → Going v s old now no_totals whole) × (t ≡ true → Closing v (node_limit (held_count s)) old now no_totals whole))
begins-by v s old now true e page a =
    let whole : Run = record { events = []; records = []; end = node_limit (held_count s) } in
    ((λ k. cc), (λ k. record { written = header; appended = a; text = refl; end = refl; totals = refl }))
begins-by v s old now false e page a =
    let whole = run_from (suc (firings_left s)) s in
    ((λ k. record { page = page; written = header; fuel = suc (firings_left s); appended = a; enough = omega arith; text = refl; end = refl; totals = sym (nothing-joined (totals_of whole.events)) }), (λ k. cc))

-- a run from its first state, which is this one
module _ (v : View) (first s : State) (old now : Option (List ℕ)) (is : s ≡ first) (page : first.page ≡ 1) (a : Appends old now (viewed v header)) where
  pages : 1 ≤ s.page
  pages = omega (arith, ap (λ (x : State). x.page) is, page)

  -- it goes on
  pub begins : int_lt s.params.maxnodes (pos (held_count s)) ≡ false → Going v s old now no_totals (run_of_state first)
  begins e = subst (Going v s old now no_totals) (ap (λ t. if t then (let r : Run = record { events = []; records = []; end = node_limit (held_count s) } in r) else run_from (suc (firings_left s)) s) (sym e) ∙ ap (run_of_state) is)
      ((begins-by v s old now false e pages a).0 refl)

  -- too many nodes wait at the start
  pub begins-over : int_lt s.params.maxnodes (pos (held_count s)) ≡ true → Closing v (node_limit (held_count s)) old now no_totals (run_of_state first)
  begins-over e = subst (Closing v (node_limit (held_count s)) old now no_totals) (ap (λ t. if t then (let r : Run = record { events = []; records = []; end = node_limit (held_count s) } in r) else run_from (suc (firings_left s)) s) (sym e) ∙ ap (run_of_state) is)
      ((begins-by v s old now true e pages a).1 refl)

-- ---- the end

module _ (v : View) (old mid new : Option (List ℕ)) (t : Totals) (whole : Run) where
  -- the last lines of a run that ends well
  last-text : (left : List PlainNode) → (c : Closing v (done left) old mid t whole) → view_text v whole ≡ viewed v c.written ++ viewed v (end_lines left t)
  last-text left c = sym (viewed-whole v whole) ∙ ap (viewed v) (c.text ∙ ap (λ u. c.written ++ end_lines left u) c.totals) ∙ viewed-append v c.written (end_lines left t)

  pub done-well : (left : List PlainNode) (u : Totals) → Closing v (done left) old mid t whole → u ≡ t → Appends mid new (viewed v (end_lines left t)) → Paginates v whole old new u
  done-well left u c is b = record {
    ended = ap end_fault c.end;
    totals = is ∙ sym c.totals;
    written = subst (Appends old new) (sym (last-text left c)) (Appends-trans old mid new (viewed v c.written) (viewed v (end_lines left t)) c.appended b);
  }

  pub done-cut : (left : List PlainNode) → Closing v (done left) old mid t whole → AppendsPrefix mid new (viewed v (end_lines left t)) → AppendsPrefix old new (view_text v whole)
  done-cut left c b = prefix_on old mid new (view_text v whole) (viewed v c.written) (viewed v (end_lines left t)) [] c.appended b (last-text left c ∙ ap (λ ls. viewed v c.written ++ ls) (sym (append-nil (viewed v (end_lines left t)))))

  -- a front of the text is there
  pub closing-front : (e : End) → Closing v e old mid t whole → AppendsPrefix old mid (view_text v whole)
  closing-front e c =
      let last = closing_lines e whole.events in
      subst (AppendsPrefix old mid) (sym (viewed-append v c.written last) ∙ sym (ap (viewed v) c.text) ∙ viewed-whole v whole)
      (prefix_longer old mid (viewed v c.written) (viewed v last) (prefix_whole old mid (viewed v c.written) c.appended))

  pub refused-end : (e : End) (f : PageFault) → Closing v e old mid t whole → end_fault e ≡ Some f → closing_lines e whole.events ≡ [] → new ≡ mid → EndsWith v whole old new f
  refused-end e f c fault none same = record {
    ended = ap end_fault c.end ∙ fault;
    written = subst (λ x. Appends old x (view_text v whole)) (sym same)
        (subst (Appends old mid) (sym (sym (viewed-whole v whole) ∙ ap (viewed v) (c.text ∙ ap (λ ls. c.written ++ ls) none ∙ append-nil c.written))) c.appended);
  }

-- a failed write, or no memory, after a prefix
pub refuses-cut : (v : View) (whole : Run) (old new : Option (List ℕ)) (fault : SinkFault) → AppendsPrefix old new (view_text v whole) → Refuses v whole old new (write_fault fault)
refuses-cut v whole old new outputs.Failed b = b
refuses-cut v whole old new outputs.Memory b = b

pub refuses-text : (end : End) (whole : List ℕ) (old new : Option (List ℕ)) (fault : SinkFault) → AppendsPrefix old new whole → RefusesText end whole old new (write_fault fault)
refuses-text end whole old new outputs.Failed b = b
refuses-text end whole old new outputs.Memory b = b

-- a failed write is that of a failed sink
pub failed-write : (fault : SinkFault) → faults.WriteFault ≡ write_fault fault → fault ≡ outputs.Failed
failed-write outputs.Failed is = refl
failed-write outputs.Memory is = cc

-- also if it was returned
pub failed-at : {T : Type 0} (r : Result T PageFault) (fault : SinkFault) → IsErrAnd r (λ e. e ≡ write_fault fault) → r ≡ Err faults.WriteFault → fault ≡ outputs.Failed
failed-at r fault from is = failed-write fault (subst (λ x. IsErrAnd x (λ e. e ≡ write_fault fault)) is from)

pub silent-shown : (v : View) → v ≡ views.Silent → IsShown v → ⊥
silent-shown v s k = subst IsShown s k
