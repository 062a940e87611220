-- What holds of the ends after a refusal and its line, and which status the mode and the input decide.
use Rattle.std.proofs.Common.{◌≡◌, ◌≢◌, ℕ, zero, suc, ◌≤◌, ◌⊎◌, List, [], ◌++◌, length, refl, sym, ◌∙◌, ap, subst, inl, inr, arith, append-nil, length-append, Bool, true, false, nat_lt, Option, None, Some, Ok, Err}
use Rattle.std.specs.Prelude.{IfSome}
use Rattle.std.specs.Io.KnownBytes.{Keeps, Appends}
use Rattle.std.proofs.lemmas.Bool.Decides.{nat_tests}
use Rattle.tb_io.specs.Sink.{AppendsPrefix}
use Rattle.tb_io.specs.declared.sink.SinkFault.{SinkFault}
use Rattle.tb_io.specs.declared.sink.SinkFault.TheVariants as outputs
use Rattle.tb_io.proofs.Appended.{prefix_whole, Keeps-nothing}
use Rattle.tb_galley.specs.declared.Cause.{Cause}
use Rattle.tb_galley.specs.declared.Galley.{Galley}
use Rattle.tb_galley.specs.declared.GalleyFault.{GalleyFault}
use Rattle.tb_galley.specs.declared.GalleyFault.TheVariants as unread
use Rattle.tb_galley.specs.FaultText.{is_range_cause}
use Rattle.tb_galley.specs.Faults.{fault}
use Rattle.tb_galley.specs.Grammar.{grammar, input_limit}
use Rattle.tb_galley.specs.Valid.{IsValid}
use Rattle.tb_galley.specs.CanonicalText.{printed}
use Rattle.tb_lines.specs.declared.LinesRefusal.{LinesRefusal}
use Rattle.tb_lines.specs.declared.LinesRefusal.TheVariants as unbroken
use Rattle.tb_lines.specs.Galley.{faulty, no_breaks, lines_galley, GivesGalley as GivesLines}
use Rattle.tb_lines.proofs.LongTexts.{long_text}
use Rattle.tb_words.specs.declared.Mode.{Mode}
use Rattle.tb_words.specs.declared.Mode.TheVariants as modes
use Rattle.tb_words.specs.declared.WordsFault.{WordsFault}
use Rattle.tb_words.specs.declared.WordsFault.TheVariants as asked
use Rattle.tb_report.specs.declared.Totals.{Totals}
use Rattle.tb_top.specs.declared.PageFault.{PageFault}
use Rattle.tb_top.specs.declared.PageFault.TheVariants as pages
use Rattle.tb_top.specs.declared.View.{View}
use Rattle.tb_top.specs.declared.View.TheVariants as views
use Rattle.tb_top.specs.declared.input.InputFault.{InputFault}
use Rattle.tb_top.specs.declared.input.InputFault.TheVariants as inputs
use Rattle.tb_top.specs.declared.refusal.Refusal.{Refusal}
use Rattle.tb_top.specs.declared.refusal.Refusal.TheVariants as refusals
use Rattle.tb_top.specs.declared.status.Status.{Status}
use Rattle.tb_top.specs.declared.status.Status.TheVariants as answers
use Rattle.tb_generator.specs.GeneratedGalleys.{generated}
use Rattle.tb_steps.specs.Run.{Run, End, done, pool_full, dead_cycles, page_limit, node_limit, run_of}
use Rattle.tb_top.specs.Pages.{view_text, end_fault, EndsWith, Paginates, Refuses}
use Rattle.tb_top.specs.Report.{report, trace}
use Rattle.tb_top.specs.RatedReport.{rated_report}
use Rattle.tb_top.specs.WhyReport.{why_report}
use Rattle.tb_laws.specs.Totals.{totals_of}
use Rattle.tb_laws.specs.Laws.{KeepsLaws}
use Rattle.tb_top.specs.Answer.{Reply, best_reply, dvi_reply, makeup_reply, listing_reply, summary_line, summary_at, answer_at, line_at, answer_for_cause, err_line, bare_text, fault_reply, no_lines_reply, lines_reply, galley_reply, run_reply, text_reply, reply_to}
use Rattle.tb_laws.specs.DviFiles.{is_done}
use Rattle.tb_top.specs.Outcome.{Stream, Failed, Gives, Reads, IsUnread, IsGalleyWith, ShowsRunOf, HasLawfulRun, LacksRoomForCycles, Decided, Finished, OutOfCycles, CutOff, StandsAfter, TellsLine, Says, Outcome, Succeeds, IsGivenUp, IsAnswer, input_of}
use Rattle.tb_top.proofs.Ends.CycleAnswers.{no-room}
use Rattle.tb_top.specs.declared.dvi_refusal.DviRefusal.{DviRefusal}
use Rattle.tb_top.specs.declared.dvi_refusal.DviRefusal.TheVariants as undvi
use Rattle.tb_top.specs.DviRefusal.{dvi_status}
use Rattle.tb_top.specs.Refusal.{galley_status, page_status, lines_status, input_status, words_status, output_status, refusal_status, refusal_line, page_text, IsNoGalley}

-- ---- a run that ended

-- the end of a run that is not refused
pub answer_at-well : (e : End) → end_fault e ≡ None → answers.Done ≡ answer_at e
answer_at-well (done left) is = refl
answer_at-well e is = cc

pub line_at-well : (e : End) → end_fault e ≡ None → [] ≡ line_at e
line_at-well (done left) is = refl
line_at-well e is = cc

-- the refusal of a run has the status and the line of the run's end
pub page_status-ended : (e : End) (f : PageFault) → end_fault e ≡ Some f → page_status f ≡ answer_at e
page_status-ended (done left) f is = cc
page_status-ended (pool_full line live) f is = let same : pages.PoolFull line live ≡ f = cc in rw (← same) refl
page_status-ended (dead_cycles n) f is = let same : pages.DeadCycles n ≡ f = cc in rw (← same) refl
page_status-ended (page_limit n) f is = let same : pages.PageLimit n ≡ f = cc in rw (← same) refl
page_status-ended (node_limit n) f is = let same : pages.NodeLimit n ≡ f = cc in rw (← same) refl

pub page_text-ended : (e : End) (f : PageFault) → end_fault e ≡ Some f → err_line (page_text f) ≡ line_at e
page_text-ended (done left) f is = cc
page_text-ended (pool_full line live) f is = let same : pages.PoolFull line live ≡ f = cc in rw (← same) refl
page_text-ended (dead_cycles n) f is = let same : pages.DeadCycles n ≡ f = cc in rw (← same) refl
page_text-ended (page_limit n) f is = let same : pages.PageLimit n ≡ f = cc in rw (← same) refl
page_text-ended (node_limit n) f is = let same : pages.NodeLimit n ≡ f = cc in rw (← same) refl

module _ (m : Mode) (input : List ℕ) (source out : Stream) (read : Reads m source input) where
  pub decided_by : (answer : Status) (line : List ℕ) (r : Reply) → reply_to m input ≡ r → answer ≡ r.answer → line ≡ r.line → Appends out.before out.after r.written → Decided (Some m) answer source out line
  decided_by answer line r is a l w = record { mode = m; asked_for = refl; input = input; read = read; answered = rw is a; written = rw is w; told = rw is l }

  -- with what holds of the galley whose run is shown
  pub shown_by : (P : Galley → Type 0) → ShowsRunOf P m input → (answer : Status) (line : List ℕ) (r : Reply) → reply_to m input ≡ r → answer ≡ r.answer → line ≡ r.line → Appends out.before out.after r.written
      → (d : Decided (Some m) answer source out line) × ShowsRunOf P d.mode d.input
  unfolding decided_by
  shown_by P h answer line r is a l w = (decided_by answer line r is a l w, h)

  pub cut_off_by : (r : Reply) → reply_to m input ≡ r → r.writes ≡ true → AppendsPrefix out.before out.after r.written → CutOff (Some m) source out
  cut_off_by r is w part = record { mode = m; asked_for = refl; input = input; read = read; writes = rw is w; written = rw is part }

  module _ (v : View) (g : Galley) (is : reply_to m input ≡ run_reply (view_text v (run_of g)) (run_of g)) (shows : (P : Galley → Type 0) → P g → ShowsRunOf P m input) where
    -- what holds if `paginate` returns Ok
    pub pages_well : (t : Totals) → Paginates v (run_of g) out.before out.after t → KeepsLaws g t → Finished (Some m) source out []
    pages_well t p laws =
        shown_by HasLawfulRun (shows HasLawfulRun (subst (KeepsLaws g) p.totals laws)) answers.Done [] _ is (answer_at-well (run_of g).end p.ended) (line_at-well (run_of g).end p.ended) p.written

    pages_ended : (f : PageFault) → EndsWith v (run_of g) out.before out.after f → Decided (Some m) (page_status f) source out (err_line (page_text f))
    pages_ended f r = decided_by _ _ _ is (page_status-ended (run_of g).end f r.ended) (page_text-ended (run_of g).end f r.ended) r.written

    out_of_cycles : IsValid g → (n : ℕ) → EndsWith v (run_of g) out.before out.after (pages.DeadCycles n) → OutOfCycles (Some m) source out (err_line (page_text (pages.DeadCycles n)))
    out_of_cycles valid n r =
        shown_by LacksRoomForCycles (shows LacksRoomForCycles (no-room g valid v out.before out.after n r)) answers.DeadCycles (err_line (page_text (pages.DeadCycles n))) _ is
        (page_status-ended (run_of g).end (pages.DeadCycles n) r.ended) (page_text-ended (run_of g).end (pages.DeadCycles n) r.ended) r.written

    -- what holds after a refusal of `paginate`
    pub left_by_pages : IsValid g → (f : PageFault) → Refuses v (run_of g) out.before out.after f → (f ≡ pages.WriteFault → Failed out) → StandsAfter (Some m) (page_status f) source out (err_line (page_text f))
    left_by_pages valid (pages.DeadCycles n) r rose = out_of_cycles valid n r
    left_by_pages valid pages.WriteFault r rose = (cut_off_by _ is refl r, rose refl, refl)
    left_by_pages valid pages.Memory r rose = (inr (cut_off_by _ is refl r), refl)
    left_by_pages valid f r rose = pages_ended f r

  module _ (text : List ℕ) (is : reply_to m input ≡ text_reply text) where
    -- what holds if a text was written, or not
    pub text_well : Appends out.before out.after text → ShowsRunOf HasLawfulRun m input → Finished (Some m) source out []
    text_well w laws = shown_by HasLawfulRun laws answers.Done [] _ is refl refl w

    pub left_by_text : (f : SinkFault) → AppendsPrefix out.before out.after text → (f ≡ outputs.Failed → Failed out) → StandsAfter (Some m) (output_status f) source out (err_line (bare_text (output_status f)))
    left_by_text outputs.Failed w rose = (cut_off_by _ is refl w, rose refl, refl)
    left_by_text outputs.Memory w rose = (inr (cut_off_by _ is refl w), refl)

-- a galley that was read, and what holds of it
pub galley_with : (input : List ℕ) (g : Galley) → grammar input ≡ Ok g → (P : Galley → Type 0) → P g → IsGalleyWith P input
galley_with input g is P h = record { galley = g; parsed = is; holds = h }

-- what stays has grown by nothing
pub nothing : (before after : Option (List ℕ)) → Keeps before after → Appends before after []
nothing None after kept = tt
nothing (Some xs) None kept = absurd kept
nothing (Some xs) (Some ys) kept = kept ∙ sym (append-nil xs)

-- what holds if the words ask for no mode
pub left_by_words : (mode : Option Mode) (source out : Stream) → Keeps source.before source.after → Keeps out.before out.after → (f : WordsFault) → (f ≡ asked.Refused → mode ≡ None) → StandsAfter mode (words_status f) source out (refusal_line (refusals.Words f))
left_by_words mode source out left held asked.Refused none = (record { none = none refl; read = left; written = held }, refl)
left_by_words mode source out left held asked.Memory none = (inl held, refl)

-- ---- modes that read a galley

-- what such a mode makes of a galley
pub record ReadsGalleys (m : Mode) (reply : Galley → Reply) : Type 0 where
  pub reads : (s : Stream) (input : List ℕ) → Gives s.before s.after input → Reads m s input
  pub unread : (s : Stream) → Failed s → IsUnread m s
  pub replies : (input : List ℕ) → reply_to m input ≡ galley_reply reply (grammar input)

pub report_reads : ReadsGalleys modes.Report (λ g. run_reply (report (run_of g)) (run_of g))
report_reads = record { reads = λ s input g. g; unread = λ s f. f; replies = λ input. refl }

pub trace_reads : ReadsGalleys modes.Trace (λ g. run_reply (trace (run_of g)) (run_of g))
trace_reads = record { reads = λ s input g. g; unread = λ s f. f; replies = λ input. refl }

pub rate_reads : ReadsGalleys modes.Rate (λ g. run_reply (rated_report g) (run_of g))
rate_reads = record { reads = λ s input g. g; unread = λ s f. f; replies = λ input. refl }

pub why_reads : ReadsGalleys modes.Why (λ g. run_reply (why_report g) (run_of g))
why_reads = record { reads = λ s input g. g; unread = λ s f. f; replies = λ input. refl }

pub best_reads : ReadsGalleys modes.Best best_reply
best_reads = record { reads = λ s input g. g; unread = λ s f. f; replies = λ input. refl }

pub print_reads : ReadsGalleys modes.Print (λ g. text_reply (printed g))
print_reads = record { reads = λ s input g. g; unread = λ s f. f; replies = λ input. refl }

pub dvi_reads : ReadsGalleys modes.Dvi (λ g. dvi_reply g.params.textheight (run_of g))
dvi_reads = record { reads = λ s input g. g; unread = λ s f. f; replies = λ input. refl }

pub makeup_reads : ReadsGalleys modes.Plain makeup_reply
makeup_reads = record { reads = λ s input g. g; unread = λ s f. f; replies = λ input. refl }

pub replies_to : (m : Mode) (reply : Galley → Reply) → ReadsGalleys m reply → (input : List ℕ) (g : Galley) → grammar input ≡ Ok g → reply_to m input ≡ reply g
replies_to m reply mode input g is = mode.replies input ∙ ap (galley_reply reply) is

-- what an input decides that has a fault
fault_status : (m : Mode) (source out : Stream) (range : Bool) (c : Cause) (line : List ℕ) → is_range_cause c ≡ range → Decided (Some m) (answer_for_cause c) source out line → StandsAfter (Some m) (answer_for_cause c) source out line
fault_status m source out true c line is d = rw is (rw is at d)
fault_status m source out false c line is d = rw is (rw is at d)

module _ (m : Mode) (reply : Galley → Reply) (mode : ReadsGalleys m reply) (source out : Stream) where
  -- what holds if there is no galley
  pub left_by_reading : Keeps out.before out.after → (r : Refusal) → IsNoGalley source r → StandsAfter (Some m) (refusal_status r) source out (refusal_line r)
  left_by_reading kept (refusals.Input inputs.Failed) missing = (record { mode = m; asked_for = refl; failed = mode.unread source missing; written = kept }, refl)
  left_by_reading kept (refusals.Input inputs.Memory) missing = (inl kept, refl)
  left_by_reading kept (refusals.Galley (unread.At f)) missing =
      fault_status m source out (is_range_cause f.cause) f.cause (refusal_line (refusals.Galley (unread.At f))) refl
      (decided_by m missing.0 source out (mode.reads source missing.0 missing.1) _ _ (fault_reply f) (mode.replies missing.0 ∙ ap (galley_reply reply) missing.2) refl refl (nothing out.before out.after kept))
  left_by_reading kept (refusals.Galley unread.Memory) missing = (inl kept, refl)
  left_by_reading kept refusals.Memory missing = (inl kept, refl)
  left_by_reading kept r missing = absurd missing

-- ---- the mode that runs a generated galley

prefix-nothing : (old new : Option (List ℕ)) → AppendsPrefix old new [] → Appends old new []
prefix-nothing old new (zero, a) = a
prefix-nothing old new (suc n, a) = a

module _ (n : ℕ) (source out : Stream) (left : Keeps source.before source.after) where
  abbrev run_made : Run
  run_made = run_of (generated n)

  summary-read : Reads (modes.Generate n) source []
  summary-read = (left, refl)

  none-written : (e : End) (t : Totals) (f : PageFault) → end_fault e ≡ Some f → summary_at n t e ≡ []
  none-written (done l) t f is = cc
  none-written e t f is = refl

  nothing-written : (f : PageFault) → EndsWith views.Silent run_made out.before out.after f → Appends out.before out.after (summary_at n (totals_of run_made.events) run_made.end)
  nothing-written f r = subst (Appends out.before out.after) (sym (none-written run_made.end (totals_of run_made.events) f r.ended)) r.written

  summary-ended : (f : PageFault) → EndsWith views.Silent run_made out.before out.after f → Decided (Some (modes.Generate n)) (page_status f) source out (err_line (page_text f))
  summary-ended f r =
      decided_by (modes.Generate n) [] source out summary-read _ _ _ refl (page_status-ended run_made.end f r.ended) (page_text-ended run_made.end f r.ended) (nothing-written f r)

  out-of-cycles-made : IsValid (generated n) → (k : ℕ) → EndsWith views.Silent run_made out.before out.after (pages.DeadCycles k) → OutOfCycles (Some (modes.Generate n)) source out (err_line (page_text (pages.DeadCycles k)))
  out-of-cycles-made valid k r =
      shown_by (modes.Generate n) [] source out summary-read LacksRoomForCycles (no-room (generated n) valid views.Silent out.before out.after k r) answers.DeadCycles (err_line (page_text (pages.DeadCycles k))) _ refl
      (page_status-ended run_made.end (pages.DeadCycles k) r.ended) (page_text-ended run_made.end (pages.DeadCycles k) r.ended) (nothing-written (pages.DeadCycles k) r)

  -- what holds if the run is refused; it writes nothing
  pub left_by_run : IsValid (generated n) → (f : PageFault) → Refuses views.Silent run_made out.before out.after f → (f ≡ pages.WriteFault → ⊥) → StandsAfter (Some (modes.Generate n)) (page_status f) source out (err_line (page_text f))
  left_by_run valid (pages.DeadCycles k) r never = out-of-cycles-made valid k r
  left_by_run valid pages.WriteFault r never = absurd (never refl)
  left_by_run valid pages.Memory r never = (inl (Keeps-nothing out.before out.after (prefix-nothing out.before out.after r)), refl)
  left_by_run valid f r never = summary-ended f r

  well-written : (e : End) (t : Totals) → end_fault e ≡ None → (summary_at n t e ≡ summary_line n t) × (is_done e ≡ true) × (answers.Done ≡ answer_at e) × ([] ≡ line_at e)
  well-written (done l) t is = (refl, refl, refl, refl)
  well-written e t is = cc

  module _ (ended : end_fault run_made.end ≡ None) where
    -- what holds if the line was written, or not
    pub summary_well : HasLawfulRun (generated n) → Appends out.before out.after (summary_line n (totals_of run_made.events)) → Finished (Some (modes.Generate n)) source out []
    summary_well laws a =
        let w = well-written run_made.end (totals_of run_made.events) ended in
        shown_by (modes.Generate n) [] source out summary-read HasLawfulRun laws answers.Done [] _ refl w.2 w.3 (subst (Appends out.before out.after) (sym w.0) a)

    left_by_fault : (f : SinkFault) → (f ≡ outputs.Failed → Failed out) → CutOff (Some (modes.Generate n)) source out → StandsAfter (Some (modes.Generate n)) (output_status f) source out (err_line (bare_text (output_status f)))
    left_by_fault outputs.Failed rose c = (c, rose refl, refl)
    left_by_fault outputs.Memory rose c = (inr c, refl)

    pub left_by_summary : (f : SinkFault) → AppendsPrefix out.before out.after (summary_line n (totals_of run_made.events)) → (f ≡ outputs.Failed → Failed out) → StandsAfter (Some (modes.Generate n)) (output_status f) source out (err_line (bare_text (output_status f)))
    left_by_summary f a rose =
        let w = well-written run_made.end (totals_of run_made.events) ended in
        left_by_fault f rose (cut_off_by (modes.Generate n) [] source out summary-read _ refl w.1 (subst (AppendsPrefix out.before out.after) (sym w.0) a))

-- ---- lines

module _ (input : List ℕ) (source out : Stream) (read : Gives source.before source.after input) where
  -- what holds if a text has no galley of lines
  pub left_by_lines : Keeps out.before out.after → (f : LinesRefusal) → GivesLines (Err f) (lines_galley input) → StandsAfter (Some modes.Lines) (lines_status f) source out (refusal_line (refusals.Lines f))
  left_by_lines kept (unbroken.At line field cause) h =
      fault_status modes.Lines source out (is_range_cause cause) cause (refusal_line (refusals.Lines (unbroken.At line field cause))) refl
      (decided_by modes.Lines input source out read _ _ (no_lines_reply (faulty (fault line field cause))) (ap lines_reply h) refl refl (nothing out.before out.after kept))
  left_by_lines kept (unbroken.NoBreaks n) h =
      decided_by modes.Lines input source out read _ _ (no_lines_reply (no_breaks n)) (ap lines_reply h) refl refl (nothing out.before out.after kept)
  left_by_lines kept unbroken.Memory h = (inl kept, refl)

-- what holds if a text was not read
pub left_unread : (m : Mode) (source out : Stream) → (Failed source → IsUnread m source) → Keeps out.before out.after → (f : InputFault) → (f ≡ inputs.Failed → Failed source) → StandsAfter (Some m) (input_status f) source out (refusal_line (refusals.Input f))
left_unread m source out unread kept inputs.Failed rose = (record { mode = m; asked_for = refl; failed = unread (rose refl); written = kept }, refl)
left_unread m source out unread kept inputs.Memory rose = (inl kept, refl)

-- ---- the line of a refusal

answer_for_cause-refused : (range : Bool) (c : Cause) → is_range_cause c ≡ range → answer_for_cause c ≢ answers.Done
answer_for_cause-refused true c is = rw is (λ same. cc)
answer_for_cause-refused false c is = rw is (λ same. cc)

galley_status-refused : (f : GalleyFault) → galley_status f ≢ answers.Done
galley_status-refused (unread.At f) = answer_for_cause-refused (is_range_cause f.cause) f.cause refl
galley_status-refused unread.Memory = λ same. cc

page_status-refused : (f : PageFault) → page_status f ≢ answers.Done
page_status-refused (pages.PoolFull line live) = λ same. cc
page_status-refused f = λ same. cc

lines_status-refused : (f : LinesRefusal) → lines_status f ≢ answers.Done
lines_status-refused (unbroken.At line field cause) = answer_for_cause-refused (is_range_cause cause) cause refl
lines_status-refused (unbroken.NoBreaks n) = λ same. cc
lines_status-refused unbroken.Memory = λ same. cc

input_status-refused : (f : InputFault) → input_status f ≢ answers.Done
input_status-refused inputs.Failed = λ same. cc
input_status-refused inputs.Memory = λ same. cc

words_status-refused : (f : WordsFault) → words_status f ≢ answers.Done
words_status-refused asked.Refused = λ same. cc
words_status-refused asked.Memory = λ same. cc

output_status-refused : (f : SinkFault) → output_status f ≢ answers.Done
output_status-refused outputs.Failed = λ same. cc
output_status-refused outputs.Memory = λ same. cc

dvi_status-refused : (f : DviRefusal) → dvi_status f ≢ answers.Done
dvi_status-refused (undvi.TooFar page) = λ same. cc
dvi_status-refused (undvi.At byte cause) = λ same. cc

-- no refusal has the status Done
pub refusal_status-refused : (r : Refusal) → refusal_status r ≢ answers.Done
refusal_status-refused (refusals.Words f) = words_status-refused f
refusal_status-refused (refusals.Output f) = output_status-refused f
refusal_status-refused refusals.Memory = λ same. cc
refusal_status-refused (refusals.Input f) = input_status-refused f
refusal_status-refused (refusals.Galley f) = galley_status-refused f
refusal_status-refused (refusals.Pages f) = page_status-refused f
refusal_status-refused (refusals.Lines f) = lines_status-refused f
refusal_status-refused (refusals.Dvi f) = dvi_status-refused f
refusal_status-refused (refusals.Unsuited n) = λ same. cc
refusal_status-refused refusals.Choices = λ same. cc

prefix_told : (line : List ℕ) (err : Stream) → TellsLine line err → AppendsPrefix err.before err.after line
prefix_told line err (inl all) = prefix_whole err.before err.after line all
prefix_told line err (inr part) = part.1

module _ (asked : Option Mode) (source out err : Stream) (line : List ℕ) where
  -- a refusal whose line was written
  stays : (status : Status) → status ≢ answers.Done → StandsAfter asked status source out line → TellsLine line err → Outcome asked status source out err
  stays answers.Done ne left told = absurd (ne refl)
  stays answers.Memory ne left told = record { refusal = answers.Memory; refused = ne; line = line; stands = left; told = prefix_told line err told }
  stays status ne left told = (line, left, told)

  -- the outcome of a refusal, whatever became of its line
  pub Outcome-said : (status answer : Status) → status ≢ answers.Done → StandsAfter asked status source out line → Says status line answer err → Outcome asked answer source out err
  Outcome-said status answer ne left (inl same) = rw (same.0) (stays status ne left same.1)
  Outcome-said status answer ne left (inr want) =
      rw (want.0) (record { refusal = status; refused = ne; line = line; stands = left; told = want.1 })

-- ---- the status that the mode and the input decide

-- all inputs that are too long have one fault
grammar-long : (a b : List ℕ) → nat_lt input_limit (length a) ≡ true → nat_lt input_limit (length b) ≡ true → grammar a ≡ grammar b
unfolding grammar
grammar-long a b is also = rw (is, also) refl

-- what was read and what was left have one galley or fault
grammar-read : (long : Bool) (input rest : List ℕ) → nat_lt input_limit (length input) ≡ long → (length input ≤ input_limit → rest ≡ []) → grammar input ≡ grammar (input ++ rest)
grammar-read true input rest is ended =
    let long : nat_lt input_limit (length (input ++ rest)) ≡ true = simp length-append (grind (arith, nat_tests)) in
    grammar-long input (input ++ rest) is long
grammar-read false input rest is ended =
    let short : length input ≤ input_limit = grind (arith, nat_tests) in
    rw (ended short, append-nil) refl

-- a status that what was read decides is that of what was left
galley_answer : (G : Type 0) (reply : Galley → Reply) (status : Status) (before after : Option (List ℕ)) (input : List ℕ) → Gives before after input → status ≡ (galley_reply reply (grammar input)).answer
    → IfSome before (λ left. (status ≡ (galley_reply reply (grammar left)).answer) ⊎ (status ≡ answers.Memory) ⊎ G)
galley_answer G reply status None after input g is = tt
galley_answer G reply status (Some xs) None input g is = absurd g.given
galley_answer G reply status (Some xs) (Some ys) input g is =
    let one = grammar-read (nat_lt input_limit (length input)) input ys refl g.ended in
    inl (is ∙ ap (λ r. (galley_reply reply r).answer) (one ∙ ap grammar (sym g.given)))

-- what was read and what was left have one galley of lines, or one cause that there is none
lines-read : (long : Bool) (input rest : List ℕ) → nat_lt input_limit (length input) ≡ long → (length input ≤ input_limit → rest ≡ []) → lines_galley input ≡ lines_galley (input ++ rest)
lines-read true input rest is ended =
    let long : nat_lt input_limit (length (input ++ rest)) ≡ true = simp length-append (grind (arith, nat_tests)) in
    long_text input is ∙ sym (long_text (input ++ rest) long)
lines-read false input rest is ended =
    let short : length input ≤ input_limit = grind (arith, nat_tests) in
    rw (ended short, append-nil) refl

lines_answer : (G : Type 0) (status : Status) (before after : Option (List ℕ)) (input : List ℕ) → Gives before after input → status ≡ (lines_reply (lines_galley input)).answer
    → IfSome before (λ left. (status ≡ (lines_reply (lines_galley left)).answer) ⊎ (status ≡ answers.Memory) ⊎ G)
lines_answer G status None after input g is = tt
lines_answer G status (Some xs) None input g is = absurd g.given
lines_answer G status (Some xs) (Some ys) input g is =
    let one = lines-read (nat_lt input_limit (length input)) input ys refl g.ended in
    inl (is ∙ ap (λ r. (lines_reply r).answer) (one ∙ ap lines_galley (sym g.given)))

-- what was read and what was left have one listing
listing-read : (long : Bool) (input rest : List ℕ) → nat_lt input_limit (length input) ≡ long → (length input ≤ input_limit → rest ≡ []) → listing_reply input ≡ listing_reply (input ++ rest)
listing-read true input rest is ended =
    let long : nat_lt input_limit (length (input ++ rest)) ≡ true = simp length-append (grind (arith, nat_tests)) in
    rw (is, long) refl
listing-read false input rest is ended =
    let short : length input ≤ input_limit = grind (arith, nat_tests) in
    rw (ended short, append-nil) refl

listing_answer : (G : Type 0) (status : Status) (before after : Option (List ℕ)) (input : List ℕ) → Gives before after input → status ≡ (listing_reply input).answer → IfSome before (λ left. (status ≡ (listing_reply left).answer) ⊎ (status ≡ answers.Memory) ⊎ G)
listing_answer G status None after input g is = tt
listing_answer G status (Some xs) None input g is = absurd g.given
listing_answer G status (Some xs) (Some ys) input g is =
    let one = listing-read (nat_lt input_limit (length input)) input ys refl g.ended in
    inl (is ∙ ap (λ (r : Reply). r.answer) (one ∙ ap listing_reply (sym g.given)))

IsAnswer-given : (m : Mode) (status : Status) (source : Stream) (input : List ℕ) → Reads m source input → status ≡ (reply_to m input).answer → IsAnswer m status source.before
IsAnswer-given modes.Report status source input g is = galley_answer (IsGivenUp modes.Report status) (λ g. run_reply (report (run_of g)) (run_of g)) status source.before source.after input g is
IsAnswer-given modes.Trace status source input g is = galley_answer (IsGivenUp modes.Trace status) (λ g. run_reply (trace (run_of g)) (run_of g)) status source.before source.after input g is
IsAnswer-given modes.Rate status source input g is = galley_answer (IsGivenUp modes.Rate status) (λ g. run_reply (rated_report g) (run_of g)) status source.before source.after input g is
IsAnswer-given modes.Why status source input g is = galley_answer (IsGivenUp modes.Why status) (λ g. run_reply (why_report g) (run_of g)) status source.before source.after input g is
IsAnswer-given modes.Best status source input g is = galley_answer (IsGivenUp modes.Best status) best_reply status source.before source.after input g is
IsAnswer-given modes.Print status source input g is = galley_answer (IsGivenUp modes.Print status) (λ g. text_reply (printed g)) status source.before source.after input g is
IsAnswer-given modes.Lines status source input g is = lines_answer (IsGivenUp modes.Lines status) status source.before source.after input g is
IsAnswer-given modes.Dvi status source input g is = galley_answer (IsGivenUp modes.Dvi status) (λ g. dvi_reply g.params.textheight (run_of g)) status source.before source.after input g is
IsAnswer-given modes.DviList status source input g is = listing_answer (IsGivenUp modes.DviList status) status source.before source.after input g is
IsAnswer-given modes.Plain status source input g is = galley_answer (IsGivenUp modes.Plain status) makeup_reply status source.before source.after input g is
IsAnswer-given (modes.Generate n) status source input g is = inl is

some_memory : (left : Option (List ℕ)) (P : List ℕ → Type 0) (G : Type 0) → IfSome left (λ input. P input ⊎ (answers.Memory ≡ answers.Memory) ⊎ G)
some_memory None P G = tt
some_memory (Some xs) P G = inr (inl refl)

some_given_up : (left : Option (List ℕ)) (P Q : List ℕ → Type 0) (G : Type 0) → G → IfSome left (λ input. P input ⊎ Q input ⊎ G)
some_given_up None P Q G h = tt
some_given_up (Some xs) P Q G h = inr (inr h)

module _ (asked : Option Mode) (m : Mode) (source out : Stream) (well : Succeeds asked m source out) where
  IsAnswer-memory : IsAnswer m answers.Memory source.before
  IsAnswer-memory = some_memory (input_of m source.before) (λ input. answers.Memory ≡ (reply_to m input).answer) (IsGivenUp m answers.Memory)

  same_mode : (n : Mode) → asked ≡ Some n → n ≡ m
  same_mode n is = let two : Some n ≡ Some m = sym is ∙ well.asked_for in cc

  IsAnswer-decided : (status : Status) (line : List ℕ) → Decided asked status source out line → IsAnswer m status source.before
  IsAnswer-decided status line d = subst (λ (n : Mode). IsAnswer n status source.before) (same_mode d.mode d.asked_for) (IsAnswer-given d.mode status source d.input d.read d.answered)

  -- if neither the source nor out failed
  pub IsAnswer-stands : (status : Status) (line : List ℕ) → StandsAfter asked status source out line → IsAnswer m status source.before
  IsAnswer-stands answers.Words line left = let no : Some m ≡ None = sym well.asked_for ∙ left.0.none in cc
  IsAnswer-stands answers.ReadFault line left = absurd (well.read (subst (λ (n : Mode). IsUnread n source) (same_mode left.0.mode left.0.asked_for) left.0.failed))
  IsAnswer-stands answers.WriteFault line left = absurd (well.written left.1)
  IsAnswer-stands answers.Memory line left = IsAnswer-memory
  IsAnswer-stands answers.Done line left = IsAnswer-decided answers.Done line left.0
  IsAnswer-stands answers.Choices line left =
      some_given_up (input_of m source.before) (λ input. answers.Choices ≡ (reply_to m input).answer) (λ input. answers.Choices ≡ answers.Memory) (IsGivenUp m answers.Choices) (sym (same_mode modes.Best left.0.asked_for), refl)
  IsAnswer-stands answers.DeadCycles line left = IsAnswer-decided answers.DeadCycles line left.0
  IsAnswer-stands status line left = IsAnswer-decided status line left

  pub IsAnswer-said : (status answer : Status) (line : List ℕ) (err : Stream) → StandsAfter asked status source out line → Says status line answer err → IsAnswer m answer source.before
  IsAnswer-said status answer line err left (inl same) = rw (same.0) (IsAnswer-stands status line left)
  IsAnswer-said status answer line err left (inr want) = rw (want.0) IsAnswer-memory
