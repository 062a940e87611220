-- What a mode and an input decide if no end fails and there is enough memory: the status, what is written, and the line on err.
use Rattle.std.specs.Prelude.{ℕ, ℤ, nat_lt, Bool, true, false, List, [], ◌∷◌, ◌++◌, length, codes, decimal, Option, Some, None, Result, Ok, Err, if◌then◌else◌}
use Rattle.tb_galley.specs.declared.Cause.{Cause}
use Rattle.tb_galley.specs.declared.Fault.{Fault}
use Rattle.tb_galley.specs.declared.Galley.{Galley}
use Rattle.tb_galley.specs.FaultText.{is_range_cause, fault_text}
use Rattle.tb_galley.specs.Grammar.{grammar, input_limit}
use Rattle.tb_galley.specs.Faults.{fault}
use Rattle.tb_galley.specs.declared.Cause.TheVariants as causes
use Rattle.tb_galley.specs.CanonicalText.{printed}
use Rattle.tb_report.specs.declared.Totals.{Totals}
use Rattle.tb_text.specs.Fields.{and_count, line}
use Rattle.tb_generator.specs.GeneratedGalleys.{generated}
use Rattle.tb_lines.specs.Galley.{NoGalley, faulty, no_breaks, lines_galley}
use Rattle.tb_lines.specs.RefusalText.{no_galley_text}
use Rattle.tb_plain.specs.Run.{MakeupRun, MakeupEnd, done as made, page_limit as at_pages, node_limit as at_nodes, makeup_of}
use Rattle.tb_plain.specs.Report.{makeup_report, unsuited_text}
use Rattle.tb_plain.specs.Suitability.{first_unsuited}
use Rattle.tb_dvi.specs.declared.DviCause.{DviCause}
use Rattle.tb_dvi.specs.File.{first_too_far}
use Rattle.tb_dvi.specs.Machine.{Item, Fault as Failure, listed}
use Rattle.tb_dvi.specs.Listing.{listing}
use Rattle.tb_dvi.specs.Refusal.{cause_line, far_line}
use Rattle.tb_words.specs.declared.Mode.{Mode}
use Rattle.tb_words.specs.declared.Mode.TheVariants as modes
use Rattle.tb_top.specs.declared.status.Status.{Status}
use Rattle.tb_top.specs.declared.status.Status.TheVariants as answers
use Rattle.tb_steps.specs.Run.{Run, End, done, pool_full, dead_cycles, page_limit, node_limit, run_of}
use Rattle.tb_top.specs.Report.{report, trace}
use Rattle.tb_top.specs.RatedReport.{rated_report}
use Rattle.tb_top.specs.WhyReport.{why_report}
use Rattle.tb_best.specs.BestOf.{RatedPlan, best_of}
use Rattle.tb_top.specs.BestReport.{run_with, best_report}
use Rattle.tb_laws.specs.Totals.{totals_of}
use Rattle.tb_laws.specs.DviPages.{run_pages}
use Rattle.tb_laws.specs.DviFiles.{is_done, dvi_file}

-- ---- the status

-- a fault of a galley or of a text of paragraphs is one of syntax or one of range
abbrev pub answer_for_cause : Cause → Status
answer_for_cause c = if is_range_cause c then answers.Range else answers.Syntax

-- the status if a text has no galley of lines
abbrev pub answer_without : NoGalley → Status
answer_without (faulty f) = answer_for_cause f.cause
answer_without (no_breaks n) = answers.NoBreaks

-- the status of a run that ends so
abbrev pub answer_at : End → Status
answer_at (done left) = answers.Done
answer_at (pool_full line live) = answers.PoolFull
answer_at (dead_cycles n) = answers.DeadCycles
answer_at (page_limit n) = answers.PageLimit
answer_at (node_limit n) = answers.NodeLimit

-- the status of a run of the page makeup that ends so
abbrev pub makeup_answer : MakeupEnd → Status
makeup_answer made = answers.Done
makeup_answer (at_pages n) = answers.PageLimit
makeup_answer (at_nodes n) = answers.NodeLimit

-- ---- the line on err

-- a line of the program on err
abbrev pub err_line : List ℕ → List ℕ
err_line text = codes "galley_pages: " ++ (text ++ 10 ∷ [])

-- a float or marginal note was taken while this many boxes were live
abbrev pub pool_full_text : ℕ → ℕ → List ℕ
pool_full_text line live = codes "line " ++ (decimal line ++ (codes ": float pool full at " ++ decimal live))

-- the page fired after this many firings without a page
abbrev pub dead_cycles_text : ℕ → List ℕ
dead_cycles_text n = codes "dead cycles " ++ decimal n

-- a page was to be shipped after this many pages
abbrev pub page_limit_text : ℕ → List ℕ
page_limit_text n = codes "page limit " ++ decimal n

-- this many nodes were held
abbrev pub node_limit_text : ℕ → List ℕ
node_limit_text n = codes "node limit at " ++ decimal n

-- the search for the best pages came to too many states
abbrev pub choices_text : List ℕ
choices_text = codes "more than 1000000 states"

-- the line for a run that ends so; a run that ends well has none
abbrev pub line_at : End → List ℕ
line_at (done left) = []
line_at (pool_full line live) = err_line (pool_full_text line live)
line_at (dead_cycles n) = err_line (dead_cycles_text n)
line_at (page_limit n) = err_line (page_limit_text n)
line_at (node_limit n) = err_line (node_limit_text n)

-- the line for a run of the page makeup that ends so; a run that ends well has none
abbrev pub makeup_line : MakeupEnd → List ℕ
makeup_line made = []
makeup_line (at_pages n) = err_line (page_limit_text n)
makeup_line (at_nodes n) = err_line (node_limit_text n)

-- ---- the lines of the statuses that the input does not decide

-- the text of a status that shows no number: words that ask for no mode, a fault of an end, or no memory
abbrev pub bare_text : Status → List ℕ
bare_text answers.Words = codes "words refused"
bare_text answers.ReadFault = codes "read fault"
bare_text answers.WriteFault = codes "write fault"
bare_text _ = codes "out of memory"

-- words after the program's name
abbrev pub words_line : List ℕ
words_line = err_line (bare_text answers.Words)

-- the source failed
abbrev pub read_fault_line : List ℕ
read_fault_line = err_line (bare_text answers.ReadFault)

-- the sink of the report failed
abbrev pub write_fault_line : List ℕ
write_fault_line = err_line (bare_text answers.WriteFault)

-- the search for the best pages was given up
abbrev pub choices_line : List ℕ
choices_line = err_line choices_text

-- there was no memory
abbrev pub memory_line : List ℕ
memory_line = err_line (bare_text answers.Memory)

-- ---- what a mode makes of what it reads

-- the status, what is written, the line on standard error, and whether anything is to be written
pub record Reply : Type 0 where
  pub answer : Status
  pub written : List ℕ
  pub line : List ℕ
  pub writes : Bool

-- the reply to a galley with this first fault
abbrev pub fault_reply : Fault → Reply
fault_reply f = record { answer = answer_for_cause f.cause; written = []; line = err_line (fault_text f); writes = false }

-- the reply of a run, with what is written of it
abbrev pub run_reply : List ℕ → Run → Reply
run_reply text r = record { answer = answer_at r.end; written = text; line = line_at r.end; writes = true }

-- the reply that writes this text and shows no run
abbrev pub text_reply : List ℕ → Reply
text_reply text = record { answer = answers.Done; written = text; line = []; writes = true }

-- the line about the run of a generated galley
abbrev pub summary_line : ℕ → Totals → List ℕ
summary_line n t = line (codes "gen" ++ and_count n ++ codes " pages" ++ and_count t.pages ++ codes " boxes" ++ and_count t.boxes ++ codes " floats" ++ and_count t.floats ++ codes " warnings" ++ and_count t.warnings)

-- what is written about a run that ends so: nothing if it is refused
abbrev pub summary_at : ℕ → Totals → End → List ℕ
summary_at n t (done left) = summary_line n t
summary_at n t _ = []

-- the reply of the run of a generated galley
abbrev pub summary_reply : ℕ → Run → Reply
summary_reply n r = record { answer = answer_at r.end; written = summary_at n (totals_of r.events) r.end; line = line_at r.end; writes = is_done r.end }

-- the reply of a run that writes its text if it ends well, and else nothing
abbrev pub whole_reply : List ℕ → Run → Reply
whole_reply text r = let written = if is_done r.end then text else [] in record { answer = answer_at r.end; written = written; line = line_at r.end; writes = is_done r.end }

-- the reply to a galley whose run ends well, by its best plan
abbrev pub best_reply_by : Galley → Option RatedPlan → Reply
best_reply_by g None = whole_reply [] (run_of g)
best_reply_by g (Some w) = whole_reply (best_report g w) (run_with g w)

-- the reply to a galley whose best pages are made, if its run ends well without breaks
abbrev pub best_reply : Galley → Reply
best_reply g = let reply = best_reply_by g (best_of g) in if is_done (run_of g).end then reply else whole_reply [] (run_of g)

-- the reply to a galley, or to the first fault of what is none
abbrev pub galley_reply : (Galley → Reply) → Result Galley Fault → Reply
galley_reply reply (Ok g) = reply g
galley_reply reply (Err f) = fault_reply f

-- the reply to a text without a galley of lines
abbrev pub no_lines_reply : NoGalley → Reply
no_lines_reply why = record { answer = answer_without why; written = []; line = err_line (no_galley_text why); writes = false }

-- the reply that writes the galley of a text's lines, or says why there is none
abbrev pub lines_reply : Result (List ℕ) NoGalley → Reply
lines_reply (Ok galley) = text_reply galley
lines_reply (Err why) = no_lines_reply why

-- the reply of a run whose first page out of range is this one, if there is one
abbrev pub dvi_reply_by : Option ℕ → ℤ → Run → Reply
dvi_reply_by None textheight r = run_reply (dvi_file textheight r) r
dvi_reply_by (Some page) textheight r = record { answer = answers.TooFar; written = dvi_file textheight r; line = err_line (far_line page); writes = true }

-- the reply of a run whose pages are written as a DVI file
abbrev pub dvi_reply : ℤ → Run → Reply
dvi_reply textheight r = dvi_reply_by (first_too_far 27 (run_pages r)) textheight r

-- the reply to a DVI file whose first command that fails is at this byte
abbrev pub cause_reply : ℕ → DviCause → Reply
cause_reply byte cause = record { answer = answers.Dvi; written = []; line = err_line (cause_line byte cause); writes = false }

-- the reply that writes what is listed of a file, or names its first command that fails
abbrev pub listed_reply : Result (List Item) Failure → Reply
listed_reply (Ok items) = text_reply (listing items)
listed_reply (Err e) = cause_reply e.byte e.cause

-- the reply to a DVI file, by whether it is too long
abbrev pub listing_reply : List ℕ → Reply
listing_reply input = if nat_lt input_limit (length input) then fault_reply (fault 0 0 causes.InputSize) else listed_reply (listed input)

-- the reply of a run of the page makeup, with its report
abbrev pub makeup_run_reply : MakeupRun → Reply
makeup_run_reply r = record { answer = makeup_answer r.end; written = makeup_report r; line = makeup_line r.end; writes = true }

-- the reply to a galley whose first item that the page makeup does not serve is on this line
abbrev pub unsuited_reply : ℕ → Reply
unsuited_reply n = record { answer = answers.Unsuited; written = []; line = err_line (unsuited_text n); writes = false }

-- the reply to a galley by its first item that is not served, if there is one
abbrev pub makeup_reply_by : Option ℕ → Galley → Reply
makeup_reply_by None g = makeup_run_reply (makeup_of g)
makeup_reply_by (Some n) g = unsuited_reply n

-- the reply to a galley whose pages the page makeup makes
abbrev pub makeup_reply : Galley → Reply
makeup_reply g = makeup_reply_by (first_unsuited g) g

-- the reply to an input, by the mode; to one that is no galley it is that of its first fault
abbrev pub reply_to : Mode → List ℕ → Reply
reply_to modes.Report input = galley_reply (λ g. run_reply (report (run_of g)) (run_of g)) (grammar input)
reply_to modes.Trace input = galley_reply (λ g. run_reply (trace (run_of g)) (run_of g)) (grammar input)
reply_to modes.Rate input = galley_reply (λ g. run_reply (rated_report g) (run_of g)) (grammar input)
reply_to modes.Why input = galley_reply (λ g. run_reply (why_report g) (run_of g)) (grammar input)
reply_to modes.Best input = galley_reply best_reply (grammar input)
reply_to modes.Print input = galley_reply (λ g. text_reply (printed g)) (grammar input)
reply_to modes.Lines input = lines_reply (lines_galley input)
reply_to modes.Dvi input = galley_reply (λ g. dvi_reply g.params.textheight (run_of g)) (grammar input)
reply_to modes.DviList input = listing_reply input
reply_to modes.Plain input = galley_reply makeup_reply (grammar input)
reply_to (modes.Generate n) input = summary_reply n (run_of (generated n))
