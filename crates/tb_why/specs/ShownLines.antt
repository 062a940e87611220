-- The lines of a run with what is told of it.
use Rattle.std.specs.Prelude.{ℕ, List, [], ◌∷◌, ◌++◌}
use Rattle.tb_report.specs.Lines.{sent_lines, end_lines}
use Rattle.tb_report.specs.declared.Totals.{Totals}
use Rattle.tb_trace.specs.Lines.{try_line}
use Rattle.tb_steps.specs.Run.{End, done}
use Rattle.tb_items.specs.RunEvents.{RunEvent, offered, sent}
use Rattle.tb_told.specs.Lines.{tale_line}
use Rattle.tb_why.specs.WhyRun.{Shown, happens, tells, shown_run}
use Rattle.tb_why.specs.Summary.{summary_lines}
use Rattle.tb_galley.specs.declared.Galley.{Galley}

-- the lines of an event, as in a trace
abbrev pub event_lines : RunEvent → List ℕ
event_lines (offered t) = try_line t
event_lines (sent e) = sent_lines e

abbrev pub shown_lines : Shown → List ℕ
shown_lines (happens e) = event_lines e
shown_lines (tells t) = tale_line t

-- the lines of what is shown, one after another
abbrev pub all_shown_lines : List Shown → List ℕ
all_shown_lines [] = []
all_shown_lines (x ∷ xs) = shown_lines x ++ all_shown_lines xs

-- the lines of the events alone, as in a trace
abbrev pub all_event_lines : List RunEvent → List ℕ
all_event_lines [] = []
all_event_lines (e ∷ es) = event_lines e ++ all_event_lines es

-- what is told of the run of a galley: its events with the tales between them, and then the summary
abbrev pub told_text : Galley → List ℕ
told_text g = all_shown_lines (shown_run g) ++ summary_lines (shown_run g)

-- the last lines of a report with these totals: what is left, if the run ended well
abbrev pub ending_lines : End → Totals → List ℕ
ending_lines (done left) t = end_lines left t
ending_lines e t = []
