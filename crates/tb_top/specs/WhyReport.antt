-- The report of a run with what is told of it: what `trace` shows with the tales between, and the summary before the last lines.
use Rattle.std.specs.Prelude.{ℕ, List, ◌++◌, codes}
use Rattle.tb_galley.specs.declared.Galley.{Galley}
use Rattle.tb_output.specs.State.{State}
use Rattle.tb_steps.specs.Run.{Run, run_of, run_of_state}
use Rattle.tb_why.specs.WhyRun.{Shown, shown_of_state, shown_run}
use Rattle.tb_why.specs.ShownLines.{all_shown_lines}
use Rattle.tb_why.specs.Summary.{summary_lines}
use Rattle.tb_top.specs.Report.{closing_lines}

-- what is shown of a run, its summary, and the last lines if it ended well
abbrev pub shown_text : List Shown → Run → List ℕ
shown_text xs r = codes "report 1\n" ++ (all_shown_lines xs ++ (summary_lines xs ++ closing_lines r.end r.events))

-- the same of the run from a state
abbrev pub why_text : State → List ℕ
why_text s = shown_text (shown_of_state s) (run_of_state s)

-- the same of the run of a galley
unfoldable pub why_report : Galley → List ℕ
why_report g = shown_text (shown_run g) (run_of g)
