-- Without the lines that are told, the lines of the run's events are left of what is told of a valid galley.
use Rattle.std.proofs.Common.{◌≡◌, refl, sym, ap, ◌∙◌, [], ◌++◌, append-nil, append_assoc}
use Rattle.std.specs.Prelude.{codes}
use Rattle.tb_report.specs.declared.Totals.{Totals}
use Rattle.tb_galley.specs.declared.Galley.{Galley}
use Rattle.tb_galley.specs.Valid.{IsValid}
use Rattle.tb_steps.specs.Run.{run_of}
use Rattle.tb_why.specs.WhyRun.{shown_run, happened_among}
use Rattle.tb_why.specs.Summary.{summary_lines}
use Rattle.tb_why.specs.ShownLines.{all_shown_lines, all_event_lines, told_text, ending_lines}
use Rattle.tb_why.specs.Told.{without_told}
use Rattle.tb_why.proofs.RunLemmas.{run_happens}
use Rattle.tb_why.proofs.ShownTexts.{before, text_left}
use Rattle.tb_why.proofs.StoryTexts.{stories_left}
use Rattle.tb_why.proofs.EventLines.{ending-kept}
use Rattle.tb_why.proofs.TextLines.{Kept, line-kept}
use Rattle.tb_why.proofs.PlainRuns.CleanRuns.{run-plain, end-plain}

pub trace_left : (g : Galley) → IsValid g → without_told (told_text g) ≡ all_event_lines (run_of g).events
trace_left g v = text_left (shown_run g) (run-plain g v) ∙ ap all_event_lines (run_happens g)

-- the same of a whole report: its first line, what is told, and the last lines
pub report_left : (g : Galley) (t : Totals) → IsValid g →
    without_told (codes "report 1\n" ++ (told_text g ++ ending_lines (run_of g).end t)) ≡ codes "report 1\n" ++ (all_event_lines (run_of g).events ++ ending_lines (run_of g).end t)
report_left g t v =
    let e = ending_lines (run_of g).end t in
    let xs = shown_run g in
    let p = run-plain g v in
    first-kept (told_text g ++ e)
    ∙ ap (λ ls. codes "report 1\n" ++ ls) (
    ap without_told (append_assoc (all_shown_lines xs) (summary_lines xs) e) ∙ before xs (summary_lines xs ++ e) p
    ∙ ap (λ ls. all_event_lines (happened_among xs) ++ ls) (stories_left xs p e ∙ end-left)
    ∙ ap (λ es. all_event_lines es ++ e) (run_happens g))
  where
    first-kept : Kept (codes "report 1\n")
    first-kept = line-kept (codes "report 1") refl refl

    end-left : without_told (ending_lines (run_of g).end t) ≡ ending_lines (run_of g).end t
    end-left = ap without_told (sym (append-nil (ending_lines (run_of g).end t))) ∙ ending-kept (run_of g).end t (end-plain g v) [] ∙ append-nil (ending_lines (run_of g).end t)
