-- Without the lines that are told, the report of the mode why is that of the mode trace.
use Rattle.std.proofs.Common.{◌≡◌, refl, sym, ap, ◌∙◌, List, [], ◌∷◌, ◌++◌, append_assoc}
use Rattle.std.specs.Prelude.{codes}
use Rattle.tb_report.specs.Lines.{sent_lines}
use Rattle.tb_trace.specs.Lines.{try_line}
use Rattle.tb_galley.specs.declared.Galley.{Galley}
use Rattle.tb_galley.specs.Valid.{IsValid}
use Rattle.tb_items.specs.RunEvents.{RunEvent, offered, sent}
use Rattle.tb_steps.specs.Run.{End, done, run_of}
use Rattle.tb_laws.specs.Totals.{totals_of}
use Rattle.tb_why.specs.WhyRun.{shown_run}
use Rattle.tb_why.specs.Summary.{summary_lines}
use Rattle.tb_why.specs.ShownLines.{all_shown_lines, all_event_lines, told_text, ending_lines}
use Rattle.tb_why.specs.Told.{without_told}
use Rattle.tb_why.proofs.TraceLeft.{report_left}
use Rattle.tb_top.specs.Report.{all_lines, traced_lines, closing_lines, trace}
use Rattle.tb_top.specs.WhyReport.{why_report}

events-traced : (es : List RunEvent) → all_event_lines es ≡ all_lines traced_lines es
events-traced [] = refl
events-traced (offered t ∷ es) = ap (λ ls. try_line t ++ ls) (events-traced es)
events-traced (sent e ∷ es) = ap (λ ls. sent_lines e ++ ls) (events-traced es)

closing-same : (e : End) (es : List RunEvent) → ending_lines e (totals_of es) ≡ closing_lines e es
closing-same (done left) es = refl
closing-same e es = refl

pub why_left : (g : Galley) → IsValid g → without_told (why_report g) ≡ trace (run_of g)
unfolding why_report trace
why_left g v =
    let xs = shown_run g in
    let r = run_of g in
    let t = totals_of r.events in
    ap (λ ls. without_told (codes "report 1\n" ++ ls)) (
    sym (append_assoc (all_shown_lines xs) (summary_lines xs) (closing_lines r.end r.events))
    ∙ ap (λ ls. told_text g ++ ls) (sym (closing-same r.end r.events)))
    ∙ report_left g t v
    ∙ ap (λ ls. codes "report 1\n" ++ (ls ++ ending_lines r.end t)) (events-traced r.events)
    ∙ ap (λ ls. codes "report 1\n" ++ (all_lines traced_lines r.events ++ ls)) (closing-same r.end r.events)
