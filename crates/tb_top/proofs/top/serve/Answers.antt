use Rattle.std.proofs.Common.{ap, subst, Err}
use Rattle.tb_words.specs.Words.{IsServed}
use Rattle.std.proofs.lemmas.Result.{err_from_is_err_and}
use Rattle.std.proofs.KnownBytes.{Keeps-refl}
use Rattle.tb_top.proofs.Ends.Outcomes.{left_by_words}
use Rattle.tb_top.proofs.top.serve.Goals as goal

pub returns-in_err-mode-clause-stands : goal.returns-in_err-mode-clause-stands
returns-in_err-mode-clause-stands g c =
    let p = err_from_is_err_and c.from_residual.result c.from_residual.ensures.1 in
    rw (p.1, p.2) (left_by_words _ _ _ (Keeps-refl _) (Keeps-refl _) c.in_err-mode.field-0.0 (λ is. c.in_err-mode.ensures.refused (ap Err is)))

pub returns-in-Report-clause-stands : goal.returns-in-Report-clause-stands
returns-in-Report-clause-stands g c = rw (c.in_ok-mode.ensures.asked, c.in-Report.is) c.write_report.ensures.stands

pub returns-in-Trace-clause-stands : goal.returns-in-Trace-clause-stands
returns-in-Trace-clause-stands g c = rw (c.in_ok-mode.ensures.asked, c.in-Trace.is) c.write_trace.ensures.stands

pub returns-in-Rate-clause-stands : goal.returns-in-Rate-clause-stands
returns-in-Rate-clause-stands g c = rw (c.in_ok-mode.ensures.asked, c.in-Rate.is) c.write_rated.ensures.stands

pub returns-in-Why-clause-stands : goal.returns-in-Why-clause-stands
returns-in-Why-clause-stands g c = rw (c.in_ok-mode.ensures.asked, c.in-Why.is) c.write_told.ensures.stands

pub returns-in-Best-clause-stands : goal.returns-in-Best-clause-stands
returns-in-Best-clause-stands g c = rw (c.in_ok-mode.ensures.asked, c.in-Best.is) c.write_best.ensures.stands

pub returns-in-Print-clause-stands : goal.returns-in-Print-clause-stands
returns-in-Print-clause-stands g c = rw (c.in_ok-mode.ensures.asked, c.in-Print.is) c.write_canonical.ensures.stands

pub returns-in-Lines-clause-stands : goal.returns-in-Lines-clause-stands
returns-in-Lines-clause-stands g c = rw (c.in_ok-mode.ensures.asked, c.in-Lines.is) c.write_lines.ensures.stands

pub write_summary-requires : goal.write_summary-requires
write_summary-requires g c = subst IsServed c.in-Generate.is c.in_ok-mode.ensures.served

pub returns-in-Generate-clause-stands : goal.returns-in-Generate-clause-stands
returns-in-Generate-clause-stands g c = rw (c.in_ok-mode.ensures.asked, c.in-Generate.is) (c.write_summary.ensures _ (Keeps-refl _))

pub returns-in-Dvi-clause-stands : goal.returns-in-Dvi-clause-stands
returns-in-Dvi-clause-stands g c = rw (c.in_ok-mode.ensures.asked, c.in-Dvi.is) c.write_dvi.ensures.stands

pub returns-in-DviList-clause-stands : goal.returns-in-DviList-clause-stands
returns-in-DviList-clause-stands g c = rw (c.in_ok-mode.ensures.asked, c.in-DviList.is) c.write_listing.ensures.stands

pub returns-in-Plain-clause-stands : goal.returns-in-Plain-clause-stands
returns-in-Plain-clause-stands g c = rw (c.in_ok-mode.ensures.asked, c.in-Plain.is) c.write_makeup.ensures.stands
