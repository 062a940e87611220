use Rattle.std.proofs.Common.{ap, Err}
use Rattle.std.proofs.lemmas.Result.{err_from_is_err_and}
use Rattle.std.proofs.KnownBytes.{Keeps-refl}
use Rattle.tb_words.specs.declared.Mode.TheVariants.{Report}
use Rattle.tb_top.specs.declared.View.TheVariants as views
use Rattle.tb_top.proofs.Ends.Outcomes.{left_by_reading, left_by_pages, pages_well, galley_with, replies_to, report_reads}
use Rattle.tb_top.proofs.top.write_report.Goals as goal

pub returns-in_err-galley-clause-stands : goal.returns-in_err-galley-clause-stands
returns-in_err-galley-clause-stands g c =
    let p = err_from_is_err_and c.from_residual.result c.from_residual.ensures.1 in
    rw (p.1, p.2) (left_by_reading Report _ report_reads _ _ (Keeps-refl _) c.in_err-galley.field-0.0 c.in_err-galley.ensures.refused)

pub returns-in_err-paginate-clause-stands : goal.returns-in_err-paginate-clause-stands
returns-in_err-paginate-clause-stands g c =
    let p = err_from_is_err_and c.from_residual-in_err-paginate.result c.from_residual-in_err-paginate.ensures.1 in
    let given = c.in_ok-galley.ensures.read in
    rw (p.1, p.2)
    (left_by_pages Report given.input _ _ given.read views.Report c.in_ok-galley.galley (replies_to Report _ report_reads given.input c.in_ok-galley.galley given.galley)
    (galley_with given.input c.in_ok-galley.galley given.galley) c.in_ok-galley.ensures.valid c.in_err-paginate.field-0.0 c.in_err-paginate.ensures.refused (λ is. c.in_err-paginate.ensures.cause (ap Err is)))

pub returns-clause-stands : goal.returns-clause-stands
returns-clause-stands g c =
    let given = c.in_ok-galley.ensures.read in
    pages_well Report given.input _ _ given.read views.Report c.in_ok-galley.galley (replies_to Report _ report_reads given.input c.in_ok-galley.galley given.galley)
    (galley_with given.input c.in_ok-galley.galley given.galley) _ c.in_ok-paginate.ensures.done c.in_ok-paginate.ensures.laws
