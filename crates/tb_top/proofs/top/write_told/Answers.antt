use Rattle.std.proofs.Common.{ap, subst, Err}
use Rattle.std.proofs.lemmas.Result.{err_from_is_err_and}
use Rattle.std.proofs.KnownBytes.{Keeps-refl}
use Rattle.tb_words.specs.declared.Mode.TheVariants.{Why}
use Rattle.tb_laws.specs.Laws.{KeepsLaws}
use Rattle.tb_top.proofs.Ends.Outcomes.{left_by_reading, why_reads}
use Rattle.tb_top.proofs.Why.WhyOutcomes.{why-well, left-by-why}
use Rattle.tb_top.proofs.top.write_told.Goals as goal

pub returns-in_err-galley-clause-stands : goal.returns-in_err-galley-clause-stands
returns-in_err-galley-clause-stands g c =
    let p = err_from_is_err_and c.from_residual.result c.from_residual.ensures.1 in
    rw (p.1, p.2) (left_by_reading Why _ why_reads _ _ (Keeps-refl _) c.in_err-galley.field-0.0 c.in_err-galley.ensures.refused)

pub returns-in_err-why_pages-clause-stands : goal.returns-in_err-why_pages-clause-stands
returns-in_err-why_pages-clause-stands g c =
    let p = err_from_is_err_and c.from_residual-in_err-why_pages.result c.from_residual-in_err-why_pages.ensures.1 in
    let given = c.in_ok-galley.ensures.read in
    rw (p.1, p.2)
    (left-by-why given.input _ _ given.read c.in_ok-galley.galley given.galley c.in_ok-galley.ensures.valid c.in_err-why_pages.field-0.0 c.in_err-why_pages.ensures.refused (λ is. c.in_err-why_pages.ensures.cause (ap Err is)))

pub returns-clause-stands : goal.returns-clause-stands
returns-clause-stands g c =
    let given = c.in_ok-galley.ensures.read in
    let done = c.in_ok-why_pages.ensures.done in
    why-well given.input _ _ given.read c.in_ok-galley.galley given.galley _ done (subst (KeepsLaws c.in_ok-galley.galley) done.totals c.in_ok-why_pages.ensures.laws)
