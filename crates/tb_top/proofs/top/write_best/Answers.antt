use Rattle.std.proofs.Common.{ap, Err}
use Rattle.std.proofs.lemmas.Result.{err_from_is_err_and}
use Rattle.std.proofs.KnownBytes.{Keeps-refl}
use Rattle.tb_words.specs.declared.Mode.TheVariants.{Best}
use Rattle.tb_top.proofs.Ends.Outcomes.{left_by_reading, best_reads}
use Rattle.tb_top.proofs.Best.BestOutcomes.{best-well, left-by-best}
use Rattle.tb_top.proofs.top.write_best.Goals as goal

pub returns-in_err-galley-clause-stands : goal.returns-in_err-galley-clause-stands
returns-in_err-galley-clause-stands g c =
    let p = err_from_is_err_and c.from_residual.result c.from_residual.ensures.1 in
    rw (p.1, p.2) (left_by_reading Best _ best_reads _ _ (Keeps-refl _) c.in_err-galley.field-0.0 c.in_err-galley.ensures.refused)

pub returns-in_err-best_pages-clause-stands : goal.returns-in_err-best_pages-clause-stands
returns-in_err-best_pages-clause-stands g c =
    let p = err_from_is_err_and c.from_residual-in_err-best_pages.result c.from_residual-in_err-best_pages.ensures.1 in
    let given = c.in_ok-galley.ensures.read in
    rw (p.1, p.2)
    (left-by-best given.input _ _ given.read c.in_ok-galley.galley given.galley c.in_ok-galley.ensures.valid c.in_err-best_pages.field-0.0 c.in_err-best_pages.ensures.refused (λ is. c.in_err-best_pages.ensures.cause (ap Err is)))

pub returns-clause-stands : goal.returns-clause-stands
returns-clause-stands g c =
    let given = c.in_ok-galley.ensures.read in
    best-well given.input _ _ given.read c.in_ok-galley.galley given.galley c.in_ok-best_pages.ensures.done c.in_ok-best_pages.ensures.laws
