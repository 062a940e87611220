use Rattle.std.proofs.Common.{ap, Err}
use Rattle.std.proofs.lemmas.Result.{err_from_is_err_and}
use Rattle.std.proofs.KnownBytes.{Keeps-refl}
use Rattle.tb_words.specs.declared.Mode.TheVariants.{Dvi}
use Rattle.tb_top.proofs.Ends.Outcomes.{left_by_reading, dvi_reads}
use Rattle.tb_top.proofs.DviFiles.DviOutcomes.{dvi_well, left_by_file}
use Rattle.tb_top.proofs.top.write_dvi.Goals as goal

pub returns-in_err-galley-clause-stands : goal.returns-in_err-galley-clause-stands
returns-in_err-galley-clause-stands g c =
    let p = err_from_is_err_and c.from_residual.result c.from_residual.ensures.1 in
    rw (p.1, p.2) (left_by_reading Dvi _ dvi_reads _ _ (Keeps-refl _) c.in_err-galley.field-0.0 c.in_err-galley.ensures.refused)

pub returns-in_err-paginate_dvi-clause-stands : goal.returns-in_err-paginate_dvi-clause-stands
returns-in_err-paginate_dvi-clause-stands g c =
    let p = err_from_is_err_and c.from_residual-in_err-paginate_dvi.result c.from_residual-in_err-paginate_dvi.ensures.1 in
    let given = c.in_ok-galley.ensures.read in
    rw (p.1, p.2)
    (left_by_file given.input _ _ given.read c.in_ok-galley.galley given.galley c.in_ok-galley.ensures.valid c.in_err-paginate_dvi.field-0.0 c.in_err-paginate_dvi.ensures.refused (λ is. c.in_err-paginate_dvi.ensures.cause (ap Err is)))

pub returns-clause-stands : goal.returns-clause-stands
returns-clause-stands g c =
    let given = c.in_ok-galley.ensures.read in
    dvi_well given.input _ _ given.read c.in_ok-galley.galley given.galley c.in_ok-galley.ensures.valid c.in_ok-paginate_dvi.ensures.done
