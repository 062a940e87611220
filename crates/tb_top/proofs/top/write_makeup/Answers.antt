use Rattle.std.proofs.Common.{◌∙◌, ap, sym, Err}
use Rattle.std.proofs.lemmas.Result.{err_from_is_err_and}
use Rattle.std.proofs.KnownBytes.{Keeps-refl}
use Rattle.tb_words.specs.declared.Mode.TheVariants.{Plain}
use Rattle.tb_top.proofs.Ends.Outcomes.{left_by_reading, makeup_reads}
use Rattle.tb_top.proofs.Plain.MakeupOutcomes.{left_unsuited, left_by_makeup, makeup_well}
use Rattle.tb_top.proofs.top.write_makeup.Goals as goal

pub returns-in_err-galley-clause-stands : goal.returns-in_err-galley-clause-stands
returns-in_err-galley-clause-stands g c =
    let p = err_from_is_err_and c.from_residual.result c.from_residual.ensures.1 in
    rw (p.1, p.2) (left_by_reading Plain _ makeup_reads _ _ (Keeps-refl _) c.in_err-galley.field-0.0 c.in_err-galley.ensures.refused)

pub returns-in-Some-clause-stands : goal.returns-in-Some-clause-stands
returns-in-Some-clause-stands g c =
    let given = c.in_ok-galley.ensures.read in
    left_unsuited given.input _ _ given.read c.in_ok-galley.galley given.galley c.in-Some.line (sym c.first_unsuited.ensures ∙ c.in-Some.is) (Keeps-refl _)

pub paginate_plain-requires-clause-suited : goal.paginate_plain-requires-clause-suited
paginate_plain-requires-clause-suited g c = sym c.first_unsuited.ensures ∙ c.in_default.is

pub returns-in_err-paginate_plain-clause-stands : goal.returns-in_err-paginate_plain-clause-stands
returns-in_err-paginate_plain-clause-stands g c =
    let p = err_from_is_err_and c.from_residual-in_err-paginate_plain.result c.from_residual-in_err-paginate_plain.ensures.1 in
    let given = c.in_ok-galley.ensures.read in
    rw (p.1, p.2)
    (left_by_makeup given.input _ _ given.read c.in_ok-galley.galley given.galley (sym c.first_unsuited.ensures ∙ c.in_default.is) c.in_err-paginate_plain.field-0.0 c.in_err-paginate_plain.ensures.refused (λ is. c.in_err-paginate_plain.ensures.cause (ap Err is)))

pub returns-clause-stands : goal.returns-clause-stands
returns-clause-stands g c =
    let given = c.in_ok-galley.ensures.read in
    makeup_well given.input _ _ given.read c.in_ok-galley.galley given.galley (sym c.first_unsuited.ensures ∙ c.in_default.is) _ c.in_ok-paginate_plain.ensures.done c.in_ok-paginate_plain.ensures.laws
