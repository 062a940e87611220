use Rattle.std.proofs.Common.{◌∙◌, ap, sym, subst, Err}
use Rattle.std.proofs.lemmas.Result.{err_from_is_err_and}
use Rattle.std.specs.Io.KnownBytes.{Appends}
use Rattle.std.proofs.KnownBytes.{Keeps-refl}
use Rattle.tb_io.specs.Sink.{AppendsPrefix}
use Rattle.tb_lines.specs.Galley.{lines_galley, GivesGalley as GivesLines}
use Rattle.tb_words.specs.declared.Mode.TheVariants.{Lines}
use Rattle.tb_top.specs.Answer.{lines_reply}
use Rattle.tb_top.proofs.Ends.Outcomes.{text_well, left_by_text, left_by_lines, left_unread}
use Rattle.tb_top.proofs.top.write_lines.Goals as goal

pub returns-in_err-input-clause-stands : goal.returns-in_err-input-clause-stands
returns-in_err-input-clause-stands g c =
    let p = err_from_is_err_and c.from_residual.result c.from_residual.ensures.1 in
    rw (p.1, p.2) (left_unread Lines _ _ (λ f. f) (Keeps-refl _) c.in_err-input.field-0.0 (λ is. c.in_err-input.ensures.failed (ap Err is)))

pub returns-in_err-galley-clause-stands : goal.returns-in_err-galley-clause-stands
returns-in_err-galley-clause-stands g c =
    let p = err_from_is_err_and c.from_residual-in_err-galley.result c.from_residual-in_err-galley.ensures.1 in
    rw (p.1, p.2) (left_by_lines c.in_ok-input.input.items _ _ c.in_ok-input.ensures.read (Keeps-refl _) c.in_err-galley.field-0.0
    (subst (λ bytes. GivesLines (Err c.in_err-galley.field-0.0) (lines_galley bytes)) c.deref.ensures.value c.in_err-galley.ensures.galley))

pub returns-in_err-write_all-clause-stands : goal.returns-in_err-write_all-clause-stands
returns-in_err-write_all-clause-stands g c =
    let p = err_from_is_err_and c.from_residual-in_err-write_all.result c.from_residual-in_err-write_all.ensures.1 in
    let galley = ap lines_galley (sym c.deref.ensures.value) ∙ c.in_ok-galley.ensures.galley in
    rw (p.1, p.2) (left_by_text Lines c.in_ok-input.input.items _ _ c.in_ok-input.ensures.read c.in_ok-galley.galley.items (ap lines_reply galley) c.in_err-write_all.field-0.0
    (subst (λ text. AppendsPrefix (g.K.Sink.held c.args.out.now) (g.K.Sink.held c.write_all.new.out) text) c.deref-2.ensures.value c.in_err-write_all.ensures.err)
    (λ is. c.in_err-write_all.ensures.cause.failed (ap Err is)))

pub returns-clause-stands : goal.returns-clause-stands
returns-clause-stands g c =
    let galley = ap lines_galley (sym c.deref.ensures.value) ∙ c.in_ok-galley.ensures.galley in
    text_well Lines c.in_ok-input.input.items _ _ c.in_ok-input.ensures.read c.in_ok-galley.galley.items (ap lines_reply galley)
    (subst (λ text. Appends (g.K.Sink.held c.args.out.now) (g.K.Sink.held c.write_all.new.out) text) c.deref-2.ensures.value c.in_ok-write_all.ensures.ok)
    tt
