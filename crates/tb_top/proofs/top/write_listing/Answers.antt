use Rattle.std.proofs.Common.{◌∙◌, ap, sym, subst, Err}
use Rattle.std.proofs.lemmas.Result.{err_from_is_err_and}
use Rattle.std.specs.Io.KnownBytes.{Appends}
use Rattle.std.proofs.KnownBytes.{Keeps-refl}
use Rattle.tb_io.specs.Sink.{AppendsPrefix}
use Rattle.tb_words.specs.declared.Mode.TheVariants.{DviList}
use Rattle.tb_top.specs.Answer.{listing_reply}
use Rattle.tb_top.specs.DviRefusal.{IsNoListing}
use Rattle.tb_top.proofs.Ends.Outcomes.{text_well, left_by_text, left_unread}
use Rattle.tb_top.proofs.DviFiles.DviOutcomes.{left_by_listing}
use Rattle.tb_top.proofs.top.write_listing.Goals as goal

pub returns-in_err-input-clause-stands : goal.returns-in_err-input-clause-stands
returns-in_err-input-clause-stands g c =
    let p = err_from_is_err_and c.from_residual.result c.from_residual.ensures.1 in
    rw (p.1, p.2) (left_unread DviList _ _ (λ f. f) (Keeps-refl _) c.in_err-input.field-0.0 (λ is. c.in_err-input.ensures.failed (ap Err is)))

pub returns-in_err-listing-clause-stands : goal.returns-in_err-listing-clause-stands
returns-in_err-listing-clause-stands g c =
    let p = err_from_is_err_and c.from_residual-in_err-listing.result c.from_residual-in_err-listing.ensures.1 in
    rw (p.1, p.2) (left_by_listing c.in_ok-input.input.items _ _ c.in_ok-input.ensures.read (Keeps-refl _) c.in_err-listing.field-0.0
    (subst (λ bytes. IsNoListing (listing_reply bytes) c.in_err-listing.field-0.0) c.deref.ensures.value c.in_err-listing.ensures.refused))

pub returns-in_err-write_all-clause-stands : goal.returns-in_err-write_all-clause-stands
returns-in_err-write_all-clause-stands g c =
    let p = err_from_is_err_and c.from_residual-in_err-write_all.result c.from_residual-in_err-write_all.ensures.1 in
    let text = ap listing_reply (sym c.deref.ensures.value) ∙ c.in_ok-listing.ensures.text in
    rw (p.1, p.2) (left_by_text DviList c.in_ok-input.input.items _ _ c.in_ok-input.ensures.read c.in_ok-listing.listing.items text c.in_err-write_all.field-0.0
    (subst (λ text. AppendsPrefix (g.K.Sink.held c.args.out.now) (g.K.Sink.held c.write_all.new.out) text) c.deref-2.ensures.value c.in_err-write_all.ensures.err)
    (λ is. c.in_err-write_all.ensures.cause.failed (ap Err is)))

pub returns-clause-stands : goal.returns-clause-stands
returns-clause-stands g c =
    let text = ap listing_reply (sym c.deref.ensures.value) ∙ c.in_ok-listing.ensures.text in
    text_well DviList c.in_ok-input.input.items _ _ c.in_ok-input.ensures.read c.in_ok-listing.listing.items text
    (subst (λ text. Appends (g.K.Sink.held c.args.out.now) (g.K.Sink.held c.write_all.new.out) text) c.deref-2.ensures.value c.in_ok-write_all.ensures.ok)
    tt
