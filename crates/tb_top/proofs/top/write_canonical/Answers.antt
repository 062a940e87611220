use Rattle.std.proofs.Common.{◌∙◌, refl, subst, inl}
use Rattle.std.proofs.lemmas.Result.{err_from_is_err_and}
use Rattle.std.specs.Io.KnownBytes.{Appends}
use Rattle.std.proofs.KnownBytes.{Keeps-refl}
use Rattle.tb_words.specs.declared.Mode.TheVariants.{Print}
use Rattle.tb_top.proofs.Ends.Outcomes.{text_well, replies_to, print_reads}
use Rattle.tb_top.proofs.top.write_canonical.Goals as goal

pub returns-clause-stands : goal.returns-clause-stands
returns-clause-stands g c =
    let given = c.in_ok-galley.ensures.read in
    text_well Print given.input _ _ given.read _ (replies_to Print _ print_reads given.input c.in_ok-galley.galley given.galley)
    (subst (λ text. Appends (g.K.Sink.held c.args.out.now) (g.K.Sink.held c.write_all.new.out) text) (c.deref.ensures.value ∙ c.in_ok-text.ensures.text) c.in_ok-write_all.ensures.ok)
    tt

pub returns-in_err-text-clause-stands : goal.returns-in_err-text-clause-stands
returns-in_err-text-clause-stands g c =
    let p = err_from_is_err_and c.from_residual-in_err-text.result c.from_residual-in_err-text.ensures.1 in
    rw (p.1, p.2) (inl (Keeps-refl _), refl)
