use Rattle.std.proofs.Common.{◌≡◌, refl, inl}
use Rattle.std.proofs.KnownBytes.{Appends-nil}
use Rattle.std.proofs.lemmas.Result.{err_from_is_err_and}
use Rattle.tb_io.specs.declared.sink.SinkFault.TheVariants as outputs
use Rattle.tb_top.proofs.told_pages.sum_up.Goals as goal

-- nothing was written, for there was no memory
pub returns-in_err-put_lines-clause-refused : goal.returns-in_err-put_lines-clause-refused
returns-in_err-put_lines-clause-refused g c =
    let p = err_from_is_err_and c.from_residual.result c.from_residual.ensures.1 in
    rw (p.1, p.2)
    (inl (record { fault = outputs.Memory; is = refl; cause = λ e. let no : outputs.Memory ≡ outputs.Failed = e in cc; part = (0, Appends-nil (g.K.Sink.held c.args.out.now)) }))
