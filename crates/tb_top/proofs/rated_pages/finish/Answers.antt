use Rattle.std.proofs.Common.{◌≡◌, ◌∙◌, refl, ap, subst, inr, ◌++◌, FitsSigned}
use Rattle.std.specs.Int.{w128}
use Rattle.std.specs.Io.KnownBytes.{Appends}
use Rattle.std.proofs.KnownBytes.{Appends-nil}
use Rattle.std.proofs.lemmas.Int.{to_z-of_z}
use Rattle.std.proofs.lemmas.Result.{err_from_is_err_and}
use Rattle.tb_io.specs.declared.sink.SinkFault.TheVariants as outputs
use Rattle.tb_node.specs.PlainNodes.{plain_list}
use Rattle.tb_report.specs.Lines.{end_lines}
use Rattle.tb_rate.specs.RatingLines.{demerits_line}
use Rattle.tb_top.proofs.rated_pages.finish.Goals as goal

-- nothing was written of the last lines, for there was no memory
pub returns-in_err-put_demerits-clause-refused : goal.returns-in_err-put_demerits-clause-refused
returns-in_err-put_demerits-clause-refused g c =
    let p = err_from_is_err_and c.from_residual-in_err-put_demerits.result c.from_residual-in_err-put_demerits.ensures.1 in
    rw (p.1, p.2)
    (inr (
      c.in_default.ensures.none,
      record { fault = outputs.Memory; is = refl; cause = λ e. let no : outputs.Memory ≡ outputs.Failed = e in cc; part = (0, Appends-nil (g.K.Sink.held c.args.out.now)) },
    ))

pub returns-clause-done : goal.returns-clause-done
returns-clause-done g c =
    let r = c.args.routine.now in
    let d : FitsSigned w128 c.args.demerits = c.ranges.demerits in
    let report = c.in_ok-text.ensures ∙ ap (λ l. end_lines (plain_list r.store l) c.args.totals.now) c.on_page.ensures in
    let text = c.deref.ensures.value ∙ (simp to_z-of_z at c.in_ok-put_demerits.ensures) ∙ ap (λ ls. ls ++ demerits_line c.args.demerits) report in
    simp to_z-of_z (record { ending = c.in_default.ensures.none; demerits = refl; written = subst (Appends (g.K.Sink.held c.args.out.now) (g.K.Sink.held c.show.new.out)) text c.in_ok-show.ensures.whole })
