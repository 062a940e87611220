use Rattle.std.proofs.Common.{◌∙◌, ◌≤◌, ℕ, [], arith, ap, refl, sym, subst, inl, append-nil, Err}
use Rattle.std.proofs.lemmas.Result.{err_from_is_err_and}
use Rattle.std.specs.Io.KnownBytes.{Appends}
use Rattle.tb_io.specs.Faults.{Rose}
use Rattle.tb_io.specs.Sink.{AppendsPrefix}
use Rattle.std.proofs.KnownBytes.{Appends-trans, Keeps-refl}
use Rattle.tb_io.proofs.Appended.{prefix_on, Keeps-nothing}
use Rattle.tb_steps.specs.Run.{run_of}
use Rattle.tb_top.specs.declared.View.TheVariants as views
use Rattle.tb_galley.specs.Valid.{IsValid}
use Rattle.tb_laws.specs.Laws.{KeepsLaws}
use Rattle.tb_top.specs.Outcome.{stream, HasLawfulRun}
use Rattle.tb_top.specs.Answer.{summary_line}
use Rattle.tb_generator.specs.GeneratedGalleys.{generated}
use Rattle.tb_laws.specs.Totals.{totals_of}
use Rattle.tb_top.specs.Pages.{Paginates, Refuses}
use Rattle.tb_top.proofs.Ends.Outcomes.{left_by_run, summary_well, left_by_summary}
use Rattle.tb_top.proofs.top.write_summary.Goals as goal

pub returns-in_err-galley : goal.returns-in_err-galley
returns-in_err-galley g c source left =
    let p = err_from_is_err_and c.from_residual.result c.from_residual.ensures.1 in
    rw (p.1, p.2) (inl (Keeps-refl _), refl)

pub returns-in_err-totals : goal.returns-in_err-totals
returns-in_err-totals g c source left =
    let p = err_from_is_err_and c.from_residual-in_err-totals.result c.from_residual-in_err-totals.ensures.1 in
    rw (p.1, p.2)
    (left_by_run c.args.count source (stream (g.K.Sink.held c.args.out.now) (g.K.Sink.held c.paginate.new.out) (g.K.Sink.faults c.args.out.now) (g.K.Sink.faults c.paginate.new.out)) left (subst IsValid c.in_ok-galley.ensures.generated c.in_ok-galley.ensures.valid) c.in_err-totals.field-0.0
    (subst (λ h. Refuses views.Silent (run_of h) (g.K.Sink.held c.args.out.now) (g.K.Sink.held c.paginate.new.out) c.in_err-totals.field-0.0) c.in_ok-galley.ensures.generated c.in_err-totals.ensures.refused)
    (λ is. c.in_err-totals.ensures.silent refl (ap Err is)))

pub returns-in_err-line : goal.returns-in_err-line
returns-in_err-line g c source left =
    let p = err_from_is_err_and c.from_residual-in_err-line.result c.from_residual-in_err-line.ensures.1 in
    rw (p.1, p.2) (inl (Keeps-nothing _ _ c.in_ok-totals.ensures.done.written), refl)

-- a count that rose after it did not fall
rose-later : (a b c : ℕ) → a ≤ b → Rose b c → Rose a c
rose-later a b c low rose = omega arith

pub returns-in_err-write_all : goal.returns-in_err-write_all
returns-in_err-write_all g c source left =
    let p = err_from_is_err_and c.from_residual-in_err-write_all.result c.from_residual-in_err-write_all.ensures.1 in
    let galley = c.in_ok-galley.ensures.generated in
    let n = c.args.count in
    let paged : Paginates views.Silent (run_of (generated n)) (g.K.Sink.held c.args.out.now) (g.K.Sink.held c.paginate.new.out) c.in_ok-totals.totals =
    subst (λ h. Paginates views.Silent (run_of h) (g.K.Sink.held c.args.out.now) (g.K.Sink.held c.paginate.new.out) c.in_ok-totals.totals) galley c.in_ok-totals.ensures.done in
    let text = c.deref.ensures.value ∙ c.in_ok-line.ensures ∙ ap (summary_line n) paged.totals in
    let line = summary_line n (totals_of (run_of (generated n)).events) in
    let part = subst (AppendsPrefix (g.K.Sink.held c.paginate.new.out) (g.K.Sink.held c.write_all.new.out)) text c.in_err-write_all.ensures.err in
    rw (p.1, p.2)
    (left_by_summary n source _ left paged.ended c.in_err-write_all.field-0.0
    (prefix_on _ _ _ line [] line [] paged.written part (sym (append-nil line)))
    (λ is. rose-later _ _ _ c.in_ok-totals.ensures.later (c.in_err-write_all.ensures.cause.failed (ap Err is))))

pub returns : goal.returns
returns g c source left =
    let galley = c.in_ok-galley.ensures.generated in
    let n = c.args.count in
    let paged : Paginates views.Silent (run_of (generated n)) (g.K.Sink.held c.args.out.now) (g.K.Sink.held c.paginate.new.out) c.in_ok-totals.totals =
    subst (λ h. Paginates views.Silent (run_of h) (g.K.Sink.held c.args.out.now) (g.K.Sink.held c.paginate.new.out) c.in_ok-totals.totals) galley c.in_ok-totals.ensures.done in
    let text = c.deref.ensures.value ∙ c.in_ok-line.ensures ∙ ap (summary_line n) paged.totals in
    let whole = subst (Appends (g.K.Sink.held c.paginate.new.out) (g.K.Sink.held c.write_all.new.out)) text c.in_ok-write_all.ensures.ok in
    let laws : HasLawfulRun (generated n) = subst (KeepsLaws (generated n)) paged.totals (subst (λ h. KeepsLaws h c.in_ok-totals.totals) galley c.in_ok-totals.ensures.laws) in
    summary_well n source _ left paged.ended laws (Appends-trans _ _ _ [] (summary_line n (totals_of (run_of (generated n)).events)) paged.written whole)
