use Rattle.std.proofs.Common.{◌≡◌, sym, ◌∙◌, ap, subst, refl, inl, None, FitsSigned, rules}
use Rattle.std.specs.Int.{w128}
use Rattle.std.proofs.lemmas.Int.{to_z-of_z}
use Rattle.std.specs.Prelude.{IfErr}
use Rattle.std.specs.Io.KnownBytes.{Appends}
use Rattle.std.proofs.lemmas.Result.{err_from_is_err_and, IfErr-weaker, IfErr-at_err}
use Rattle.std.proofs.KnownBytes.{Keeps-refl}
use Rattle.tb_steps.specs.Run.{run_of}
use Rattle.tb_plans.specs.Plans.{with_breaks}
use Rattle.tb_rate.specs.RatedRun.{rated_run}
use Rattle.tb_best.specs.BestLines.{broken_columns}
use Rattle.tb_top.specs.declared.PageFault.TheVariants.{WriteFault}
use Rattle.tb_top.specs.declared.View.TheVariants.{Report}
use Rattle.tb_top.specs.declared.chosen_pages.BestPagesFault.TheVariants.{Pages}
use Rattle.tb_top.specs.Pages.{end_fault, Paginates, Refuses}
use Rattle.tb_top.specs.PagesWritten.{write_fault}
use Rattle.tb_top.specs.RatedPages.{StopsRated}
use Rattle.tb_top.specs.Views.{FailsToShow}
use Rattle.tb_top.specs.BestText.{shown_columns, plan_text, AreNumbersOf}
use Rattle.tb_top.specs.CanRun.{CanRun}
use Rattle.tb_top.proofs.Best.BrokenGalleys.{plan-numbers, broken-runs}
use Rattle.tb_top.proofs.Best.BestWriting.{greedy-plan, best-lines-are, no-write-pages, no-write-plan, greedy-refused, plan-refused, columns-refused, lines-cut, report-refused, all-written, best-not-for-cycles}
use Rattle.tb_top.proofs.chosen_pages.best_pages.Goals as goal

-- ---- what is asked

pub best_breaks-requires-clause-sum : goal.best_breaks-requires-clause-sum
best_breaks-requires-clause-sum g c =
    let fits : FitsSigned w128 c.in_ok-greedy.greedy = search rules in
    simp to_z-of_z (greedy-plan c.args.galley.now c.in_ok-greedy.greedy c.in_ok-greedy.ensures.demerits)

pub rated_columns-requires : goal.rated_columns-requires
rated_columns-requires g c =
    let m = c.args.galley.now in
    let is = c.in_ok-broken.ensures ∙ ap (with_breaks m) c.as_slice.ensures.value in
    subst CanRun (sym is) (broken-runs m c.in_ok-plan.plan.places.items c.requires.valid c.in_ok-plan.ensures.best.is_plan)

pub plan_text-requires : goal.plan_text-requires
plan_text-requires g c =
    let m = c.args.galley.now in
    subst (λ ns. AreNumbersOf ns c.as_slice-4.result.now) (sym c.as_slice-2.ensures)
    (subst (AreNumbersOf m.items) (sym c.as_slice-4.ensures.value) (plan-numbers m c.in_ok-plan.plan.places.items c.in_ok-plan.ensures.best.is_plan))

pub paginate_runnable-requires : goal.paginate_runnable-requires
paginate_runnable-requires g c =
    let m = c.args.galley.now in
    let is = c.in_ok-broken.ensures ∙ ap (with_breaks m) c.as_slice.ensures.value in
    subst CanRun (sym is) (broken-runs m c.in_ok-plan.plan.places.items c.requires.valid c.in_ok-plan.ensures.best.is_plan)

-- ---- the run without breaks was refused

pub returns-in_err-greedy-clause-refused : goal.returns-in_err-greedy-clause-refused
returns-in_err-greedy-clause-refused g c =
    let p = err_from_is_err_and c.from_residual.result c.from_residual.ensures.1 in
    rw (p.1, p.2) (greedy-refused c.args.galley.now _ (Keeps-refl _) c.in_err-greedy.field-0.0 c.in_err-greedy.ensures.refused)

pub returns-in_err-greedy-clause-cycles : goal.returns-in_err-greedy-clause-cycles
returns-in_err-greedy-clause-cycles g c = λ room. IfErr-weaker c.from_residual.result _ _ (best-not-for-cycles c.args.galley.now c.requires.valid room _ _) (returns-in_err-greedy-clause-refused g c)

pub returns-in_err-greedy-clause-cause : goal.returns-in_err-greedy-clause-cause
returns-in_err-greedy-clause-cause g c = λ is.
    let p = err_from_is_err_and c.from_residual.result c.from_residual.ensures.1 in
    let never : IfErr c.from_residual.result (λ e. e ≡ Pages WriteFault → ⊥) = rw (p.1, p.2) (no-write-pages _ c.in_err-greedy.field-0.0 c.in_err-greedy.ensures.refused) in
    absurd (IfErr-at_err _ is never refl)

-- ---- there is no plan

pub returns-in_err-plan-clause-refused : goal.returns-in_err-plan-clause-refused
returns-in_err-plan-clause-refused g c =
    let p = err_from_is_err_and c.from_residual-in_err-plan.result c.from_residual-in_err-plan.ensures.1 in
    rw (p.1) (plan-refused c.args.galley.now _ (Keeps-refl _) _ p.2 c.in_ok-greedy.ensures.done)

pub returns-in_err-plan-clause-cycles : goal.returns-in_err-plan-clause-cycles
returns-in_err-plan-clause-cycles g c = λ room. IfErr-weaker c.from_residual-in_err-plan.result _ _ (best-not-for-cycles c.args.galley.now c.requires.valid room _ _) (returns-in_err-plan-clause-refused g c)

pub returns-in_err-plan-clause-cause : goal.returns-in_err-plan-clause-cause
returns-in_err-plan-clause-cause g c = λ is.
    let p = err_from_is_err_and c.from_residual-in_err-plan.result c.from_residual-in_err-plan.ensures.1 in
    let never : IfErr c.from_residual-in_err-plan.result (λ e. e ≡ Pages WriteFault → ⊥) = rw (p.1) (no-write-plan _ p.2) in
    absurd (IfErr-at_err _ is never refl)

-- ---- there was no memory for the galley with breaks

pub returns-in_err-broken-clause-refused : goal.returns-in_err-broken-clause-refused
returns-in_err-broken-clause-refused g c =
    let p = err_from_is_err_and c.from_residual-in_err-broken.result c.from_residual-in_err-broken.ensures.1 in
    rw (p.1, p.2) (inl (Keeps-refl _))

-- ---- the run with the breaks was refused

pub returns-in_err-columns-clause-refused : goal.returns-in_err-columns-clause-refused
returns-in_err-columns-clause-refused g c =
    let m = c.args.galley.now in
    let p = err_from_is_err_and c.from_residual-in_err-columns.result c.from_residual-in_err-columns.ensures.1 in
    let is = c.in_ok-broken.ensures ∙ ap (with_breaks m) c.as_slice.ensures.value in
    rw (p.1, p.2)
    (columns-refused m _ (Keeps-refl _) c.in_ok-plan.plan.places.items _ c.in_ok-plan.ensures.best c.in_ok-greedy.ensures.done c.in_err-columns.field-0.0
    (subst (λ x. StopsRated (run_of x).end c.in_err-columns.field-0.0) is c.in_err-columns.ensures.refused))

pub returns-in_err-columns-clause-cycles : goal.returns-in_err-columns-clause-cycles
returns-in_err-columns-clause-cycles g c = λ room. IfErr-weaker c.from_residual-in_err-columns.result _ _ (best-not-for-cycles c.args.galley.now c.requires.valid room _ _) (returns-in_err-columns-clause-refused g c)

pub returns-in_err-columns-clause-cause : goal.returns-in_err-columns-clause-cause
returns-in_err-columns-clause-cause g c = λ is.
    let p = err_from_is_err_and c.from_residual-in_err-columns.result c.from_residual-in_err-columns.ensures.1 in
    let never : IfErr c.from_residual-in_err-columns.result (λ e. e ≡ Pages WriteFault → ⊥) = rw (p.1, p.2) (no-write-pages _ c.in_err-columns.field-0.0 c.in_err-columns.ensures.refused) in
    absurd (IfErr-at_err _ is never refl)

-- ---- there was no memory for the lines

pub returns-in_err-text-clause-refused : goal.returns-in_err-text-clause-refused
returns-in_err-text-clause-refused g c =
    let p = err_from_is_err_and c.from_residual-in_err-text.result c.from_residual-in_err-text.ensures.1 in
    rw (p.1, p.2) (inl (Keeps-refl _))

-- ---- the lines were not written

pub returns-in_err-write_text-clause-refused : goal.returns-in_err-write_text-clause-refused
returns-in_err-write_text-clause-refused g c =
    let m = c.args.galley.now in
    let b = c.in_ok-plan.plan in
    let best = c.in_ok-plan.ensures.best in
    let is = c.in_ok-broken.ensures ∙ ap (with_breaks m) c.as_slice.ensures.value in
    let ended = subst (λ x. end_fault (run_of x).end ≡ None) is c.in_ok-columns.ensures.done in
    let found = c.in_ok-columns.ensures.columns ∙ ap (λ x. broken_columns None (rated_run x)) is in
    let fits : FitsSigned w128 c.in_ok-greedy.greedy = search rules in
    let least : FitsSigned w128 b.demerits = search rules in
    let put = (simp to_z-of_z at c.in_ok-text.ensures) ∙ (λ i. plan_text (c.as_slice-2.ensures i) (shown_columns (c.as_slice-3.ensures.value i)) c.in_ok-greedy.greedy b.demerits (c.as_slice-4.ensures.value i)) in
    let lines = best-lines-are m b.places.items c.in_ok-greedy.greedy b.demerits (shown_columns c.in_ok-columns.columns.items) c.in_ok-text.text.items c.in_ok-greedy.ensures.demerits best found put in
    let old = g.K.Sink.held c.args.out.now in
    let mid = g.K.Sink.held c.write_text.new.out in
    let p = err_from_is_err_and c.from_residual-in_err-write_text.result c.from_residual-in_err-write_text.ensures.1 in
    let f = c.in_err-write_text.field-0.0 in
    rw (p.1, p.2)
    (lines-cut m b.places.items b.demerits best c.in_ok-greedy.ensures.done ended c.in_ok-text.text.items lines old mid (g.K.Sink.faults c.args.out.now) (g.K.Sink.faults c.write_text.new.out) f
    (subst (λ t. FailsToShow write_fault Report old mid (g.K.Sink.faults c.args.out.now) (g.K.Sink.faults c.write_text.new.out) t f) c.deref.ensures.value c.in_err-write_text.ensures.refused))

-- ---- the report was not written

pub returns-in_err-paginate_runnable-clause-refused : goal.returns-in_err-paginate_runnable-clause-refused
returns-in_err-paginate_runnable-clause-refused g c =
    let m = c.args.galley.now in
    let b = c.in_ok-plan.plan in
    let best = c.in_ok-plan.ensures.best in
    let is = c.in_ok-broken.ensures ∙ ap (with_breaks m) c.as_slice.ensures.value in
    let ended = subst (λ x. end_fault (run_of x).end ≡ None) is c.in_ok-columns.ensures.done in
    let found = c.in_ok-columns.ensures.columns ∙ ap (λ x. broken_columns None (rated_run x)) is in
    let fits : FitsSigned w128 c.in_ok-greedy.greedy = search rules in
    let least : FitsSigned w128 b.demerits = search rules in
    let put = (simp to_z-of_z at c.in_ok-text.ensures) ∙ (λ i. plan_text (c.as_slice-2.ensures i) (shown_columns (c.as_slice-3.ensures.value i)) c.in_ok-greedy.greedy b.demerits (c.as_slice-4.ensures.value i)) in
    let lines = best-lines-are m b.places.items c.in_ok-greedy.greedy b.demerits (shown_columns c.in_ok-columns.columns.items) c.in_ok-text.text.items c.in_ok-greedy.ensures.demerits best found put in
    let old = g.K.Sink.held c.args.out.now in
    let mid = g.K.Sink.held c.write_text.new.out in
    let new = g.K.Sink.held c.paginate_runnable.new.out in
    let p = err_from_is_err_and c.from_residual-in_err-paginate_runnable.result c.from_residual-in_err-paginate_runnable.ensures.1 in
    let f = c.in_err-paginate_runnable.field-0.0 in
    let a = subst (Appends old mid) c.deref.ensures.value c.in_ok-write_text.ensures.done in
    rw (p.1, p.2)
    (report-refused m b.places.items b.demerits best c.in_ok-greedy.ensures.done ended c.in_ok-text.text.items lines old mid new a f
    (subst (λ x. Refuses Report (run_of x) mid new f) is c.in_err-paginate_runnable.ensures.refused))

-- ---- all was written

pub returns-clause-done : goal.returns-clause-done
returns-clause-done g c =
    let m = c.args.galley.now in
    let b = c.in_ok-plan.plan in
    let best = c.in_ok-plan.ensures.best in
    let is = c.in_ok-broken.ensures ∙ ap (with_breaks m) c.as_slice.ensures.value in
    let ended = subst (λ x. end_fault (run_of x).end ≡ None) is c.in_ok-columns.ensures.done in
    let found = c.in_ok-columns.ensures.columns ∙ ap (λ x. broken_columns None (rated_run x)) is in
    let fits : FitsSigned w128 c.in_ok-greedy.greedy = search rules in
    let least : FitsSigned w128 b.demerits = search rules in
    let put = (simp to_z-of_z at c.in_ok-text.ensures) ∙ (λ i. plan_text (c.as_slice-2.ensures i) (shown_columns (c.as_slice-3.ensures.value i)) c.in_ok-greedy.greedy b.demerits (c.as_slice-4.ensures.value i)) in
    let lines = best-lines-are m b.places.items c.in_ok-greedy.greedy b.demerits (shown_columns c.in_ok-columns.columns.items) c.in_ok-text.text.items c.in_ok-greedy.ensures.demerits best found put in
    let old = g.K.Sink.held c.args.out.now in
    let mid = g.K.Sink.held c.write_text.new.out in
    let new = g.K.Sink.held c.paginate_runnable.new.out in
    let a = subst (Appends old mid) c.deref.ensures.value c.in_ok-write_text.ensures.done in
    all-written m b.places.items b.demerits best c.in_ok-greedy.ensures.done ended c.in_ok-text.text.items lines old mid new a _
    (subst (λ x. Paginates Report (run_of x) mid new c.in_ok-paginate_runnable.field-0) is c.in_ok-paginate_runnable.ensures.done)
