-- What the mode best writes, step by step.
use Rattle.std.proofs.Common.{◌≡◌, refl, sym, ◌∙◌, ap, subst, ◌⊎◌, inl, inr, ℕ, ℤ, pos, List, [], ◌++◌, Option, None, Some, append-nil, arith}
use Rattle.std.specs.Prelude.{MatchOption, ◌+ℤ◌}
use Rattle.std.specs.Io.KnownBytes.{Keeps, Appends}
use Rattle.std.proofs.KnownBytes.{Appends-trans}
use Rattle.std.proofs.lemmas.Int.{ints}
use Rattle.tb_io.specs.Sink.{AppendsPrefix}
use Rattle.tb_io.specs.declared.sink.SinkFault.{SinkFault}
use Rattle.tb_io.specs.declared.sink.SinkFault.TheVariants as outputs
use Rattle.tb_io.proofs.Appended.{prefix_longer, prefix_on}
use Rattle.tb_galley.specs.declared.Galley.{Galley}
use Rattle.tb_galley.specs.Valid.{IsValid}
use Rattle.tb_report.specs.declared.Totals.{Totals}
use Rattle.tb_steps.specs.Run.{End, done, run_of}
use Rattle.tb_plans.specs.Plans.{with_breaks}
use Rattle.tb_rate.specs.RatedRun.{demerits, rated_run}
use Rattle.tb_laws.specs.DeadCycles.{HasRoomForCycles}
use Rattle.tb_best.specs.PlanDemerits.{plan_demerits}
use Rattle.tb_best.specs.BestPlan.{IsBest, HasNoPlan}
use Rattle.tb_best.specs.BestOf.{RatedPlan, best_of}
use Rattle.tb_best.specs.BestLines.{BrokenColumn, broken_columns, lines_by, best_lines}
use Rattle.tb_best.proofs.BestOfLemmas.{best-of-is, best-one}
use Rattle.tb_best.proofs.PlanMarks.{broken-none}
use Rattle.tb_best.proofs.RatedPlans.{plan-rated}
use Rattle.tb_top.specs.declared.PageFault.{PageFault}
use Rattle.tb_top.specs.declared.PageFault.TheVariants as pages
use Rattle.tb_top.specs.declared.View.TheVariants as views
use Rattle.tb_top.specs.declared.chosen_pages.BestPagesFault.{BestPagesFault}
use Rattle.tb_top.specs.declared.chosen_pages.BestPagesFault.TheVariants as refused
use Rattle.tb_top.specs.Pages.{end_fault, Paginates, Refuses}
use Rattle.tb_top.specs.PagesWritten.{write_fault}
use Rattle.tb_top.specs.Report.{report}
use Rattle.tb_top.specs.RatedPages.{StopsRated}
use Rattle.tb_top.specs.Views.{FailsToShow}
use Rattle.tb_top.specs.BestText.{plan_text}
use Rattle.tb_top.specs.BestReport.{best_report, IsBestRun, WritesBest, CutsBest, RefusesBest, IsNoCycleRefusal, IsNoPlan}
use Rattle.tb_top.proofs.Best.BestOutcomes.{no-room-for-best}

-- ---- the demerits without breaks

no-breaks : (g : Galley) → with_breaks g [] ≡ g
no-breaks g = ap (λ ns. record g { items = ns }) (broken-none 0 g.items)

none-added : (d : ℤ) → (pos 0 +ℤ d) ≡ d
none-added d = omega (arith, ints)

pub greedy-plan : (g : Galley) (d : ℤ) → demerits g ≡ Some d → plan_demerits g [] ≡ Some d
greedy-plan g d h = plan-rated g [] d (ap demerits (no-breaks g) ∙ h) ∙ ap Some (none-added d)

-- ---- the best plan

is-best-by : (g : Galley) (plan : List ℕ) (total : ℤ) → IsBest g plan total → (o : Option RatedPlan) → MatchOption o (HasNoPlan g) (λ w. IsBest g w.plan w.total) → o ≡ Some (record { plan = plan; total = total })
is-best-by g plan total best None h = absurd (h plan total best.is_plan best.sum)
is-best-by g plan total best (Some v) h = let e = best-one g v.plan plan v.total total h best in λ i. Some (record { plan = e.0 i; total = e.1 i })

pub is-best : (g : Galley) (plan : List ℕ) (total : ℤ) → IsBest g plan total → best_of g ≡ Some (record { plan = plan; total = total })
is-best g plan total best = is-best-by g plan total best (best_of g) (best-of-is g)

-- the lines of the best plan
pub best-lines-are : (g : Galley) (plan : List ℕ) (greedy total : ℤ) (columns : List BrokenColumn) (text : List ℕ) → demerits g ≡ Some greedy → IsBest g plan total → columns ≡ broken_columns None (rated_run (with_breaks g plan))
    → text ≡ plan_text g.items columns greedy total plan → best_lines g ≡ text
unfolding best_lines
best-lines-are g plan greedy total columns text rated best found is =
    (λ i. lines_by g (greedy-plan g greedy rated i) (is-best g plan total best i))
    ∙ ap (λ cs. plan_text g.items cs greedy total plan) (sym found)
    ∙ sym is

-- ---- faults

no-write-end : (e : End) → end_fault e ≡ Some pages.WriteFault → ⊥
no-write-end (done left) is = cc
no-write-end e is = cc

pub no-write-rated : (e : End) (f : PageFault) → StopsRated e f → f ≡ pages.WriteFault → ⊥
no-write-rated e f (inl h) is = cc
no-write-rated e f (inr h) is = no-write-end e (h ∙ ap Some is)

pub no-write-pages : (e : End) (f : PageFault) → StopsRated e f → refused.Pages f ≡ refused.Pages pages.WriteFault → ⊥
no-write-pages e f h is = no-write-rated e f h (let same : f ≡ pages.WriteFault = cc in same)

pub no-write-plan : (f : BestPagesFault) → IsNoPlan f → f ≡ refused.Pages pages.WriteFault → ⊥
no-write-plan f (inl h) is = cc
no-write-plan f (inr h) is = cc

module _ (g : Galley) (old : Option (List ℕ)) (kept : Keeps old old) where
  -- a run was refused, and nothing was written
  stops-by : (f : PageFault) → (end_fault (run_of g).end ≡ Some f) ⊎ ((w : RatedPlan) × IsBestRun g (Some f) w) → (f ≡ pages.WriteFault → ⊥) → RefusesBest g old old (refused.Pages f)
  stops-by pages.WriteFault h never = absurd (never refl)
  stops-by pages.Memory h never = inl kept
  stops-by f h never = record { ended = h; kept = kept }

  memory-by : (f : PageFault) → f ≡ pages.Memory → RefusesBest g old old (refused.Pages f)
  memory-by f is = subst (λ x. RefusesBest g old old (refused.Pages x)) (sym is) (inl kept)

  pub greedy-refused : (f : PageFault) → StopsRated (run_of g).end f → RefusesBest g old old (refused.Pages f)
  greedy-refused f (inl h) = memory-by f h
  greedy-refused f (inr h) = stops-by f (inl h) (no-write-rated (run_of g).end f (inr h))

  pub plan-refused : (f : BestPagesFault) → IsNoPlan f → end_fault (run_of g).end ≡ None → RefusesBest g old old f
  plan-refused f (inl h) ended = subst (RefusesBest g old old) (sym h) (ended, kept)
  plan-refused f (inr h) ended = subst (RefusesBest g old old) (sym h) (inl kept)

  pub columns-refused : (plan : List ℕ) (total : ℤ) → IsBest g plan total → end_fault (run_of g).end ≡ None → (f : PageFault) → StopsRated (run_of (with_breaks g plan)).end f → RefusesBest g old old (refused.Pages f)
  columns-refused plan total best greedy f (inl h) = memory-by f h
  columns-refused plan total best greedy f (inr h) =
      stops-by f (inr (record { plan = plan; total = total }, record { greedy = greedy; best = is-best g plan total best; ended = h })) (no-write-rated (run_of (with_breaks g plan)).end f (inr h))

-- ---- the text

module _ (g : Galley) (plan : List ℕ) (total : ℤ) (best : IsBest g plan total) (greedy : end_fault (run_of g).end ≡ None) (ended : end_fault (run_of (with_breaks g plan)).end ≡ None) (text : List ℕ) (is : best_lines g ≡ text) where
  abbrev chosen : RatedPlan
  chosen = record { plan = plan; total = total }

  run-is : IsBestRun g None chosen
  run-is = record { greedy = greedy; best = is-best g plan total best; ended = ended }

  whole-is : best_report g chosen ≡ text ++ report (run_of (with_breaks g plan))
  whole-is = ap (λ ls. ls ++ report (run_of (with_breaks g plan))) is

  cut-by : (old new : Option (List ℕ)) → AppendsPrefix old new (text ++ report (run_of (with_breaks g plan))) → CutsBest g old new
  cut-by old new h = record { plan = chosen; run = run-is; written = subst (AppendsPrefix old new) (sym whole-is) h }

  text-cut : (old new : Option (List ℕ)) (x : SinkFault) (f : PageFault) → f ≡ write_fault x → CutsBest g old new → RefusesBest g old new (refused.Pages f)
  text-cut old new outputs.Failed f e h = subst (λ y. RefusesBest g old new (refused.Pages y)) (sym e) h
  text-cut old new outputs.Memory f e h = subst (λ y. RefusesBest g old new (refused.Pages y)) (sym e) (inr h)

  -- the lines were not written as a whole
  pub lines-cut : (old new : Option (List ℕ)) (before now : ℕ) (f : PageFault) → FailsToShow write_fault views.Report old new before now text f → RefusesBest g old new (refused.Pages f)
  lines-cut old new before now f h = text-cut old new h.fault f h.is (cut-by old new (prefix_longer old new text (report (run_of (with_breaks g plan))) h.part))

  report-cut : (old mid new : Option (List ℕ)) → Appends old mid text → AppendsPrefix mid new (report (run_of (with_breaks g plan))) → CutsBest g old new
  report-cut old mid new a b =
      let rest = report (run_of (with_breaks g plan)) in
      cut-by old new (prefix_on old mid new (text ++ rest) text rest [] a b (ap (λ ls. text ++ ls) (sym (append-nil rest))))

  not-ended : (f : PageFault) → end_fault (run_of (with_breaks g plan)).end ≡ Some f → ⊥
  not-ended f h = let no : None ≡ Some f = sym ended ∙ h in cc

  -- the report was not written as a whole
  pub report-refused : (old mid new : Option (List ℕ)) → Appends old mid text → (f : PageFault) → Refuses views.Report (run_of (with_breaks g plan)) mid new f → RefusesBest g old new (refused.Pages f)
  report-refused old mid new a pages.WriteFault h = report-cut old mid new a h
  report-refused old mid new a pages.Memory h = inr (report-cut old mid new a h)
  report-refused old mid new a f h = absurd (not-ended f h.ended)

  -- all was written
  pub all-written : (old mid new : Option (List ℕ)) → Appends old mid text → (t : Totals) → Paginates views.Report (run_of (with_breaks g plan)) mid new t → WritesBest g old new
  all-written old mid new a t h = record {
    plan = chosen;
    run = run-is;
    written = subst (Appends old new) (sym whole-is) (Appends-trans old mid new text (report (run_of (with_breaks g plan))) a h.written);
  }

-- ---- dead cycles

pub best-not-for-cycles : (g : Galley) → IsValid g → HasRoomForCycles g → (old new : Option (List ℕ)) (f : BestPagesFault) → RefusesBest g old new f → IsNoCycleRefusal f
best-not-for-cycles g valid room old new (refused.Pages (pages.DeadCycles n)) h = absurd (no-room-for-best g valid old new n h room)
best-not-for-cycles g valid room old new f h = tt
