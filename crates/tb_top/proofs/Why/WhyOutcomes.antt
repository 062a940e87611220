-- What holds after the run of a galley was told, or not.
use Rattle.std.proofs.Common.{◌≡◌, refl, subst, ℕ, inr, List, [], Option, None, Some, Ok, ap}
use Rattle.tb_galley.specs.declared.Galley.{Galley}
use Rattle.tb_galley.specs.Grammar.{grammar}
use Rattle.tb_galley.specs.GalleyNodes.{expanded}
use Rattle.tb_galley.specs.Valid.{IsValid}
use Rattle.tb_words.specs.declared.Mode.TheVariants as modes
use Rattle.tb_output.specs.State.{first_state}
use Rattle.tb_items.specs.Classes.{classes_of}
use Rattle.tb_steps.specs.Run.{run_of}
use Rattle.tb_report.specs.declared.Totals.{Totals}
use Rattle.tb_run.specs.declared.routine.Routine.{Routine}
use Rattle.tb_run.specs.Routine.{state_of}
use Rattle.tb_laws.specs.Laws.{KeepsLaws}
use Rattle.tb_why.specs.WhyRun.{shown_run}
use Rattle.tb_top.specs.declared.PageFault.{PageFault}
use Rattle.tb_top.specs.declared.PageFault.TheVariants as pages
use Rattle.tb_top.specs.declared.View.TheVariants as views
use Rattle.tb_top.specs.declared.status.Status.TheVariants as answers
use Rattle.tb_top.specs.Answer.{err_line, run_reply, reply_to}
use Rattle.tb_top.specs.Outcome.{Stream, Failed, Gives, HasLawfulRun, LacksRoomForCycles, Decided, Finished, OutOfCycles, StandsAfter}
use Rattle.tb_top.specs.Pages.{StopsText, RefusesText}
use Rattle.tb_top.specs.PagesWritten.{run_on}
use Rattle.tb_top.specs.Refusal.{page_status, page_text}
use Rattle.tb_top.specs.WhyReport.{why_report, why_text}
use Rattle.tb_top.specs.WhyPages.{Explains}
use Rattle.tb_top.proofs.Ends.CycleAnswers.{no-room-for-text}
use Rattle.tb_top.proofs.Ends.Outcomes.{answer_at-well, line_at-well, page_status-ended, page_text-ended, decided_by, shown_by, cut_off_by, galley_with, replies_to, why_reads}
use Rattle.tb_top.proofs.Joined.LawfulRuns.{keeps-laws}
use Rattle.tb_top.proofs.Written.FirstRuns.{runs-galley}

-- ---- the laws

-- a run that ended well kept the laws
pub why-laws : (g : Galley) → IsValid g → (text : List ℕ) (old new : Option (List ℕ)) (t : Totals) → Explains (run_of g) text old new t → KeepsLaws g t
why-laws g valid text old new t h = keeps-laws g valid views.Silent None None t (record { ended = h.ended; totals = h.totals; written = tt })

-- ---- the run of a galley

-- a routine that shows the first state of a galley is told of as the galley
module _ (g : Galley) (r : Routine) (state : state_of r ≡ first_state g.params (classes_of g) (expanded g)) (old new : Option (List ℕ)) where
  text-is : why_text (state_of r) ≡ why_report g
  unfolding why_report run_of shown_run
  text-is = ap why_text state

  pub explains-galley : (t : Totals) → Explains (run_on r) (why_text (state_of r)) old new t → Explains (run_of g) (why_report g) old new t
  explains-galley t h =
      subst (λ x. Explains x (why_report g) old new t) (runs-galley g r state)
      (subst (λ ls. Explains (run_on r) ls old new t) text-is h)

  pub refuses-galley : (e : PageFault) → RefusesText (run_on r).end (why_text (state_of r)) old new e → RefusesText (run_of g).end (why_report g) old new e
  refuses-galley e h =
      subst (λ x. RefusesText x.end (why_report g) old new e) (runs-galley g r state)
      (subst (λ ls. RefusesText (run_on r).end ls old new e) text-is h)

-- ---- the outcome

module _ (input : List ℕ) (source out : Stream) (read : Gives source.before source.after input) (g : Galley) (is : grammar input ≡ Ok g) where
  replied : reply_to modes.Why input ≡ run_reply (why_report g) (run_of g)
  replied = replies_to modes.Why (λ g. run_reply (why_report g) (run_of g)) why_reads input g is

  -- what holds if `why_pages` returns Ok
  pub why-well : (t : Totals) → Explains (run_of g) (why_report g) out.before out.after t → HasLawfulRun g → Finished (Some modes.Why) source out []
  why-well t p laws =
      shown_by modes.Why input source out read HasLawfulRun (galley_with input g is HasLawfulRun laws) answers.Done [] (run_reply (why_report g) (run_of g)) replied
      (answer_at-well (run_of g).end p.ended) (line_at-well (run_of g).end p.ended) p.written

  ended : (f : PageFault) → StopsText (run_of g).end (why_report g) out.before out.after f → Decided (Some modes.Why) (page_status f) source out (err_line (page_text f))
  ended f r = decided_by modes.Why input source out read _ _ (run_reply (why_report g) (run_of g)) replied (page_status-ended (run_of g).end f r.ended) (page_text-ended (run_of g).end f r.ended) r.written

  out-of-cycles : IsValid g → (n : ℕ) → StopsText (run_of g).end (why_report g) out.before out.after (pages.DeadCycles n) → OutOfCycles (Some modes.Why) source out (err_line (page_text (pages.DeadCycles n)))
  out-of-cycles valid n r =
      shown_by modes.Why input source out read LacksRoomForCycles (galley_with input g is LacksRoomForCycles (no-room-for-text g valid (why_report g) out.before out.after n r)) answers.DeadCycles (err_line (page_text (pages.DeadCycles n)))
      (run_reply (why_report g) (run_of g)) replied (page_status-ended (run_of g).end (pages.DeadCycles n) r.ended) (page_text-ended (run_of g).end (pages.DeadCycles n) r.ended) r.written

  -- what holds after a refusal of `why_pages`
  pub left-by-why : IsValid g → (f : PageFault) → RefusesText (run_of g).end (why_report g) out.before out.after f → (f ≡ pages.WriteFault → Failed out) → StandsAfter (Some modes.Why) (page_status f) source out (err_line (page_text f))
  left-by-why valid (pages.PoolFull line live) r rose = ended (pages.PoolFull line live) r
  left-by-why valid (pages.DeadCycles n) r rose = out-of-cycles valid n r
  left-by-why valid (pages.PageLimit n) r rose = ended (pages.PageLimit n) r
  left-by-why valid (pages.NodeLimit n) r rose = ended (pages.NodeLimit n) r
  left-by-why valid pages.WriteFault r rose = (cut_off_by modes.Why input source out read (run_reply (why_report g) (run_of g)) replied refl r, rose refl, refl)
  left-by-why valid pages.Memory r rose = (inr (cut_off_by modes.Why input source out read (run_reply (why_report g) (run_of g)) replied refl r), refl)
