-- What holds after the pages of a galley were rated, or not.
use Rattle.std.proofs.Common.{◌≡◌, refl, ◌∙◌, sym, ap, subst, ℕ, ℤ, inl, inr, List, [], Option, None, Some, Result, Ok, Err}
use Rattle.std.specs.Prelude.{IfErr}
use Rattle.std.specs.Io.KnownBytes.{Appends}
use Rattle.tb_io.specs.Sink.{AppendsPrefix}
use Rattle.tb_galley.specs.declared.Galley.{Galley}
use Rattle.tb_galley.specs.Grammar.{grammar}
use Rattle.tb_galley.specs.GalleyNodes.{expanded}
use Rattle.tb_galley.specs.Valid.{IsValid}
use Rattle.tb_words.specs.declared.Mode.TheVariants as modes
use Rattle.tb_output.specs.State.{State, first_state}
use Rattle.tb_items.specs.Classes.{classes_of}
use Rattle.tb_steps.specs.Run.{End, run_of, run_of_state}
use Rattle.tb_laws.specs.Laws.{KeepsLaws}
use Rattle.tb_laws.specs.Totals.{totals_of}
use Rattle.tb_rate.specs.declared.PlacePenalty.{PlacePenalty}
use Rattle.tb_rate.specs.Places.{place_penalties}
use Rattle.tb_rate.specs.RatedRun.{demerits, demerits_of_state, rated_of_state, rated_run}
use Rattle.tb_best.specs.BestLines.{broken_columns}
use Rattle.tb_top.specs.declared.PageFault.{PageFault}
use Rattle.tb_top.specs.declared.PageFault.TheVariants as pages
use Rattle.tb_top.specs.declared.View.TheVariants as views
use Rattle.tb_top.specs.declared.status.Status.TheVariants as answers
use Rattle.tb_top.specs.Answer.{err_line, run_reply, reply_to}
use Rattle.tb_top.specs.Outcome.{Stream, Failed, Gives, HasLawfulRun, LacksRoomForCycles, Decided, Finished, OutOfCycles, StandsAfter}
use Rattle.tb_top.specs.Pages.{end_fault, StopsText, RefusesText}
use Rattle.tb_top.specs.RatedReport.{rated_report, rated_text}
use Rattle.tb_top.specs.RatedPages.{Rates, StopsRated}
use Rattle.tb_top.specs.Refusal.{page_status, page_text}
use Rattle.tb_top.proofs.Ends.CycleAnswers.{no-room-for-text}
use Rattle.tb_top.proofs.Ends.Outcomes.{answer_at-well, line_at-well, page_status-ended, page_text-ended, decided_by, shown_by, cut_off_by, galley_with, replies_to, rate_reads}
use Rattle.tb_top.proofs.Joined.LawfulRuns.{keeps-laws}

-- ---- the laws

-- a run that ended well kept the laws
pub rated-laws : (g : Galley) → IsValid g → (text : List ℕ) (old new : Option (List ℕ)) (d : ℤ) → Rates (run_of g).end (demerits g) text old new d → KeepsLaws g (totals_of (run_of g).events)
rated-laws g valid text old new d h = keeps-laws g valid views.Silent None None (totals_of (run_of g).events) (record { ended = h.ended; totals = refl; written = tt })

-- ---- the run of a galley

-- a run of these places from the first state of a galley is rated as the galley
module _ (g : Galley) (s : State) (is : s ≡ first_state g.params (classes_of g) (expanded g)) (places : List PlacePenalty) (placed : places ≡ place_penalties g.items) (old new : Option (List ℕ)) where
  end-is : (run_of_state s).end ≡ (run_of g).end
  unfolding run_of
  end-is = ap (λ t. (run_of_state t).end) is

  sum-is : demerits_of_state places s ≡ demerits g
  unfolding demerits
  sum-is = λ i. demerits_of_state (placed i) (is i)

  text-is : rated_text places s ≡ rated_report g
  unfolding rated_report
  text-is = λ i. rated_text (placed i) (is i)

  pub columns-are : broken_columns None (rated_of_state places s) ≡ broken_columns None (rated_run g)
  unfolding rated_run
  columns-are = λ i. broken_columns None (rated_of_state (placed i) (is i))

  pub rates-galley : (d : ℤ) → Rates (run_of_state s).end (demerits_of_state places s) (rated_text places s) old new d → Rates (run_of g).end (demerits g) (rated_report g) old new d
  rates-galley d h = record { ended = ap end_fault (sym end-is) ∙ h.ended; demerits = sym sum-is ∙ h.demerits; written = subst (Appends old new) text-is h.written }

  stops-galley : (e : PageFault) → StopsText (run_of_state s).end (rated_text places s) old new e → StopsText (run_of g).end (rated_report g) old new e
  stops-galley e h = record { ended = ap end_fault (sym end-is) ∙ h.ended; written = subst (Appends old new) text-is h.written }

  pub refuses-galley : (e : PageFault) → RefusesText (run_of_state s).end (rated_text places s) old new e → RefusesText (run_of g).end (rated_report g) old new e
  refuses-galley (pages.PoolFull line live) h = stops-galley (pages.PoolFull line live) h
  refuses-galley (pages.DeadCycles n) h = stops-galley (pages.DeadCycles n) h
  refuses-galley (pages.PageLimit n) h = stops-galley (pages.PageLimit n) h
  refuses-galley (pages.NodeLimit n) h = stops-galley (pages.NodeLimit n) h
  refuses-galley pages.WriteFault h = subst (AppendsPrefix old new) text-is h
  refuses-galley pages.Memory h = subst (AppendsPrefix old new) text-is h

-- a run of which nothing is seen, written to a sink that never fails
pub stops-unseen : (end : End) (text : List ℕ) (old new : Option (List ℕ)) (f : PageFault) → (f ≡ pages.WriteFault → ⊥) → RefusesText end text old new f → StopsRated end f
stops-unseen end text old new pages.WriteFault never h = absurd (never refl)
stops-unseen end text old new pages.Memory never h = inl refl
stops-unseen end text old new f never h = inr h.ended

pub unseen-refused : {T : Type 0} (r : Result T PageFault) (end : End) (text : List ℕ) (old new : Option (List ℕ)) → (r ≡ Err pages.WriteFault → ⊥) → IfErr r (RefusesText end text old new) → IfErr r (StopsRated end)
unseen-refused (Ok v) end text old new never h = tt
unseen-refused (Err f) end text old new never h = stops-unseen end text old new f (λ is. never (ap Err is)) h

-- ---- the outcome

module _ (input : List ℕ) (source out : Stream) (read : Gives source.before source.after input) (g : Galley) (is : grammar input ≡ Ok g) where
  replied : reply_to modes.Rate input ≡ run_reply (rated_report g) (run_of g)
  replied = replies_to modes.Rate (λ g. run_reply (rated_report g) (run_of g)) rate_reads input g is

  -- what holds if `rate_pages` returns Ok
  pub rated-well : (d : ℤ) → Rates (run_of g).end (demerits g) (rated_report g) out.before out.after d → KeepsLaws g (totals_of (run_of g).events) → Finished (Some modes.Rate) source out []
  rated-well d p laws =
      shown_by modes.Rate input source out read HasLawfulRun (galley_with input g is HasLawfulRun laws) answers.Done [] (run_reply (rated_report g) (run_of g)) replied
      (answer_at-well (run_of g).end p.ended) (line_at-well (run_of g).end p.ended) p.written

  ended : (f : PageFault) → StopsText (run_of g).end (rated_report g) out.before out.after f → Decided (Some modes.Rate) (page_status f) source out (err_line (page_text f))
  ended f r = decided_by modes.Rate input source out read _ _ (run_reply (rated_report g) (run_of g)) replied (page_status-ended (run_of g).end f r.ended) (page_text-ended (run_of g).end f r.ended) r.written

  out-of-cycles : IsValid g → (n : ℕ) → StopsText (run_of g).end (rated_report g) out.before out.after (pages.DeadCycles n) → OutOfCycles (Some modes.Rate) source out (err_line (page_text (pages.DeadCycles n)))
  out-of-cycles valid n r =
      shown_by modes.Rate input source out read LacksRoomForCycles (galley_with input g is LacksRoomForCycles (no-room-for-text g valid (rated_report g) out.before out.after n r)) answers.DeadCycles (err_line (page_text (pages.DeadCycles n)))
      (run_reply (rated_report g) (run_of g)) replied (page_status-ended (run_of g).end (pages.DeadCycles n) r.ended) (page_text-ended (run_of g).end (pages.DeadCycles n) r.ended) r.written

  -- what holds after a refusal of `rate_pages`
  pub left-by-rating : IsValid g → (f : PageFault) → RefusesText (run_of g).end (rated_report g) out.before out.after f → (f ≡ pages.WriteFault → Failed out) → StandsAfter (Some modes.Rate) (page_status f) source out (err_line (page_text f))
  left-by-rating valid (pages.PoolFull line live) r rose = ended (pages.PoolFull line live) r
  left-by-rating valid (pages.DeadCycles n) r rose = out-of-cycles valid n r
  left-by-rating valid (pages.PageLimit n) r rose = ended (pages.PageLimit n) r
  left-by-rating valid (pages.NodeLimit n) r rose = ended (pages.NodeLimit n) r
  left-by-rating valid pages.WriteFault r rose = (cut_off_by modes.Rate input source out read (run_reply (rated_report g) (run_of g)) replied refl r, rose refl, refl)
  left-by-rating valid pages.Memory r rose = (inr (cut_off_by modes.Rate input source out read (run_reply (rated_report g) (run_of g)) replied refl r), refl)
