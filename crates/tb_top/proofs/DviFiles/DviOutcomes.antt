-- What holds after a DVI file was written or listed, or not.
use Rattle.std.proofs.Common.{◌≡◌, refl, ◌∙◌, ap, ℕ, inl, inr, List, [], Option, None, Some, Ok}
use Rattle.std.specs.Io.KnownBytes.{Keeps}
use Rattle.tb_io.specs.Sink.{AppendsPrefix}
use Rattle.tb_galley.specs.declared.Galley.{Galley}
use Rattle.tb_galley.specs.declared.GalleyFault.TheVariants as unread
use Rattle.tb_galley.specs.Grammar.{grammar}
use Rattle.tb_galley.specs.Valid.{IsValid}
use Rattle.tb_words.specs.declared.Mode.TheVariants as modes
use Rattle.tb_steps.specs.Run.{run_of}
use Rattle.tb_top.specs.declared.PageFault.{PageFault}
use Rattle.tb_top.specs.declared.PageFault.TheVariants as pages
use Rattle.tb_top.specs.declared.View.TheVariants as views
use Rattle.tb_top.specs.declared.dvi_pages.DviRunFault.{DviRunFault}
use Rattle.tb_top.specs.declared.dvi_pages.DviRunFault.TheVariants as undone
use Rattle.tb_top.specs.declared.dvi_refusal.DviRefusal.TheVariants as dvi
use Rattle.tb_top.specs.declared.refusal.Refusal.{Refusal}
use Rattle.tb_top.specs.declared.refusal.Refusal.TheVariants as refusals
use Rattle.tb_top.specs.declared.status.Status.TheVariants as answers
use Rattle.tb_laws.specs.Totals.{totals_of}
use Rattle.tb_top.specs.Answer.{err_line, fault_reply, cause_reply, dvi_reply_by, dvi_reply, listing_reply, reply_to}
use Rattle.tb_laws.specs.DviFiles.{far_page, galley_file}
use Rattle.tb_top.specs.DviFiles.{Writes, WritesFile, RefusesPages, RefusesFile}
use Rattle.tb_top.specs.DviRefusal.{too_long, IsNoListing}
use Rattle.tb_top.specs.Outcome.{Stream, Failed, Gives, HasLawfulRun, LacksRoomForCycles, Decided, Finished, OutOfCycles, CutOff, StandsAfter}
use Rattle.tb_top.specs.Refusal.{page_status, page_text, refusal_status, refusal_line, dvi_fault}
use Rattle.tb_top.proofs.Ends.CycleAnswers.{no-room}
use Rattle.tb_top.proofs.Joined.LawfulRuns.{keeps-laws}
use Rattle.tb_top.proofs.Ends.Outcomes.{decided_by, shown_by, cut_off_by, galley_with, replies_to, dvi_reads, nothing, answer_at-well, line_at-well, page_status-ended, page_text-ended}

-- ---- a file

module _ (input : List ℕ) (source out : Stream) (read : Gives source.before source.after input) (g : Galley) (is : grammar input ≡ Ok g) where
  replied : (o : Option ℕ) → far_page g ≡ o → reply_to modes.Dvi input ≡ dvi_reply_by o g.params.textheight (run_of g)
  replied o far = replies_to modes.Dvi (λ g. dvi_reply g.params.textheight (run_of g)) dvi_reads input g is ∙ ap (λ x. dvi_reply_by x g.params.textheight (run_of g)) far

  lawful : IsValid g → WritesFile g out.before out.after → HasLawfulRun g
  lawful valid w = keeps-laws g valid views.Silent None None (totals_of (run_of g).events) (record { ended = w.ended; totals = refl; written = tt })

  -- what holds if the file was written
  pub dvi_well : IsValid g → WritesFile g out.before out.after → Finished (Some modes.Dvi) source out []
  dvi_well valid w =
      shown_by modes.Dvi input source out read HasLawfulRun (galley_with input g is HasLawfulRun (lawful valid w)) answers.Done [] _ (replied None w.near)
      (answer_at-well (run_of g).end w.ended) (line_at-well (run_of g).end w.ended) w.written

  ended : (f : PageFault) → Writes g out.before out.after (Some f) → Decided (Some modes.Dvi) (page_status f) source out (err_line (page_text f))
  ended f w = decided_by modes.Dvi input source out read _ _ _ (replied None w.near) (page_status-ended (run_of g).end f w.ended) (page_text-ended (run_of g).end f w.ended) w.written

  out_of_cycles : IsValid g → (n : ℕ) → Writes g out.before out.after (Some (pages.DeadCycles n)) → OutOfCycles (Some modes.Dvi) source out (err_line (page_text (pages.DeadCycles n)))
  out_of_cycles valid n w =
      shown_by modes.Dvi input source out read LacksRoomForCycles (galley_with input g is LacksRoomForCycles (no-room g valid views.Silent None None n (record { ended = w.ended; written = tt })))
      answers.DeadCycles (err_line (page_text (pages.DeadCycles n))) _ (replied None w.near) (page_status-ended (run_of g).end (pages.DeadCycles n) w.ended) (page_text-ended (run_of g).end (pages.DeadCycles n) w.ended) w.written

  cut : (o : Option ℕ) → far_page g ≡ o → AppendsPrefix out.before out.after (galley_file g) → CutOff (Some modes.Dvi) source out
  cut None far b = cut_off_by modes.Dvi input source out read _ (replied None far) refl b
  cut (Some page) far b = cut_off_by modes.Dvi input source out read _ (replied (Some page) far) refl b

  by-pages : IsValid g → (f : PageFault) → RefusesPages g out.before out.after f → (f ≡ pages.WriteFault → Failed out) → StandsAfter (Some modes.Dvi) (page_status f) source out (err_line (page_text f))
  by-pages valid (pages.DeadCycles n) r rose = out_of_cycles valid n r
  by-pages valid pages.WriteFault r rose = (cut (far_page g) refl r, rose refl, refl)
  by-pages valid pages.Memory r rose = (inr (cut (far_page g) refl r), refl)
  by-pages valid f r rose = ended f r

  -- what holds after a refusal of `paginate_dvi`
  pub left_by_file : IsValid g → (e : DviRunFault) → RefusesFile g out.before out.after e → (e ≡ undone.Pages pages.WriteFault → Failed out) → StandsAfter (Some modes.Dvi) (refusal_status (dvi_fault e)) source out (refusal_line (dvi_fault e))
  left_by_file valid (undone.Pages f) r rose = by-pages valid f r (λ e. rose (ap undone.Pages e))
  left_by_file valid (undone.TooFar page) r rose = decided_by modes.Dvi input source out read _ _ _ (replied (Some page) r.0) refl refl r.1

-- ---- a listing

module _ (input : List ℕ) (source out : Stream) (read : Gives source.before source.after input) (kept : Keeps out.before out.after) where
  -- what holds if a file is not listed
  pub left_by_listing : (r : Refusal) → IsNoListing (listing_reply input) r → StandsAfter (Some modes.DviList) (refusal_status r) source out (refusal_line r)
  left_by_listing (refusals.Galley (unread.At f)) h =
      rw (h.0) (decided_by modes.DviList input source out read _ _ (fault_reply too_long) h.1 refl refl (nothing out.before out.after kept))
  left_by_listing (refusals.Dvi (dvi.At byte cause)) h = decided_by modes.DviList input source out read _ _ (cause_reply byte cause) h refl refl (nothing out.before out.after kept)
  left_by_listing refusals.Memory h = (inl kept, refl)
  left_by_listing r h = absurd h
