-- What holds after a run of the page makeup, or without one.
use Rattle.std.proofs.Common.{◌≡◌, refl, ◌∙◌, ap, ℕ, inr, List, [], Option, None, Some, Ok}
use Rattle.std.specs.Io.KnownBytes.{Keeps}
use Rattle.tb_galley.specs.declared.Galley.{Galley}
use Rattle.tb_galley.specs.Grammar.{grammar}
use Rattle.tb_words.specs.declared.Mode.TheVariants as modes
use Rattle.tb_report.specs.declared.Totals.{Totals}
use Rattle.tb_plain.specs.Run.{MakeupEnd, done, page_limit, node_limit, makeup_of}
use Rattle.tb_plain.specs.Suitability.{first_unsuited}
use Rattle.tb_top.specs.declared.View.TheVariants as views
use Rattle.tb_top.specs.declared.makeup_pages.PlainRunFault.{PlainRunFault}
use Rattle.tb_top.specs.declared.makeup_pages.PlainRunFault.TheVariants as unmade
use Rattle.tb_top.specs.declared.refusal.Refusal.TheVariants as refusals
use Rattle.tb_top.specs.declared.status.Status.TheVariants as answers
use Rattle.tb_top.specs.Answer.{makeup_answer, makeup_line, makeup_run_reply, unsuited_reply, makeup_reply_by, makeup_reply, reply_to}
use Rattle.tb_top.specs.MakeupLaws.{MakesUpOnce}
use Rattle.tb_top.specs.MakeupPages.{makeup_fault, MakesPages, StopsRun, RefusesPages}
use Rattle.tb_top.specs.Outcome.{Stream, Failed, Gives, HasLawfulRun, HasLawfulMakeup, Decided, Finished, StandsAfter}
use Rattle.tb_top.specs.Refusal.{refusal_status, refusal_line, makeup_refusal}
use Rattle.tb_top.proofs.Ends.Outcomes.{decided_by, shown_by, cut_off_by, galley_with, replies_to, makeup_reads, nothing}

answer-well : (e : MakeupEnd) → makeup_fault e ≡ None → answers.Done ≡ makeup_answer e
answer-well done is = refl
answer-well (page_limit n) is = cc
answer-well (node_limit n) is = cc

line-well : (e : MakeupEnd) → makeup_fault e ≡ None → [] ≡ makeup_line e
line-well done is = refl
line-well (page_limit n) is = cc
line-well (node_limit n) is = cc

-- the refusal of a run has the status and the line of the run's end
answer-ended : (e : MakeupEnd) (f : PlainRunFault) → makeup_fault e ≡ Some f → refusal_status (makeup_refusal f) ≡ makeup_answer e
answer-ended done f is = cc
answer-ended (page_limit n) f is = let same : unmade.PageLimit n ≡ f = cc in rw (← same) refl
answer-ended (node_limit n) f is = let same : unmade.NodeLimit n ≡ f = cc in rw (← same) refl

line-ended : (e : MakeupEnd) (f : PlainRunFault) → makeup_fault e ≡ Some f → refusal_line (makeup_refusal f) ≡ makeup_line e
line-ended done f is = cc
line-ended (page_limit n) f is = let same : unmade.PageLimit n ≡ f = cc in rw (← same) refl
line-ended (node_limit n) f is = let same : unmade.NodeLimit n ≡ f = cc in rw (← same) refl

module _ (input : List ℕ) (source out : Stream) (read : Gives source.before source.after input) (g : Galley) (is : grammar input ≡ Ok g) where
  replied : (o : Option ℕ) → first_unsuited g ≡ o → reply_to modes.Plain input ≡ makeup_reply_by o g
  replied o first = replies_to modes.Plain makeup_reply makeup_reads input g is ∙ ap (λ x. makeup_reply_by x g) first

  -- what holds if an item is not served
  pub left_unsuited : (n : ℕ) → first_unsuited g ≡ Some n → Keeps out.before out.after → StandsAfter (Some modes.Plain) answers.Unsuited source out (refusal_line (refusals.Unsuited n))
  left_unsuited n first kept = decided_by modes.Plain input source out read answers.Unsuited (refusal_line (refusals.Unsuited n)) (unsuited_reply n) (replied (Some n) first) refl refl (nothing out.before out.after kept)

  module _ (suited : first_unsuited g ≡ None) where
    -- what holds if `paginate_plain` returns Ok
    pub makeup_well : (t : Totals) → MakesPages views.Report (makeup_of g) out.before out.after t → MakesUpOnce g (makeup_of g) → Finished (Some modes.Plain) source out []
    makeup_well t p laws =
        shown_by modes.Plain input source out read HasLawfulRun (galley_with input g is HasLawfulMakeup laws) answers.Done [] (makeup_run_reply (makeup_of g)) (replied None suited)
        (answer-well (makeup_of g).end p.ended) (line-well (makeup_of g).end p.ended) p.written

    ended : (f : PlainRunFault) → StopsRun views.Report (makeup_of g) out.before out.after f → Decided (Some modes.Plain) (refusal_status (makeup_refusal f)) source out (refusal_line (makeup_refusal f))
    ended f r = decided_by modes.Plain input source out read _ _ (makeup_run_reply (makeup_of g)) (replied None suited) (answer-ended (makeup_of g).end f r.ended) (line-ended (makeup_of g).end f r.ended) r.written

    -- what holds after a refusal of `paginate_plain`
    pub left_by_makeup : (f : PlainRunFault) → RefusesPages views.Report (makeup_of g) out.before out.after f → (f ≡ unmade.WriteFault → Failed out) → StandsAfter (Some modes.Plain) (refusal_status (makeup_refusal f)) source out (refusal_line (makeup_refusal f))
    left_by_makeup (unmade.PageLimit n) r rose = ended (unmade.PageLimit n) r
    left_by_makeup (unmade.NodeLimit n) r rose = ended (unmade.NodeLimit n) r
    left_by_makeup unmade.WriteFault r rose = (cut_off_by modes.Plain input source out read (makeup_run_reply (makeup_of g)) (replied None suited) refl r, rose refl, refl)
    left_by_makeup unmade.Memory r rose = (inr (cut_off_by modes.Plain input source out read (makeup_run_reply (makeup_of g)) (replied None suited) refl r), refl)
