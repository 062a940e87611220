-- What holds after the best pages of a galley were made, or not.
use Rattle.std.proofs.Common.{◌≡◌, refl, ◌∙◌, sym, ap, subst, ℕ, inl, inr, ◌⊎◌, List, [], Option, None, Some, Ok, Bool, true, false}
use Rattle.std.specs.Prelude.{if◌then◌else◌, MatchOption}
use Rattle.std.specs.Io.KnownBytes.{Keeps, Appends}
use Rattle.tb_io.specs.Sink.{AppendsPrefix}
use Rattle.tb_galley.specs.declared.Galley.{Galley}
use Rattle.tb_galley.specs.Grammar.{grammar}
use Rattle.tb_galley.specs.Valid.{IsValid}
use Rattle.tb_words.specs.declared.Mode.TheVariants as modes
use Rattle.tb_steps.specs.Run.{Run, End, done, pool_full, dead_cycles, page_limit, node_limit, run_of}
use Rattle.tb_laws.specs.Laws.{KeepsLaws}
use Rattle.tb_laws.specs.Totals.{totals_of}
use Rattle.tb_laws.specs.DviFiles.{is_done}
use Rattle.tb_laws.specs.DeadCycles.{HasRoomForCycles}
use Rattle.tb_laws.proofs.DeadCycles.CycleBound.{dead-cycle-bound}
use Rattle.tb_best.specs.BestPlan.{IsBest, HasNoPlan}
use Rattle.tb_best.specs.BestOf.{RatedPlan, best_of}
use Rattle.tb_best.proofs.BestOfLemmas.{best-of-is}
use Rattle.tb_top.specs.declared.PageFault.{PageFault}
use Rattle.tb_top.specs.declared.PageFault.TheVariants as pages
use Rattle.tb_top.specs.declared.chosen_pages.BestPagesFault.{BestPagesFault}
use Rattle.tb_top.specs.declared.chosen_pages.BestPagesFault.TheVariants as refused
use Rattle.tb_top.specs.declared.status.Status.TheVariants as answers
use Rattle.tb_top.specs.Answer.{best_reply, best_reply_by, whole_reply, err_line, reply_to}
use Rattle.tb_top.specs.Outcome.{Stream, Failed, Gives, HasLawfulRun, LacksRoomForCycles, Decided, Finished, OutOfCycles, CutOff, GivenUp, StandsAfter}
use Rattle.tb_top.specs.Pages.{end_fault}
use Rattle.tb_top.specs.BestReport.{run_with, best_report, IsBestRun, WritesBest, StopsBest, CutsBest, RefusesBest}
use Rattle.tb_top.specs.Refusal.{page_status, page_text, refusal_status, refusal_line, best_fault}
use Rattle.tb_top.proofs.Ends.CycleAnswers.{not-ended}
use Rattle.tb_top.proofs.Ends.Outcomes.{answer_at-well, line_at-well, page_status-ended, page_text-ended, nothing, decided_by, shown_by, cut_off_by, galley_with, replies_to, best_reads}
use Rattle.tb_top.proofs.Best.BestEnds.{EndsOrIsLimited, plan-ends}

-- ---- the end of a run

pub done-well : (e : End) → end_fault e ≡ None → is_done e ≡ true
done-well (done left) is = refl
done-well e is = cc

done-not : (e : End) (f : PageFault) → end_fault e ≡ Some f → is_done e ≡ false
done-not (done left) f is = cc
done-not e f is = refl

written-well : (e : End) (text : List ℕ) → end_fault e ≡ None → (if is_done e then text else []) ≡ text
written-well e text is = rw (done-well e is) refl

written-not : (e : End) (text : List ℕ) (f : PageFault) → end_fault e ≡ Some f → (if is_done e then text else []) ≡ []
written-not e text f is = rw (done-not e f is) refl

-- ---- the reply

reply-with : (g : Galley) (fault : Option PageFault) (w : RatedPlan) → IsBestRun g fault w → best_reply g ≡ whole_reply (best_report g w) (run_with g w)
reply-with g fault w h =
    ap (λ (t : Bool). if t then best_reply_by g (best_of g) else whole_reply [] (run_of g)) (done-well (run_of g).end h.greedy)
    ∙ ap (best_reply_by g) h.best

reply-without : (g : Galley) (f : PageFault) → end_fault (run_of g).end ≡ Some f → best_reply g ≡ whole_reply [] (run_of g)
reply-without g f is = ap (λ (t : Bool). if t then best_reply_by g (best_of g) else whole_reply [] (run_of g)) (done-not (run_of g).end f is)

-- ---- no run with the best breaks ends for its dead cycles

best-has : (g : Galley) (o : Option RatedPlan) (w : RatedPlan) → o ≡ Some w → MatchOption o (HasNoPlan g) (λ v. IsBest g v.plan v.total) → IsBest g w.plan w.total
best-has g None w is h = cc
best-has g (Some v) w is h = let same : v ≡ w = cc in subst (λ u. IsBest g u.plan u.total) same h

not-cycles : (e : End) (n : ℕ) → EndsOrIsLimited e → end_fault e ≡ Some (pages.DeadCycles n) → ⊥
not-cycles (done left) n h is = cc
not-cycles (node_limit k) n h is = cc
not-cycles (pool_full line live) n h is = absurd h
not-cycles (dead_cycles k) n h is = absurd h
not-cycles (page_limit k) n h is = absurd h

pub best-not-cycles : (g : Galley) (n : ℕ) (w : RatedPlan) → IsBestRun g (Some (pages.DeadCycles n)) w → ⊥
best-not-cycles g n w h = not-cycles (run_with g w).end n (plan-ends g w.plan w.total (best-has g (best_of g) w h.best (best-of-is g)).sum) h.ended

pub no-room-for-best : (g : Galley) → IsValid g → (old new : Option (List ℕ)) (n : ℕ) → StopsBest g old new (pages.DeadCycles n) → HasRoomForCycles g → ⊥
no-room-for-best g valid old new n h room = by h.ended
  where
    by : (end_fault (run_of g).end ≡ Some (pages.DeadCycles n)) ⊎ ((w : RatedPlan) × IsBestRun g (Some (pages.DeadCycles n)) w) → ⊥
    by (inl is) = not-ended (run_of g).end n (dead-cycle-bound g valid room) is
    by (inr b) = best-not-cycles g n b.0 b.1

-- ---- the outcome

module _ (input : List ℕ) (source out : Stream) (read : Gives source.before source.after input) (g : Galley) (is : grammar input ≡ Ok g) where
  replied : reply_to modes.Best input ≡ best_reply g
  replied = replies_to modes.Best best_reply best_reads input g is

  -- what holds if `best_pages` returns Ok
  pub best-well : WritesBest g out.before out.after → KeepsLaws g (totals_of (run_of g).events) → Finished (Some modes.Best) source out []
  best-well h laws =
      let w = h.plan in
      let r = run_with g w in
      shown_by modes.Best input source out read HasLawfulRun (galley_with input g is HasLawfulRun laws) answers.Done [] (whole_reply (best_report g w) r) (replied ∙ reply-with g None w h.run)
      (answer_at-well r.end h.run.ended) (line_at-well r.end h.run.ended) (subst (Appends out.before out.after) (sym (written-well r.end (best_report g w) h.run.ended)) h.written)

  -- a run was refused, and nothing was written
  decided-at : (f : PageFault) (text : List ℕ) (r : Run) → best_reply g ≡ whole_reply text r → end_fault r.end ≡ Some f → Keeps out.before out.after → Decided (Some modes.Best) (page_status f) source out (err_line (page_text f))
  decided-at f text r reply end kept =
      decided_by modes.Best input source out read _ _ (whole_reply text r) (replied ∙ reply) (page_status-ended r.end f end) (page_text-ended r.end f end)
      (subst (Appends out.before out.after) (sym (written-not r.end text f end)) (nothing out.before out.after kept))

  ended : (f : PageFault) → StopsBest g out.before out.after f → Decided (Some modes.Best) (page_status f) source out (err_line (page_text f))
  ended f h = by h.ended
    where
      by : (end_fault (run_of g).end ≡ Some f) ⊎ ((w : RatedPlan) × IsBestRun g (Some f) w) → Decided (Some modes.Best) (page_status f) source out (err_line (page_text f))
      by (inl end) = decided-at f [] (run_of g) (reply-without g f end) end h.kept
      by (inr b) = decided-at f (best_report g b.0) (run_with g b.0) (reply-with g (Some f) b.0 b.1) b.1.ended h.kept

  out-of-cycles : IsValid g → (n : ℕ) → StopsBest g out.before out.after (pages.DeadCycles n) → OutOfCycles (Some modes.Best) source out (err_line (page_text (pages.DeadCycles n)))
  out-of-cycles valid n h = by h.ended
    where
      by : (end_fault (run_of g).end ≡ Some (pages.DeadCycles n)) ⊎ ((w : RatedPlan) × IsBestRun g (Some (pages.DeadCycles n)) w) → OutOfCycles (Some modes.Best) source out (err_line (page_text (pages.DeadCycles n)))
      by (inl end) =
          shown_by modes.Best input source out read LacksRoomForCycles (galley_with input g is LacksRoomForCycles (no-room-for-best g valid out.before out.after n h)) answers.DeadCycles (err_line (page_text (pages.DeadCycles n)))
          (whole_reply [] (run_of g)) (replied ∙ reply-without g (pages.DeadCycles n) end) (page_status-ended (run_of g).end (pages.DeadCycles n) end) (page_text-ended (run_of g).end (pages.DeadCycles n) end)
          (subst (Appends out.before out.after) (sym (written-not (run_of g).end [] (pages.DeadCycles n) end)) (nothing out.before out.after h.kept))
      by (inr b) = absurd (best-not-cycles g n b.0 b.1)

  -- writing was cut short
  cut : CutsBest g out.before out.after → CutOff (Some modes.Best) source out
  cut h =
      let w = h.plan in
      let r = run_with g w in
      cut_off_by modes.Best input source out read (whole_reply (best_report g w) r) (replied ∙ reply-with g None w h.run) (done-well r.end h.run.ended) (subst (AppendsPrefix out.before out.after) (sym (written-well r.end (best_report g w) h.run.ended)) h.written)

  memory : Keeps out.before out.after ⊎ CutsBest g out.before out.after → Keeps out.before out.after ⊎ CutOff (Some modes.Best) source out
  memory (inl kept) = inl kept
  memory (inr h) = inr (cut h)

  given-up : end_fault (run_of g).end ≡ None → Keeps out.before out.after → GivenUp (Some modes.Best) source out
  given-up end kept = record { asked_for = refl; input = input; read = read; galley = galley_with input g is (λ v. is_done (run_of v).end ≡ true) (done-well (run_of g).end end); written = kept }

  -- what holds after a refusal of `best_pages`
  pub left-by-best : IsValid g → (f : BestPagesFault) → RefusesBest g out.before out.after f → (f ≡ refused.Pages pages.WriteFault → Failed out) → StandsAfter (Some modes.Best) (refusal_status (best_fault f)) source out (refusal_line (best_fault f))
  left-by-best valid (refused.Pages (pages.PoolFull line live)) r rose = ended (pages.PoolFull line live) r
  left-by-best valid (refused.Pages (pages.DeadCycles n)) r rose = out-of-cycles valid n r
  left-by-best valid (refused.Pages (pages.PageLimit n)) r rose = ended (pages.PageLimit n) r
  left-by-best valid (refused.Pages (pages.NodeLimit n)) r rose = ended (pages.NodeLimit n) r
  left-by-best valid (refused.Pages pages.WriteFault) r rose = (cut r, rose refl, refl)
  left-by-best valid (refused.Pages pages.Memory) r rose = (memory r, refl)
  left-by-best valid refused.Choices r rose = (given-up r.0 r.1, refl)
