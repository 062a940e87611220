-- The end of a run of the page makeup.
use Rattle.std.proofs.Common.{◌≡◌, refl, sym, subst, ◌∙◌, ap, ℕ, ◌≤◌, inl, inr, List, [], ◌++◌, append-nil, Option, Some, None, arith}
use Rattle.std.specs.Io.KnownBytes.{Appends, append_known}
use Rattle.tb_io.specs.Faults.{Rose}
use Rattle.tb_io.specs.declared.sink.SinkFault.{SinkFault}
use Rattle.tb_io.specs.declared.sink.SinkFault.TheVariants as outputs
use Rattle.tb_io.specs.Sink.{AppendsPrefix}
use Rattle.std.proofs.KnownBytes.{Appends-trans}
use Rattle.tb_io.proofs.Appended.{prefix_whole, prefix_longer, prefix_on}
use Rattle.tb_report.specs.declared.Totals.{Totals}
use Rattle.tb_report.specs.Lines.{end_lines}
use Rattle.tb_plain.specs.Run.{MakeupRun, MakeupEnd, sent_among, sent_of, done, page_limit, node_limit}
use Rattle.tb_plain.specs.Report.{closing_lines, sent_totals}
use Rattle.tb_makeup.specs.declared.makeup.MakeupEnding.{MakeupEnding}
use Rattle.tb_makeup.specs.declared.makeup.MakeupEnding.TheVariants as endings
use Rattle.tb_makeup.specs.Makeup.{end_of}
use Rattle.tb_top.specs.declared.View.{View}
use Rattle.tb_top.specs.declared.View.TheVariants as views
use Rattle.tb_top.specs.declared.makeup_pages.PlainRunFault.{PlainRunFault}
use Rattle.tb_top.specs.declared.makeup_pages.PlainRunFault.TheVariants as faults
use Rattle.tb_top.specs.MakeupPages.{makeup_text, makeup_fault, MakesPages, StopsRun, RefusesPages}
use Rattle.tb_top.specs.MakeupWritten.{write_fault, IsRefusalOf, StopsWith, EndsWell}
use Rattle.tb_top.specs.Kept.{Grows}
use Rattle.tb_top.specs.Views.{viewed, IsShown, FailsToShow}
use Rattle.tb_top.proofs.Written.GoingLemmas.{header, viewed-append, more-shown, silent-shown}
use Rattle.tb_top.proofs.Written.KeptLemmas.{more-written, all-written, front-written}
use Rattle.tb_top.proofs.Plain.MakeupGoing.{shown_lines, Closing, view-text}
use Rattle.tb_top.proofs.Plain.MakeupTotals.{all-totals}

-- a run that ended well is done
pub ended-done : (e : MakeupEnd) → makeup_fault e ≡ None → e ≡ done
ended-done done is = refl
ended-done (page_limit n) is = cc
ended-done (node_limit n) is = cc

-- a failed write or lack of memory, after a prefix
pub refuses-cut : (v : View) (whole : MakeupRun) (old new : Option (List ℕ)) (fault : SinkFault) → AppendsPrefix old new (makeup_text v whole) → RefusesPages v whole old new (write_fault fault)
refuses-cut v whole old new outputs.Failed b = b
refuses-cut v whole old new outputs.Memory b = b

-- a failed write is that of a failed sink
pub failed-write : (fault : SinkFault) → faults.WriteFault ≡ write_fault fault → fault ≡ outputs.Failed
failed-write outputs.Failed is = refl
failed-write outputs.Memory is = cc

module _ (v : View) (t : Totals) (whole : MakeupRun) (old mid new : Option (List ℕ)) where
  -- the text of a run that is done, with its last line
  done-text : (c : Closing v done old mid t whole) → makeup_text v whole ≡ viewed v (header ++ shown_lines v c.events) ++ viewed v (end_lines [] t)
  done-text c =
      let first = header ++ shown_lines v c.events in
      ap (makeup_text v) c.run ∙ view-text v (record { events = c.events; end = done }) ∙ viewed-append v first (end_lines [] (sent_totals (sent_among c.events))) ∙ ap (λ (u : Totals). viewed v first ++ viewed v (end_lines [] u)) (sym (c.totals ∙ all-totals (sent_among c.events)))

  -- that of a run that is refused, which has none
  stopped-text : (e : MakeupEnd) → (c : Closing v e old mid t whole) → closing_lines e (sent_among c.events) ≡ [] → makeup_text v whole ≡ viewed v (header ++ shown_lines v c.events)
  stopped-text e c none =
      let first = header ++ shown_lines v c.events in
      ap (makeup_text v) c.run ∙ view-text v (record { events = c.events; end = e }) ∙ ap (λ ls. viewed v (first ++ ls)) none ∙ ap (viewed v) (append-nil first)

  done-well : (u : Totals) → Closing v done old mid t whole → u ≡ t → Appends mid new (viewed v (end_lines [] t)) → MakesPages v whole old new u
  done-well u c is b = record {
    ended = ap (λ (r : MakeupRun). makeup_fault r.end) c.run;
    totals = is ∙ c.totals ∙ all-totals (sent_among c.events) ∙ sym (ap (λ (r : MakeupRun). sent_totals (sent_of r)) c.run);
    written = subst (Appends old new) (sym (done-text c)) (Appends-trans old mid new (viewed v (header ++ shown_lines v c.events)) (viewed v (end_lines [] t)) c.appended b);
  }

  done-cut : Closing v done old mid t whole → AppendsPrefix mid new (viewed v (end_lines [] t)) → AppendsPrefix old new (makeup_text v whole)
  done-cut c b =
      let first = viewed v (header ++ shown_lines v c.events) in
      let last = viewed v (end_lines [] t) in
      prefix_on old mid new (makeup_text v whole) first last [] c.appended b (done-text c ∙ ap (λ ls. first ++ ls) (sym (append-nil last)))

  stops-run : (e : MakeupEnd) (f : PlainRunFault) → (c : Closing v e old mid t whole) → makeup_fault e ≡ Some f → closing_lines e (sent_among c.events) ≡ [] → new ≡ mid → StopsRun v whole old new f
  stops-run e f c fault none same = record {
    ended = ap (λ (r : MakeupRun). makeup_fault r.end) c.run ∙ fault;
    written = subst (λ x. Appends old x (makeup_text v whole)) (sym same) (subst (Appends old mid) (sym (stopped-text e c none)) c.appended);
  }

  by-ending : (e : MakeupEnding) (f : PlainRunFault) → Closing v (end_of e) old mid t whole → IsRefusalOf e f → new ≡ mid → RefusesPages v whole old new f
  by-ending endings.Done f c h kept = absurd h
  by-ending (endings.PageLimit n) f c h kept = rw h (stops-run (page_limit n) (faults.PageLimit n) c refl refl kept)
  by-ending (endings.NodeLimit n) f c h kept = rw h (stops-run (node_limit n) (faults.NodeLimit n) c refl refl kept)

  -- a front of the text is there
  closing-front : (e : MakeupEnd) → Closing v e old mid t whole → AppendsPrefix old mid (makeup_text v whole)
  closing-front e c =
      let first = header ++ shown_lines v c.events in
      let last = closing_lines e (sent_among c.events) in
      subst (AppendsPrefix old mid) (sym (viewed-append v first last) ∙ sym (view-text v (record { events = c.events; end = e })) ∙ ap (makeup_text v) (sym c.run))
      (prefix_longer old mid (viewed v first) (viewed v last) (prefix_whole old mid (viewed v first) c.appended))

-- a text is kept, and out would hold full if it were written
module _ (v : View) (t : Totals) (whole : MakeupRun) (old held new : Option (List ℕ)) (kept : List ℕ) where
  abbrev full : Option (List ℕ)
  full = append_known held (viewed v kept)

  at-done : (e : MakeupEnding) → e ≡ endings.Done → Closing v (end_of e) old full t whole → Closing v done old full t whole
  at-done e is c = subst (λ x. Closing v (end_of x) old full t whole) is c

  closing-written : (e : MakeupEnd) → Appends held new (viewed v kept) → Closing v e old full t whole → Closing v e old new t whole
  closing-written e a c = record { events = c.events; appended = all-written old held new (viewed v kept) (viewed v (header ++ shown_lines v c.events)) c.appended a; run = c.run; totals = c.totals }

  pub ends-well : (e : MakeupEnding) (u : Totals) → Closing v (end_of e) old (append_known held (viewed v kept)) t whole → EndsWell v t e kept held new u → MakesPages v whole old new u
  ends-well e u c h =
      done-well v t whole old full new u (at-done e h.ending c) h.totals (more-written held new (viewed v kept) (viewed v (end_lines [] t)) (subst (Appends held new) (viewed-append v kept (end_lines [] t)) h.written))

  pub stops-with : (e : MakeupEnding) (before now : ℕ) (f : PlainRunFault) → Grows old held → Closing v (end_of e) old (append_known held (viewed v kept)) t whole → StopsWith v t e kept held new before now f → RefusesPages v whole old new f
  stops-with e before now f grown c (inl h) =
      rw h.is (refuses-cut v whole old new h.fault (front-written old held new (viewed v kept) (makeup_text v whole) grown h.part (closing-front v t whole old full new (end_of e) c)))
  stops-with e before now f grown c (inr (inl h)) = by-ending v t whole old new new e f (closing-written (end_of e) h.1 c) h.0 refl
  stops-with e before now f grown c (inr (inr h)) =
      let all = viewed v (kept ++ end_lines [] t) in
      let cut = done-cut v t whole old full (append_known held all) (at-done e h.0 c) (more-shown v held kept (end_lines [] t)) in
      rw h.1.is (refuses-cut v whole old new h.1.fault (front-written old held new all (makeup_text v whole) grown h.1.part cut))

-- ---- a refusal for a failed write

no-write : (e : MakeupEnding) → IsRefusalOf e faults.WriteFault → ⊥
no-write endings.Done h = h
no-write (endings.PageLimit n) h = cc
no-write (endings.NodeLimit n) h = cc

-- what failed is the sink, at a view that shows something
fails-so : (v : View) (old new : Option (List ℕ)) (before now : ℕ) (text : List ℕ) → FailsToShow write_fault v old new before now text faults.WriteFault → Rose before now × IsShown v
fails-so v old new before now text h = h.cause (failed-write h.fault h.is)

module _ (v : View) (t : Totals) (e : MakeupEnding) (kept : List ℕ) (old new : Option (List ℕ)) (before now : ℕ) where
  stops-so : StopsWith v t e kept old new before now faults.WriteFault → Rose before now × IsShown v
  stops-so (inl h) = fails-so v old new before now kept h
  stops-so (inr (inl h)) = absurd (no-write e h.0)
  stops-so (inr (inr h)) = fails-so v old new before now (kept ++ end_lines [] t) h.1

  -- it comes if the sink's faults rose
  pub stops-cause : (start : ℕ) → start ≤ before → StopsWith v t e kept old new before now faults.WriteFault → Rose start now
  stops-cause start le h = let rose = (stops-so h).0 in omega (arith, rose)

  -- and never at a silent view
  pub stops-shown : v ≡ views.Silent → StopsWith v t e kept old new before now faults.WriteFault → ⊥
  stops-shown silent h = silent-shown v silent (stops-so h).1
