-- A turn of a run with what is told of it, and its end.
use Rattle.std.proofs.Common.{◌≡◌, refl, sym, subst, ◌∙◌, ap, ℕ, ◌+◌, ◌-◌, ◌*◌, ◌^◌, ◌<◌, ◌≤◌, arith, inl, inr, pos, true, List, [], ◌++◌, Option, None, Some, append_assoc, append-nil}
use Rattle.std.specs.Prelude.{int_lt, nat_abs, pred}
use Rattle.std.proofs.lemmas.Nat.{mul-le}
use Rattle.std.specs.Io.KnownBytes.{Appends, append_known}
use Rattle.std.proofs.KnownBytes.{Appends-trans}
use Rattle.tb_io.specs.Sink.{AppendsPrefix}
use Rattle.tb_io.proofs.Appended.{prefix_whole, prefix_longer}
use Rattle.tb_param.specs.declared.Params.{Params}
use Rattle.tb_output.specs.declared.RunFault.{RunFault}
use Rattle.tb_output.specs.declared.RunFault.TheVariants as refused
use Rattle.tb_output.specs.State.{State}
use Rattle.tb_report.specs.declared.Totals.{Totals}
use Rattle.tb_report.specs.Lines.{end_lines}
use Rattle.tb_items.specs.declared.happenings.Happening.{Happening}
use Rattle.tb_items.specs.RunEvents.{RunEvent}
use Rattle.tb_run.specs.declared.routine.Routine.{Routine}
use Rattle.tb_run.specs.declared.routine.Ending.{Ending}
use Rattle.tb_run.specs.declared.routine.Ending.TheVariants as endings
use Rattle.tb_steps.specs.Run.{Run, End, done, pool_full, dead_cycles, page_limit, node_limit, Step, ends, goes_on, step, firings_left, held_count, run_of_state}
use Rattle.tb_run.specs.Routine.{held_in, state_of, IsFaultEnd, IsEnd, EndsAs, over_limit}
use Rattle.tb_steps.proofs.RunParams.{AreFewFirings}
use Rattle.tb_story.specs.Summary.{SummaryView, no_stories}
use Rattle.tb_story.specs.StoryLines.{story_lines}
use Rattle.tb_why.specs.WhyRun.{Shown, step_shown}
use Rattle.tb_why.specs.ShownLines.{all_shown_lines}
use Rattle.tb_why.specs.Summary.{summed}
use Rattle.tb_why.specs.SummaryLaws.{sheets_of}
use Rattle.tb_why.proofs.TimeLemmas.{sheets_from}
use Rattle.tb_why.proofs.SheetLemmas.{step-few}
use Rattle.tb_top.specs.declared.View.TheVariants as views
use Rattle.tb_top.specs.declared.PageFault.{PageFault}
use Rattle.tb_top.specs.declared.PageFault.TheVariants as faults
use Rattle.tb_top.specs.Kept.{Grows}
use Rattle.tb_top.specs.Pages.{end_fault, StopsText, RefusesText}
use Rattle.tb_top.specs.PagesWritten.{last_lines, IsFaultRefusal, IsRefusalOf, EndsWell, StopsWith}
use Rattle.tb_top.specs.Report.{closing_lines}
use Rattle.tb_top.specs.WhyReport.{why_text}
use Rattle.tb_top.specs.WhyPages.{Explains}
use Rattle.tb_top.proofs.Written.GoingLemmas.{header, refuses-text}
use Rattle.tb_top.proofs.Written.FinishLemmas.{ClosesAt, over-some, over-none}
use Rattle.tb_top.proofs.Written.KeptLemmas.{more-kept, more-written, front-written}
use Rattle.tb_top.proofs.Written.TurnLemmas.{ShowsStep}
use Rattle.tb_top.proofs.Why.WhyGoing.{last_text, WhyGoing, WhyClosing, why-goes, why-closes, why-cut, why-begins, why-over}

-- ---- a turn

-- the run ends as this ending says, and its summary and last lines are left
pub record WhyClosesAt (r : Routine) (ending : Ending) (old now : Option (List ℕ)) (m : SummaryView) (all : List RunEvent) (whole : List ℕ) : Type 0 where
  pub end : End
  pub is : IsEnd r ending end
  pub closing : WhyClosing end old now m all whole

module _ (s : State) (old now mid : Option (List ℕ)) (m : SummaryView) (all : List RunEvent) (whole : List ℕ) (going : WhyGoing s old now m all whole) (page : 1 ≤ s.page)
    (q : Routine) (hs : List Happening) (o : Option Ending) (shows : ShowsStep true s q hs o) (xs : List Shown) (shown : xs ≡ step_shown s) where
  -- writing what is shown was cut short
  pub turn-cut : AppendsPrefix now mid (all_shown_lines xs) → AppendsPrefix old mid whole
  turn-cut b = why-cut old now mid m all whole s page going (subst (λ ys. AppendsPrefix now mid (all_shown_lines ys)) shown b)

  goes-by-step : (x : Step) → step s ≡ x → EndsAs q None x → Appends now mid (all_shown_lines (step_shown s)) → WhyGoing (state_of q) old mid (summed (step_shown s) m) all whole
  goes-by-step (ends es rs e) is h b = absurd h
  goes-by-step (goes_on es rs u) is h b = subst (λ y. WhyGoing y old mid (summed (step_shown s) m) all whole) (sym h) (why-goes old now mid m all whole s u es rs page is going b)

  -- the lists of what was sent were closed since
  pub turn-goes : (n : SummaryView) (after : State) → after ≡ state_of q → n ≡ summed xs m → o ≡ None → Appends now mid (all_shown_lines xs) → WhyGoing after old mid n all whole
  turn-goes n after is sum none b =
      subst (λ y. WhyGoing y old mid n all whole) (sym is)
      (subst (λ k. WhyGoing (state_of q) old mid k all whole) (sym (sum ∙ ap (λ ys. summed ys m) shown))
      (goes-by-step (step s) refl (subst (λ x. EndsAs q x (step s)) none shows.ended) (subst (λ ys. Appends now mid (all_shown_lines ys)) shown b)))

  closes-by-step : (ending : Ending) (x : Step) → step s ≡ x → EndsAs q (Some ending) x → Appends now mid (all_shown_lines (step_shown s)) → WhyClosesAt q ending old mid (summed (step_shown s) m) all whole
  closes-by-step ending (goes_on es rs u) is h b = absurd h
  closes-by-step ending (ends es rs e) is h b = record { end = e; is = h; closing = why-closes old now mid m all whole s e es rs is going b }

  pub turn-closes : (n : SummaryView) (ending : Ending) → n ≡ summed xs m → o ≡ Some ending → Appends now mid (all_shown_lines xs) → WhyClosesAt q ending old mid n all whole
  turn-closes n ending sum some b =
      subst (λ k. WhyClosesAt q ending old mid k all whole) (sym (sum ∙ ap (λ ys. summed ys m) shown))
      (closes-by-step ending (step s) refl (subst (λ x. EndsAs q x (step s)) some shows.ended) (subst (λ ys. Appends now mid (all_shown_lines ys)) shown b))

-- ---- the sheets

-- a firing puts out at most 2000004 sheets, and so many are counted in this state
pub record AreFewSheets (m : SummaryView) (s : State) : Type 0 where
  pub few : m.sheets + 2000004 * firings_left s ≤ 2000008000008000000

pub sheets-first : (first s : State) (m : SummaryView) → AreFewFirings first.params → first.page ≡ 1 → first.dead_cycles ≡ 0 → s ≡ first → m ≡ no_stories → AreFewSheets m s
sheets-first first s m few one none is nothing =
    let n = nat_abs first.params.maxpages in
    let d = nat_abs first.params.maxdeadcycles in
    let a : n ≤ 1000000 = few.pages in
    let b : d ≤ 1000000 = few.cycles in
    let less : (n - pred first.page) * (d + 1) ≤ 1000000 * 1000001 = mul-le (n - pred first.page) (d + 1) 1000000 1000001 (omega (arith, a)) (omega (arith, b)) in
    let no_sheets : m.sheets ≡ 0 = ap (λ (k : SummaryView). k.sheets) nothing in
    subst (AreFewSheets m) (sym is) (record { few = omega (arith, less, b, no_sheets) })

sheets-of : (left later u v : ℕ) → u + 2000004 * left ≤ 2000008000008000000 → v ≤ u + 2000004 → later < left → v + 2000004 * later ≤ 2000008000008000000
sheets-of left later u v h k l = omega (arith, h, k, l)

module _ (s : State) (m : SummaryView) (few : nat_abs s.params.maxpages ≤ 1000000) (sheets : AreFewSheets m s) (xs : List Shown) (shown : xs ≡ step_shown s) where
  more : sheets_of m.sheets xs ≤ m.sheets + 2000004
  more = let a = step-few s m.sheets in let e = ap (λ ys. sheets_of m.sheets ys) shown in omega (arith, a, few, e)

  -- they can be counted
  pub turn-sheets : sheets_of m.sheets xs < 2 ^ 63
  turn-sheets = let a = more in let b = sheets.few in omega (arith, a, b)

  pub sheets-next : (n : SummaryView) (after : State) → n ≡ summed xs m → firings_left after < firings_left s → AreFewSheets n after
  sheets-next n after sum fewer =
      let e : n.sheets ≡ sheets_of m.sheets xs = ap (λ (k : SummaryView). k.sheets) sum ∙ sheets_from xs m in
      let a = more in
      record { few = sheets-of (firings_left s) (firings_left after) m.sheets n.sheets sheets.few (omega (arith, a, e)) fewer }

-- ---- the beginning

-- a run from its first state, which the routine shows
module _ (first : State) (r : Routine) (old now : Option (List ℕ)) (m : SummaryView) (o : Option Ending) (is : state_of r ≡ first) (a : Appends old now header) (nothing : m ≡ no_stories) (over : o ≡ over_limit (state_of r).params (held_count (state_of r))) where
  abbrev p : Params
  p = (state_of r).params

  pub start-goes : o ≡ None → WhyGoing (state_of r) old now m (run_of_state first).events (why_text first)
  start-goes none =
      subst (λ k. WhyGoing (state_of r) old now k (run_of_state first).events (why_text first)) (sym nothing)
      (why-begins first (state_of r) old now is a (over-none p (held_count (state_of r)) (int_lt p.maxnodes (pos (held_count (state_of r)))) refl (sym over ∙ none)))

  pub start-closes : (ending : Ending) → o ≡ Some ending → WhyClosesAt r ending old now m (run_of_state first).events (why_text first)
  start-closes ending some =
      let k = over-some p (held_count (state_of r)) ending (int_lt p.maxnodes (pos (held_count (state_of r)))) refl (sym over ∙ some) in
      record {
        end = node_limit (held_count (state_of r));
        is = rw (k.1) refl;
        closing = subst (λ x. WhyClosing (node_limit (held_count (state_of r))) old now x (run_of_state first).events (why_text first)) (sym nothing) (why-over first (state_of r) old now is a (k.0));
      }

-- ---- the end

-- a text is kept behind what out holds, and the summary and the last lines are left
module _ (q : Routine) (t : Totals) (m : SummaryView) (ending : Ending) (old held new : Option (List ℕ)) (kept : List ℕ) (run : Run) (whole : List ℕ)
    (at : ClosesAt views.Trace q ending None None t run) (why : WhyClosesAt q ending old (append_known held kept) m run.events whole) where
  abbrev stories : List ℕ
  stories = story_lines m.stories

  -- out grows by the summary and what follows, if all of it is written
  written-on : (more : List ℕ) → whole ≡ why.closing.written ++ (stories ++ more) → Appends held new ((kept ++ stories) ++ more) → Appends old new whole
  written-on more text a =
      subst (Appends old new) (sym text)
      (Appends-trans old (append_known held kept) new why.closing.written (stories ++ more) why.closing.appended
      (more-written held new kept (stories ++ more) (subst (Appends held new) (append_assoc kept stories more) a)))

  -- a front of it is written
  cut-on : (more rest : List ℕ) → whole ≡ why.closing.written ++ (more ++ rest) → Grows old held → AppendsPrefix held new (kept ++ more) → AppendsPrefix old new whole
  cut-on more rest text grown a =
      let all = append_known held (kept ++ more) in
      let there = Appends-trans old (append_known held kept) all why.closing.written more why.closing.appended (more-kept held kept more) in
      front-written old held new (kept ++ more) whole grown a
      (subst (AppendsPrefix old all) (sym (text ∙ sym (append_assoc why.closing.written more rest)))
      (prefix_longer old all (why.closing.written ++ more) rest (prefix_whole old all (why.closing.written ++ more) there)))

  done-first : ending ≡ endings.Done → at.end ≡ done (held_in q).page
  done-first is = subst (λ x. IsEnd q x at.end) is at.is

  done-why : ending ≡ endings.Done → why.end ≡ done (held_in q).page
  done-why is = subst (λ x. IsEnd q x why.end) is why.is

  text-is : ending ≡ endings.Done → whole ≡ why.closing.written ++ (stories ++ last_lines q t)
  text-is is =
      why.closing.text
      ∙ ap (λ e. why.closing.written ++ last_text run.events m e) (done-why is)
      ∙ ap (λ u. why.closing.written ++ (stories ++ end_lines (held_in q).page u)) at.closing.totals

  pub ends-why : (u : Totals) → EndsWell views.Trace q t ending (kept ++ stories) held new u → Explains run whole old new u
  ends-why u h = record {
    ended = ap end_fault (at.closing.end ∙ done-first h.ending);
    totals = h.totals ∙ sym at.closing.totals;
    written = written-on (last_lines q t) (text-is h.ending) h.written;
  }

  refused-end : (e : End) (f : PageFault) → at.end ≡ e → why.end ≡ e → end_fault e ≡ Some f → closing_lines e run.events ≡ [] → Appends held new (kept ++ stories) → StopsText run.end whole old new f
  refused-end e f is same fault none a = record {
    ended = ap end_fault (at.closing.end ∙ is) ∙ fault;
    written = written-on []
        (why.closing.text ∙ ap (λ x. why.closing.written ++ last_text run.events m x) same ∙ ap (λ ls. why.closing.written ++ (stories ++ ls)) none)
        (subst (Appends held new) (sym (append-nil (kept ++ stories))) a);
  }

  by-fault : (x : RunFault) (f : PageFault) → IsFaultEnd x at.end → IsFaultEnd x why.end → IsFaultRefusal x f → Appends held new (kept ++ stories) → RefusesText run.end whole old new f
  by-fault (refused.DeadCycles n) f is same h a = rw h (refused-end (dead_cycles n) (faults.DeadCycles n) is same refl refl a)
  by-fault (refused.PageLimit n) f is same h a = rw h (refused-end (page_limit n) (faults.PageLimit n) is same refl refl a)
  by-fault refused.Memory f is same h a = absurd is

  by-ending : (x : Ending) (f : PageFault) → IsEnd q x at.end → IsEnd q x why.end → IsRefusalOf x f → Appends held new (kept ++ stories) → RefusesText run.end whole old new f
  by-ending endings.Done f is same h a = absurd h
  by-ending (endings.PoolFull line live) f is same h a = rw h (refused-end (pool_full line live) (faults.PoolFull line live) is same refl refl a)
  by-ending (endings.Fault x) f is same h a = by-fault x f is same h a
  by-ending (endings.NodeLimit n) f is same h a = rw h (refused-end (node_limit n) (faults.NodeLimit n) is same refl refl a)

  pub stops-why : (before now : ℕ) (f : PageFault) → Grows old held → StopsWith views.Trace q t ending (kept ++ stories) held new before now f → RefusesText run.end whole old new f
  stops-why before now f grown (inl h) =
      rw h.is (refuses-text run.end whole old new h.fault (cut-on stories (closing_lines why.end run.events) why.closing.text grown h.part))
  stops-why before now f grown (inr (inl h)) = by-ending ending f at.is why.is h.0 h.1
  stops-why before now f grown (inr (inr h)) =
      let all = stories ++ last_lines q t in
      rw h.1.is (refuses-text run.end whole old new h.1.fault
      (cut-on all [] (text-is h.0 ∙ ap (λ ls. why.closing.written ++ ls) (sym (append-nil all))) grown (subst (AppendsPrefix held new) (append_assoc kept stories (last_lines q t)) h.1.part)))
