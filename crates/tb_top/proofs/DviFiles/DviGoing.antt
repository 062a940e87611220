-- A run whose pages are written as a DVI file: what is written, and what is left.
use Rattle.std.proofs.Common.{◌≡◌, refl, sym, subst, ◌∙◌, ap, ℕ, zero, suc, ◌<◌, ◌≤◌, inl, inr, pos, Bool, true, false, List, [], ◌++◌, Option, Some, None, append_assoc, append-nil, arith}
use Rattle.std.specs.Prelude.{int_lt, if◌then◌else◌}
use Rattle.std.specs.Io.KnownBytes.{Appends, append_known}
use Rattle.tb_io.specs.Sink.{AppendsPrefix}
use Rattle.tb_io.specs.declared.sink.SinkFault.{SinkFault}
use Rattle.tb_io.specs.declared.sink.SinkFault.TheVariants as outputs
use Rattle.std.proofs.KnownBytes.{Appends-trans}
use Rattle.tb_io.proofs.Appended.{prefix_whole, prefix_on}
use Rattle.tb_galley.specs.declared.Galley.{Galley}
use Rattle.tb_galley.specs.GalleyNodes.{expanded}
use Rattle.tb_output.specs.State.{State, first_state}
use Rattle.tb_output.specs.declared.RunFault.{RunFault}
use Rattle.tb_output.specs.declared.RunFault.TheVariants as unfired
use Rattle.tb_dvi.specs.declared.progress.Progress.{Progress}
use Rattle.tb_dvi.specs.File.{Page, preamble, file_front, first_too_far}
use Rattle.tb_dvi.specs.Progress.{at_first, HasWritten, run_bytes}
use Rattle.tb_node.specs.PlainNodes.{PlainNode}
use Rattle.tb_dvi.proofs.ProgressLemmas.{begins_written, none_far, well_bytes, stopped_bytes}
use Rattle.tb_steps.specs.Run.{Run, End, done, pool_full, dead_cycles, page_limit, node_limit, Step, ends, goes_on, held_count, step, run_from, firings_left, run_of_state, run_of, step_events}
use Rattle.tb_items.specs.RunEvents.{RunEvent}
use Rattle.tb_items.specs.Classes.{classes_of}
use Rattle.tb_items.specs.Happenings.{events_of}
use Rattle.tb_run.specs.Routine.{state_of, held_in, IsEnd, IsFaultEnd, EndsAs, over_limit}
use Rattle.tb_items.specs.declared.happenings.Happening.{Happening}
use Rattle.tb_run.specs.declared.routine.Routine.{Routine}
use Rattle.tb_run.specs.declared.routine.Ending.{Ending}
use Rattle.tb_run.specs.declared.routine.Ending.TheVariants as endings
use Rattle.tb_top.specs.declared.PageFault.{PageFault}
use Rattle.tb_top.specs.declared.PageFault.TheVariants as faults
use Rattle.tb_top.specs.declared.dvi_pages.DviRunFault.{DviRunFault}
use Rattle.tb_top.specs.declared.dvi_pages.DviRunFault.TheVariants as refused
use Rattle.tb_laws.specs.DviFiles.{is_done, dvi_file}
use Rattle.tb_top.specs.Pages.{end_fault}
use Rattle.tb_top.specs.PagesWritten.{write_fault, IsRefusalOf, IsFaultRefusal}
use Rattle.tb_laws.specs.DviPages.{event_pages, run_pages}
use Rattle.tb_top.specs.DviFiles.{Writes, WritesFile, RefusesPages, RefusesFile}
use Rattle.tb_top.specs.DviWritten.{HoldsPages, StopsShort, FailsAmong, IsWriteFailure, last_bytes, EndsFile, FailsToWrite, StopsRun, StopsFile}
use Rattle.tb_top.specs.Kept.{Grows}
use Rattle.tb_top.proofs.Written.GoingLemmas.{Steps, Stops, steps, stops}
use Rattle.tb_top.proofs.Written.TurnLemmas.{ShowsStep}
use Rattle.tb_top.proofs.Written.FinishLemmas.{over-some, over-none}
use Rattle.tb_top.proofs.Written.KeptLemmas.{more-kept, more-written, front-written}
use Rattle.tb_top.proofs.DviFiles.DviSending.{events-append, noted-pages, holds-short, holds-written, fails-more}

-- ---- the run from here

pub record Going (s : State) (start now : Option (List ℕ)) (w : Progress) (whole : Run) : Type 0 where
  pub page : 1 ≤ s.page
  pub written : List Page
  pub fuel : ℕ
  pub holds : HoldsPages start now w written
  pub enough : firings_left s < fuel
  pub pages : run_pages whole ≡ written ++ run_pages (run_from fuel s)
  pub end : whole.end ≡ (run_from fuel s).end

-- all pages are written, and the run ends so
pub record Closing (e : End) (start now : Option (List ℕ)) (w : Progress) (whole : Run) : Type 0 where
  pub written : List Page
  pub holds : HoldsPages start now w written
  pub pages : run_pages whole ≡ written
  pub end : whole.end ≡ e

pub record ClosesAt (r : Routine) (ending : Ending) (start now : Option (List ℕ)) (w : Progress) (whole : Run) : Type 0 where
  pub end : End
  pub is : IsEnd r ending end
  pub closing : Closing end start now w whole

module _ (start now : Option (List ℕ)) (w : Progress) (whole : Run) where
  more-pages : (es : List RunEvent) (r q : Run) (written : List Page) → run_pages whole ≡ written ++ run_pages r → r.events ≡ es ++ q.events → run_pages whole ≡ (written ++ event_pages es) ++ run_pages q
  more-pages es r q written pages is =
      pages ∙ ap (λ xs. written ++ event_pages xs) is ∙ ap (λ xs. written ++ xs) (events-append es q.events) ∙ sym (append_assoc written (event_pages es) (run_pages q))

  last-pages : (es : List RunEvent) (r : Run) (written : List Page) → run_pages whole ≡ written ++ run_pages r → r.events ≡ es → run_pages whole ≡ written ++ event_pages es
  last-pages es r written pages is = pages ∙ ap (λ xs. written ++ event_pages xs) is

  -- a step whose pages are written
  goes-by : (s t : State) (es : List RunEvent) (new : Option (List ℕ)) (u : Progress) (written : List Page) (fuel : ℕ) → firings_left s < fuel → run_pages whole ≡ written ++ run_pages (run_from fuel s) → whole.end ≡ (run_from fuel s).end → Steps s t es
      → HoldsPages start new u (written ++ event_pages es) → Going t start new u whole
  goes-by s t es new u written zero enough pages end st h = absurd (omega arith)
  goes-by s t es new u written (suc fuel) enough pages end st h =
      let fewer = st.fewer in
      record {
        page = st.page;
        written = written ++ event_pages es;
        fuel = fuel;
        holds = h;
        enough = omega arith;
        pages = more-pages es (run_from (suc fuel) s) (run_from fuel t) written pages (st.later fuel).0;
        end = end ∙ (st.later fuel).1;
      }

  closes-by : (s : State) (e : End) (es : List RunEvent) (new : Option (List ℕ)) (u : Progress) (written : List Page) (fuel : ℕ) → firings_left s < fuel → run_pages whole ≡ written ++ run_pages (run_from fuel s) → whole.end ≡ (run_from fuel s).end → Stops s e es
      → HoldsPages start new u (written ++ event_pages es) → Closing e start new u whole
  closes-by s e es new u written zero enough pages end st h = absurd (omega arith)
  closes-by s e es new u written (suc fuel) enough pages end st h = record {
    written = written ++ event_pages es;
    holds = h;
    pages = last-pages es (run_from (suc fuel) s) written pages (st.later fuel).0;
    end = end ∙ (st.later fuel).1;
  }

  -- the pages of a step and those after it
  split-on : (s t : State) (es : List RunEvent) (written : List Page) (fuel : ℕ) → firings_left s < fuel → run_pages whole ≡ written ++ run_pages (run_from fuel s) → Steps s t es → (rest : List Page) × (run_pages whole ≡ (written ++ event_pages es) ++ rest)
  split-on s t es written zero enough pages st = absurd (omega arith)
  split-on s t es written (suc fuel) enough pages st = (run_pages (run_from fuel t), more-pages es (run_from (suc fuel) s) (run_from fuel t) written pages (st.later fuel).0)

  split-last : (s : State) (e : End) (es : List RunEvent) (written : List Page) (fuel : ℕ) → firings_left s < fuel → run_pages whole ≡ written ++ run_pages (run_from fuel s) → Stops s e es → (rest : List Page) × (run_pages whole ≡ (written ++ event_pages es) ++ rest)
  split-last s e es written zero enough pages st = absurd (omega arith)
  split-last s e es written (suc fuel) enough pages st = ([], last-pages es (run_from (suc fuel) s) written pages (st.later fuel).0 ∙ sym (append-nil (written ++ event_pages es)))

  split : (s : State) (st : Step) → step s ≡ st → (g : Going s start now w whole) → (rest : List Page) × (run_pages whole ≡ (g.written ++ event_pages (step_events st)) ++ rest)
  split s (goes_on es rs t) is g = split-on s t es g.written g.fuel g.enough g.pages (steps s t es rs is g.page)
  split s (ends es rs e) is g = split-last s e es g.written g.fuel g.enough g.pages (stops s e es rs is)

-- a step with what shows it: the routine after it, what happened, and how the run ended
module _ (s : State) (start now : Option (List ℕ)) (w : Progress) (whole : Run) (going : Going s start now w whole) (q : Routine) (hs : List Happening) (o : Option Ending) (wanted : Bool) (shows : ShowsStep wanted s q hs o) where
  pages-are : event_pages (events_of q.store hs) ≡ event_pages (step_events (step s))
  pages-are = ap event_pages shows.events ∙ noted-pages wanted (step_events (step s))

  -- writing its pages failed, or one is out of range
  pub turn-fails : (e : DviRunFault) (new : Option (List ℕ)) → FailsAmong e start new (going.written ++ event_pages (events_of q.store hs)) → FailsAmong e start new (run_pages whole)
  turn-fails e new h =
      let c = split start now w whole s (step s) refl going in
      subst (FailsAmong e start new) (sym c.1) (fails-more e start new (going.written ++ event_pages (step_events (step s))) c.0 (subst (λ ps. FailsAmong e start new (going.written ++ ps)) pages-are h))

  module _ (new : Option (List ℕ)) (u : Progress) (h : HoldsPages start new u (going.written ++ event_pages (events_of q.store hs))) where
    holds : HoldsPages start new u (going.written ++ event_pages (step_events (step s)))
    holds = subst (λ ps. HoldsPages start new u (going.written ++ ps)) pages-are h

    closes-at : (ending : Ending) (st : Step) → step s ≡ st → EndsAs q (Some ending) st → HoldsPages start new u (going.written ++ event_pages (step_events st)) → ClosesAt q ending start new u whole
    closes-at ending (goes_on es rs t) is k b = absurd k
    closes-at ending (ends es rs e) is k b = record { end = e; is = k; closing = closes-by start now w whole s e es new u going.written going.fuel going.enough going.pages going.end (stops s e es rs is) b }

    pub turn-closing : (ending : Ending) → o ≡ Some ending → ClosesAt q ending start new u whole
    turn-closing ending some = closes-at ending (step s) refl (subst (λ x. EndsAs q x (step s)) some shows.ended) holds

    goes-at : (st : Step) → step s ≡ st → EndsAs q None st → HoldsPages start new u (going.written ++ event_pages (step_events st)) → Going (state_of q) start new u whole
    goes-at (ends es rs e) is k b = absurd k
    goes-at (goes_on es rs t) is k b = subst (λ x. Going x start new u whole) (sym k) (goes-by start now w whole s t es new u going.written going.fuel going.enough going.pages going.end (steps s t es rs is going.page) b)

    -- the lists of what was sent were closed since
    pub turn-going : (after : State) → after ≡ state_of q → o ≡ None → Going after start new u whole
    turn-going after same none = subst (λ x. Going x start new u whole) (sym same) (goes-at (step s) refl (subst (λ x. EndsAs q x (step s)) none shows.ended) holds)

-- ---- the beginning

holds-first : (start now : Option (List ℕ)) (w : Progress) → w ≡ at_first → Appends start now preamble → HoldsPages start now w []
holds-first start now w is a = record { progress = subst (λ x. HasWritten x []) (sym is) begins_written; held = subst (Appends start now) (sym (append-nil preamble)) a }

begins-by : (s : State) (start now : Option (List ℕ)) (w : Progress) (t : Bool) → int_lt s.params.maxnodes (pos (held_count s)) ≡ t → 1 ≤ s.page → HoldsPages start now w []
    → (let whole : Run = (if t then record { events = []; records = []; end = node_limit (held_count s) } else run_from (suc (firings_left s)) s) in
    (t ≡ false → Going s start now w whole) × (t ≡ true → Closing (node_limit (held_count s)) start now w whole))
begins-by s start now w true e page h = ((λ k. cc), (λ k. record { written = []; holds = h; pages = refl; end = refl }))
begins-by s start now w false e page h = ((λ k. record { page = page; written = []; fuel = suc (firings_left s); holds = h; enough = omega arith; pages = refl; end = refl }), (λ k. cc))

module _ (g : Galley) (r : Routine) (start now : Option (List ℕ)) (w : Progress) (o : Option Ending) (is : state_of r ≡ first_state g.params (classes_of g) (expanded g)) (first : w ≡ at_first) (a : Appends start now preamble) (over : o ≡ over_limit (state_of r).params (held_count (state_of r))) where
  limit : Bool
  limit = int_lt (state_of r).params.maxnodes (pos (held_count (state_of r)))

  one : 1 ≤ (state_of r).page
  one = omega (arith, ap (λ (x : State). x.page) is)

  begun : (t : Bool) → int_lt (state_of r).params.maxnodes (pos (held_count (state_of r))) ≡ t → (t ≡ false → Going (state_of r) start now w (run_of g)) × (t ≡ true → Closing (node_limit (held_count (state_of r))) start now w (run_of g))
  unfolding run_of
  begun t e =
      let s = state_of r in
      let same : (if t then (let x : Run = record { events = []; records = []; end = node_limit (held_count s) } in x) else run_from (suc (firings_left s)) s) ≡ run_of g =
      ap (λ b. if b then (let x : Run = record { events = []; records = []; end = node_limit (held_count s) } in x) else run_from (suc (firings_left s)) s) (sym e) ∙ ap (run_of_state) is in
      let k = begins-by s start now w t e one (holds-first start now w first a) in
      ((λ x. subst (Going s start now w) same (k.0 x)), (λ x. subst (Closing (node_limit (held_count s)) start now w) same (k.1 x)))

  pub start-closing : (ending : Ending) → o ≡ Some ending → ClosesAt r ending start now w (run_of g)
  start-closing ending some =
      let k = over-some (state_of r).params (held_count (state_of r)) ending (int_lt (state_of r).params.maxnodes (pos (held_count (state_of r)))) refl (sym over ∙ some) in
      record { end = node_limit (held_count (state_of r)); is = rw (k.1) refl; closing = (begun true k.0).1 refl }

  pub start-going : o ≡ None → Going (state_of r) start now w (run_of g)
  start-going none = (begun false (over-none (state_of r).params (held_count (state_of r)) (int_lt (state_of r).params.maxnodes (pos (held_count (state_of r)))) refl (sym over ∙ none))).0 refl

-- ---- what the run comes to

module _ (g : Galley) (start : Option (List ℕ)) where
  all-short : (new : Option (List ℕ)) → StopsShort start new (run_pages (run_of g)) → AppendsPrefix start new (dvi_file g.params.textheight (run_of g))
  all-short new h = subst (λ ps. AppendsPrefix start new (run_bytes g.params.textheight ps (is_done (run_of g).end))) (append-nil (run_pages (run_of g))) (h g.params.textheight [] (is_done (run_of g).end))

  -- writing failed
  pub refuses-cut : (fault : SinkFault) (new : Option (List ℕ)) → AppendsPrefix start new (dvi_file g.params.textheight (run_of g)) → RefusesFile g start new (refused.Pages (write_fault fault))
  refuses-cut outputs.Failed new b = b
  refuses-cut outputs.Memory new b = b

  -- writing failed, or a page is out of range
  pub refuses-among : (e : DviRunFault) (before after : ℕ) (new : Option (List ℕ)) → IsWriteFailure before after e → FailsAmong e start new (run_pages (run_of g)) → RefusesFile g start new e
  refuses-among (refused.TooFar n) before after new c h =
      let k = h g.params.textheight [] (is_done (run_of g).end) in (
        ap (first_too_far 27) (sym (append-nil (run_pages (run_of g)))) ∙ k.0,
        subst (λ ps. Appends start new (run_bytes g.params.textheight ps (is_done (run_of g).end))) (append-nil (run_pages (run_of g))) k.1,
      )
  refuses-among (refused.Pages f) before after new c h = rw c.1 (refuses-cut c.0 new (all-short new h))

  module _ (now : Option (List ℕ)) (w : Progress) where
    -- nothing more is written
    pub going-short : (s : State) → Going s start now w (run_of g) → AppendsPrefix start now (dvi_file g.params.textheight (run_of g))
    going-short s k =
        subst (λ ps. AppendsPrefix start now (run_bytes g.params.textheight ps (is_done (run_of g).end))) (sym k.pages)
        (holds-short start now w k.written k.holds g.params.textheight (run_pages (run_from k.fuel s)) (is_done (run_of g).end))

    module _ (e : End) (k : Closing e start now w (run_of g)) where
      near : first_too_far 27 (run_pages (run_of g)) ≡ None
      near = ap (first_too_far 27) k.pages ∙ none_far w k.written k.holds.progress

      file-is : (well : Bool) → is_done e ≡ well → dvi_file g.params.textheight (run_of g) ≡ run_bytes g.params.textheight k.written well
      file-is well is = (λ i. run_bytes g.params.textheight (k.pages i) (is_done (k.end i))) ∙ ap (run_bytes g.params.textheight k.written) is

      -- a front of the file is there
      closing-short : AppendsPrefix start now (dvi_file g.params.textheight (run_of g))
      closing-short =
          subst (λ ps. AppendsPrefix start now (run_bytes g.params.textheight ps (is_done (run_of g).end))) (append-nil k.written ∙ sym k.pages)
          (holds-short start now w k.written k.holds g.params.textheight [] (is_done (run_of g).end))

      -- the end of the file is left
      done-file : is_done e ≡ true → dvi_file g.params.textheight (run_of g) ≡ file_front k.written ++ last_bytes g.params.textheight w
      done-file is = file-is true is ∙ well_bytes w k.written k.holds.progress g.params.textheight

      stopped-file : is_done e ≡ false → dvi_file g.params.textheight (run_of g) ≡ file_front k.written
      stopped-file is = file-is false is ∙ stopped_bytes w k.written k.holds.progress g.params.textheight

    done-well : (left : List PlainNode) → Closing (done left) start now w (run_of g) → (new : Option (List ℕ)) → Appends now new (last_bytes g.params.textheight w) → WritesFile g start new
    done-well left k new b = record {
      ended = ap end_fault k.end;
      near = near (done left) k;
      written = subst (Appends start new) (sym (done-file (done left) k refl)) (Appends-trans start now new (file_front k.written) (last_bytes g.params.textheight w) k.holds.held b);
    }

    done-cut : (left : List PlainNode) → Closing (done left) start now w (run_of g) → (new : Option (List ℕ)) → AppendsPrefix now new (last_bytes g.params.textheight w) → AppendsPrefix start new (dvi_file g.params.textheight (run_of g))
    done-cut left k new b =
        prefix_on start now new (dvi_file g.params.textheight (run_of g)) (file_front k.written) (last_bytes g.params.textheight w) [] k.holds.held b
        (done-file (done left) k refl ∙ ap (λ t. file_front k.written ++ t) (sym (append-nil (last_bytes g.params.textheight w))))

    stopped : (e : End) (f : PageFault) → Closing e start now w (run_of g) → end_fault e ≡ Some f → is_done e ≡ false → (new : Option (List ℕ)) → new ≡ now → Writes g start new (Some f)
    stopped e f k fault not new kept = record {
      ended = ap end_fault k.end ∙ fault;
      near = near e k;
      written = subst (λ x. Appends start x (dvi_file g.params.textheight (run_of g))) (sym kept) (subst (Appends start now) (sym (stopped-file e k not)) k.holds.held);
    }

    stopped-at : (e d : End) (f x : PageFault) → e ≡ d → f ≡ x → end_fault d ≡ Some x → is_done d ≡ false → (new : Option (List ℕ)) → new ≡ now → Closing e start now w (run_of g) → Writes g start new (Some x)
    stopped-at e d f x is same fault not new kept k = stopped d x (subst (λ y. Closing y start now w (run_of g)) is k) fault not new kept

    by-fault : (x : RunFault) (e : End) (f : PageFault) (new : Option (List ℕ)) → IsFaultEnd x e → IsFaultRefusal x f → new ≡ now → Closing e start now w (run_of g) → RefusesPages g start new f
    by-fault (unfired.DeadCycles n) e f new is h kept k = rw h (stopped-at e (dead_cycles n) f (faults.DeadCycles n) is h refl refl new kept k)
    by-fault (unfired.PageLimit n) e f new is h kept k = rw h (stopped-at e (page_limit n) f (faults.PageLimit n) is h refl refl new kept k)
    by-fault unfired.Memory e f new is h kept k = absurd is

    by-ending : (r : Routine) (ending : Ending) (e : End) (f : PageFault) (new : Option (List ℕ)) → IsEnd r ending e → IsRefusalOf ending f → new ≡ now → Closing e start now w (run_of g) → RefusesPages g start new f
    by-ending r endings.Done e f new is h kept k = absurd h
    by-ending r (endings.PoolFull line live) e f new is h kept k = rw h (stopped-at e (pool_full line live) f (faults.PoolFull line live) is h refl refl new kept k)
    by-ending r (endings.Fault x) e f new is h kept k = by-fault x e f new is h kept k
    by-ending r (endings.NodeLimit n) e f new is h kept k = rw h (stopped-at e (node_limit n) f (faults.NodeLimit n) is h refl refl new kept k)

    module _ (r : Routine) (ending : Ending) (c : ClosesAt r ending start now w (run_of g)) where
      at-done : ending ≡ endings.Done → Closing (done (held_in r).page) start now w (run_of g)
      at-done is = let left : c.end ≡ done (held_in r).page = subst (λ x. IsEnd r x c.end) is c.is in subst (λ x. Closing x start now w (run_of g)) left c.closing

  -- a text is kept, and out would hold now if it were written
  module _ (held : Option (List ℕ)) (kept : List ℕ) (w : Progress) (r : Routine) (ending : Ending) (c : ClosesAt r ending start (append_known held kept) w (run_of g)) (new : Option (List ℕ)) where
    abbrev now : Option (List ℕ)
    now = append_known held kept

    abbrev last : List ℕ
    last = last_bytes g.params.textheight w

    closing-written : Appends held new kept → Closing c.end start new w (run_of g)
    closing-written a = record { written = c.closing.written; holds = holds-written start held new kept c.closing.written w c.closing.holds a; pages = c.closing.pages; end = c.closing.end }

    pub ends-well : EndsFile g.params.textheight w ending kept held new → WritesFile g start new
    ends-well h = done-well now w (held_in r).page (at-done now w r ending c h.0) new (more-written held new kept last h.1)

    module _ (grown : Grows start held) where
      cut-off : (f : PageFault) (text : List ℕ) → FailsToWrite held new text f → AppendsPrefix start (append_known held text) (dvi_file g.params.textheight (run_of g)) → RefusesPages g start new f
      cut-off f text h p = rw h.0.1 (refuses-cut h.0.0 new (front-written start held new text (dvi_file g.params.textheight (run_of g)) grown h.1 p))

      stops-run : (f : PageFault) → StopsRun g.params.textheight w ending kept held new f → RefusesPages g start new f
      stops-run f (inl h) = cut-off f kept h (closing-short now w c.end c.closing)
      stops-run f (inr (inl h)) = by-ending new w r ending c.end f new c.is h.0 refl (closing-written h.1)
      stops-run f (inr (inr h)) =
          let all = append_known held (kept ++ last) in
          cut-off f (kept ++ last) h.1 (done-cut now w (held_in r).page (at-done now w r ending c h.0) all (prefix_whole now all last (more-kept held kept last)))

      pub stops-with : (e : DviRunFault) → StopsFile g.params.textheight w ending kept held new e → RefusesFile g start new e
      stops-with (refused.Pages f) h = stops-run f h
      stops-with (refused.TooFar page) h = absurd h
