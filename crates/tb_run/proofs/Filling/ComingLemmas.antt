-- A page that is filled, event by event, as a step of the run.
use Rattle.std.proofs.Common.{◌≡◌, refl, sym, subst, ◌∙◌, ap, ℕ, ◌+◌, ◌≤◌, true, false, List, [], ◌∷◌, ◌++◌, map, Some, None, append-nil, append_assoc, arith}
use Rattle.std.specs.Prelude.{All}
use Rattle.tb_scaled.specs.Scaled.{awful_bad}
use Rattle.tb_node.specs.declared.Act.{Act}
use Rattle.tb_node.specs.PlainNodes.{PlainNode}
use Rattle.tb_break.specs.Best.{least_cost}
use Rattle.tb_break.specs.PageTop.{pruned_nodes}
use Rattle.tb_builder.specs.declared.Ask.{Ask}
use Rattle.tb_builder.specs.declared.Try.{Try}
use Rattle.tb_builder.specs.Reach.{Reached, acted, tried, Reach, try_of, breakpoints}
use Rattle.tb_builder.specs.FiredPages.{fired_of}
use Rattle.tb_builder.specs.Contents.{Contents, laid, reach_ahead, node_count}
use Rattle.tb_builder.specs.PageProgress.{page_reach, page_fired, HasCome, StopsAt, ComesToTry, ComesToAct, ComesToEnd}
use Rattle.tb_builder.proofs.Events.PagingLemmas.{paging_begins}
use Rattle.tb_builder.proofs.Ranges.PageableLemmas.{pruned_sized, pruned_nodes_longer}
use Rattle.tb_sheet.specs.Sheet.{warned}
use Rattle.tb_sheet.specs.declared.Warn.{Warn}
use Rattle.tb_output.specs.State.{State, Recorded, emptied}
use Rattle.tb_output.specs.Act.{went, full, act_on}
use Rattle.tb_sheet.specs.Asked.{IsSizedAct}
use Rattle.tb_items.specs.GalleyNodes.{IsGalleyNode}
use Rattle.tb_items.specs.RunEvents.{offered, sent}
use Rattle.tb_steps.specs.Run.{done, pool_full, Progress, after_events, progress_by, progress, ask_for, ends, after_progress, step}
use Rattle.tb_steps.specs.Runnable.{AreRunnable}
use Rattle.tb_run.specs.ServedStates.{notes_waiting, notes_left, IsServed}
use Rattle.tb_run.specs.Routine.{between_pages}
use Rattle.tb_run.specs.FilledPages.{reach_in, progress_in, page_in}
use Rattle.tb_run.proofs.ServedAgain.FiredNodes.{served-pruned, nodes-both, nodes-sized, nodes-served, notes-pruned}
use Rattle.tb_run.proofs.Filling.ActedStates.{ActKeeps, keeps-same, keeps-then, act-sized, act-keeps, act-runs, act-served, act-notes, without-count, led-runs}
use Rattle.tb_run.proofs.Filling.ProgressLemmas.{progress-tried, progress-acted, progress-stuck}
use Rattle.tb_float.specs.Ranges.{IsWithin}
use Rattle.tb_run.proofs.ServedAgain.ServedFirings.{reach_where}

-- the same with other nodes of the same kind
pub served-nodes : (ns ms : List PlainNode) (s : State) → All (IsGalleyNode s.classes) ms → notes_waiting ms ≡ notes_waiting ns → IsServed ns s → IsServed ms s
served-nodes ns ms s nodes same h =
    let e : notes_left ns s ≡ notes_left ms s = (omega (arith, same)) in
    record {
      nodes = nodes;
      held = h.held;
      boxes = h.boxes;
      entries = h.entries;
      notes = let n = h.notes in omega (arith, n, e);
      bottom = subst (λ k. IsWithin (reach_where k) s.note_bottom) e h.bottom;
    }

module _ (s : State) where
  abbrev pub ask : Ask
  ask = ask_for s

  -- what the builder holds at the start of the page
  abbrev pub start : Contents
  start = between_pages s

  -- the acts and places so far
  abbrev pub so_far : List Reached → Progress
  so_far rs = progress rs awful_bad s

  -- this much was reached, and the state is that after it: the builder has the rest of the page before it
  pub record IsComing (rs : List Reached) (c : Contents) (t : State) : Type 0 where
    pub come : HasCome start rs c ask
    pub none : (so_far rs).fault ≡ None
    pub state : (so_far rs).state ≡ t
    pub served : IsServed (laid c ask) t
    pub few : node_count (laid c ask) ≤ node_count s.waiting + 1
    pub notes : notes_left (laid c ask) t ≤ notes_left s.waiting s
    pub keeps : ActKeeps s t
    pub runs : AreRunnable t.params

  -- ---- nothing was reached yet

  pub coming-start : AreRunnable s.params → IsServed s.waiting s → IsComing [] start s
  coming-start runs h = record {
    come = paging_begins start ask refl refl refl;
    none = refl;
    state = refl;
    served =
        served-nodes s.waiting (pruned_nodes ask.top_skip s.waiting) s
        (nodes-both s.classes (pruned_nodes ask.top_skip s.waiting) (pruned_sized ask.top_skip s.waiting (led-runs s runs).topskip (nodes-sized s.classes s.waiting h.nodes)) (served-pruned s.classes ask.top_skip s.waiting (nodes-served s.classes s.waiting h.nodes)))
        (notes-pruned ask.top_skip s.waiting) h;
    few = pruned_nodes_longer ask.top_skip s.waiting;
    notes = let a = notes-pruned ask.top_skip s.waiting in omega (arith, a);
    keeps = keeps-same s;
    runs = runs;
  }

  module _ (rs : List Reached) (c d : Contents) (t : State) (h : IsComing rs c t) where
    -- the same page, and the same is laid out
    pub coming-same : HasCome start rs d ask → laid d ask ≡ laid c ask → IsComing rs d t
    coming-same come whole = record {
      come = come;
      none = h.none;
      state = h.state;
      served = subst (λ ns. IsServed ns t) (sym whole) h.served;
      few = let f = h.few in let e = ap node_count whole in omega (arith, f, e);
      notes = let f = h.notes in let e = ap notes_waiting whole in omega (arith, f, e);
      keeps = h.keeps;
      runs = h.runs;
    }

    -- ---- a place was tried

    module _ (x : Try) (n : ComesToTry x start rs c ask d) where
      abbrev pub after : List Reached
      after = rs ++ tried n.line n.place ∷ []

      is : so_far after ≡ record { state = (so_far rs).state; events = (so_far rs).events ++ offered (try_of n.line n.place (least_cost (breakpoints rs))) ∷ []; records = (so_far rs).records; fault = None }
      is = progress-tried rs s h.none n.line n.place

      pub tried-events : (so_far after).events ≡ (so_far rs).events ++ offered x ∷ []
      tried-events = ap (λ (q : Progress). q.events) is ∙ ap (λ (y : Try). (so_far rs).events ++ offered y ∷ []) (sym n.made)

      pub coming-tried : IsComing after d t
      coming-tried = record {
        come = n.come;
        none = ap (λ (q : Progress). q.fault) is;
        state = ap (λ (q : Progress). q.state) is ∙ h.state;
        served = subst (λ ns. IsServed ns t) (sym n.whole) h.served;
        few = let f = h.few in let e = ap node_count n.whole in omega (arith, f, e);
        notes = let f = h.notes in let e = ap notes_waiting n.whole in omega (arith, f, e);
        keeps = h.keeps;
        runs = h.runs;
      }

    -- ---- an act was reached

    module _ (a : Act) (n : ComesToAct a start rs c ask d) where
      -- its amounts are in their ranges
      pub acted-sized : IsSizedAct a
      acted-sized = act-sized a (laid c ask) (laid d ask) t n.whole h.served

      of-state : act_on (so_far rs).state.params (so_far rs).state a ≡ act_on t.params t a
      of-state = ap (λ (z : State). act_on z.params z a) h.state

      -- it was done
      module _ (u : State) (ws : List Warn) (qs : List Recorded) (e : act_on t.params t a ≡ went u ws qs) where
        done-is : so_far (rs ++ acted a ∷ []) ≡ after_events (so_far rs).events (so_far rs).records (after_events (map (λ z. sent (warned z)) ws) qs (record { state = u; events = []; records = []; fault = None }))
        done-is = progress-acted rs s h.none a ∙ ap (λ o. after_events (so_far rs).events (so_far rs).records (progress_by (λ z. record { state = z; events = []; records = []; fault = None }) (so_far rs).state o)) (of-state ∙ e)

        pub acted-events : (so_far (rs ++ acted a ∷ [])).events ≡ (so_far rs).events ++ map (λ z. sent (warned z)) ws
        acted-events = ap (λ (q : Progress). q.events) done-is ∙ ap (λ es. (so_far rs).events ++ es) (append-nil (map (λ z. sent (warned z)) ws))

        pub coming-acted : IsComing (rs ++ acted a ∷ []) d u
        coming-acted = record {
          come = n.come;
          none = ap (λ (q : Progress). q.fault) done-is;
          state = ap (λ (q : Progress). q.state) done-is;
          served = act-served a (laid c ask) (laid d ask) t u ws qs h.runs n.whole h.served e;
          few = let f = h.few in let l = without-count a (laid c ask) (laid d ask) n.whole in omega (arith, f, l);
          notes = let f = h.notes in let l = act-notes a (laid c ask) (laid d ask) t u ws qs h.runs n.whole h.served e in omega (arith, f, l);
          keeps = keeps-then s t u h.keeps (act-keeps a (laid c ask) (laid d ask) t u ws qs h.runs n.whole h.served e);
          runs = act-runs a (laid c ask) (laid d ask) t u ws qs h.runs n.whole h.served e;
        }

      -- it found no room
      pub full-progress : (line live : ℕ) → act_on t.params t a ≡ full line live → progress_in s ≡ record { state = (so_far rs).state; events = (so_far rs).events; records = (so_far rs).records; fault = Some (line, live) }
      full-progress line live e =
          let more = (reach_ahead d ask).reached in
          let reached : (page_reach start ask).reached ≡ rs ++ acted a ∷ more = (ap (λ (v : Reach). v.reached) (n.come.goes n.stop).reach ∙ append_assoc rs (acted a ∷ []) more) in
          ap so_far reached ∙ progress-stuck rs s h.none a more line live (of-state ∙ e)

      -- the run ends
      pub step-full : (line live : ℕ) → act_on t.params t a ≡ full line live → step s ≡ ends (so_far rs).events (so_far rs).records (pool_full line live)
      unfolding step
      step-full line live e = ap (λ (q : Progress). after_progress ask (page_reach start ask) q q.fault) (full-progress line live e)

    -- ---- nothing waits any more

    -- this is all of the page, which does not fire
    pub over-progress : ComesToEnd start rs c ask d → progress_in s ≡ so_far rs
    over-progress n = ap (λ (x : Reach). so_far x.reached) n.reach

    pub over-fires : ComesToEnd start rs c ask d → (reach_in s).fires ≡ false
    over-fires n = ap (λ (x : Reach). x.fires) n.reach

    pub step-over : ComesToEnd start rs c ask d → step s ≡ ends (so_far rs).events ((so_far rs).records ++ emptied (so_far rs).state.floats ∷ []) (done d.page)
    unfolding step
    step-over n =
        let last : Reach = record { reached = rs; passed = d.page; beyond = []; fires = false } in
        ap (λ (x : Reach). let q = progress x.reached awful_bad s in after_progress ask x q q.fault) n.reach
        ∙ ap (after_progress ask last (so_far rs)) h.none

  -- ---- the page fires

  module _ (rs : List Reached) (c : Contents) (t : State) (h : IsComing rs c t) (off : c.stopped ≡ true) where
    stop : StopsAt start rs c ask
    stop = h.come.stops off

    abbrev last : Reach
    last = record { reached = rs; passed = c.page; beyond = c.waiting; fires = true }

    -- the page that fires, by what was passed
    pub fired-is : page_fired start ask ≡ fired_of ask s.classes s.boxes last
    fired-is = ap (fired_of ask s.classes s.boxes) stop.reach

    -- this is all of the page, which fires
    pub fires-progress : progress_in s ≡ so_far rs
    fires-progress = ap (λ (x : Reach). so_far x.reached) stop.reach

    pub fires-is : (reach_in s).fires ≡ true
    fires-is = ap (λ (x : Reach). x.fires) stop.reach

    pub fires-state : (progress_in s).state ≡ t
    fires-state = ap (λ (q : Progress). q.state) fires-progress ∙ h.state

    -- the page that fires is that of the state after the acts
    pub fires-page : page_in s ≡ page_fired start ask
    fires-page =
        (λ i. fired_of ask (fires-state i).classes (fires-state i).boxes (reach_in s))
        ∙ (λ i. fired_of ask (h.keeps.classes i) (h.keeps.boxes i) (reach_in s))
