-- If what waits does not end in a kern, a page at which the pool of floats is full finds it full whatever comes behind.
use Rattle.std.proofs.Common.{◌≡◌, refl, sym, subst, ◌∙◌, ap, ℕ, ℤ, Bool, true, false, List, [], ◌∷◌, ◌++◌, Some, true≢false}
use Rattle.tb_scaled.specs.Scaled.{awful_bad, min_ℤ}
use Rattle.tb_node.specs.PlainNodes.{hbox, rule, skip, kerned, pen, mark, note, whatsit, PlainKind, plain, ins, act, PlainNode}
use Rattle.tb_insert.specs.Account.{terms_after}
use Rattle.tb_builder.specs.declared.Ask.{Ask}
use Rattle.tb_builder.specs.Courses.{freezes}
use Rattle.tb_builder.specs.FiredPages.{frozen_for, reach_of}
use Rattle.tb_builder.specs.Reach.{Reached, acted, tried, Reach, reach_from}
use Rattle.tb_break.specs.PageTop.{pruned_nodes}
use Rattle.tb_builder.proofs.Turns.PastLemmas.{laid-more}
use Rattle.tb_items.specs.ItemsLeft.{kern_last}
use Rattle.tb_items.proofs.OpenLemmas.{open-pruned}
use Rattle.tb_items.proofs.MoreEvents.{more_laid}
use Rattle.tb_items.proofs.MoreReached.{going-quiet, reach-more}
use Rattle.tb_output.specs.Act.{Acted, went, full, act_on}
use Rattle.tb_output.specs.State.{State}
use Rattle.tb_steps.specs.Run.{pool_full, Progress, progress, progress_by, ends, ask_for}
use Rattle.tb_best.specs.PlanDemerits.{reach_in, unlimited_progress, unlimited_step}
use Rattle.tb_best.specs.ItemsAhead.{state_with}
use Rattle.tb_steps.proofs.LedLemmas.{led-begun, same-reached}
use Rattle.tb_best.proofs.TopBreaks.{asked-in}
use Rattle.tb_best.proofs.StepMore.{progress-more}
use Rattle.tb_search.specs.FilledBranches.{IsRefusal}
use Rattle.tb_search.proofs.EndLemmas.{full-end}

-- one list begins with another
record Begins (xs ys : List Reached) : Type 0 where
  pub later : List Reached
  pub all : ys ≡ xs ++ later

-- what is reached is the same if the page is made for what is asked with more nodes behind: else a box is among the nodes
pruned-any : (top other : ℤ) (ns : List PlainNode) → freezes ns ≡ false → pruned_nodes top ns ≡ pruned_nodes other ns
pruned-any top other [] e = refl
pruned-any top other (n ∷ ns) e = kind n.line n.kind (pruned-any top other ns) e
  where
    kind : (l : ℕ) (k : PlainKind) → (freezes ns ≡ false → pruned_nodes top ns ≡ pruned_nodes other ns)
        → (let m : PlainNode = record { line = l; kind = k } in freezes (m ∷ ns) ≡ false → pruned_nodes top (m ∷ ns) ≡ pruned_nodes other (m ∷ ns))
    kind l (plain (hbox w h d)) ih f = absurd (true≢false f)
    kind l (plain (rule w h d)) ih f = absurd (true≢false f)
    kind l (plain (skip g)) ih f = ih f
    kind l (plain (kerned g)) ih f = ih f
    kind l (plain (pen q)) ih f = ih f
    kind l (plain (mark w)) ih f = ap (λ ms. record { line = l; kind = plain (mark w) } ∷ ms) (ih f)
    kind l (plain (note w)) ih f = ap (λ ms. record { line = l; kind = plain (note w) } ∷ ms) (ih f)
    kind l (plain whatsit) ih f = ap (λ ms. record { line = l; kind = plain whatsit } ∷ ms) (ih f)
    kind l (ins i) ih f = absurd (true≢false f)
    kind l (act a) ih f = ap (λ ms. record { line = l; kind = act a } ∷ ms) (ih f)

made-same : (s : State) (more : List PlainNode) → reach_of (ask_for (state_with more s)) s.classes s.boxes [] s.waiting ≡ reach_in s
made-same s more = by_begins (freezes s.waiting) refl
  where
    made : Ask
    made = ask_for (state_with more s)

    by_begins : (b : Bool) → freezes s.waiting ≡ b → reach_of made s.classes s.boxes [] s.waiting ≡ reach_in s
    by_begins true e = ap (λ a. reach_of a s.classes s.boxes [] s.waiting) (asked-in s (s.waiting ++ more) s.waiting (led-begun s.waiting more s e))
    by_begins false e =
        let frozen = terms_after (frozen_for made s.classes s.boxes) in
        ap (reach_from made.max_depth frozen []) (pruned-any made.top_skip (ask_for s).top_skip s.waiting e)
        ∙ same-reached made.max_depth (ask_for s).max_depth frozen (terms_after (frozen_for (ask_for s) s.classes s.boxes)) (ask_for s).top_skip [] s.waiting e

-- where nothing fires, what is reached with more nodes behind begins with what is reached without
reached-begins : (s : State) (more : List PlainNode) → kern_last false s.waiting ≡ false → (reach_in s).fires ≡ false → Begins (reach_in s).reached (reach_in (state_with more s)).reached
reached-begins s more last quiet =
    let ask = ask_for (state_with more s) in
    let terms = terms_after (frozen_for ask s.classes s.boxes) in
    let top = pruned_nodes ask.top_skip s.waiting in
    let tail = more_laid ask.top_skip top more in
    let here = reach_of ask s.classes s.boxes [] s.waiting in
    record {
      later = (reach_from ask.max_depth terms here.passed tail).reached;
      all = ap (λ (w : Reach). w.reached)
          (ap (reach_from ask.max_depth terms []) (sym (laid-more ask.top_skip [] s.waiting more))
          ∙ reach-more ask.max_depth terms [] top tail (open-pruned ask.top_skip false s.waiting last)
          ∙ going-quiet ask.max_depth terms here tail (ap (λ (w : Reach). w.fires) (made-same s more) ∙ quiet))
          ∙ ap (λ (w : Reach). w.reached ++ (reach_from ask.max_depth terms here.passed tail).reached) (made-same s more);
    }

module _ (x : ℕ × ℕ) where
  by-act : (later now : State → Progress) (s : State) (a : Acted) → ((t : State) → (later t).fault ≡ Some x → (now t).fault ≡ Some x) → (progress_by later s a).fault ≡ Some x → (progress_by now s a).fault ≡ Some x
  by-act later now s (went t ws rs) h k = h t k
  by-act later now s (full line live) h k = k

  -- the pool is full at the same act, whatever is reached after it
  fault-stays : (rs zs : List Reached) (least : ℤ) (s : State) → (progress rs least s).fault ≡ Some x → (progress (rs ++ zs) least s).fault ≡ Some x
  fault-stays [] zs least s h = cc
  fault-stays (acted a ∷ rs) zs least s h = by-act (λ t. progress rs least t) (λ t. progress (rs ++ zs) least t) s (act_on s.params s a) (λ t. fault-stays rs zs least t) h
  fault-stays (tried line b ∷ rs) zs least s h = fault-stays rs zs (min_ℤ least b.cost) s h

  module _ (s : State) (more : List PlainNode) (last : kern_last false s.waiting ≡ false) (quiet : (reach_in s).fires ≡ false) (fault : (progress (reach_in s).reached awful_bad s).fault ≡ Some x) where
    abbrev w : Reach
    w = reach_in (state_with more s)

    abbrev now : Progress
    now = progress w.reached awful_bad (state_with more s)

    now-full : now.fault ≡ Some x
    now-full =
        let b = reached-begins s more last quiet in
        ap (λ (q : Progress). q.fault) (progress-more w.reached awful_bad s more)
        ∙ subst (λ rs. (progress rs awful_bad s).fault ≡ Some x) (sym b.all) (fault-stays (reach_in s).reached b.later awful_bad s fault)

    step-full : unlimited_step (state_with more s) ≡ ends now.events now.records (pool_full x.0 x.1)
    unfolding unlimited_step
    step-full = ap (unlimited_progress (ask_for (state_with more s)) w now) now-full

    -- the run is refused
    pub full-on : IsRefusal (unlimited_step (state_with more s))
    full-on = subst IsRefusal (sym step-full) (full-end now.events now.records x.0 x.1)
