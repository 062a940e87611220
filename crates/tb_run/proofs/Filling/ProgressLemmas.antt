-- The acts and places of a page one after another.
use Rattle.std.proofs.Common.{◌≡◌, refl, sym, ◌∙◌, ap, ℕ, ℤ, List, [], ◌∷◌, ◌++◌, map, Some, None, append_assoc, append-nil}
use Rattle.tb_scaled.specs.Scaled.{min_ℤ, awful_bad}
use Rattle.tb_node.specs.declared.Act.{Act}
use Rattle.tb_break.specs.Best.{Breakpoint, least_cost}
use Rattle.tb_break.proofs.BestLemmas.{least-append}
use Rattle.tb_builder.specs.Reach.{Reached, acted, tried, try_of, breakpoints}
use Rattle.tb_sheet.specs.Sheet.{warned}
use Rattle.tb_output.specs.State.{State, Recorded}
use Rattle.tb_output.specs.Act.{Acted, went, full, act_on}
use Rattle.tb_items.specs.RunEvents.{RunEvent, offered, sent}
use Rattle.tb_steps.specs.Run.{Progress, after_events, progress_by, progress}

-- the least cost after these
abbrev pub least_after : List Reached → ℤ → ℤ
least_after [] z = z
least_after (acted a ∷ rs) z = least_after rs z
least_after (tried line b ∷ rs) z = least_after rs (min_ℤ z b.cost)

least-both : (bs : List Breakpoint) (rs : List Reached) → least_after rs (least_cost bs) ≡ least_cost (bs ++ breakpoints rs)
least-both bs [] = ap least_cost (sym (append-nil bs))
least-both bs (acted a ∷ rs) = least-both bs rs
least-both bs (tried line b ∷ rs) = ap (least_after rs) (sym (least-append bs b)) ∙ least-both (bs ++ b ∷ []) rs ∙ ap least_cost (append_assoc bs (b ∷ []) (breakpoints rs))

pub least-is : (rs : List Reached) → least_after rs awful_bad ≡ least_cost (breakpoints rs)
least-is rs = least-both [] rs

events-after : (es fs : List RunEvent) (rs qs : List Recorded) (q : Progress) → after_events es rs (after_events fs qs q) ≡ after_events (es ++ fs) (rs ++ qs) q
events-after es fs rs qs q = λ i. record q { events = sym (append_assoc es fs q.events) i; records = sym (append_assoc rs qs q.records) i }

-- after these, the rest goes on from their state
pub progress-append : (rs more : List Reached) (least : ℤ) (s : State) → (progress rs least s).fault ≡ None
    → progress (rs ++ more) least s ≡ after_events (progress rs least s).events (progress rs least s).records (progress more (least_after rs least) (progress rs least s).state)
progress-append [] more least s none = refl
progress-append (acted a ∷ rs) more least s none = by_act (act_on s.params s a) (λ s' h. progress-append rs more least s' h) none
  where
    by_act : (o : Acted) → ((s' : State) → (progress rs least s').fault ≡ None → progress (rs ++ more) least s' ≡ after_events (progress rs least s').events (progress rs least s').records (progress more (least_after rs least) (progress rs least s').state))
        → (progress_by (λ s'. progress rs least s') s o).fault ≡ None
        → progress_by (λ s'. progress (rs ++ more) least s') s o
        ≡ after_events (progress_by (λ s'. progress rs least s') s o).events (progress_by (λ s'. progress rs least s') s o).records (progress more (least_after rs least) (progress_by (λ s'. progress rs least s') s o).state)
    by_act (went s' ws qs) later h =
        ap (after_events (map (λ w. sent (warned w)) ws) qs) (later s' h)
        ∙ events-after (map (λ w. sent (warned w)) ws) (progress rs least s').events qs (progress rs least s').records (progress more (least_after rs least) (progress rs least s').state)
    by_act (full line live) later h = cc
progress-append (tried line b ∷ rs) more least s none =
    ap (after_events (offered (try_of line b least) ∷ []) []) (progress-append rs more (min_ℤ least b.cost) s none)
    ∙ events-after (offered (try_of line b least) ∷ []) (progress rs (min_ℤ least b.cost) s).events [] (progress rs (min_ℤ least b.cost) s).records (progress more (least_after rs (min_ℤ least b.cost)) (progress rs (min_ℤ least b.cost) s).state)

-- ---- one more

module _ (rs : List Reached) (s : State) (none : (progress rs awful_bad s).fault ≡ None) where
  abbrev q : Progress
  q = progress rs awful_bad s

  -- a place was tried
  pub progress-tried : (line : ℕ) (b : Breakpoint) → progress (rs ++ tried line b ∷ []) awful_bad s ≡ record { state = q.state; events = q.events ++ offered (try_of line b (least_cost (breakpoints rs))) ∷ []; records = q.records; fault = None }
  progress-tried line b =
      progress-append rs (tried line b ∷ []) awful_bad s none
      ∙ (λ i. record { state = q.state; events = q.events ++ offered (try_of line b (least-is rs i)) ∷ []; records = append-nil q.records i; fault = None })

  -- an act was done, or found no room
  pub progress-acted : (a : Act) → progress (rs ++ acted a ∷ []) awful_bad s ≡ after_events q.events q.records (progress_by (λ t. progress [] (least_after rs awful_bad) t) q.state (act_on q.state.params q.state a))
  progress-acted a = progress-append rs (acted a ∷ []) awful_bad s none

  pub progress-stuck : (a : Act) (more : List Reached) (line live : ℕ) → act_on q.state.params q.state a ≡ full line live → progress (rs ++ acted a ∷ more) awful_bad s ≡ record { state = q.state; events = q.events; records = q.records; fault = Some (line, live) }
  progress-stuck a more line live e =
      progress-append rs (acted a ∷ more) awful_bad s none
      ∙ ap (λ o. after_events q.events q.records (progress_by (λ t. progress more (least_after rs awful_bad) t) q.state o)) e
      ∙ (λ i. record { state = q.state; events = append-nil q.events i; records = append-nil q.records i; fault = Some (line, live) })
