-- The parameters stay as they are on a page whose waiting nodes set none.
use Rattle.std.proofs.Common.{◌≡◌, refl, ◌∙◌, ℕ, ℤ, Bool, true, false, List, [], ◌∷◌, ◌++◌, Option, Some, None, true≢false}
use Rattle.std.specs.Prelude.{pos, ◌+◌, map, not, int_lt, int_le, if◌then◌else◌}
use Rattle.tb_scaled.specs.Scaled.{awful_bad, min_ℤ}
use Rattle.tb_node.specs.declared.Act.{Act}
use Rattle.tb_node.specs.declared.Act.TheVariants as acts
use Rattle.tb_node.specs.PlainNodes.{hbox, rule, skip, kerned, pen, mark, note, whatsit, PlainKind, plain, ins, act, PlainNode, node_shape, without_acts}
use Rattle.tb_break.specs.Best.{Breakpoint, is_stop}
use Rattle.tb_break.specs.Places.{legal_penalty}
use Rattle.tb_break.specs.PageTop.{pruned_nodes}
use Rattle.tb_insert.specs.Terms.{Terms}
use Rattle.tb_insert.specs.Account.{terms_after}
use Rattle.tb_builder.specs.Reach.{Reached, acted, tried, Reach, also_reached, page_place, stopped_at, reach_at, reach_node, reach_from}
use Rattle.tb_builder.specs.FiredPages.{frozen_for}
use Rattle.tb_float.specs.Lists.{live_count}
use Rattle.tb_output.specs.State.{State}
use Rattle.tb_output.specs.Act.{Acted, went, full, act_on, has_head_room}
use Rattle.tb_steps.specs.Run.{Progress, progress, progress_by, ask_for}
use Rattle.tb_best.specs.PlanDemerits.{reach_in}
use Rattle.tb_best.specs.PlacePrices.{sets_parameter, sets_any}
use Rattle.tb_best.proofs.SteadyNodes.{first-false, second-false}

-- ---- an act

-- after an act the parameters are these
abbrev HasParams : State → Acted → Type 0
HasParams s (went t ws rs) = t.params ≡ s.params
HasParams s (full line live) = Unit {0}

either-has : (s : State) (t : Bool) (x y : Acted) → HasParams s x → HasParams s y → HasParams s (if t then x else y)
either-has s true x y h k = h
either-has s false x y h k = k

pub act-params : (s : State) (a : Act) → sets_parameter (act a) ≡ false → HasParams s (act_on s.params s a)
act-params s (acts.Take f) h = either-has s (int_le s.params.pool (pos (live_count s.floats))) _ _ tt refl
act-params s (acts.TakeMargin m) h = either-has s (int_lt s.params.pool (pos (live_count s.floats + 2))) _ _ tt refl
act-params s (acts.Suppress area) h = refl
act-params s (acts.Columns two) h = refl
act-params s (acts.Page n) h = refl
act-params s (acts.Head f) h = either-has s (not (has_head_room s.params s)) _ _ tt refl
act-params s (acts.Set c) h = absurd (true≢false h)

-- none of the acts that are reached sets a parameter
abbrev pub ActsKeep : List Reached → Type 0
ActsKeep [] = Unit {0}
ActsKeep (acted a ∷ rs) = (sets_parameter (act a) ≡ false) × ActsKeep rs
ActsKeep (tried line b ∷ rs) = ActsKeep rs

by-acted : (later : State → Progress) (s : State) → ((t : State) → (later t).state.params ≡ t.params) → (x : Acted) → HasParams s x → (progress_by later s x).state.params ≡ s.params
by-acted later s ih (went t ws rs) h = ih t ∙ h
by-acted later s ih (full line live) h = refl

-- then the parameters stay
pub acts-keep : (rs : List Reached) (least : ℤ) (s : State) → ActsKeep rs → (progress rs least s).state.params ≡ s.params
acts-keep [] least s h = refl
acts-keep (acted a ∷ rs) least s h = by-acted (λ t. progress rs least t) s (λ t. acts-keep rs least t h.1) (act_on s.params s a) (act-params s a h.0)
acts-keep (tried line b ∷ rs) least s h = acts-keep rs (min_ℤ least b.cost) s h

-- ---- what is reached

pruned-kind : (top : ℤ) (l : ℕ) (k : PlainKind) (ns : List PlainNode) → (sets_any ns ≡ false → sets_any (pruned_nodes top ns) ≡ false)
    → sets_any (record { line = l; kind = k } ∷ ns) ≡ false → sets_any (pruned_nodes top (record { line = l; kind = k } ∷ ns)) ≡ false
pruned-kind top l (plain (hbox w a d)) ns ih h = h
pruned-kind top l (plain (rule w a d)) ns ih h = h
pruned-kind top l (plain (skip g)) ns ih h = ih h
pruned-kind top l (plain (kerned g)) ns ih h = ih h
pruned-kind top l (plain (pen q)) ns ih h = ih h
pruned-kind top l (plain (mark w)) ns ih h = ih h
pruned-kind top l (plain (note w)) ns ih h = ih h
pruned-kind top l (plain whatsit) ns ih h = ih h
pruned-kind top l (ins i) ns ih h = ih h
pruned-kind top l (act (acts.Set c)) ns ih h = absurd (true≢false h)
pruned-kind top l (act a) ns ih h = ih h

-- what vanishes at the top of a page sets none
pub pruned-any : (top : ℤ) (ns : List PlainNode) → sets_any ns ≡ false → sets_any (pruned_nodes top ns) ≡ false
pruned-any top [] h = refl
pruned-any top (n ∷ ns) h = pruned-kind top n.line n.kind ns (pruned-any top ns) h

module _ (limit : ℤ) (terms : List PlainNode → Terms) where
  at-keep : (n : PlainNode) (before rest : List PlainNode) (w : Reach) (o : Option ℤ) → ActsKeep w.reached → ActsKeep (reach_at limit terms before n rest w o).reached
  at-keep n before rest w None h = h
  at-keep n before rest w (Some p) h = by_stop (is_stop b)
    where
      b : Breakpoint
      b = page_place limit terms before p

      by_stop : (t : Bool) → ActsKeep (if t then stopped_at before n rest b else also_reached (tried n.line b) w).reached
      by_stop true = tt
      by_stop false = h

  node-keep : (n : PlainNode) (before rest : List PlainNode) (w : Reach) (k : PlainKind) → sets_parameter k ≡ false → ActsKeep w.reached → ActsKeep (reach_node limit terms before n rest w k).reached
  node-keep n before rest w (plain m) e h = at-keep n before rest w (legal_penalty (map node_shape before) (map node_shape (n ∷ without_acts rest))) h
  node-keep n before rest w (ins i) e h = h
  node-keep n before rest w (act a) e h = (e, h)

  reach-keep : (before ns : List PlainNode) → sets_any ns ≡ false → ActsKeep (reach_from limit terms before ns).reached
  reach-keep before [] h = tt
  reach-keep before (n ∷ ns) h =
      node-keep n before ns (reach_from limit terms (before ++ without_acts (n ∷ [])) ns) n.kind (first-false (sets_parameter n.kind) (sets_any ns) h)
      (reach-keep (before ++ without_acts (n ∷ [])) ns (second-false (sets_parameter n.kind) (sets_any ns) h))

-- the parameters stay where no waiting node sets one
pub steady-params : (s : State) → sets_any s.waiting ≡ false → (progress (reach_in s).reached awful_bad s).state.params ≡ s.params
steady-params s h =
    let a = ask_for s in
    acts-keep (reach_in s).reached awful_bad s (reach-keep a.max_depth (terms_after (frozen_for a s.classes s.boxes)) [] (pruned_nodes a.top_skip s.waiting) (pruned-any a.top_skip s.waiting h))
