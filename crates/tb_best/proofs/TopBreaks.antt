-- A break that is put in before the first box of a page vanishes: the run is that without it.
use Rattle.std.proofs.Common.{◌≡◌, refl, sym, ◌∙◌, ap, ℕ, zero, suc, ◌+◌, ℤ, Bool, true, false, List, [], ◌∷◌, ◌++◌, map, Option, Some, None, arith}
use Rattle.std.specs.Prelude.{pos, int_lt, int_le, if◌then◌else◌, not}
use Rattle.tb_scaled.specs.Scaled.{awful_bad, min_ℤ}
use Rattle.tb_node.specs.PlainNodes.{hbox, rule, skip, kerned, pen, mark, note, whatsit, PlainKind, plain, ins, act, PlainNode}
use Rattle.tb_node.specs.declared.Act.{Act}
use Rattle.tb_node.specs.declared.Act.TheVariants as acts
use Rattle.tb_param.specs.declared.Params.{Params}
use Rattle.tb_break.specs.PageTop.{pruned_nodes}
use Rattle.tb_insert.specs.Account.{terms_after}
use Rattle.tb_builder.specs.declared.Ask.{Ask}
use Rattle.tb_builder.specs.Reach.{Reached, acted, tried, Reach, holds_box, try_of, reach_from}
use Rattle.tb_builder.specs.FiredPages.{Fired, reach_of, fired_of, frozen_for}
use Rattle.tb_float.specs.declared.Entry.TheVariants as entries
use Rattle.tb_float.specs.Lists.{live_count}
use Rattle.tb_sheet.specs.Sheet.{warned}
use Rattle.tb_output.specs.State.{State, ask_of, emptied}
use Rattle.tb_output.specs.Act.{Acted, went, full, act_on, taken_float, with_taken, with_current, large_warning, has_head_room, taken_head, with_head}
use Rattle.tb_output.specs.Output.{out}
use Rattle.tb_items.specs.RunEvents.{offered, sent}
use Rattle.tb_steps.specs.Run.{dead_cycles, done, Progress, progress, progress_by, after_events, Step, ends, goes_on, led_by, led_past, led_through, ask_for}
use Rattle.tb_rate.specs.declared.PlacePenalty.{PlacePenalty}
use Rattle.tb_rate.specs.RatedRun.{demerits_after}
use Rattle.tb_steps.proofs.LedLemmas.{led-front}
use Rattle.tb_best.specs.PlanDemerits.{reach_in, unlimited_firing, unlimited_fire, unlimited_progress, unlimited_step_of, unlimited_step, step_demerits, unlimited_demerits_from}

module _ (top : ℤ) (line : ℕ) (q : ℤ) where
  abbrev penalty : PlainNode
  penalty = record { line = line; kind = plain (pen q) }

  box-no : true ≡ false → ⊥
  box-no e = grind (arith, e)

  vanish-node : (l : ℕ) (k : PlainKind) (xs ys : List PlainNode)
      → (holds_box xs ≡ false → pruned_nodes top (xs ++ penalty ∷ ys) ≡ pruned_nodes top (xs ++ ys))
      → holds_box (record { line = l; kind = k } ∷ xs) ≡ false
      → pruned_nodes top (record { line = l; kind = k } ∷ xs ++ penalty ∷ ys) ≡ pruned_nodes top (record { line = l; kind = k } ∷ xs ++ ys)
  vanish-node l (plain (hbox a b d)) xs ys ih h = absurd (box-no h)
  vanish-node l (plain (rule a b d)) xs ys ih h = absurd (box-no h)
  vanish-node l (plain (skip g)) xs ys ih h = ih h
  vanish-node l (plain (kerned g)) xs ys ih h = ih h
  vanish-node l (plain (pen p)) xs ys ih h = ih h
  vanish-node l (plain (mark a)) xs ys ih h = ap (λ ns. record { line = l; kind = plain (mark a) } ∷ ns) (ih h)
  vanish-node l (plain (note a)) xs ys ih h = ap (λ ns. record { line = l; kind = plain (note a) } ∷ ns) (ih h)
  vanish-node l (plain whatsit) xs ys ih h = ap (λ ns. record { line = l; kind = plain whatsit } ∷ ns) (ih h)
  vanish-node l (ins i) xs ys ih h = ap (λ ns. record { line = l; kind = ins i } ∷ ns) (ih h)
  vanish-node l (act a) xs ys ih h = ap (λ ns. record { line = l; kind = act a } ∷ ns) (ih h)

  -- a penalty before the first box of a page vanishes
  penalty-vanishes : (xs ys : List PlainNode) → holds_box xs ≡ false → pruned_nodes top (xs ++ penalty ∷ ys) ≡ pruned_nodes top (xs ++ ys)
  penalty-vanishes [] ys h = refl
  penalty-vanishes (n ∷ xs) ys h = vanish-node n.line n.kind xs ys (penalty-vanishes xs ys) h

-- ---- what waits is looked at for what is reached, and for nothing else

-- the state in which these nodes wait
abbrev pub waits : List PlainNode → State → State
waits ws s = record s { waiting = ws }

abbrev progress_in : List PlainNode → Progress → Progress
progress_in ws q = record q { state = waits ws q.state }

abbrev acted_in : List PlainNode → Acted → Acted
acted_in ws (went s es rs) = went (waits ws s) es rs
acted_in ws (full line live) = full line live

either-in : (ws : List PlainNode) (t : Bool) (u v : Acted) → (if t then acted_in ws u else acted_in ws v) ≡ acted_in ws (if t then u else v)
either-in ws true u v = refl
either-in ws false u v = refl

act-in : (p : Params) (s : State) (ws : List PlainNode) (a : Act) → act_on p (waits ws s) a ≡ acted_in ws (act_on p s a)
act-in p s ws (acts.Take f) = either-in ws (int_le p.pool (pos (live_count s.floats))) (full f.line (live_count s.floats)) (went (with_taken p s (taken_float p s f)) (large_warning p f) [])
act-in p s ws (acts.TakeMargin m) = either-in ws (int_lt p.pool (pos (live_count s.floats + 2))) (full m.line (live_count s.floats)) (went (with_current s (entries.Left m ∷ entries.Right m ∷ [])) [] [])
act-in p s ws (acts.Suppress area) = refl
act-in p s ws (acts.Page n) = refl
act-in p s ws (acts.Head f) = either-in ws (not (has_head_room p s)) (full f.line (live_count s.floats)) (went (with_head p s (taken_head p f)) [] [])
act-in p s ws (acts.Columns two) = refl
act-in p s ws (acts.Set c) = refl

by-act : (later : State → Progress) (s : State) (ws : List PlainNode) (a : Acted) → ((t : State) → later (waits ws t) ≡ progress_in ws (later t))
    → progress_by later (waits ws s) (acted_in ws a) ≡ progress_in ws (progress_by later s a)
by-act later s ws (went t es rs) h = ap (after_events (map (λ w. sent (warned w)) es) rs) (h t)
by-act later s ws (full line live) h = refl

progress-in : (rs : List Reached) (least : ℤ) (s : State) (ws : List PlainNode) → progress rs least (waits ws s) ≡ progress_in ws (progress rs least s)
progress-in [] least s ws = refl
progress-in (acted a ∷ rs) least s ws =
    ap (progress_by (λ t. progress rs least t) (waits ws s)) (act-in s.params s ws a) ∙ by-act (λ t. progress rs least t) s ws (act_on s.params s a) (λ t. progress-in rs least t ws)
progress-in (tried line b ∷ rs) least s ws = ap (after_events (offered (try_of line b least) ∷ []) []) (progress-in rs (min_ℤ least b.cost) s ws)

led-act : (ws : List PlainNode) (f : State → State) (s : State) (o : Acted) → ((t : State) → f (waits ws t) ≡ waits ws (f t)) → led_by f (waits ws s) (acted_in ws o) ≡ waits ws (led_by f s o)
led-act ws f s (went t es rs) h = h t
led-act ws f s (full line live) h = refl

led-kind : (ws ns : List PlainNode) → ((t : State) → led_through ns (waits ws t) ≡ waits ws (led_through ns t)) → (s : State) (k : PlainKind) → led_past (led_through ns) (waits ws s) k ≡ waits ws (led_past (led_through ns) s k)
led-kind ws ns ih s (plain (hbox w h d)) = refl
led-kind ws ns ih s (plain (rule w h d)) = refl
led-kind ws ns ih s (plain (skip g)) = ih s
led-kind ws ns ih s (plain (kerned g)) = ih s
led-kind ws ns ih s (plain (pen q)) = ih s
led-kind ws ns ih s (plain (mark w)) = ih s
led-kind ws ns ih s (plain (note w)) = ih s
led-kind ws ns ih s (plain whatsit) = ih s
led-kind ws ns ih s (ins i) = refl
led-kind ws ns ih s (act a) = ap (led_by (led_through ns) (waits ws s)) (act-in s.params s ws a) ∙ led-act ws (led_through ns) s (act_on s.params s a) ih

-- the acts before the first box of a page do not look at what waits
led-waits : (ws ns : List PlainNode) (s : State) → led_through ns (waits ws s) ≡ waits ws (led_through ns s)
led-waits ws [] s = refl
led-waits ws (n ∷ ns) s = led-kind ws ns (led-waits ws ns) s n.kind

-- so what a page is made for depends on what waits only by what these acts lead to
pub asked-in : (s : State) (ws vs : List PlainNode) → led_through ws s ≡ led_through vs s → ask_for (waits ws s) ≡ ask_for (waits vs s)
asked-in s ws vs h = ap (λ t. ask_of t.params t) (led-waits ws ws s) ∙ ap (λ t. ask_of t.params t) h ∙ sym (ap (λ t. ask_of t.params t) (led-waits vs vs s))

out-in : (p : Params) (s : State) (f : Fired) (ws : List PlainNode) → out p (waits ws s) f ≡ out p s f
unfolding out
out-in p s f ws = refl

fire-in : (a : Ask) (w : Reach) (q : Progress) (ws : List PlainNode) → unlimited_fire a w (progress_in ws q) ≡ unlimited_fire a w q
fire-in a w q ws =
    ap (λ x. if int_lt (pos q.state.dead_cycles) q.state.params.maxdeadcycles then unlimited_firing q.events q.records x else ends q.events q.records (dead_cycles q.state.dead_cycles))
    (out-in q.state.params q.state (fired_of a q.state.classes q.state.boxes w) ws)

by-fault : (a : Ask) (w : Reach) (q : Progress) (ws : List PlainNode) (o : Option (ℕ × ℕ)) → unlimited_progress a w (progress_in ws q) o ≡ unlimited_progress a w q o
by-fault a w q ws None = ap (λ x. if w.fires then x else ends q.events (q.records ++ emptied q.state.floats ∷ []) (done w.passed)) (fire-in a w q ws)
by-fault a w q ws (Some f) = refl

-- a step depends on what waits only by what its page is made for and what it reaches
step-in : (s : State) (ws : List PlainNode) → ask_for (waits ws s) ≡ ask_for s → reach_of (ask_for s) s.classes s.boxes [] ws ≡ reach_in s → unlimited_step (waits ws s) ≡ unlimited_step s
unfolding unlimited_step
step-in s ws asked h =
    let q = progress (reach_in s).reached awful_bad s in
    ap (λ a. unlimited_step_of (waits ws s) a (reach_of a s.classes s.boxes [] ws)) asked
    ∙ ap (unlimited_step_of (waits ws s) (ask_for s)) h
    ∙ ap (λ x. unlimited_progress (ask_for s) (reach_in s) x x.fault) (progress-in (reach_in s).reached awful_bad s ws)
    ∙ by-fault (ask_for s) (reach_in s) q ws q.fault

same-demerits : (places : List PlacePenalty) (s : State) (ws : List PlainNode) (x : Step) → step_demerits places (waits ws s) x ≡ step_demerits places s x
same-demerits places s ws (ends es rs e) = refl
same-demerits places s ws (goes_on es rs t) = refl

-- so do the demerits of a run
pub run-in : (places : List PlacePenalty) (k : ℕ) (s : State) (ws : List PlainNode) → ask_for (waits ws s) ≡ ask_for s → reach_of (ask_for s) s.classes s.boxes [] ws ≡ reach_in s
    → unlimited_demerits_from places k (waits ws s) ≡ unlimited_demerits_from places k s
unfolding unlimited_demerits_from
run-in places zero s ws asked h = refl
run-in places (suc k) s ws asked h =
    ap (λ x. demerits_after (λ t. unlimited_demerits_from places k t) (step_demerits places (waits ws s) x) x) (step-in s ws asked h)
    ∙ ap (λ d. demerits_after (λ t. unlimited_demerits_from places k t) d (unlimited_step s)) (same-demerits places s ws (unlimited_step s))

-- before the first box of a page a break that is put in changes nothing
pub break-vanishes : (places : List PlacePenalty) (k : ℕ) (s : State) (line : ℕ) (q : ℤ) (xs ys : List PlainNode) → holds_box xs ≡ false
    → unlimited_demerits_from places k (waits (xs ++ record { line = line; kind = plain (pen q) } ∷ ys) s) ≡ unlimited_demerits_from places k (waits (xs ++ ys) s)
break-vanishes places k s line q xs ys h =
    let made = ask_for (waits (xs ++ ys) s) in
    run-in places k (waits (xs ++ ys) s) (xs ++ record { line = line; kind = plain (pen q) } ∷ ys)
    (asked-in s (xs ++ record { line = line; kind = plain (pen q) } ∷ ys) (xs ++ ys) (led-front xs (record { line = line; kind = plain (pen q) } ∷ ys) ys s (λ t. refl)))
    (ap (reach_from made.max_depth (terms_after (frozen_for made s.classes s.boxes)) []) (penalty-vanishes made.top_skip line q xs ys h))
