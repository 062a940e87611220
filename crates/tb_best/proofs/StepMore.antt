-- A step of a run looks no further than its stop: what waits behind still waits behind, and changes nothing else.
use Rattle.std.proofs.Common.{◌≡◌, refl, sym, ◌∙◌, ap, ℕ, suc, ◌+◌, ℤ, Bool, true, false, List, [], ◌∷◌, ◌++◌, map, Option, Some, None, append_assoc}
use Rattle.std.specs.Prelude.{pos, pred, int_lt, int_le, if◌then◌else◌, not}
use Rattle.tb_scaled.specs.Scaled.{awful_bad, min_ℤ}
use Rattle.tb_node.specs.PlainNodes.{PlainNode, is_insertion_kind}
use Rattle.tb_node.specs.declared.Act.{Act}
use Rattle.tb_node.specs.declared.Act.TheVariants as acts
use Rattle.tb_node.specs.declared.Float.{Float}
use Rattle.tb_param.specs.declared.Params.{Params}
use Rattle.tb_builder.specs.declared.Ask.{Ask}
use Rattle.tb_builder.specs.Reach.{Reached, acted, tried, Reach, laid_out, try_of}
use Rattle.tb_builder.specs.FiredPages.{Fired, reach_of, fired_of, frozen_for}
use Rattle.tb_insert.specs.Account.{terms_after}
use Rattle.tb_float.specs.declared.Entry.TheVariants as entries
use Rattle.tb_float.specs.Lists.{live_count}
use Rattle.tb_sheet.specs.Sheet.{warned}
use Rattle.tb_output.specs.State.{State, Work, Recorded, emptied}
use Rattle.tb_output.specs.Act.{Acted, went, full, act_on, taken_float, with_taken, with_current, large_warning, has_head_room, taken_head, with_head}
use Rattle.tb_output.specs.Output.{out}
use Rattle.tb_items.specs.RunEvents.{RunEvent, offered, sent}
use Rattle.tb_steps.specs.Run.{dead_cycles, page_limit, done, Progress, progress, progress_by, after_events, Step, ends, goes_on, ask_for}
use Rattle.tb_rate.specs.declared.PlacePenalty.{PlacePenalty}
use Rattle.tb_rate.specs.Rating.{rating}
use Rattle.tb_rate.specs.Tries.{last_champion, first_number}
use Rattle.tb_rate.specs.RatedRun.{demerits_if, floats_waiting, insertions_first}
use Rattle.tb_best.specs.PlanDemerits.{reach_in, unlimited_firing, unlimited_fire, unlimited_progress, unlimited_step_of, unlimited_step, step_demerits}
use Rattle.tb_best.specs.ItemsAhead.{state_with}
use Rattle.tb_best.proofs.ReachMore.{with_more}
use Rattle.tb_steps.proofs.LedLemmas.{led-fires}
use Rattle.tb_best.proofs.TopBreaks.{asked-in}
use Rattle.tb_best.proofs.FiredMore.{has_other, other-behind, fired_with, begun-more, reach-left, fired-of-more, rest-other}

abbrev pub work_with : List PlainNode → Work → Work
work_with more w = record w { state = state_with more w.state }

abbrev pub progress_with : List PlainNode → Progress → Progress
progress_with more q = record q { state = state_with more q.state }

abbrev pub acted_with : List PlainNode → Acted → Acted
acted_with more (went s ws rs) = went (state_with more s) ws rs
acted_with more (full line live) = full line live

abbrev pub step_with : List PlainNode → Step → Step
step_with more (ends es rs e) = ends es rs e
step_with more (goes_on es rs s) = goes_on es rs (state_with more s)

-- ---- the acts

take-more : (p : Params) (s : State) (more : List PlainNode) (f : Float) (t : Bool)
    → (if t then full f.line (live_count s.floats) else went (with_taken p (state_with more s) (taken_float p s f)) (large_warning p f) [])
    ≡ acted_with more (if t then full f.line (live_count s.floats) else went (with_taken p s (taken_float p s f)) (large_warning p f) [])
take-more p s more f true = refl
take-more p s more f false = refl

note-more : (s : State) (more : List PlainNode) (line : ℕ) (es : List _) (t : Bool)
    → (if t then full line (live_count s.floats) else went (with_current (state_with more s) es) [] [])
    ≡ acted_with more (if t then full line (live_count s.floats) else went (with_current s es) [] [])
note-more s more line es true = refl
note-more s more line es false = refl

title-more : (p : Params) (s : State) (more : List PlainNode) (f : Float) (t : Bool)
    → (if t then full f.line (live_count s.floats) else went (with_head p (state_with more s) (taken_head p f)) [] [])
    ≡ acted_with more (if t then full f.line (live_count s.floats) else went (with_head p s (taken_head p f)) [] [])
title-more p s more f true = refl
title-more p s more f false = refl

pub act-more : (p : Params) (s : State) (more : List PlainNode) (a : Act) → act_on p (state_with more s) a ≡ acted_with more (act_on p s a)
act-more p s more (acts.Take f) = take-more p s more f (int_le p.pool (pos (live_count s.floats)))
act-more p s more (acts.TakeMargin m) = note-more s more m.line (entries.Left m ∷ entries.Right m ∷ []) (int_lt p.pool (pos (live_count s.floats + 2)))
act-more p s more (acts.Suppress area) = refl
act-more p s more (acts.Page n) = refl
act-more p s more (acts.Head f) = title-more p s more f (not (has_head_room p s))
act-more p s more (acts.Columns two) = refl
act-more p s more (acts.Set c) = refl

by-act : (later : State → Progress) (s : State) (more : List PlainNode) (a : Acted) → ((t : State) → later (state_with more t) ≡ progress_with more (later t))
    → progress_by later (state_with more s) (acted_with more a) ≡ progress_with more (progress_by later s a)
by-act later s more (went t ws rs) h = ap (after_events (map (λ w. sent (warned w)) ws) rs) (h t)
by-act later s more (full line live) h = refl

pub progress-more : (rs : List Reached) (least : ℤ) (s : State) (more : List PlainNode) → progress rs least (state_with more s) ≡ progress_with more (progress rs least s)
progress-more [] least s more = refl
progress-more (acted a ∷ rs) least s more =
    ap (progress_by (λ t. progress rs least t) (state_with more s)) (act-more s.params s more a)
    ∙ by-act (λ t. progress rs least t) s more (act_on s.params s a) (λ t. progress-more rs least t more)
progress-more (tried line b ∷ rs) least s more = ap (after_events (offered (try_of line b least) ∷ []) []) (progress-more rs (min_ℤ least b.cost) s more)

-- ---- the firing

-- the output routine does not look at what waits
pub out-more : (p : Params) (s : State) (f : Fired) (more : List PlainNode) → out p (state_with more s) (fired_with more f) ≡ work_with more (out p s f)
unfolding out
out-more p s f more = ap (λ ns. record (out p s f) { state = record (out p s f).state { waiting = ns } }) (sym (append_assoc (f.held ++ (out p s f).put_back) f.rest more))

by-work : (es : List RunEvent) (rs : List Recorded) (w : Work) (more : List PlainNode) (t : Bool)
    → (if t then ends (es ++ map sent w.sent) (rs ++ w.records) (page_limit (pred w.state.page)) else goes_on (es ++ map sent w.sent) (rs ++ w.records) (state_with more w.state))
    ≡ step_with more (if t then ends (es ++ map sent w.sent) (rs ++ w.records) (page_limit (pred w.state.page)) else goes_on (es ++ map sent w.sent) (rs ++ w.records) w.state)
by-work es rs w more true = refl
by-work es rs w more false = refl

by-fire : (t : Bool) (more : List PlainNode) (x y e : Step) → x ≡ step_with more y → e ≡ step_with more e → (if t then x else e) ≡ step_with more (if t then y else e)
by-fire true more x y e h k = h
by-fire false more x y e h k = k

fire-more : (a : Ask) (w : Reach) (q : Progress) (more : List PlainNode) → has_other w.beyond ≡ true → unlimited_fire a (with_more more w) (progress_with more q) ≡ step_with more (unlimited_fire a w q)
fire-more a w q more left =
    ap (λ f. if int_lt (pos q.state.dead_cycles) q.state.params.maxdeadcycles then unlimited_firing q.events q.records (out q.state.params (state_with more q.state) f) else ends q.events q.records (dead_cycles q.state.dead_cycles))
    (fired-of-more a q.state.classes q.state.boxes w more left)
    ∙ by-fire (int_lt (pos q.state.dead_cycles) q.state.params.maxdeadcycles) more (unlimited_firing q.events q.records (out q.state.params (state_with more q.state) (fired_with more page))) (unlimited_firing q.events q.records (out q.state.params q.state page)) (ends q.events q.records (dead_cycles q.state.dead_cycles))
    (ap (unlimited_firing q.events q.records) (out-more q.state.params q.state page more) ∙ by-work q.events q.records (out q.state.params q.state page) more (out q.state.params q.state page).refused) refl
  where
    page : Fired
    page = fired_of a q.state.classes q.state.boxes w

progress-step : (a : Ask) (w : Reach) (q : Progress) (more : List PlainNode) (o : Option (ℕ × ℕ)) → w.fires ≡ true → has_other w.beyond ≡ true
    → unlimited_progress a (with_more more w) (progress_with more q) o ≡ step_with more (unlimited_progress a w q o)
progress-step a w q more (Some f) fires left = refl
progress-step a w q more None fires left = by w.fires fires
  where
    by : (t : Bool) → t ≡ true
        → (if t then unlimited_fire a (with_more more w) (progress_with more q) else ends q.events (q.records ++ emptied q.state.floats ∷ []) (done w.passed))
        ≡ step_with more (if t then unlimited_fire a w q else ends q.events (q.records ++ emptied q.state.floats ∷ []) (done w.passed))
    by true e = fire-more a w q more left
    by false e = refl

-- what a state reaches leaves the node at which it stops
left-in : (s : State) → (reach_in s).fires ≡ true → has_other (reach_in s).beyond ≡ true
left-in s fires = reach-left (ask_for s).max_depth (terms_after (frozen_for (ask_for s) s.classes s.boxes)) [] (laid_out (ask_for s).top_skip [] s.waiting) fires

-- if a page fires, it is made for the same whatever waits behind
pub asked-more : (s : State) (more : List PlainNode) → (reach_in s).fires ≡ true → ask_for (state_with more s) ≡ ask_for s
asked-more s more fires =
    asked-in s (s.waiting ++ more) s.waiting (led-fires (ask_for s).max_depth (terms_after (frozen_for (ask_for s) s.classes s.boxes)) (ask_for s).top_skip [] s.waiting more s fires)

-- if a page fires, the step is the same whatever waits behind
pub step-more : (s : State) (more : List PlainNode) → (reach_in s).fires ≡ true → unlimited_step (state_with more s) ≡ step_with more (unlimited_step s)
unfolding unlimited_step
step-more s more fires =
    let w = reach_in s in
    let q = progress w.reached awful_bad s in
    ap (λ a. unlimited_step_of (state_with more s) a (reach_of a s.classes s.boxes [] (s.waiting ++ more))) (asked-more s more fires)
    ∙ ap (unlimited_step_of (state_with more s) (ask_for s)) (begun-more (ask_for s) s.classes s.boxes s.waiting more fires)
    ∙ ap (λ x. unlimited_progress (ask_for s) (with_more more w) x x.fault) (progress-more w.reached awful_bad s more)
    ∙ progress-step (ask_for s) w q more q.fault fires (left-in s fires)

-- ---- the demerits

-- what waits after a step is not insertions alone
abbrev WaitsOther : Step → Type 0
WaitsOther (ends es rs e) = Unit {0}
WaitsOther (goes_on es rs t) = has_other t.waiting ≡ true

out-waits : (p : Params) (s : State) (f : Fired) → has_other f.rest ≡ true → has_other (out p s f).state.waiting ≡ true
unfolding out
out-waits p s f h = other-behind (f.held ++ (out p s f).put_back) f.rest h

work-waits : (es : List RunEvent) (rs : List Recorded) (w : Work) → has_other w.state.waiting ≡ true → WaitsOther (unlimited_firing es rs w)
work-waits es rs w h = by w.refused
  where
    by : (t : Bool) → WaitsOther (if t then ends (es ++ map sent w.sent) (rs ++ w.records) (page_limit (pred w.state.page)) else goes_on (es ++ map sent w.sent) (rs ++ w.records) w.state)
    by true = tt
    by false = h

either-waits : (t : Bool) (x y : Step) → WaitsOther x → WaitsOther y → WaitsOther (if t then x else y)
either-waits true x y h k = h
either-waits false x y h k = k

progress-waits : (a : Ask) (w : Reach) (q : Progress) (o : Option (ℕ × ℕ)) → has_other w.beyond ≡ true → WaitsOther (unlimited_progress a w q o)
progress-waits a w q (Some f) left = tt
progress-waits a w q None left =
    let page = fired_of a q.state.classes q.state.boxes w in
    let work = out q.state.params q.state page in
    either-waits w.fires (unlimited_fire a w q) (ends q.events (q.records ++ emptied q.state.floats ∷ []) (done w.passed))
    (either-waits (int_lt (pos q.state.dead_cycles) q.state.params.maxdeadcycles) (unlimited_firing q.events q.records work) (ends q.events q.records (dead_cycles q.state.dead_cycles))
    (work-waits q.events q.records work (out-waits q.state.params q.state page (rest-other a q.state.classes q.state.boxes w left))) tt) tt

step-waits : (s : State) → (reach_in s).fires ≡ true → WaitsOther (unlimited_step s)
unfolding unlimited_step
step-waits s fires = let q = progress (reach_in s).reached awful_bad s in progress-waits (ask_for s) (reach_in s) q q.fault (left-in s fires)

first-by : (t : Bool) (ns more : List PlainNode) → (has_other ns ≡ true → insertions_first (ns ++ more) ≡ insertions_first ns) → (if t then has_other ns else true) ≡ true
    → (if t then suc (insertions_first (ns ++ more)) else 0) ≡ (if t then suc (insertions_first ns) else 0)
first-by true ns more ih h = ap suc (ih h)
first-by false ns more ih h = refl

first-more : (ns more : List PlainNode) → has_other ns ≡ true → insertions_first (ns ++ more) ≡ insertions_first ns
first-more [] more h = let no : false ≡ true = h in cc
first-more (n ∷ ns) more h = first-by (is_insertion_kind n.kind) ns more (first-more ns more) h

rated-more : (places : List PlacePenalty) (s : State) (more : List PlainNode) (x : Step) → WaitsOther x → step_demerits places (state_with more s) (step_with more x) ≡ step_demerits places s x
rated-more places s more (ends es rs e) h = refl
rated-more places s more (goes_on es rs t) h = ap (λ n. demerits_if (rating t.params places (first_number t.number es) (last_champion es) (floats_waiting t.floats) n)) (first-more t.waiting more h)

-- if a page fires, its demerits are the same whatever waits behind
pub demerits-more : (places : List PlacePenalty) (s : State) (more : List PlainNode) → (reach_in s).fires ≡ true
    → step_demerits places (state_with more s) (step_with more (unlimited_step s)) ≡ step_demerits places s (unlimited_step s)
demerits-more places s more fires = rated-more places s more (unlimited_step s) (step-waits s fires)
