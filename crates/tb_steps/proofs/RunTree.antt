-- What a run is made of: the acts and tries of a page, the firing after it or an end, and such steps one after another. A law of
-- runs says what each act and each firing does to it. The tests of a run are read here, and here its parameters reach an act or a firing.
use Rattle.std.proofs.Common.{◌≡◌, refl, subst, ap, ℕ, zero, suc, pos, ◌+◌, Bool, true, false, List, [], ◌∷◌, ◌++◌, map, Some, None}
use Rattle.std.specs.Prelude.{ℤ, pred, not, int_lt, int_le, if◌then◌else◌}
use Rattle.tb_scaled.specs.Scaled.{awful_bad, min_ℤ}
use Rattle.tb_node.specs.declared.Act.{Act}
use Rattle.tb_node.specs.declared.Act.TheVariants as acts
use Rattle.tb_node.specs.declared.Area.{Area}
use Rattle.tb_node.specs.declared.Float.{Float}
use Rattle.tb_node.specs.declared.Margin.{Margin}
use Rattle.tb_param.specs.declared.Params.{Params}
use Rattle.tb_param.specs.declared.Change.{Change}
use Rattle.tb_param.specs.Changes.{set_place, changed}
use Rattle.tb_galley.specs.declared.Galley.{Galley}
use Rattle.tb_galley.specs.GalleyNodes.{expanded}
use Rattle.tb_break.specs.Best.{Breakpoint}
use Rattle.tb_builder.specs.Reach.{Reached, acted, tried, Reach, try_of}
use Rattle.tb_builder.specs.FiredPages.{Fired, reach_of, fired_of}
use Rattle.tb_float.specs.declared.Entry.TheVariants as entries
use Rattle.tb_float.specs.Lists.{live_count}
use Rattle.tb_sheet.specs.declared.Warn.{Warn}
use Rattle.tb_sheet.specs.Sheet.{warned}
use Rattle.tb_output.specs.State.{State, Recorded, emptied, Work, no_suppress, first_state}
use Rattle.tb_output.specs.Act.{Acted, went, full, act_on, taken_float, large_warning, with_taken, with_current, suppressed, with_number, has_head_room, taken_head, with_head, with_params, set_records}
use Rattle.tb_output.specs.Output.{out}
use Rattle.tb_items.specs.RunEvents.{RunEvent, offered, sent}
use Rattle.tb_items.specs.Classes.{classes_of}
use Rattle.tb_steps.specs.Run.{End, done, pool_full, dead_cycles, page_limit, node_limit, Run, Progress, after_events, progress_by, progress, ask_for, Step, ends, goes_on, held_count, after_firing, after_progress, step, run_after, run_by, run_from, firings_left, run_of}

-- ---- an act

-- an act that went: the state after it, its warnings, and what is recorded
pub data ActMove (p : Params) : State → Act → State → List Warn → List Recorded → Type 0 where
  takes_float : {s : State} (f : Float) → int_le p.pool (pos (live_count s.floats)) ≡ false → ActMove p s (acts.Take f) (with_taken p s (taken_float p s f)) (large_warning p f) []
  takes_note : {s : State} (m : Margin) → int_lt p.pool (pos (live_count s.floats + 2)) ≡ false → ActMove p s (acts.TakeMargin m) (with_current s (entries.Left m ∷ entries.Right m ∷ [])) [] []
  sets_flag : {s : State} (area : Area) → ActMove p s (acts.Suppress area) (record s { suppress = suppressed s.suppress area }) [] []
  changes_columns : {s : State} (two : Bool) → ActMove p s (acts.Columns two) (record s { two_columns = two; first_column = true; left_column = None; suppress = no_suppress }) [] (emptied s.floats ∷ [])
  sets_number : {s : State} (n : ℕ) → ActMove p s (acts.Page n) (with_number n s) [] []
  takes_title : {s : State} (f : Float) → has_head_room p s ≡ true → ActMove p s (acts.Head f) (with_head p s (taken_head p f)) [] []
  sets_parameter : {s : State} (c : Change) → ActMove p s (acts.Set c) (with_params (changed p c) s) [] (set_records (set_place c.field) s.floats)

-- an act went, or was refused at a full pool
pub data ActIs (p : Params) (s : State) (a : Act) : Acted → Type 0 where
  it_went : {t : State} {ws : List Warn} {rs : List Recorded} → ActMove p s a t ws rs → ActIs p s a (went t ws rs)
  it_is_refused : {line live : ℕ} → act_on p s a ≡ full line live → ActIs p s a (full line live)

pub act-is : (p : Params) (s : State) (a : Act) → ActIs p s a (act_on p s a)
act-is p s (acts.Take f) = by_room (int_le p.pool (pos (live_count s.floats))) refl
  where
    by_room : (t : Bool) → int_le p.pool (pos (live_count s.floats)) ≡ t → ActIs p s (acts.Take f) (if t then full f.line (live_count s.floats) else went (with_taken p s (taken_float p s f)) (large_warning p f) [])
    by_room true e = it_is_refused (ap (λ u. if u then full f.line (live_count s.floats) else went (with_taken p s (taken_float p s f)) (large_warning p f) []) e)
    by_room false e = it_went (takes_float f e)
act-is p s (acts.TakeMargin m) = by_room (int_lt p.pool (pos (live_count s.floats + 2))) refl
  where
    by_room : (t : Bool) → int_lt p.pool (pos (live_count s.floats + 2)) ≡ t → ActIs p s (acts.TakeMargin m) (if t then full m.line (live_count s.floats) else went (with_current s (entries.Left m ∷ entries.Right m ∷ [])) [] [])
    by_room true e = it_is_refused (ap (λ u. if u then full m.line (live_count s.floats) else went (with_current s (entries.Left m ∷ entries.Right m ∷ [])) [] []) e)
    by_room false e = it_went (takes_note m e)
act-is p s (acts.Suppress area) = it_went (sets_flag area)
act-is p s (acts.Columns two) = it_went (changes_columns two)
act-is p s (acts.Page n) = it_went (sets_number n)
act-is p s (acts.Set c) = it_went (sets_parameter c)
act-is p s (acts.Head f) = by_room (has_head_room p s) refl
  where
    by_room : (t : Bool) → has_head_room p s ≡ t → ActIs p s (acts.Head f) (if not t then full f.line (live_count s.floats) else went (with_head p s (taken_head p f)) [] [])
    by_room true e = it_went (takes_title f e)
    by_room false e = it_is_refused (ap (λ u. if not u then full f.line (live_count s.floats) else went (with_head p s (taken_head p f)) [] []) e)

-- ---- the acts and tries of a page

-- a try is shown, or an act went: what is left of what is reached and the state, before and after, with what is shown and recorded
pub data PageMove : List Reached → State → List RunEvent → List Recorded → List Reached → State → Type 0 where
  shows_try : {s : State} (line : ℕ) (b : Breakpoint) (least : ℤ) (rs : List Reached) → PageMove (tried line b ∷ rs) s (offered (try_of line b least) ∷ []) [] rs s
  does_act : {s t : State} {ws : List Warn} {records : List Recorded} (a : Act) (rs : List Reached) → ActMove s.params s a t ws records → PageMove (acted a ∷ rs) s (map (λ w. sent (warned w)) ws) records rs t

-- such moves one after another
pub data PageMoves : List Reached → State → List RunEvent → List Recorded → List Reached → State → Type 0 where
  rests : {rs : List Reached} {s : State} → PageMoves rs s [] [] rs s
  moves : {rs qs ls : List Reached} {s t u : State} {es fs : List RunEvent} {records more : List Recorded} → PageMove rs s es records qs t → PageMoves qs t fs more ls u → PageMoves rs s (es ++ fs) (records ++ more) ls u

-- all that is reached of a page is gone through, or an act is refused
pub data PageIs (rs : List Reached) (s : State) : Progress → Type 0 where
  is_whole : {es : List RunEvent} {records : List Recorded} {t : State} → PageMoves rs s es records [] t → PageIs rs s (record { state = t; events = es; records = records; fault = None })
  is_cut : {es : List RunEvent} {records : List Recorded} {t : State} {a : Act} {qs : List Reached} {line live : ℕ} → PageMoves rs s es records (acted a ∷ qs) t → act_on t.params t a ≡ full line live → PageIs rs s (record { state = t; events = es; records = records; fault = Some (line, live) })

moved : {rs qs : List Reached} {s t : State} {es : List RunEvent} {records : List Recorded} {q : Progress} → PageMove rs s es records qs t → PageIs qs t q → PageIs rs s (after_events es records q)
moved m (is_whole x) = is_whole (moves m x)
moved m (is_cut x e) = is_cut (moves m x) e

moved_by : {s : State} {a : Act} {x : Acted} (rs : List Reached) (later : State → Progress) → ((t : State) → PageIs rs t (later t)) → ActIs s.params s a x → PageIs (acted a ∷ rs) s (progress_by later s x)
moved_by {a = a} rs later h (it_went {t = t} m) = moved (does_act a rs m) (h t)
moved_by rs later h (it_is_refused e) = is_cut rests e

pub page-is : (rs : List Reached) (least : ℤ) (s : State) → PageIs rs s (progress rs least s)
page-is [] least s = is_whole rests
page-is (acted a ∷ rs) least s = moved_by rs (λ t. progress rs least t) (λ t. page-is rs least t) (act-is s.params s a)
page-is (tried line b ∷ rs) least s = moved (shows_try line b least rs) (page-is rs (min_ℤ least b.cost) s)

-- ---- a step

-- what is reached of the page of a state
abbrev pub page_of : State → Reach
page_of s = reach_of (ask_for s) s.classes s.boxes [] s.waiting

-- the page that fires, in the state after its acts
abbrev pub fired_at : State → State → Fired
fired_at s t = fired_of (ask_for s) t.classes t.boxes (page_of s)

-- the firing of that page
abbrev pub served_at : State → State → Work
served_at s t = out t.params t (fired_at s t)

-- the page of a state fires in the state after its acts: its stop is reached, and there are not too many dead cycles
pub record Fires (s t : State) : Type 0 where
  pub stops : (page_of s).fires ≡ true
  pub cycles : int_lt (pos t.dead_cycles) t.params.maxdeadcycles ≡ true

-- the acts and tries of the page of a state, up to the state after them
abbrev pub WholePage : State → List RunEvent → List Recorded → State → Type 0
WholePage s es rs t = PageMoves (page_of s).reached s es rs [] t

-- a step: its page fires and the run goes on, or the run ends
pub data StepIs (s : State) : Step → Type 0 where
  fires_on : {es : List RunEvent} {rs : List Recorded} {t : State} → WholePage s es rs t → Fires s t → (served_at s t).refused ≡ false → StepIs s (goes_on (es ++ map sent (served_at s t).sent) (rs ++ (served_at s t).records) (served_at s t).state)
  meets_page_limit : {es : List RunEvent} {rs : List Recorded} {t : State} → WholePage s es rs t → Fires s t → (served_at s t).refused ≡ true → StepIs s (ends (es ++ map sent (served_at s t).sent) (rs ++ (served_at s t).records) (page_limit (pred (served_at s t).state.page)))
  meets_node_limit : {es : List RunEvent} {rs : List Recorded} {t : State} → WholePage s es rs t → Fires s t → (served_at s t).refused ≡ false → int_lt t.params.maxnodes (pos (held_count (served_at s t).state)) ≡ true → StepIs s (ends (es ++ map sent (served_at s t).sent) (rs ++ (served_at s t).records) (node_limit (held_count (served_at s t).state)))
  meets_cycle_limit : {es : List RunEvent} {rs : List Recorded} {t : State} → WholePage s es rs t → (page_of s).fires ≡ true → int_lt (pos t.dead_cycles) t.params.maxdeadcycles ≡ false → StepIs s (ends es rs (dead_cycles t.dead_cycles))
  is_done : {es : List RunEvent} {rs : List Recorded} {t : State} → WholePage s es rs t → (page_of s).fires ≡ false → StepIs s (ends es (rs ++ emptied t.floats ∷ []) (done (page_of s).passed))
  meets_full_pool : {es : List RunEvent} {rs : List Recorded} {t : State} {a : Act} {qs : List Reached} {line live : ℕ} → PageMoves (page_of s).reached s es rs (acted a ∷ qs) t → act_on t.params t a ≡ full line live → StepIs s (ends es rs (pool_full line live))

module _ (s : State) where
  -- a page that was gone through, by what comes after a firing
  pub whole-is : (after : List RunEvent → List Recorded → Work → Step) {es : List RunEvent} {rs : List Recorded} {t : State} → WholePage s es rs t → (Fires s t → StepIs s (after es rs (served_at s t)))
      → StepIs s (if (page_of s).fires then (if int_lt (pos t.dead_cycles) t.params.maxdeadcycles then after es rs (served_at s t) else ends es rs (dead_cycles t.dead_cycles)) else ends es (rs ++ emptied t.floats ∷ []) (done (page_of s).passed))
  whole-is after {es = es} {rs = rs} {t = t} x fired = by_firing (page_of s).fires refl
    where
      by_cycles : (u : Bool) → int_lt (pos t.dead_cycles) t.params.maxdeadcycles ≡ u → (page_of s).fires ≡ true → StepIs s (if u then after es rs (served_at s t) else ends es rs (dead_cycles t.dead_cycles))
      by_cycles true c e = fired (record { stops = e; cycles = c })
      by_cycles false c e = meets_cycle_limit x e c

      by_firing : (u : Bool) → (page_of s).fires ≡ u → StepIs s (if u then (if int_lt (pos t.dead_cycles) t.params.maxdeadcycles then after es rs (served_at s t) else ends es rs (dead_cycles t.dead_cycles)) else ends es (rs ++ emptied t.floats ∷ []) (done (page_of s).passed))
      by_firing true e = by_cycles (int_lt (pos t.dead_cycles) t.params.maxdeadcycles) refl e
      by_firing false e = is_done x e

  served-is : {es : List RunEvent} {rs : List Recorded} {t : State} → WholePage s es rs t → Fires s t → StepIs s (after_firing t.params es rs (served_at s t))
  served-is {es = es} {rs = rs} {t = t} x f = by_refused w.refused refl
    where
      w : Work
      w = served_at s t

      by_nodes : (u : Bool) → int_lt t.params.maxnodes (pos (held_count w.state)) ≡ u → w.refused ≡ false → StepIs s (if u then ends (es ++ map sent w.sent) (rs ++ w.records) (node_limit (held_count w.state)) else goes_on (es ++ map sent w.sent) (rs ++ w.records) w.state)
      by_nodes true e r = meets_node_limit x f r e
      by_nodes false e r = fires_on x f r

      by_refused : (u : Bool) → w.refused ≡ u → StepIs s (if u then ends (es ++ map sent w.sent) (rs ++ w.records) (page_limit (pred w.state.page)) else (if int_lt t.params.maxnodes (pos (held_count w.state)) then ends (es ++ map sent w.sent) (rs ++ w.records) (node_limit (held_count w.state)) else goes_on (es ++ map sent w.sent) (rs ++ w.records) w.state))
      by_refused true r = meets_page_limit x f r
      by_refused false r = by_nodes (int_lt t.params.maxnodes (pos (held_count w.state))) refl r

  progressed-is : {q : Progress} → PageIs (page_of s).reached s q → StepIs s (after_progress (ask_for s) (page_of s) q q.fault)
  progressed-is (is_whole {t = t} x) = whole-is (after_firing t.params) x (served-is x)
  progressed-is (is_cut x e) = meets_full_pool x e

  pub step-is : StepIs s (step s)
  unfolding step
  step-is = progressed-is (page-is (page_of s).reached awful_bad s)

  -- the same of a step that is known
  pub such-step : {x : Step} → step s ≡ x → StepIs s x
  such-step e = subst (StepIs s) e step-is

-- ---- a run

-- steps one after another, up to the one that ends the run; a run whose fuel is used up, or that begins with too many nodes, has none
pub data RunIs : State → Run → Type 0 where
  runs_out : (s : State) → RunIs s (record { events = []; records = []; end = dead_cycles s.dead_cycles })
  starts_too_full : (s : State) → RunIs s (record { events = []; records = []; end = node_limit (held_count s) })
  ends_so : {s : State} {es : List RunEvent} {rs : List Recorded} {e : End} → StepIs s (ends es rs e) → RunIs s (record { events = es; records = rs; end = e })
  goes_on_so : {s t : State} {es : List RunEvent} {rs : List Recorded} {r : Run} → StepIs s (goes_on es rs t) → RunIs t r → RunIs s (run_after es rs r)

stepped-is : {s : State} (later : State → Run) → ((t : State) → RunIs t (later t)) → (x : Step) → StepIs s x → RunIs s (run_by later x)
stepped-is later h (ends es rs e) x = ends_so x
stepped-is later h (goes_on es rs t) x = goes_on_so x (h t)

pub run-is : (fuel : ℕ) (s : State) → RunIs s (run_from fuel s)
unfolding run_from
run-is zero s = runs_out s
run-is (suc fuel) s = stepped-is (λ t. run_from fuel t) (λ t. run-is fuel t) (step s) (step-is s)

-- the run of a galley
pub galley-is : (g : Galley) → RunIs (first_state g.params (classes_of g) (expanded g)) (run_of g)
unfolding run_of
galley-is g = by_nodes (int_lt g.params.maxnodes (pos (held_count s)))
  where
    s : State
    s = first_state g.params (classes_of g) (expanded g)

    by_nodes : (t : Bool) → RunIs s (if t then record { events = []; records = []; end = node_limit (held_count s) } else run_from (suc (firings_left s)) s)
    by_nodes true = starts_too_full s
    by_nodes false = run-is (suc (firings_left s)) s
