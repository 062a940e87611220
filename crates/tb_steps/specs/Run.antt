-- Whole runs.
use Rattle.std.specs.Prelude.{ℕ, zero, suc, pred, ℤ, pos, nat_abs, ◌+◌, ◌*◌, ◌-◌, List, [], ◌∷◌, ◌++◌, map, Option, Some, None, int_lt, if◌then◌else◌}
use Rattle.tb_scaled.specs.Scaled.{awful_bad, min_ℤ}
use Rattle.tb_node.specs.PlainNodes.{hbox, rule, PlainKind, plain, ins, act, PlainNode}
use Rattle.tb_param.specs.declared.Params.{Params}
use Rattle.tb_galley.specs.declared.Galley.{Galley}
use Rattle.tb_galley.specs.GalleyNodes.{expanded}
use Rattle.tb_builder.specs.declared.Ask.{Ask}
use Rattle.tb_builder.specs.Reach.{Reached, acted, tried, Reach, try_of}
use Rattle.tb_builder.specs.Contents.{node_count, box_count}
use Rattle.tb_builder.specs.FiredPages.{Fired, reach_of, fired_of}
use Rattle.tb_sheet.specs.Sheet.{warned}
use Rattle.tb_output.specs.State.{State, first_state, ask_of, Recorded, emptied, Work}
use Rattle.tb_output.specs.Act.{Acted, went, full, act_on}
use Rattle.tb_output.specs.Output.{out}
use Rattle.tb_items.specs.RunEvents.{RunEvent, offered, sent}
use Rattle.tb_items.specs.Classes.{classes_of}

-- how a run ends: with the nodes left on the page; or at a full pool, too many firings without a page, too many pages, or too many nodes
pub data End : Type 0 where
  done : List PlainNode → End
  pool_full : ℕ → ℕ → End
  dead_cycles : ℕ → End
  page_limit : ℕ → End
  node_limit : ℕ → End

-- what a run shows, what it records for its laws, and how it ends
pub record Run : Type 0 where
  pub events : List RunEvent
  pub records : List Recorded
  pub end : End

-- ---- the acts and places of a page

-- after the acts and places of a page: the state, the events, the records, and the line and number at which the pool was full
pub record Progress : Type 0 where
  pub state : State
  pub events : List RunEvent
  pub records : List Recorded
  pub fault : Option (ℕ × ℕ)

-- a progress that these events and records come before
abbrev pub after_events : List RunEvent → List Recorded → Progress → Progress
after_events es rs q = record q { events = es ++ q.events; records = rs ++ q.records }

-- the progress by what an act led to: with its warnings, or up to the full pool
abbrev pub progress_by : (State → Progress) → State → Acted → Progress
progress_by later s (went s' ws rs) = after_events (map (λ w. sent (warned w)) ws) rs (later s')
progress_by later s (full line live) = record { state = s; events = []; records = []; fault = Some (line, live) }

-- the tries with their champions, and the acts one after another
abbrev pub progress : List Reached → ℤ → State → Progress
progress [] least s = record { state = s; events = []; records = []; fault = None }
progress (acted a ∷ rs) least s = progress_by (λ s'. progress rs least s') s (act_on s.params s a)
progress (tried line b ∷ rs) least s = after_events (offered (try_of line b least) ∷ []) [] (progress rs (min_ℤ least b.cost) s)

-- ---- what a page is made for

-- the state after an act, and after those that follow it; an act at which the pool is full ends them
abbrev pub led_by : (State → State) → State → Acted → State
led_by later s (went s' ws rs) = later s'
led_by later s (full line live) = s

-- the state after the acts from this node on; a box, a rule or an insertion ends them
abbrev pub led_past : (State → State) → State → PlainKind → State
led_past later s (plain (hbox what h d)) = s
led_past later s (plain (rule name h d)) = s
led_past later s (plain m) = later s
led_past later s (ins i) = s
led_past later s (act a) = led_by later s (act_on s.params s a)

-- the state after the acts of these nodes that come before their first box, rule or insertion
abbrev pub led_through : List PlainNode → State → State
led_through [] s = s
led_through (n ∷ ns) s = led_past (λ s'. led_through ns s') s n.kind

-- the state after the acts of the waiting nodes that come before their first box, rule or insertion
abbrev pub led : State → State
led s = led_through s.waiting s

-- what the page of a state is made for: what is asked once those acts are done (TeX: The Program §987)
abbrev pub ask_for : State → Ask
ask_for s = let t = led s in ask_of t.params t

-- ---- one page and the firing after it

-- a step that ends the run, or after which it goes on; each with its events and records
pub data Step : Type 0 where
  ends : List RunEvent → List Recorded → End → Step
  goes_on : List RunEvent → List Recorded → State → Step

-- the events of a step
abbrev pub step_events : Step → List RunEvent
step_events (ends es rs e) = es
step_events (goes_on es rs s) = es

-- the nodes that are held between two firings
abbrev pub held_count : State → ℕ
held_count s = node_count s.waiting + node_count s.held_page + box_count s.boxes

-- a firing by its work: the run ends at the page limit or the node limit, or goes on
abbrev pub after_firing : Params → List RunEvent → List Recorded → Work → Step
after_firing p es rs w =
    let events = es ++ map sent w.sent in
    let records = rs ++ w.records in
    let held = held_count w.state in
    if w.refused then ends events records (page_limit (pred w.state.page))
    else (if int_lt p.maxnodes (pos held) then ends events records (node_limit held) else goes_on events records w.state)

-- the firing of a page in this state, after these events and records, if it is allowed
abbrev pub firing_step : List RunEvent → List Recorded → State → Fired → Step
firing_step es rs s f =
    let fired = after_firing s.params es rs (out s.params s f) in
    if int_lt (pos s.dead_cycles) s.params.maxdeadcycles then fired else ends es rs (dead_cycles s.dead_cycles)

-- the firing of the page that is reached, which was made for this
abbrev pub fire : Ask → Reach → Progress → Step
fire a w q = firing_step q.events q.records q.state (fired_of a q.state.classes q.state.boxes w)

-- a step by the progress of its page: it ends at a full pool, fires, or is done when nothing fires
abbrev pub after_progress : Ask → Reach → Progress → Option (ℕ × ℕ) → Step
after_progress a w q None = let fired = fire a w q in if w.fires then fired else ends q.events (q.records ++ emptied q.state.floats ∷ []) (done w.passed)
after_progress a w q (Some f) = ends q.events q.records (pool_full f.0 f.1)

-- a step by what its page is made for and what is reached of it
abbrev pub step_of : State → Ask → Reach → Step
step_of s a w = let q = progress w.reached awful_bad s in after_progress a w q q.fault

-- one step of a run: a page and its firing
unfoldable pub step : State → Step
step s = step_of s (ask_for s) (reach_of (ask_for s) s.classes s.boxes [] s.waiting)

-- ---- the run

-- a run after these events and records
abbrev pub run_after : List RunEvent → List Recorded → Run → Run
run_after es rs r = record r { events = es ++ r.events; records = rs ++ r.records }

-- a run by its first step
abbrev pub run_by : (State → Run) → Step → Run
run_by later (ends es rs e) = record { events = es; records = rs; end = e }
run_by later (goes_on es rs s) = run_after es rs (later s)

-- the run from a state; each firing lowers the fuel, and a run that has enough never uses it up
unfoldable pub run_from : ℕ → State → Run
run_from zero s = record { events = []; records = []; end = dead_cycles s.dead_cycles }
run_from (suc fuel) s = run_by (λ s'. run_from fuel s') (step s)

-- more firings than can follow: each ships a page, or adds to the dead cycles
abbrev pub firings_left : State → ℕ
firings_left s = let p = s.params in (nat_abs p.maxpages - pred s.page) * (nat_abs p.maxdeadcycles + 1) + (nat_abs p.maxdeadcycles - s.dead_cycles)

-- the run from a state, which ends at once if it holds too many nodes
abbrev pub run_of_state : State → Run
run_of_state s =
    let run = run_from (suc (firings_left s)) s in
    if int_lt s.params.maxnodes (pos (held_count s)) then record { events = []; records = []; end = node_limit (held_count s) } else run

-- the run of a galley
unfoldable pub run_of : Galley → Run
run_of g = run_of_state (first_state g.params (classes_of g) (expanded g))
