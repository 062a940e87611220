-- A run with what is told of it.
use Rattle.std.specs.Prelude.{ℕ, zero, suc, pos, List, [], ◌∷◌, ◌++◌, length, drop, map, Option, Some, None, int_lt, if◌then◌else◌}
use Rattle.tb_scaled.specs.Scaled.{awful_bad}
use Rattle.tb_galley.specs.declared.Galley.{Galley}
use Rattle.tb_galley.specs.GalleyNodes.{expanded}
use Rattle.tb_builder.specs.declared.Ask.{Ask}
use Rattle.tb_builder.specs.FiredPages.{Fired, reach_of, fired_of}
use Rattle.tb_builder.specs.Reach.{Reach}
use Rattle.tb_output.specs.State.{State, first_state}
use Rattle.tb_output.specs.Output.{out}
use Rattle.tb_items.specs.RunEvents.{RunEvent, sent}
use Rattle.tb_steps.specs.Run.{Progress, progress, Step, ends, goes_on, step, firings_left, held_count, ask_for}
use Rattle.tb_items.specs.Classes.{classes_of}
use Rattle.tb_told.specs.declared.Tale.{Tale}
use Rattle.tb_told.specs.declared.Tale.TheVariants.{Waits}
use Rattle.tb_why.specs.Firing.{spot_of, firing_pieces, WhyEvent, told, sends, woven}

-- an event of the run, or a tale
pub data Shown : Type 0 where
  happens : RunEvent → Shown
  tells : Tale → Shown

-- these events
abbrev pub all_happen : List RunEvent → List Shown
all_happen es = map (λ e. happens e) es

-- a tale, or what is sent
abbrev pub shown_of : WhyEvent → Shown
shown_of (told t) = tells t
shown_of (sends e) = happens (sent e)

-- these, in their order
abbrev pub all_shown : List WhyEvent → List Shown
all_shown es = map shown_of es

-- the events among what is shown
abbrev pub happened_among : List Shown → List RunEvent
happened_among [] = []
happened_among (happens e ∷ xs) = e ∷ happened_among xs
happened_among (tells t ∷ xs) = happened_among xs

-- what is told among what is shown
abbrev pub told_among : List Shown → List Tale
told_among [] = []
told_among (happens e ∷ xs) = told_among xs
told_among (tells t ∷ xs) = t ∷ told_among xs

-- ---- a step

-- the wide floats of release 2014 that came into their list while the page was filled
abbrev pub wait_tales : State → State → List Shown
wait_tales s now = map (λ f. tells (Waits (spot_of now) f)) (drop (length s.floats.second) now.floats.second)

-- a firing, if it is allowed
abbrev pub firing_shown : State → Fired → List Shown
firing_shown s f =
    if int_lt (pos s.dead_cycles) s.params.maxdeadcycles then all_shown (woven (firing_pieces s.params s f) (out s.params s f).sent) else []

-- the firing of the page that is reached, which was made for this, if one fires
abbrev pub fired_shown : Ask → Reach → Progress → Option (ℕ × ℕ) → List Shown
fired_shown a w q None = if w.fires then firing_shown q.state (fired_of a q.state.classes q.state.boxes w) else []
fired_shown a w q (Some f) = []

-- a step by what its page is made for and what is reached of it: what happens while the page is filled, the wide floats that wait from now on, and the firing
abbrev pub shown_by : State → Ask → Reach → List Shown
shown_by s a w =
    let q = progress w.reached awful_bad s in
    all_happen q.events ++ (wait_tales s q.state ++ fired_shown a w q q.fault)

-- one step of a run with what is told of it
unfoldable pub step_shown : State → List Shown
step_shown s = shown_by s (ask_for s) (reach_of (ask_for s) s.classes s.boxes [] s.waiting)

-- ---- the run

-- the run by its first step
abbrev pub shown_after : (State → List Shown) → Step → List Shown
shown_after later (ends es rs e) = []
shown_after later (goes_on es rs s) = later s

-- what is shown of the run from a state
unfoldable pub shown_from : ℕ → State → List Shown
shown_from zero s = []
shown_from (suc fuel) s = step_shown s ++ shown_after (λ s'. shown_from fuel s') (step s)

-- what is shown of the run from a state, which ends at once if it holds too many nodes
abbrev pub shown_of_state : State → List Shown
shown_of_state s =
    let shown = shown_from (suc (firings_left s)) s in
    if int_lt s.params.maxnodes (pos (held_count s)) then [] else shown

-- what is shown of the run of a galley: its events, with what is told between them
unfoldable pub shown_run : Galley → List Shown
shown_run g = shown_of_state (first_state g.params (classes_of g) (expanded g))
