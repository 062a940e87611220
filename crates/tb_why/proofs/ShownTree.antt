-- What is shown of a run, step by step: what happens while a page is filled, the floats that wait from then on, and the firing if one comes.
use Rattle.std.proofs.Common.{◌≡◌, refl, ℕ, zero, suc, pos, Bool, true, false, List, [], ◌∷◌, ◌++◌, map, Option, Some, None}
use Rattle.std.specs.Prelude.{pred, int_lt, if◌then◌else◌}
use Rattle.tb_scaled.specs.Scaled.{awful_bad}
use Rattle.tb_galley.specs.declared.Galley.{Galley}
use Rattle.tb_galley.specs.GalleyNodes.{expanded}
use Rattle.tb_output.specs.State.{State, Work, Recorded, emptied, first_state}
use Rattle.tb_items.specs.RunEvents.{RunEvent, sent}
use Rattle.tb_items.specs.Classes.{classes_of}
use Rattle.tb_steps.specs.Run.{Run, End, done, dead_cycles, page_limit, node_limit, Progress, progress, fire, after_progress, Step, ends, goes_on, step, after_firing, held_count, run_after, run_by, run_from, run_of, firings_left, ask_for}
use Rattle.tb_steps.proofs.RunTree.{page_of, fired_at, served_at, Fires}
use Rattle.tb_why.specs.Firing.{woven, firing_pieces}
use Rattle.tb_why.specs.WhyRun.{Shown, all_happen, all_shown, wait_tales, firing_shown, fired_shown, step_shown, shown_after, shown_from, shown_run}

-- a page of a state that was filled
abbrev pub page_filled : State → Progress
page_filled s = progress (page_of s).reached awful_bad s

-- the firing of that page
abbrev pub page_served : State → Work
page_served s = served_at s (page_filled s).state

-- what is shown while the page is filled, what waits from then on, and more
abbrev pub shown_with : State → List Shown → List Shown
shown_with s xs = all_happen (page_filled s).events ++ (wait_tales s (page_filled s).state ++ xs)

-- what is shown of the firing
abbrev pub served_shown : State → List Shown
served_shown s = all_shown (woven (firing_pieces (page_filled s).state.params (page_filled s).state (fired_at s (page_filled s).state)) (page_served s).sent)

-- a step with what is shown of it: its page fires and the run goes on, or ends there; or the run ends and no page fires
pub data StepShows (s : State) : Step → List Shown → Type 0 where
  shows_going : (page_filled s).fault ≡ None → Fires s (page_filled s).state → (page_served s).refused ≡ false → (rs : List Recorded)
      → StepShows s (goes_on ((page_filled s).events ++ map sent (page_served s).sent) rs (page_served s).state) (shown_with s (served_shown s))
  shows_ending : (page_filled s).fault ≡ None → Fires s (page_filled s).state → (rs : List Recorded) (e : End) → StepShows s (ends ((page_filled s).events ++ map sent (page_served s).sent) rs e) (shown_with s (served_shown s))
  shows_page : (rs : List Recorded) (e : End) → StepShows s (ends (page_filled s).events rs e) (shown_with s [])

module _ (s : State) where
  by_nodes : (page_filled s).fault ≡ None → Fires s (page_filled s).state → (page_served s).refused ≡ false → (rs : List Recorded) (n : ℕ) (u : Bool)
      → StepShows s (if u then ends ((page_filled s).events ++ map sent (page_served s).sent) rs (node_limit n) else goes_on ((page_filled s).events ++ map sent (page_served s).sent) rs (page_served s).state) (shown_with s (served_shown s))
  by_nodes e f r rs n true = shows_ending e f rs (node_limit n)
  by_nodes e f r rs n false = shows_going e f r rs

  by_refused : (page_filled s).fault ≡ None → Fires s (page_filled s).state → (rs : List Recorded) (u v : Bool) → (page_served s).refused ≡ u
      → StepShows s (if u then ends ((page_filled s).events ++ map sent (page_served s).sent) rs (page_limit (pred (page_served s).state.page)) else (if v then ends ((page_filled s).events ++ map sent (page_served s).sent) rs (node_limit (held_count (page_served s).state)) else goes_on ((page_filled s).events ++ map sent (page_served s).sent) rs (page_served s).state)) (shown_with s (served_shown s))
  by_refused e f rs true v r = shows_ending e f rs _
  by_refused e f rs false v r = by_nodes e f r rs _ v

  by_cycles : (page_filled s).fault ≡ None → (page_of s).fires ≡ true → (u : Bool) → int_lt (pos (page_filled s).state.dead_cycles) (page_filled s).state.params.maxdeadcycles ≡ u
      → StepShows s (if u then after_firing (page_filled s).state.params (page_filled s).events (page_filled s).records (page_served s) else ends (page_filled s).events (page_filled s).records (dead_cycles (page_filled s).state.dead_cycles)) (shown_with s (if u then served_shown s else []))
  by_cycles e f true c = by_refused e (record { stops = f; cycles = c }) _ (page_served s).refused (int_lt (page_filled s).state.params.maxnodes (pos (held_count (page_served s).state))) refl
  by_cycles e f false c = shows_page _ _

  by_firing : (page_filled s).fault ≡ None → (u : Bool) → (page_of s).fires ≡ u
      → StepShows s (if u then fire (ask_for s) (page_of s) (page_filled s) else ends (page_filled s).events ((page_filled s).records ++ emptied (page_filled s).state.floats ∷ []) (done (page_of s).passed)) (shown_with s (if u then firing_shown (page_filled s).state (fired_at s (page_filled s).state) else []))
  by_firing e true f = by_cycles e f (int_lt (pos (page_filled s).state.dead_cycles) (page_filled s).state.params.maxdeadcycles) refl
  by_firing e false f = shows_page _ _

  by_fault : (o : Option (ℕ × ℕ)) → (page_filled s).fault ≡ o → StepShows s (after_progress (ask_for s) (page_of s) (page_filled s) o) (shown_with s (fired_shown (ask_for s) (page_of s) (page_filled s) o))
  by_fault None e = by_firing e (page_of s).fires refl
  by_fault (Some f) e = shows_page _ _

  pub step-shows : StepShows s (step s) (step_shown s)
  unfolding step step_shown
  step-shows = by_fault (page_filled s).fault refl

-- what is shown of a run: of no step, of the last one, or of one and of the run after it
pub data RunShows : State → Run → List Shown → Type 0 where
  shows_none : (s : State) (e : End) → RunShows s (record { events = []; records = []; end = e }) []
  shows_last : {s : State} {xs : List Shown} {es : List RunEvent} {rs : List Recorded} {e : End} → StepShows s (ends es rs e) xs → RunShows s (record { events = es; records = rs; end = e }) (xs ++ [])
  shows_more : {s t : State} {xs ys : List Shown} {es : List RunEvent} {rs : List Recorded} {r : Run} → StepShows s (goes_on es rs t) xs → step s ≡ goes_on es rs t → RunShows t r ys → RunShows s (run_after es rs r) (xs ++ ys)

after-shows : {s : State} {xs : List Shown} (later : State → Run) (shown : State → List Shown) → ((t : State) → RunShows t (later t) (shown t)) → (x : Step) → step s ≡ x → StepShows s x xs → RunShows s (run_by later x) (xs ++ shown_after shown x)
after-shows later shown h (ends es rs e) x y = shows_last y
after-shows later shown h (goes_on es rs t) x y = shows_more y x (h t)

run-shows : (fuel : ℕ) (s : State) → RunShows s (run_from fuel s) (shown_from fuel s)
unfolding run_from shown_from
run-shows zero s = shows_none s (dead_cycles s.dead_cycles)
run-shows (suc fuel) s = after-shows (λ t. run_from fuel t) (λ t. shown_from fuel t) (λ t. run-shows fuel t) (step s) refl (step-shows s)

-- what is shown of the run of a galley
pub galley-shows : (g : Galley) → RunShows (first_state g.params (classes_of g) (expanded g)) (run_of g) (shown_run g)
unfolding run_of shown_run
galley-shows g = by_limit (int_lt g.params.maxnodes (pos (held_count s)))
  where
    s : State
    s = first_state g.params (classes_of g) (expanded g)

    by_limit : (t : Bool) → RunShows s (if t then record { events = []; records = []; end = node_limit (held_count s) } else run_from (suc (firings_left s)) s) (if t then [] else shown_from (suc (firings_left s)) s)
    by_limit true = shows_none s (node_limit (held_count s))
    by_limit false = run-shows (suc (firings_left s)) s
