-- A run with breaks put in is a path of moves: items and breaks are taken one by one until a page fires; then it is filled.
use Rattle.std.proofs.Common.{◌≡◌, refl, sym, ◌∙◌, ap, subst, ◌⊎◌, inl, inr, ℕ, zero, suc, ◌<◌, ℤ, Bool, true, false, List, [], ◌∷◌, ◌++◌, map, Option, Some, None, append_assoc, append-nil, arith}
use Rattle.std.specs.Prelude.{pos, neg_ℤ, pred, int_lt, ◌+ℤ◌, if◌then◌else◌}
use Rattle.tb_scaled.specs.Scaled.{awful_bad}
use Rattle.tb_node.specs.PlainNodes.{PlainNode}
use Rattle.tb_builder.specs.declared.Ask.{Ask}
use Rattle.tb_builder.specs.Reach.{Reach, holds_box}
use Rattle.tb_builder.specs.FiredPages.{fired_of}
use Rattle.tb_output.specs.State.{State, Recorded, emptied}
use Rattle.tb_output.specs.Output.{out}
use Rattle.tb_items.specs.RunEvents.{RunEvent, sent}
use Rattle.tb_steps.specs.Run.{done, pool_full, dead_cycles, page_limit, node_limit, Progress, progress, Step, ends, goes_on, ask_for}
use Rattle.tb_rate.specs.declared.PlacePenalty.{PlacePenalty}
use Rattle.tb_rate.specs.RatedRun.{demerits_after, more_demerits}
use Rattle.tb_best.specs.PlanDemerits.{reach_in, unlimited_firing, unlimited_fire, unlimited_progress, unlimited_step, step_demerits, unlimited_demerits_from}
use Rattle.tb_best.specs.ItemsAhead.{Ahead, forced, state_with}
use Rattle.tb_best.proofs.StepMore.{step_with, step-more, demerits-more}
use Rattle.tb_best.proofs.TopBreaks.{break-vanishes}

-- the nodes of the items ahead, with a break before those that are marked
abbrev pub planned : List Bool → List Ahead → List PlainNode
planned [] cs = []
planned (m ∷ ms) [] = []
planned (true ∷ ms) (c ∷ cs) = (forced c ∷ c.nodes) ++ planned ms cs
planned (false ∷ ms) (c ∷ cs) = c.nodes ++ planned ms cs

-- a mark for each item ahead, and a break at places alone
abbrev pub AreMarks : List Ahead → List Bool → Type 0
AreMarks [] [] = Unit {0}
AreMarks [] (m ∷ ms) = ⊥
AreMarks (c ∷ cs) [] = ⊥
AreMarks (c ∷ cs) (true ∷ ms) = (c.is_place ≡ true) × AreMarks cs ms
AreMarks (c ∷ cs) (false ∷ ms) = AreMarks cs ms

-- how many are marked
abbrev pub marked : List Bool → ℕ
marked [] = 0
marked (true ∷ ms) = suc (marked ms)
marked (false ∷ ms) = marked ms

-- ---- amounts

-- there is an amount
abbrev IsAmount : Option ℤ → Type 0
IsAmount None = ⊥
IsAmount (Some a) = Unit {0}

abbrev value : Option ℤ → ℤ
value None = pos 0
value (Some a) = a

pub no-amount : {d : ℤ} → None ≡ Some d → ⊥
no-amount h = subst IsAmount (sym h) tt

pub more-some : (a : ℤ) (o : Option ℤ) (d : ℤ) → more_demerits a o ≡ Some d → (b : ℤ) × (o ≡ Some b) × (a +ℤ b ≡ d)
more-some a None d h = absurd (no-amount h)
more-some a (Some b) d h = (b, refl, ap value h)

-- ---- paths

module _ (places : List PlacePenalty) where
  -- from a state in which the nodes wait that were taken, with these items ahead: a way to the end of a run, with its demerits
  pub data Path : ℕ → State → List Ahead → List Bool → ℤ → Type 0 where
    finished : (k : ℕ) (s : State) (es : List RunEvent) (rs : List Recorded) (left : List PlainNode)
        → (reach_in s).fires ≡ false → unlimited_step s ≡ ends es rs (done left) → Path (suc k) s [] [] (pos 0)
    taken : (k : ℕ) (s : State) (c : Ahead) (cs : List Ahead) (ms : List Bool) (d : ℤ)
        → (reach_in s).fires ≡ false → Path k (state_with c.nodes s) cs ms d → Path k s (c ∷ cs) (false ∷ ms) d
    cut : (k : ℕ) (s : State) (c : Ahead) (cs : List Ahead) (ms : List Bool) (d : ℤ)
        → (reach_in s).fires ≡ false → c.is_place ≡ true → holds_box s.waiting ≡ true → Path k (state_with (forced c ∷ c.nodes) s) cs ms d → Path k s (c ∷ cs) (true ∷ ms) d
    filled : (k : ℕ) (s : State) (cs : List Ahead) (ms : List Bool) (d : ℤ) (es : List RunEvent) (rs : List Recorded) (t : State)
        → (reach_in s).fires ≡ true → unlimited_step s ≡ goes_on es rs t → Path k t cs ms d → Path (suc k) s cs ms (step_demerits places s (goes_on es rs t) +ℤ d)

-- ---- a step with a page that fires, and one without

-- the run is over after a step
abbrev pub IsOver : Step → Type 0
IsOver (ends es rs e) = Unit {0}
IsOver (goes_on es rs t) = ⊥

-- the run is over well
abbrev pub IsDone : Step → Type 0
IsDone (ends es rs (done left)) = Unit {0}
IsDone (ends es rs (pool_full line live)) = ⊥
IsDone (ends es rs (dead_cycles n)) = ⊥
IsDone (ends es rs (page_limit n)) = ⊥
IsDone (ends es rs (node_limit n)) = ⊥
IsDone (goes_on es rs t) = ⊥

either-undone : (t : Bool) (x y : Step) → (IsDone x → ⊥) → (IsDone y → ⊥) → IsDone (if t then x else y) → ⊥
either-undone true x y h k = h
either-undone false x y h k = k

fire-undone : (a : Ask) (w : Reach) (q : Progress) → IsDone (unlimited_fire a w q) → ⊥
fire-undone a w q =
    let work = out q.state.params q.state (fired_of a q.state.classes q.state.boxes w) in
    either-undone (int_lt (pos q.state.dead_cycles) q.state.params.maxdeadcycles) (unlimited_firing q.events q.records work) (ends q.events q.records (dead_cycles q.state.dead_cycles))
    (either-undone work.refused (ends (q.events ++ map sent work.sent) (q.records ++ work.records) (page_limit (pred work.state.page))) (goes_on (q.events ++ map sent work.sent) (q.records ++ work.records) work.state) (λ h. h) (λ h. h)) (λ h. h)

-- a page that fires does not end a run well
progress-undone : (a : Ask) (w : Reach) (q : Progress) (o : Option (ℕ × ℕ)) → w.fires ≡ true → IsDone (unlimited_progress a w q o) → ⊥
progress-undone a w q (Some f) fires h = h
progress-undone a w q None fires h = fire-undone a w q (subst (λ t. IsDone (if t then unlimited_fire a w q else ends q.events (q.records ++ emptied q.state.floats ∷ []) (done w.passed))) fires h)

pub step-undone : (s : State) → (reach_in s).fires ≡ true → IsDone (unlimited_step s) → ⊥
unfolding unlimited_step
step-undone s fires h = let q = progress (reach_in s).reached awful_bad s in progress-undone (ask_for s) (reach_in s) q q.fault fires h

-- without a page that fires the run is over
progress-over : (a : Ask) (w : Reach) (q : Progress) (o : Option (ℕ × ℕ)) → w.fires ≡ false → IsOver (unlimited_progress a w q o)
progress-over a w q (Some f) quiet = tt
progress-over a w q None quiet = subst (λ t. IsOver (if t then unlimited_fire a w q else ends q.events (q.records ++ emptied q.state.floats ∷ []) (done w.passed))) (sym quiet) tt

pub step-over : (s : State) → (reach_in s).fires ≡ false → IsOver (unlimited_step s)
unfolding unlimited_step
step-over s quiet = let q = progress (reach_in s).reached awful_bad s in progress-over (ask_for s) (reach_in s) q q.fault quiet

-- ---- each run is a path

pub nothing-behind : (s : State) → state_with [] s ≡ s
nothing-behind s = ap (λ ns. record s { waiting = ns }) (append-nil s.waiting)

-- the first of the nodes ahead are taken
pub taken-first : (ns more : List PlainNode) (s : State) → state_with (ns ++ more) s ≡ state_with more (state_with ns s)
taken-first ns more s = ap (λ xs. record s { waiting = xs }) (sym (append_assoc s.waiting ns more))

module _ (places : List PlacePenalty) where
  -- the demerits from a state
  abbrev from : ℕ → State → Option ℤ
  from k s = unlimited_demerits_from places k s

  -- the demerits by a step
  abbrev by_step : ℕ → State → Step → Option ℤ
  by_step k s x = demerits_after (λ t. from k t) (step_demerits places s x) x

  pub one-step : (k : ℕ) (s : State) → from (suc k) s ≡ by_step k s (unlimited_step s)
  unfolding unlimited_demerits_from
  one-step k s = refl

  no-fuel : (s : State) → from zero s ≡ None
  unfolding unlimited_demerits_from
  no-fuel s = refl

  -- a page that fires is filled, whatever is behind
  pub fill-step : (k : ℕ) (s : State) (more : List PlainNode) → (reach_in s).fires ≡ true
      → from (suc k) (state_with more s) ≡ demerits_after (λ t. from k t) (step_demerits places s (unlimited_step s)) (step_with more (unlimited_step s))
  fill-step k s more fires =
      one-step k (state_with more s)
      ∙ ap (by_step k (state_with more s)) (step-more s more fires)
      ∙ ap (λ d. demerits_after (λ t. from k t) d (step_with more (unlimited_step s))) (demerits-more places s more fires)

  -- a path with this sum, with these marks or with fewer: a break before the first box of a page is left out
  abbrev pub HasPath : ℕ → State → List Ahead → List Bool → ℤ → Type 0
  HasPath k s cs ms d = (less : List Bool) × Path places k s cs less d × ((less ≡ ms) ⊎ (marked less < marked ms))

  by-fill : (k : ℕ) (s : State) (cs : List Ahead) (ms : List Bool) (d : ℤ) (x : Step)
      → ((t : State) (e : ℤ) → from k (state_with (planned ms cs) t) ≡ Some e → HasPath k t cs ms e)
      → (reach_in s).fires ≡ true → unlimited_step s ≡ x
      → demerits_after (λ t. from k t) (step_demerits places s x) (step_with (planned ms cs) x) ≡ Some d → HasPath (suc k) s cs ms d
  by-fill k s cs ms d (ends es rs (done left)) later fires e h = absurd (step-undone s fires (subst IsDone (sym e) tt))
  by-fill k s cs ms d (ends es rs (pool_full line live)) later fires e h = absurd (no-amount h)
  by-fill k s cs ms d (ends es rs (dead_cycles n)) later fires e h = absurd (no-amount h)
  by-fill k s cs ms d (ends es rs (page_limit n)) later fires e h = absurd (no-amount h)
  by-fill k s cs ms d (ends es rs (node_limit n)) later fires e h = absurd (no-amount h)
  by-fill k s cs ms d (goes_on es rs t) later fires e h =
      let parts = more-some (step_demerits places s (goes_on es rs t)) (from k (state_with (planned ms cs) t)) d h in
      let rest = later t parts.0 parts.1 in
      (rest.0, subst (λ x. Path places (suc k) s cs rest.0 x) parts.2 (filled k s cs rest.0 parts.0 es rs t fires e rest.1), rest.2)

  -- without one and without items ahead, the run is over
  by-end : (k : ℕ) (s : State) (d : ℤ) (x : Step) → (reach_in s).fires ≡ false → unlimited_step s ≡ x → IsOver x → by_step k s x ≡ Some d → Path places (suc k) s [] [] d
  by-end k s d (ends es rs (done left)) quiet e o h = subst (λ x. Path places (suc k) s [] [] x) (ap value h) (finished k s es rs left quiet e)
  by-end k s d (ends es rs (pool_full line live)) quiet e o h = absurd (no-amount h)
  by-end k s d (ends es rs (dead_cycles n)) quiet e o h = absurd (no-amount h)
  by-end k s d (ends es rs (page_limit n)) quiet e o h = absurd (no-amount h)
  by-end k s d (ends es rs (node_limit n)) quiet e o h = absurd (no-amount h)
  by-end k s d (goes_on es rs t) quiet e o h = absurd o

  -- an item is taken without a break
  by-taken : (k : ℕ) (s : State) (c : Ahead) (cs : List Ahead) (ms : List Bool) (d : ℤ) → (reach_in s).fires ≡ false → HasPath k (state_with c.nodes s) cs ms d → HasPath k s (c ∷ cs) (false ∷ ms) d
  by-taken k s c cs ms d quiet (less, way, inl h) = (false ∷ less, taken k s c cs less d quiet way, inl (ap (λ l. false ∷ l) h))
  by-taken k s c cs ms d quiet (less, way, inr h) = (false ∷ less, taken k s c cs less d quiet way, inr h)

  -- a break is put in
  by-cut : (k : ℕ) (s : State) (c : Ahead) (cs : List Ahead) (ms : List Bool) (d : ℤ) → (reach_in s).fires ≡ false → c.is_place ≡ true → holds_box s.waiting ≡ true
      → HasPath k (state_with (forced c ∷ c.nodes) s) cs ms d → HasPath k s (c ∷ cs) (true ∷ ms) d
  by-cut k s c cs ms d quiet place box (less, way, inl h) = (true ∷ less, cut k s c cs less d quiet place box way, inl (ap (λ l. true ∷ l) h))
  by-cut k s c cs ms d quiet place box (less, way, inr h) = (true ∷ less, cut k s c cs less d quiet place box way, inr (omega (arith, h)))

  -- a break is left out
  by-none : (k : ℕ) (s : State) (c : Ahead) (cs : List Ahead) (ms : List Bool) (d : ℤ) → (reach_in s).fires ≡ false → HasPath k (state_with c.nodes s) cs ms d → HasPath k s (c ∷ cs) (true ∷ ms) d
  by-none k s c cs ms d quiet (less, way, inl h) = (false ∷ less, taken k s c cs less d quiet way, inr (let e = ap marked h in omega (arith, e)))
  by-none k s c cs ms d quiet (less, way, inr h) = (false ∷ less, taken k s c cs less d quiet way, inr (omega (arith, h)))

  -- all runs with this fuel are paths
  abbrev Below : ℕ → Type 0
  Below k = (s : State) (cs : List Ahead) (ms : List Bool) (d : ℤ) → AreMarks cs ms → from k (state_with (planned ms cs) s) ≡ Some d → HasPath k s cs ms d

  -- a page is filled as soon as it fires with what was taken
  choose : (k : ℕ) (cs : List Ahead) (ms : List Bool) → Below k → (s : State) (d : ℤ) → AreMarks cs ms → from (suc k) (state_with (planned ms cs) s) ≡ Some d
      → ((reach_in s).fires ≡ false → HasPath (suc k) s cs ms d) → HasPath (suc k) s cs ms d
  choose k cs ms later s d marks h otherwise = by (reach_in s).fires refl
    where
      by : (t : Bool) → (reach_in s).fires ≡ t → HasPath (suc k) s cs ms d
      by true e = by-fill k s cs ms d (unlimited_step s) (λ t x y. later t cs ms x marks y) e refl (sym (fill-step k s (planned ms cs) e) ∙ h)
      by false e = otherwise e

  -- with a break ahead of the next item: it is left out if the page has no box yet
  cut-or-none : (k : ℕ) (s : State) (c : Ahead) (cs : List Ahead) (ms : List Bool) (d : ℤ) (t : Bool) → (reach_in s).fires ≡ false → c.is_place ≡ true → holds_box s.waiting ≡ t
      → ((u : State) → from k (state_with (planned ms cs) u) ≡ Some d → HasPath k u cs ms d) → from k (state_with (planned (true ∷ ms) (c ∷ cs)) s) ≡ Some d → HasPath k s (c ∷ cs) (true ∷ ms) d
  cut-or-none k s c cs ms d true quiet place box later h =
      by-cut k s c cs ms d quiet place box (later (state_with (forced c ∷ c.nodes) s) (sym (ap (from k) (taken-first (forced c ∷ c.nodes) (planned ms cs) s)) ∙ h))
  cut-or-none k s c cs ms d false quiet place box later h =
      by-none k s c cs ms d quiet
      (later (state_with c.nodes s) (sym (ap (from k) (taken-first c.nodes (planned ms cs) s)) ∙ sym (break-vanishes places k s c.line (neg_ℤ (pos 10000)) s.waiting (c.nodes ++ planned ms cs) box) ∙ h))

  items-left : (k : ℕ) (cs : List Ahead) (ms : List Bool) → Below k → (s : State) (d : ℤ) → AreMarks cs ms → from (suc k) (state_with (planned ms cs) s) ≡ Some d → HasPath (suc k) s cs ms d
  items-left k [] [] later s d marks h = choose k [] [] later s d marks h (λ quiet.
      ([], by-end k s d (unlimited_step s) quiet refl (step-over s quiet) (sym (one-step k s) ∙ sym (ap (from (suc k)) (nothing-behind s)) ∙ h), inl refl))
  items-left k [] (m ∷ ms) later s d marks h = absurd marks
  items-left k (c ∷ cs) [] later s d marks h = absurd marks
  items-left k (c ∷ cs) (false ∷ ms) later s d marks h = choose k (c ∷ cs) (false ∷ ms) later s d marks h (λ quiet.
      by-taken (suc k) s c cs ms d quiet (items-left k cs ms later (state_with c.nodes s) d marks (sym (ap (from (suc k)) (taken-first c.nodes (planned ms cs) s)) ∙ h)))
  items-left k (c ∷ cs) (true ∷ ms) later s d marks h = choose k (c ∷ cs) (true ∷ ms) later s d marks h (λ quiet.
      cut-or-none (suc k) s c cs ms d (holds_box s.waiting) quiet marks.0 refl (λ u e. items-left k cs ms later u d marks.1 e) h)

  -- each run that ends well, with breaks at places, is a path
  pub run-paths : (k : ℕ) (s : State) (cs : List Ahead) (ms : List Bool) (d : ℤ) → AreMarks cs ms → from k (state_with (planned ms cs) s) ≡ Some d → HasPath k s cs ms d
  run-paths zero s cs ms d marks h = absurd (no-amount (sym (no-fuel (state_with (planned ms cs) s)) ∙ h))
  run-paths (suc k) s cs ms d marks h = items-left k cs ms (λ t xs ys e m g. run-paths k t xs ys e m g) s d marks h

  -- each path is the run of the nodes with its breaks
  pub path-runs : (k : ℕ) (s : State) (cs : List Ahead) (ms : List Bool) (d : ℤ) → Path places k s cs ms d → from k (state_with (planned ms cs) s) ≡ Some d
  path-runs _ _ _ _ _ (finished k s es rs left quiet e) = ap (from (suc k)) (nothing-behind s) ∙ one-step k s ∙ ap (by_step k s) e
  path-runs _ _ _ _ _ (taken k s c cs ms d quiet h) = ap (from k) (taken-first c.nodes (planned ms cs) s) ∙ path-runs k (state_with c.nodes s) cs ms d h
  path-runs _ _ _ _ _ (cut k s c cs ms d quiet place box h) =
      ap (from k) (taken-first (forced c ∷ c.nodes) (planned ms cs) s) ∙ path-runs k (state_with (forced c ∷ c.nodes) s) cs ms d h
  path-runs _ _ _ _ _ (filled k s cs ms d es rs t fires e h) =
      fill-step k s (planned ms cs) fires
      ∙ ap (λ x. demerits_after (λ u. from k u) (step_demerits places s x) (step_with (planned ms cs) x)) e
      ∙ ap (more_demerits (step_demerits places s (goes_on es rs t))) (path-runs k t cs ms d h)

  -- its breaks are at places
  pub path-marks : (k : ℕ) (s : State) (cs : List Ahead) (ms : List Bool) (d : ℤ) → Path places k s cs ms d → AreMarks cs ms
  path-marks _ _ _ _ _ (finished k s es rs left quiet e) = tt
  path-marks _ _ _ _ _ (taken k s c cs ms d quiet h) = path-marks k (state_with c.nodes s) cs ms d h
  path-marks _ _ _ _ _ (cut k s c cs ms d quiet place box h) = (place, path-marks k (state_with (forced c ∷ c.nodes) s) cs ms d h)
  path-marks _ _ _ _ _ (filled k s cs ms d es rs t fires e h) = path-marks k t cs ms d h
