-- Folds over what a run is made of: what holds at its start and is kept by each act and each firing holds of each state, and what
-- is so of all that each of them shows and records is so of all that the run shows and records.
use Rattle.std.proofs.Common.{◌≡◌, sym, subst, ℕ, true, List, [], ◌∷◌, ◌++◌, map, None, append-nil}
use Rattle.std.proofs.lemmas.Option.{none-some}
use Rattle.std.specs.Prelude.{ℤ}
use Rattle.std.specs.List.{AllByRecursion}
use Rattle.tb_scaled.specs.Scaled.{awful_bad}
use Rattle.tb_node.specs.declared.Act.{Act}
use Rattle.tb_param.specs.Ranges.{are_params}
use Rattle.tb_param.proofs.RangeLemmas.{changed-in-range}
use Rattle.tb_break.specs.Best.{Breakpoint}
use Rattle.tb_break.proofs.EachLemmas.{all-join}
use Rattle.tb_builder.specs.Reach.{Reached, acted, tried, try_of}
use Rattle.tb_sheet.specs.declared.Warn.{Warn}
use Rattle.tb_sheet.specs.Sheet.{warned}
use Rattle.tb_output.specs.State.{State, Recorded, emptied}
use Rattle.tb_items.specs.RunEvents.{RunEvent, offered, sent}
use Rattle.tb_steps.specs.Run.{Run, Progress, progress, Step, ends, goes_on}
use Rattle.tb_output.proofs.KeptParams.{out-keeps-params}
use Rattle.tb_steps.proofs.RunTree.{ActMove, takes_float, takes_note, sets_flag, changes_columns, sets_number, takes_title, sets_parameter, shows_try, does_act, PageMove, rests, moves, PageMoves, is_whole, is_cut, PageIs, page-is, page_of, fired_at, served_at, WholePage, fires_on, meets_page_limit, meets_node_limit, meets_cycle_limit, is_done, meets_full_pool, StepIs, runs_out, starts_too_full, ends_so, goes_on_so, RunIs}

-- what may be so of all that is shown and recorded: it is so of nothing, and of two lists in turn if it is so of both
pub record Shows : Type 1 where
  pub holds : List RunEvent → List Recorded → Type 0
  pub none : holds [] []
  pub both : (es fs : List RunEvent) (rs qs : List Recorded) → holds es rs → holds fs qs → holds (es ++ fs) (rs ++ qs)

-- each record is so
abbrev pub each_record : (Recorded → Type 0) → Shows
each_record P = record { holds = λ es rs. AllByRecursion P rs; none = tt; both = λ es fs rs qs a b. all-join P rs qs a b }

-- nothing is asked
abbrev pub nothing_shown : Shows
nothing_shown = record { holds = λ es rs. Unit {0}; none = tt; both = λ es fs rs qs a b. tt }

-- each event is so
abbrev pub each_event : (RunEvent → Type 0) → Shows
each_event P = record { holds = λ es rs. AllByRecursion P es; none = tt; both = λ es fs rs qs a b. all-join P es fs a b }

-- ---- the acts and tries of a page

-- what may hold while a page is gone through, of what is left of what is reached and of the state, and what each try and act does to it
pub record PageLaw : Type 1 where
  pub shows : Shows
  pub holds : List Reached → State → Type 0
  pub tries : (line : ℕ) (b : Breakpoint) (least : ℤ) (rs : List Reached) (s : State) → holds (tried line b ∷ rs) s → shows.holds (offered (try_of line b least) ∷ []) [] × holds rs s
  pub acts : (s t : State) (a : Act) (ws : List Warn) (records : List Recorded) (rs : List Reached) → ActMove s.params s a t ws records → holds (acted a ∷ rs) s → shows.holds (map (λ w. sent (warned w)) ws) records × holds rs t

module _ (law : PageLaw) where
  move-holds : {rs qs : List Reached} {s t : State} {es : List RunEvent} {records : List Recorded} → PageMove rs s es records qs t → law.holds rs s → law.shows.holds es records × law.holds qs t
  move-holds (shows_try {s = s} line b least rs) h = law.tries line b least rs s h
  move-holds (does_act {s = s} {t = t} {ws = ws} {records = records} a rs m) h = law.acts s t a ws records rs m h

  pub page-holds : {rs qs : List Reached} {s t : State} {es : List RunEvent} {records : List Recorded} → PageMoves rs s es records qs t → law.holds rs s → law.shows.holds es records × law.holds qs t
  page-holds rests h = (law.shows.none, h)
  page-holds (moves {es = es} {fs = fs} {records = records} {more = more} m x) h =
      let a = move-holds m h in
      let b = page-holds x a.1 in
      (law.shows.both es fs records more a.0 b.0, b.1)

  -- the same of what a page comes to
  pub progress-holds : {rs : List Reached} {s : State} {q : Progress} → PageIs rs s q → law.holds rs s → law.shows.holds q.events q.records × ((qs : List Reached) × law.holds qs q.state)
  progress-holds (is_whole x) h = let a = page-holds x h in (a.0, ([], a.1))
  progress-holds (is_cut {a = a} {qs = qs} x e) h = let b = page-holds x h in (b.0, (acted a ∷ qs, b.1))

  -- if no act is refused nothing is left
  pub whole-holds : {rs : List Reached} {s : State} {q : Progress} → PageIs rs s q → law.holds rs s → q.fault ≡ None → law.holds [] q.state
  whole-holds (is_whole x) h f = (page-holds x h).1
  whole-holds (is_cut {line = line} {live = live} x e) h f = absurd (none-some (line, live) (sym f))

-- ---- steps and runs

-- what may be so of all that a run shows and records; what may hold between two firings, and while the page of such a state is gone
-- through; and what each try, act and firing does to them
pub record RunLaw : Type 1 where
  pub shows : Shows
  pub between : State → Type 0
  pub within : State → List Reached → State → Type 0
  pub begins : (s : State) → between s → within s (page_of s).reached s
  pub tries : (o : State) (line : ℕ) (b : Breakpoint) (least : ℤ) (rs : List Reached) (s : State) → within o (tried line b ∷ rs) s → shows.holds (offered (try_of line b least) ∷ []) [] × within o rs s
  pub acts : (o s t : State) (a : Act) (ws : List Warn) (records : List Recorded) (rs : List Reached) → ActMove s.params s a t ws records → within o (acted a ∷ rs) s → shows.holds (map (λ w. sent (warned w)) ws) records × within o rs t
  pub fires : (o s : State) → within o [] s → shows.holds (map sent (served_at o s).sent) (served_at o s).records × between (served_at o s).state
  pub stops : (o s : State) → within o [] s → shows.holds [] (emptied s.floats ∷ [])

module _ (law : RunLaw) where
  abbrev pub page_law : State → PageLaw
  page_law o = record { shows = law.shows; holds = law.within o; tries = law.tries o; acts = law.acts o }

  -- what a step shows and records, and what holds after it if the run goes on
  abbrev pub StepHolds : Step → Type 0
  StepHolds (ends es rs e) = law.shows.holds es rs
  StepHolds (goes_on es rs s) = law.shows.holds es rs × law.between s

  pub within-holds : {o s : State} {qs : List Reached} {es : List RunEvent} {rs : List Recorded} → law.between o → PageMoves (page_of o).reached o es rs qs s → law.shows.holds es rs × law.within o qs s
  within-holds {o = o} h x = page-holds (page_law o) x (law.begins o h)

  -- the same of what its page comes to
  pub filled-holds : {o : State} → law.between o → law.shows.holds (progress (page_of o).reached awful_bad o).events (progress (page_of o).reached awful_bad o).records × ((qs : List Reached) × law.within o qs (progress (page_of o).reached awful_bad o).state)
  filled-holds {o = o} h = progress-holds (page_law o) (page-is (page_of o).reached awful_bad o) (law.begins o h)

  on_firing : {o s : State} {es : List RunEvent} {rs : List Recorded} → law.between o → WholePage o es rs s → law.shows.holds (es ++ map sent (served_at o s).sent) (rs ++ (served_at o s).records) × law.between (served_at o s).state
  on_firing {o = o} {s = s} {es = es} {rs = rs} h x =
      let a = within-holds h x in
      let b = law.fires o s a.1 in
      (law.shows.both es (map sent (served_at o s).sent) rs (served_at o s).records a.0 b.0, b.1)

  pub step-holds : {s : State} {x : Step} → StepIs s x → law.between s → StepHolds x
  step-holds (fires_on x f r) h = on_firing h x
  step-holds (meets_page_limit x f r) h = (on_firing h x).0
  step-holds (meets_node_limit x f r n) h = (on_firing h x).0
  step-holds (meets_cycle_limit x e c) h = (within-holds h x).0
  step-holds {s = o} (is_done {es = es} {rs = rs} {t = s} x e) h =
      let a = within-holds h x in
      subst (λ l. law.shows.holds l (rs ++ emptied s.floats ∷ [])) (append-nil es) (law.shows.both es [] rs (emptied s.floats ∷ []) a.0 (law.stops o s a.1))
  step-holds (meets_full_pool x e) h = (within-holds h x).0

  pub run-holds : {s : State} {r : Run} → RunIs s r → law.between s → law.shows.holds r.events r.records
  run-holds (runs_out s) h = law.shows.none
  run-holds (starts_too_full s) h = law.shows.none
  run-holds (ends_so x) h = step-holds x h
  run-holds (goes_on_so {es = es} {rs = rs} {r = r} x y) h =
      let a = step-holds x h in
      law.shows.both es r.events rs r.records a.0 (run-holds y a.1)

-- ---- parameters in their ranges

-- the same, where the parameters that hold are in their ranges at each moment
pub record RangedLaw : Type 1 where
  pub shows : Shows
  pub between : State → Type 0
  pub within : State → List Reached → State → Type 0
  pub begins : (s : State) → are_params s.params ≡ true → between s → within s (page_of s).reached s
  pub tries : (o : State) (line : ℕ) (b : Breakpoint) (least : ℤ) (rs : List Reached) (s : State) → are_params s.params ≡ true → within o (tried line b ∷ rs) s → shows.holds (offered (try_of line b least) ∷ []) [] × within o rs s
  pub acts : (o s t : State) (a : Act) (ws : List Warn) (records : List Recorded) (rs : List Reached) → are_params s.params ≡ true → ActMove s.params s a t ws records → within o (acted a ∷ rs) s → shows.holds (map (λ w. sent (warned w)) ws) records × within o rs t
  pub fires : (o s : State) → are_params s.params ≡ true → within o [] s → shows.holds (map sent (served_at o s).sent) (served_at o s).records × between (served_at o s).state
  pub stops : (o s : State) → are_params s.params ≡ true → within o [] s → shows.holds [] (emptied s.floats ∷ [])

-- an act keeps the parameters in their ranges
pub act-in-range : {s t : State} {a : Act} {ws : List Warn} {records : List Recorded} → ActMove s.params s a t ws records → are_params s.params ≡ true → are_params t.params ≡ true
act-in-range (takes_float f e) h = h
act-in-range (takes_note m e) h = h
act-in-range (sets_flag area) h = h
act-in-range (changes_columns two) h = h
act-in-range (sets_number n) h = h
act-in-range (takes_title f e) h = h
act-in-range {s = s} (sets_parameter c) h = changed-in-range s.params c h

-- so does a firing, which changes none
pub served-in-range : (o s : State) → are_params s.params ≡ true → are_params (served_at o s).state.params ≡ true
served-in-range o s h = subst (λ p. are_params p ≡ true) (sym (out-keeps-params s.params s (fired_at o s))) h

-- so each state of a run has them if the first has
abbrev pub with_ranges : RangedLaw → RunLaw
with_ranges law = record {
  shows = law.shows;
  between = λ s. (are_params s.params ≡ true) × law.between s;
  within = λ o rs s. (are_params s.params ≡ true) × law.within o rs s;
  begins = λ s h. (h.0, law.begins s h.0 h.1);
  tries = λ o line b least rs s h. let a = law.tries o line b least rs s h.0 h.1 in (a.0, (h.0, a.1));
  acts = λ o s t a ws records rs m h. let b = law.acts o s t a ws records rs h.0 m h.1 in (b.0, (act-in-range m h.0, b.1));
  fires = λ o s h. let a = law.fires o s h.0 h.1 in (a.0, (served-in-range o s h.0, a.1));
  stops = λ o s h. law.stops o s h.0 h.1;
}
