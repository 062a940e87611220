-- From a state whose counts are no greater a run has the same demerits, whatever left column is kept, and with any limit on nodes.
use Rattle.std.proofs.Common.{◌≡◌, refl, sym, ◌∙◌, ap, subst, ◌⊎◌, inl, inr, ℕ, zero, suc, ◌+◌, ◌≤◌, ℤ, Bool, true, false, List, [], ◌∷◌, ◌++◌, map, Option, Some, None, arith}
use Rattle.std.specs.Prelude.{pos, pred, int_le, int_lt, if◌then◌else◌, not}
use Rattle.std.proofs.lemmas.Int.{ints}
use Rattle.tb_scaled.specs.Scaled.{awful_bad, min_ℤ, eject_penalty}
use Rattle.tb_node.specs.PlainNodes.{hbox, rule, skip, kerned, pen, mark, note, whatsit, PlainKind, plain, ins, act, PlainNode}
use Rattle.tb_node.specs.declared.Act.{Act}
use Rattle.tb_node.specs.declared.Act.TheVariants as acts
use Rattle.tb_param.specs.declared.Params.{Params}
use Rattle.tb_param.specs.Changes.{set_place}
use Rattle.tb_galley.specs.declared.Galley.{Galley}
use Rattle.tb_builder.specs.declared.Ask.{Ask}
use Rattle.tb_builder.specs.declared.Try.{Try}
use Rattle.tb_builder.specs.Reach.{Reached, acted, tried, Reach, try_of}
use Rattle.tb_builder.specs.FiredPages.{reach_of, fired_of}
use Rattle.tb_float.specs.declared.Entry.TheVariants as entries
use Rattle.tb_float.specs.Lists.{live_count}
use Rattle.tb_column.specs.Column.{PlainColumn}
use Rattle.tb_sheet.specs.Sheet.{PlainSent, warned}
use Rattle.tb_output.specs.State.{State, Work, Recorded, ask_of, emptied}
use Rattle.tb_output.specs.Act.{Acted, went, full, act_on, taken_float, with_taken, with_current, large_warning, has_head_room, taken_head, with_head, with_params, set_records}
use Rattle.tb_output.specs.Output.{out}
use Rattle.tb_items.specs.RunEvents.{RunEvent, offered, sent}
use Rattle.tb_steps.specs.Run.{dead_cycles, page_limit, done, Progress, progress, progress_by, after_events, Step, ends, goes_on, led_by, led_past, led_through, ask_for}
use Rattle.tb_rate.specs.declared.PlacePenalty.{PlacePenalty}
use Rattle.tb_rate.specs.Places.{place_penalties}
use Rattle.tb_rate.specs.Rating.{rated, rating}
use Rattle.tb_rate.specs.Tries.{later_champion, champion_or, last_champion, first_number}
use Rattle.tb_rate.specs.RatedRun.{floats_waiting, insertions_first, demerits_if, demerits_at, demerits_after, more_demerits}
use Rattle.tb_best.specs.PlanDemerits.{reach_in, unlimited_firing, unlimited_fire, unlimited_progress, unlimited_step_of, unlimited_step, step_demerits, unlimited_demerits_from}
use Rattle.tb_best.specs.ItemsAhead.{state_with}
use Rattle.tb_best.specs.ClosedTables.{IsAsGood, AreAlike}
use Rattle.tb_best.specs.Counts.{Counts, counts_of, AreNoGreater}
use Rattle.tb_best.proofs.Paths.{more-some}
use Rattle.tb_best.specs.Sides.{Sides, sides_of, alternate, may_alternate, is_beyond, any_beyond, KeepSides, KeepsSides}
use Rattle.tb_best.proofs.SideItems.{sides-with}
use Rattle.tb_best.proofs.SteadyNodes.{both-false}
use Rattle.tb_best.proofs.SteadySteps.{AfterKeeps, sides-kept, page-sides}
use Rattle.tb_best.proofs.LimitLemmas.{lim, changed-lim}
use Rattle.tb_best.proofs.CountedFirings.{Other, counted, swapped, not-both, Fits, MayChange, out-keep}

-- ---- the acts

module _ (m : ℤ) (may : Bool) where
  -- counts that are no greater than those of a state
  abbrev AreBelow : Counts → State → Type 0
  AreBelow c s = AreNoGreater may c (counts_of s)

  abbrev acted_as : Option PlainColumn → Counts → Acted → Acted
  acted_as l c (went s ws rs) = went (counted m l c s) ws rs
  acted_as l c (full line live) = full line live

  abbrev progress_as : Option PlainColumn → Counts → Progress → Progress
  progress_as l c q = record q { state = counted m l c q.state }

  either-as : (l : Option PlainColumn) (c : Counts) (t : Bool) (u v : Acted) → (if t then acted_as l c u else acted_as l c v) ≡ acted_as l c (if t then u else v)
  either-as l c true u v = refl
  either-as l c false u v = refl

  -- the counts are no greater than those of the state after an act; at a full pool there is none
  abbrev AreBelowActed : Counts → Acted → Type 0
  AreBelowActed c (went s ws rs) = AreBelow c s
  AreBelowActed c (full line live) = Unit {0}

  below-either : (c : Counts) (t : Bool) (u v : Acted) → AreBelowActed c u → AreBelowActed c v → AreBelowActed c (if t then u else v)
  below-either c true u v h k = h
  below-either c false u v h k = k

  -- after an act the left column and the counts are these
  abbrev ActsOn : Option PlainColumn → Counts → State → Act → Type 0
  ActsOn l c s a = (n : Option PlainColumn) × (d : Counts) × AreBelowActed d (act_on s.params s a) × (act_on (lim s.params m) (counted m l c s) a ≡ acted_as n d (act_on s.params s a))

  act-as : (s : State) (l : Option PlainColumn) (c : Counts) → AreBelow c s → (a : Act) → ActsOn l c s a
  act-as s l c h (acts.Take f) =
      let room = int_le s.params.pool (pos (live_count s.floats)) in
      let none = full f.line (live_count s.floats) in
      let some = went (with_taken s.params s (taken_float s.params s f)) (large_warning s.params f) [] in
      (l, c, below-either c room none some tt h, either-as l c room none some)
  act-as s l c h (acts.TakeMargin n) =
      let room = int_lt s.params.pool (pos (live_count s.floats + 2)) in
      let none = full n.line (live_count s.floats) in
      let some = went (with_current s (entries.Left n ∷ entries.Right n ∷ [])) [] [] in
      (l, c, below-either c room none some tt h, either-as l c room none some)
  act-as s l c h (acts.Suppress area) = (l, c, h, refl)
  act-as s l c h (acts.Page n) = (l, record c { number = n }, record { pages = h.pages; dead_cycles = h.dead_cycles; sides = λ on. refl }, refl)
  act-as s l c h (acts.Head f) =
      let room = not (has_head_room s.params s) in
      let none = full f.line (live_count s.floats) in
      let some = went (with_head s.params s (taken_head s.params f)) [] [] in
      (l, c, below-either c room none some tt h, either-as l c room none some)
  act-as s l c h (acts.Columns two) = (None, c, h, refl)
  act-as s l c h (acts.Set a) = (l, c, h, ap (λ p. went (with_params p (counted m l c s)) [] (set_records (set_place a.field) s.floats)) (changed-lim s.params m a))

  -- what comes of a state with another left column and counts that are no greater is so too
  abbrev Leads : (State → Progress) → Type 0
  Leads later = (t : State) (k : Option PlainColumn) (d : Counts) → AreBelow d t → (n : Option PlainColumn) × (e : Counts) × AreBelow e (later t).state × (later (counted m k d t) ≡ progress_as n e (later t))

  by-act : (later : State → Progress) (s : State) (l k : Option PlainColumn) (c d : Counts) (a : Acted) → AreBelow c s → AreBelowActed d a → Leads later
      → (n : Option PlainColumn) × (e : Counts) × AreBelow e (progress_by later s a).state × (progress_by later (counted m l c s) (acted_as k d a) ≡ progress_as n e (progress_by later s a))
  by-act later s l k c d (went t ws rs) h below leads = let x = leads t k d below in (x.0, x.1, x.2, ap (after_events (map (λ w. sent (warned w)) ws) rs) x.3)
  by-act later s l k c d (full line live) h below leads = (l, c, h, refl)

  progress-as : (rs : List Reached) (least : ℤ) → Leads (λ s. progress rs least s)
  progress-as [] least s l c h = (l, c, h, refl)
  progress-as (acted a ∷ rs) least s l c h =
      let x = act-as s l c h a in
      let y = by-act (λ t. progress rs least t) s l x.0 c x.1 (act_on s.params s a) h x.2 (progress-as rs least) in
      (y.0, y.1, y.2, ap (progress_by (λ t. progress rs least t) (counted m l c s)) x.3 ∙ y.3)
  progress-as (tried line b ∷ rs) least s l c h =
      let x = progress-as rs (min_ℤ least b.cost) s l c h in (x.0, x.1, x.2, ap (after_events (offered (try_of line b least) ∷ []) []) x.3)

  -- the acts before the first box of a page
  abbrev LeadsOn : (State → State) → Type 0
  LeadsOn f = (t : State) (k : Option PlainColumn) (d : Counts) → AreBelow d t → (n : Option PlainColumn) × (e : Counts) × (f (counted m k d t) ≡ counted m n e (f t))

  led-act : (f : State → State) (s : State) (l k : Option PlainColumn) (c d : Counts) (a : Acted) → AreBelowActed d a → LeadsOn f → (n : Option PlainColumn) × (e : Counts) × (led_by f (counted m l c s) (acted_as k d a) ≡ counted m n e (led_by f s a))
  led-act f s l k c d (went t ws rs) below leads = leads t k d below
  led-act f s l k c d (full line live) below leads = (l, c, refl)

  led-kind : (ns : List PlainNode) → LeadsOn (led_through ns) → (k : PlainKind) → LeadsOn (λ s. led_past (led_through ns) s k)
  led-kind ns ih (plain (hbox w high deep)) s l c h = (l, c, refl)
  led-kind ns ih (plain (rule w high deep)) s l c h = (l, c, refl)
  led-kind ns ih (plain (skip g)) s l c h = ih s l c h
  led-kind ns ih (plain (kerned g)) s l c h = ih s l c h
  led-kind ns ih (plain (pen q)) s l c h = ih s l c h
  led-kind ns ih (plain (mark w)) s l c h = ih s l c h
  led-kind ns ih (plain (note w)) s l c h = ih s l c h
  led-kind ns ih (plain whatsit) s l c h = ih s l c h
  led-kind ns ih (ins i) s l c h = (l, c, refl)
  led-kind ns ih (act a) s l c h =
      let x = act-as s l c h a in
      let y = led-act (led_through ns) s l x.0 c x.1 (act_on s.params s a) x.2 ih in
      (y.0, y.1, ap (led_by (led_through ns) (counted m l c s)) x.3 ∙ y.2)

  led-as : (ns : List PlainNode) → LeadsOn (led_through ns)
  led-as [] s l c h = (l, c, refl)
  led-as (n ∷ ns) s l c h = led-kind ns (led-as ns) n.kind s l c h

-- ---- a step

-- what is sent is no champion
champion-sent : (best : Option Try) (xs : List PlainSent) → champion_or best (map sent xs) ≡ best
champion-sent best [] = refl
champion-sent best (x ∷ xs) = champion-sent best xs

pub champion-before : (best : Option Try) (es : List RunEvent) (xs : List PlainSent) → champion_or best (es ++ map sent xs) ≡ champion_or best es
champion-before best [] xs = champion-sent best xs
champion-before best (offered t ∷ es) xs = champion-before (later_champion best t) es xs
champion-before best (sent e ∷ es) xs = champion-before best es xs

-- the step ends a run, and not well
abbrev IsLost : Step → Type 0
IsLost (ends es rs e) = demerits_at e ≡ None
IsLost (goes_on es rs t) = ⊥

module _ (m : ℤ) (sides : Sides) where
  -- notes may change sides
  abbrev may : Bool
  may = alternate sides

  -- both steps end the same, or go on in states of which the first has another left column and counts that are no greater, and broke at the same place
  abbrev AreSame : Step → Step → Type 0
  AreSame (ends es rs e) (ends fs qs f) = e ≡ f
  AreSame (ends es rs e) (goes_on fs qs u) = ⊥
  AreSame (goes_on es rs t) (ends fs qs f) = ⊥
  AreSame (goes_on es rs t) (goes_on fs qs u) = (l : Option PlainColumn) × (c : Counts) × AreNoGreater may c (counts_of u) × (t ≡ counted m l c u) × (last_champion es ≡ last_champion fs)

  -- so they are, unless the second does not end well
  abbrev IsNoWorse : Step → Step → Type 0
  IsNoWorse x y = IsLost y ⊎ AreSame x y

  either-like : (t : Bool) (x y u v : Step) → IsNoWorse x y → IsNoWorse u v → IsNoWorse (if t then x else u) (if t then y else v)
  either-like true x y u v h k = h
  either-like false x y u v h k = k

  -- a firing after these events and records
  firing-as : (p : Params) (es : List RunEvent) (rs : List Recorded) (w : Work) (k : Other) → Fits p m may k w → IsNoWorse (unlimited_firing es rs (swapped m k w)) (unlimited_firing es rs w)
  firing-as p es rs w k h = by k.refused w.refused refl refl h
    where
      by : (s t : Bool) → k.refused ≡ s → w.refused ≡ t → Fits p m may k w
          → IsNoWorse (if s then ends (es ++ map sent k.sent) (rs ++ k.records) (page_limit (pred k.counts.page)) else goes_on (es ++ map sent k.sent) (rs ++ k.records) (counted m k.left k.counts w.state))
          (if t then ends (es ++ map sent w.sent) (rs ++ w.records) (page_limit (pred w.state.page)) else goes_on (es ++ map sent w.sent) (rs ++ w.records) w.state)
      by s true e f fits = inl refl
      by s false e f (inl refused) = not-both w.refused refused f
      by true false e f (inr (still, less)) = not-both k.refused e still
      by false false e f (inr (still, less)) = inr (k.left, k.counts, less, refl, champion-before None es k.sent ∙ sym (champion-before None es w.sent))

  -- below the limit of the dead cycles
  within-cycles : {X : Type 0} (p : Params) (c e : ℕ) → c ≤ e → int_lt (pos c) p.maxdeadcycles ≡ false → int_lt (pos e) p.maxdeadcycles ≡ true → X
  within-cycles p c e h i j = let no : ⊥ = grind (arith, ints, h, i, j) in absurd no

  cycles-as : (p : Params) (es : List RunEvent) (rs : List Recorded) (c e : ℕ) → c ≤ e → (x y : Step) → IsNoWorse x y
      → IsNoWorse (if int_lt (pos c) p.maxdeadcycles then x else ends es rs (dead_cycles c)) (if int_lt (pos e) p.maxdeadcycles then y else ends es rs (dead_cycles e))
  cycles-as p es rs c e h x y like = by (int_lt (pos c) p.maxdeadcycles) (int_lt (pos e) p.maxdeadcycles) refl refl
    where
      by : (s t : Bool) → int_lt (pos c) p.maxdeadcycles ≡ s → int_lt (pos e) p.maxdeadcycles ≡ t → IsNoWorse (if s then x else ends es rs (dead_cycles c)) (if t then y else ends es rs (dead_cycles e))
      by s false i j = inl refl
      by false true i j = within-cycles p c e h i j
      by true true i j = like

  fire-as : (a : Ask) (w : Reach) (q : Progress) → MayChange q.state.params m may q.state.floats.current → (l : Option PlainColumn) (c : Counts) → AreNoGreater may c (counts_of q.state) → IsNoWorse (unlimited_fire a w (progress_as m may l c q)) (unlimited_fire a w q)
  fire-as a w q keep l c h =
      let page = fired_of a q.state.classes q.state.boxes w in
      let p = q.state.params in
      let like = out-keep p m may q.state page l c keep h in
      cycles-as p q.events q.records c.dead_cycles q.state.dead_cycles h.dead_cycles (unlimited_firing q.events q.records (out (lim p m) (counted m l c q.state) page)) (unlimited_firing q.events q.records (out p q.state page))
      (subst (λ x. IsNoWorse (unlimited_firing q.events q.records x) (unlimited_firing q.events q.records (out p q.state page))) (sym like.2)
      (firing-as p q.events q.records (out p q.state page) like.0 like.1))

  fault-as : (a : Ask) (w : Reach) (q : Progress) → MayChange q.state.params m may q.state.floats.current → (l : Option PlainColumn) (c : Counts) → AreNoGreater may c (counts_of q.state) → (o : Option (ℕ × ℕ)) → IsNoWorse (unlimited_progress a w (progress_as m may l c q) o) (unlimited_progress a w q o)
  fault-as a w q keep l c h None =
      let end = ends q.events (q.records ++ emptied q.state.floats ∷ []) (done w.passed) in
      either-like w.fires (unlimited_fire a w (progress_as m may l c q)) (unlimited_fire a w q) end end (fire-as a w q keep l c h) (inr refl)
  fault-as a w q keep l c h (Some f) = inl refl

  step-as : (s : State) → KeepsSides sides s → (l : Option PlainColumn) (c : Counts) → AreNoGreater may c (counts_of s) → IsNoWorse (unlimited_step (counted m l c s)) (unlimited_step s)
  unfolding unlimited_step
  step-as s keep l c h =
      let w = reach_in s in
      let q = progress w.reached awful_bad s in
      let x = progress-as m may w.reached awful_bad s l c h in
      subst (λ a. IsNoWorse (unlimited_step_of (counted m l c s) a (reach_of a s.classes s.boxes [] s.waiting)) (unlimited_step_of s (ask_for s) w)) (sym (ap (λ t. ask_of t.params t) (led-as m may s.waiting s l c h).2))
      (subst (λ r. IsNoWorse (unlimited_progress (ask_for s) w r r.fault) (unlimited_progress (ask_for s) w q q.fault)) (sym x.3) (fault-as (ask_for s) w q (page-sides sides s keep) x.0 x.1 x.2 q.fault))

-- ---- the run

-- the number of the page is not among the demerits, nor is the limit on nodes
module _ (p : Params) (m : ℤ) (places : List PlacePenalty) (a b waiting held : ℕ) where
  rated-any : (t : Try) (low : Bool) → demerits_if (if low then None else Some (rated (lim p m) places a t waiting held)) ≡ demerits_if (if low then None else Some (rated p places b t waiting held))
  rated-any t true = refl
  rated-any t false = refl

  number-any : (place : Option Try) → demerits_if (rating (lim p m) places a place waiting held) ≡ demerits_if (rating p places b place waiting held)
  number-any None = refl
  number-any (Some t) = rated-any t (int_lt t.penalty eject_penalty)

module _ (m : ℤ) (sides : Sides) (places : List PlacePenalty) where
  abbrev from : ℕ → State → Option ℤ
  from = unlimited_demerits_from places

  same-demerits : (s t : State) (x y : Step) → AreSame m sides x y → step_demerits places t x ≡ step_demerits places s y
  same-demerits s t (ends es rs e) (ends fs qs f) h = refl
  same-demerits s t (ends es rs e) (goes_on fs qs u) h = absurd h
  same-demerits s t (goes_on es rs v) (ends fs qs f) h = absurd h
  same-demerits s t (goes_on es rs v) (goes_on fs qs u) (l, c, less, same, broke) =
      (λ i. demerits_if (rating (same i).params places (first_number v.number es) (broke i) (floats_waiting (same i).floats) (insertions_first (same i).waiting)))
      ∙ number-any u.params m places (first_number v.number es) (first_number u.number fs) (floats_waiting u.floats) (insertions_first u.waiting) (last_champion fs)

  -- with this fuel a run from a state with counts that are no greater has the same demerits, if it ends well
  abbrev Runs : ℕ → Type 0
  Runs k = (s : State) → KeepsSides sides s → (l : Option PlainColumn) (c : Counts) → AreNoGreater (alternate sides) c (counts_of s) → (d : ℤ) → from k s ≡ Some d → from k (counted m l c s) ≡ Some d

  none-some : {X : Type 0} (d : ℤ) → None ≡ Some d → X
  none-some d h = let no : ⊥ = (cc) in absurd no

  after-as : (k : ℕ) → Runs k → (x y : Step) (a b d : ℤ) → AfterKeeps sides y → IsNoWorse m sides x y → (AreSame m sides x y → a ≡ b) → demerits_after (λ t. from k t) b y ≡ Some d → demerits_after (λ t. from k t) a x ≡ Some d
  after-as k runs x (ends fs qs f) a b d keep (inl lost) same h = none-some d (sym lost ∙ h)
  after-as k runs x (goes_on fs qs u) a b d keep (inl lost) same h = absurd lost
  after-as k runs (ends es rs e) (ends fs qs f) a b d keep (inr is) same h = ap demerits_at is ∙ h
  after-as k runs (ends es rs e) (goes_on fs qs u) a b d keep (inr is) same h = absurd is
  after-as k runs (goes_on es rs t) (ends fs qs f) a b d keep (inr is) same h = absurd is
  after-as k runs (goes_on es rs t) (goes_on fs qs u) a b d keep (inr (l, c, less, is, broke)) same h =
      let rest = more-some b (from k u) d h in
      (λ i. more_demerits (same (l, c, less, is, broke) i) ((ap (λ v. from k v) is ∙ runs u keep l c less rest.0 rest.1) i)) ∙ ap Some rest.2

  pub run-as : (k : ℕ) → Runs k
  unfolding unlimited_demerits_from
  run-as zero s keep l c less d h = h
  run-as (suc k) s keep l c less d h =
      let x = unlimited_step (counted m l c s) in
      let y = unlimited_step s in
      after-as k (run-as k) x y (step_demerits places (counted m l c s) x) (step_demerits places s y) d (sides-kept sides s keep) (step-as m sides s keep l c less) (same-demerits s (counted m l c s) x y) h

as-great : (may : Bool) (c : Counts) → AreNoGreater may c c
as-great may c = record { pages = omega arith; dead_cycles = omega arith; sides = λ on. refl }

-- sides that may change, and notes that may be
abbrev any : Sides
any = record { change = true; notes = true }

any-kind : (k : PlainKind) → is_beyond any k ≡ false
any-kind (act (acts.Set c)) = refl
any-kind (act (acts.TakeMargin m)) = refl
any-kind k = refl

any-nodes : (ns : List PlainNode) → KeepSides any ns
any-nodes [] = refl
any-nodes (n ∷ ns) = both-false (is_beyond any n.kind) (any_beyond any ns) (any-kind n.kind) (any-nodes ns)

-- so it is in any run
any-sides : (s : State) → KeepsSides any s
any-sides s = record { now = λ _. refl; current = λ _. refl; waiting = any-nodes s.waiting; held = any-nodes s.held_page }

same-if : (a b : Option ℤ) → ((d : ℤ) → a ≡ Some d → b ≡ Some d) → ((d : ℤ) → b ≡ Some d → a ≡ Some d) → a ≡ b
same-if (Some d) b f h = sym (f d refl)
same-if None (Some e) f h = h e refl
same-if None None f h = refl

-- a run has the same demerits with another limit on nodes and another left column
pub limit-alike : (places : List PlacePenalty) (k : ℕ) (s : State) (m : ℤ) (l : Option PlainColumn) → unlimited_demerits_from places k (counted m l (counts_of s) s) ≡ unlimited_demerits_from places k s
limit-alike places k s m l =
    let from = unlimited_demerits_from places k in
    same-if (from (counted m l (counts_of s) s)) (from s)
    (run-as s.params.maxnodes any places k (counted m l (counts_of s) s) (any-sides (counted m l (counts_of s) s)) s.left_column (counts_of s) (as-great true (counts_of s)))
    (run-as m any places k s (any-sides s) l (counts_of s) (as-great true (counts_of s)))

-- a state with counts that are no greater is as good
pub counts-good : (g : Galley) (s : State) (l : Option PlainColumn) (c : Counts) → KeepsSides (sides_of g) s → AreNoGreater (may_alternate g) c (counts_of s) → IsAsGood g s (counted s.params.maxnodes l c s)
counts-good g s l c keep h fuel more d behind e =
    (d, run-as s.params.maxnodes (sides_of g) (place_penalties g.items) fuel (state_with more s) (sides-with (sides_of g) s more keep behind) l c h d e, omega (arith, ints))

-- a state with another left column is like it
pub left-alike : (g : Galley) (s : State) (l : Option PlainColumn) → AreAlike g s (record s { left_column = l })
left-alike g s l fuel more = sym (limit-alike (place_penalties g.items) fuel (state_with more s) s.params.maxnodes l)
