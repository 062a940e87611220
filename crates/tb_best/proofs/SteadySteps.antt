-- A run in which no act sets the sides of marginal notes keeps them, and one in which no act takes a note has none.
use Rattle.std.proofs.Common.{◌≡◌, refl, sym, subst, ◌∙◌, ap, Bool, true, false, List, [], ◌∷◌, ◌++◌, take, true≢false, if◌then◌else◌}
use Rattle.std.specs.Prelude.{not, ◌&&◌, ◌||◌}
use Rattle.tb_scaled.specs.Scaled.{awful_bad}
use Rattle.tb_node.specs.declared.Act.{Act}
use Rattle.tb_node.specs.declared.Float.{Float}
use Rattle.tb_node.specs.PlainNodes.{act}
use Rattle.tb_param.specs.declared.Params.{Params}
use Rattle.tb_param.specs.declared.Value.{Value}
use Rattle.tb_param.specs.declared.Field.{Field}
use Rattle.tb_param.specs.declared.Field.TheVariants as fields
use Rattle.tb_param.specs.declared.Change.{Change}
use Rattle.tb_param.specs.Fields.{with_value}
use Rattle.tb_param.specs.Release.{has_second}
use Rattle.tb_param.specs.Changes.{is_in_range, with_whole, changed}
use Rattle.tb_float.specs.declared.Entry.{Entry}
use Rattle.tb_float.specs.declared.Entry.TheVariants as entries
use Rattle.tb_float.specs.Lists.{FloatLists}
use Rattle.tb_margin.specs.Margin.{is_on}
use Rattle.tb_break.specs.PageTop.{pruned_nodes}
use Rattle.tb_insert.specs.Account.{terms_after, labelled}
use Rattle.tb_builder.specs.FiredPages.{frozen_for, page_break}
use Rattle.tb_sheet.specs.declared.Warn.{Warn}
use Rattle.tb_output.specs.State.{State, Recorded}
use Rattle.tb_output.specs.Act.{taken_float}
use Rattle.tb_output.proofs.KeptParams.{out-keeps-params}
use Rattle.tb_items.specs.RunEvents.{RunEvent}
use Rattle.tb_steps.specs.Run.{progress, ask_for, Step, ends, goes_on}
use Rattle.tb_steps.proofs.RunTree.{ActMove, takes_float, takes_note, sets_parameter, page-is, page_of, fired_at, served_at, StepIs, fires_on}
use Rattle.tb_steps.proofs.RunFolds.{nothing_shown, PageLaw, page-holds, progress-holds}
use Rattle.tb_best.specs.PlanDemerits.{unlimited_step}
use Rattle.tb_best.specs.Sides.{Sides, is_switch, alternate, is_beyond, any_beyond, KeepSides, is_note_entry, note_among, KeepCurrent, KeepsSides}
use Rattle.tb_best.proofs.FuelLemmas.{unlimited-is}
use Rattle.tb_best.proofs.SteadyNodes.{ActsSteady, ReachSteady, laid-steady, reach-steady, fired-steady}
use Rattle.tb_best.proofs.SteadyWorks.{StateSteady, out-steady}

-- ---- an act

put-kept : (p : Params) (f : Field) (v : Value) → is_switch f ≡ false → (with_whole p (with_value f v p)).mparswitch ≡ p.mparswitch
put-kept p fields.Mparswitch v e = absurd (true≢false e)
put-kept p f v e = refl

switch-kept : (p : Params) (c : Change) → is_switch c.field ≡ false → (changed p c).mparswitch ≡ p.mparswitch
switch-kept p c e = by_test (is_in_range c)
  where
    by_test : (t : Bool) → (with_whole p (if t then with_value c.field c.value p else p)).mparswitch ≡ p.mparswitch
    by_test true = put-kept p c.field c.value e
    by_test false = refl

-- a parameter that is set leaves the sides as they may be
set-kept : (may : Bool) (p : Params) (c : Change) → (not may && is_switch c.field) ≡ false → (is_on p.mparswitch ≡ true → may ≡ true) → is_on (changed p c).mparswitch ≡ true → may ≡ true
set-kept true p c e h = λ _. refl
set-kept false p c e h = λ on. h (ap is_on (sym (switch-kept p c e)) ∙ on)

-- what is said of a note holds if it may be taken
note-may : (may : Bool) → not may ≡ false → may ≡ true
note-may true e = refl
note-may false e = sym e

-- with a float among the current ones there are no more notes
float-no-note : (es : List Entry) (f : Float) → note_among (es ++ entries.Float f ∷ []) ≡ note_among es
float-no-note [] f = refl
float-no-note (e ∷ es) f = ap (λ t. is_note_entry e || t) (float-no-note es f)

both-so : (a b : Bool) → a ≡ true → b ≡ true → (a && b) ≡ true
both-so true b h k = k
both-so false b h k = h

module _ (sides : Sides) where
  taken-kept : (t : Bool) (f : Float) (l : FloatLists) → KeepCurrent sides l.current → KeepCurrent sides (if t then record l { second = l.second ++ f ∷ [] } else record l { current = l.current ++ entries.Float f ∷ [] }).current
  taken-kept true f l h = h
  taken-kept false f l h = λ e. h (sym (float-no-note l.current f) ∙ e)

  -- notes change sides now only if they may, and there is one among the current floats only if there may be
  abbrev pub AreKept : State → Type 0
  AreKept s = (is_on s.params.mparswitch ≡ true → sides.change ≡ true) × KeepCurrent sides s.floats.current

  act-sides : {s t : State} {a : Act} {ws : List Warn} {rs : List Recorded} → ActMove s.params s a t ws rs → is_beyond sides (act a) ≡ false → AreKept s → (t.held_page ≡ s.held_page) × AreKept t
  act-sides {s = s} (takes_float f room) e h = (refl, (h.0, taken-kept (has_second s.params && (taken_float s.params s f).wide) (taken_float s.params s f) s.floats h.1))
  act-sides (takes_note m room) e h = (refl, (h.0, λ _. note-may sides.notes e))
  act-sides {s = s} (sets_parameter c) e h = (refl, (set-kept sides.change s.params c e h.0, h.1))
  act-sides m e h = (refl, h)

  abbrev sides_law : State → PageLaw
  sides_law o = record {
    shows = nothing_shown;
    holds = λ rs s. ActsSteady sides rs × ((s.held_page ≡ o.held_page) × AreKept s);
    tries = λ line b least rs s h. (tt, h);
    acts = λ s t a ws records rs m h. let x = act-sides m h.0.0 h.1.1 in (tt, (h.0.1, (x.0 ∙ h.1.0, x.1)));
  }

  -- ---- a page and its firing

  -- what is reached of a page of whose waiting nodes none does what may not be
  page-steady : (s : State) → KeepSides sides s.waiting → ReachSteady sides (page_of s)
  page-steady s h =
      let a = ask_for s in
      reach-steady sides a.max_depth (terms_after (frozen_for a s.classes s.boxes)) [] (pruned_nodes a.top_skip s.waiting) refl (laid-steady sides a.top_skip s.waiting h)

  -- the run goes on in a state that keeps the sides
  abbrev pub AfterKeeps : Step → Type 0
  AfterKeeps (ends es rs e) = Unit {0}
  AfterKeeps (goes_on es rs t) = KeepsSides sides t

  step-kept : {s : State} {x : Step} → StepIs s x → KeepsSides sides s → AfterKeeps x
  step-kept {s = s} (fires_on {t = t} x f r) h =
      let reach = page-steady s h.waiting in
      let page = (page-holds (sides_law s) x (reach.acts, (refl, (h.now, h.current)))).1 in
      let held : KeepSides sides t.held_page = ap (any_beyond sides) page.1.0 ∙ h.held in
      let fired = fired-steady sides (labelled (frozen_for (ask_for s) t.classes t.boxes) (take (page_break (page_of s)).place (page_of s).passed)) t.boxes (page_of s) reach in
      let after : StateSteady sides t.params (served_at s t).state = out-steady sides t.params t (fired_at s t) fired held page.1.1.1 in
      record {
        now = λ on. page.1.1.0 (ap (λ (q : Params). is_on q.mparswitch) (sym (out-keeps-params t.params t (fired_at s t))) ∙ on);
        current = after.current;
        waiting = after.waiting;
        held = after.held;
      }
  step-kept m h = tt

  -- a step keeps the sides
  pub sides-kept : (s : State) → KeepsSides sides s → AfterKeeps (unlimited_step s)
  sides-kept s h = step-kept (unlimited-is s) h

  -- so do the acts of a page, and after them a note of the current list changes sides only if it may
  pub page-sides : (s : State) → KeepsSides sides s → note_among (progress (page_of s).reached awful_bad s).state.floats.current ≡ true → is_on (progress (page_of s).reached awful_bad s).state.params.mparswitch ≡ true → alternate sides ≡ true
  page-sides s h note on =
      let reach = page-steady s h.waiting in
      let held = progress-holds (sides_law s) (page-is (page_of s).reached awful_bad s) (reach.acts, (refl, (h.now, h.current))) in
      both-so sides.change sides.notes (held.1.1.1.1.0 on) (held.1.1.1.1.1 note)

-- the state in which a run goes on
pub next-keeps : (x : Sides) (s t : State) (es : List RunEvent) (rs : List Recorded) → KeepsSides x s → unlimited_step s ≡ goes_on es rs t → KeepsSides x t
next-keeps x s t es rs h e = subst (AfterKeeps x) e (sides-kept x s h)
