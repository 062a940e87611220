-- At no moment of a run does an area hold more floats without the mark `!` than its number.
use Rattle.std.proofs.Common.{◌≡◌, refl, sym, ap, subst, ℕ, pos, ◌+◌, Bool, true, false, List, [], ◌∷◌, ◌++◌}
use Rattle.std.specs.Prelude.{◌&&◌, if◌then◌else◌, ◌≤ℤ◌}
use Rattle.std.specs.List.{AllByRecursion}
use Rattle.tb_node.specs.declared.Act.{Act}
use Rattle.tb_node.specs.declared.Float.{Float}
use Rattle.tb_param.specs.declared.Params.{Params}
use Rattle.tb_param.specs.declared.Change.{Change}
use Rattle.tb_param.specs.declared.SetPlace.{SetPlace}
use Rattle.tb_param.specs.declared.SetPlace.TheVariants as set_places
use Rattle.tb_param.specs.Changes.{set_place, changed}
use Rattle.tb_param.specs.Ranges.{are_params}
use Rattle.tb_param.specs.Release.{has_second}
use Rattle.tb_param.proofs.ChangeLemmas.{KeepsMeasures, free-keeps}
use Rattle.tb_param.proofs.RangeLemmas.{changed-in-range}
use Rattle.tb_break.proofs.EachLemmas.{all-join}
use Rattle.tb_builder.specs.Reach.{Reached}
use Rattle.tb_builder.proofs.Cutting.CutLemmas.{acted_of}
use Rattle.tb_float.specs.declared.Entry.TheVariants as entries
use Rattle.tb_float.specs.Lists.{FloatLists, no_floats}
use Rattle.tb_sheet.specs.declared.Warn.{Warn}
use Rattle.tb_output.specs.State.{State, Recorded, placed, output, emptied}
use Rattle.tb_output.specs.Act.{taken_float, lists_with_taken, taken_head, lists_with_head, set_records}
use Rattle.tb_output.proofs.KeptParams.{out-keeps-params}
use Rattle.tb_items.specs.RunEvents.{RunEvent}
use Rattle.tb_laws.specs.Laws.{IsEmptied}
use Rattle.tb_laws.specs.AreaNumbers.{HoldsNumbers, KeepsNumbers, NumbersHold, unmarked}
use Rattle.tb_laws.proofs.Limits.NumberLemmas.{IsNumbered, out-numbered}
use Rattle.tb_laws.proofs.Closed.ClosingPages.{SetCloses, ActsClose}
use Rattle.tb_laws.proofs.Closed.ClosingStates.{Closing}
use Rattle.tb_laws.proofs.NothingLost.RunWeights.{Kept, page_of, weighs}
use Rattle.tb_laws.proofs.NothingLost.StartLemmas.{start-kept}
use Rattle.tb_laws.proofs.NothingLost.ClosingStarts.{start-closing}
use Rattle.tb_laws.proofs.NothingLost.ClosingActs.{Acting, acting}
use Rattle.tb_laws.proofs.NothingLost.ClosingRuns.{ones, changes-fit, acting-begins, steps-close}
use Rattle.tb_laws.proofs.NothingLost.ClassLemmas.{valid-differ, valid-fit}
use Rattle.tb_laws.proofs.NothingLost.ShippedRuns.{lists-emptied}
use Rattle.tb_steps.specs.Run.{Run, Step, ends, goes_on, run_of}
use Rattle.tb_steps.proofs.RunParams.{params-runnable}
use Rattle.tb_steps.proofs.RunTree.{ActMove, takes_float, takes_note, changes_columns, takes_title, sets_parameter, PageMoves, fired_at, served_at, WholePage, StepIs, fires_on, meets_page_limit, meets_node_limit, meets_cycle_limit, is_done, meets_full_pool, RunIs, galley-is, runs_out, starts_too_full, ends_so, goes_on_so}
use Rattle.tb_steps.proofs.RunFolds.{each_record, PageLaw, page-holds, act-in-range}

module _ (p : Params) where
  abbrev Holds : FloatLists → Type 0
  Holds l = HoldsNumbers p l

  -- ---- acts

  taken-holds : (f : Float) (l : FloatLists) → Holds l → Holds (lists_with_taken p f l)
  taken-holds f l h = by_test (has_second p && f.wide)
    where
      by_test : (t : Bool) → Holds (if t then record l { second = l.second ++ f ∷ [] } else record l { current = l.current ++ entries.Float f ∷ [] })
      by_test true = record { top = h.top; bottom = h.bottom; double = h.double; text = h.text }
      by_test false = record { top = h.top; bottom = h.bottom; double = h.double; text = h.text }

  -- a title has the mark `!`
  titled-more : (f : Float) (fs : List Float) → f.bang ≡ true → unmarked (fs ++ f ∷ []) ≡ unmarked fs
  titled-more f [] e = ap (λ b. (if b then 0 else 1) + 0) e
  titled-more f (g ∷ fs) e = ap (λ n. (if g.bang then 0 else 1) + n) (titled-more f fs e)

  titled-holds : (f : Float) (l : FloatLists) → f.bang ≡ true → Holds l → Holds (lists_with_head f l)
  titled-holds f l e h = record { top = h.top; bottom = h.bottom; double = subst (λ n. pos n ≤ℤ p.dbltopnumber) (sym (titled-more f l.double e)) h.double; text = h.text }

-- ---- a parameter that is set

-- measures that stay leave the numbers of the areas as they are
same-numbers : (p q : Params) → KeepsMeasures p q → (l : FloatLists) → HoldsNumbers p l → HoldsNumbers q l
same-numbers p q k l h = record {
  top = subst (λ n. pos (unmarked l.top) ≤ℤ n) (sym k.topnumber) h.top;
  bottom = subst (λ n. pos (unmarked l.bottom) ≤ℤ n) (sym k.bottomnumber) h.bottom;
  double = subst (λ n. pos (unmarked l.double) ≤ℤ n) (sym k.dbltopnumber) h.double;
  text = subst (λ n. pos (unmarked l.here + unmarked l.top + unmarked l.bottom) ≤ℤ n) (sym k.totalnumber) h.text;
}

-- empty areas hold no more than any numbers allow
empty-holds : (p : Params) → are_params p ≡ true → (l : FloatLists) → l ≡ no_floats → HoldsNumbers p l
empty-holds p r l e =
    let floats = (params-runnable p r).output.columns.floats in
    subst (HoldsNumbers p) (sym e) (record { top = floats.topnumber.low; bottom = floats.bottomnumber.low; double = floats.dbltopnumber.low; text = floats.totalnumber.low })

set-holds : (p : Params) (c : Change) (o : Bool) (l : FloatLists) → are_params p ≡ true → (o ≡ true → l ≡ no_floats) → (x : SetPlace) → set_place c.field ≡ x → SetCloses o x → HoldsNumbers p l → HoldsNumbers (changed p c) l
set-holds p c o l r e set_places.Anywhere i m h = same-numbers p (changed p c) (free-keeps p c i) l h
set-holds p c o l r e set_places.AfterClear i m h = empty-holds (changed p c) (changed-in-range p c r) l (e m)
set-holds p c o l r e set_places.Nowhere i m h = empty-holds (changed p c) (changed-in-range p c r) l (e m)

-- ---- an act

set-numbered : (x : SetPlace) (l : FloatLists) → AllByRecursion IsNumbered (set_records x l)
set-numbered set_places.AfterClear l = (tt, tt)
set-numbered x l = tt

act-numbered : {p : Params} {s t : State} {a : Act} {ws : List Warn} {rs : List Recorded} → ActMove p s a t ws rs → AllByRecursion IsNumbered rs
act-numbered (changes_columns two) = (tt, tt)
act-numbered (sets_parameter {s = s} c) = set-numbered (set_place c.field) s.floats
act-numbered m = tt

act-holds : (o : Bool) (ds : List Act) {s t : State} {a : Act} {ws : List Warn} {rs : List Recorded} → ActMove s.params s a t ws rs → are_params s.params ≡ true → (o ≡ true → s.floats ≡ no_floats) → ActsClose o (a ∷ ds) → HoldsNumbers s.params s.floats → HoldsNumbers t.params t.floats
act-holds o ds (takes_float {s = s} f r) g e c h = taken-holds s.params (taken_float s.params s f) s.floats h
act-holds o ds (takes_note m r) g e c h = record { top = h.top; bottom = h.bottom; double = h.double; text = h.text }
act-holds o ds (takes_title {s = s} f r) g e c h = titled-holds s.params (taken_head s.params f) s.floats refl h
act-holds o ds (sets_parameter {s = s} x) g e c h = set-holds s.params x o s.floats g e (set_place x.field) refl c.0 h
act-holds o ds m g e c h = h

-- ---- a page

-- while a page is gone through: what its acts owe, as for a list that closes, and the numbers of the areas
record Numbering (n : ℕ) (all : List Act) (o : State) (rs : List Reached) (s : State) : Type 0 where
  ranges : are_params s.params ≡ true
  acting : Acting n all o rs s
  holds : HoldsNumbers s.params s.floats

abbrev numbering : ℕ → List Act → State → PageLaw
numbering n all o = record {
  shows = each_record IsNumbered;
  holds = Numbering n all o;
  tries = λ line b least rs s h. (tt, record { ranges = h.ranges; acting = ((acting n all o).tries line b least rs s h.acting).1; holds = h.holds });
  acts = λ s t a ws records rs m h. (
    act-numbered m,
    record {
      ranges = act-in-range m h.ranges;
      acting = ((acting n all o).acts s t a ws records rs m h.acting).1;
      holds = act-holds h.acting.done (acted_of rs) m h.ranges h.acting.empty h.acting.close h.holds;
    },
  );
}

-- ---- a run

-- the areas hold no more than their numbers allow, by the parameters that hold
abbrev HoldsNow : State → Type 0
HoldsNow s = HoldsNumbers s.params s.floats

module _ (s : State) (kept : Kept s) (closing : Closing s) (holds : HoldsNow s) where
  page-numbered : {qs : List Reached} {t : State} {es : List RunEvent} {rs : List Recorded} → PageMoves (page_of s).reached s es rs qs t → AllByRecursion IsNumbered rs × HoldsNow t
  page-numbered x =
      let a = acted_of (page_of s).reached in
      let y = page-holds (numbering closing.owed a s) x (record { ranges = kept.ranges; acting = acting-begins s kept closing; holds = holds }) in
      (y.0, y.1.holds)

  fired-numbered : {t : State} {es : List RunEvent} {rs : List Recorded} → WholePage s es rs t → AllByRecursion IsNumbered (rs ++ (served_at s t).records) × HoldsNow (served_at s t).state
  fired-numbered {t = t} {rs = rs} x =
      let a = page-numbered x in
      let b = out-numbered t.params t (fired_at s t) a.1 in
      (all-join IsNumbered rs (served_at s t).records a.0 b.records, subst (λ p. HoldsNumbers p (served_at s t).state.floats) (sym (out-keeps-params t.params t (fired_at s t))) b.lists)

  -- what a step records, and what holds after it if the run goes on
  abbrev StepNumbered : Step → Type 0
  StepNumbered (ends es rs e) = AllByRecursion IsNumbered rs
  StepNumbered (goes_on es rs t) = AllByRecursion IsNumbered rs × HoldsNow t

  step-numbered : {x : Step} → StepIs s x → StepNumbered x
  step-numbered (fires_on x f r) = fired-numbered x
  step-numbered (meets_page_limit x f r) = (fired-numbered x).0
  step-numbered (meets_node_limit x f r n) = (fired-numbered x).0
  step-numbered (meets_cycle_limit x e c) = (page-numbered x).0
  step-numbered (is_done {rs = rs} {t = t} x u) = all-join IsNumbered rs (emptied t.floats ∷ []) (page-numbered x).0 (tt, tt)
  step-numbered (meets_full_pool x e) = (page-numbered x).0

run-numbered : {s : State} {r : Run} → RunIs s r → Kept s → Closing s → HoldsNow s → AllByRecursion IsNumbered r.records
run-numbered (runs_out s) k c h = tt
run-numbered (starts_too_full s) k c h = tt
run-numbered (ends_so {s = s} x) k c h = step-numbered s k c h x
run-numbered (goes_on_so {s = s} {es = es} {rs = rs} {r = r} x y) k c h =
    let a = step-numbered s k c h x in
    all-join IsNumbered rs r.records a.0 (run-numbered y (weighs ones s k (changes-fit s k c ones) x).0 (steps-close s k c x).1 a.1)

-- what is so of placements is so of all records if the others are of empty lists
all-numbered : (rs : List Recorded) → AllByRecursion IsNumbered rs → AllByRecursion IsEmptied rs → AllByRecursion KeepsNumbers rs
all-numbered [] h e = tt
all-numbered (placed p f place l height ∷ rs) h e = (h.0, all-numbered rs h.1 e.1)
all-numbered (output c ∷ rs) h e = (tt, all-numbered rs h.1 e.1)
all-numbered (emptied l ∷ rs) h e = ((λ p r. empty-holds p r l e.0), all-numbered rs h.1 e.1)

pub numbers_hold : NumbersHold
numbers_hold g valid =
    let f = valid-fit g valid in
    let start = empty-holds g.params valid.params no_floats refl in
    all-numbered (run_of g).records (run-numbered (galley-is g) (start-kept g valid.params (valid-differ g valid) f) (start-closing g valid.order f) start) (lists-emptied g valid)
