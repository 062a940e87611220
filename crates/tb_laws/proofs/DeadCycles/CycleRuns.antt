-- A run in which what waits closes keeps a bound, and under it there were few firings without a page.
use Rattle.std.proofs.Common.{◌≡◌, refl, sym, ap, subst, ℕ, ◌+◌, ◌*◌, ◌≤◌, Bool, true, false, List, [], ◌∷◌, arith}
use Rattle.tb_node.specs.declared.Act.{Act}
use Rattle.tb_builder.specs.Reach.{Reached, acted}
use Rattle.tb_builder.proofs.Cutting.CutLemmas.{acted_of}
use Rattle.tb_float.specs.Lists.{no_floats}
use Rattle.tb_sheet.specs.declared.Warn.{Warn}
use Rattle.tb_output.specs.State.{State, Recorded}
use Rattle.tb_items.specs.RunEvents.{RunEvent}
use Rattle.tb_steps.specs.Run.{Run, End, done, pool_full, dead_cycles, page_limit, node_limit, Step, ends, goes_on}
use Rattle.tb_steps.proofs.RunTree.{ActMove, takes_float, takes_note, takes_title, changes_columns, sets_parameter, page_of, WholePage, StepIs, fires_on, meets_cycle_limit, RunIs, runs_out, starts_too_full, ends_so, goes_on_so}
use Rattle.tb_steps.proofs.RunFolds.{nothing_shown, PageLaw, page-holds}
use Rattle.tb_laws.proofs.Closed.ClosingPages.{SetCloses, ActsClose}
use Rattle.tb_laws.proofs.Closed.ClosingStates.{Closing}
use Rattle.tb_laws.proofs.NothingLost.RunWeights.{Kept, weighs}
use Rattle.tb_laws.proofs.NothingLost.ClosingRuns.{ones, empty, page_closes, changes-fit, page-after, steps-close}
use Rattle.tb_laws.proofs.DeadCycles.WaitCosts.{act_cost, acts_cost}
use Rattle.tb_laws.proofs.DeadCycles.ServeOutcomes.{way_floats}
use Rattle.tb_laws.proofs.DeadCycles.EndedLemmas.{Ended}
use Rattle.tb_laws.proofs.DeadCycles.SpacedLemmas.{Spaced}
use Rattle.tb_laws.proofs.DeadCycles.ActCosts.{EmptyAt, Acts, no-acts, acts-then, act-acts}
use Rattle.tb_laws.proofs.DeadCycles.RaiseCounts.{state_raises}
use Rattle.tb_laws.proofs.DeadCycles.RaiseBounds.{Spends, spends}
use Rattle.tb_laws.proofs.DeadCycles.CycleGoing.{Bound, few, firing-keeps}

-- ---- acts

-- an act met no float where it must not, and what is known of what came so far after it
record Empties (s : State) (a : Act) (ds : List Act) (t : State) : Type 0 where
  met : EmptyAt s a
  done : Bool
  empty : done ≡ true → t.floats ≡ no_floats
  close : ActsClose done ds

-- if what waits closes, the columns change and measures are set only with no float on the way
act-empties : {s t : State} {a : Act} {ws : List Warn} {rs : List Recorded} (ds : List Act) (o : Bool) → ActMove s.params s a t ws rs → (o ≡ true → s.floats ≡ no_floats) → ActsClose o (a ∷ ds) → Empties s a ds t
act-empties ds o (takes_float f r) e c = record { met = tt; done = false; empty = λ h. cc; close = c }
act-empties ds o (takes_note m r) e c = record { met = tt; done = false; empty = λ h. cc; close = c }
act-empties ds o (takes_title f r) e c = record { met = tt; done = false; empty = λ h. cc; close = c }
act-empties ds o (changes_columns two) e c = record { met = ap way_floats (e c.0); done = o; empty = e; close = c.1 }
act-empties ds o (sets_parameter p) e c = record { met = λ k. ap way_floats (e (subst (SetCloses o) k c.0)); done = o; empty = e; close = c.1 }
act-empties ds o m e c = record { met = tt; done = o; empty = e; close = c }

-- while a page is gone through: what its acts cost so far, and what is known of those that are left
record Doing (o : State) (rs : List Reached) (s : State) : Type 0 where
  spent : ℕ
  acts : Acts spent o s
  all : spent + acts_cost (acted_of rs) ≡ acts_cost (acted_of (page_of o).reached)
  done : Bool
  empty : done ≡ true → s.floats ≡ no_floats
  close : ActsClose done (acted_of rs)
  same : acted_of (page_of o).reached ≡ [] → (s ≡ o) × (acted_of rs ≡ [])

act-does : (o s t : State) (a : Act) {ws : List Warn} {records : List Recorded} (rs : List Reached) → ActMove s.params s a t ws records → Doing o (acted a ∷ rs) s → Doing o rs t
act-does o s t a rs m h =
    let x = act-empties (acted_of rs) h.done m h.empty h.close in
    let e : h.spent + (act_cost a + acts_cost (acted_of rs)) ≡ acts_cost (acted_of (page_of o).reached) = h.all in
    record {
      spent = h.spent + act_cost a;
      acts = acts-then h.spent (act_cost a) o s t h.acts (act-acts m x.met);
      all = omega (arith, e);
      done = x.done;
      empty = x.empty;
      close = x.close;
      same = λ i. let no : (a ∷ acted_of rs) ≡ [] = (h.same i).1 in cc;
    }

abbrev doing : State → PageLaw
doing o = record {
  shows = nothing_shown;
  holds = Doing o;
  tries = λ line b least rs s h. (tt, record { spent = h.spent; acts = h.acts; all = h.all; done = h.done; empty = h.empty; close = h.close; same = h.same });
  acts = λ s t a ws records rs m h. (tt, act-does o s t a rs m h);
}

-- ---- a step

-- between two firings: what the laws of whole runs keep, what waits closes, the bound, and how the clears that wait are laid out
pub record Cycled (top : ℕ) (s : State) : Type 0 where
  pub kept : Kept s
  pub closing : Closing s
  pub bounded : Spends Bound top s
  pub ended : Ended false s.waiting
  pub spaced : Spaced true s.waiting

-- there were few firings without a page
few-cycles : (top : ℕ) (s : State) → Cycled top s → s.dead_cycles ≤ top + 3
few-cycles top s c = sums s.dead_cycles c.bounded.most (state_raises s) (few c.bounded.most s c.bounded.bounded) c.bounded.room
  where
    sums : (d n r : ℕ) → d ≤ n + 3 → n + 4 * r ≤ top → d ≤ top + 3
    sums d n r h i = omega arith

-- a run that ends for its dead cycles had few
abbrev pub RunCycles : ℕ → End → Type 0
RunCycles top (done left) = Unit {0}
RunCycles top (pool_full line live) = Unit {0}
RunCycles top (dead_cycles n) = n ≤ top + 3
RunCycles top (page_limit n) = Unit {0}
RunCycles top (node_limit n) = Unit {0}

-- a step that goes on keeps all this, and one that ends for its dead cycles had few
abbrev StepCycles : ℕ → Step → Type 0
StepCycles top (goes_on es rs t) = Cycled top t
StepCycles top (ends es rs e) = RunCycles top e

module _ (top : ℕ) (s : State) (c : Cycled top s) where
  begins : Doing s (page_of s).reached s
  begins = record { spent = 0; acts = no-acts s; all = omega arith; done = c.closing.done; empty = empty s c.kept c.closing; close = (page_closes s c.kept c.closing).acts_close; same = λ i. (refl, i) }

  -- the state after the acts of the page
  module _ {t : State} {es : List RunEvent} {rs : List Recorded} (x : WholePage s es rs t) where
    done-acts : Doing s [] t
    done-acts = (page-holds (doing s) x begins).1

    acts-done : Acts (acts_cost (acted_of (page_of s).reached)) s t
    acts-done = let e : done-acts.spent + 0 ≡ acts_cost (acted_of (page_of s).reached) = done-acts.all in subst (λ n. Acts n s t) (omega (arith, e)) done-acts.acts

  step-cycles : {x : Step} → StepIs s x → StepCycles top x
  step-cycles (fires_on {t = t} x f r) =
      let a = acts-done x in
      let g = firing-keeps c.bounded.most s c.kept c.ended c.spaced t a (page-after s c.kept c.closing x ones).ranges (λ i. ((done-acts x).same i).0) c.bounded.bounded r in
      record {
        kept = (weighs ones s c.kept (changes-fit s c.kept c.closing ones) (fires_on x f r)).0;
        closing = (steps-close s c.kept c.closing (fires_on x f r)).1;
        bounded = spends Bound top s c.kept t a.classes a.boxes a.held c.bounded g.0;
        ended = g.1;
        spaced = g.2;
      }
  step-cycles (meets_cycle_limit x e i) = subst (λ (n : ℕ). n ≤ top + 3) (sym (acts-done x).cycles) (few-cycles top s c)
  step-cycles x = tt

-- ---- a run

pub run-cycles : (top : ℕ) {s : State} {r : Run} → RunIs s r → Cycled top s → RunCycles top r.end
run-cycles top (runs_out s) c = few-cycles top s c
run-cycles top (starts_too_full s) c = tt
run-cycles top (ends_so {s = s} x) c = step-cycles top s c x
run-cycles top (goes_on_so {s = s} x y) c = run-cycles top y (step-cycles top s c x)
