-- In one column all that is shown of the run of a valid galley comes in time.
use Rattle.std.proofs.Common.{◌≡◌, refl, sym, ◌∙◌, ap, subst, inl, inr, ℕ, ◌+◌, false, List, [], ◌∷◌, ◌++◌, map, length, drop, None, append_assoc}
use Rattle.std.specs.List.{AllByRecursion}
use Rattle.tb_scaled.specs.Scaled.{awful_bad}
use Rattle.tb_node.specs.declared.Float.{Float}
use Rattle.tb_galley.specs.declared.Galley.{Galley}
use Rattle.tb_galley.specs.Valid.{IsValid}
use Rattle.tb_sheet.specs.Sheet.{warned, shipped}
use Rattle.tb_output.specs.State.{State, Recorded}
use Rattle.tb_output.specs.Output.{out}
use Rattle.tb_items.specs.RunEvents.{RunEvent, offered, sent}
use Rattle.tb_steps.specs.Run.{End, Run, Step, ends, goes_on}
use Rattle.tb_told.specs.declared.Tale.{Tale}
use Rattle.tb_told.specs.declared.Tale.TheVariants.{Waits}
use Rattle.tb_story.specs.Summary.{SummaryView, no_stories, after_tale}
use Rattle.tb_why.specs.Firing.{spot_of, firing_pieces}
use Rattle.tb_why.specs.WhyRun.{Shown, tells, all_happen, wait_tales, shown_run}
use Rattle.tb_laws.specs.Laws.{float_lines}
use Rattle.tb_laws.proofs.ClassesRise.RisingLists.{IsAmong}
use Rattle.tb_laws.proofs.NothingLost.RunWeights.{page_of}
use Rattle.tb_why_laws.specs.OneColumn.{HasOneColumn}
use Rattle.tb_why.proofs.ShownTree.{shown_with, served_shown, StepShows, shows_going, shows_ending, shows_page, RunShows, shows_none, shows_last, shows_more, galley-shows}
use Rattle.tb_why_laws.proofs.OnePlace.OnceStates.{Running, now, fires, goes, starts}
use Rattle.tb_why_laws.proofs.OnePlace.CalledLater.{acts-lists}
use Rattle.tb_why_laws.proofs.InTime.HereWorks.{HereState}
use Rattle.tb_why_laws.proofs.InTime.HereStates.{fires-here, begins-here, step-here, starts-here}
use Rattle.tb_why_laws.proofs.InTime.OneColumnStates.{OneColumn, filled-single, filled-page, step-single, starts-single}
use Rattle.tb_why_laws.proofs.InOrder.DecisionLemmas.{after_tales}
use Rattle.tb_why_laws.proofs.InOrder.RunTales.{IsQuiet, progress-quiet}
use Rattle.tb_why_laws.proofs.InTime.DueStories.{DueIn, fewer-due, none-due, AreTalesTimely, TellsTimely, wait-timely}
use Rattle.tb_why_laws.proofs.InOrder.FitLemmas.{NoLine}
use Rattle.tb_why_laws.proofs.InTime.TimelyShows.{AreTimely}
use Rattle.tb_why_laws.proofs.InTime.TimelyPages.{IsInColumn}
use Rattle.tb_why_laws.proofs.InTime.TimelyFirings.{Comes, firing-comes}

-- ---- what happens while a page is filled

quiet-timely : (es : List RunEvent) → AllByRecursion IsQuiet es → (later : List Shown) (m : SummaryView) → AreTimely later m → AreTimely (all_happen es ++ later) m
quiet-timely [] a later m h = h
quiet-timely (offered t ∷ es) a later m h = (tt, quiet-timely es a.1 later m h)
quiet-timely (sent (warned w) ∷ es) a later m h = (tt, quiet-timely es a.1 later m h)
quiet-timely (sent (shipped page sheet) ∷ es) a later m h = absurd a.0

-- tales that are told in time come in time
told-timely : (ts : List Tale) (later : List Shown) (m : SummaryView) → AreTalesTimely ts m → AreTimely later (after_tales ts m) → AreTimely (map (λ t. tells t) ts ++ later) m
told-timely [] later m o h = h
told-timely (t ∷ ts) later m o h = (o.0, told-timely ts later (after_tale t m) o.1 h)

waits-map : (s : State) (fs : List Float) → map (λ t. tells t) (map (λ f. Waits (spot_of s) f) fs) ≡ map (λ f. tells (Waits (spot_of s) f)) fs
waits-map s [] = refl
waits-map s (f ∷ fs) = ap (λ l. tells (Waits (spot_of s) f) ∷ l) (waits-map s fs)

-- ---- a step

-- between two firings: the page that is made has the number of the next sheet, and the floats at its top and bottom were placed
-- since the last one
pub record InTime (s : State) (m : SummaryView) : Type 0 where
  pub page : s.number ≡ m.sheets + 1
  pub due : DueIn (IsInColumn s.floats) m

not-on : {es qs : List RunEvent} {rs us : List Recorded} {d : End} {t : State} → ends es rs d ≡ goes_on qs us t → ⊥
not-on e = cc

same-state : {es qs : List RunEvent} {rs us : List Recorded} {s t : State} → goes_on es rs s ≡ goes_on qs us t → s ≡ t
same-state e = cc

module _ (s : State) (o : Running s) (one : OneColumn s) (here : HereState s) (m : SummaryView) (a : InTime s m) where
  abbrev next : State
  next = (now s o).state

  abbrev news : List Float
  news = drop (length s.floats.second) next.floats.second

  -- the summary once the page is filled
  abbrev waited : SummaryView
  waited = after_tales (map (λ f. Waits (spot_of next) f) news) m

  -- what is shown of a step comes in time, and so does the rest from the next state on, if the run goes on
  record StepComes (x : Step) (xs : List Shown) : Type 0 where
    done : SummaryView
    order : (later : List Shown) → AreTimely later done → AreTimely (xs ++ later) m
    after : (es : List RunEvent) (rs : List Recorded) (t : State) → x ≡ goes_on es rs t → InTime t done

  page-is : next.number ≡ m.sheets + 1
  page-is = filled-page s o one ∙ a.page

  module _ (e : (now s o).fault ≡ None) where
    -- the floats at the top and bottom are as before
    same-lines : (n : ℕ) → IsInColumn next.floats n → IsInColumn s.floats n
    same-lines n (inl i) = inl (subst (λ fs. IsAmong n (float_lines fs)) (acts-lists s o e).top i)
    same-lines n (inr i) = inr (subst (λ fs. IsAmong n (float_lines fs)) (acts-lists s o e).bottom i)

    filled : DueIn (IsInColumn next.floats) m
    filled = fewer-due (IsInColumn s.floats) (IsInColumn next.floats) same-lines m.sheets m.stories a.due

    fired : Comes (firing_pieces next.params next (fires s o)) (out next.params next (fires s o)).sent waited (λ k. (out next.params next (fires s o)).refused ≡ false → ((out next.params next (fires s o)).state.number ≡ k.sheets + 1) × DueIn (IsInColumn (out next.params next (fires s o)).state.floats) k)
    fired =
        let x = wait-timely (IsInColumn next.floats) (spot_of next) news m page-is filled in
        firing-comes next.params next (fires s o) (fires-here s o here e).body (begins-here s o here e) (filled-single s o one e) waited (page-is ∙ ap (λ n. n + 1) (sym x.sheets)) x.due

  -- the floats that wait from now on are told in time
  waits : TellsTimely (map (λ f. Waits (spot_of next) f) news) m NoLine
  waits = wait-timely NoLine (spot_of next) news m page-is (none-due NoLine (λ n i. i) m.sheets m.stories)

  behind : (xs : List Shown) (k : SummaryView) → ((later : List Shown) → AreTimely later k → AreTimely (xs ++ later) waited) → (later : List Shown) → AreTimely later k → AreTimely (shown_with s xs ++ later) m
  behind xs k h later x =
      subst (λ us. AreTimely us m) (sym (append_assoc (all_happen (now s o).events) (wait_tales s next ++ xs) later ∙ ap (λ us. all_happen (now s o).events ++ us) (append_assoc (wait_tales s next) xs later)))
      (quiet-timely (now s o).events (progress-quiet (page_of s).reached awful_bad s) (wait_tales s next ++ (xs ++ later)) m
      (subst (λ us. AreTimely (us ++ (xs ++ later)) m) (waits-map next news) (told-timely (map (λ f. Waits (spot_of next) f) news) (xs ++ later) m waits.order (h later x))))

  -- what is shown of the step
  comes-so : {x : Step} {xs : List Shown} → StepShows s x xs → StepComes x xs
  comes-so (shows_going e f r rs) =
      let y = fired e in
      record { done = y.now; order = behind (served_shown s) y.now y.order; after = λ qs us t i. subst (λ u. InTime u y.now) (same-state i) (let z = y.after r in record { page = z.0; due = z.1 }) }
  comes-so (shows_ending e f rs d) = let y = fired e in record { done = y.now; order = behind (served_shown s) y.now y.order; after = λ qs us t i. absurd (not-on i) }
  comes-so (shows_page rs d) = record { done = waited; order = behind [] waited (λ later h. h); after = λ qs us t i. absurd (not-on i) }

-- ---- a run

runs-timely : {s : State} {r : Run} {xs : List Shown} → RunShows s r xs → Running s → OneColumn s → HereState s → (m : SummaryView) → InTime s m → AreTimely xs m
runs-timely (shows_none s e) o one here m a = tt
runs-timely (shows_last {s = s} x) o one here m a = (comes-so s o one here m a x).order [] tt
runs-timely (shows_more {s = s} {t = t} {ys = ys} {es = es} {rs = rs} x e y) o one here m a =
    let k = comes-so s o one here m a x in
    k.order ys (runs-timely y (goes s o es rs t e) (step-single s o one es rs t e) (step-here s o here es rs t e) k.done (k.after es rs t refl))

-- what is shown of the run of a valid galley of one column comes in time
pub shown-in-time : (g : Galley) → IsValid g → HasOneColumn g → AreTimely (shown_run g) no_stories
shown-in-time g v one = runs-timely (galley-shows g) (starts g v) (starts-single g one) (starts-here g) no_stories (record { page = refl; due = tt })
