-- What is shown of the run of a valid galley is in order: step by step.
use Rattle.std.proofs.Common.{◌≡◌, refl, sym, ◌∙◌, ap, subst, inl, inr, ◌⊎◌, ℕ, ℤ, Bool, true, false, List, [], ◌∷◌, ◌++◌, map, length, drop, Some, None, if◌then◌else◌, append_assoc}
use Rattle.std.specs.Prelude.{⊤, ◌&&◌}
use Rattle.std.specs.List.{AllByRecursion}
use Rattle.tb_break.proofs.EachLemmas.{all-map}
use Rattle.tb_scaled.specs.Scaled.{awful_bad}
use Rattle.tb_node.specs.declared.Float.{Float}
use Rattle.tb_galley.specs.declared.Galley.{Galley}
use Rattle.tb_galley.specs.Valid.{IsValid}
use Rattle.tb_builder.specs.Reach.{Reached}
use Rattle.tb_builder.proofs.Cutting.CutLemmas.{acted_of}
use Rattle.tb_sheet.specs.declared.Warn.{Warn}
use Rattle.tb_sheet.specs.Sheet.{warned, shipped}
use Rattle.tb_output.specs.State.{State, Recorded}
use Rattle.tb_output.specs.Output.{out}
use Rattle.tb_items.specs.RunEvents.{RunEvent, offered, sent}
use Rattle.tb_steps.specs.Run.{End, Run, progress, Step, ends, goes_on}
use Rattle.tb_steps.proofs.RunTree.{page-is}
use Rattle.tb_steps.proofs.RunFolds.{each_event, PageLaw, progress-holds}
use Rattle.tb_told.specs.declared.Tale.TheVariants as tale
use Rattle.tb_story.specs.Summary.{SummaryView, no_stories, by_width, after_tale}
use Rattle.tb_why.specs.Firing.{spot_of, firing_pieces}
use Rattle.tb_why.specs.WhyRun.{Shown, tells, all_happen, wait_tales, shown_run}
use Rattle.tb_why.specs.SummaryLaws.{IsOrderly}
use Rattle.tb_laws.specs.Laws.{float_lines}
use Rattle.tb_laws.proofs.ClassesRise.PageLines.{deeds}
use Rattle.tb_laws.proofs.ClassesRise.RisingLists.{IsAmong, among-front, among-back}
use Rattle.tb_laws.proofs.NothingLost.RunWeights.{page_of}
use Rattle.tb_why_laws.proofs.OnePlace.WaitingLines.{uncalled}
use Rattle.tb_why_laws.proofs.OnePlace.OnceLists.{among-parts}
use Rattle.tb_why.proofs.ShownTree.{shown_with, served_shown, StepShows, shows_going, shows_ending, shows_page, RunShows, shows_none, shows_last, shows_more, galley-shows}
use Rattle.tb_why_laws.proofs.OnePlace.OnceStates.{Running, now, fires, fires-once, goes, starts}
use Rattle.tb_why_laws.proofs.OnePlace.CallWeights.{called_later}
use Rattle.tb_why_laws.proofs.OnePlace.ActedLists.{ActedLists}
use Rattle.tb_why_laws.proofs.OnePlace.CalledLater.{acts-lists, still-uncalled, news-uncalled, news-apart, first-apart, first-once, titles-uncalled}
use Rattle.tb_why_laws.proofs.OnePlace.AfterCalls.{after-uncalled, after-first}
use Rattle.tb_why_laws.proofs.InOrder.FitLemmas.{Fits, AllFit, begins}
use Rattle.tb_why_laws.proofs.InOrder.PlacingLemmas.{either-list, in-first, in-second}
use Rattle.tb_why_laws.proofs.InOrder.StandLemmas.{Waits, IsInArea, FitState}
use Rattle.tb_why_laws.proofs.InOrder.FiringTales.{Ends, firing-ends}

-- ---- what happens while a page is filled

-- no page is shipped
abbrev pub IsQuiet : RunEvent → Type 0
IsQuiet (offered t) = ⊤
IsQuiet (sent (warned w)) = ⊤
IsQuiet (sent (shipped page sheet)) = ⊥

warnings-quiet : (ws : List Warn) → AllByRecursion IsQuiet (map (λ w. sent (warned w)) ws)
warnings-quiet [] = tt
warnings-quiet (w ∷ ws) = (tt, warnings-quiet ws)

abbrev quiet : PageLaw
quiet = record {
  shows = each_event IsQuiet;
  holds = λ rs s. ⊤;
  tries = λ line b least rs s h. ((tt, tt), tt);
  acts = λ s t a ws records rs m h. (warnings-quiet ws, tt);
}

pub progress-quiet : (rs : List Reached) (least : ℤ) (s : State) → AllByRecursion IsQuiet (progress rs least s).events
progress-quiet rs least s = (progress-holds quiet (page-is rs least s) tt).0

-- it changes nothing
quiet-order : (es : List RunEvent) → AllByRecursion IsQuiet es → (later : List Shown) (m : SummaryView) → IsOrderly later m → IsOrderly (all_happen es ++ later) m
quiet-order [] a later m h = h
quiet-order (offered t ∷ es) a later m h = (tt, quiet-order es a.1 later m h)
quiet-order (sent (warned w) ∷ es) a later m h = (tt, quiet-order es a.1 later m h)
quiet-order (sent (shipped page sheet) ∷ es) a later m h = absurd a.0

-- ---- wide floats of release 2014 that wait

abbrev pub after-waits : State → List Float → SummaryView → SummaryView
after-waits s [] m = m
after-waits s (f ∷ fs) m = after-waits s fs (after_tale (tale.Waits (spot_of s) f) m)

pub waits-order : (s : State) (fs : List Float) (later : List Shown) (m : SummaryView) → IsOrderly later (after-waits s fs m) → IsOrderly (map (λ f. tells (tale.Waits (spot_of s) f)) fs ++ later) m
waits-order s [] later m h = h
waits-order s (f ∷ fs) later m h = (tt, waits-order s fs later (after_tale (tale.Waits (spot_of s) f) m) h)

-- their stories begin
waits-fit : (s : State) (N W K : ℕ → Type 0) (fs : List Float) → ((n : ℕ) → IsAmong n (float_lines fs) → W n × K n) → (m : SummaryView) → AllFit W N W K m.sheets m.stories → AllFit W N W K (after-waits s fs m).sheets (after-waits s fs m).stories
waits-fit s N W K [] at m a = a
waits-fit s N W K (f ∷ fs) at m a =
    let x = at f.line (inl refl) in
    waits-fit s N W K fs (λ n i. at n (inr i)) (after_tale (tale.Waits (spot_of s) f) m) (begins K W N W f (spot_of s).page m.sheets (Some (by_width f)) x.0 refl x.1 m.stories a)

drop-front : {X : Type 0} (xs ys : List X) → drop (length xs) (xs ++ ys) ≡ ys
drop-front [] ys = refl
drop-front (x ∷ xs) ys = drop-front xs ys

-- ---- a step

-- the stories fit a state between two firings: no float that is still to be called has one
abbrev pub FitsRun : State → SummaryView → Type 0
FitsRun s m = FitState s.params (λ n. IsAmong n (uncalled s) → ⊥) s m

module _ (s : State) (o : Running s) (e : (now s o).fault ≡ None) where
  abbrev next : State
  next = (now s o).state

  abbrev lists : ActedLists (acted_of (page_of s).reached) s (now s o).state
  lists = acts-lists s o e

  -- none of these is called yet
  abbrev Later : ℕ → Type 0
  Later n = IsAmong n (called_later next.floats.current (deeds (fires s o).rest))

  waiting-now : (n : ℕ) → Waits next n → Waits s n ⊎ IsAmong n (float_lines lists.news)
  waiting-now n i = by_list (among-parts n (float_lines next.floats.deferred) (float_lines next.floats.second) i)
    where
      by_second : IsAmong n (float_lines s.floats.second) ⊎ IsAmong n (float_lines lists.news) → Waits s n ⊎ IsAmong n (float_lines lists.news)
      by_second (inl j) = inl (among-back n (float_lines s.floats.deferred) (float_lines s.floats.second) j)
      by_second (inr j) = inr j

      by_list : IsAmong n (float_lines next.floats.deferred) ⊎ IsAmong n (float_lines next.floats.second) → Waits s n ⊎ IsAmong n (float_lines lists.news)
      by_list (inl j) = inl (among-front n (float_lines s.floats.deferred) (float_lines s.floats.second) (subst (λ fs. IsAmong n (float_lines fs)) lists.deferred j))
      by_list (inr j) = by_second (either-list n s.floats.second lists.news (subst (λ fs. IsAmong n (float_lines fs)) lists.second j))

  waited-before : (n : ℕ) → Waits s n → Waits next n
  waited-before n i = by_list (among-parts n (float_lines s.floats.deferred) (float_lines s.floats.second) i)
    where
      by_list : IsAmong n (float_lines s.floats.deferred) ⊎ IsAmong n (float_lines s.floats.second) → Waits next n
      by_list (inl j) = among-front n (float_lines next.floats.deferred) (float_lines next.floats.second) (subst (λ fs. IsAmong n (float_lines fs)) (sym lists.deferred) j)
      by_list (inr j) = among-back n (float_lines next.floats.deferred) (float_lines next.floats.second) (subst (λ fs. IsAmong n (float_lines fs)) (sym lists.second) (in-first n s.floats.second lists.news j))

  new-waits : (n : ℕ) → IsAmong n (float_lines lists.news) → Waits next n
  new-waits n j = among-back n (float_lines next.floats.deferred) (float_lines next.floats.second) (subst (λ fs. IsAmong n (float_lines fs)) (sym lists.second) (in-second n s.floats.second lists.news j))

  -- above both columns are the floats that were there, and the titles that were taken
  in-areas : (n : ℕ) → IsInArea next n → IsInArea s n ⊎ IsAmong n (float_lines lists.titles)
  in-areas n i = by_area (among-parts n (float_lines next.floats.top) (float_lines next.floats.bottom ++ (if next.two_columns && next.first_column then float_lines next.floats.double else [])) i)
    where
      above : List ℕ
      above = if s.two_columns && s.first_column then float_lines s.floats.double else []

      in-above : IsAmong n (if s.two_columns && s.first_column then float_lines s.floats.double else []) → IsInArea s n
      in-above j = among-back n (float_lines s.floats.top) (float_lines s.floats.bottom ++ above) (among-back n (float_lines s.floats.bottom) above j)

      by_test : (b : Bool) → IsAmong n (if b then float_lines (s.floats.double ++ lists.titles) else []) → IsAmong n (if b then float_lines s.floats.double else []) ⊎ IsAmong n (float_lines lists.titles)
      by_test true j = either-list n s.floats.double lists.titles j
      by_test false j = absurd j

      none-there : s.floats.double ≡ [] → (b : Bool) → IsAmong n (if b then float_lines s.floats.double else []) → ⊥
      none-there d true j = subst (λ fs. IsAmong n (float_lines fs) → ⊥) (sym d) (λ k. k) j
      none-there d false j = j

      by_side : IsAmong n (if s.two_columns && s.first_column then float_lines s.floats.double else []) ⊎ IsAmong n (float_lines lists.titles) → IsInArea s n ⊎ IsAmong n (float_lines lists.titles)
      by_side (inl j) = inl (in-above j)
      by_side (inr j) = inr j

      emptied : s.floats.double ≡ [] → (b : Bool) → IsAmong n (if b then float_lines s.floats.double else []) ⊎ IsAmong n (float_lines lists.titles) → IsInArea s n ⊎ IsAmong n (float_lines lists.titles)
      emptied d b (inl j) = absurd (none-there d b j)
      emptied d b (inr j) = inr j

      by_columns : ((next.two_columns ≡ s.two_columns) × (next.first_column ≡ s.first_column)) ⊎ (s.floats.double ≡ []) → IsAmong n (if next.two_columns && next.first_column then float_lines next.floats.double else []) → IsInArea s n ⊎ IsAmong n (float_lines lists.titles)
      by_columns (inl c) j =
          by_side (by_test (s.two_columns && s.first_column)
          (subst (λ fs. IsAmong n (if s.two_columns && s.first_column then float_lines fs else [])) lists.double (subst (λ t. IsAmong n (if t && s.first_column then float_lines next.floats.double else [])) c.0 (subst (λ t. IsAmong n (if next.two_columns && t then float_lines next.floats.double else [])) c.1 j))))
      by_columns (inr d) j = emptied d (next.two_columns && next.first_column) (by_test (next.two_columns && next.first_column) (subst (λ fs. IsAmong n (if next.two_columns && next.first_column then float_lines fs else [])) lists.double j))

      by_rest : IsAmong n (float_lines next.floats.bottom) ⊎ IsAmong n (if next.two_columns && next.first_column then float_lines next.floats.double else []) → IsInArea s n ⊎ IsAmong n (float_lines lists.titles)
      by_rest (inl j) = inl (among-back n (float_lines s.floats.top) (float_lines s.floats.bottom ++ above) (among-front n (float_lines s.floats.bottom) above (subst (λ fs. IsAmong n (float_lines fs)) lists.bottom j)))
      by_rest (inr j) = by_columns lists.columns j

      by_area : IsAmong n (float_lines next.floats.top) ⊎ IsAmong n (float_lines next.floats.bottom ++ (if next.two_columns && next.first_column then float_lines next.floats.double else [])) → IsInArea s n ⊎ IsAmong n (float_lines lists.titles)
      by_area (inl j) = inl (among-front n (float_lines s.floats.top) (float_lines s.floats.bottom ++ above) (subst (λ fs. IsAmong n (float_lines fs)) lists.top j))
      by_area (inr j) = by_rest (among-parts n (float_lines next.floats.bottom) (if next.two_columns && next.first_column then float_lines next.floats.double else []) j)

  -- the stories once the page is filled, before the floats that wait from now on
  filled-fit : (m : SummaryView) → FitsRun s m → FitState next.params (λ n. Later n → ⊥) next m
  filled-fit m a =
      all-map (Fits (Waits s) (IsInArea s) (Waits s) (λ n. IsAmong n (uncalled s) → ⊥) m.sheets) (Fits (Waits next) (IsInArea next) (Waits next) (λ n. Later n → ⊥) m.sheets)
      (λ x f. record {
        back = λ c i. f.back c (old x.float.line f.known (waiting-now x.float.line i));
        now = λ c i. f.now c (in-old x.float.line f.known (in-areas x.float.line i));
        waiting = λ i. waited-before x.float.line (f.waiting i);
        reason = f.reason;
        known = λ i. f.known (still-uncalled s o e x.float.line i);
      }) m.stories a
    where
      old : (n : ℕ) → (IsAmong n (uncalled s) → ⊥) → Waits s n ⊎ IsAmong n (float_lines lists.news) → Waits s n
      old n k (inl i) = i
      old n k (inr i) = absurd (k (news-uncalled s o e n i))

      -- a title has no story
      in-old : (n : ℕ) → (IsAmong n (uncalled s) → ⊥) → IsInArea s n ⊎ IsAmong n (float_lines lists.titles) → IsInArea s n
      in-old n k (inl i) = i
      in-old n k (inr i) = absurd (k (titles-uncalled s o e n i))

  news-are : drop (length s.floats.second) next.floats.second ≡ lists.news
  news-are = ap (drop (length s.floats.second)) lists.second ∙ drop-front s.floats.second lists.news

  -- and with them
  waiting-fit : (m : SummaryView) → FitsRun s m → FitState next.params (λ n. Later n → ⊥) next (after-waits next (drop (length s.floats.second) next.floats.second) m)
  waiting-fit m a =
      subst (λ fs. FitState next.params (λ n. Later n → ⊥) next (after-waits next fs m)) (sym news-are)
      (waits-fit next (IsInArea next) (Waits next) (λ n. Later n → ⊥) lists.news (λ n i. (new-waits n i, λ j. news-apart s o e n j i)) m (filled-fit m a))

  -- what is shown of the firing
  fired-ends : (m : SummaryView) → FitState next.params (λ n. Later n → ⊥) next m
      → Ends (firing_pieces next.params next (fires s o)) (out next.params next (fires s o)).sent m (λ k. (out next.params next (fires s o)).refused ≡ false → FitsRun (out next.params next (fires s o)).state k)
  fired-ends m a =
      firing-ends next.params (λ n. Later n → ⊥) (λ n. IsAmong n (uncalled (out next.params next (fires s o)).state) → ⊥) next (fires s o) (fires-once s o e) (λ n k i. k (after-uncalled s o e n i))
      (λ t g es first. (λ n k i. k (subst (λ l. IsAmong n (called_later l (deeds (fires s o).rest))) (sym first) (inl (sym i))), λ i. first-once s o e g es first (after-first s o e g es first t g.line i), λ i. first-apart s o e g es first i)) m a

-- ---- steps

-- what is shown of a step is in order from a summary on; and the stories fit the state after it, if the run goes on
record StepShown (x : Step) (shown : List Shown) (m : SummaryView) : Type 0 where
  now : SummaryView
  fit : (es : List RunEvent) (rs : List Recorded) (t : State) → x ≡ goes_on es rs t → FitsRun t now
  order : (later : List Shown) → IsOrderly later now → IsOrderly (shown ++ later) m

not-on : {es qs : List RunEvent} {rs us : List Recorded} {d : End} {t : State} → ends es rs d ≡ goes_on qs us t → ⊥
not-on e = cc

same-state : {es qs : List RunEvent} {rs us : List Recorded} {s t : State} → goes_on es rs s ≡ goes_on qs us t → s ≡ t
same-state e = cc

module _ (s : State) (o : Running s) (m : SummaryView) (a : FitsRun s m) where
  abbrev waited : SummaryView
  waited = after-waits (now s o).state (drop (length s.floats.second) (now s o).state.floats.second) m

  -- what happened, and what waits from now on, comes before
  behind : (xs : List Shown) (n : SummaryView) → ((later : List Shown) → IsOrderly later n → IsOrderly (xs ++ later) waited) → (later : List Shown) → IsOrderly later n → IsOrderly (shown_with s xs ++ later) m
  behind xs n h later k =
      let q = now s o in
      let ws = wait_tales s q.state in
      subst (λ us. IsOrderly us m) (sym (append_assoc (all_happen q.events) (ws ++ xs) later ∙ ap (λ us. all_happen q.events ++ us) (append_assoc ws xs later)))
      (quiet-order q.events (progress-quiet (page_of s).reached awful_bad s) (ws ++ (xs ++ later)) m (waits-order q.state (drop (length s.floats.second) q.state.floats.second) (xs ++ later) m (h later k)))

  fired : (now s o).fault ≡ None → Ends (firing_pieces (now s o).state.params (now s o).state (fires s o)) (out (now s o).state.params (now s o).state (fires s o)).sent waited (λ k. (out (now s o).state.params (now s o).state (fires s o)).refused ≡ false → FitsRun (out (now s o).state.params (now s o).state (fires s o)).state k)
  fired e = fired-ends s o e waited (waiting-fit s o e m a)

  shown-so : {x : Step} {xs : List Shown} → StepShows s x xs → StepShown x xs m
  shown-so (shows_going e f r rs) = let y = fired e in record { now = y.now; fit = λ qs us t i. subst (λ u. FitsRun u y.now) (same-state i) (y.after r); order = behind (served_shown s) y.now y.order }
  shown-so (shows_ending e f rs d) = let y = fired e in record { now = y.now; fit = λ qs us t i. absurd (not-on i); order = behind (served_shown s) y.now y.order }
  shown-so (shows_page rs d) = record { now = waited; fit = λ qs us t i. absurd (not-on i); order = behind [] waited (λ later h. h) }

-- ---- a run

runs-in-order : {s : State} {r : Run} {xs : List Shown} → RunShows s r xs → Running s → (m : SummaryView) → FitsRun s m → IsOrderly xs m
runs-in-order (shows_none s e) o m a = tt
runs-in-order (shows_last {s = s} x) o m a = (shown-so s o m a x).order [] tt
runs-in-order (shows_more {s = s} {t = t} {ys = ys} {es = es} {rs = rs} x e y) o m a =
    let k = shown-so s o m a x in
    k.order ys (runs-in-order y (goes s o es rs t e) k.now (k.fit es rs t refl))

-- what is shown of the run of a valid galley is in order
pub shown-in-order : (g : Galley) → IsValid g → IsOrderly (shown_run g) no_stories
shown-in-order g v = runs-in-order (galley-shows g) (starts g v) no_stories tt
