-- A run with what is told of it goes on: what was written or kept, the summary so far, and what is left.
use Rattle.std.proofs.Common.{◌≡◌, refl, sym, subst, ◌∙◌, ap, ℕ, zero, suc, ◌<◌, ◌≤◌, pos, Bool, true, false, List, [], ◌∷◌, ◌++◌, Option, append_assoc, append-nil, arith}
use Rattle.std.specs.Prelude.{int_lt, if◌then◌else◌}
use Rattle.std.specs.Io.KnownBytes.{Appends}
use Rattle.std.proofs.KnownBytes.{Appends-trans}
use Rattle.tb_io.specs.Sink.{AppendsPrefix}
use Rattle.tb_io.proofs.Appended.{prefix_whole, prefix_longer, prefix_on}
use Rattle.tb_output.specs.State.{State, Recorded}
use Rattle.tb_items.specs.RunEvents.{RunEvent}
use Rattle.tb_steps.specs.Run.{Run, End, node_limit, Step, ends, goes_on, step, run_from, run_of_state, firings_left, held_count}
use Rattle.tb_story.specs.Summary.{SummaryView, no_stories}
use Rattle.tb_story.specs.StoryLines.{story_lines}
use Rattle.tb_why.specs.WhyRun.{Shown, step_shown, shown_after, shown_from}
use Rattle.tb_why.specs.ShownLines.{shown_lines, all_shown_lines}
use Rattle.tb_why.specs.Summary.{after_shown, summed}
use Rattle.tb_top.specs.Report.{closing_lines}
use Rattle.tb_top.specs.WhyReport.{shown_text, why_text}
use Rattle.tb_top.proofs.Written.GoingLemmas.{header, steps, stops}

-- ---- what is shown

lines-append : (xs ys : List Shown) → all_shown_lines (xs ++ ys) ≡ all_shown_lines xs ++ all_shown_lines ys
lines-append [] ys = refl
lines-append (x ∷ xs) ys = ap (λ ls. shown_lines x ++ ls) (lines-append xs ys) ∙ sym (append_assoc (shown_lines x) (all_shown_lines xs) (all_shown_lines ys))

summed-append : (xs ys : List Shown) (m : SummaryView) → summed (xs ++ ys) m ≡ summed ys (summed xs m)
summed-append [] ys m = refl
summed-append (x ∷ xs) ys m = summed-append xs ys (after_shown x m)

-- ---- the run from here

-- the lines that are left after this summary, if the whole run has these events
abbrev pub rest_text : List RunEvent → ℕ → SummaryView → State → List ℕ
rest_text all fuel m s =
    all_shown_lines (shown_from fuel s) ++ (story_lines (summed (shown_from fuel s) m).stories ++ closing_lines (run_from fuel s).end all)

-- so much was written or kept and summed up in this state, and the rest follows from it
pub record WhyGoing (s : State) (old now : Option (List ℕ)) (m : SummaryView) (all : List RunEvent) (whole : List ℕ) : Type 0 where
  pub written : List ℕ
  pub fuel : ℕ
  pub appended : Appends old now written
  pub enough : firings_left s < fuel
  pub text : whole ≡ written ++ rest_text all fuel m s

-- the summary and the lines after the last step of a run that ends so
abbrev pub last_text : List RunEvent → SummaryView → End → List ℕ
last_text all m e = story_lines m.stories ++ closing_lines e all

-- nothing is left but the summary and the end
pub record WhyClosing (e : End) (old now : Option (List ℕ)) (m : SummaryView) (all : List RunEvent) (whole : List ℕ) : Type 0 where
  pub written : List ℕ
  pub appended : Appends old now written
  pub text : whole ≡ written ++ last_text all m e

-- ---- a step

shown-by : (s : State) (fuel : ℕ) (x : Step) → step s ≡ x → shown_from (suc fuel) s ≡ step_shown s ++ shown_after (λ t. shown_from fuel t) x
unfolding shown_from
shown-by s fuel x is = ap (λ y. step_shown s ++ shown_after (λ t. shown_from fuel t) y) is

lines-by : (s : State) (fuel : ℕ) (xs : List Shown) → shown_from (suc fuel) s ≡ step_shown s ++ xs → all_shown_lines (shown_from (suc fuel) s) ≡ all_shown_lines (step_shown s) ++ all_shown_lines xs
lines-by s fuel xs is = ap all_shown_lines is ∙ lines-append (step_shown s) xs

stories-by : (s : State) (fuel : ℕ) (m : SummaryView) (xs : List Shown) → shown_from (suc fuel) s ≡ step_shown s ++ xs
    → story_lines (summed (shown_from (suc fuel) s) m).stories ≡ story_lines (summed xs (summed (step_shown s) m)).stories
stories-by s fuel m xs is = ap (λ ys. story_lines (summed ys m).stories) is ∙ ap (λ (n : SummaryView). story_lines n.stories) (summed-append (step_shown s) xs m)

module _ (s : State) (all : List RunEvent) (m : SummaryView) (fuel : ℕ) (es : List RunEvent) (rs : List Recorded) where
  rest-on : (u : State) → 1 ≤ s.page → step s ≡ goes_on es rs u → rest_text all (suc fuel) m s ≡ all_shown_lines (step_shown s) ++ rest_text all fuel (summed (step_shown s) m) u
  rest-on u page is =
      let xs = shown_from fuel u in
      let shown = shown-by s fuel (goes_on es rs u) is in
      let closing = ap (λ e. closing_lines e all) ((steps s u es rs is page).later fuel).1 in
      (λ i. lines-by s fuel xs shown i ++ (stories-by s fuel m xs shown i ++ closing i))
      ∙ append_assoc (all_shown_lines (step_shown s)) (all_shown_lines xs) (story_lines (summed xs (summed (step_shown s) m)).stories ++ closing_lines (run_from fuel u).end all)

  rest-last : (e : End) → step s ≡ ends es rs e → rest_text all (suc fuel) m s ≡ all_shown_lines (step_shown s) ++ last_text all (summed (step_shown s) m) e
  rest-last e is =
      let shown = shown-by s fuel (ends es rs e) is in
      let closing = ap (λ y. closing_lines y all) ((stops s e es rs is).later fuel).1 in
      λ i. (lines-by s fuel [] shown ∙ append-nil (all_shown_lines (step_shown s))) i ++ (stories-by s fuel m [] shown i ++ closing i)

module _ (old now new : Option (List ℕ)) (m : SummaryView) (all : List RunEvent) (whole : List ℕ) (s : State) where
  goes-by : (fuel : ℕ) (u : State) (es : List RunEvent) (rs : List Recorded) (written : List ℕ) → 1 ≤ s.page → step s ≡ goes_on es rs u → firings_left s < fuel → Appends old now written
      → whole ≡ written ++ rest_text all fuel m s → Appends now new (all_shown_lines (step_shown s)) → WhyGoing u old new (summed (step_shown s) m) all whole
  goes-by zero u es rs written page is enough a text b = absurd (omega arith)
  goes-by (suc fuel) u es rs written page is enough a text b =
      let lines = all_shown_lines (step_shown s) in
      let fewer = (steps s u es rs is page).fewer in
      record {
        written = written ++ lines;
        fuel = fuel;
        appended = Appends-trans old now new written lines a b;
        enough = omega (arith, fewer);
        text = text ∙ ap (λ ls. written ++ ls) (rest-on s all m fuel es rs u page is) ∙ sym (append_assoc written lines (rest_text all fuel (summed (step_shown s) m) u));
      }

  pub why-goes : (u : State) (es : List RunEvent) (rs : List Recorded) → 1 ≤ s.page → step s ≡ goes_on es rs u → WhyGoing s old now m all whole → Appends now new (all_shown_lines (step_shown s))
      → WhyGoing u old new (summed (step_shown s) m) all whole
  why-goes u es rs page is g b = goes-by g.fuel u es rs g.written page is g.enough g.appended g.text b

  closes-by : (fuel : ℕ) (e : End) (es : List RunEvent) (rs : List Recorded) (written : List ℕ) → step s ≡ ends es rs e → firings_left s < fuel → Appends old now written
      → whole ≡ written ++ rest_text all fuel m s → Appends now new (all_shown_lines (step_shown s)) → WhyClosing e old new (summed (step_shown s) m) all whole
  closes-by zero e es rs written is enough a text b = absurd (omega arith)
  closes-by (suc fuel) e es rs written is enough a text b =
      let lines = all_shown_lines (step_shown s) in
      record {
        written = written ++ lines;
        appended = Appends-trans old now new written lines a b;
        text = text ∙ ap (λ ls. written ++ ls) (rest-last s all m fuel es rs e is) ∙ sym (append_assoc written lines (last_text all (summed (step_shown s) m) e));
      }

  pub why-closes : (e : End) (es : List RunEvent) (rs : List Recorded) → step s ≡ ends es rs e → WhyGoing s old now m all whole → Appends now new (all_shown_lines (step_shown s)) → WhyClosing e old new (summed (step_shown s) m) all whole
  why-closes e es rs is g b = closes-by g.fuel e es rs g.written is g.enough g.appended g.text b

  -- ---- a run that is cut off while a step is written

  cut-by : (fuel : ℕ) (x : Step) (written : List ℕ) → 1 ≤ s.page → step s ≡ x → firings_left s < fuel → Appends old now written → whole ≡ written ++ rest_text all fuel m s → AppendsPrefix now new (all_shown_lines (step_shown s)) → AppendsPrefix old new whole
  cut-by zero x written page is enough a text b = absurd (omega arith)
  cut-by (suc fuel) (goes_on es rs u) written page is enough a text b = prefix_on old now new whole written _ _ a b (text ∙ ap (λ ls. written ++ ls) (rest-on s all m fuel es rs u page is))
  cut-by (suc fuel) (ends es rs e) written page is enough a text b = prefix_on old now new whole written _ _ a b (text ∙ ap (λ ls. written ++ ls) (rest-last s all m fuel es rs e is))

  pub why-cut : 1 ≤ s.page → WhyGoing s old now m all whole → AppendsPrefix now new (all_shown_lines (step_shown s)) → AppendsPrefix old new whole
  why-cut page g b = cut-by g.fuel (step s) g.written page refl g.enough g.appended g.text b

  -- nothing was written of this step
  pub why-now : WhyGoing s old now m all whole → AppendsPrefix old now whole
  why-now g = subst (AppendsPrefix old now) (sym g.text) (prefix_longer old now g.written (rest_text all g.fuel m s) (prefix_whole old now g.written g.appended))

-- ---- the beginning

-- what there is by whether too many nodes wait
abbrev run-by : State → Bool → Run
run-by s t = if t then record { events = []; records = []; end = node_limit (held_count s) } else run_from (suc (firings_left s)) s

abbrev text-by : State → Bool → List ℕ
text-by s t = shown_text (if t then [] else shown_from (suc (firings_left s)) s) (run-by s t)

module _ (first s : State) (old now : Option (List ℕ)) (is : s ≡ first) (a : Appends old now header) where
  begins-here : WhyGoing s old now no_stories (run-by s false).events (text-by s false)
  begins-here = record { written = header; fuel = suc (firings_left s); appended = a; enough = omega arith; text = refl }

  over-here : WhyClosing (node_limit (held_count s)) old now no_stories (run-by s true).events (text-by s true)
  over-here = record { written = header; appended = a; text = refl }

  -- it goes on
  pub why-begins : int_lt s.params.maxnodes (pos (held_count s)) ≡ false → WhyGoing s old now no_stories (run_of_state first).events (why_text first)
  why-begins e =
      subst (λ u. WhyGoing s old now no_stories (run_of_state u).events (why_text u)) is
      (subst (λ t. WhyGoing s old now no_stories (run-by s t).events (text-by s t)) (sym e) begins-here)

  -- too many nodes wait at the start
  pub why-over : int_lt s.params.maxnodes (pos (held_count s)) ≡ true → WhyClosing (node_limit (held_count s)) old now no_stories (run_of_state first).events (why_text first)
  why-over e =
      subst (λ u. WhyClosing (node_limit (held_count s)) old now no_stories (run_of_state u).events (why_text u)) is
      (subst (λ t. WhyClosing (node_limit (held_count s)) old now no_stories (run-by s t).events (text-by s t)) (sym e) over-here)
