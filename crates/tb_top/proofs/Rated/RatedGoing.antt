-- A run that goes on: what was written with its ratings, and what is left.
use Rattle.std.proofs.Common.{◌≡◌, refl, sym, subst, ◌∙◌, ap, ℕ, zero, suc, ◌<◌, ◌≤◌, ℤ, pos, Bool, true, false, List, [], ◌∷◌, ◌++◌, map, Option, None, Some, append_assoc, append-nil, arith}
use Rattle.std.specs.Prelude.{◌+ℤ◌, int_lt, if◌then◌else◌}
use Rattle.std.specs.Io.KnownBytes.{Appends}
use Rattle.std.proofs.KnownBytes.{Appends-trans}
use Rattle.std.proofs.lemmas.Int.{ints}
use Rattle.tb_io.specs.Sink.{AppendsPrefix}
use Rattle.tb_io.proofs.Appended.{prefix_whole, prefix_longer, prefix_on}
use Rattle.tb_output.specs.State.{State, Recorded}
use Rattle.tb_items.specs.RunEvents.{RunEvent}
use Rattle.tb_steps.specs.Run.{Run, End, node_limit, Step, ends, goes_on, step, step_events, run_from, run_of_state, firings_left, held_count}
use Rattle.tb_rate.specs.declared.Rating.{Rating}
use Rattle.tb_rate.specs.declared.PlacePenalty.{PlacePenalty}
use Rattle.tb_rate.specs.RatedRun.{Rated, happens, if_rated, rating_by, rated_after, rated_from, demerits_if, more_demerits, demerits_at, demerits_after, demerits_from, demerits_of_state}
use Rattle.tb_rate.specs.RatingLines.{rating_lines, demerits_lines}
use Rattle.tb_top.specs.Report.{all_lines, event_lines, closing_lines}
use Rattle.tb_top.specs.RatedReport.{rated_lines, all_rated_lines, rated_text}
use Rattle.tb_top.proofs.Written.GoingLemmas.{header, steps, stops}

-- ---- lines

lines-append : (xs ys : List Rated) → all_rated_lines (xs ++ ys) ≡ all_rated_lines xs ++ all_rated_lines ys
lines-append [] ys = refl
lines-append (x ∷ xs) ys = ap (λ ls. rated_lines x ++ ls) (lines-append xs ys) ∙ sym (append_assoc (rated_lines x) (all_rated_lines xs) (all_rated_lines ys))

lines-happen : (es : List RunEvent) → all_rated_lines (map (λ e. happens e) es) ≡ all_lines event_lines es
lines-happen [] = refl
lines-happen (e ∷ es) = ap (λ ls. event_lines e ++ ls) (lines-happen es)

lines-rating : (o : Option Rating) → all_rated_lines (if_rated o) ≡ rating_lines o
lines-rating None = refl
lines-rating (Some r) = append-nil (rating_lines (Some r))

-- the lines of events and of a rating
abbrev pub turn_lines : List RunEvent → Option Rating → List ℕ
turn_lines es o = all_lines event_lines es ++ rating_lines o

lines-turn : (es : List RunEvent) (o : Option Rating) → all_rated_lines (map (λ e. happens e) es ++ if_rated o) ≡ turn_lines es o
lines-turn es o =
    lines-append (map (λ e. happens e) es) (if_rated o)
    ∙ ap (λ ls. ls ++ all_rated_lines (if_rated o)) (lines-happen es)
    ∙ ap (λ ls. all_lines event_lines es ++ ls) (lines-rating o)

-- ---- demerits

sum-more : (a b c : ℤ) → a +ℤ (b +ℤ c) ≡ (a +ℤ b) +ℤ c
sum-more a b c = omega (arith, ints)

more-more : (a b : ℤ) (o : Option ℤ) → more_demerits a (more_demerits b o) ≡ more_demerits (a +ℤ b) o
more-more a b None = refl
more-more a b (Some c) = ap (λ x. Some x) (sum-more a b c)

none-more : (c : ℤ) → pos 0 +ℤ c ≡ c
none-more c = omega (arith, ints)

pub more-nothing : (o : Option ℤ) → more_demerits (pos 0) o ≡ o
more-nothing None = refl
more-nothing (Some c) = ap (λ x. Some x) (none-more c)

-- ---- the run from here

module _ (places : List PlacePenalty) where
  -- the lines of a step from a state
  abbrev pub step_lines : State → Step → List ℕ
  step_lines s x = turn_lines (step_events x) (rating_by places s x)

  -- the lines that are left after these demerits, if the whole run has these events
  abbrev pub rest_text : List RunEvent → ℕ → ℤ → State → List ℕ
  rest_text all fuel d s = all_rated_lines (rated_from places fuel s) ++ (closing_lines (run_from fuel s).end all ++ demerits_lines (more_demerits d (demerits_from places fuel s)))

  -- so much was written and summed up in this state, and the rest follows from it
  pub record RatedGoing (s : State) (old now : Option (List ℕ)) (d : ℤ) (all : List RunEvent) (total : Option ℤ) (whole : List ℕ) : Type 0 where
    pub written : List ℕ
    pub fuel : ℕ
    pub appended : Appends old now written
    pub enough : firings_left s < fuel
    pub text : whole ≡ written ++ rest_text all fuel d s
    pub sum : total ≡ more_demerits d (demerits_from places fuel s)

  -- the lines after the last step of a run that ends so
  abbrev pub last_text : List RunEvent → ℤ → End → List ℕ
  last_text all d e = closing_lines e all ++ demerits_lines (more_demerits d (demerits_at e))

  -- nothing is left but the end
  pub record RatedClosing (e : End) (old now : Option (List ℕ)) (d : ℤ) (all : List RunEvent) (total : Option ℤ) (whole : List ℕ) : Type 0 where
    pub written : List ℕ
    pub appended : Appends old now written
    pub text : whole ≡ written ++ last_text all d e
    pub sum : total ≡ more_demerits d (demerits_at e)

  -- ---- a step

  rated-by : (s : State) (fuel : ℕ) (x : Step) → step s ≡ x → rated_from places (suc fuel) s ≡ (map (λ e. happens e) (step_events x) ++ if_rated (rating_by places s x)) ++ rated_after (λ t. rated_from places fuel t) x
  unfolding rated_from
  rated-by s fuel x is = ap (λ y. (map (λ e. happens e) (step_events y) ++ if_rated (rating_by places s y)) ++ rated_after (λ t. rated_from places fuel t) y) is

  sum-by : (s : State) (fuel : ℕ) (x : Step) → step s ≡ x → demerits_from places (suc fuel) s ≡ demerits_after (λ t. demerits_from places fuel t) (demerits_if (rating_by places s x)) x
  unfolding demerits_from
  sum-by s fuel x is = ap (λ y. demerits_after (λ t. demerits_from places fuel t) (demerits_if (rating_by places s y)) y) is

  lines-by : (s : State) (fuel : ℕ) (x : Step) → step s ≡ x → all_rated_lines (rated_from places (suc fuel) s) ≡ step_lines s x ++ all_rated_lines (rated_after (λ t. rated_from places fuel t) x)
  lines-by s fuel x is =
      let shown = map (λ e. happens e) (step_events x) ++ if_rated (rating_by places s x) in
      ap all_rated_lines (rated-by s fuel x is)
      ∙ lines-append shown (rated_after (λ t. rated_from places fuel t) x)
      ∙ ap (λ ls. ls ++ all_rated_lines (rated_after (λ t. rated_from places fuel t) x)) (lines-turn (step_events x) (rating_by places s x))

  module _ (s : State) (all : List RunEvent) (d : ℤ) (fuel : ℕ) (es : List RunEvent) (rs : List Recorded) where
    rest-on : (u : State) → 1 ≤ s.page → step s ≡ goes_on es rs u
        → rest_text all (suc fuel) d s ≡ step_lines s (goes_on es rs u) ++ rest_text all fuel (d +ℤ demerits_if (rating_by places s (goes_on es rs u))) u
    rest-on u page is =
        let x = goes_on es rs u in
        let more = demerits_if (rating_by places s x) in
        let closing = ap (λ e. closing_lines e all) ((steps s u es rs is page).later fuel).1 in
        let summed = ap (λ o. demerits_lines (more_demerits d o)) (sum-by s fuel x is) ∙ ap demerits_lines (more-more d more (demerits_from places fuel u)) in
        (λ i. lines-by s fuel x is i ++ (closing i ++ summed i))
        ∙ append_assoc (step_lines s x) (all_rated_lines (rated_from places fuel u)) (closing_lines (run_from fuel u).end all ++ demerits_lines (more_demerits (d +ℤ more) (demerits_from places fuel u)))

    rest-last : (e : End) → step s ≡ ends es rs e → rest_text all (suc fuel) d s ≡ step_lines s (ends es rs e) ++ last_text all d e
    rest-last e is =
        let x = ends es rs e in
        let closing = ap (λ y. closing_lines y all) ((stops s e es rs is).later fuel).1 in
        let summed = ap (λ o. demerits_lines (more_demerits d o)) (sum-by s fuel x is) in
        λ i. (lines-by s fuel x is ∙ append-nil (step_lines s x)) i ++ (closing i ++ summed i)

  module _ (old now new : Option (List ℕ)) (d : ℤ) (all : List RunEvent) (total : Option ℤ) (whole : List ℕ) (s : State) where
    goes-by : (fuel : ℕ) (u : State) (es : List RunEvent) (rs : List Recorded) (written : List ℕ) → 1 ≤ s.page → step s ≡ goes_on es rs u → firings_left s < fuel → Appends old now written
        → whole ≡ written ++ rest_text all fuel d s → total ≡ more_demerits d (demerits_from places fuel s) → Appends now new (step_lines s (goes_on es rs u))
        → RatedGoing u old new (d +ℤ demerits_if (rating_by places s (goes_on es rs u))) all total whole
    goes-by zero u es rs written page is enough a text sum b = absurd (omega arith)
    goes-by (suc fuel) u es rs written page is enough a text sum b =
        let x = goes_on es rs u in
        let more = demerits_if (rating_by places s x) in
        let fewer = (steps s u es rs is page).fewer in
        record {
          written = written ++ step_lines s x;
          fuel = fuel;
          appended = Appends-trans old now new written (step_lines s x) a b;
          enough = omega (arith, fewer);
          text = text ∙ ap (λ ls. written ++ ls) (rest-on s all d fuel es rs u page is) ∙ sym (append_assoc written (step_lines s x) (rest_text all fuel (d +ℤ more) u));
          sum = sum ∙ ap (more_demerits d) (sum-by s fuel x is) ∙ more-more d more (demerits_from places fuel u);
        }

    pub rated-goes : (u : State) (es : List RunEvent) (rs : List Recorded) → 1 ≤ s.page → step s ≡ goes_on es rs u → RatedGoing s old now d all total whole → Appends now new (step_lines s (goes_on es rs u))
        → RatedGoing u old new (d +ℤ demerits_if (rating_by places s (goes_on es rs u))) all total whole
    rated-goes u es rs page is g b = goes-by g.fuel u es rs g.written page is g.enough g.appended g.text g.sum b

    closes-by : (fuel : ℕ) (e : End) (es : List RunEvent) (rs : List Recorded) (written : List ℕ) → step s ≡ ends es rs e → firings_left s < fuel → Appends old now written
        → whole ≡ written ++ rest_text all fuel d s → total ≡ more_demerits d (demerits_from places fuel s) → Appends now new (step_lines s (ends es rs e)) → RatedClosing e old new d all total whole
    closes-by zero e es rs written is enough a text sum b = absurd (omega arith)
    closes-by (suc fuel) e es rs written is enough a text sum b =
        let x = ends es rs e in
        record {
          written = written ++ step_lines s x;
          appended = Appends-trans old now new written (step_lines s x) a b;
          text = text ∙ ap (λ ls. written ++ ls) (rest-last s all d fuel es rs e is) ∙ sym (append_assoc written (step_lines s x) (last_text all d e));
          sum = sum ∙ ap (more_demerits d) (sum-by s fuel x is);
        }

    pub rated-closes : (e : End) (es : List RunEvent) (rs : List Recorded) → step s ≡ ends es rs e → RatedGoing s old now d all total whole → Appends now new (step_lines s (ends es rs e)) → RatedClosing e old new d all total whole
    rated-closes e es rs is g b = closes-by g.fuel e es rs g.written is g.enough g.appended g.text g.sum b

    -- writing a step was cut short
    cut-on : (written more rest : List ℕ) → whole ≡ written ++ (more ++ rest) → Appends old now written → AppendsPrefix now new more → AppendsPrefix old new whole
    cut-on written more rest text a b = prefix_on old now new whole written more rest a b text

    cut-by : (fuel : ℕ) (x : Step) (written : List ℕ) → 1 ≤ s.page → step s ≡ x → firings_left s < fuel → Appends old now written → whole ≡ written ++ rest_text all fuel d s → AppendsPrefix now new (step_lines s x) → AppendsPrefix old new whole
    cut-by zero x written page is enough a text b = absurd (omega arith)
    cut-by (suc fuel) (goes_on es rs u) written page is enough a text b = cut-on written _ _ (text ∙ ap (λ ls. written ++ ls) (rest-on s all d fuel es rs u page is)) a b
    cut-by (suc fuel) (ends es rs e) written page is enough a text b = cut-on written _ _ (text ∙ ap (λ ls. written ++ ls) (rest-last s all d fuel es rs e is)) a b

    pub rated-cut : (x : Step) → 1 ≤ s.page → step s ≡ x → RatedGoing s old now d all total whole → AppendsPrefix now new (step_lines s x) → AppendsPrefix old new whole
    rated-cut x page is g b = cut-by g.fuel x g.written page is g.enough g.appended g.text b

    -- nothing was written of this step
    pub rated-now : RatedGoing s old now d all total whole → AppendsPrefix old now whole
    rated-now g = subst (AppendsPrefix old now) (sym g.text) (prefix_longer old now g.written (rest_text all g.fuel d s) (prefix_whole old now g.written g.appended))

  -- ---- the beginning

  -- what there is by whether too many nodes wait
  abbrev run-by : State → Bool → Run
  run-by s t = if t then record { events = []; records = []; end = node_limit (held_count s) } else run_from (suc (firings_left s)) s

  abbrev total-by : State → Bool → Option ℤ
  total-by s t = if t then None else demerits_from places (suc (firings_left s)) s

  abbrev text-by : State → Bool → List ℕ
  text-by s t =
      header ++ (all_rated_lines (if t then [] else rated_from places (suc (firings_left s)) s) ++ (closing_lines (run-by s t).end (run-by s t).events ++ demerits_lines (total-by s t)))

  module _ (first s : State) (old now : Option (List ℕ)) (is : s ≡ first) (a : Appends old now header) where
    begins-here : RatedGoing s old now (pos 0) (run-by s false).events (total-by s false) (text-by s false)
    begins-here =
        let fuel = suc (firings_left s) in
        record {
          written = header;
          fuel = fuel;
          appended = a;
          enough = omega arith;
          text = ap (λ o. header ++ (all_rated_lines (rated_from places fuel s) ++ (closing_lines (run_from fuel s).end (run_from fuel s).events ++ demerits_lines o))) (sym (more-nothing (demerits_from places fuel s)));
          sum = sym (more-nothing (demerits_from places fuel s));
        }

    over-here : RatedClosing (node_limit (held_count s)) old now (pos 0) (run-by s true).events (total-by s true) (text-by s true)
    over-here = record { written = header; appended = a; text = refl; sum = refl }

    -- it goes on
    pub rated-begins : int_lt s.params.maxnodes (pos (held_count s)) ≡ false → RatedGoing s old now (pos 0) (run_of_state first).events (demerits_of_state places first) (rated_text places first)
    rated-begins e =
        subst (λ u. RatedGoing s old now (pos 0) (run_of_state u).events (demerits_of_state places u) (rated_text places u)) is
        (subst (λ t. RatedGoing s old now (pos 0) (run-by s t).events (total-by s t) (text-by s t)) (sym e) begins-here)

    -- too many nodes wait at the start
    pub rated-over : int_lt s.params.maxnodes (pos (held_count s)) ≡ true → RatedClosing (node_limit (held_count s)) old now (pos 0) (run_of_state first).events (demerits_of_state places first) (rated_text places first)
    rated-over e =
        subst (λ u. RatedClosing (node_limit (held_count s)) old now (pos 0) (run_of_state u).events (demerits_of_state places u) (rated_text places u)) is
        (subst (λ t. RatedClosing (node_limit (held_count s)) old now (pos 0) (run-by s t).events (total-by s t) (text-by s t)) (sym e) over-here)

  -- a part of the header was written, and nothing else
  pub rated-first : (first : State) (old now : Option (List ℕ)) → AppendsPrefix old now header → AppendsPrefix old now (rated_text places first)
  rated-first first old now b = prefix_longer old now header _ b
