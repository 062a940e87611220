-- What is reached by moves up to an end is a plan, with its demerits.
use Rattle.std.proofs.Common.{◌≡◌, refl, sym, ◌∙◌, ap, subst, ℕ, suc, ◌+◌, ◌*◌, ℤ, Bool, true, false, List, [], ◌∷◌, ◌++◌, length, Option, Some, append_assoc, append-nil, arith}
use Rattle.std.specs.Prelude.{pos, ◌+ℤ◌, reverse}
use Rattle.std.proofs.lemmas.Int.{ints}
use Rattle.std.proofs.lemmas.List.{reverse-reverse}
use Rattle.tb_galley.specs.declared.Galley.{Galley}
use Rattle.tb_output.specs.State.{State, Recorded}
use Rattle.tb_items.specs.RunEvents.{RunEvent}
use Rattle.tb_steps.specs.Run.{done, ends, goes_on}
use Rattle.tb_plans.specs.declared.walk.Before.TheVariants as befores
use Rattle.tb_plans.specs.Places.{places_of}
use Rattle.tb_plans.specs.Plans.{IsPlan}
use Rattle.tb_rate.specs.Places.{place_penalties}
use Rattle.tb_rate.specs.RatedRun.{demerits_after, more_demerits}
use Rattle.tb_best.specs.PlanDemerits.{reach_in, unlimited_step, step_demerits, unlimited_demerits_from, breaks_cost, plan_demerits}
use Rattle.tb_best.specs.ItemsAhead.{Ahead, last_ahead, all_ahead, empty_start, forced, state_with}
use Rattle.tb_best.specs.ClosedTables.{AreAlike, Reaches, begun, takes, cuts, fills, merges, IsEnd}
use Rattle.tb_best.proofs.StepMore.{step_with}
use Rattle.tb_best.proofs.Paths.{planned, AreMarks, marked, nothing-behind, taken-first, one-step, fill-step}
use Rattle.tb_best.proofs.FuelLemmas.{enough-fuel}
use Rattle.tb_best.proofs.PlanMarks.{breaks_after}
use Rattle.tb_best.proofs.PlanBreaks.{numbers_of, numbers-are-plan, numbers-are-marks}
use Rattle.tb_best.proofs.PlanRuns.{plan_marks, plan_fuel, plan-run}
use Rattle.tb_best.proofs.BestLemmas.{marks-are-breaks, marks-are-counted}

marked-append : (xs ys : List Bool) → marked (xs ++ ys) ≡ marked xs + marked ys
marked-append [] ys = omega arith
marked-append (true ∷ xs) ys = let e = marked-append xs ys in omega (arith, e)
marked-append (false ∷ xs) ys = marked-append xs ys

one-more : (d paid : ℤ) (m n : ℕ) → d ≡ (paid +ℤ pos (1000 * m)) → n ≡ m + 1 → (d +ℤ pos 1000) ≡ (paid +ℤ pos (1000 * n))
one-more d paid m n h k = omega (arith, ints, h, k)

as-many : (d paid : ℤ) (m n : ℕ) → d ≡ (paid +ℤ pos (1000 * m)) → n ≡ m + 0 → d ≡ (paid +ℤ pos (1000 * n))
as-many d paid m n h k = omega (arith, ints, h, k)

also-paid : (d paid r : ℤ) (m : ℕ) → d ≡ (paid +ℤ pos (1000 * m)) → (d +ℤ r) ≡ ((paid +ℤ r) +ℤ pos (1000 * m))
also-paid d paid r m h = omega (arith, ints, h)

together : (a b c : ℤ) → (a +ℤ (b +ℤ c)) ≡ ((a +ℤ b) +ℤ c)
together a b c = omega (arith, ints)

nothing-paid : (e : ℤ) → e ≡ (pos 0 +ℤ e)
nothing-paid e = omega (arith, ints)

module _ (g : Galley) where
  -- the demerits from a state
  abbrev from : ℕ → State → Option ℤ
  from k s = unlimited_demerits_from (place_penalties g.items) k s

  -- the demerits of a page that fires
  abbrev page_demerits : State → State → List RunEvent → List Recorded → ℤ
  page_demerits s t es rs = step_demerits (place_penalties g.items) s (goes_on es rs t)

  -- the way here: which items were marked, how many pages were filled, and what they cost; whatever comes, its run from here is the last part of the run from the beginning
  record Way (s : State) (cs : List Ahead) (d : ℤ) (breaks : List ℕ) : Type 0 where
    marks : List Bool
    filled : ℕ
    paid : ℤ
    leads : (ms : List Bool) (k : ℕ) (e : ℤ) → from k (state_with (planned ms cs) s) ≡ Some e → from (filled + k) (state_with (planned (marks ++ ms) (all_ahead g)) (empty_start g)) ≡ Some (paid +ℤ e)
    at_places : (ms : List Bool) → AreMarks cs ms → AreMarks (all_ahead g) (marks ++ ms)
    are_breaks : (ms : List Bool) → breaks_after [] (all_ahead g) (marks ++ ms) ≡ breaks_after breaks cs ms
    sum : d ≡ (paid +ℤ pos (1000 * marked marks))

  -- one mark more
  marks-more : (marks ms : List Bool) (m : Bool) → marks ++ m ∷ ms ≡ (marks ++ m ∷ []) ++ ms
  marks-more marks ms m = sym (append_assoc marks (m ∷ []) ms)

  way-begun : Way (empty_start g) (all_ahead g) (pos 0) []
  way-begun = record {
    marks = [];
    filled = 0;
    paid = pos 0;
    leads = λ ms k e h. ap (λ j. from j (state_with (planned ms (all_ahead g)) (empty_start g))) (omega arith) ∙ h ∙ ap Some (nothing-paid e);
    at_places = λ ms h. h;
    are_breaks = λ ms. refl;
    sum = refl;
  }

  way-taken : (s : State) (c : Ahead) (cs : List Ahead) (d : ℤ) (breaks : List ℕ) → Way s (c ∷ cs) d breaks → Way (state_with c.nodes s) cs d breaks
  way-taken s c cs d breaks w = record {
    marks = w.marks ++ false ∷ [];
    filled = w.filled;
    paid = w.paid;
    leads = λ ms k e h.
        subst (λ l. from (w.filled + k) (state_with (planned l (all_ahead g)) (empty_start g)) ≡ Some (w.paid +ℤ e)) (marks-more w.marks ms false)
        (w.leads (false ∷ ms) k e (ap (from k) (taken-first c.nodes (planned ms cs) s) ∙ h));
    at_places = λ ms h. subst (λ l. AreMarks (all_ahead g) l) (marks-more w.marks ms false) (w.at_places (false ∷ ms) h);
    are_breaks = λ ms. ap (breaks_after [] (all_ahead g)) (sym (marks-more w.marks ms false)) ∙ w.are_breaks (false ∷ ms);
    sum = as-many d w.paid (marked w.marks) (marked (w.marks ++ false ∷ [])) w.sum (marked-append w.marks (false ∷ []));
  }

  way-cut : (s : State) (c : Ahead) (cs : List Ahead) (d : ℤ) (breaks : List ℕ) → c.is_place ≡ true → Way s (c ∷ cs) d breaks → Way (state_with (forced c ∷ c.nodes) s) cs (d +ℤ pos 1000) (c.number ∷ breaks)
  way-cut s c cs d breaks place w = record {
    marks = w.marks ++ true ∷ [];
    filled = w.filled;
    paid = w.paid;
    leads = λ ms k e h.
        subst (λ l. from (w.filled + k) (state_with (planned l (all_ahead g)) (empty_start g)) ≡ Some (w.paid +ℤ e)) (marks-more w.marks ms true)
        (w.leads (true ∷ ms) k e (ap (from k) (taken-first (forced c ∷ c.nodes) (planned ms cs) s) ∙ h));
    at_places = λ ms h. subst (λ l. AreMarks (all_ahead g) l) (marks-more w.marks ms true) (w.at_places (true ∷ ms) (place, h));
    are_breaks = λ ms. ap (breaks_after [] (all_ahead g)) (sym (marks-more w.marks ms true)) ∙ w.are_breaks (true ∷ ms);
    sum = one-more d w.paid (marked w.marks) (marked (w.marks ++ true ∷ [])) w.sum (marked-append w.marks (true ∷ []));
  }

  -- a page is filled, whatever is behind
  filled-so : (s t : State) (es : List RunEvent) (rs : List Recorded) (more : List _) (k : ℕ) (e : ℤ) → (reach_in s).fires ≡ true → unlimited_step s ≡ goes_on es rs t
      → from k (state_with more t) ≡ Some e → from (suc k) (state_with more s) ≡ Some (page_demerits s t es rs +ℤ e)
  filled-so s t es rs more k e fires h later =
      fill-step (place_penalties g.items) k s more fires
      ∙ ap (λ x. demerits_after (λ u. from k u) (step_demerits (place_penalties g.items) s x) (step_with more x)) h
      ∙ ap (more_demerits (page_demerits s t es rs)) later

  way-filled : (s t : State) (cs : List Ahead) (d : ℤ) (breaks : List ℕ) (es : List RunEvent) (rs : List Recorded) → (reach_in s).fires ≡ true → unlimited_step s ≡ goes_on es rs t → Way s cs d breaks
      → Way t cs (d +ℤ page_demerits s t es rs) breaks
  way-filled s t cs d breaks es rs fires h w = record {
    marks = w.marks;
    filled = suc w.filled;
    paid = w.paid +ℤ page_demerits s t es rs;
    leads = λ ms k e later.
        ap (λ j. from j (state_with (planned (w.marks ++ ms) (all_ahead g)) (empty_start g))) (omega arith)
        ∙ w.leads ms (suc k) (page_demerits s t es rs +ℤ e) (filled-so s t es rs (planned ms cs) k e fires h later)
        ∙ ap Some (together w.paid (page_demerits s t es rs) e);
    at_places = w.at_places;
    are_breaks = w.are_breaks;
    sum = also-paid d w.paid (page_demerits s t es rs) (marked w.marks) w.sum;
  }

  way-merged : (s t : State) (cs : List Ahead) (d : ℤ) (breaks : List ℕ) → AreAlike g s t → Way s cs d breaks → Way t cs d breaks
  way-merged s t cs d breaks alike w = record {
    marks = w.marks;
    filled = w.filled;
    paid = w.paid;
    leads = λ ms k e h. w.leads ms k e (alike k (planned ms cs) ∙ h);
    at_places = w.at_places;
    are_breaks = w.are_breaks;
    sum = w.sum;
  }

  way-here : (s : State) (cs : List Ahead) (d : ℤ) (breaks : List ℕ) → Reaches g s cs d breaks → Way s cs d breaks
  way-here _ _ _ _ begun = way-begun
  way-here _ _ _ _ (takes s c cs d breaks h) = way-taken s c cs d breaks (way-here s (c ∷ cs) d breaks h)
  way-here _ _ _ _ (cuts s c cs d breaks h place) = way-cut s c cs d breaks place (way-here s (c ∷ cs) d breaks h)
  way-here _ _ _ _ (fills s t cs d breaks es rs h fires e) = way-filled s t cs d breaks es rs fires e (way-here s cs d breaks h)
  way-here _ _ _ _ (merges s t cs d breaks h alike) = way-merged s t cs d breaks alike (way-here s cs d breaks h)

  -- ---- the end

  marks-plan : (ms : List Bool) → AreMarks (all_ahead g) ms → IsPlan g (numbers_of (all_ahead g) ms)
  unfolding places_of all_ahead
  marks-plan ms h = numbers-are-plan g.params (last_ahead g) refl g.params false befores.Nothing 0 g.items ms h

  plan-of-marks : (ms : List Bool) → AreMarks (all_ahead g) ms → plan_marks g (numbers_of (all_ahead g) ms) ≡ ms
  unfolding all_ahead
  plan-of-marks ms h = numbers-are-marks g.params (last_ahead g) refl g.params false befores.Nothing 0 g.items ms h

  in-all : (d paid : ℤ) (m n : ℕ) → d ≡ (paid +ℤ pos (1000 * m)) → m ≡ n → (pos (1000 * n) +ℤ (paid +ℤ pos 0)) ≡ d
  in-all d paid m n h k = omega (arith, ints, h, k)

  -- marks whose run ends well are a plan with these demerits
  plan-so : (ms : List Bool) (k : ℕ) (paid d : ℤ) (breaks : List ℕ) → AreMarks (all_ahead g) ms → from k (state_with (planned ms (all_ahead g)) (empty_start g)) ≡ Some (paid +ℤ pos 0)
      → breaks_after [] (all_ahead g) ms ≡ breaks → d ≡ (paid +ℤ pos (1000 * marked ms)) → IsPlan g (reverse breaks) × (plan_demerits g (reverse breaks) ≡ Some d)
  unfolding plan_demerits
  plan-so ms k paid d breaks at h are sum =
      let plan = numbers_of (all_ahead g) ms in
      let is = marks-plan ms at in
      let same = plan-of-marks ms at in
      let same_breaks : plan ≡ reverse breaks = sym (reverse-reverse plan) ∙ ap reverse (sym (marks-are-breaks g plan is) ∙ ap (breaks_after [] (all_ahead g)) same ∙ are) in
      subst (λ l. IsPlan g l × (plan_demerits g l ≡ Some d)) same_breaks (
        is,
        ap (more_demerits (breaks_cost plan))
            (plan-run g plan is ∙ ap (λ l. from (plan_fuel g) (state_with (planned l (all_ahead g)) (empty_start g))) same
            ∙ enough-fuel (place_penalties g.items) k (plan_fuel g) (state_with (planned ms (all_ahead g)) (empty_start g)) (paid +ℤ pos 0) (omega arith) (omega arith) h)
            ∙ ap Some (in-all d paid (marked ms) (length plan) sum (ap marked (sym same) ∙ marks-are-counted g plan is)),
      )

  end-so : (s : State) (es : List RunEvent) (rs : List Recorded) (left : List _) → unlimited_step s ≡ ends es rs (done left) → from 1 (state_with [] s) ≡ Some (pos 0)
  end-so s es rs left h =
      ap (from 1) (nothing-behind s) ∙ one-step (place_penalties g.items) 0 s
      ∙ ap (λ x. demerits_after (λ u. from 0 u) (step_demerits (place_penalties g.items) s x) x) h

  -- what is reached at an end is a plan with these demerits
  pub ends-are-plans : (d : ℤ) (breaks : List ℕ) → IsEnd g d breaks → IsPlan g (reverse breaks) × (plan_demerits g (reverse breaks) ≡ Some d)
  ends-are-plans d breaks e =
      let w = way-here e.state [] d breaks e.reached in
      let same : w.marks ++ [] ≡ w.marks = append-nil w.marks in
      plan-so (w.marks ++ []) (w.filled + 1) w.paid d breaks (w.at_places [] tt)
      (w.leads [] 1 (pos 0) (end-so e.state e.events e.records e.left e.ends_well))
      (w.are_breaks []) (w.sum ∙ ap (λ l. w.paid +ℤ pos (1000 * marked l)) (sym same))
