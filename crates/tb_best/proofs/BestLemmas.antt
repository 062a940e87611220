-- The best of a table that is closed is the best plan.
use Rattle.std.proofs.Common.{◌≡◌, sym, ◌∙◌, ap, subst, ◌⊎◌, inl, inr, ℕ, ◌*◌, ◌<◌, ℤ, Bool, false, List, [], length, Some, arith}
use Rattle.std.specs.Prelude.{◌<ℤ◌, pos, ◌+ℤ◌, ◌≤ℤ◌, reverse}
use Rattle.std.proofs.lemmas.Int.{ints}
use Rattle.tb_galley.specs.declared.Galley.{Galley}
use Rattle.tb_lines.specs.LeastSolution.{is_greater}
use Rattle.tb_plans.specs.declared.walk.Before.TheVariants as befores
use Rattle.tb_plans.specs.Places.{places_of}
use Rattle.tb_plans.specs.Plans.{IsPlan, with_breaks}
use Rattle.tb_rate.specs.Places.{place_penalties}
use Rattle.tb_best.specs.PlanDemerits.{breaks_cost, unlimited_demerits, plan_demerits}
use Rattle.tb_best.specs.BestPlan.{IsBest}
use Rattle.tb_best.specs.ItemsAhead.{last_ahead, all_ahead, empty_start}
use Rattle.tb_best.specs.ClosedTables.{Table, IsNoBetter, IsClosed}
use Rattle.tb_best.proofs.Paths.{AreMarks, marked, Path, more-some, run-paths}
use Rattle.tb_best.proofs.PlanMarks.{breaks_after, plan-marks, plan-breaks, plan-count}
use Rattle.tb_best.proofs.PlanRuns.{plan_marks, plan_fuel, plan-run}
use Rattle.tb_best.proofs.SideItems.{items-keep}
use Rattle.tb_best.proofs.ClosedLemmas.{closed-ways}

-- a plan's marks are at places, and they are its breaks
marks-at-places : (g : Galley) (plan : List ℕ) → IsPlan g plan → AreMarks (all_ahead g) (plan_marks g plan)
unfolding places_of all_ahead
marks-at-places g plan h = plan-marks g.params (last_ahead g) g.params false befores.Nothing 0 g.items plan h

pub marks-are-breaks : (g : Galley) (plan : List ℕ) → IsPlan g plan → breaks_after [] (all_ahead g) (plan_marks g plan) ≡ reverse plan
unfolding places_of all_ahead
marks-are-breaks g plan h = plan-breaks g.params (last_ahead g) g.params false befores.Nothing 0 g.items plan [] h

pub marks-are-counted : (g : Galley) (plan : List ℕ) → IsPlan g plan → marked (plan_marks g plan) ≡ length plan
unfolding places_of
marks-are-counted g plan h = plan-count g.params (last_ahead g) false befores.Nothing 0 g.items plan h

in-all : (d e : ℤ) (m n : ℕ) → m ≡ n → (pos (1000 * n) +ℤ d) ≡ e → (pos 0 +ℤ (d +ℤ pos (1000 * m))) ≡ e
in-all d e m n h k = omega (arith, ints, h, k)

at-least : (total d : ℤ) (best breaks : List ℕ) → IsNoBetter total best d breaks → total ≤ℤ d
at-least total d best breaks (inl h) = grind (arith, ints, h)
at-least total d best breaks (inr h) = let e = h.0 in grind (arith, ints, e)

in-less : (total d e : ℤ) (l m n : ℕ) → l < m → m ≡ n → (pos (1000 * n) +ℤ d) ≡ e → total ≤ℤ (pos 0 +ℤ (d +ℤ pos (1000 * l))) → total <ℤ e
in-less total d e l m n h k i j = omega (arith, ints, h, k, i, j)

-- no way from the beginning ends better
abbrev pub HasNoBetterWay : Galley → ℤ → List ℕ → Type 0
HasNoBetterWay g total best =
    (k : ℕ) (ms : List Bool) (d : ℤ) → Path (place_penalties g.items) k (empty_start g) (all_ahead g) ms d → IsNoBetter total best (pos 0 +ℤ (d +ℤ pos (1000 * marked ms))) (breaks_after [] (all_ahead g) ms)

module _ (g : Galley) (total : ℤ) (best : List ℕ) (none : HasNoBetterWay g total best) (plan : List ℕ) (h : IsPlan g plan) where
  -- the run with the breaks of a plan is a way from the beginning, perhaps without some of them
  by-way : (d e : ℤ) → (pos (1000 * length plan) +ℤ d) ≡ e
      → (less : List Bool) × Path (place_penalties g.items) (plan_fuel g) (empty_start g) (all_ahead g) less d × ((less ≡ plan_marks g plan) ⊎ (marked less < marked (plan_marks g plan)))
      → IsNoBetter total best e (reverse plan)
  by-way d e sum (less, way, inl same) =
      subst (λ x. IsNoBetter total best x (reverse plan)) (in-all d e (marked less) (length plan) (ap marked same ∙ marks-are-counted g plan h) sum)
      (subst (λ l. IsNoBetter total best (pos 0 +ℤ (d +ℤ pos (1000 * marked less))) l) (ap (breaks_after [] (all_ahead g)) same ∙ marks-are-breaks g plan h)
      (none (plan_fuel g) less d way))
  by-way d e sum (less, way, inr fewer) =
      inl (in-less total d e (marked less) (marked (plan_marks g plan)) (length plan) fewer (marks-are-counted g plan h) sum
      (at-least total (pos 0 +ℤ (d +ℤ pos (1000 * marked less))) best (breaks_after [] (all_ahead g) less)
      (none (plan_fuel g) less d way)))

  plan-no-better : (d : ℤ) → plan_demerits g plan ≡ Some d → IsNoBetter total best d (reverse plan)
  unfolding plan_demerits
  plan-no-better d e =
      let parts = more-some (breaks_cost plan) (unlimited_demerits (with_breaks g plan)) d e in
      by-way parts.0 d parts.2
      (run-paths (place_penalties g.items) (plan_fuel g) (empty_start g) (all_ahead g) (plan_marks g plan) parts.0 (marks-at-places g plan h) (sym (plan-run g plan h) ∙ parts.1))

no-greater : (total : ℤ) (best breaks : List ℕ) → IsNoBetter total best total breaks → is_greater breaks best ≡ false
no-greater total best breaks (inl h) = let no : ⊥ = grind (arith, ints, h) in absurd no
no-greater total best breaks (inr h) = h.1

-- a plan is the best one if no way from the beginning ends better
pub ways-best : (g : Galley) (plan : List ℕ) (total : ℤ) → IsPlan g plan → plan_demerits g plan ≡ Some total → HasNoBetterWay g total (reverse plan) → IsBest g plan total
ways-best g plan total is sum none = record {
  is_plan = is;
  sum = sum;
  least = λ others d h e. at-least total d (reverse plan) (reverse others) (plan-no-better g total (reverse plan) none others h d e);
  greatest = λ others h e. no-greater total (reverse plan) (reverse others) (plan-no-better g total (reverse plan) none others h total e);
}

-- a plan with the demerits and breaks of a closed table is the best one
pub closed-best : (g : Galley) (plan : List ℕ) (total : ℤ) (Known : Table) → IsPlan g plan → plan_demerits g plan ≡ Some total → IsClosed g total (reverse plan) Known → IsBest g plan total
closed-best g plan total Known is sum closed =
    ways-best g plan total is sum (λ k ms d way. closed-ways g total (reverse plan) Known closed k (empty_start g) (all_ahead g) ms d (pos 0) [] (items-keep g) way closed.begins)
