-- The best plan as a function: the best of all plans, each of which is run. A search need not do so.
use Rattle.std.specs.Prelude.{ℕ, ℤ, Bool, not, ◌&&◌, ◌||◌, List, [], ◌∷◌, ◌++◌, map, reverse, Option, Some, None, int_lt, if◌then◌else◌}
use Rattle.tb_galley.specs.declared.Galley.{Galley}
use Rattle.tb_lines.specs.LeastSolution.{is_greater}
use Rattle.tb_plans.specs.Places.{places_of}
use Rattle.tb_best.specs.PlanDemerits.{plan_demerits}

-- a plan with its demerits
pub record RatedPlan : Type 0 where
  pub plan : List ℕ
  pub total : ℤ

-- all parts of a list of numbers
abbrev pub parts : List ℕ → List (List ℕ)
parts [] = [] ∷ []
parts (k ∷ ks) = map (λ l. k ∷ l) (parts ks) ++ parts ks

-- the first of two plans has fewer demerits, or as many and greater places, read from the last
abbrev pub is_better : RatedPlan → RatedPlan → Bool
is_better a b = int_lt a.total b.total || (not (int_lt b.total a.total) && is_greater (reverse a.plan) (reverse b.plan))

-- the better one of a plan and of the best of others
abbrev pub better_of : RatedPlan → Option RatedPlan → Option RatedPlan
better_of a None = Some a
better_of a (Some b) = if is_better b a then Some b else Some a

-- the same if the plan has demerits
abbrev pub better_if : List ℕ → Option ℤ → Option RatedPlan → Option RatedPlan
better_if plan None best = best
better_if plan (Some d) best = better_of (record { plan = plan; total = d }) best

-- the best of these plans
abbrev pub best_among : Galley → List (List ℕ) → Option RatedPlan
best_among g [] = None
best_among g (plan ∷ plans) = better_if plan (plan_demerits g plan) (best_among g plans)

-- the best plan of a galley; none if the run of none ends well
unfoldable pub best_of : Galley → Option RatedPlan
best_of g = best_among g (parts (places_of g))
