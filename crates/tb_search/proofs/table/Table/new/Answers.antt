use Rattle.std.proofs.Common.{◌≡◌, refl, sym, ap, subst, ◌∙◌, ◌+◌, false, length, Some, to_z, of_z, rules, arith}
use Rattle.std.specs.Prelude.{ℤ, pos, ◌≤ℤ◌, replicate, FitsSigned}
use Rattle.std.specs.Int.{w128}
use Rattle.std.proofs.lemmas.Int.{ints, to_z-of_z}
use Rattle.tb_plans.specs.Plans.{IsPlan}
use Rattle.tb_rate.specs.Places.{place_penalties}
use Rattle.tb_best.specs.PlanDemerits.{plan_demerits}
use Rattle.tb_search.specs.Ways.{marked}
use Rattle.tb_search.proofs.AheadLemmas.{all-counted}
use Rattle.tb_search.proofs.PlaceFlags.{flags-are, few-items}
use Rattle.tb_search.proofs.KeepLemmas.{none-start, no-rows}
use Rattle.tb_search.proofs.table.Table.new.Goals as goal

pub returns-clause-table : goal.returns-clause-table
returns-clause-table c =
    let g = c.args.galley.now in
    let all = all-counted g in
    let fits : FitsSigned w128 c.args.greedy = search rules in
    let greedy : to_z w128 (of_z w128 c.args.greedy) ≡ c.args.greedy = simp to_z-of_z refl in
    let within : FitsSigned w128 c.args.bound = search rules in
    let bound : to_z w128 (of_z w128 c.args.bound) ≡ c.args.bound = simp to_z-of_z refl in
    let count : c.len-count.result + 1 ≡ length g.items + 1 = ap (λ n. n + 1) c.len-count.ensures in
    record {
      fit = c.in_ok-penalties.ensures.fit;
      range = let b = c.requires.bound in let r = c.requires.range in subst (λ (z : ℤ). z ≤ℤ pos 1000000000000000000000000000) (sym bound) (omega (arith, ints, b, r));
      penalties = c.in_ok-penalties.ensures.places ∙ ap place_penalties c.as_slice.ensures;
      places =
          c.in_ok-is_place.ensures
          ∙ (λ i. marked (replicate (count i) false) ((c.as_slice-2.ensures.value ∙ c.in_ok-places.ensures) i))
          ∙ flags-are g;
      alternate = c.may_alternate-alternate.ensures;
      few = let few = few-items g c.requires.valid in omega (arith, all, few);
      levels = let l = c.in_ok-starts.ensures.count in omega (arith, all, l, count);
      starts = none-start g (to_z w128 (of_z w128 c.args.bound)) 0 c.in_ok-starts.starts.items c.in_ok-starts.ensures.empty;
      best = record {
        is_plan = subst (λ plan. IsPlan g plan) (sym c.new.ensures.items) refl;
        sum = ap (plan_demerits g) c.new.ensures.items ∙ c.requires.greedy ∙ ap Some (sym greedy);
      };
      bounded = subst (λ (z : ℤ). z ≤ℤ pos 1000000000000000000000000000) (sym greedy) c.requires.range;
    }

pub returns-clause-none : goal.returns-clause-none
returns-clause-none c = no-rows c.args.galley.now 0 c.in_ok-starts.starts.items c.in_ok-starts.ensures.empty

pub returns-clause-levels : goal.returns-clause-levels
returns-clause-levels c =
    let all = all-counted c.args.galley.now in
    let l = c.in_ok-starts.ensures.count in
    let count : c.len-count.result + 1 ≡ length c.args.galley.now.items + 1 = ap (λ n. n + 1) c.len-count.ensures in
    omega (arith, all, l, count)
