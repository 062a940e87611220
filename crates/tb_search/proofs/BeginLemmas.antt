-- The state in which a search begins, and what its end gives.
use Rattle.std.proofs.Common.{◌≡◌, refl, sym, ap, subst, ◌∙◌, inl, ℕ, zero, suc, ◌*◌, false, List, [], Option, Some, None, length, arith}
use Rattle.std.specs.Prelude.{ℤ, pos, ◌+ℤ◌, ◌≤ℤ◌, reverse}
use Rattle.std.proofs.lemmas.Int.{ints}
use Rattle.std.specs.Borrow.{Bor}
use Rattle.tb_galley.specs.declared.Galley.{Galley}
use Rattle.tb_steps.specs.Run.{done, End, Step, ends, goes_on, firings_left}
use Rattle.tb_rate.specs.declared.PlacePenalty.{PlacePenalty}
use Rattle.tb_rate.specs.Places.{place_penalties}
use Rattle.tb_rate.specs.RatedRun.{more_demerits, demerits_at, demerits_after, start_of}
use Rattle.tb_best.proofs.ClosedLemmas.{step-low}
use Rattle.tb_plans.specs.Plans.{with_breaks}
use Rattle.tb_output.specs.State.{State}
use Rattle.tb_best.specs.BestPlan.{IsBest}
use Rattle.tb_best.specs.PlanDemerits.{reach_in, step_demerits, unlimited_step, unlimited_demerits_from, unlimited_demerits, plan_demerits}
use Rattle.tb_best.specs.ItemsAhead.{Ahead, all_ahead, empty_start}
use Rattle.tb_best.specs.Sides.{sides_of, KeepsSides}
use Rattle.tb_best.proofs.SideItems.{start-keeps}
use Rattle.tb_best.specs.ClosedTables.{Row, rows_know, Reaches, begun}
use Rattle.tb_search.specs.declared.branch.Branch.{Branch}
use Rattle.tb_search.specs.declared.table.Way.{Way}
use Rattle.tb_search.specs.declared.table.Table.{Table}
use Rattle.tb_search.specs.Branches.{shown, IsBranch}
use Rattle.tb_search.specs.AheadInCode.{items_ahead, HasAhead}
use Rattle.tb_search.specs.Searched.{IsSearched}
use Rattle.tb_search.specs.Starts.{rows_of, IsStart, IsTable}
use Rattle.tb_search.specs.Continues.{HasSearched}
use Rattle.tb_search.proofs.AheadLemmas.{all-counted, all-are-ahead}
use Rattle.tb_search.proofs.PlainFlags.{flag-off}
use Rattle.tb_search.proofs.SearchedLemmas.{searched-best}

-- no page fires where nothing waits
empty-quiet : (g : Galley) → (reach_in (empty_start g)).fires ≡ false
empty-quiet g = refl

module _ (g : Galley) (left : ℕ) (b : Branch) (w : Way) (state : shown b ≡ empty_start g) (all : left ≡ length (all_ahead g)) (none : w.breaks.items ≡ []) (zero-way : w.demerits ≡ pos 0) where
  all-left : items_ahead g left ≡ all_ahead g
  all-left = ap (items_ahead g) all ∙ all-are-ahead g

  first-reached : Reaches g (shown b) (items_ahead g left) w.demerits (reverse w.breaks.items)
  first-reached =
      subst (λ (s : State). Reaches g s (items_ahead g left) w.demerits (reverse w.breaks.items)) (sym state)
      (subst (λ (cs : List Ahead). Reaches g (empty_start g) cs w.demerits (reverse w.breaks.items)) (sym all-left)
      (subst (λ (d : ℤ). Reaches g (empty_start g) (all_ahead g) d (reverse w.breaks.items)) (sym zero-way)
      (subst (λ (bs : List ℕ). Reaches g (empty_start g) (all_ahead g) (pos 0) (reverse bs)) (sym none) begun)))

  -- it can be kept
  pub first-start : (bound : ℤ) → IsBranch b → HasAhead g b.ahead (all_ahead g) → b.plain ≡ false → pos 0 ≤ℤ bound → IsStart g bound left (record { branch = b; way = w })
  first-start bound branch ahead plain low = record {
    branch = branch;
    ahead = subst (HasAhead g b.ahead) (sym all-left) ahead;
    classes = ap (λ (s : State). s.classes) state;
    sides = subst (KeepsSides (sides_of g)) (sym state) (start-keeps g);
    some = let n = all-counted g in omega (arith, n, all);
    quiet = inl (ap (λ (s : State). (reach_in s).fires) state ∙ empty-quiet g);
    reached = first-reached;
    low = omega (arith, ints, zero-way);
    high = subst (λ (d : ℤ). d ≤ℤ bound) (sym zero-way) low;
    plain = flag-off g left b plain;
  }

  -- where it is known, the beginning is
  pub first-known : (rows : List Row) → rows_know rows (shown b) (items_ahead g left) w.demerits (reverse w.breaks.items) → rows_know rows (empty_start g) (all_ahead g) (pos 0) []
  first-known rows h =
      subst (λ (s : State). rows_know rows s (all_ahead g) (pos 0) []) state
      (subst (λ (cs : List Ahead). rows_know rows (shown b) cs (pos 0) []) all-left
      (subst (λ (d : ℤ). rows_know rows (shown b) (items_ahead g left) d []) zero-way
      (subst (λ (bs : List ℕ). rows_know rows (shown b) (items_ahead g left) w.demerits (reverse bs)) none h)))

-- if all is searched from the beginning and no state waits, the best way of the table is the best plan if it is within the bound
pub end-best : (g : Galley) (t u : Table) → t.galley.now ≡ g → IsTable u → HasSearched [] t u → rows_of u ≡ [] → rows_know (rows_of t) (empty_start g) (all_ahead g) (pos 0) [] → u.best.demerits ≤ℤ u.bound → IsBest g u.best.breaks.items u.best.demerits
end-best g t u galley table h none known within =
    subst (λ (k : Galley). IsBest k u.best.breaks.items u.best.demerits) same
    (searched-best u.galley.now u.bound u.best.demerits u.best.breaks.items within table.best.is_plan table.best.sum
    (subst (λ (k : Galley). IsSearched u.galley.now u.bound u.best.demerits (reverse u.best.breaks.items) [] (empty_start k) (all_ahead k) (pos 0) []) (sym same)
    (subst (λ (rows : List Row). IsSearched u.galley.now u.bound u.best.demerits (reverse u.best.breaks.items) rows (empty_start g) (all_ahead g) (pos 0) []) none
    (h.all (empty_start g) (all_ahead g) (pos 0) [] known))))
  where
    same : u.galley.now ≡ g
    same = ap (λ (x : Bor Galley). x.now) h.later.galley ∙ galley

-- ---- demerits are never below 0

more-low : (a : ℤ) (o : Option ℤ) (d : ℤ) → pos 0 ≤ℤ a → ((e : ℤ) → o ≡ Some e → pos 0 ≤ℤ e) → more_demerits a o ≡ Some d → pos 0 ≤ℤ d
more-low a None d low each h = let no : ⊥ = none-some d h in absurd no
  where
    none-some : (x : ℤ) → None ≡ Some x → ⊥
    none-some x e = cc
more-low a (Some e) d low each h =
    let b : pos 0 ≤ℤ e = each e refl in
    let sum : (a +ℤ e) ≡ d = (cc) in
    omega (arith, ints, low, b, sum)

end-low : (e : End) (d : ℤ) → demerits_at e ≡ Some d → pos 0 ≤ℤ d
end-low (done left) d h = let same : pos 0 ≡ d = (cc) in omega (arith, ints, same)
end-low other d h = let no : ⊥ = none-some d h in absurd no
  where
    none-some : (x : ℤ) → None ≡ Some x → ⊥
    none-some x e = cc

from-low : (places : List PlacePenalty) (fuel : ℕ) (s : State) (d : ℤ) → unlimited_demerits_from places fuel s ≡ Some d → pos 0 ≤ℤ d
unfolding unlimited_demerits_from
from-low places zero s d h = let no : ⊥ = none-some d h in absurd no
  where
    none-some : (x : ℤ) → None ≡ Some x → ⊥
    none-some x e = cc
from-low places (suc fuel) s d h = by (unlimited_step s) (step-low places s (unlimited_step s)) (λ t e i. from-low places fuel t e i) h
  where
    by : (x : Step) → pos 0 ≤ℤ step_demerits places s (unlimited_step s) → ((t : State) (e : ℤ) → unlimited_demerits_from places fuel t ≡ Some e → pos 0 ≤ℤ e)
        → demerits_after (λ t. unlimited_demerits_from places fuel t) (step_demerits places s (unlimited_step s)) x ≡ Some d → pos 0 ≤ℤ d
    by (ends es rs e) low later k = end-low e d k
    by (goes_on es rs t) low later k = more-low (step_demerits places s (unlimited_step s)) (unlimited_demerits_from places fuel t) d low (later t) k

-- nor are those of a plan
pub plan-low : (g : Galley) (plan : List ℕ) (d : ℤ) → plan_demerits g plan ≡ Some d → pos 0 ≤ℤ d
unfolding plan_demerits unlimited_demerits
plan-low g plan d h =
    more-low (pos (1000 * length plan)) (unlimited_demerits (with_breaks g plan)) d (omega (arith, ints))
    (λ e i. from-low (place_penalties (with_breaks g plan).items) (suc (firings_left (start_of (with_breaks g plan)))) (start_of (with_breaks g plan)) e i) h
