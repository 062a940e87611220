-- Items are taken one after the other from a state while no page fires.
use Rattle.std.proofs.Common.{◌≡◌, refl, sym, ◌∙◌, subst, ℕ, suc, ◌-◌, ◌<◌, ◌≤◌, ℤ, [], ◌∷◌, length, FitsSigned, arith}
use Rattle.std.proofs.lemmas.Int.{ints}
use Rattle.std.specs.Prelude.{pos, ◌+ℤ◌, ◌≤ℤ◌, reverse}
use Rattle.std.specs.Int.{w128}
use Rattle.tb_rate.specs.Places.{place_penalties}
use Rattle.tb_best.specs.PlanDemerits.{unlimited_step}
use Rattle.tb_best.specs.ItemsAhead.{all_ahead}
use Rattle.tb_search.specs.declared.branch.Branch.{Branch}
use Rattle.tb_search.specs.declared.table.Start.{Start}
use Rattle.tb_search.specs.declared.table.Table.{Table}
use Rattle.tb_search.specs.Branches.{shown, next_of, IsBranch, HasTaken}
use Rattle.tb_search.specs.FilledBranches.{HasFired, IsRefused, IsRefusal, IsQuiet}
use Rattle.tb_search.specs.AheadInCode.{items_ahead}
use Rattle.tb_search.specs.Starts.{row_of, IsReached, MayTake}
use Rattle.tb_search.specs.KeptStarts.{IsNoWorseWay}
use Rattle.tb_search.specs.Continues.{IsSearchedBy, IsSearchedAsGoodBy, IsSearchedFrom, IsTakenOn, Continues, HasSearched, IsCutSearched}
use Rattle.tb_search.proofs.LaterLemmas.{later-itself, later-through, searched-itself, continues-searched, searched-through, one-searched}
use Rattle.tb_search.proofs.ReachedWays.{reached-taken, reached-fired, shown-taken}
use Rattle.tb_search.proofs.SumLemmas.{held, sum-fits, sum-is, within-range, page-few}
use Rattle.tb_search.proofs.SearchSteps.{refused-searched, end-searched, no-end-searched, fired-searched, taken-searched}

pub none-taken : (t : Table) (left : ℕ) (x : Start) → IsReached t.galley.now left x → x.way.demerits ≤ℤ t.bound → IsTakenOn t left x t left x
none-taken t left x h k = record { searched = searched-itself t; levels = refl; reached = h; below = omega arith; high = k; back = λ v on s. s }

-- one more is taken, after the ways with a break before it were searched
pub one-taken : (t : Table) (left : ℕ) (x : Start) (u v : Table) (behind : ℕ) (y : Start) (c : Branch) → suc behind ≤ length (all_ahead u.galley.now) → IsTakenOn t left x u (suc behind) y → MayTake (shown y.branch) → Continues u v
    → IsCutSearched v (shown y.branch) (items_ahead u.galley.now (suc behind)) y.way.demerits (reverse y.way.breaks.items) → HasTaken (next_of y.branch.ahead) y.branch c → IsBranch c → IsTakenOn t left x v behind (record { branch = c; way = y.way })
one-taken t left x u v behind y c some h may on cut taken is = record {
  searched = searched-through [] t u v h.searched (continues-searched u v on);
  levels = on.levels ∙ h.levels;
  reached = subst (λ a. IsReached a.now behind (record { branch = c; way = y.way })) (sym on.later.galley) (reached-taken u.galley.now behind y c some h.reached taken is);
  below = let k = h.below in omega (arith, k);
  high = subst (λ b. y.way.demerits ≤ℤ b) (sym on.later.bound) h.high;
  back = λ w later s.
      h.back w (searched-through [] u v w (continues-searched u v on) later)
      (taken-searched u w (later-through u v w on.later later.later) v behind (shown y.branch) y.way.demerits (reverse y.way.breaks.items) some may later cut
      (subst (λ s. IsSearchedBy w s (items_ahead u.galley.now behind) y.way.demerits (reverse y.way.breaks.items)) (shown-taken u.galley.now behind y c some h.reached taken)
      (subst (λ a. IsSearchedBy w (shown c) (items_ahead a.now behind) y.way.demerits (reverse y.way.breaks.items)) on.later.galley s)));
}

-- a state has no more items ahead than its galley
pub inside-now : (t : Table) (left : ℕ) (x : Start) (u : Table) (behind : ℕ) (y : Start) → IsTakenOn t left x u behind y → left ≤ length (all_ahead t.galley.now) → behind ≤ length (all_ahead u.galley.now)
inside-now t left x u behind y h inside =
    let k = h.below in
    let i = subst (λ a. left ≤ length (all_ahead a.now)) (sym h.searched.later.galley) inside in
    omega (arith, k, i)

-- the level of a state is one of those of the table
pub level-now : (t : Table) (left : ℕ) (x : Start) (u : Table) (behind : ℕ) (y : Start) → IsTakenOn t left x u behind y → left ≤ length t.starts.items → behind ≤ length u.starts.items
level-now t left x u behind y h level = let k = h.below in let e = h.levels in omega (arith, k, e, level)

-- the same as in `one-taken`, if something is ahead
pub next-taken-on : (t : Table) (left : ℕ) (x : Start) (u v : Table) (behind : ℕ) (y : Start) (c : Branch) → left ≤ length (all_ahead t.galley.now) → 0 < behind → IsTakenOn t left x u behind y → MayTake (shown y.branch) → Continues u v
    → IsCutSearched v (shown y.branch) (items_ahead u.galley.now behind) y.way.demerits (reverse y.way.breaks.items) → HasTaken (next_of y.branch.ahead) y.branch c → IsBranch c → IsTakenOn t left x v (behind - 1) (record { branch = c; way = y.way })
next-taken-on t left x u v behind y c inside some h may on cut taken is =
    let e : behind ≡ suc (behind - 1) = omega (arith, some) in
    let i = inside-now t left x u behind y h inside in
    one-taken t left x u v (behind - 1) y c (omega (arith, some, i)) (subst (λ n. IsTakenOn t left x u n y) e h) may on
    (subst (λ n. IsCutSearched v (shown y.branch) (items_ahead u.galley.now n) y.way.demerits (reverse y.way.breaks.items)) e cut) taken is

module _ (t : Table) (left : ℕ) (x : Start) (u : Table) (behind : ℕ) (y : Start) (h : IsTakenOn t left x u behind y) where
  -- the last of these states is searched
  pub taken-done : (v : Table) → HasSearched [] u v → IsSearchedFrom u.galley.now behind y v → HasSearched (row_of t.galley.now left x ∷ []) t v
  taken-done v on s = one-searched t v (row_of t.galley.now left x) (searched-through [] t u v h.searched on) (h.back v on s)

  -- its page fired, and the state after it is searched
  pub taken-fired : (c : Branch) (d : ℤ) (v : Table) → HasFired (place_penalties u.galley.now.items) d y.branch c → Continues u v
      → IsSearchedAsGoodBy v (shown c) (items_ahead u.galley.now behind) (y.way.demerits +ℤ d) (reverse y.way.breaks.items) → HasSearched (row_of t.galley.now left x ∷ []) t v
  taken-fired c d v k on s =
      taken-done v (continues-searched u v on)
      (fired-searched u v on.later y.branch c (items_ahead u.galley.now behind) d y.way.demerits (reverse y.way.breaks.items) k s)

  -- no run goes on from it
  pub taken-refused : IsRefused (shown y.branch) → HasSearched (row_of t.galley.now left x ∷ []) t u
  taken-refused k = taken-done u (searched-itself u) (refused-searched u u (later-itself u) (shown y.branch) (items_ahead u.galley.now behind) y.way.demerits (reverse y.way.breaks.items) k)

  -- nothing is ahead, and the run ends well
  pub taken-ended : (v : Table) → behind ≡ 0 → IsQuiet (shown y.branch) → Continues u v → IsNoWorseWay v.best y.way → HasSearched (row_of t.galley.now left x ∷ []) t v
  taken-ended v none quiet on best =
      taken-done v (continues-searched u v on)
      (subst (λ n. IsSearchedFrom u.galley.now n y v) (sym none) (end-searched u v on.later (shown y.branch) y.way quiet best))

  -- nothing is ahead, and the run does not end well
  pub taken-left : behind ≡ 0 → MayTake (shown y.branch) → IsRefusal (unlimited_step (shown y.branch)) → HasSearched (row_of t.galley.now left x ∷ []) t u
  taken-left none may k =
      taken-done u (searched-itself u)
      (subst (λ n. IsSearchedFrom u.galley.now n y u) (sym none) (no-end-searched u u (later-itself u) (shown y.branch) y.way.demerits (reverse y.way.breaks.items) may k))

  -- its page fired: the demerits are summed in code
  module _ (range : u.bound ≤ℤ pos 1000000000000000000000000000) (c : Branch) (d : ℤ) (k : HasFired (place_penalties u.galley.now.items) d y.branch c) where
    within : y.way.demerits ≤ℤ pos 1000000000000000000000000000
    within = within-range y.way.demerits u.bound (pos 1000000000000000000000000000) h.high range

    -- the demerits after the page, as the code has them
    abbrev pub summed : ℤ
    summed = held (held y.way.demerits +ℤ held d)

    summed-is : summed ≡ (y.way.demerits +ℤ d)
    summed-is = sum-is y.way.demerits d h.reached.low within k.low (page-few d k.high)

    pub summed-fits : FitsSigned w128 (held y.way.demerits +ℤ held d)
    summed-fits = sum-fits y.way.demerits d h.reached.low within k.low (page-few d k.high)

    pub summed-high : summed ≤ℤ (u.bound +ℤ pos 1000000000000)
    summed-high = subst (λ a. a ≤ℤ (u.bound +ℤ pos 1000000000000)) (sym summed-is) (let high = h.high in let few = page-few d k.high in omega (arith, ints, high, few))

    pub summed-reached : IsReached u.galley.now behind (record { branch = c; way = record { breaks = y.way.breaks; demerits = summed } })
    summed-reached = subst (λ a. IsReached u.galley.now behind (record { branch = c; way = record { breaks = y.way.breaks; demerits = a } })) (sym summed-is) (reached-fired u.galley.now behind y c d h.reached k)

    pub summed-searched : (v : Table) → Continues u v → IsSearchedAsGoodBy v (shown c) (items_ahead u.galley.now behind) summed (reverse y.way.breaks.items) → HasSearched (row_of t.galley.now left x ∷ []) t v
    summed-searched v on s = taken-fired c d v k on (subst (λ a. IsSearchedAsGoodBy v (shown c) (items_ahead u.galley.now behind) a (reverse y.way.breaks.items)) summed-is s)
