-- Pages are filled one after the other while they fire, and then the state is kept.
use Rattle.std.proofs.Common.{◌≡◌, sym, subst, ℕ, ℤ, arith}
use Rattle.std.specs.Prelude.{pos, ◌+ℤ◌, ◌≤ℤ◌, ◌<ℤ◌, reverse}
use Rattle.std.proofs.lemmas.Int.{ints}
use Rattle.tb_galley.specs.declared.Galley.{Galley}
use Rattle.tb_rate.specs.Places.{place_penalties}
use Rattle.tb_search.specs.declared.branch.Branch.{Branch}
use Rattle.tb_search.specs.declared.table.Start.{Start}
use Rattle.tb_search.specs.declared.table.Table.{Table}
use Rattle.tb_search.specs.Branches.{shown}
use Rattle.tb_search.specs.FilledBranches.{HasFired, IsFull, IsRefused}
use Rattle.tb_search.specs.AheadInCode.{items_ahead}
use Rattle.tb_search.specs.Starts.{IsReached}
use Rattle.tb_search.specs.Continues.{IsSearchedBy, IsSearchedAsGoodBy, IsLater}
use Rattle.tb_search.proofs.LaterLemmas.{later-itself}
use Rattle.tb_search.proofs.ReachedWays.{reached-fired}
use Rattle.tb_search.proofs.SearchSteps.{as-searched, over-searched, refused-searched, fired-searched, no-end-searched, full-may}

-- this state of a table with so many items ahead is searched
abbrev pub IsStartSearched : Galley → ℕ → Start → Table → Type 0
IsStartSearched g left x u = IsSearchedAsGoodBy u (shown x.branch) (items_ahead g left) x.way.demerits (reverse x.way.breaks.items)

-- pages were filled from the first state to the second: if that is searched in a later table, so is the first
pub record IsFilledOn (t : Table) (left : ℕ) (x y : Start) : Type 0 where
  pub reached : IsReached t.galley.now left y
  pub high : y.way.demerits ≤ℤ (t.bound +ℤ pos 1000000000000)
  pub back : (u : Table) → IsLater t u → IsStartSearched t.galley.now left y u → IsStartSearched t.galley.now left x u

pub none-filled : (t : Table) (left : ℕ) (x : Start) → IsReached t.galley.now left x → x.way.demerits ≤ℤ (t.bound +ℤ pos 1000000000000) → IsFilledOn t left x x
none-filled t left x h k = record { reached = h; high = k; back = λ u later s. s }

more-high : (a d b : ℤ) → a ≤ℤ b → d ≤ℤ pos 352689971456 → (a +ℤ d) ≤ℤ (b +ℤ pos 1000000000000)
more-high a d b h k = omega (arith, ints, h, k)

pub one-filled : (t : Table) (left : ℕ) (x y : Start) (c : Branch) (d : ℤ) → IsFilledOn t left x y → y.way.demerits ≤ℤ t.bound → HasFired (place_penalties t.galley.now.items) d y.branch c
    → IsFilledOn t left x (record { branch = c; way = record { breaks = y.way.breaks; demerits = y.way.demerits +ℤ d } })
one-filled t left x y c d h within k = record {
  reached = reached-fired t.galley.now left y c d h.reached k;
  high = more-high y.way.demerits d t.bound within k.high;
  back = λ u later s.
      h.back u later
      (as-searched u (shown y.branch) (items_ahead t.galley.now left) y.way.demerits (reverse y.way.breaks.items)
      (fired-searched t u later y.branch c (items_ahead t.galley.now left) d y.way.demerits (reverse y.way.breaks.items) k s));
}

-- it has more demerits than the bound
pub filled-over : (t : Table) (left : ℕ) (x y : Start) → IsFilledOn t left x y → t.bound <ℤ y.way.demerits → IsStartSearched t.galley.now left x t
filled-over t left x y h k = h.back t (later-itself t) (over-searched t t (later-itself t) (shown y.branch) (items_ahead t.galley.now left) y.way.demerits (reverse y.way.breaks.items) k)

-- no run goes on from it
pub filled-refused : (t : Table) (left : ℕ) (x y : Start) → IsFilledOn t left x y → IsRefused (shown y.branch) → IsStartSearched t.galley.now left x t
filled-refused t left x y h k =
    h.back t (later-itself t)
    (as-searched t (shown y.branch) (items_ahead t.galley.now left) y.way.demerits (reverse y.way.breaks.items)
    (refused-searched t t (later-itself t) (shown y.branch) (items_ahead t.galley.now left) y.way.demerits (reverse y.way.breaks.items) k))

-- nothing is ahead, and no run ends well
pub filled-full : (t : Table) (left : ℕ) (x y : Start) → IsFilledOn t left x y → left ≡ 0 → IsFull (shown y.branch) → IsStartSearched t.galley.now left x t
filled-full t left x y h none full =
    h.back t (later-itself t)
    (as-searched t (shown y.branch) (items_ahead t.galley.now left) y.way.demerits (reverse y.way.breaks.items)
    (subst (λ n. IsSearchedBy t (shown y.branch) (items_ahead t.galley.now n) y.way.demerits (reverse y.way.breaks.items)) (sym none)
    (no-end-searched t t (later-itself t) (shown y.branch) y.way.demerits (reverse y.way.breaks.items) (full-may (shown y.branch) full) full.step)))
