-- The run is defined for every galley: its firings are never used up.
use Rattle.std.specs.Prelude.{◌≡◌, ◌<◌, ◌≤◌, ◌≤ℤ◌, ℕ, pos}
use Rattle.tb_param.specs.declared.Params.{Params}
use Rattle.tb_output.specs.State.{State}
use Rattle.tb_steps.specs.Run.{End, done, pool_full, dead_cycles, page_limit, node_limit, run_from, firings_left}

-- a run that ends for its dead cycles has at least `maxdeadcycles` of them, which no item sets, and so was not cut off
abbrev pub HasReason : Params → End → Type 0
HasReason p (done left) = Unit {0}
HasReason p (pool_full line live) = Unit {0}
HasReason p (dead_cycles n) = p.maxdeadcycles ≤ℤ pos n
HasReason p (page_limit n) = Unit {0}
HasReason p (node_limit n) = Unit {0}

-- with more firings than are left, any two bounds give the same run
abbrev pub BoundsAgree : Type 0
BoundsAgree = (k m : ℕ) (s : State) → 1 ≤ s.page → firings_left s < k → firings_left s < m → run_from k s ≡ run_from m s

-- with more firings than are left, a run ends for a reason of its own
abbrev pub EndsHaveReasons : Type 0
EndsHaveReasons = (k : ℕ) (s : State) → 1 ≤ s.page → firings_left s < k → HasReason s.params (run_from k s).end
