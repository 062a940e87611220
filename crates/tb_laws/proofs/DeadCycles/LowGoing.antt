-- A firing after the acts of its page keeps the bound, if the top skip is no higher than a page.
use Rattle.std.proofs.Common.{◌≡◌, refl, ℕ, ◌+◌, ◌*◌, ◌≤◌, ◌⊎◌, true, false, arith}
use Rattle.std.specs.Prelude.{◌≤ℤ◌}
use Rattle.tb_param.specs.Ranges.{are_params}
use Rattle.tb_builder.specs.FiredPages.{frozen_for}
use Rattle.tb_builder.proofs.Cutting.CutLemmas.{acted_of}
use Rattle.tb_output.specs.State.{State}
use Rattle.tb_steps.specs.Run.{ask_for}
use Rattle.tb_steps.proofs.RunTree.{page_of, fired_at, served_at}
use Rattle.tb_laws.proofs.Closed.Sorts.{pen_sort}
use Rattle.tb_laws.proofs.DeadCycles.ValidPenalties.{interline-calm, topskip-low, maxdepth-low}
use Rattle.tb_laws.proofs.DeadCycles.WaitCosts.{sort_cost, wait_cost, acts_cost}
use Rattle.tb_laws.proofs.DeadCycles.EndedLemmas.{Ended}
use Rattle.tb_laws.proofs.DeadCycles.SpacedLemmas.{Spaced}
use Rattle.tb_laws.proofs.DeadCycles.ServeOutcomes.{way_floats}
use Rattle.tb_laws.proofs.DeadCycles.CycleStates.{closed, credit, phase_cost, Bounded}
use Rattle.tb_laws.proofs.DeadCycles.CycleVoids.{out-bounded}
use Rattle.tb_laws.proofs.DeadCycles.CycleEnds.{out-ended, out-spaced}
use Rattle.tb_laws.proofs.DeadCycles.ActCosts.{Acts, again-cost}
use Rattle.tb_laws.proofs.DeadCycles.BetweenClears.{BetweenClears}
use Rattle.tb_laws.proofs.NothingLost.RunWeights.{Kept}
use Rattle.tb_laws.proofs.DeadCycles.RaiseFirings.{Drops}
use Rattle.tb_laws.proofs.DeadCycles.CyclePages.{rest-ended, rest-spaced, behind-spaced, reached-cost, closed-well, open-well}

-- there were few firings without a page
pub low-few : (m : ℕ) (s : State) → Bounded s.params m s → s.dead_cycles ≤ m + 3
low-few m s b =
    let h : 3 * b.again ≤ wait_cost s.waiting = again-cost b.again s.waiting b.region in
    sums s.dead_cycles (wait_cost s.waiting) (way_floats s.floats) (credit b.kind) (phase_cost b.phase) b.again b.bound h
  where
    sums : (d w y c q a : ℕ) → d + w + 2 * y + c + q ≤ m + 3 + 2 * a → 3 * a ≤ w → d ≤ m + 3
    sums d w y c q a h k = omega arith

-- what the page that fires leaves costs this much
abbrev pub total : State → State → ℕ
total s t = wait_cost (fired_at s t).rest + sort_cost (pen_sort (fired_at s t).penalty)

-- the bound is kept, or the page drops what raises it, and it is kept with four more; and the clears that wait are laid out as they were
abbrev pub LowKept : ℕ → State → State → Type 0
LowKept m s t = (served_at s t).refused ≡ false → (Bounded t.params m (served_at s t).state ⊎ (Drops t (fired_at s t) × Bounded t.params (m + 4) (served_at s t).state)) × Ended false (served_at s t).state.waiting × Spaced true (served_at s t).state.waiting

-- the firing of the page of a state
module _ (m : ℕ) (s : State) (kept : Kept s) (ended : Ended false s.waiting) (spaced : Spaced true s.waiting) where
  -- after its acts, if no clear of the routine is to come
  pub low-closed : (n : ℕ) (t : State) → Acts n s t → are_params t.params ≡ true → BetweenClears m (total s t) t → LowKept m s t
  low-closed n t a ranges b r =
      let calm = interline-calm t.params ranges in
      let well = closed-well s kept ended t a.classes a.boxes a.held (frozen_for (ask_for s) t.classes t.boxes) 0 b.phase refl b.going tt in
      let weight : total s t + 2 * way_floats t.floats + 0 ≤ m + 2 * 0 = sums (total s t) (way_floats t.floats) b.weight in
      let bound : t.dead_cycles + total s t + 2 * way_floats t.floats + 0 + phase_cost b.phase ≤ m + 3 + 2 * 0 = sums-with t.dead_cycles (total s t) (way_floats t.floats) (phase_cost b.phase) b.bound in (
        out-bounded t.params m t (total s t) 0 closed b.phase (fired_at s t) calm refl b.at b.floats weight bound well r,
        out-ended t.params m t (total s t) 0 closed b.phase (fired_at s t) calm refl b.at b.floats weight bound well (rest-ended s kept ended),
        out-spaced t.params m t (total s t) 0 closed b.phase (fired_at s t) calm refl b.at b.floats weight bound well (rest-spaced s kept ended spaced) (λ c. behind-spaced s kept ended spaced c),
      )
    where
      sums : (x y : ℕ) → x + 2 * y ≤ m → x + 2 * y + 0 ≤ m + 2 * 0
      sums x y h = omega arith

      sums-with : (d x y q : ℕ) → d + x + 2 * y + q ≤ m + 3 → d + x + 2 * y + 0 + q ≤ m + 3 + 2 * 0
      sums-with d x y q h = omega arith

  -- if clears of the routine are to come, no act is reached
  pub low-open : s.params.topskip ≤ℤ s.params.textheight → Bounded s.params m s → LowKept m s s
  low-open room b r =
      let calm = interline-calm s.params kept.ranges in
      let well = open-well s kept ended (topskip-low s.params kept.ranges) room (maxdepth-low s.params kept.ranges) b.again b.kind b.phase b.region b.holds b.at in
      let weight : total s s + 2 * way_floats s.floats + credit b.kind ≤ m + 2 * b.again = sums (total s s) (way_floats s.floats) (wait_cost s.waiting) (acts_cost (acted_of (page_of s).reached)) (credit b.kind) b.again (reached-cost s kept ended) b.weight in
      let bound : s.dead_cycles + total s s + 2 * way_floats s.floats + credit b.kind + phase_cost b.phase ≤ m + 3 + 2 * b.again = sums-with s.dead_cycles (total s s) (way_floats s.floats) (wait_cost s.waiting) (acts_cost (acted_of (page_of s).reached)) (credit b.kind) b.again (phase_cost b.phase) (reached-cost s kept ended) b.bound in (
        out-bounded s.params m s (total s s) b.again b.kind b.phase (fired_at s s) calm b.holds b.at b.floats weight bound well r,
        out-ended s.params m s (total s s) b.again b.kind b.phase (fired_at s s) calm b.holds b.at b.floats weight bound well (rest-ended s kept ended),
        out-spaced s.params m s (total s s) b.again b.kind b.phase (fired_at s s) calm b.holds b.at b.floats weight bound well (rest-spaced s kept ended spaced) (λ c. behind-spaced s kept ended spaced c),
      )
    where
      sums : (x y w n k g : ℕ) → x + n ≤ w → w + 2 * y + k ≤ m + 2 * g → x + 2 * y + k ≤ m + 2 * g
      sums x y w n k g h i = omega arith

      sums-with : (d x y w n k g q : ℕ) → x + n ≤ w → d + w + 2 * y + k + q ≤ m + 3 + 2 * g → d + x + 2 * y + k + q ≤ m + 3 + 2 * g
      sums-with d x y w n k g q h i = omega arith
