-- A firing after the acts of its page keeps the bound, if the top skip is higher than a page.
use Rattle.std.proofs.Common.{◌≡◌, refl, subst, ℕ, suc, ◌+◌, ◌*◌, ◌≤◌, ◌⊎◌, true, false, [], arith}
use Rattle.std.specs.Prelude.{◌<ℤ◌}
use Rattle.tb_param.specs.Ranges.{are_params}
use Rattle.tb_builder.specs.FiredPages.{frozen_for}
use Rattle.tb_builder.proofs.Cutting.CutLemmas.{acted_of}
use Rattle.tb_column.specs.Column.{standing_notes}
use Rattle.tb_output.specs.State.{State, footnotes}
use Rattle.tb_steps.specs.Run.{ask_for}
use Rattle.tb_steps.proofs.RunTree.{page_of, fired_at, served_at}
use Rattle.tb_output.specs.Output
use Rattle.tb_sheet.specs.Asked
use Rattle.tb_laws.proofs.Closed.Sorts.{sorts}
use Rattle.tb_laws.proofs.DeadCycles.ValidPenalties.{interline-calm, maxdepth-low, textheight-low}
use Rattle.tb_laws.proofs.DeadCycles.AgainLemmas.{Again}
use Rattle.tb_laws.proofs.DeadCycles.WaitCosts.{wait_cost, acts_cost}
use Rattle.tb_laws.proofs.DeadCycles.EndedLemmas.{Ended}
use Rattle.tb_laws.proofs.DeadCycles.SpacedLemmas.{Spaced}
use Rattle.tb_laws.proofs.DeadCycles.ServeOutcomes.{way_floats}
use Rattle.tb_laws.proofs.DeadCycles.ActCosts.{Acts, again-cost}
use Rattle.tb_laws.proofs.DeadCycles.CycleStates.{Phase, starting, second, ending, PhaseHolds, phase_cost, any}
use Rattle.tb_laws.proofs.DeadCycles.HighStates.{Stage, guarded, cleared, right, last, stage_cost, StageHolds, phase_of, phase-holds, BoundedHigh}
use Rattle.tb_laws.proofs.DeadCycles.HighFirings.{FiresHigh, out-high, high-ended, high-spaced}
use Rattle.tb_laws.proofs.DeadCycles.BetweenClears.{BetweenClears}
use Rattle.tb_laws.proofs.NothingLost.RunWeights.{Kept}
use Rattle.tb_laws.proofs.DeadCycles.RaiseCounts.{box_raises}
use Rattle.tb_laws.proofs.DeadCycles.RaiseFirings.{Drops}
use Rattle.tb_laws.proofs.DeadCycles.CyclePages.{rest-ended, rest-spaced, behind-spaced, reached-cost, any-well, phase-well}
use Rattle.tb_laws.proofs.DeadCycles.HighPages.{no-clear}
use Rattle.tb_laws.proofs.DeadCycles.LowGoing.{total}

-- there were few firings without a page
pub high-few : (m : ℕ) (s : State) → BoundedHigh s.params m s → s.dead_cycles ≤ m + 3
high-few m s b =
    let h : 3 * b.again ≤ wait_cost s.waiting = again-cost b.again s.waiting b.region in
    sums s.dead_cycles (wait_cost s.waiting) (way_floats s.floats) (stage_cost b.stage) b.again b.bound h
  where
    sums : (d w y c a : ℕ) → d + w + 2 * y + c ≤ m + 3 + 3 * a → 3 * a ≤ w → d ≤ m + 3
    sums d w y c a h k = omega arith

-- the bound is kept, or the page drops what raises it, and it is kept with four more; and the clears that wait are laid out as they were
abbrev pub HighKept : ℕ → State → State → Type 0
HighKept m s t = (served_at s t).refused ≡ false → (BoundedHigh t.params m (served_at s t).state ⊎ (Drops t (fired_at s t) × BoundedHigh t.params (m + 4) (served_at s t).state)) × Ended false (served_at s t).state.waiting × Spaced true (served_at s t).state.waiting

-- a stage of each phase that does not end with the next firing
abbrev stage_of : Phase → Stage
stage_of starting = cleared
stage_of second = right
stage_of ending = last

-- the firing of the page of a state
module _ (m : ℕ) (s : State) (kept : Kept s) (ended : Ended false s.waiting) (spaced : Spaced true s.waiting) where
  -- after its acts, if no clear of the routine is to come
  pub high-closed : (n : ℕ) (t : State) → Acts n s t → are_params t.params ≡ true → BetweenClears m (total s t) t → HighKept m s t
  high-closed n t a ranges b r =
      let calm = interline-calm t.params ranges in
      let x = stage_of b.phase in
      let holds : StageHolds t.params t 0 (stage_of b.phase) = holds-at b.phase b.at b.going in
      let weight : total s t + 2 * way_floats t.floats ≤ m + 3 * 0 = sums (total s t) (way_floats t.floats) b.weight in
      let bound : t.dead_cycles + total s t + 2 * way_floats t.floats + stage_cost (stage_of b.phase) ≤ m + 3 + 3 * 0 = sums-with t.dead_cycles (total s t) (way_floats t.floats) (phase_cost b.phase) (stage_cost (stage_of b.phase)) (less b.phase) b.bound in
      let fires : FiresHigh t.params t (total s t) 0 (stage_of b.phase) (fired_at s t) = record {
        well = any-well s kept ended t a.classes a.boxes a.held (frozen_for (ask_for s) t.classes t.boxes) 0 any (phase_of (stage_of b.phase)) (λ i. cc) (λ i. cc) (λ i. cc) (λ i. absurd (no-end b.phase b.going i)) tt;
        behind = λ c. behind-spaced s kept ended spaced c;
        guard = λ i c v o. unguarded b.phase i;
      } in (
        out-high t.params m t (total s t) 0 x (fired_at s t) calm holds b.floats weight bound fires r,
        high-ended t.params m t (total s t) 0 x (fired_at s t) calm holds b.floats weight bound fires (rest-ended s kept ended),
        high-spaced t.params m t (total s t) 0 x (fired_at s t) calm holds b.floats weight bound fires (rest-spaced s kept ended spaced),
      )
    where
      sums : (x y : ℕ) → x + 2 * y ≤ m → x + 2 * y ≤ m + 3 * 0
      sums x y h = omega arith

      sums-with : (d x y q u : ℕ) → u ≤ q → d + x + 2 * y + q ≤ m + 3 → d + x + 2 * y + u ≤ m + 3 + 3 * 0
      sums-with d x y q u l h = omega arith

      less : (q : Phase) → stage_cost (stage_of q) ≤ phase_cost q
      less starting = omega arith
      less second = omega arith
      less ending = omega arith

      holds-at : (q : Phase) → PhaseHolds t q → (q ≡ ending → ⊥) → StageHolds t.params t 0 (stage_of q)
      holds-at starting h going = refl
      holds-at second h going = h
      holds-at ending h going = h

      no-end : (q : Phase) → (q ≡ ending → ⊥) → phase_of (stage_of q) ≡ ending → ⊥
      no-end starting going i = cc
      no-end second going i = cc
      no-end ending going i = going refl

      unguarded : (q : Phase) → stage_of q ≡ guarded → ⊥
      unguarded starting i = cc
      unguarded second i = cc
      unguarded ending i = cc

  -- if clears of the routine are to come, no act is reached
  pub high-open : s.params.textheight <ℤ s.params.topskip → (b : BoundedHigh s.params m s) (n : ℕ) → b.again ≡ suc n → HighKept m s s
  high-open high b n e r =
      let calm = interline-calm s.params kept.ranges in
      let weight : total s s + 2 * way_floats s.floats ≤ m + 3 * b.again = sums (total s s) (way_floats s.floats) (wait_cost s.waiting) (acts_cost (acted_of (page_of s).reached)) b.again (reached-cost s kept ended) b.weight in
      let bound : s.dead_cycles + total s s + 2 * way_floats s.floats + stage_cost b.stage ≤ m + 3 + 3 * b.again = sums-with s.dead_cycles (total s s) (way_floats s.floats) (wait_cost s.waiting) (acts_cost (acted_of (page_of s).reached)) b.again (stage_cost b.stage) (reached-cost s kept ended) b.bound in
      let fires : FiresHigh s.params s (total s s) b.again b.stage (fired_at s s) = record {
        well = phase-well s kept ended s refl refl refl (frozen_for (ask_for s) s.classes s.boxes) b.again (phase_of b.stage) (phase-holds s.params s b.again b.stage b.holds) b.region;
        behind = λ c. behind-spaced s kept ended spaced c;
        guard = by_guard b.stage b.holds;
      } in (
        out-high s.params m s (total s s) b.again b.stage (fired_at s s) calm b.holds b.floats weight bound fires r,
        high-ended s.params m s (total s s) b.again b.stage (fired_at s s) calm b.holds b.floats weight bound fires (rest-ended s kept ended),
        high-spaced s.params m s (total s s) b.again b.stage (fired_at s s) calm b.holds b.floats weight bound fires (rest-spaced s kept ended spaced),
      )
    where
      sums : (x y w n g : ℕ) → x + n ≤ w → w + 2 * y ≤ m + 3 * g → x + 2 * y ≤ m + 3 * g
      sums x y w n g h i = omega arith

      sums-with : (d x y w n g q : ℕ) → x + n ≤ w → d + w + 2 * y + q ≤ m + 3 + 3 * g → d + x + 2 * y + q ≤ m + 3 + 3 * g
      sums-with d x y w n g q h i = omega arith

      by_guard : (x : Stage) → StageHolds s.params s b.again x → x ≡ guarded → Output.is_int (fired_at s s).penalty Asked.clear_penalty ≡ true → standing_notes (footnotes (record s { boxes = (fired_at s s).boxes })) ≡ [] → box_raises (fired_at s s).boxes ≡ 0 → ⊥
      by_guard guarded h i c v o = no-clear s kept ended (maxdepth-low s.params kept.ranges) (textheight-low s.params kept.ranges) high n (subst (λ (x : ℕ). Again x (sorts s.waiting)) e b.region) h.goal h.spaced (frozen_for (ask_for s) s.classes s.boxes) c v o
      by_guard x h i c v o = cc
