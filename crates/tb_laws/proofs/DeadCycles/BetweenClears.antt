-- Where no clear of the routine is to come, both bounds say the same; and only there an act is reached, which keeps it.
use Rattle.std.proofs.Common.{◌≡◌, refl, ◌∙◌, subst, ℕ, ◌+◌, ◌*◌, ◌≤◌, inl, inr, ◌⊎◌, arith}
use Rattle.tb_output.specs.State.{State}
use Rattle.tb_laws.proofs.DeadCycles.WaitCosts.{wait_cost}
use Rattle.tb_laws.proofs.DeadCycles.ServeOutcomes.{way_floats}
use Rattle.tb_laws.proofs.DeadCycles.ActCosts.{Acts}
use Rattle.tb_laws.proofs.DeadCycles.CycleStates.{credit, Phase, starting, second, ending, phase_cost, PhaseHolds, FloatsFit, Bounded, IsSecond}
use Rattle.tb_laws.proofs.DeadCycles.HighStates.{Stage, loose, last, stage_cost, phase_of, phase-holds, BoundedHigh}

-- what waits costs this much, and no clear of the routine is to come: with the floats that is bounded, and so are these with the dead cycles and the phase
pub record BetweenClears (m total : ℕ) (s : State) : Type 0 where
  pub phase : Phase
  pub at : PhaseHolds s phase
  pub going : phase ≡ ending → ⊥
  pub floats : FloatsFit s.params s
  pub weight : total + 2 * way_floats s.floats ≤ m
  pub bound : s.dead_cycles + total + 2 * way_floats s.floats + phase_cost phase ≤ m + 3

no-clear : (n : ℕ) → n ≡ 0 → 1 ≤ n → ⊥
no-clear n h k = omega arith

-- ---- from either bound

pub low-between : (m : ℕ) (s : State) (b : Bounded s.params m s) → b.again ≡ 0 → BetweenClears m (wait_cost s.waiting) s
low-between m s b z = record {
  phase = b.phase;
  at = b.at;
  going = λ e. no-clear b.again z (b.coming e);
  floats = b.floats;
  weight = sums (wait_cost s.waiting) (way_floats s.floats) (credit b.kind) b.again b.weight z;
  bound = sums-with s.dead_cycles (wait_cost s.waiting) (way_floats s.floats) (credit b.kind) b.again (phase_cost b.phase) b.bound z;
}
  where
    sums : (w y k g : ℕ) → w + 2 * y + k ≤ m + 2 * g → g ≡ 0 → w + 2 * y ≤ m
    sums w y k g h z = omega arith

    sums-with : (d w y k g q : ℕ) → d + w + 2 * y + k + q ≤ m + 3 + 2 * g → g ≡ 0 → d + w + 2 * y + q ≤ m + 3
    sums-with d w y k g q h z = omega arith

pub high-between : (m : ℕ) (s : State) (b : BoundedHigh s.params m s) → b.again ≡ 0 → BetweenClears m (wait_cost s.waiting) s
high-between m s b z = record {
  phase = phase_of b.stage;
  at = phase-holds s.params s b.again b.stage b.holds;
  going = going b.stage b.coming;
  floats = b.floats;
  weight = sums (wait_cost s.waiting) (way_floats s.floats) b.again b.weight z;
  bound = sums-with s.dead_cycles (wait_cost s.waiting) (way_floats s.floats) b.again (phase_cost (phase_of b.stage)) (stage_cost b.stage) (less b.stage) b.bound z;
}
  where
    going : (x : Stage) → (x ≡ last → 1 ≤ b.again) → phase_of x ≡ ending → ⊥
    going last c e = no-clear b.again z (c refl)
    going x c e = cc

    less : (x : Stage) → phase_cost (phase_of x) ≤ stage_cost x
    less loose = omega arith
    less x = omega arith

    sums : (w y g : ℕ) → w + 2 * y ≤ m + 3 * g → g ≡ 0 → w + 2 * y ≤ m
    sums w y g h z = omega arith

    sums-with : (d w y g q u : ℕ) → q ≤ u → d + w + 2 * y + u ≤ m + 3 + 3 * g → g ≡ 0 → d + w + 2 * y + q ≤ m + 3
    sums-with d w y g q u l h z = omega arith

-- ---- acts

-- acts are paid by what waited, whatever parameters they set
pub acts-between : (m w n x : ℕ) (s t : State) → BetweenClears m w s → Acts n s t → x + n ≤ w → BetweenClears m x t
acts-between m w n x s t b a paid = by_phase b.phase refl b.at
  where
    weight : (y y' : ℕ) → 2 * y ≤ 2 * y' + n → w + 2 * y' ≤ m → x + 2 * y ≤ m
    weight y y' h i = omega (arith, paid)

    bound : (d d' y y' q : ℕ) → d ≡ d' → 2 * y ≤ 2 * y' + n → d' + w + 2 * y' + q ≤ m + 3 → d + x + 2 * y + q ≤ m + 3
    bound d d' y y' q e h i = omega (arith, paid)

    later : (d d' y y' : ℕ) → d ≡ d' → 2 * y + 1 ≤ 2 * y' + n → d' + w + 2 * y' + 1 ≤ m + 3 → d + x + 2 * y + 2 ≤ m + 3
    later d d' y y' e h i = omega (arith, paid)

    bound-at : (q : Phase) → b.phase ≡ q → s.dead_cycles + w + 2 * way_floats s.floats + phase_cost q ≤ m + 3
    bound-at q e = subst (λ (z : Phase). s.dead_cycles + w + 2 * way_floats s.floats + phase_cost z ≤ m + 3) e b.bound

    in-phase : (q : Phase) → b.phase ≡ q → PhaseHolds t q → BetweenClears m x t
    in-phase q e h = record {
      phase = q;
      at = h;
      going = λ i. b.going (e ∙ i);
      floats = a.floats b.floats;
      weight = weight (way_floats t.floats) (way_floats s.floats) a.way b.weight;
      bound = bound t.dead_cycles s.dead_cycles (way_floats t.floats) (way_floats s.floats) (phase_cost q) a.cycles a.way (bound-at q e);
    }

    by_second : b.phase ≡ second → IsSecond t ⊎ (2 * way_floats t.floats + 1 ≤ 2 * way_floats s.floats + n) → BetweenClears m x t
    by_second e (inl i) = in-phase second e i
    by_second e (inr i) = record {
      phase = starting;
      at = tt;
      going = λ k. cc;
      floats = a.floats b.floats;
      weight = weight (way_floats t.floats) (way_floats s.floats) a.way b.weight;
      bound = later t.dead_cycles s.dead_cycles (way_floats t.floats) (way_floats s.floats) a.cycles i (bound-at second e);
    }

    by_phase : (q : Phase) → b.phase ≡ q → PhaseHolds s q → BetweenClears m x t
    by_phase starting e h = in-phase starting e tt
    by_phase second e h = by_second e (a.second h)
    by_phase ending e h = absurd (b.going e)
