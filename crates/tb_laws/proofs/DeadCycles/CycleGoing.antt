-- A firing after the acts of its page keeps the bound by the parameters that hold then, whatever these acts set.
use Rattle.std.proofs.Common.{◌≡◌, refl, sym, subst, ℕ, zero, suc, ◌+◌, ◌≤◌, inl, inr, ◌⊎◌, Bool, true, false, [], arith}
use Rattle.std.specs.Prelude.{ℤ, ◌≤ℤ◌, ◌<ℤ◌, int_le}
use Rattle.std.proofs.lemmas.Int.{ints}
use Rattle.tb_param.specs.declared.Params.{Params}
use Rattle.tb_param.specs.Ranges.{are_params}
use Rattle.tb_builder.proofs.Cutting.CutLemmas.{acted_of}
use Rattle.tb_output.specs.State.{State}
use Rattle.tb_output.proofs.KeptParams.{out-keeps-params}
use Rattle.tb_steps.proofs.RunTree.{page_of, fired_at, served_at}
use Rattle.tb_laws.proofs.Closed.Sorts.{sorts}
use Rattle.tb_laws.proofs.DeadCycles.AgainLemmas.{Again}
use Rattle.tb_laws.proofs.DeadCycles.WaitCosts.{wait_cost, acts_cost}
use Rattle.tb_laws.proofs.DeadCycles.EndedLemmas.{Ended}
use Rattle.tb_laws.proofs.DeadCycles.SpacedLemmas.{Spaced}
use Rattle.tb_laws.proofs.DeadCycles.ActCosts.{Acts}
use Rattle.tb_laws.proofs.DeadCycles.CycleStates.{Bounded}
use Rattle.tb_laws.proofs.DeadCycles.HighStates.{BoundedHigh}
use Rattle.tb_laws.proofs.DeadCycles.BetweenClears.{BetweenClears, low-between, high-between, acts-between}
use Rattle.tb_laws.proofs.NothingLost.RunWeights.{Kept}
use Rattle.tb_laws.proofs.DeadCycles.RaiseFirings.{Drops}
use Rattle.tb_laws.proofs.DeadCycles.CyclePages.{none-reached, reached-cost}
use Rattle.tb_laws.proofs.DeadCycles.LowGoing.{total, low-few, LowKept, low-closed, low-open}
use Rattle.tb_laws.proofs.DeadCycles.HighGoing.{high-few, HighKept, high-closed, high-open}

-- the bound of parameters by which the top skip is no higher than a page, or is higher
abbrev pub BoundBy : Params → ℕ → State → Type 0
BoundBy p m s = ((p.topskip ≤ℤ p.textheight) × Bounded p m s) ⊎ ((p.textheight <ℤ p.topskip) × BoundedHigh p m s)

-- the bound by the parameters that hold
abbrev pub Bound : ℕ → State → Type 0
Bound m s = BoundBy s.params m s

-- there were few firings without a page
pub few : (m : ℕ) (s : State) → Bound m s → s.dead_cycles ≤ m + 3
few m s (inl b) = low-few m s b.1
few m s (inr b) = high-few m s b.1

-- the test of the two says which
pub skip-fits : (t h : ℤ) → int_le t h ≡ true → t ≤ℤ h
skip-fits t h e = grind (arith, ints, e)

pub skip-high : (t h : ℤ) → int_le t h ≡ false → h <ℤ t
skip-high t h e = grind (arith, ints, e)

-- the bound is kept, or the page drops what raises it, and it is kept with four more; and the clears that wait are laid out as they were
abbrev pub KeptAt : ℕ → State → State → Type 0
KeptAt m s t = (served_at s t).refused ≡ false → (Bound m (served_at s t).state ⊎ (Drops t (fired_at s t) × Bound (m + 4) (served_at s t).state)) × Ended false (served_at s t).state.waiting × Spaced true (served_at s t).state.waiting

-- a firing changes no parameters
module _ (m : ℕ) (s t : State) where
  same-params : (n : ℕ) → BoundBy t.params n (served_at s t).state → Bound n (served_at s t).state
  same-params n b = subst (λ (p : Params). BoundBy p n (served_at s t).state) (sym (out-keeps-params t.params t (fired_at s t))) b

  low-kept : t.params.topskip ≤ℤ t.params.textheight → LowKept m s t → KeptAt m s t
  low-kept room h r = (by_drop (h r).0, (h r).1, (h r).2)
    where
      by_drop : Bounded t.params m (served_at s t).state ⊎ (Drops t (fired_at s t) × Bounded t.params (m + 4) (served_at s t).state) → Bound m (served_at s t).state ⊎ (Drops t (fired_at s t) × Bound (m + 4) (served_at s t).state)
      by_drop (inl b) = inl (same-params m (inl (room, b)))
      by_drop (inr b) = inr (b.0, same-params (m + 4) (inl (room, b.1)))

  high-kept : t.params.textheight <ℤ t.params.topskip → HighKept m s t → KeptAt m s t
  high-kept high h r = (by_drop (h r).0, (h r).1, (h r).2)
    where
      by_drop : BoundedHigh t.params m (served_at s t).state ⊎ (Drops t (fired_at s t) × BoundedHigh t.params (m + 4) (served_at s t).state) → Bound m (served_at s t).state ⊎ (Drops t (fired_at s t) × Bound (m + 4) (served_at s t).state)
      by_drop (inl b) = inl (same-params m (inr (high, b)))
      by_drop (inr b) = inr (b.0, same-params (m + 4) (inr (high, b.1)))

-- the firing of the page of a state after its acts
module _ (m : ℕ) (s : State) (kept : Kept s) (ended : Ended false s.waiting) (spaced : Spaced true s.waiting)
    (t : State) (a : Acts (acts_cost (acted_of (page_of s).reached)) s t) (ranges : are_params t.params ≡ true) (same : acted_of (page_of s).reached ≡ [] → t ≡ s) where
  -- if no clear of the routine is to come, the parameters after the acts say how
  closed-goes : BetweenClears m (wait_cost s.waiting) s → KeptAt m s t
  closed-goes b = by_skip (int_le t.params.topskip t.params.textheight) refl
    where
      after : BetweenClears m (total s t) t
      after = acts-between m (wait_cost s.waiting) (acts_cost (acted_of (page_of s).reached)) (total s t) s t b a (reached-cost s kept ended)

      by_skip : (x : Bool) → int_le t.params.topskip t.params.textheight ≡ x → KeptAt m s t
      by_skip true e = low-kept m s t (skip-fits t.params.topskip t.params.textheight e) (low-closed m s kept ended spaced (acts_cost (acted_of (page_of s).reached)) t a ranges after)
      by_skip false e = high-kept m s t (skip-high t.params.topskip t.params.textheight e) (high-closed m s kept ended spaced (acts_cost (acted_of (page_of s).reached)) t a ranges after)

  -- else no act is reached, and nothing is changed
  open-goes : (n : ℕ) → Again (suc n) (sorts s.waiting) → KeptAt m s s → KeptAt m s t
  open-goes n again h = subst (KeptAt m s) (sym (same (none-reached s kept ended n again))) h

  pub firing-keeps : Bound m s → KeptAt m s t
  firing-keeps (inl b) = by_again b.1.again refl
    where
      by_again : (n : ℕ) → b.1.again ≡ n → KeptAt m s t
      by_again zero e = closed-goes (low-between m s b.1 e)
      by_again (suc n) e = open-goes n (subst (λ (x : ℕ). Again x (sorts s.waiting)) e b.1.region) (low-kept m s s b.0 (low-open m s kept ended spaced b.0 b.1))
  firing-keeps (inr b) = by_again b.1.again refl
    where
      by_again : (n : ℕ) → b.1.again ≡ n → KeptAt m s t
      by_again zero e = closed-goes (high-between m s b.1 e)
      by_again (suc n) e = open-goes n (subst (λ (x : ℕ). Again x (sorts s.waiting)) e b.1.region) (high-kept m s s b.0 (high-open m s kept ended spaced b.0 b.1 n e))
