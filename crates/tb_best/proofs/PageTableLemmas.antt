-- A table of states between pages that is closed is one of all states.
use Rattle.std.proofs.Common.{◌≡◌, ◌⊎◌, inl, inr, ℕ, ℤ, true, false, List, [], ◌∷◌, Some, arith}
use Rattle.std.specs.Prelude.{pos, ◌+ℤ◌, ◌<ℤ◌, reverse}
use Rattle.tb_node.specs.PlainNodes.{PlainNode}
use Rattle.tb_galley.specs.declared.Galley.{Galley}
use Rattle.tb_builder.specs.Reach.{holds_box}
use Rattle.tb_output.specs.State.{State, Recorded}
use Rattle.tb_items.specs.RunEvents.{RunEvent}
use Rattle.tb_steps.specs.Run.{done, ends, goes_on}
use Rattle.tb_plans.specs.Plans.{IsPlan}
use Rattle.tb_best.specs.PlanDemerits.{reach_in, unlimited_step, plan_demerits}
use Rattle.tb_best.specs.BestPlan.{IsBest}
use Rattle.tb_best.specs.ItemsAhead.{Ahead, forced, state_with}
use Rattle.tb_best.specs.ClosedTables.{Table, KnowsAsGood, IsNoBetter, IsClosed}
use Rattle.tb_best.specs.PageTables.{TakesOn, none, more, with_page, IsClosedByPages}
use Rattle.tb_best.proofs.CutPages.{cut-fires}
use Rattle.tb_best.proofs.BestLemmas.{closed-best}

module _ (g : Galley) (total : ℤ) (best : List ℕ) (Starts : Table) (closed : IsClosedByPages g total best Starts) where
  -- a state on the way from one that the table knows: items were taken, or a break was put in as well
  data OnTheWay : State → List Ahead → ℤ → List ℕ → Type 0 where
    taken : (s t : State) (cs ds : List Ahead) (d : ℤ) (breaks : List ℕ) → Starts s cs d breaks → TakesOn g s cs t ds → OnTheWay t ds d breaks
    cut : (s t : State) (c : Ahead) (cs ds : List Ahead) (d : ℤ) (breaks : List ℕ) → Starts s cs d breaks → TakesOn g s cs t (c ∷ ds) → (reach_in t).fires ≡ false → c.is_place ≡ true → holds_box t.waiting ≡ true
        → OnTheWay (state_with (forced c ∷ c.nodes) t) ds (d +ℤ pos 1000) (c.number ∷ breaks)

  no-cut : (t : State) (c : Ahead) → holds_box t.waiting ≡ true → (reach_in (state_with (forced c ∷ c.nodes) t)).fires ≡ false → ⊥
  no-cut t c box quiet = let fires = cut-fires t c box in grind (arith, fires, quiet)

  way-takes : (s : State) (c : Ahead) (cs : List Ahead) (d : ℤ) (breaks : List ℕ) → OnTheWay s (c ∷ cs) d breaks → (reach_in s).fires ≡ false → OnTheWay (state_with c.nodes s) cs d breaks
  way-takes t c ds d breaks (taken s _ cs _ _ _ known way) quiet = taken s (state_with c.nodes t) cs ds d breaks known (more t c ds way quiet)
  way-takes _ c _ _ _ (cut s t e cs _ d breaks known way before place box) quiet = absurd (no-cut t e box quiet)

  way-cuts : (s : State) (c : Ahead) (cs : List Ahead) (d : ℤ) (breaks : List ℕ) → OnTheWay s (c ∷ cs) d breaks → (reach_in s).fires ≡ false → c.is_place ≡ true → holds_box s.waiting ≡ true
      → OnTheWay (state_with (forced c ∷ c.nodes) s) cs (d +ℤ pos 1000) (c.number ∷ breaks)
  way-cuts t c ds d breaks (taken s _ cs _ _ _ known way) quiet place box = cut s t c cs ds d breaks known way quiet place box
  way-cuts _ c _ _ _ (cut s t e cs _ d breaks known way before at box) quiet place again = absurd (no-cut t e box quiet)

  starts-here : (u : State) (ds : List Ahead) (d : ℤ) (breaks : List ℕ) → KnowsAsGood g Starts u ds d breaks ⊎ (total <ℤ d) → KnowsAsGood g OnTheWay u ds d breaks ⊎ (total <ℤ d)
  starts-here u ds d breaks (inl (v, good, h)) = inl (v, good, taken v v ds ds d breaks h none)
  starts-here u ds d breaks (inr h) = inr h

  way-fills : (s u : State) (cs : List Ahead) (d : ℤ) (breaks : List ℕ) (es : List RunEvent) (rs : List Recorded) → OnTheWay s cs d breaks → (reach_in s).fires ≡ true → unlimited_step s ≡ goes_on es rs u
      → KnowsAsGood g OnTheWay u cs (with_page g d s es rs u) breaks ⊎ (total <ℤ with_page g d s es rs u)
  way-fills t u ds d breaks es rs (taken s _ cs _ _ _ known way) fires e = starts-here u ds (with_page g d t es rs u) breaks (closed.fills s t u cs ds d breaks es rs known way fires e)
  way-fills _ u ds _ _ es rs (cut s t c cs _ d breaks known way quiet place box) fires e =
      starts-here u ds (with_page g (d +ℤ pos 1000) (state_with (forced c ∷ c.nodes) t) es rs u) (c.number ∷ breaks) (closed.cuts s t u c cs ds d breaks es rs known way quiet place box e)

  way-ends : (s : State) (d : ℤ) (breaks : List ℕ) (es : List RunEvent) (rs : List Recorded) (left : List PlainNode) → OnTheWay s [] d breaks → (reach_in s).fires ≡ false → unlimited_step s ≡ ends es rs (done left)
      → IsNoBetter total best d breaks
  way-ends t d breaks es rs left (taken s _ cs _ _ _ known way) quiet e = closed.finishes s t cs d breaks es rs left known way quiet e
  way-ends _ _ _ es rs left (cut s t c cs _ d breaks known way before place box) quiet e = absurd (no-cut t c box quiet)

  all-states : IsClosed g total best OnTheWay
  all-states = record {
    begins = taken _ _ _ _ _ _ closed.begins none;
    takes = way-takes;
    cuts = λ s c cs d breaks h quiet place box. inl (way-cuts s c cs d breaks h quiet place box);
    fills = λ s t cs d breaks es rs h fires e. way-fills s t cs d breaks es rs h fires e;
    finishes = way-ends;
  }

-- a plan with the demerits and breaks of a table of states between pages is the best one
pub closed-pages-best : (g : Galley) (plan : List ℕ) (total : ℤ) (Starts : Table) → IsPlan g plan → plan_demerits g plan ≡ Some total → IsClosedByPages g total (reverse plan) Starts → IsBest g plan total
closed-pages-best g plan total Starts is sum closed = closed-best g plan total (OnTheWay g total (reverse plan) Starts closed) is sum (all-states g total (reverse plan) Starts closed)
