-- Tables of the states between two pages. From such a state items are taken while no page fires; then the page is filled, or a
-- break is put in before that. A search keeps such a table.
use Rattle.std.specs.Prelude.{◌≡◌, ◌⊎◌, ℕ, ℤ, pos, ◌+ℤ◌, ◌<ℤ◌, true, false, List, [], ◌∷◌}
use Rattle.tb_node.specs.PlainNodes.{PlainNode}
use Rattle.tb_galley.specs.declared.Galley.{Galley}
use Rattle.tb_builder.specs.Reach.{holds_box}
use Rattle.tb_output.specs.State.{State, Recorded}
use Rattle.tb_items.specs.RunEvents.{RunEvent}
use Rattle.tb_steps.specs.Run.{done, ends, goes_on}
use Rattle.tb_rate.specs.Places.{place_penalties}
use Rattle.tb_best.specs.PlanDemerits.{reach_in, unlimited_step, step_demerits}
use Rattle.tb_best.specs.ItemsAhead.{Ahead, all_ahead, empty_start, forced, state_with}
use Rattle.tb_best.specs.ClosedTables.{Table, KnowsAsGood, IsNoBetter}

-- from a state with these items ahead, items are taken while no page fires, up to another state with those ahead
module _ (g : Galley) (s : State) (cs : List Ahead) where
  pub data TakesOn : State → List Ahead → Type 0 where
    none : TakesOn s cs
    more : (t : State) (c : Ahead) (ds : List Ahead) → TakesOn t (c ∷ ds) → (reach_in t).fires ≡ false → TakesOn (state_with c.nodes t) ds

-- the demerits after a page that was filled in this state
abbrev pub with_page : Galley → ℤ → State → List RunEvent → List Recorded → State → ℤ
with_page g d s es rs t = d +ℤ step_demerits (place_penalties g.items) s (goes_on es rs t)

-- the table knows where the run begins and, of each state that it knows, the states after each page that may come next, or states that are as good, unless that has more demerits than these; and no end that it knows is better
pub record IsClosedByPages (g : Galley) (total : ℤ) (best : List ℕ) (Starts : Table) : Type 0 where
  -- the beginning, with all items ahead
  pub begins : Starts (empty_start g) (all_ahead g) (pos 0) []
  -- a page that fires by itself
  pub fills : (s t u : State) (cs ds : List Ahead) (d : ℤ) (breaks : List ℕ) (es : List RunEvent) (rs : List Recorded) → Starts s cs d breaks → TakesOn g s cs t ds → (reach_in t).fires ≡ true
      → unlimited_step t ≡ goes_on es rs u → KnowsAsGood g Starts u ds (with_page g d t es rs u) breaks ⊎ (total <ℤ with_page g d t es rs u)
  -- a page with a box, into which a break is put; this fires
  pub cuts : (s t u : State) (c : Ahead) (cs ds : List Ahead) (d : ℤ) (breaks : List ℕ) (es : List RunEvent) (rs : List Recorded) → Starts s cs d breaks → TakesOn g s cs t (c ∷ ds) → (reach_in t).fires ≡ false
      → c.is_place ≡ true → holds_box t.waiting ≡ true → unlimited_step (state_with (forced c ∷ c.nodes) t) ≡ goes_on es rs u
      → KnowsAsGood g Starts u ds (with_page g (d +ℤ pos 1000) (state_with (forced c ∷ c.nodes) t) es rs u) (c.number ∷ breaks) ⊎ (total <ℤ with_page g (d +ℤ pos 1000) (state_with (forced c ∷ c.nodes) t) es rs u)
  -- the run ends well
  pub finishes : (s t : State) (cs : List Ahead) (d : ℤ) (breaks : List ℕ) (es : List RunEvent) (rs : List Recorded) (left : List PlainNode) → Starts s cs d breaks → TakesOn g s cs t [] → (reach_in t).fires ≡ false
      → unlimited_step t ≡ ends es rs (done left) → IsNoBetter total best d breaks
