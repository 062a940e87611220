-- Tables of states that are closed under the moves of a search: an item is taken, or a break is put in and then the item is
-- taken, until a page fires; then it is filled.
use Rattle.std.specs.Prelude.{◌≡◌, ◌⊎◌, ℕ, ℤ, pos, ◌+ℤ◌, ◌≤ℤ◌, ◌<ℤ◌, true, false, List, [], ◌∷◌, Option, Some}
use Rattle.tb_node.specs.PlainNodes.{PlainNode}
use Rattle.tb_galley.specs.declared.Galley.{Galley}
use Rattle.tb_builder.specs.Reach.{holds_box}
use Rattle.tb_lines.specs.LeastSolution.{is_greater}
use Rattle.tb_output.specs.State.{State, Recorded}
use Rattle.tb_items.specs.RunEvents.{RunEvent}
use Rattle.tb_steps.specs.Run.{done, ends, goes_on}
use Rattle.tb_rate.specs.Places.{place_penalties}
use Rattle.tb_best.specs.PlanDemerits.{reach_in, unlimited_step, step_demerits, unlimited_demerits_from}
use Rattle.tb_best.specs.Sides.{sides_of, KeepSides}
use Rattle.tb_best.specs.ItemsAhead.{Ahead, all_ahead, empty_start, forced, state_with}

-- what a table knows: a state with these items ahead was reached at these demerits with these breaks, the last one first, or by a better way
abbrev pub Table : Type 1
Table = State → List Ahead → ℤ → List ℕ → Type 0

-- these demerits with these breaks are no better than those
abbrev pub IsNoBetter : ℤ → List ℕ → ℤ → List ℕ → Type 0
IsNoBetter total best d breaks = (total <ℤ d) ⊎ ((d ≡ total) × (is_greater breaks best ≡ false))

-- a row of a table: a state, the items that it has ahead, and the demerits and breaks with which it was reached
pub record Row : Type 0 where
  pub state : State
  pub ahead : List Ahead
  pub demerits : ℤ
  pub breaks : List ℕ

-- a row has this state with these items ahead, reached in a way that is no worse
abbrev pub IsRowOf : Row → Table
IsRowOf r s cs d breaks = (r.state ≡ s) × (r.ahead ≡ cs) × IsNoBetter r.demerits r.breaks d breaks

-- one of the rows does
abbrev pub rows_know : List Row → Table
rows_know [] s cs d breaks = ⊥
rows_know (r ∷ rs) s cs d breaks = IsRowOf r s cs d breaks ⊎ rows_know rs s cs d breaks

-- ---- states that stand for others

-- the demerits of a run of this galley from a state, with these nodes behind
abbrev pub demerits_with : Galley → ℕ → List PlainNode → State → Option ℤ
demerits_with g fuel more s = unlimited_demerits_from (place_penalties g.items) fuel (state_with more s)

-- whatever is behind, the run from the second state has no more demerits than that from the first; if marginal notes keep their sides in the galley, or there are none, the nodes behind leave it so
abbrev pub IsAsGood : Galley → State → State → Type 0
IsAsGood g s t = (fuel : ℕ) (more : List PlainNode) (d : ℤ) → KeepSides (sides_of g) more → demerits_with g fuel more s ≡ Some d → (e : ℤ) × (demerits_with g fuel more t ≡ Some e) × (e ≤ℤ d)

-- whatever is behind, both have the same
abbrev pub AreAlike : Galley → State → State → Type 0
AreAlike g s t = (fuel : ℕ) (more : List PlainNode) → demerits_with g fuel more s ≡ demerits_with g fuel more t

-- the table knows a state that is as good
abbrev pub KnowsAsGood : Galley → Table → Table
KnowsAsGood g Known s cs d breaks = (t : State) × IsAsGood g s t × Known t cs d breaks

-- ---- closed tables

-- the table knows where the run begins and, of each state that it knows, where each move leads, or after a page a state that is as good, unless that has more demerits than these; and no end that it knows is better
pub record IsClosed (g : Galley) (total : ℤ) (best : List ℕ) (Known : Table) : Type 0 where
  -- the beginning, with all items ahead
  pub begins : Known (empty_start g) (all_ahead g) (pos 0) []
  -- an item is taken
  pub takes : (s : State) (c : Ahead) (cs : List Ahead) (d : ℤ) (breaks : List ℕ) → Known s (c ∷ cs) d breaks → (reach_in s).fires ≡ false → Known (state_with c.nodes s) cs d breaks
  -- a break is put in after the first box of a page, and the item is taken
  pub cuts : (s : State) (c : Ahead) (cs : List Ahead) (d : ℤ) (breaks : List ℕ) → Known s (c ∷ cs) d breaks → (reach_in s).fires ≡ false → c.is_place ≡ true → holds_box s.waiting ≡ true
      → Known (state_with (forced c ∷ c.nodes) s) cs (d +ℤ pos 1000) (c.number ∷ breaks) ⊎ (total <ℤ (d +ℤ pos 1000))
  -- a page is filled
  pub fills : (s t : State) (cs : List Ahead) (d : ℤ) (breaks : List ℕ) (es : List RunEvent) (rs : List Recorded) → Known s cs d breaks → (reach_in s).fires ≡ true → unlimited_step s ≡ goes_on es rs t
      → KnowsAsGood g Known t cs (d +ℤ step_demerits (place_penalties g.items) s (goes_on es rs t)) breaks ⊎ (total <ℤ (d +ℤ step_demerits (place_penalties g.items) s (goes_on es rs t)))
  -- the run ends well
  pub finishes : (s : State) (d : ℤ) (breaks : List ℕ) (es : List RunEvent) (rs : List Recorded) (left : List PlainNode) → Known s [] d breaks → (reach_in s).fires ≡ false → unlimited_step s ≡ ends es rs (done left)
      → IsNoBetter total best d breaks

-- a state with these items ahead is reached by moves from the beginning, or is like one that is, at these demerits and with these breaks, the last one first
module _ (g : Galley) where
  pub data Reaches : State → List Ahead → ℤ → List ℕ → Type 0 where
    begun : Reaches (empty_start g) (all_ahead g) (pos 0) []
    takes : (s : State) (c : Ahead) (cs : List Ahead) (d : ℤ) (breaks : List ℕ) → Reaches s (c ∷ cs) d breaks → Reaches (state_with c.nodes s) cs d breaks
    cuts : (s : State) (c : Ahead) (cs : List Ahead) (d : ℤ) (breaks : List ℕ) → Reaches s (c ∷ cs) d breaks → c.is_place ≡ true → Reaches (state_with (forced c ∷ c.nodes) s) cs (d +ℤ pos 1000) (c.number ∷ breaks)
    fills : (s t : State) (cs : List Ahead) (d : ℤ) (breaks : List ℕ) (es : List RunEvent) (rs : List Recorded) → Reaches s cs d breaks → (reach_in s).fires ≡ true → unlimited_step s ≡ goes_on es rs t
        → Reaches t cs (d +ℤ step_demerits (place_penalties g.items) s (goes_on es rs t)) breaks
    merges : (s t : State) (cs : List Ahead) (d : ℤ) (breaks : List ℕ) → Reaches s cs d breaks → AreAlike g s t → Reaches t cs d breaks

-- the run ends well at these demerits and with these breaks, the last one first
pub record IsEnd (g : Galley) (d : ℤ) (breaks : List ℕ) : Type 0 where
  pub state : State
  pub events : List RunEvent
  pub records : List Recorded
  pub left : List PlainNode
  pub reached : Reaches g state [] d breaks
  pub ends_well : unlimited_step state ≡ ends events records (done left)
