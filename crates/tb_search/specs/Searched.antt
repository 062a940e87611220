-- What a search knows of the ways from a state.
use Rattle.std.specs.Prelude.{◌≡◌, ℤ, pos, ◌+ℤ◌, ◌<ℤ◌, true, false, ℕ, List, [], ◌∷◌}
use Rattle.tb_node.specs.PlainNodes.{PlainNode}
use Rattle.tb_galley.specs.declared.Galley.{Galley}
use Rattle.tb_builder.specs.Reach.{holds_box}
use Rattle.tb_output.specs.State.{State, Recorded}
use Rattle.tb_items.specs.RunEvents.{RunEvent}
use Rattle.tb_steps.specs.Run.{done, ends, goes_on}
use Rattle.tb_best.specs.PlanDemerits.{reach_in, unlimited_step}
use Rattle.tb_best.specs.ItemsAhead.{Ahead, forced, state_with}
use Rattle.tb_best.specs.ClosedTables.{Row, rows_know, IsAsGood, KnowsAsGood, IsNoBetter}
use Rattle.tb_best.specs.PageTables.{with_page}
use Rattle.tb_search.specs.FilledBranches.{IsRefused}

-- each way from a state with these items ahead, reached at these demerits and with these breaks, comes to a row that waits, has more demerits than the bound, does not end well, or is no better than this total with these breaks
module _ (g : Galley) (bound total : ℤ) (best : List ℕ) (waiting : List Row) where
  pub data IsSearched : State → List Ahead → ℤ → List ℕ → Type 0 where
    over : (s : State) (cs : List Ahead) (d : ℤ) (breaks : List ℕ) → bound <ℤ d → IsSearched s cs d breaks
    waits : (s : State) (cs : List Ahead) (d : ℤ) (breaks : List ℕ) → rows_know waiting s cs d breaks → IsSearched s cs d breaks
    stuck : (s : State) (cs : List Ahead) (d : ℤ) (breaks : List ℕ) → IsRefused s → IsSearched s cs d breaks
    -- the page is filled, and the state after it, or one that is as good, is searched
    fills : (s t u : State) (cs : List Ahead) (d : ℤ) (breaks : List ℕ) (es : List RunEvent) (rs : List Recorded) → (reach_in s).fires ≡ true → unlimited_step s ≡ goes_on es rs t → IsAsGood g t u
        → IsSearched u cs (with_page g d s es rs t) breaks → IsSearched s cs d breaks
    -- an item is taken, and if a break may be put in before it, that too
    takes : (s : State) (c : Ahead) (cs : List Ahead) (d : ℤ) (breaks : List ℕ) → (reach_in s).fires ≡ false
        → (c.is_place ≡ true → holds_box s.waiting ≡ true → IsSearched (state_with (forced c ∷ c.nodes) s) cs (d +ℤ pos 1000) (c.number ∷ breaks))
        → IsSearched (state_with c.nodes s) cs d breaks → IsSearched s (c ∷ cs) d breaks
    -- a state that is as good is searched
    stands : (s t : State) (cs : List Ahead) (d : ℤ) (breaks : List ℕ) → IsAsGood g s t → IsSearched t cs d breaks → IsSearched s cs d breaks
    ended : (s : State) (d : ℤ) (breaks : List ℕ) → (reach_in s).fires ≡ false
        → ((es : List RunEvent) (rs : List Recorded) (left : List PlainNode) → unlimited_step s ≡ ends es rs (done left) → IsNoBetter total best d breaks) → IsSearched s [] d breaks

-- so is this state or one that is as good
abbrev pub IsSearchedAsGood : Galley → ℤ → ℤ → List ℕ → List Row → State → List Ahead → ℤ → List ℕ → Type 0
IsSearchedAsGood g bound total best waiting s cs d breaks = (t : State) × IsAsGood g s t × IsSearched g bound total best waiting t cs d breaks

-- what the first rows know the second know too
abbrev pub KnowsMore : List Row → List Row → Type 0
KnowsMore old new = (s : State) (cs : List Ahead) (d : ℤ) (breaks : List ℕ) → rows_know old s cs d breaks → rows_know new s cs d breaks

-- what the first rows know the second know, or a state that is as good
abbrev pub KnowsAsMuch : Galley → List Row → List Row → Type 0
KnowsAsMuch g old new = (s : State) (cs : List Ahead) (d : ℤ) (breaks : List ℕ) → rows_know old s cs d breaks → KnowsAsGood g (rows_know new) s cs d breaks
