-- Items that may be taken before a page can fire.
use Rattle.std.specs.Prelude.{◌≡◌, false, ℕ, zero, suc, List, [], ◌∷◌, ◌++◌}
use Rattle.tb_node.specs.PlainNodes.{PlainNode}
use Rattle.tb_output.specs.State.{State}
use Rattle.tb_best.specs.PlanDemerits.{reach_in}
use Rattle.tb_best.specs.ItemsAhead.{Ahead, state_with}

-- the nodes of the first so many of these items
abbrev pub nodes_of_first : ℕ → List Ahead → List PlainNode
nodes_of_first zero cs = []
nodes_of_first (suc k) [] = []
nodes_of_first (suc k) (c ∷ cs) = c.nodes ++ nodes_of_first k cs

-- the state once they were taken
abbrev pub with_first : ℕ → List Ahead → State → State
with_first k cs s = state_with (nodes_of_first k cs) s

-- no page fires in the state once the first so many of these items were taken
abbrev pub IsCalm : State → List Ahead → ℕ → Type 0
IsCalm s cs k = (reach_in (with_first k cs s)).fires ≡ false
