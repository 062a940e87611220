-- What the page builder reaches of the waiting nodes: acts, and legal places up to the first stop (TeX: The Program §997,
-- §1000, §1001, §1005).
use Rattle.std.specs.Prelude.{ℕ, ℤ, Bool, true, false, List, [], ◌∷◌, ◌++◌, map, length, Option, Some, None, int_le, if◌then◌else◌}
use Rattle.std.specs.List.{list_any}
use Rattle.tb_scaled.specs.Scaled.{min_ℤ}
use Rattle.tb_node.specs.declared.Act.{Act}
use Rattle.tb_node.specs.Shape.{is_box}
use Rattle.tb_node.specs.PlainNodes.{PlainKind, plain, ins, act, PlainNode, node_shape, without_acts}
use Rattle.tb_node.specs.Sums.{sums_of}
use Rattle.tb_break.specs.Places.{legal_penalty}
use Rattle.tb_break.specs.Best.{Breakpoint, is_stop}
use Rattle.tb_break.specs.Split.{breakpoint_at}
use Rattle.tb_break.specs.PageTop.{pruned_nodes}
use Rattle.tb_insert.specs.Terms.{Terms, sums_with}
use Rattle.tb_builder.specs.declared.Try.{Try}

-- the list has a box or rule
abbrev pub holds_box : List PlainNode → Bool
holds_box ns = list_any (λ n. is_box (node_shape n)) ns

-- the page so far and the waiting nodes as one list; on an empty page what vanishes at its top is left out, and the top glue comes before the first box
abbrev pub laid_out : ℤ → List PlainNode → List PlainNode → List PlainNode
laid_out top_skip page waiting = page ++ (if holds_box page then waiting else pruned_nodes top_skip waiting)

-- an act, or a legal place with the line of its node
pub data Reached : Type 0 where
  acted : Act → Reached
  tried : ℕ → Breakpoint → Reached

-- what is reached of a list: the acts and places in order, the nodes passed without the acts, the list from the stop on, and whether there is a stop
pub record Reach : Type 0 where
  pub reached : List Reached
  pub passed : List PlainNode
  pub beyond : List PlainNode
  pub fires : Bool

-- one more is reached before these
abbrev pub also_reached : Reached → Reach → Reach
also_reached r w = record w { reached = r ∷ w.reached }

-- the place before these nodes: its terms and sums are those of all nodes before
abbrev pub page_place : ℤ → (List PlainNode → Terms) → List PlainNode → ℤ → Breakpoint
page_place limit terms before p =
    let t = terms before in
    breakpoint_at (length before) (sums_with (sums_of limit (map node_shape before)) t) t.goal p t.penalties

-- the place before this node is the stop
abbrev pub stopped_at : List PlainNode → PlainNode → List PlainNode → Breakpoint → Reach
stopped_at before n rest b = record { reached = tried n.line b ∷ []; passed = before; beyond = n ∷ rest; fires = true }

-- at a place: the stop, or the place and what is reached after it
abbrev pub reach_at_place : List PlainNode → PlainNode → List PlainNode → Reach → Breakpoint → Reach
reach_at_place before n rest later b =
    let longer = also_reached (tried n.line b) later in
    if is_stop b then stopped_at before n rest b else longer

-- the same if the place is legal; else what is reached after the node
abbrev pub reach_at : ℤ → (List PlainNode → Terms) → List PlainNode → PlainNode → List PlainNode → Reach → Option ℤ → Reach
reach_at limit terms before n rest later None = later
reach_at limit terms before n rest later (Some p) = reach_at_place before n rest later (page_place limit terms before p)

-- what is reached at a node, by its kind, and after it
abbrev pub reach_node : ℤ → (List PlainNode → Terms) → List PlainNode → PlainNode → List PlainNode → Reach → PlainKind → Reach
reach_node limit terms before n rest later (plain m) = reach_at limit terms before n rest later (legal_penalty (map node_shape before) (map node_shape (n ∷ without_acts rest)))
reach_node limit terms before n rest later (ins i) = later
reach_node limit terms before n rest later (act a) = also_reached (acted a) later

-- what is reached of the rest, after the nodes before
abbrev pub reach_from : ℤ → (List PlainNode → Terms) → List PlainNode → List PlainNode → Reach
reach_from limit terms before [] = record { reached = []; passed = before; beyond = []; fires = false }
reach_from limit terms before (n ∷ rest) =
    let later = reach_from limit terms (before ++ without_acts (n ∷ [])) rest in
    reach_node limit terms before n rest later n.kind

-- the legal places among what is reached
abbrev pub breakpoints : List Reached → List Breakpoint
breakpoints [] = []
breakpoints (acted a ∷ rs) = breakpoints rs
breakpoints (tried line b ∷ rs) = b ∷ breakpoints rs

-- a try of a place, and whether its cost is at most the least so far
abbrev pub try_of : ℕ → Breakpoint → ℤ → Try
try_of line b least = record {
  line = line;
  sums = b.sums;
  goal = b.goal;
  badness = b.badness;
  penalty = b.penalty;
  cost = b.cost;
  champion = int_le b.cost least;
}

-- the tries, each a champion if its cost is at most all earlier ones and awful_bad; acts are left out
abbrev pub tries_from : ℤ → List Reached → List Try
tries_from least [] = []
tries_from least (acted a ∷ rs) = tries_from least rs
tries_from least (tried line b ∷ rs) = try_of line b least ∷ tries_from (min_ℤ least b.cost) rs
