-- The machines of worked firings.
use Rattle.std.specs.Prelude.{◌≡◌, ◌≤◌, ℕ, ℤ, pos, ◌≤ℤ◌, List, [], ◌∷◌, length, None}
use Rattle.std.specs.FinMap.{get}
use Rattle.tb_pool.specs.Lists.{Lists, IsLive, list_at}
use Rattle.tb_node.specs.declared.Node.{Node}
use Rattle.tb_node.specs.declared.Kind.{Kind}
use Rattle.tb_node.specs.Fit.{IsSizedNode}
use Rattle.tb_scaled.specs.Glue.{fixed_glue}
use Rattle.tb_insert.specs.declared.Class.{Class}
use Rattle.tb_column.specs.FloatColumns.{made_node}
use Rattle.tb_column.specs.Page.{is_leaf_kind}
use Rattle.tb_sheet.specs.Asked.{hold_penalty}
use Rattle.tb_output.specs.Machine.{MachineView, IsMachine}
use Rattle.tb_output.specs.Firing.{IsReach}

-- class 3 with glue of width 4 above it, and footnotes with none
abbrev pub scene_classes : List Class
scene_classes =
    record { number = 3; factor = pos 1000; limit = pos 1000; below = None; skip = fixed_glue (pos 4) }
    ∷ record { number = 254; factor = pos 1000; limit = pos 1000; below = None; skip = fixed_glue (pos 0) } ∷ []

-- a machine that serves them
pub record IsScene (m : MachineView) (store : Lists Node) : Type 0 where
  pub machine : IsMachine m store
  pub classes : m.classes ≡ scene_classes

-- a page of this penalty and of at most this many nodes may fire
pub record IsReady (m : MachineView) (store : Lists Node) (penalty : ℤ) : Type 0 where
  pub penalty_low : hold_penalty ≤ℤ penalty
  pub note_bottom : IsReach m.note_bottom
  pub held : length (list_at store m.held_page) ≤ 1000

-- each list that was live is as before
abbrev pub LeavesAll : Lists Node → Lists Node → Type 0
LeavesAll store new = (q : ℕ) → IsLive store q → get new.lists q ≡ get store.lists q

-- a sized node of a page
pub record IsTextKind (k : Kind) : Type 0 where
  pub leaf : is_leaf_kind k
  pub sized : IsSizedNode (made_node k)
