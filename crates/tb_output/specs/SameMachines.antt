-- Machines that show the same.
use Rattle.std.specs.Prelude.{◌≡◌, ◌≤◌, ◌%◌, Bool, true}
use Rattle.tb_pool.specs.Lists.{Lists}
use Rattle.tb_node.specs.declared.Node.{Node}
use Rattle.tb_node.specs.PlainNodes.{plain_list}
use Rattle.tb_output.specs.Machine.{MachineView}

-- two machines, each with its store, show the same but for their classes, their counts, and the column that waits for a second one
pub record ShowSame (s : Lists Node) (m : MachineView) (t : Lists Node) (n : MachineView) : Type 0 where
  pub params : m.params ≡ n.params
  pub held_page : plain_list s m.held_page ≡ plain_list t n.held_page
  pub floats : m.pool.lists ≡ n.pool.lists
  pub goal : m.goal ≡ n.goal
  pub two_columns : m.two_columns ≡ n.two_columns
  pub first_column : m.first_column ≡ n.first_column
  pub note_bottom : m.note_bottom ≡ n.note_bottom
  pub suppress : m.suppress ≡ n.suppress
  pub shrink : m.shrink ≡ n.shrink

-- the counts of the first machine are no greater than those of the second, and if marginal notes may change sides from page to page, they go to the same sides
pub record HasCountsWithin (may : Bool) (m n : MachineView) : Type 0 where
  pub pages : m.page ≤ n.page
  pub dead_cycles : m.dead_cycles ≤ n.dead_cycles
  pub sides : may ≡ true → (m.number % 2) ≡ (n.number % 2)
