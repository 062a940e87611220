-- Lists of nodes that may be on a page.
use Rattle.std.specs.Prelude.{◌≢◌, ℕ, pos, ◌≤◌, List, [], ◌∷◌, length, All}
use Rattle.tb_pool.specs.Lists.{Lists, IsLive, list_at}
use Rattle.tb_node.specs.declared.Node.{Node}
use Rattle.tb_node.specs.declared.Kind.{Kind}
use Rattle.tb_node.specs.declared.Kind.TheVariants as kinds
use Rattle.tb_node.specs.Fit.{IsSizedNode}
use Rattle.tb_column.specs.declared.Column.{Column}

-- a node that is neither an insertion nor an act
abbrev pub is_leaf_kind : Kind → Type 0
is_leaf_kind (kinds.Hbox what h d) = Unit {0}
is_leaf_kind (kinds.Rule name h d) = Unit {0}
is_leaf_kind (kinds.Skip g) = Unit {0}
is_leaf_kind (kinds.Kern w) = Unit {0}
is_leaf_kind (kinds.Pen p) = Unit {0}
is_leaf_kind (kinds.Mark name) = Unit {0}
is_leaf_kind (kinds.Note name) = Unit {0}
is_leaf_kind kinds.Whatsit = Unit {0}
is_leaf_kind (kinds.Ins i) = ⊥
is_leaf_kind (kinds.Act a) = ⊥

-- neither an insertion nor an act is among these nodes
abbrev pub AreLeaves : List Node → Type 0
AreLeaves [] = Unit {0}
AreLeaves (n ∷ ns) = is_leaf_kind n.kind × AreLeaves ns

-- a list of a page: live, of sized nodes that are neither insertions nor acts, and not too long to be summed
pub record IsPageList (store : Lists Node) (l : ℕ) : Type 0 where
  pub live : IsLive store l
  pub leaves : AreLeaves (list_at store l)
  pub sized : All IsSizedNode (list_at store l)
  pub few : length (list_at store l) ≤ 8388608

-- a column of such a list, whose glue has a share
pub record IsPageColumn (store : Lists Node) (c : Column) : Type 0 where
  pub list : IsPageList store c.list
  pub share : c.set.den ≢ pos 0
