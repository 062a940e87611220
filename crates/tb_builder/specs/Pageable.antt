-- Contents of which a page can be made: each node is sized, and there are not too many.
use Rattle.std.specs.Prelude.{◌≡◌, ◌+◌, ◌≤◌, ℤ, pos, neg_ℤ, ◌≤ℤ◌, map, All}
use Rattle.tb_node.specs.Fit.{IsDimension, IsExtent, IsPenalty, IsSized, IsSizedLeaf}
use Rattle.tb_node.specs.Shape.{glue}
use Rattle.tb_node.specs.PlainNodes.{leaf_shape, Inserted, PlainKind, plain, ins, act, PlainNode, node_shape}
use Rattle.tb_node.specs.Sums.{size_of}
use Rattle.tb_insert.specs.declared.Class.{Class}
use Rattle.tb_builder.specs.declared.Ask.{Ask}
use Rattle.tb_builder.specs.FiredPages.{Boxed, content_of}
use Rattle.tb_builder.specs.Contents.{Contents, frozen_with, frozen_of, node_count, box_count}
use Rattle.tb_builder.specs.Ownership.{ClassesFit}

-- an insertion with sized nodes, whose height is the size of its list
pub record IsSizedInserted (i : Inserted) : Type 0 where
  pub inner : All IsSizedLeaf i.inner
  pub height : i.height ≡ size_of (map leaf_shape i.inner)
  pub split_depth : IsExtent i.split_depth
  pub split_top : IsExtent i.split_top
  pub floating : IsPenalty i.floating

-- an insertion is sized, and so is its list; other kinds have no list
abbrev pub IsSizedKind : PlainKind → Type 0
IsSizedKind (plain m) = Unit {0}
IsSizedKind (ins i) = IsSizedInserted i
IsSizedKind (act a) = Unit {0}

-- a sized node of a page
pub record IsSizedOnPage (n : PlainNode) : Type 0 where
  pub shape : IsSized (node_shape n)
  pub kind : IsSizedKind n.kind

-- a factor: an insertion counts at most ten times its height against the goal
pub record IsFactor (z : ℤ) : Type 0 where
  pub low : pos 0 ≤ℤ z
  pub high : z ≤ℤ pos 10000

-- a class: its factor and the amounts of its skip are in their ranges
pub record IsSizedClass (c : Class) : Type 0 where
  pub factor : IsFactor c.factor
  pub width : IsDimension c.skip.width
  pub stretch : IsDimension c.skip.stretch
  pub shrink : IsDimension c.skip.shrink

-- each node of a class box is sized
abbrev pub IsSizedBox : Boxed → Type 0
IsSizedBox b = All IsSizedLeaf (content_of b.content)

-- a goal: at most 2^58 in absolute value
pub record IsGoal (z : ℤ) : Type 0 where
  pub low : neg_ℤ (pos 288230376151711744) ≤ℤ z
  pub high : z ≤ℤ pos 288230376151711744

-- at most 2^22 nodes, those of insertions and class boxes too, and classes whose numbers differ and are below 256
pub record IsPageable (c : Contents) (ask : Ask) : Type 0 where
  pub goal : IsGoal (frozen_of c ask).goal
  pub limit : IsExtent (frozen_of c ask).limit
  pub asked_goal : IsGoal ask.goal
  pub asked_depth : IsExtent ask.max_depth
  pub top_skip : IsExtent ask.top_skip
  pub feet : IsSized (glue (frozen_with c.frozen ask).foot_skip)
  pub classes : All IsSizedClass c.classes
  pub classes_fit : ClassesFit c.classes
  pub boxes : All IsSizedBox c.boxes
  pub page : All IsSizedOnPage c.page
  pub waiting : All IsSizedOnPage c.waiting
  pub few : node_count c.page + node_count c.waiting + box_count c.boxes ≤ 4194304
