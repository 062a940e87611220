-- What stays sized from call to call of a page builder, and how many nodes there are.
use Rattle.std.specs.Prelude.{◌≡◌, ℕ, ◌+◌, pos, Bool, true, false, List, [], ◌∷◌, ◌++◌, Option, Some, None, All}
use Rattle.tb_node.specs.Fit.{IsExtent, IsSized}
use Rattle.tb_node.specs.Shape.{glue}
use Rattle.tb_node.specs.PlainNodes.{PlainNode}
use Rattle.tb_insert.specs.declared.Class.{Class}
use Rattle.tb_builder.specs.declared.Ask.{Ask}
use Rattle.tb_builder.specs.Reach.{laid_out}
use Rattle.tb_builder.specs.FiredPages.{Boxed, Fired}
use Rattle.tb_builder.specs.Contents.{Contents, node_count, box_count}
use Rattle.tb_builder.specs.Ownership.{ClassesFit}
use Rattle.tb_builder.specs.Pageable.{IsSizedOnPage, IsSizedClass, IsSizedBox, IsGoal}

-- ---- what is asked

-- a goal, a depth limit and a top skip that are not below 0, and a sized skip of footnotes
pub record IsSizedAsk (ask : Ask) : Type 0 where
  pub goal : IsGoal ask.goal
  pub depth : IsExtent ask.max_depth
  pub top_skip : IsExtent ask.top_skip
  pub foot_skip : IsSized (glue ask.foot_skip)

-- what a page is made for, but for its top skip
pub record IsSizedMake (f : Ask) : Type 0 where
  pub goal : IsGoal f.goal
  pub depth : IsExtent f.max_depth
  pub foot_skip : IsSized (glue f.foot_skip)

-- the same of what is frozen, if something is
abbrev pub IsSizedFreeze : Option Ask → Type 0
IsSizedFreeze None = Unit {0}
IsSizedFreeze (Some f) = IsSizedMake f

-- ---- what a builder holds

-- the page so far and what waits as one list; until a stop was tried it is laid out, under a top skip of 0
abbrev pub laid_by : Bool → List PlainNode → List PlainNode → List PlainNode
laid_by true page waiting = page ++ waiting
laid_by false page waiting = laid_out (pos 0) page waiting

-- the page so far and what waits as one list, for what a builder holds
abbrev pub whole_list : Contents → List PlainNode
whole_list c = laid_by c.stopped c.page c.waiting

-- all nodes and classes are sized, and so is what is frozen; the numbers of the classes differ and are below 256
pub record IsSizedContents (c : Contents) : Type 0 where
  pub nodes : All IsSizedOnPage (whole_list c)
  pub held : All IsSizedOnPage c.held
  pub boxes : All IsSizedBox c.boxes
  pub classes : All IsSizedClass c.classes
  pub classes_fit : ClassesFit c.classes
  pub frozen : IsSizedFreeze c.frozen

-- ---- how many nodes there are

-- the number of all nodes that a builder holds, those of insertions and of the class boxes too
abbrev pub whole_count : Contents → ℕ
whole_count c = node_count (whole_list c) + node_count c.held + box_count c.boxes

-- the number of nodes of a page that fires, of what is held and what is left of it, and of the class boxes
abbrev pub fired_count : Fired → ℕ
fired_count f = node_count f.body + node_count f.held + node_count f.rest + box_count f.boxes

-- each class has its box, in the order of the classes
abbrev pub AreBoxesOf : List Class → List Boxed → Type 0
AreBoxesOf [] [] = Unit {0}
AreBoxesOf [] (b ∷ bs) = ⊥
AreBoxesOf (c ∷ cs) [] = ⊥
AreBoxesOf (c ∷ cs) (b ∷ bs) = (b.number ≡ c.number) × AreBoxesOf cs bs
