-- Builders of worked pages: what comes to one before it makes a page, and what holds after the page fired.
use Rattle.std.specs.Prelude.{◌≡◌, ℕ, ◌+◌, true, [], map}
use Rattle.tb_pool.specs.Lists.{Lists}
use Rattle.tb_node.specs.declared.Node.{Node}
use Rattle.tb_node.specs.Fit.{IsSizedNode}
use Rattle.tb_node.specs.PlainNodes.{leaf_shape}
use Rattle.tb_builder.specs.declared.Ask.{Ask}
use Rattle.tb_builder.specs.declared.Builder.{Builder}
use Rattle.tb_builder.specs.FiredPages.{box_content, content_of}
use Rattle.tb_builder.specs.Contents.{Contents, contents_of, node_count, box_count}
use Rattle.tb_builder.specs.Ownership.{is_plain, has_class}
use Rattle.tb_builder.specs.Courses.{IsSound}
use Rattle.tb_builder.specs.PageEvents.{SizesFit}
use Rattle.tb_builder.specs.Contributions.{NoPage}
use Rattle.tb_builder.specs.Pageable.{IsPageable}

-- a sized node that is neither an insertion nor an act
pub record IsMatter (n : Node) : Type 0 where
  pub plain : is_plain n.kind ≡ true
  pub sized : IsSizedNode n

-- the size of the box of class 254 fits
abbrev pub BoxFits : Contents → Type 0
BoxFits c = SizesFit (map leaf_shape (content_of (box_content c.boxes 254)))

-- nothing is on the page, and one of the classes is 254
pub record AtRest (b : Builder) (s : Lists Node) : Type 0 where
  pub sound : IsSound b s
  pub no_page : NoPage (contents_of b s)
  pub known : has_class (contents_of b s).classes 254 ≡ true

-- a page can be made of what waits
pub record IsReady (b : Builder) (s : Lists Node) (ask : Ask) : Type 0 where
  pub rest : AtRest b s
  pub none_held : (contents_of b s).held ≡ []
  pub pageable : IsPageable (contents_of b s) ask

-- the number of waiting nodes and of those in the class boxes
abbrev pub waits : Builder → Lists Node → ℕ
waits b s = node_count (contents_of b s).waiting + box_count (contents_of b s).boxes
