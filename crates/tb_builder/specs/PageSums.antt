-- The sums of the page so far, and its goal (TeX: The Program §982).
use Rattle.std.specs.Prelude.{ℤ, pos, List, Option, Some, None}
use Rattle.tb_node.specs.declared.Sums.{Sums}
use Rattle.tb_node.specs.PlainNodes.{PlainNode}
use Rattle.tb_node.specs.Sums.{sums_of}
use Rattle.tb_insert.specs.Account.{Frozen, terms_after}
use Rattle.tb_insert.specs.Terms.{sums_with}
use Rattle.tb_builder.specs.declared.PageSums.{PageSums}
use Rattle.tb_builder.specs.LegalPlaces.{page_shapes}
use Rattle.tb_builder.specs.Contents.{Contents}
use Rattle.tb_builder.specs.FiredPages.{frozen_for}
use Rattle.tb_builder.specs.declared.Ask.{Ask}

-- the goal while none is frozen, the greatest dimension: no page exceeds it (TeX: The Program §421)
abbrev pub no_goal : ℤ
no_goal = pos 1073741823

-- the total and the shrink of these sums, with this goal
abbrev pub made_sums : Sums → ℤ → PageSums
made_sums s goal = record { total = s.total; shrink = s.shrink; goal = goal }

-- the sums with the glue above the insertions of the page, and its goal; before a goal is frozen there are no insertions
abbrev pub sums_frozen : Frozen → List PlainNode → PageSums
sums_frozen z page = made_sums (sums_with (sums_of z.limit (page_shapes page)) (terms_after z page)) (terms_after z page).goal

-- the sums and the goal, by the goal and the depth limit if they are frozen
abbrev pub sums_by : Option Ask → Contents → PageSums
sums_by None c = made_sums (sums_of (pos 0) (page_shapes c.page)) no_goal
sums_by (Some f) c = sums_frozen (frozen_for f c.classes c.boxes) c.page

-- the sums and the goal of the page so far of a builder that holds this
abbrev pub page_sums_of : Contents → PageSums
page_sums_of c = sums_by c.frozen c
