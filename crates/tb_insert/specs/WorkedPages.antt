-- The worked pages of the tests.
use Rattle.std.specs.Prelude.{◌≡◌, ℕ, ℤ, pos, List, [], ◌∷◌, map, take, Some, None}
use Rattle.std.specs.FinMap.{get}
use Rattle.tb_scaled.specs.declared.Order.TheVariants.{Normal}
use Rattle.tb_scaled.specs.Scaled.{max_dimen}
use Rattle.tb_scaled.specs.Glue.{fixed_glue}
use Rattle.tb_pool.specs.Lists.{Lists}
use Rattle.tb_node.specs.declared.Node.{Node}
use Rattle.tb_node.specs.declared.Kind.TheVariants.{Hbox, Skip}
use Rattle.tb_node.specs.declared.What.TheVariants.{Blank}
use Rattle.tb_node.specs.PlainNodes.{leaf_of, Inserted, ins, PlainNode}
use Rattle.tb_break.specs.Scan.{Scanned}
use Rattle.tb_insert.specs.declared.Class.{Class}
use Rattle.tb_insert.specs.declared.Account.{Account}
use Rattle.tb_insert.specs.Account.{ClassBox, Frozen}
use Rattle.tb_insert.specs.AccountEntries.{boxed, IsAccountOf, IsScanOfPage}

-- a box of this height
abbrev pub worked_box : ℤ → Node
worked_box h = record { line = 7; kind = Hbox Blank h (pos 0) }

-- glue of width 0
abbrev pub worked_glue : Node
worked_glue = record { line = 7; kind = Skip (fixed_glue (pos 0)) }

-- two boxes of 100000 sp together
abbrev pub short_nodes : List Node
short_nodes = worked_box (pos 40000) ∷ worked_glue ∷ worked_box (pos 60000) ∷ []

-- two boxes of 400000 sp together
abbrev pub long_nodes : List Node
long_nodes = worked_box (pos 250000) ∷ worked_glue ∷ worked_box (pos 150000) ∷ []

-- one box of 600000 sp
abbrev pub single_node : List Node
single_node = worked_box (pos 600000) ∷ []

-- class 254: at most 500000 sp go on a page, under a skip of 12000 plus 3000 minus 2000
abbrev pub footnotes : Class
footnotes = record { number = 254; factor = pos 1000; limit = pos 500000; below = None; skip = record { width = pos 12000; stretch = pos 3000; order = Normal; shrink = pos 2000 } }

-- class 253: a half of each height counts
abbrev pub figures : Class
figures = record { number = 253; factor = pos 500; limit = max_dimen; below = None; skip = fixed_glue (pos 0) }

-- both classes; the second has 40000 sp in its box
abbrev pub worked_classes : List ClassBox
worked_classes = boxed footnotes (pos 0) ∷ boxed figures (pos 40000) ∷ []

-- a goal of 1000000 sp, and no depth
abbrev pub worked_page : Frozen
worked_page = record { goal = pos 1000000; limit = pos 0; classes = worked_classes }

-- an insertion of these nodes
abbrev pub worked_note : ℕ → List Node → ℤ → Inserted
worked_note class ns height = record { class = class; inner = map leaf_of ns; height = height; split_depth = pos 0; split_top = pos 0; floating = pos 77 }

-- two that fit, one that is split at the limit of its class, a late one, and one of the other class
abbrev pub worked_notes : List Inserted
worked_notes =
    worked_note 254 short_nodes (pos 100000) ∷ worked_note 254 short_nodes (pos 100000) ∷ worked_note 254 long_nodes (pos 400000)
    ∷ worked_note 254 short_nodes (pos 100000) ∷ worked_note 253 short_nodes (pos 100000) ∷ []

-- the insertion as a node of the page
abbrev pub note_node : Inserted → PlainNode
note_node i = record { line = 7; kind = ins i }

-- a page with the first k of these
abbrev pub first_notes : ℕ → List PlainNode
first_notes k = map note_node (take k worked_notes)

-- the store has the three lists
pub record HasLists (s : Lists Node) (short long single : ℕ) : Type 0 where
  pub short_made : get s.lists short ≡ Some short_nodes
  pub long_made : get s.lists long ≡ Some long_nodes
  pub single_made : get s.lists single ≡ Some single_node

-- the account and the scan are those of the page with the first k insertions
pub record StandsAt (a : Account) (s : Scanned) (k : ℕ) : Type 0 where
  pub marked : List PlainNode
  pub account : IsAccountOf a worked_page (first_notes k) marked
  pub scan : IsScanOfPage s worked_page (first_notes k)
