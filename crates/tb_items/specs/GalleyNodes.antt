-- The nodes that wait at the page builder, by what the output routine asks of them.
use Rattle.std.specs.Prelude.{◌≡◌, ◌≤◌, ◌≤ℤ◌, true, List, All}
use Rattle.tb_node.specs.Fit.{IsExtent, IsPenalty}
use Rattle.tb_node.specs.PlainNodes.{hbox, rule, skip, kerned, pen, mark, note, whatsit, Matter, PlainKind, plain, ins, act, PlainNode}
use Rattle.tb_param.specs.declared.Params.{Params}
use Rattle.tb_insert.specs.declared.Class.{Class}
use Rattle.tb_builder.specs.Contents.{node_count}
use Rattle.tb_builder.specs.Ownership.{has_class}
use Rattle.tb_builder.specs.Pageable.{IsSizedOnPage}
use Rattle.tb_sheet.specs.Asked.{IsSizedAct, hold_penalty}

-- a penalty is not below that at which a page is held
abbrev pub IsMild : Matter → Type 0
IsMild (hbox what h d) = Unit {0}
IsMild (rule name h d) = Unit {0}
IsMild (skip g) = Unit {0}
IsMild (kerned w) = Unit {0}
IsMild (pen q) = hold_penalty ≤ℤ q
IsMild (mark name) = Unit {0}
IsMild (note name) = Unit {0}
IsMild whatsit = Unit {0}

-- a penalty is mild, the class of an insertion is one of these, and an act has its amounts in their ranges
abbrev pub IsServable : List Class → PlainKind → Type 0
IsServable cs (plain m) = IsMild m
IsServable cs (ins i) = has_class cs i.class ≡ true
IsServable cs (act a) = IsSizedAct a

-- all amounts of the node are in their ranges too
pub record IsGalleyNode (cs : List Class) (n : PlainNode) : Type 0 where
  pub sized : IsSizedOnPage n
  pub servable : IsServable cs n.kind

-- the same of each node, of which there are at most this many, those of insertions too
pub record AreGalleyNodes (cs : List Class) (ns : List PlainNode) : Type 0 where
  pub nodes : All (IsGalleyNode cs) ns
  pub few : node_count ns ≤ 600005

-- the parameters that an insertion of a footnote takes over are in their ranges, and those of what makes a page higher
pub record AreFootParams (p : Params) : Type 0 where
  pub split_depth : IsExtent p.footsplitdepth
  pub split_top : IsExtent p.footsplittop
  pub floating : IsPenalty p.footfloating
  pub enlarging_depth : IsExtent p.splitmaxdepth
  pub enlarging_top : IsExtent p.splittopskip
  pub enlarging_floating : IsPenalty p.floatingpenalty
