-- The nodes of a galley in plain TeX's page makeup: a float is only taken, and a clear is one forced break.
use Rattle.std.specs.Prelude.{ℤ, pos, negsuc, false, List, [], ◌∷◌, ◌++◌}
use Rattle.tb_scaled.specs.declared.Glue.{Glue}
use Rattle.tb_scaled.specs.declared.Order.TheVariants.{Fill}
use Rattle.tb_node.specs.PlainNodes.{skip, pen, whatsit, PlainKind, plain, act, PlainNode, on_line}
use Rattle.tb_node.specs.declared.Act.TheVariants as acts
use Rattle.tb_param.specs.declared.Params.{Params}
use Rattle.tb_galley.specs.declared.Item.{Item}
use Rattle.tb_galley.specs.declared.ItemKind.{ItemKind}
use Rattle.tb_galley.specs.declared.ItemKind.TheVariants as items
use Rattle.tb_galley.specs.declared.Galley.{Galley}
use Rattle.tb_galley.specs.GalleyNodes.{item_kinds}

-- glue of width 0 with the stretch 1fill, which fills what is left, also if other glue has the stretch of fil
abbrev pub clearing_glue : Glue
clearing_glue = record { width = pos 0; stretch = pos 65536; order = Fill; shrink = pos 0 }

-- the penalty of a clear: a page that breaks there asks for the insertions that are held
abbrev pub clearing_penalty : ℤ
clearing_penalty = negsuc 19999

-- the end of a page, and of those that held insertions need
abbrev pub clearing_kinds : List PlainKind
clearing_kinds = plain (skip clearing_glue) ∷ plain (pen clearing_penalty) ∷ []

-- the nodes of an item: a float is taken behind a whatsit, so that what it puts first does not decide whether a kern before it is a legal place
abbrev pub makeup_kinds : Params → ItemKind → List PlainKind
makeup_kinds p (items.Float f vert) = plain whatsit ∷ act (acts.Take f) ∷ []
makeup_kinds p items.ClearPage = clearing_kinds
makeup_kinds p k = item_kinds p false k

-- the nodes of the items in order
abbrev pub makeup_nodes : Params → List Item → List PlainNode
makeup_nodes p [] = []
makeup_nodes p (n ∷ ns) = on_line n.line (makeup_kinds p n.kind) ++ makeup_nodes p ns

-- the nodes of a galley: those of its items, and those of a clear
unfoldable pub made_up : Galley → List PlainNode
made_up g = makeup_nodes g.params g.items ++ on_line g.end_line clearing_kinds
