-- The depth of a list, read from its last node.
use Rattle.std.specs.Prelude.{ℤ, pos, Option, Some, None}
use Rattle.tb_node.specs.declared.Kind.{Kind}
use Rattle.tb_node.specs.declared.Kind.TheVariants as kinds
use Rattle.tb_node.specs.declared.Node.{Node}

-- the depth of a list that ends in a node of this kind, if no node before it matters
abbrev pub kind_depth : Kind → Option ℤ
kind_depth (kinds.Hbox what h d) = Some d
kind_depth (kinds.Rule name h d) = Some d
kind_depth (kinds.Skip g) = Some (pos 0)
kind_depth (kinds.Kern w) = Some (pos 0)
kind_depth (kinds.Pen p) = None
kind_depth (kinds.Mark name) = None
kind_depth (kinds.Note name) = None
kind_depth kinds.Whatsit = None
kind_depth (kinds.Ins i) = None
kind_depth (kinds.Act a) = None

-- the same of a node, if there is one
abbrev pub depth_there : Option Node → Option ℤ
depth_there None = None
depth_there (Some n) = kind_depth n.kind
