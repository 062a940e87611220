-- What a node is in a page's list: an insertion, an act of the output routine, or matter.
use Rattle.std.specs.Prelude.{Option, Some, None}
use Rattle.tb_node.specs.declared.Act.{Act}
use Rattle.tb_node.specs.declared.Insertion.{Insertion}
use Rattle.tb_node.specs.declared.Kind.{Kind}
use Rattle.tb_node.specs.declared.Kind.TheVariants as kinds
use Rattle.tb_node.specs.declared.Role.{Role}
use Rattle.tb_node.specs.declared.Role.TheVariants as roles

-- ---- a node of the store, by its kind

-- the act, if the node is one
abbrev pub act_of_kind : Kind → Option Act
act_of_kind (kinds.Hbox what h d) = None
act_of_kind (kinds.Rule of h d) = None
act_of_kind (kinds.Skip g) = None
act_of_kind (kinds.Kern w) = None
act_of_kind (kinds.Pen p) = None
act_of_kind (kinds.Mark name) = None
act_of_kind (kinds.Note name) = None
act_of_kind kinds.Whatsit = None
act_of_kind (kinds.Ins i) = None
act_of_kind (kinds.Act a) = Some a

-- the insertion, if the node is one
abbrev pub insertion_of_kind : Kind → Option Insertion
insertion_of_kind (kinds.Hbox what h d) = None
insertion_of_kind (kinds.Rule of h d) = None
insertion_of_kind (kinds.Skip g) = None
insertion_of_kind (kinds.Kern w) = None
insertion_of_kind (kinds.Pen p) = None
insertion_of_kind (kinds.Mark name) = None
insertion_of_kind (kinds.Note name) = None
insertion_of_kind kinds.Whatsit = None
insertion_of_kind (kinds.Ins i) = Some i
insertion_of_kind (kinds.Act a) = None

-- ---- what the code sees of it

-- the act, if the role is that of one
abbrev pub act_of_role : Role → Option Act
act_of_role roles.Matter = None
act_of_role (roles.Insertion i) = None
act_of_role (roles.Act a) = Some a

-- the insertion, if the role is that of one
abbrev pub insertion_of_role : Role → Option Insertion
insertion_of_role roles.Matter = None
insertion_of_role (roles.Insertion i) = Some i
insertion_of_role (roles.Act a) = None
