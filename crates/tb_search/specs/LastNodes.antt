-- The last node of a list that is no act.
use Rattle.std.specs.Prelude.{Bool, true, false, List, [], ◌∷◌, Option, Some, None, if◌then◌else◌}
use Rattle.tb_node.specs.declared.Kind.{Kind}
use Rattle.tb_node.specs.declared.Kind.TheVariants as kinds
use Rattle.tb_node.specs.declared.Node.{Node}

-- a node of this kind is an act
abbrev pub is_act_kind : Kind → Bool
is_act_kind (kinds.Act a) = true
is_act_kind _ = false

-- a node, unless it is an act
abbrev pub but_act : Node → Option Node
but_act n = if is_act_kind n.kind then None else Some n

-- the first of these, or the second if there is none
abbrev pub or_this : Option Node → Option Node → Option Node
or_this None o = o
or_this (Some n) o = Some n

-- the last node that is no act
abbrev pub last_but_acts : List Node → Option Node
last_but_acts [] = None
last_but_acts (n ∷ ns) = or_this (last_but_acts ns) (but_act n)
