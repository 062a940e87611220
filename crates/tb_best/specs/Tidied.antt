-- A state without what vanishes at the top of its next page.
use Rattle.std.specs.Prelude.{List, [], ◌∷◌}
use Rattle.tb_node.specs.Shape.{Shape, box, glue, kern, penalty, other}
use Rattle.tb_node.specs.PlainNodes.{PlainNode, node_shape}
use Rattle.tb_output.specs.State.{State}

-- the list that begins with a node of this shape, if the rest is tidied to this
abbrev pub tidied_at : Shape → PlainNode → List PlainNode → List PlainNode → List PlainNode
tidied_at (box h d) n ns tidied = n ∷ ns
tidied_at (glue g) n ns tidied = tidied
tidied_at (kern w) n ns tidied = tidied
tidied_at (penalty p) n ns tidied = tidied
tidied_at other n ns tidied = n ∷ tidied

-- the nodes without the glue, kerns and penalties before the first box
abbrev pub tidied_nodes : List PlainNode → List PlainNode
tidied_nodes [] = []
tidied_nodes (n ∷ ns) = tidied_at (node_shape n) n ns (tidied_nodes ns)

-- the state in which these wait
abbrev pub tidied : State → State
tidied s = record s { waiting = tidied_nodes s.waiting }
