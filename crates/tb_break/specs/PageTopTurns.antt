-- Pruning in place (TeX: The Program §968). The nodes before the first box or rule are taken off the list's front one by
-- one, and those that stay wait at its end until the top glue is put in.
use Rattle.std.specs.Prelude.{ℕ, ℤ, List, [], ◌∷◌, ◌++◌, Option, None, Some}
use Rattle.tb_node.specs.declared.Node.{Node}
use Rattle.tb_node.specs.Shape.{Shape, box, glue, kern, penalty, other}
use Rattle.tb_node.specs.PlainNodes.{shape_of}
use Rattle.tb_break.specs.PageTop.{glue_before, top_glue}

-- a node of this shape that does not vanish at the top of a page, in front of others
abbrev pub kept_at : Shape → Node → List Node → List Node
kept_at (box h d) n later = []
kept_at (glue g) n later = later
kept_at (kern w) n later = later
kept_at (penalty p) n later = later
kept_at other n later = n ∷ later

-- the nodes before the first box or rule that do not vanish
abbrev pub before_box : List Node → List Node
before_box [] = []
before_box (n ∷ ns) = kept_at (shape_of n) n (before_box ns)

-- the list if its first node, of this shape, is a box or rule, else these others
abbrev pub boxed_at : Shape → List Node → List Node → List Node
boxed_at (box h d) ns later = ns
boxed_at (glue g) ns later = later
boxed_at (kern w) ns later = later
boxed_at (penalty p) ns later = later
boxed_at other ns later = later

-- the list from its first box or rule on
abbrev pub from_box : List Node → List Node
from_box [] = []
from_box (n ∷ ns) = boxed_at (shape_of n) (n ∷ ns) (from_box ns)

-- the list after its first node was looked at: a box or rule stays where it is, glue, a kern or a penalty goes, another goes to the end
abbrev pub turned_at : Shape → Node → List Node → List Node
turned_at (box h d) n ns = n ∷ ns
turned_at (glue g) n ns = ns
turned_at (kern w) n ns = ns
turned_at (penalty p) n ns = ns
turned_at other n ns = ns ++ n ∷ []

-- the list after its first node, if it has one, was looked at
abbrev pub turned : List Node → List Node
turned [] = []
turned (n ∷ ns) = turned_at (shape_of n) n ns

-- how many nodes went to the end; none if a box, a rule or the list's end is met
abbrev pub moved_at : Shape → Option ℕ
moved_at (box h d) = None
moved_at (glue g) = Some 0
moved_at (kern w) = Some 0
moved_at (penalty p) = Some 0
moved_at other = Some 1

-- the same for the first node of a list
abbrev pub moved : List Node → Option ℕ
moved [] = None
moved (n ∷ ns) = moved_at (shape_of n)

-- the top glue before a node of this shape, if it is a box or rule
abbrev pub top_at : ℤ → Shape → Node → Option Node
top_at top_skip (box h d) n = Some (glue_before n (top_glue top_skip h))
top_at top_skip (glue g) n = None
top_at top_skip (kern w) n = None
top_at top_skip (penalty p) n = None
top_at top_skip other n = None

-- the list with this node in front, if there is one
abbrev pub with_front : Option Node → List Node → List Node
with_front None ns = ns
with_front (Some n) ns = n ∷ ns

-- the list with the top glue, if it begins with a box or rule
abbrev pub topped : ℤ → List Node → List Node
topped top_skip [] = []
topped top_skip (n ∷ ns) = with_front (top_at top_skip (shape_of n) n) (n ∷ ns)
