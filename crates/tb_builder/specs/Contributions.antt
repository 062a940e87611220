-- What the small calls of a page builder require of the nodes and lists that they get, and what they change.
use Rattle.std.specs.Prelude.{◌≡◌, ◌≢◌, ◌==◌, ℕ, Bool, true, false, List, [], ◌++◌, map, Option, Some, None, if◌then◌else◌}
use Rattle.std.specs.FinMap.{get}
use Rattle.tb_pool.specs.Lists.{Lists, IsLive, list_at}
use Rattle.tb_node.specs.declared.Node.{Node}
use Rattle.tb_node.specs.Shape.{Shape, box, glue, kern, penalty, other}
use Rattle.tb_node.specs.PlainNodes.{Leaf, leaf_of, PlainNode, node_shape, without_acts}
use Rattle.tb_break.specs.Places.{last_or}
use Rattle.tb_break.specs.SplitPlace.{is_glue}
use Rattle.tb_builder.specs.FiredPages.{Boxed, content_of}
use Rattle.tb_builder.specs.Contents.{Contents}
use Rattle.tb_builder.specs.Ownership.{Lacks, AllDiffer, AllLive, inner_ids, Ids, owned, AllPlain, HoldPlain, AllKnown, classes_of}

-- ---- what is handed to a builder

-- the lists of the insertions among these nodes are live, differ from each other and from the builder's lists, and hold
-- no insertion and no act; the classes of the insertions are the builder's
pub record NodesJoin (b : Ids) (s : Lists Node) (ns : List Node) : Type 0 where
  pub live : AllLive s (inner_ids ns)
  pub differ : AllDiffer (owned b s ++ inner_ids ns)
  pub plain_lists : HoldPlain s (inner_ids ns)
  pub known : AllKnown (classes_of b) ns

-- the list is live and not the builder's, and its nodes can join the builder's
pub record ListJoins (b : Ids) (s : Lists Node) (l : ℕ) : Type 0 where
  pub live : IsLive s l
  pub apart : Lacks l (owned b s ++ inner_ids (list_at s l))
  pub nodes : NodesJoin b s (list_at s l)

-- the node is a kern
abbrev pub is_kern : Shape → Bool
is_kern (box h d) = false
is_kern (glue g) = false
is_kern (kern w) = true
is_kern (penalty p) = false
is_kern other = false

-- the last node is a kern
abbrev pub ends_in_kern : List PlainNode → Bool
ends_in_kern ns = last_or false (map (λ n. is_kern (node_shape n)) ns)

-- if the page ends with a kern and nothing but acts waits, the node is no glue: before glue the kern would have been a
-- legal place, but it was passed as none
abbrev pub MayWait : Contents → PlainNode → Type 0
MayWait c n = ends_in_kern c.page ≡ true → without_acts c.waiting ≡ [] → is_glue (node_shape n) ≡ false

-- the lists a and b came before what the list c holds, and are empty now; no other list changed
pub record InFront (s t : Lists Node) (a b c : ℕ) : Type 0 where
  pub first : get t.lists a ≡ Some []
  pub second : get t.lists b ≡ Some []
  pub joined : get t.lists c ≡ Some (list_at s a ++ (list_at s b ++ list_at s c))
  pub others : (q : ℕ) → q ≢ a → q ≢ b → q ≢ c → get t.lists q ≡ get s.lists q

-- ---- an empty page

-- nothing is on the page, and its goal is not frozen, as after a page fired
pub record NoPage (c : Contents) : Type 0 where
  pub page : c.page ≡ []
  pub frozen : c.frozen ≡ None

-- ---- a box is taken

-- the box, void if it is that of class k
abbrev pub voided : ℕ → Boxed → Boxed
voided k b = if b.number == k then record b { content = None } else b

-- the boxes, but with that of class k void
abbrev pub with_void : ℕ → List Boxed → List Boxed
with_void k bs = map (voided k) bs

-- the nodes of a box, which are neither insertions nor acts, went to the end of the list
pub record Taken (s t : Lists Node) (into : ℕ) (content : Option (List Leaf)) : Type 0 where
  pub nodes : List Node
  pub live : IsLive t into
  pub joined : list_at t into ≡ list_at s into ++ nodes
  pub leaves : map leaf_of nodes ≡ content_of content
  pub plain_nodes : AllPlain nodes
