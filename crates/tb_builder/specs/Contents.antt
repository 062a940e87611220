-- What a page builder holds: the page so far, what waits, the class boxes, and what is held of a page that fired.
use Rattle.std.specs.Prelude.{ℕ, ◌+◌, Bool, true, false, List, [], ◌∷◌, ◌++◌, map, length, min, Option, Some, None, if◌then◌else◌}
use Rattle.tb_pool.specs.Lists.{Lists, list_at}
use Rattle.tb_node.specs.declared.Node.{Node}
use Rattle.tb_node.specs.PlainNodes.{Leaf, leaf_of, PlainKind, plain, ins, act, PlainNode, plain_list}
use Rattle.tb_break.specs.Best.{Breakpoint}
use Rattle.tb_break.specs.PageTop.{pruned_nodes}
use Rattle.tb_insert.specs.declared.Class.{Class}
use Rattle.tb_insert.specs.Account.{Frozen, terms_after}
use Rattle.tb_builder.specs.declared.Ask.{Ask}
use Rattle.tb_builder.specs.declared.ClassList.{ClassList}
use Rattle.tb_builder.specs.declared.Builder.{Builder}
use Rattle.tb_builder.specs.Reach.{Reach, holds_box, reach_from}
use Rattle.tb_builder.specs.FiredPages.{Boxed, content_of, frozen_for}
use Rattle.tb_builder.specs.LegalPlaces.{glue_first, page_places}

-- the page so far, what waits, the class boxes in the order of the classes, the insertions that are held until
-- `put_back`, what the page is made for once its goal is frozen, and whether a stop was tried last
pub record Contents : Type 0 where
  pub classes : List Class
  pub boxes : List Boxed
  pub page : List PlainNode
  pub waiting : List PlainNode
  pub held : List PlainNode
  pub frozen : Option Ask
  pub stopped : Bool

-- the box of a class, void
abbrev pub void_box : Class → Boxed
void_box c = record { number = c.number; content = None }

-- what a new builder holds: nothing on the page, nothing waiting, each box void
abbrev pub nothing_yet : List Class → Contents
nothing_yet cs = record { classes = cs; boxes = map void_box cs; page = []; waiting = []; held = []; frozen = None; stopped = false }

-- ---- in a store

-- the list of a class box as the definitions see it
abbrev pub leaf_list : Lists Node → ℕ → List Leaf
leaf_list store l = map leaf_of (list_at store l)

-- the content of a box: none if it is void
abbrev pub content_by : Bool → List Leaf → Option (List Leaf)
content_by true ls = None
content_by false ls = Some ls

-- the box of a class as the definitions see it
abbrev pub boxed_of : Lists Node → ClassList → Boxed
boxed_of store e = record { number = e.class.number; content = content_by e.void (leaf_list store e.list) }

-- what a builder holds in the store
abbrev pub contents_of : Builder → Lists Node → Contents
contents_of b store = record {
  classes = map (λ e. e.class) b.boxes;
  boxes = map (boxed_of store) b.boxes;
  page = plain_list store b.page;
  waiting = plain_list store b.waiting;
  held = plain_list store b.held;
  frozen = b.frozen;
  stopped = b.stopped;
}

-- ---- what is reached

-- what a page is made for: what is frozen, else what is asked for (TeX: The Program §987)
abbrev pub frozen_with : Option Ask → Ask → Ask
frozen_with None ask = ask
frozen_with (Some f) ask = f

-- the goal, the depth limit and the class boxes of such a page
abbrev pub frozen_or : Option Ask → Ask → List Class → List Boxed → Frozen
frozen_or o ask cs boxes = frozen_for (frozen_with o ask) cs boxes

-- the goal, the depth limit and the class boxes of the page that a builder holds, frozen or asked for
abbrev pub frozen_of : Contents → Ask → Frozen
frozen_of c ask = frozen_or c.frozen ask c.classes c.boxes

-- what follows the page so far: what waits, pruned if the page has no box yet
abbrev pub ahead_of : Contents → Ask → List PlainNode
ahead_of c ask = if holds_box c.page then c.waiting else pruned_nodes ask.top_skip c.waiting

-- the page so far and what follows it
abbrev pub laid : Contents → Ask → List PlainNode
laid c ask = c.page ++ ahead_of c ask

-- what is reached past the page so far
abbrev pub reach_ahead : Contents → Ask → Reach
reach_ahead c ask = reach_from (frozen_of c ask).limit (terms_after (frozen_of c ask)) c.page (ahead_of c ask)

-- the legal places of the page so far
abbrev pub places_of : Contents → Ask → List Breakpoint
places_of c ask = page_places (frozen_of c ask).limit (terms_after (frozen_of c ask)) [] c.page (glue_first c.waiting)

-- if a stop was tried last: what is reached of the page and what waits as one list
abbrev pub reach_whole : Contents → Ask → Reach
reach_whole c ask = reach_from (frozen_of c ask).limit (terms_after (frozen_of c ask)) [] (c.page ++ c.waiting)

-- ---- the number of nodes

-- the count of a node: itself and the nodes of its insertion
abbrev pub kind_count : PlainKind → ℕ
kind_count (plain m) = 1
kind_count (ins i) = 1 + length i.inner
kind_count (act a) = 1

-- the nodes of a list, those of insertions too
abbrev pub node_count : List PlainNode → ℕ
node_count [] = 0
node_count (n ∷ ns) = kind_count n.kind + node_count ns

-- the nodes in class boxes
abbrev pub box_count : List Boxed → ℕ
box_count [] = 0
box_count (b ∷ bs) = length (content_of b.content) + box_count bs

-- the number of nodes that wait and of those in the class boxes, which saturates
abbrev pub contents_count : Contents → ℕ
contents_count c = min (node_count c.waiting + box_count c.boxes) 18446744073709551615
