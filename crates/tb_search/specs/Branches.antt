-- A state of the search for the best pages in code: a routine in which nothing is left, and the items that are still ahead.
use Rattle.std.specs.Prelude.{◌≡◌, ◌≤◌, pos, neg_ℤ, Bool, true, false, List, [], ◌∷◌, ◌++◌, Option, Some, None}
use Rattle.tb_node.specs.declared.Kind.{Kind}
use Rattle.tb_node.specs.declared.Kind.TheVariants as kinds
use Rattle.tb_node.specs.PlainNodes.{pen, plain, PlainNode}
use Rattle.tb_builder.specs.Contents.{node_count}
use Rattle.tb_output.specs.State.{State}
use Rattle.tb_galley.specs.declared.Item.{Item}
use Rattle.tb_insert.specs.declared.Class.{Class}
use Rattle.tb_items.specs.declared.items_left.ItemsLeft.{ItemsLeft}
use Rattle.tb_items.specs.ItemsLeft.{nodes_left, nodes_of, next_nodes, AreItemsLeft, IsPastNext}
use Rattle.tb_items.specs.WaitingNodes.{AreItems}
use Rattle.tb_run.specs.declared.routine.Routine.{Routine}
use Rattle.tb_run.specs.Routine.{held_in, state_of, between_pages, IsConsistent, IsBounded, IsReady}
use Rattle.tb_run.specs.ServedStates.{IsServed}
use Rattle.tb_best.specs.ItemsAhead.{state_with}
use Rattle.tb_search.specs.declared.branch.Branch.{Branch}

-- the state that a branch shows
abbrev pub shown : Branch → State
shown b = state_of b.routine.value

-- the nodes of the items ahead, and those of the clear at the end
abbrev pub nodes_ahead : Branch → List PlainNode
nodes_ahead b = nodes_left b.ahead

-- a page can be made of what waits, nothing is left in the routine, and the nodes ahead may come behind those that wait
pub record IsBranch (b : Branch) : Type 0 where
  pub ready : IsReady b.routine.value
  pub none : b.routine.value.left ≡ None
  pub items : AreItemsLeft (shown b).classes b.ahead
  pub served : IsServed ((shown b).waiting ++ nodes_ahead b) (shown b)
  pub few : node_count (nodes_ahead b) ≤ 600005

-- ---- nodes are handed to a routine in which nothing is left

-- these nodes wait behind the others, and nothing else changed
pub record NowWait (ns : List PlainNode) (r q : Routine) : Type 0 where
  pub state : state_of q ≡ state_with ns (state_of r)
  pub whole : IsConsistent q
  pub between : held_in q ≡ between_pages (state_of q)
  pub machine : q.machine ≡ r.machine
  pub left : q.left ≡ None
  pub bounded : IsBounded 8388608 q

-- these nodes and those of the next item wait, and this is what is ahead then
pub record HasHanded (before : List PlainNode) (l : ItemsLeft) (rest : Option ItemsLeft) (r q : Routine) : Type 0 where
  pub wait : NowWait (before ++ next_nodes l) r q
  pub past : IsPastNext l rest
  pub all : next_nodes l ++ nodes_left rest ≡ nodes_of l
  pub items : (cs : List Class) → AreItems cs l.items.now → AreItemsLeft cs rest

-- ---- an item is taken

-- the nodes of the next item, or of the clear; none if nothing is ahead
abbrev pub next_of : Option ItemsLeft → List PlainNode
next_of None = []
next_of (Some l) = next_nodes l

-- a forced break before the first of these items; none if there is none
abbrev pub first_break : List Item → List PlainNode
first_break [] = []
first_break (n ∷ ns) = record { line = n.line; kind = plain (pen (neg_ℤ (pos 10000))) } ∷ []

-- the forced break before the next item; none before the clear
abbrev pub break_before : Option ItemsLeft → List PlainNode
break_before None = []
break_before (Some l) = first_break l.items.now

-- what is ahead after them
abbrev pub IsPast : Option ItemsLeft → Option ItemsLeft → Type 0
IsPast None o = o ≡ None
IsPast (Some l) o = IsPastNext l o

-- these nodes wait behind the others, what comes after the next item is ahead, and the flag is not set
pub record HasTaken (ns : List PlainNode) (b c : Branch) : Type 0 where
  pub state : shown c ≡ state_with ns (shown b)
  pub ahead : IsPast b.ahead c.ahead
  pub plain : c.plain ≡ false

-- ---- a kern behind which nothing waits but acts

-- whether nodes end in a kern with this one behind them, if they did before; acts are of no account
abbrev pub kern_after : Bool → Kind → Bool
kern_after k (kinds.Act a) = k
kern_after k (kinds.Kern w) = true
kern_after k _ = false
