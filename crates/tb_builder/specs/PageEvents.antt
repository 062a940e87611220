-- What the page builder returns, and what it requires of what it is given.
use Rattle.std.specs.Prelude.{◌≡◌, ℕ, ℤ, pos, neg_ℤ, ◌<ℤ◌, ◌≤ℤ◌, Bool, true, false, List, [], ◌∷◌, ◌++◌, map, take, length, Option, Some, None, All}
use Rattle.std.specs.FinMap.{get}
use Rattle.tb_pool.specs.Lists.{Lists, IsLive, list_at}
use Rattle.tb_node.specs.declared.Node.{Node}
use Rattle.tb_node.specs.declared.Act.{Act}
use Rattle.tb_node.specs.Fit.{NodesFit, SumsFit}
use Rattle.tb_node.specs.SmallAmounts.{IsAmount, IsSmallShape}
use Rattle.tb_node.specs.Shape.{Shape}
use Rattle.tb_node.specs.Sums.{size_of}
use Rattle.tb_node.specs.PlainNodes.{leaf_shape, Inserted, PlainKind, plain, ins, act, PlainNode, node_shape, plain_list}
use Rattle.tb_break.specs.declared.Best.{Best}
use Rattle.tb_break.specs.Best.{Breakpoint, is_stop, least_cost}
use Rattle.tb_insert.specs.Account.{ClassBox, Frozen, labelled}
use Rattle.tb_insert.specs.Arrival.{ClassFits, PageFits}
use Rattle.tb_builder.specs.declared.Ask.{Ask}
use Rattle.tb_builder.specs.declared.Try.{Try}
use Rattle.tb_builder.specs.declared.Page.{Page}
use Rattle.tb_builder.specs.declared.Builder.{Builder}
use Rattle.tb_builder.specs.declared.Event.{Event}
use Rattle.tb_builder.specs.declared.Event.TheVariants as events
use Rattle.tb_builder.specs.Reach.{acted, tried, Reach, also_reached, try_of, breakpoints}
use Rattle.tb_builder.specs.FiredPages.{Boxed, content_of, Fired, page_break, fired_by}
use Rattle.tb_builder.specs.Ownership.{Lacks, inner_ids, Ids, owned}
use Rattle.tb_builder.specs.Contents.{Contents, frozen_with, frozen_of, laid, reach_ahead, reach_whole, places_of}

-- ---- what is required

-- the room of each prefix fits
abbrev pub SizesFit : List Shape → Type 0
SizesFit ns = (before rest : List Shape) → before ++ rest ≡ ns → IsAmount (size_of before)

-- the room of one node, if the room before it and with it fits: below 2^61 in absolute value
pub record IsRoom (z : ℤ) : Type 0 where
  pub low : neg_ℤ (pos 2305843009213693952) <ℤ z
  pub high : z <ℤ pos 2305843009213693952

-- the goal, the depth limit and the top skip fit, and the limit is not below 0
pub record AskFits (ask : Ask) : Type 0 where
  pub goal : IsAmount ask.goal
  pub depth : IsAmount ask.max_depth
  pub depth_low : pos 0 ≤ℤ ask.max_depth
  pub top_skip : IsAmount ask.top_skip

-- the list of an insertion can be split
pub record InsertedFits (i : Inserted) : Type 0 where
  pub nodes : NodesFit (map leaf_shape i.inner)
  pub sums : SumsFit i.split_depth (map leaf_shape i.inner)
  pub sizes : SizesFit (map leaf_shape i.inner)
  pub depth : IsAmount i.split_depth
  pub depth_low : pos 0 ≤ℤ i.split_depth
  pub top : IsAmount i.split_top

-- the list of an insertion can be split
abbrev pub KindFits : PlainKind → Type 0
KindFits (plain m) = Unit {0}
KindFits (ins i) = InsertedFits i
KindFits (act a) = Unit {0}

-- the amounts of a node fit
pub record NodeFits (n : PlainNode) : Type 0 where
  pub small : IsSmallShape (node_shape n)
  pub kind_fits : KindFits n.kind

-- all that the page so far and what follows it add up to fits
pub record LaidFits (z : Frozen) (ns : List PlainNode) : Type 0 where
  pub pages : (before rest : List PlainNode) → before ++ rest ≡ ns → PageFits z before
  pub nodes : (before : List PlainNode) (n : PlainNode) (rest : List PlainNode) → before ++ n ∷ rest ≡ ns → NodeFits n
  pub classes : All (λ (c : ClassBox). ClassFits c.class) z.classes

-- the sizes of the class boxes fit
abbrev pub BoxesFit : List Boxed → Type 0
BoxesFit [] = Unit {0}
BoxesFit (b ∷ bs) = SizesFit (map leaf_shape (content_of b.content)) × BoxesFit bs

-- what `next` requires: all that it adds up fits
pub record NextFits (c : Contents) (ask : Ask) : Type 0 where
  pub asked : AskFits ask
  pub boxes : BoxesFit c.boxes
  pub laid_fits : LaidFits (frozen_of c ask) (laid c ask)

-- ---- what is returned

-- what stays while a page is filled
pub record KeepsBoxes (c d : Contents) (ask : Ask) : Type 0 where
  pub classes : d.classes ≡ c.classes
  pub boxes : d.boxes ≡ c.boxes
  pub held : d.held ≡ c.held
  pub made : frozen_with d.frozen ask ≡ frozen_with c.frozen ask
  pub keeps : (f : Ask) → c.frozen ≡ Some f → d.frozen ≡ Some f

-- The place before a node is no stop: what is reached after it is reached from the contents now. ns is the page so far
-- and what follows it, w what is reached of it past the page, and bs are the page's places.
pub record GoesPast (ns : List PlainNode) (w : Reach) (bs : List Breakpoint) (ask : Ask) (line : ℕ) (b : Breakpoint) (d : Contents) : Type 0 where
  pub reach : w ≡ also_reached (tried line b) (reach_ahead d ask)
  pub places : places_of d ask ≡ bs ++ b ∷ []
  pub whole : laid d ask ≡ ns
  pub stopped : d.stopped ≡ false

-- what is reached if the list from the page's end on begins with a stop
abbrev pub stopped_with : List PlainNode → List PlainNode → ℕ → Breakpoint → Reach
stopped_with page waiting line b = record { reached = tried line b ∷ []; passed = page; beyond = waiting; fires = true }

-- the place is the stop: the page, what waits and the places up to the stop are those of the whole list
pub record IsTheStop (ns : List PlainNode) (w : Reach) (bs : List Breakpoint) (ask : Ask) (line : ℕ) (b : Breakpoint) (d : Contents) : Type 0 where
  pub reach : w ≡ stopped_with d.page d.waiting line b
  pub reached : breakpoints (reach_whole d ask).reached ≡ bs ++ b ∷ []
  pub passed : (reach_whole d ask).passed ≡ d.page
  pub beyond : (reach_whole d ask).beyond ≡ d.waiting
  pub whole : d.page ++ d.waiting ≡ ns
  pub still : laid d ask ≡ ns
  pub stopped : d.stopped ≡ true

-- a legal place was tried, the first of what is reached; its cost is compared with the least of the page's earlier places
pub record TriedIs (t : Try) (ns : List PlainNode) (w : Reach) (bs : List Breakpoint) (ask : Ask) (d : Contents) : Type 0 where
  pub line : ℕ
  pub place : Breakpoint
  pub made : t ≡ try_of line place (least_cost bs)
  pub goes : is_stop place ≡ false → GoesPast ns w bs ask line place d
  pub stops : is_stop place ≡ true → IsTheStop ns w bs ask line place d

-- the list without one act
pub record Without (a : Act) (ns ms : List PlainNode) : Type 0 where
  pub before : List PlainNode
  pub line : ℕ
  pub after : List PlainNode
  pub was : ns ≡ before ++ record { line = line; kind = act a } ∷ after
  pub left : ms ≡ before ++ after

-- an act was handed out, the first of what is reached
pub record ActedIs (a : Act) (ns : List PlainNode) (w : Reach) (bs : List Breakpoint) (ask : Ask) (d : Contents) : Type 0 where
  pub reach : w ≡ also_reached (acted a) (reach_ahead d ask)
  pub places : places_of d ask ≡ bs
  pub whole : Without a ns (laid d ask)
  pub stopped : d.stopped ≡ false

-- nothing is reached and nothing waits
abbrev pub nothing_reached : List PlainNode → Reach
nothing_reached page = record { reached = []; passed = page; beyond = []; fires = false }

-- nothing is left to be reached, and no node waits
pub record EmptyIs (ns : List PlainNode) (w : Reach) (bs : List Breakpoint) (ask : Ask) (d : Contents) : Type 0 where
  pub reach : w ≡ nothing_reached d.page
  pub waiting : d.waiting ≡ []
  pub places : places_of d ask ≡ bs
  pub whole : d.page ≡ ns
  pub stopped : d.stopped ≡ false

-- the event is the first of what is reached; the contents after it are d
abbrev pub FirstIs : Event → List PlainNode → Reach → List Breakpoint → Ask → Contents → Type 0
FirstIs (events.Try t) ns w bs ask d = TriedIs t ns w bs ask d
FirstIs (events.Act a) ns w bs ask d = ActedIs a ns w bs ask d
FirstIs (events.Fired p) ns w bs ask d = ⊥
FirstIs events.Empty ns w bs ask d = EmptyIs ns w bs ask d

-- the page that fires, after a stop was tried
abbrev pub fired_page : Contents → Ask → Fired
fired_page c ask = let w = reach_whole c ask in fired_by (labelled (frozen_of c ask) (take (page_break w).place w.passed)) c.boxes w

-- the contents after a page fired
abbrev pub after_fired : Contents → Fired → Contents
after_fired c f = record { classes = c.classes; boxes = f.boxes; page = []; waiting = f.rest; held = f.held; frozen = None; stopped = false }

-- the page is this one, its list is live, and its shrink is an amount
pub record PageIs (p : Page) (f : Fired) (s : Lists Node) : Type 0 where
  pub live : IsLive s p.body
  pub body : plain_list s p.body ≡ f.body
  pub penalty : p.penalty ≡ f.penalty
  pub cost : p.cost ≡ f.cost
  pub size : p.size ≡ f.size
  pub shrink : p.shrink ≡ f.shrink
  pub amount : IsAmount p.shrink
  pub line : p.line ≡ f.line
  pub held : p.held ≡ length f.held

-- the page is the one that fires, and the contents are those after it
pub record FiredIs (p : Page) (c : Contents) (ask : Ask) (d : Contents) (s : Lists Node) : Type 0 where
  pub page : PageIs p (fired_page c ask) s
  pub after : d ≡ after_fired c (fired_page c ask)

-- the event is the page that fires
abbrev pub FiresWith : Event → Contents → Ask → Contents → Lists Node → Type 0
FiresWith (events.Try t) c ask d s = ⊥
FiresWith (events.Act a) c ask d s = ⊥
FiresWith (events.Fired p) c ask d s = FiredIs p c ask d s
FiresWith events.Empty c ask d s = ⊥

-- the height plus the depth of the page up to its best place
abbrev pub best_room : Option Best → ℤ
best_room None = pos 0
best_room (Some x) = x.size

-- the height plus the depth of the body of the page that fired last
abbrev pub fired_room : Builder → ℤ
fired_room b = best_room b.course.scan.best

-- if the event is a page that fires, the builder keeps the height plus the depth of its body
abbrev pub TellsRoom : Event → Builder → Lists Node → Type 0
TellsRoom (events.Try t) d s = Unit {0}
TellsRoom (events.Act a) d s = Unit {0}
TellsRoom (events.Fired p) d s = fired_room d ≡ size_of (map node_shape (plain_list s p.body))
TellsRoom events.Empty d s = Unit {0}

-- the body of a page that fires is a list that was opened for it, without insertions, and not the builder's
abbrev pub IsGivenOut : Event → Lists Node → Ids → Lists Node → Type 0
IsGivenOut (events.Try t) s b r = Unit {0}
IsGivenOut (events.Act a) s b r = Unit {0}
IsGivenOut (events.Fired p) s b r = (get s.lists p.body ≡ None) × (inner_ids (list_at r p.body) ≡ []) × Lacks p.body (owned b r)
IsGivenOut events.Empty s b r = Unit {0}

-- what `next` returns: the page that fires if a stop was tried last, else the first event past the page so far
abbrev pub NextIs : Bool → Event → Contents → Ask → Contents → Lists Node → Type 0
NextIs true e c ask d s = FiresWith e c ask d s
NextIs false e c ask d s = FirstIs e (laid c ask) (reach_ahead c ask) (places_of c ask) ask d × KeepsBoxes c d ask
