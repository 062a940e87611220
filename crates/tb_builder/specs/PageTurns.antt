-- One more node: what a turn of the page builder changes.
use Rattle.std.specs.Prelude.{◌≡◌, ℕ, ◌-◌, ◌<◌, ◌≤◌, Bool, true, false, List, [], ◌∷◌, ◌++◌, length, not, slice_get, Option, Some, None, IsSome}
use Rattle.tb_pool.specs.Lists.{Lists, list_at, with_list}
use Rattle.tb_node.specs.declared.Node.{Node}
use Rattle.tb_node.specs.PlainNodes.{PlainNode, plain_of, shape_of}
use Rattle.tb_node.specs.Shape.{is_discardable}
use Rattle.tb_node.specs.NodeSums.{added_node}
use Rattle.tb_node.specs.SmallAmounts.{IsSmall, IsSmallShape}
use Rattle.tb_node.specs.Roles.{act_of_kind, insertion_of_kind}
use Rattle.tb_break.specs.Best.{Breakpoint, is_stop, least_cost}
use Rattle.tb_insert.specs.Account.{Frozen, terms_after}
use Rattle.tb_insert.specs.Arrival.{PageFits}
use Rattle.tb_builder.specs.declared.Ask.{Ask}
use Rattle.tb_builder.specs.declared.Try.{Try}
use Rattle.tb_builder.specs.declared.Event.{Event}
use Rattle.tb_builder.specs.declared.Event.TheVariants as events
use Rattle.tb_builder.specs.declared.Turn.{Turn}
use Rattle.tb_builder.specs.declared.Turn.TheVariants as turns
use Rattle.tb_builder.specs.declared.Course.{Course}
use Rattle.tb_builder.specs.declared.Builder.{Builder}
use Rattle.tb_builder.specs.Reach.{tried, Reach, also_reached, reach_from, try_of, breakpoints}
use Rattle.tb_builder.specs.Contents.{Contents, contents_of, laid, reach_ahead, places_of}
use Rattle.tb_builder.specs.Ownership.{ids_of, IsOwned}
use Rattle.tb_builder.specs.Leaving.{LeavesOthers}
use Rattle.tb_builder.specs.Courses.{IsCourseOf, Underway, places_by, kept_frozen, IsSound}
use Rattle.tb_builder.specs.PageEvents.{FirstIs, KeepsBoxes, stopped_with}
use Rattle.tb_builder.specs.PassedNodes.{EventPast, TurnPast}

-- the lists are still the builder's, and all others stay as they are
pub record ChangesPage (b : Builder) (s : Lists Node) (d : Builder) (t : Lists Node) : Type 0 where
  pub own : IsOwned (ids_of d) t
  pub frame : LeavesOthers (ids_of b) s (ids_of d) t
  pub classes : (contents_of d t).classes ≡ (contents_of b s).classes
  pub boxes : (contents_of d t).boxes ≡ (contents_of b s).boxes
  pub held : (contents_of d t).held ≡ (contents_of b s).held

-- the first waiting node went on the page
pub record Shifted (n : PlainNode) (c d : Contents) : Type 0 where
  pub waiting : c.waiting ≡ n ∷ d.waiting
  pub page : d.page ≡ c.page ++ n ∷ []
  pub frozen : d.frozen ≡ c.frozen
  pub stopped : d.stopped ≡ c.stopped

-- what is reached past a page that is laid out
abbrev pub reach_on : Frozen → Contents → Reach
reach_on z c = reach_from z.limit (terms_after z) c.page c.waiting

-- the places of its page
abbrev pub places_on : Frozen → Contents → List Breakpoint
places_on z c = places_by z c.page c.waiting

-- a node went on the page, and nothing was reached by it
pub record GoesUntried (z : Frozen) (c d : Contents) : Type 0 where
  pub reach : reach_on z c ≡ reach_on z d
  pub places : places_on z d ≡ places_on z c
  pub whole : d.page ++ d.waiting ≡ c.page ++ c.waiting

-- the place before a node was tried and is no stop, and the node went on the page
pub record GoesOn (z : Frozen) (line : ℕ) (b : Breakpoint) (c d : Contents) : Type 0 where
  pub reach : reach_on z c ≡ also_reached (tried line b) (reach_on z d)
  pub places : places_on z d ≡ places_on z c ++ b ∷ []
  pub whole : d.page ++ d.waiting ≡ c.page ++ c.waiting
  pub stopped : d.stopped ≡ false

-- the place before the first waiting node was tried and is a stop: the page and the waiting nodes stay, and the course
-- counts the place with those before it
pub record StopsThere (z : Frozen) (line : ℕ) (b : Breakpoint) (k : Course) (c d : Contents) : Type 0 where
  pub reach : reach_on z c ≡ stopped_with d.page d.waiting line b
  pub page : d.page ≡ c.page
  pub waiting : d.waiting ≡ c.waiting
  pub stopped : d.stopped ≡ true
  pub course : IsCourseOf z k d.page (places_on z c ++ b ∷ [])
  pub shrink : b.sums.shrink ≡ k.scan.sums.shrink
  pub reached : breakpoints (reach_from z.limit (terms_after z) [] (d.page ++ d.waiting)).reached ≡ places_on z c ++ b ∷ []
  pub passed : (reach_from z.limit (terms_after z) [] (d.page ++ d.waiting)).passed ≡ d.page
  pub beyond : (reach_from z.limit (terms_after z) [] (d.page ++ d.waiting)).beyond ≡ d.waiting

-- a legal place was tried: the page goes on there, or it is the stop
pub record TriesOn (z : Frozen) (t : Try) (k : Course) (c d : Contents) : Type 0 where
  pub line : ℕ
  pub place : Breakpoint
  pub made : t ≡ try_of line place (least_cost (places_on z c))
  pub goes : is_stop place ≡ false → GoesOn z line place c d × Underway z k d.page d.waiting
  pub stops : is_stop place ≡ true → StopsThere z line place k c d

-- the first waiting node, no act and no insertion, was tried if it is a legal place, and went on the page unless that is a stop
abbrev pub StepIs : Option Event → Frozen → Course → Contents → Contents → Type 0
StepIs None z k c d = GoesUntried z c d × Underway z k d.page d.waiting × (d.stopped ≡ c.stopped)
StepIs (Some (events.Try t)) z k c d = TriesOn z t k c d
StepIs (Some (events.Act a)) z k c d = ⊥
StepIs (Some (events.Fired p)) z k c d = ⊥
StepIs (Some events.Empty) z k c d = ⊥

-- the event of a step: the place was tried, or there is none
abbrev pub event_of : Bool → Try → Option Event
event_of false t = None
event_of true t = Some (events.Try t)

-- what a step requires of the node: all that is added up with it fits
pub record StepFits (z : Frozen) (page : List PlainNode) (held : ℕ → List Node) (n : Node) : Type 0 where
  pub small : IsSmallShape (shape_of n)
  pub here : PageFits z page
  pub there : PageFits z (page ++ plain_of held n ∷ [])
  pub no_act : act_of_kind n.kind ≡ None
  pub no_insertion : insertion_of_kind n.kind ≡ None

-- the lists, once this node is before the first of a list
abbrev pub with_top : Lists Node → ℕ → Node → Lists Node
with_top s l g = record { lists = with_list s l (g ∷ list_at s l); spare = s.spare - 1 }

-- the node waits first, and it can be stepped over
pub record TopWaits (b : Builder) (t : Lists Node) (g : Node) : Type 0 where
  pub own : IsOwned (ids_of b) t
  pub first : slice_get (list_at t b.waiting) 0 ≡ Some g
  pub underway : Underway (kept_frozen (contents_of b t)) b.course (contents_of b t).page (contents_of b t).waiting
  pub fits : StepFits (kept_frozen (contents_of b t)) (contents_of b t).page (list_at t) g

-- what it requires of a node that goes on the page at once
pub record PutFits (k : Course) (n : Node) : Type 0 where
  pub small : IsSmallShape (shape_of n)
  pub sums : IsSmall (added_node k.scan.max_depth k.scan.sums (shape_of n))
  pub no_act : act_of_kind n.kind ≡ None
  pub no_insertion : insertion_of_kind n.kind ≡ None

-- the node comes to a page without a box, and is no act and no insertion; it does not vanish there
pub record StartsPage (n : Node) : Type 0 where
  pub no_act : act_of_kind n.kind ≡ None
  pub no_insertion : insertion_of_kind n.kind ≡ None
  pub stays : not (is_discardable (shape_of n)) ≡ true

-- ---- a turn

-- nothing was reached in the turn
pub record ReachesNothing (c d : Contents) (ask : Ask) : Type 0 where
  pub reach : reach_ahead c ask ≡ reach_ahead d ask
  pub places : places_of d ask ≡ places_of c ask
  pub whole : laid d ask ≡ laid c ask
  pub stopped : d.stopped ≡ false

-- the turn returned nothing, or the first event of what is reached
abbrev pub TurnBy : Option Event → Contents → Contents → Ask → Type 0
TurnBy None c d ask = ReachesNothing c d ask
TurnBy (Some e) c d ask = FirstIs e (laid c ask) (reach_ahead c ask) (places_of c ask) ask d

-- one turn of the builder: what it returned, and what holds then
pub record TurnIs (b : Builder) (s : Lists Node) (ask : Ask) (o : Option Event) (d : Builder) (t : Lists Node) : Type 0 where
  pub sound : IsSound d t
  pub frame : LeavesOthers (ids_of b) s (ids_of d) t
  pub room : o ≡ None → d.opened ≡ false → (b.opened ≡ false) × (s.spare ≤ t.spare)
  pub shorter : o ≡ None → length (contents_of d t).waiting < length (contents_of b s).waiting
  pub stays : KeepsBoxes (contents_of b s) (contents_of d t) ask
  pub turned : TurnBy o (contents_of b s) (contents_of d t) ask
  pub past : TurnPast o (contents_of b s) (contents_of d t) ask

-- nothing changed, and the first waiting node is an act
pub record AtAct (b : Builder) (s : Lists Node) (d : Builder) (t : Lists Node) : Type 0 where
  pub builder : d ≡ b
  pub store : t ≡ s
  pub some : IsSome (slice_get (list_at t d.waiting) 0)
  pub act : (n : Node) → slice_get (list_at t d.waiting) 0 ≡ Some n → IsSome (act_of_kind n.kind)

-- a turn by what it returned: it goes on without an event, a place was tried, an act waits first, or nothing waits any more
abbrev pub TurnTo : Turn → Builder → Lists Node → Ask → Builder → Lists Node → Type 0
TurnTo turns.Goes b s ask d t = TurnIs b s ask None d t
TurnTo turns.Tried b s ask d t = TurnIs b s ask (Some (events.Try d.tried)) d t
TurnTo turns.Acts b s ask d t = AtAct b s d t
TurnTo turns.Ends b s ask d t = TurnIs b s ask (Some events.Empty) d t

-- the turn of a node that is no event of its own, by whether a place was tried
abbrev pub turn_by : Bool → Turn
turn_by true = turns.Tried
turn_by false = turns.Goes

-- the page was filled up to an event
pub record Filled (b : Builder) (s : Lists Node) (ask : Ask) (e : Event) (d : Builder) (t : Lists Node) : Type 0 where
  pub sound : IsSound d t
  pub frame : LeavesOthers (ids_of b) s (ids_of d) t
  pub stays : KeepsBoxes (contents_of b s) (contents_of d t) ask
  pub first : FirstIs e (laid (contents_of b s) ask) (reach_ahead (contents_of b s) ask) (places_of (contents_of b s) ask) ask (contents_of d t)
  pub past : EventPast e (contents_of b s) (contents_of d t) ask
