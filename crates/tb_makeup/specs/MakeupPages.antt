-- A page that is filled and ships, as part of a turn. No public clause cites this module.
use Rattle.std.specs.Prelude.{◌≡◌, ℕ, ◌+◌, ◌*◌, ◌<◌, ◌≤◌, ◌⊎◌, pos, ◌<ℤ◌, ◌≤ℤ◌, Bool, true, false, List, [], ◌∷◌, ◌++◌, map, Option, Some, None, if◌then◌else◌}
use Rattle.tb_builder.specs.declared.Event.{Event}
use Rattle.tb_builder.specs.declared.Page.{Page}
use Rattle.tb_builder.specs.declared.Try.{Try}
use Rattle.tb_node.specs.PlainNodes.{PlainNode}
use Rattle.tb_builder.specs.Contents.{node_count}
use Rattle.tb_builder.specs.PageCalls.{PassedOver, ComesBy}
use Rattle.tb_builder.specs.Contributions.{with_void}
use Rattle.tb_builder.specs.FiredPages.{Fired}
use Rattle.tb_insert.specs.declared.Class.{Class}
use Rattle.tb_builder.specs.Courses.{IsSound}
use Rattle.tb_sheet.specs.Sheet.{shipped, one}
use Rattle.tb_items.specs.declared.happenings.Happening.{Happening}
use Rattle.tb_items.specs.declared.happenings.Happening.TheVariants as happenings
use Rattle.tb_items.specs.RunEvents.{sent}
use Rattle.tb_items.specs.WaitingNodes.{AreItems}
use Rattle.tb_items.specs.ItemsLeft.{with_more}
use Rattle.tb_items.specs.Happenings.{events_of}
use Rattle.tb_plain.specs.MakeupCalls.{CanFire, fired_with}
use Rattle.tb_plain.specs.Firing.{holds_any, makeup_column}
use Rattle.tb_plain.specs.Run.{MakeupState, try_events, run_after, step_tries, makeup_step, firing_step, last_step, builder_holds, makeup_classes, void_boxes, act_count, ejecting_nodes, waiting_after}
use Rattle.tb_makeup.specs.declared.makeup.Makeup.{Makeup}
use Rattle.tb_makeup.specs.declared.makeup.MakeupEnding.{MakeupEnding}
use Rattle.tb_makeup.specs.declared.makeup.MakeupEnding.TheVariants as endings
use Rattle.tb_makeup.specs.declared.makeup_left.MakeupLeft.{MakeupLeft}
use Rattle.tb_makeup.specs.MakeupLeft.{nodes_of, nodes_left, pieces_left, AreItemsLeft, IsOpen}
use Rattle.tb_makeup.specs.Makeup.{built_in, held_in, state_of, node_total, over_limit, AreRunNodes, AreAfter, IsBounded, run_at, AreHappened}

-- the page that the builder fired, with all that waits after it
abbrev pub fired_whole : Makeup → Page → Fired
fired_whole r page = record (fired_with r.builder r.store page) { rest = (held_in r).waiting }

-- the parameters, what pages are made for, the limit and the bound on nodes are as before
pub record Continues (r q : Makeup) : Type 0 where
  pub plain : q.plain ≡ r.plain
  pub ask : q.ask ≡ r.ask
  pub limit : q.limit ≡ r.limit
  pub bound : q.bound ≡ r.bound

-- ---- the places that are tried

-- places that were tried, as happenings, if the caller asks for them
abbrev pub noted_tries : Bool → List Try → List Happening
noted_tries wanted ts = if wanted then map (λ t. happenings.Tried t) ts else []

-- only places that were tried
abbrev pub AreTries : List Happening → Type 0
AreTries [] = Unit {0}
AreTries (happenings.Tried t ∷ hs) = AreTries hs
AreTries (happenings.Sent e ∷ hs) = ⊥

-- the builder came to this event; if the caller asks for tries, no place was passed over before it
pub record HasComeTo (wanted : Bool) (e : Event) (r q : Makeup) : Type 0 where
  pub passed : List PassedOver
  pub comes : ComesBy passed r.builder r.store r.ask e q.builder q.store
  pub none : wanted ≡ true → passed ≡ []
  pub same : Continues r q
  pub left : q.left ≡ r.left

-- ---- items are handed over

-- nodes of the items that were left wait behind those that waited; of the rest as much is left
pub record IsSupplied (l : MakeupLeft) (r q : Makeup) : Type 0 where
  pub nodes : List PlainNode
  pub contents : built_in q ≡ with_more nodes (built_in r)
  pub all : nodes ++ nodes_left q.left ≡ nodes_of l
  pub ends : IsOpen q.left nodes
  pub items : (cs : List Class) → AreItems cs l.items.now → AreItemsLeft cs q.left
  pub fewer : pieces_left q.left < pieces_left (Some l)
  pub sound : IsSound q.builder q.store
  pub same : Continues r q

-- ---- a page is filled

-- the floats of a page were taken up to this state, while these places were tried, and the run goes on from it
pub record Takes (r : Makeup) (ts : List Try) (s : MakeupState) : Type 0 where
  pub run : run_at r.plain.params (state_of r) ≡ run_after (try_events ts) (run_at r.plain.params s)
  pub nodes : AreRunNodes s
  pub total : node_total s ≤ node_total (state_of r)
  pub acts : act_count s.waiting ≤ act_count (state_of r).waiting
  pub number : s.number ≡ r.plain.page
  pub phase : ((state_of r).page ≡ []) ⊎ (s.waiting ≡ ejecting_nodes)

-- after the page at most six nodes more wait, those that acts can add included, and no more acts
pub record HasGrown (r : Makeup) (waiting : List PlainNode) : Type 0 where
  pub total : node_count waiting + 5 * act_count waiting ≤ node_total (state_of r) + 6
  pub acts : act_count waiting ≤ act_count (state_of r).waiting

-- once acts were done, the page fires, and the step of the run is that of this firing; the places that were tried are noted
pub record IsFiring (wanted : Bool) (r : Makeup) (page : Page) (q : Makeup) (hs : List Happening) : Type 0 where
  pub s : MakeupState
  pub ts : List Try
  pub takes : Takes r ts s
  pub noted : hs ≡ noted_tries wanted (ts ++ step_tries r.plain.params s)
  pub step : makeup_step r.plain.params s ≡ firing_step r.plain.params s.number (fired_whole q page)
  pub can : CanFire q.builder q.store page
  pub after : AreAfter r.plain.params (fired_whole q page)
  pub grown : HasGrown r (waiting_after r.plain.params (fired_whole q page))
  pub classes : (held_in q).classes ≡ (builder_holds r.plain.params s).classes
  pub stopped : (held_in q).stopped ≡ false
  pub void : with_void 254 (with_void 253 (held_in q).boxes) ≡ void_boxes
  pub same : Continues r q
  pub items : AreItemsLeft (makeup_classes r.plain.params) q.left
  pub ends : (before : List PlainNode) → IsOpen q.left (before ++ (built_in q).waiting)

-- once acts were done, nothing waits any more, and the step of the run is the last of the page; the places that were tried are noted
pub record IsOver (wanted : Bool) (r q : Makeup) (hs : List Happening) : Type 0 where
  pub s : MakeupState
  pub ts : List Try
  pub takes : Takes r ts s
  pub noted : hs ≡ noted_tries wanted (ts ++ step_tries r.plain.params s)
  pub begun : (state_of r).page ≡ []
  pub step : makeup_step r.plain.params s ≡ last_step s (held_in q).page
  pub holds : held_in q ≡ builder_holds r.plain.params (record s { page = (held_in q).page; waiting = [] })
  pub sound : IsSound q.builder q.store
  pub nodes : AreRunNodes (record s { page = (held_in q).page; waiting = ejecting_nodes })
  pub grown : node_total (record s { page = (held_in q).page; waiting = ejecting_nodes }) ≤ node_total (state_of r) + 4
  pub same : Continues r q
  pub left : q.left ≡ None

-- the page that was filled fires; or, if there is none, nothing waits any more
abbrev pub Fills : Bool → Makeup → Option Page → Makeup → List Happening → Type 0
Fills wanted r (Some page) q hs = IsFiring wanted r page q hs
Fills wanted r None q hs = IsOver wanted r q hs

-- ---- the page ships

-- what waits after the page has at most the nodes and acts of the bound, and ten nodes more
abbrev pub IsBoundedPage : Page → Makeup → Type 0
IsBoundedPage page r = IsBounded 10 (record { page = []; waiting = waiting_after r.plain.params (fired_whole r page); number = r.plain.page + 1 }) r.bound

-- the page shipped under the next number, after what happened before, and what is put back waits
pub record HasShipped (page : Page) (r q : Makeup) (before hs : List Happening) : Type 0 where
  pub within : pos r.plain.page ≤ℤ r.plain.params.maxpages
  pub number : q.plain ≡ record r.plain { page = r.plain.page + 1 }
  pub sound : IsSound q.builder q.store
  pub contents : held_in q ≡ record (held_in r) { boxes = with_void 254 (with_void 253 (held_in r).boxes); waiting = waiting_after r.plain.params (fired_whole r page); held = [] }
  pub events : events_of q.store hs ≡ events_of q.store before ++ sent (shipped r.plain.page (one (makeup_column r.plain.params (fired_whole r page)))) ∷ []
  pub happened : AreHappened q hs
  pub ask : q.ask ≡ r.ask
  pub limit : q.limit ≡ r.limit
  pub left : q.left ≡ r.left
  pub front : List PlainNode
  pub waits : (built_in q).waiting ≡ front ++ (built_in r).waiting

-- n pages were shipped, and `maxpages` allows no more; nothing more was sent
pub record IsAtLimit (n : ℕ) (r q : Makeup) (before hs : List Happening) : Type 0 where
  pub over : r.plain.params.maxpages <ℤ pos r.plain.page
  pub pages : n + 1 ≡ r.plain.page
  pub none : hs ≡ before
  pub sound : IsSound q.builder q.store
  pub plain : q.plain ≡ r.plain

-- the page that fires ships and the run goes on, or it ends: at the page limit, or, once the page has shipped, at the node limit
abbrev pub Ships : Page → Makeup → Option MakeupEnding → Makeup → List Happening → List Happening → Type 0
Ships page r None q before hs = HasShipped page r q before hs × (over_limit r.limit (node_count (waiting_after r.plain.params (fired_whole r page))) ≡ None) × IsBounded 0 (state_of q) q.bound
Ships page r (Some endings.Done) q before hs = ⊥
Ships page r (Some (endings.PageLimit n)) q before hs = IsAtLimit n r q before hs
Ships page r (Some (endings.NodeLimit n)) q before hs = HasShipped page r q before hs × (over_limit r.limit (node_count (waiting_after r.plain.params (fired_whole r page))) ≡ Some (endings.NodeLimit n))

-- ---- nothing waits

-- a node waits behind all others
pub record Contributes (n : PlainNode) (r q : Makeup) : Type 0 where
  pub sound : IsSound q.builder q.store
  pub contents : built_in q ≡ record (built_in r) { waiting = (built_in r).waiting ++ n ∷ [] }
  pub same : Continues r q
  pub left : q.left ≡ r.left

-- what ends the page waits
pub record Ejects (r q : Makeup) : Type 0 where
  pub sound : IsSound q.builder q.store
  pub contents : built_in q ≡ record (built_in r) { waiting = ejecting_nodes }
  pub same : Continues r q
  pub left : q.left ≡ r.left

-- nothing is left: the run is done, and nothing is on the page; or something is on the page, and what ends it waits
abbrev pub Finishes : Makeup → Option MakeupEnding → Makeup → Type 0
Finishes r None q = (holds_any (held_in r).page ≡ true) × Ejects r q
Finishes r (Some endings.Done) q = (holds_any (held_in r).page ≡ false) × (q ≡ r)
Finishes r (Some (endings.PageLimit n)) q = ⊥
Finishes r (Some (endings.NodeLimit n)) q = ⊥
