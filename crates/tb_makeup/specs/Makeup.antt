-- The page makeup between two firings, and what one of its turns shows.
use Rattle.std.specs.Prelude.{◌≡◌, ℕ, suc, pred, nat_abs, ◌+◌, ◌*◌, ◌-◌, ◌<◌, ◌≤◌, ℤ, pos, ◌≤ℤ◌, int_lt, Bool, false, List, [], length, map, Option, Some, None, All, if◌then◌else◌}
use Rattle.tb_param.specs.declared.Params.{Params}
use Rattle.tb_builder.specs.FiredPages.{Fired}
use Rattle.tb_builder.specs.Contents.{Contents, contents_of, node_count}
use Rattle.tb_builder.specs.Courses.{IsSound}
use Rattle.tb_builder.specs.Pageable.{IsSizedOnPage}
use Rattle.tb_builder.specs.LegalPlaces.{NoActs}
use Rattle.tb_column.specs.Notes.{AreDistinct}
use Rattle.tb_builder.specs.BuilderLists.{builder_lists}
use Rattle.tb_sheet.specs.ApartLists.{AreNoneOf}
use Rattle.tb_items.specs.declared.happenings.Happening.{Happening}
use Rattle.tb_items.specs.RunEvents.{RunEvent, offered, sent}
use Rattle.tb_items.specs.ItemsLeft.{kern_last, with_more}
use Rattle.tb_items.specs.Happenings.{events_of, noted, happened_lists, ArePages}
use Rattle.tb_plain.specs.Firing.{holds_any}
use Rattle.tb_plain.specs.Run.{MakeupEvent, offers, sends, sent_among, MakeupState, MakeupRun, MakeupEnd, done, page_limit, node_limit, builder_holds, makeup_ask, makeup_classes, makeup_from, steps_left, act_count, run_after, ejecting_nodes, waiting_after}
use Rattle.tb_plain.specs.MakeupCalls.{AreMakeupParams, IsPlain}
use Rattle.tb_makeup.specs.declared.makeup.Makeup.{Makeup}
use Rattle.tb_makeup.specs.declared.makeup.NodeBound.{NodeBound}
use Rattle.tb_makeup.specs.declared.makeup.MakeupEnding.{MakeupEnding}
use Rattle.tb_makeup.specs.declared.makeup.MakeupEnding.TheVariants as endings
use Rattle.tb_makeup.specs.declared.makeup_left.MakeupLeft.{MakeupLeft}
use Rattle.tb_makeup.specs.LedActs.{ActsAreLed}
use Rattle.tb_makeup.specs.MakeupLeft.{nodes_left, AreItemsLeft}

-- what the builder holds
abbrev pub built_in : Makeup → Contents
built_in r = contents_of r.builder r.store

-- the same, with the nodes of the items that are left behind those that wait
abbrev pub held_in : Makeup → Contents
held_in r = with_more (nodes_left r.left) (built_in r)

-- the state that the makeup shows
abbrev pub state_of : Makeup → MakeupState
state_of r = record { page = (held_in r).page; waiting = (held_in r).waiting; number = r.plain.page }

-- ---- between two firings

-- the parameters that a run looks at lie in their ranges
pub record AreRunParams (p : Params) : Type 0 where
  pub makeup : AreMakeupParams p
  pub maxnodes : p.maxnodes ≤ℤ pos 4194304
  pub maxpages : p.maxpages ≤ℤ pos 4194304

-- the nodes of a state, and those that its acts can add
abbrev pub node_total : MakeupState → ℕ
node_total s = node_count s.page + node_count s.waiting + 5 * act_count s.waiting

-- the nodes are sized, each act that waits takes a float behind a whatsit, and they are not too many
pub record AreRunNodes (s : MakeupState) : Type 0 where
  pub page : All IsSizedOnPage s.page
  pub waiting : All IsSizedOnPage s.waiting
  pub quiet : NoActs s.page
  pub led : ActsAreLed false s.waiting
  pub acts : act_count s.waiting ≤ 600005
  pub few : node_total s ≤ 7500000

-- what waits after a page that fires: its nodes are sized and not too many
pub record AreAfter (p : Params) (f : Fired) : Type 0 where
  pub sized : All IsSizedOnPage (waiting_after p f)
  pub led : ActsAreLed false (waiting_after p f)
  pub acts : act_count (waiting_after p f) ≤ 600005
  pub few : node_count (waiting_after p f) ≤ 8388608

-- a page begins, or what ends it waits
pub data Phase (s : MakeupState) : Type 0 where
  begins : s.page ≡ [] → node_total s + 10 ≤ 7500000 → Phase s
  ejects : s.waiting ≡ ejecting_nodes → Phase s

-- a state has at most the nodes and acts of the bound, and `more` nodes besides; the bound is in range
pub record IsBounded (more : ℕ) (s : MakeupState) (b : NodeBound) : Type 0 where
  pub total : node_total s ≤ b.most + more
  pub acts : act_count s.waiting ≤ b.acts
  pub few_nodes : b.most ≤ 7500000
  pub few_acts : b.acts ≤ 600005

-- the nodes that the bound of a state leaves out: if something is on the page, those that end it and the glue above its first box
abbrev pub unsaid_nodes : MakeupState → ℕ
unsaid_nodes s = if holds_any s.page then 4 else 0

-- if anything is left, the page is empty, and the nodes that wait do not end with a kern
abbrev pub IsOpenAtStart : Option MakeupLeft → Contents → Type 0
IsOpenAtStart None c = Unit {0}
IsOpenAtStart (Some l) c = (c.page ≡ []) × (kern_last false c.waiting ≡ false)

-- a page can be filled and shipped
pub record IsReady (r : Makeup) : Type 0 where
  pub sound : IsSound r.builder r.store
  pub plain : IsPlain r.plain
  pub params : AreRunParams r.plain.params
  pub ask : r.ask ≡ makeup_ask r.plain.params
  pub limit : r.limit ≡ r.plain.params.maxnodes
  pub holds : held_in r ≡ builder_holds r.plain.params (state_of r)
  pub nodes : AreRunNodes (state_of r)
  pub phase : Phase (state_of r)
  pub bounded : IsBounded (unsaid_nodes (state_of r)) (state_of r) r.bound
  pub items : AreItemsLeft (makeup_classes r.plain.params) r.left
  pub ends : IsOpenAtStart r.left (built_in r)

-- ---- what a turn shows

-- the run from a state, with steps enough
abbrev pub run_at : Params → MakeupState → MakeupRun
run_at p s = makeup_from p (suc (steps_left p s)) s

-- the ending if the number of nodes that wait is more than the limit
abbrev pub over_limit : ℤ → ℕ → Option MakeupEnding
over_limit limit n = if int_lt limit (pos n) then Some (endings.NodeLimit n) else None

-- the end of a run at an ending
abbrev pub end_of : MakeupEnding → MakeupEnd
end_of endings.Done = done
end_of (endings.PageLimit n) = page_limit n
end_of (endings.NodeLimit n) = node_limit n

-- turns that are left, at most
abbrev pub turns_left : Params → MakeupState → ℕ
turns_left p s = 2 * (nat_abs p.maxpages - pred s.number) + (if holds_any s.page then 0 else 1)

-- the run goes on from the state that the makeup shows, with fewer turns left, or it has ended after these events
abbrev pub GoesTo : Makeup → Option MakeupEnding → Params → List MakeupEvent → MakeupState → Type 0
GoesTo q None p es s = (run_at p s ≡ run_after es (run_at p (state_of q))) × (turns_left p (state_of q) < turns_left p s)
GoesTo q (Some e) p es s = run_at p s ≡ record { events = es; end = end_of e }

-- an event of a makeup's run, as one of a run
abbrev pub run_event : MakeupEvent → RunEvent
run_event (offers t) = offered t
run_event (sends e) = sent e

-- events of a makeup's run, as those of a run
abbrev pub run_events : List MakeupEvent → List RunEvent
run_events es = map run_event es

-- from the first to the second, with these happenings and this ending: what happened is what is noted of the events, the tries if the caller asks for
-- them, and at most one page is sent
pub record IsTurned (wanted : Bool) (r : Makeup) (hs : List Happening) (o : Option MakeupEnding) (q : Makeup) : Type 0 where
  pub es : List MakeupEvent
  pub events : events_of q.store hs ≡ noted wanted (run_events es)
  pub goes : GoesTo q o r.plain.params es (state_of r)
  pub few : length (sent_among es) ≤ 1

-- the lists of what was sent: those of pages, no two of them the same, and none the builder's
pub record AreHappened (r : Makeup) (hs : List Happening) : Type 0 where
  pub pages : ArePages r.store hs
  pub distinct : AreDistinct (happened_lists hs)
  pub builder : AreNoneOf (happened_lists hs) (builder_lists r.builder r.store)
