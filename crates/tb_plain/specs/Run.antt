-- Whole runs of plain TeX's page makeup.
use Rattle.std.specs.Prelude.{ℕ, zero, suc, pred, pos, negsuc, nat_abs, ◌+◌, ◌*◌, ◌-◌, Bool, true, false, ℤ, List, [], ◌∷◌, ◌++◌, map, Some, None, int_lt, if◌then◌else◌}
use Rattle.tb_scaled.specs.Scaled.{min_ℤ}
use Rattle.tb_node.specs.declared.Act.{Act}
use Rattle.tb_node.specs.PlainNodes.{skip, pen, PlainKind, plain, ins, act, PlainNode, made, blank_box}
use Rattle.tb_param.specs.declared.Params.{Params}
use Rattle.tb_galley.specs.declared.Galley.{Galley}
use Rattle.tb_break.specs.Best.{least_cost}
use Rattle.tb_insert.specs.declared.Class.{Class}
use Rattle.tb_builder.specs.declared.Ask.{Ask}
use Rattle.tb_builder.specs.declared.Try.{Try}
use Rattle.tb_builder.specs.Reach.{Reached, acted, tried, Reach, laid_out, try_of}
use Rattle.tb_builder.specs.FiredPages.{Boxed, Fired, reach_of, fired_of}
use Rattle.tb_builder.specs.Contents.{Contents, places_of, reach_ahead, node_count}
use Rattle.tb_builder.specs.Courses.{freezes}
use Rattle.tb_builder.specs.PageSums.{page_sums_of}
use Rattle.tb_sheet.specs.Sheet.{PlainSent, shipped, one}
use Rattle.tb_plain.specs.GalleyNodes.{clearing_glue, made_up}
use Rattle.tb_plain.specs.TakenFloats.{top_class, act_nodes}
use Rattle.tb_plain.specs.Firing.{holds_any, makeup_column, put_back_after}

-- how a run ends: with nothing left, after `maxpages` pages, or with more nodes than `maxnodes`
pub data MakeupEnd : Type 0 where
  done : MakeupEnd
  page_limit : ℕ → MakeupEnd
  node_limit : ℕ → MakeupEnd

-- a place that is tried, or a page that is sent
pub data MakeupEvent : Type 0 where
  offers : Try → MakeupEvent
  sends : PlainSent → MakeupEvent

-- what a run shows, and how it ended
pub record MakeupRun : Type 0 where
  pub events : List MakeupEvent
  pub end : MakeupEnd

-- what is sent among events
abbrev pub sent_among : List MakeupEvent → List PlainSent
sent_among [] = []
sent_among (offers t ∷ es) = sent_among es
sent_among (sends e ∷ es) = e ∷ sent_among es

-- what a run sent
abbrev pub sent_of : MakeupRun → List PlainSent
sent_of r = sent_among r.events

-- the page so far, the nodes that wait, and the number of the next page; the class boxes are void until a page fires
pub record MakeupState : Type 0 where
  pub page : List PlainNode
  pub waiting : List PlainNode
  pub number : ℕ

-- ---- the builder's view

-- the class of top floats and that of the footnotes
abbrev pub makeup_classes : Params → List Class
makeup_classes p = top_class ∷ record { number = 254; factor = pos 1000; limit = p.footlimit; below = None; skip = p.skipfootins } ∷ []

-- both boxes void
abbrev pub void_boxes : List Boxed
void_boxes = record { number = 253; content = None } ∷ record { number = 254; content = None } ∷ []

-- all pages have the same goal, depth limit and top skip
abbrev pub makeup_ask : Params → Ask
makeup_ask p = record { goal = p.textheight; max_depth = p.maxdepth; top_skip = p.topskip; foot_limit = p.footlimit; foot_skip = p.skipfootins }

-- what the builder holds; a box, rule or insertion on the page has frozen its goal
abbrev pub builder_holds : Params → MakeupState → Contents
builder_holds p s = record {
  classes = makeup_classes p;
  boxes = void_boxes;
  page = s.page;
  waiting = s.waiting;
  held = [];
  frozen = if freezes s.page then Some (makeup_ask p) else None;
  stopped = false;
}

-- what is reached of the page so far and what waits
abbrev pub makeup_reach : Params → MakeupState → Reach
makeup_reach p s = reach_of (makeup_ask p) (makeup_classes p) void_boxes s.page s.waiting

-- ---- the next act

-- the nodes before the first act, the act, and the nodes after it
pub data AtAct : Type 0 where
  no_act : AtAct
  at_act : List PlainNode → Act → List PlainNode → AtAct

-- the first act, with one more node before it
abbrev pub after_node : PlainNode → AtAct → AtAct
after_node n no_act = no_act
after_node n (at_act before a after) = at_act (n ∷ before) a after

-- the first act of a list, by the kind of its first node
abbrev pub first_act_by : PlainNode → List PlainNode → AtAct → PlainKind → AtAct
first_act_by n ns later (plain m) = after_node n later
first_act_by n ns later (ins i) = after_node n later
first_act_by n ns later (act a) = at_act [] a ns

-- the first act of a list
abbrev pub first_act : List PlainNode → AtAct
first_act [] = no_act
first_act (n ∷ ns) = first_act_by n ns (first_act ns) n.kind

-- an act is reached
abbrev pub meets_act : List Reached → Bool
meets_act [] = false
meets_act (acted a ∷ rs) = true
meets_act (tried line b ∷ rs) = meets_act rs

-- ---- a step: an act, a firing, or what ends the last page

-- a step that ends the run, or after which it goes on; each with what it ships
pub data MakeupStep : Type 0 where
  ends : List PlainSent → MakeupEnd → MakeupStep
  goes_on : List PlainSent → MakeupState → MakeupStep

-- what came before the act went to the page, and what the act puts first waits before what comes after it; an act that is
-- reached waits, so there is one
abbrev pub act_step : Params → MakeupState → AtAct → MakeupStep
act_step p s no_act = ends [] (page_limit (pred s.number))
act_step p s (at_act before a after) =
    let come = record s { page = laid_out p.topskip s.page before; waiting = after } in
    goes_on [] (record come { waiting = act_nodes p (page_sums_of (builder_holds p come)) a ++ after })

-- what waits after a firing
abbrev pub waiting_after : Params → Fired → List PlainNode
waiting_after p f = f.held ++ (put_back_after p f ++ f.rest)

-- the page is shipped, and the run ends there if more nodes wait than `maxnodes`
abbrev pub shipping_step : Params → ℕ → Fired → MakeupStep
shipping_step p number f =
    let sent = shipped number (one (makeup_column p f)) ∷ [] in
    let next : MakeupState = record { page = []; waiting = waiting_after p f; number = number + 1 } in
    let count = node_count (waiting_after p f) in
    if int_lt p.maxnodes (pos count) then ends sent (node_limit count) else goes_on sent next

-- a page fires: if `maxpages` pages were shipped, the run ends
abbrev pub firing_step : Params → ℕ → Fired → MakeupStep
firing_step p number f =
    let ships = shipping_step p number f in
    if int_lt p.maxpages (pos number) then ends [] (page_limit (pred number)) else ships

-- what ends a page that has a node when nothing waits any more
abbrev pub ejecting_nodes : List PlainNode
ejecting_nodes = made blank_box ∷ made (skip clearing_glue) ∷ made (pen (negsuc 1073741823)) ∷ []

-- nothing waits: a page that has a node is ended, and without one the run is done
abbrev pub last_step : MakeupState → List PlainNode → MakeupStep
last_step s page = if holds_any page then goes_on [] (record s { page = page; waiting = ejecting_nodes }) else ends [] done

-- a step by what is reached: an act first, else a firing, else the end of the page
abbrev pub step_of : Params → MakeupState → Reach → MakeupStep
step_of p s w =
    let acts = act_step p s (first_act s.waiting) in
    let fires = firing_step p s.number (fired_of (makeup_ask p) (makeup_classes p) void_boxes w) in
    let last = last_step s w.passed in
    if meets_act w.reached then acts else (if w.fires then fires else last)

-- one step of a run
unfoldable pub makeup_step : Params → MakeupState → MakeupStep
makeup_step p s = step_of p s (makeup_reach p s)

-- ---- the places that a step tries

-- the places before the first act, each a champion if its cost is at most the least so far
abbrev pub tries_first : ℤ → List Reached → List Try
tries_first least [] = []
tries_first least (acted a ∷ rs) = []
tries_first least (tried line b ∷ rs) = try_of line b least ∷ tries_first (min_ℤ least b.cost) rs

-- the places that a step tries: those past the page so far, whose own places were tried before
unfoldable pub step_tries : Params → MakeupState → List Try
step_tries p s =
    let c = builder_holds p s in
    tries_first (least_cost (places_of c (makeup_ask p))) (reach_ahead c (makeup_ask p)).reached

-- ---- the run

-- places that are tried, as events
abbrev pub try_events : List Try → List MakeupEvent
try_events ts = map (λ t. offers t) ts

-- the events of a step: the places that it tries, and then what it ships
abbrev pub step_events : List Try → List PlainSent → List MakeupEvent
step_events ts es = try_events ts ++ map (λ e. sends e) es

-- a run after these events
abbrev pub run_after : List MakeupEvent → MakeupRun → MakeupRun
run_after es r = record r { events = es ++ r.events }

-- a run by its first step and the places that this tries
abbrev pub run_by : (MakeupState → MakeupRun) → List Try → MakeupStep → MakeupRun
run_by later ts (ends es e) = record { events = step_events ts es; end = e }
run_by later ts (goes_on es s) = run_after (step_events ts es) (later s)

-- the run from a state; each step lowers the fuel, and a run that has enough never uses it up
unfoldable pub makeup_from : Params → ℕ → MakeupState → MakeupRun
makeup_from p zero s = record { events = []; end = page_limit (pred s.number) }
makeup_from p (suc fuel) s = run_by (λ s'. makeup_from p fuel s') (step_tries p s) (makeup_step p s)

-- how many acts a node is
abbrev pub one_act : PlainKind → ℕ
one_act (plain m) = 0
one_act (ins i) = 0
one_act (act a) = 1

-- how many acts a list has
abbrev pub act_count : List PlainNode → ℕ
act_count [] = 0
act_count (n ∷ ns) = one_act n.kind + act_count ns

-- the steps that can follow, at most: each act comes once, and a page that ships has at most one step more, which ends it
abbrev pub steps_left : Params → MakeupState → ℕ
steps_left p s = act_count s.page + act_count s.waiting + 2 * (nat_abs p.maxpages - pred s.number) + 1

-- the run from a state, which ends at once if more nodes wait than `maxnodes`
abbrev pub makeup_of_state : Params → MakeupState → MakeupRun
makeup_of_state p s =
    let run = makeup_from p (suc (steps_left p s)) s in
    if int_lt p.maxnodes (pos (node_count s.waiting)) then record { events = []; end = node_limit (node_count s.waiting) } else run

-- the state in which these nodes wait for the first page
abbrev pub first_makeup : List PlainNode → MakeupState
first_makeup waiting = record { page = []; waiting = waiting; number = 1 }

-- the run of a galley
unfoldable pub makeup_of : Galley → MakeupRun
makeup_of g = makeup_of_state g.params (first_makeup (made_up g))
